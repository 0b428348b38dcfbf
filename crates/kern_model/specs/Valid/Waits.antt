-- What the tasks of a valid kernel wait for.
use Rattle.std.specs.Prelude.{◌≡◌, ◌<◌, ◌≤◌, ◌+◌, ◌*◌, ◌%◌, ℕ, Bool, true, false, List, [], ◌∷◌, length, Some}
use Rattle.kern_base.specs.declared.services.Service.{Service}
use Rattle.kern_base.specs.declared.services.Service.TheVariants.{SemPend, QPend, FlagPend, MutexPend}
use Rattle.kern_base.specs.declared.outcomes.Waiting.{Waiting}
use Rattle.kern_base.specs.declared.outcomes.Waiting.TheVariants.{No, Obj, Multi, Signal}
use Rattle.kern_model.specs.State.{Kernel, Task, Object, Content, Count, Messages, Bits, Held, task_in, task_at, object_in, count_of, waits_for_nothing, application_limit}

-- a table of a wait for several objects: so many entries of 16 bytes at a multiple of 4, wholly in RAM
pub record IsTable (address entries : ℕ) : Type 0 where
  pub some : 1 ≤ entries
  pub aligned : address % 4 ≡ 0
  pub from : 0x100000 ≤ address
  pub to : address + 16 * entries ≤ 0x140000

-- the table of the objects for which a task waits
abbrev pub HasTable : Task → Type 0
HasTable t = IsTable t.table (length t.objects)

-- whether a service waits for one object
abbrev pub waits_for_one : Service → Bool
waits_for_one SemPend = true
waits_for_one QPend = true
waits_for_one FlagPend = true
waits_for_one MutexPend = true
waits_for_one s = false

-- A task that so waits has one object, several with their table, or none. An application task waits for no signal.
abbrev pub WaitsFor : ℕ → Waiting → Task → Type 0
WaitsFor x No t = Unit {0}
WaitsFor x (Obj s) t = (waits_for_one s ≡ true) × (length t.objects ≡ 1)
WaitsFor x Multi t = HasTable t
WaitsFor x Signal t = (application_limit ≤ x) × (t.objects ≡ [])
WaitsFor x w t = t.objects ≡ []

-- what a task may wait for at an object that holds this: a mutex has an owner
abbrev pub can_wait : Waiting → Content → Bool
can_wait (Obj SemPend) (Count n) = true
can_wait (Obj QPend) (Messages limit messages) = true
can_wait (Obj FlagPend) (Bits bits) = true
can_wait (Obj MutexPend) (Held (Some owner) nesting) = true
can_wait Multi (Count n) = true
can_wait Multi (Messages limit messages) = true
can_wait w content = false

-- these objects are there, not deleted, and of a kind that a task may so wait for
abbrev pub Fits : List Object → Waiting → List ℕ → Type 0
Fits os w objects = (o : ℕ) → 0 < count_of o objects → ((object_in os o).deleted ≡ false) × (can_wait w (object_in os o).content ≡ true)

-- each task
pub record AreWaits (ts : List Task) (os : List Object) : Type 0 where
  pub forms : (x : ℕ) → WaitsFor x (task_in ts x).waiting (task_in ts x)
  pub fits : (x : ℕ) → waits_for_nothing (task_in ts x).waiting ≡ false → Fits os (task_in ts x).waiting (task_in ts x).objects

-- each of these is an application task that waits, and none stands twice
abbrev pub AllWait : Kernel → List ℕ → Type 0
AllWait k [] = Unit {0}
AllWait k (x ∷ xs) = (x < application_limit) × (waits_for_nothing (task_at k x).waiting ≡ false) × (count_of x xs ≡ 0) × AllWait k xs
