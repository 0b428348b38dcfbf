-- The recorded interrupts of a case and the looks at its lists.
use Rattle.std.specs.Prelude.{ℕ, ◌≡◌, ◌≤◌, ◌+◌, ◌-◌, Bool, true, false, List, [], length, All, drop, replicate, Option, Some, None, slice_get, ◌==◌}
use Rattle.std.specs.List.{list_any}
use Rattle.kern_base.specs.declared.kinds.Kind.{Kind}
use Rattle.kern_base.specs.declared.kinds.Kind.TheVariants.{Sem, Queue, Flags, Mutex, OneShot, Periodic}
use Rattle.app_image.specs.Image.{ImageRecord}
use Rattle.app_image.specs.declared.records.ObjDef.{ObjDef}
use Rattle.app_image.specs.declared.records.VectorDef.{VectorDef}
use Rattle.inject_list.specs.declared.lists.Injection.{Injection}
use Rattle.inject_list.specs.declared.lists.Moment.{Moment}
use Rattle.inject_list.specs.declared.lists.Moment.TheVariants.{Task, Step}
use Rattle.inject_list.specs.declared.lists.Look.{Look}
use Rattle.inject_list.specs.declared.lists.Seen.{Seen}
use Rattle.inject_list.specs.declared.lists.Seen.TheVariants.{Obj, Ready}

-- the interrupts and the looks, each in their order
pub record ListRecord : Type 0 where
  pub injections : List Injection
  pub looks : List Look

-- no interrupt, and no look
abbrev pub no_injections : ListRecord
no_injections = record { injections = []; looks = [] }

-- how many interrupts and looks there may be together, and the last moment in task steps
abbrev pub most_entries : ℕ
most_entries = 16384

abbrev pub last_moment : ℕ
last_moment = 1000000

-- whether the vector of a number is declared
abbrev pub is_declared : List VectorDef → ℕ → Bool
is_declared vectors number = list_any (λ v. v.number == number) vectors

-- whether tasks wait for an object of this kind, so that it has a list to look at
abbrev pub has_waiters : Kind → Bool
has_waiters Sem = true
has_waiters Queue = true
has_waiters Flags = true
has_waiters Mutex = true
has_waiters OneShot = false
has_waiters Periodic = false

-- a moment in task steps is one that a run may have
abbrev pub IsMoment : Moment → Type 0
IsMoment (Task t) = t ≤ last_moment
IsMoment (Step s) = Unit {0}

-- an interrupt of a declared vector, whose words past its count are 0
pub record IsInjection (image : ImageRecord) (i : Injection) : Type 0 where
  pub moment : IsMoment i.moment
  pub vector : is_declared image.vectors i.vector ≡ true
  pub count : i.count ≤ 4
  pub zeros : drop i.count i.words ≡ replicate (4 - i.count) 0

-- the object is there, and has a list of waiters
abbrev pub IsSeenObject : Option ObjDef → Type 0
IsSeenObject None = ⊥
IsSeenObject (Some d) = has_waiters d.kind ≡ true

-- a list that there is
abbrev pub IsSeen : ImageRecord → Seen → Type 0
IsSeen image (Obj o) = IsSeenObject (slice_get image.objects o.0)
IsSeen image (Ready p) = p.0 ≤ 63

-- a list of injections that an image may be run with
pub record IsValidList (image : ImageRecord) (l : ListRecord) : Type 0 where
  pub few : length l.injections + length l.looks ≤ most_entries
  pub injections : All (IsInjection image) l.injections
  pub looks : All (λ k. IsSeen image k.what) l.looks
