-- Which lists a look may be at, and what their chains of nodes are read as.
use Rattle.std.specs.Prelude.{ℕ, ◌≡◌, ◌<◌, ◌≤◌, List}
use Rattle.kern_model.specs.State.{count_of, list_at}
use Rattle.kern_model.specs.Micro.{Lists, Halves}
use Rattle.inject_list.specs.declared.lists.Look.{Look}
use Rattle.inject_list.specs.declared.lists.Seen.{Seen}
use Rattle.inject_list.specs.declared.lists.Seen.TheVariants.{Obj, Ready}
use Rattle.pend_lists.specs.Pending.{waiters}

-- a list of the 64 of objects or of the 64 of priorities
abbrev pub IsList : Seen → Type 0
IsList (Obj o) = o.0 < 64
IsList (Ready p) = p.0 < 64

-- a list that there is, where there are so many objects
abbrev pub IsShown : ℕ → Seen → Type 0
IsShown objects (Obj o) = (o.0 < objects) × (o.0 < 64)
IsShown objects (Ready p) = p.0 < 64

-- the tasks that stand in a list, by chains of nodes
abbrev pub read_of : Seen → Lists → List ℕ
read_of (Obj o) l = waiters (list_at l.pend o.0)
read_of (Ready p) l = list_at l.ready p.0

-- the handler of deferred posts stands in none of these lists
pub record AreWithoutHandler (l : Lists) : Type 0 where
  pub ready : (p : ℕ) → count_of 63 (list_at l.ready p) ≡ 0
  pub pend : (o : ℕ) → count_of 63 (list_at l.pend o) ≡ 0

-- in neither direction
pub record HasNoHandler (h : Halves) : Type 0 where
  pub forward : AreWithoutHandler h.forward
  pub back : AreWithoutHandler h.back

-- no raw step before its moment is left to a look
abbrev pub IsToCome : ℕ → Look → Type 0
IsToCome s l = s ≤ l.at
