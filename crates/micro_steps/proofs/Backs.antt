-- The second link of a block, and its mark.
use Rattle.std.proofs.Common.{◌≡◌, ℕ, ◌+◌, List, [], take, drop, refl, Bool, true}
use Rattle.std.specs.Prelude.{slice_set}
use Rattle.kern_base.specs.declared.numbers.Prio.{Prio}
use Rattle.kern_base.specs.declared.numbers.TaskId.{TaskId}
use Rattle.kern_base.specs.declared.numbers.ObjId.{ObjId}
use Rattle.kern_model.specs.Micro.{Halves, LeaveBack, Ready, Pend, changed, changed_all}
use Rattle.links.specs.Chain.{list_at, inserted}
use Rattle.micro_steps.specs.declared.link.Link.TheVariants as link
use Rattle.micro_steps.specs.declared.link.Stage.{Stage}
use Rattle.micro_steps.specs.declared.link.Stage.TheVariants as stage
use Rattle.micro_steps.specs.Blocks.{IsAtStage, IsEven, block_of, place_at}

-- a block of two links that is not at its first is at its second
pub unready_back : (prios : List Prio) (x : TaskId) (p : Prio) (s : Stage) (i place : ℕ) (h : Halves) → (s ≡ stage.Forward → ⊥) → IsAtStage prios (link.Unready x p) s i place h → s ≡ stage.Back
unready_back prios x p stage.Forward i place h not_it at = absurd (not_it refl)
unready_back prios x p stage.Back i place h not_it at = refl
unready_back prios x p stage.Mark i place h not_it at = absurd at

pub leave_back : (prios : List Prio) (n : ℕ) (o : ObjId) (s : Stage) (i place : ℕ) (h : Halves) → (s ≡ stage.Forward → ⊥) → IsAtStage prios (link.Leave n o) s i place h → s ≡ stage.Back
leave_back prios n o stage.Forward i place h not_it at = absurd (not_it refl)
leave_back prios n o stage.Back i place h not_it at = refl
leave_back prios n o stage.Mark i place h not_it at = absurd at

-- a task left its ready list
pub unready_made : (prios : List Prio) (x : TaskId) (p : Prio) (i place : ℕ) (h j : Halves) → IsAtStage prios (link.Unready x p) stage.Back i place h → j ≡ changed (LeaveBack (Ready p.0) x.0) h → (j ≡ changed_all (take 1 (drop (i + 1) (block_of prios (link.Unready x p) h.back))) h) × IsEven j × (drop 1 (drop (i + 1) (block_of prios (link.Unready x p) h.back)) ≡ [])
unready_made prios x p i place h j at e = rw (at.1, e) (refl, record { ready = at.2; pend = at.0.pend }, refl)

-- a node left its list of waiters
pub leave_made : (prios : List Prio) (n : ℕ) (o : ObjId) (i place : ℕ) (h j : Halves) → IsAtStage prios (link.Leave n o) stage.Back i place h → j ≡ changed (LeaveBack (Pend o.0) n) h → (j ≡ changed_all (take 1 (drop (i + 1) (block_of prios (link.Leave n o) h.back))) h) × IsEven j × (drop 1 (drop (i + 1) (block_of prios (link.Leave n o) h.back)) ≡ [])
leave_made prios n o i place h j at e = rw (at.1, e) (refl, record { ready = at.0.ready; pend = at.2 }, refl)

-- a task joined a ready list in both directions
abbrev joined_back : TaskId → Prio → Bool → Halves → Halves
joined_back x p tail h = record { forward = h.forward; back = record { ready = inserted h.back.ready p.0 (place_at tail (list_at h.back.ready p.0)) x.0; pend = h.back.pend }; marked = h.marked }

pub ready_made : (prios : List Prio) (x : TaskId) (p : Prio) (tail : Bool) (i place : ℕ) (h j : Halves) → IsAtStage prios (link.Ready x p tail) stage.Back i place h → j ≡ joined_back x p tail h → (j ≡ changed_all (take 1 (drop (i + 1) (block_of prios (link.Ready x p tail) h.back))) h) × IsAtStage prios (link.Ready x p tail) stage.Mark i place j × (drop 1 (drop (i + 1) (block_of prios (link.Ready x p tail) h.back)) ≡ drop (i + 2) (block_of prios (link.Ready x p tail) j.back))
ready_made prios x p tail i place h j at e = rw (at.1, e) (refl, (record { task = at.0.task; prio = at.0.prio; pend = at.0.pend }, refl, at.3), refl)

-- and its priority is in the set
abbrev marked_at : Prio → Halves → Halves
marked_at p h = record { forward = h.forward; back = h.back; marked = slice_set h.marked p.0 true }

pub mark_made : (prios : List Prio) (x : TaskId) (p : Prio) (tail : Bool) (i place : ℕ) (h j : Halves) → IsAtStage prios (link.Ready x p tail) stage.Mark i place h → j ≡ marked_at p h → (j ≡ changed_all (take 1 (drop (i + 2) (block_of prios (link.Ready x p tail) h.back))) h) × IsEven j × (drop 1 (drop (i + 2) (block_of prios (link.Ready x p tail) h.back)) ≡ [])
mark_made prios x p tail i place h j at e = rw (at.1, e) (refl, record { ready = at.2; pend = at.0.pend }, refl)
