-- Which interrupt enters next.
use Rattle.std.specs.Prelude.{ℕ, zero, suc, ◌+◌, Bool, true, false, not, ◌&&◌, List, [], ◌∷◌, Option, Some, None, if◌then◌else◌, nat_lt, nat_le}
use Rattle.inject_list.specs.declared.lists.Moment.{Moment}
use Rattle.inject_list.specs.declared.lists.Moment.TheVariants.{Task, Step}
use Rattle.machine_model.specs.Frames.{Interrupt, FrameRecord, level_of, none_stands}

-- whether a moment is in raw steps
abbrev pub is_step : Moment → Bool
is_step (Task t) = false
is_step (Step s) = true

-- an interrupt by its place among those that have not entered
pub record Place : Type 0 where
  pub at : ℕ
  pub interrupt : Interrupt

-- `masked`: interrupts are held off; `quiet`: nothing is in hand and no post can be taken; s raw steps and t task steps
-- are done, and these frames stand.
module _ (masked quiet : Bool) (s t : ℕ) (frames : List FrameRecord) where
  -- A moment in raw steps lets in what has a level above the top frame's. A moment in task steps lets in only the first such
  -- interrupt of the list, where no frame stands.
  abbrev pub lets_in : Bool → Moment → ℕ → Bool
  lets_in first (Step moment) level = not masked && (nat_le moment s && nat_lt (level_of frames) level)
  lets_in first (Task moment) level = first && (quiet && (nat_le moment t && (none_stands frames && nat_lt 0 level)))

  -- those that are due, from a place on; `first`: no moment in task steps stands before
  abbrev pub due_from : Bool → ℕ → List Interrupt → List Place
  due_from first at [] = []
  due_from first at (i ∷ is) =
      let rest = due_from (first && is_step i.moment) (at + 1) is in
      if lets_in first i.moment i.level then record { at = at; interrupt = i } ∷ rest else rest

-- the one of the highest level, and of several such the first, where this one is the best so far
abbrev pub highest_from : Place → List Place → Place
highest_from best [] = best
highest_from best (p ∷ ps) = highest_from (if nat_lt best.interrupt.level p.interrupt.level then p else best) ps

-- the one of the highest level, if there is one
abbrev pub highest : List Place → Option Place
highest [] = None
highest (p ∷ ps) = Some (highest_from p ps)

-- the interrupt that enters next, if one is due
abbrev pub due : Bool → Bool → ℕ → ℕ → List FrameRecord → List Interrupt → Option Place
due masked quiet s t frames is = highest (due_from masked quiet s t frames true 0 is)

-- those that have not entered once the one at a place has
abbrev pub taken_at : ℕ → List Interrupt → List Interrupt
taken_at at [] = []
taken_at zero (i ∷ is) = is
taken_at (suc at) (i ∷ is) = i ∷ taken_at at is
