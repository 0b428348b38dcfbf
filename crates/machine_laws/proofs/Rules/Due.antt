-- What is due stands among the interrupts that have not entered, above the frames; and what a look or an entry takes away.
use Rattle.machine_laws.proofs.Common.{◌≡◌, Bool, ℕ, refl, true, List, [], false, ◌∷◌, Some, arith, ◌≤◌, inl, inr, ◌+◌, suc, zero, ◌<◌, ◌⊎◌, ◌==◌, if◌then◌else◌, ◌&&◌, length, nat_lt, All, not, nat_le, false≢true, All-nil, All-cons, All-head, All-tail, Look, choice, choice_by, and_first, and_second, due, Place, is_step, FrameRecord, none_stands, Interrupt, look_at}
use Rattle.std.proofs.lemmas.List.Elements.{All-weaker, Contains-append_right, Contains-get_or}
use Rattle.std.specs.List.{Contains}
use Rattle.kern_model.proofs.Lemmas.{less, not_true}
use Rattle.inject_list.specs.declared.lists.Moment.{Moment}
use Rattle.inject_list.specs.declared.lists.Moment.TheVariants.{Task, Step}
use Rattle.machine_model.specs.Frames.{level_of}
use Rattle.machine_model.specs.Due.{due_from, lets_in, highest, highest_from, taken_at}
use Rattle.machine_model.specs.Looks.{without_look}

-- a look that is printed is gone
pub length-without_look : (s : ℕ) (ls : List Look) (l : Look) → look_at s ls ≡ Some l → length ls ≡ 1 + length (without_look s ls)
length-without_look s [] l e = cc
length-without_look s (k ∷ ls) l e = at (k.at == s) (length-without_look s ls l) e
  where
    at : (b : Bool) → (look_at s ls ≡ Some l → length ls ≡ 1 + length (without_look s ls)) → (if b then Some k else look_at s ls) ≡ Some l → length (k ∷ ls) ≡ 1 + length (if b then ls else k ∷ without_look s ls)
    at true rest e = omega arith
    at false rest e = let more = rest e in omega (arith, more)

-- an interrupt that enters is gone
pub length-taken_at : (at : ℕ) (is : List Interrupt) → at < length is → length is ≡ 1 + length (taken_at at is)
length-taken_at at [] h = absurd (omega (arith, h))
length-taken_at zero (i ∷ is) h = omega arith
length-taken_at (suc at) (i ∷ is) h = let rest = length-taken_at at is (omega (arith, h)) in omega (arith, rest)

pub all-taken_at : (P : Interrupt → Type 0) (at : ℕ) (is : List Interrupt) → All P is → All P (taken_at at is)
all-taken_at P at [] h = h
all-taken_at P zero (i ∷ is) h = All-tail P i is h
all-taken_at P (suc at) (i ∷ is) h = All-cons P i (taken_at at is) (All-head P i is h) (all-taken_at P at is (All-tail P i is h))

-- What is due, of these interrupts, whose first has this place: one of them, of a level above the top frame's.
pub record IsDue (masked quiet : Bool) (frames : List FrameRecord) (from : ℕ) (is : List Interrupt) (p : Place) : Type 0 where
  pub first : from ≤ p.at
  pub inside : p.at < from + length is
  pub above : level_of frames < p.interrupt.level
  pub there : Contains is p.interrupt
  pub may : (masked ≡ false) ⊎ (quiet ≡ true)

one_later : (masked quiet : Bool) (frames : List FrameRecord) (from : ℕ) (i : Interrupt) (is : List Interrupt) (p : Place) → IsDue masked quiet frames (from + 1) is p → IsDue masked quiet frames from (i ∷ is) p
one_later masked quiet frames from i is p h =
    record {
      first = omega (arith, h.first);
      inside = omega (arith, h.inside);
      above = h.above;
      there = Contains-append_right (i ∷ []) is p.interrupt h.there;
      may = h.may;
    }

of_all : (frames : List FrameRecord) (b : Bool) → none_stands frames ≡ true → level_of frames ≡ 0
of_all [] b e = refl
of_all (f ∷ fs) b e = absurd (false≢true e)

module _ (masked quiet : Bool) (s t : ℕ) (frames : List FrameRecord) where
  above_top : (first : Bool) (moment : Moment) (level : ℕ) → lets_in masked quiet s t frames first moment level ≡ true → level_of frames < level
  above_top first (Step at) level e = less (level_of frames) level (and_second (nat_le at s) (nat_lt (level_of frames) level) (and_second (not masked) (nat_le at s && nat_lt (level_of frames) level) e))
  above_top first (Task at) level e =
      let rest = and_second (nat_le at t) (none_stands frames && nat_lt 0 level) (and_second quiet (nat_le at t && (none_stands frames && nat_lt 0 level)) (and_second first (quiet && (nat_le at t && (none_stands frames && nat_lt 0 level))) e)) in
      let none = of_all frames true (and_first (none_stands frames) (nat_lt 0 level) rest) in
      let some = less 0 level (and_second (none_stands frames) (nat_lt 0 level) rest) in
      omega (arith, none, some)

  may_enter : (first : Bool) (moment : Moment) (level : ℕ) → lets_in masked quiet s t frames first moment level ≡ true → (masked ≡ false) ⊎ (quiet ≡ true)
  may_enter first (Step at) level e = inl (not_true masked (and_first (not masked) (nat_le at s && nat_lt (level_of frames) level) e))
  may_enter first (Task at) level e =
      inr (and_first quiet (nat_le at t && (none_stands frames && nat_lt 0 level)) (and_second first (quiet && (nat_le at t && (none_stands frames && nat_lt 0 level))) e))

  due-due_from : (first : Bool) (from : ℕ) (is : List Interrupt) → All (IsDue masked quiet frames from is) (due_from masked quiet s t frames first from is)
  due-due_from first from [] = All-nil (IsDue masked quiet frames from [])
  due-due_from first from (i ∷ is) =
      let rest = due_from masked quiet s t frames (first && is_step i.moment) (from + 1) is in
      let P = IsDue masked quiet frames from (i ∷ is) in
      let later : All P rest = All-weaker (IsDue masked quiet frames (from + 1) is) P (λ p. one_later masked quiet frames from i is p) rest (due-due_from (first && is_step i.moment) (from + 1) is) in
      let here : Place = record { at = from; interrupt = i } in
      choice_by (All P) (lets_in masked quiet s t frames first i.moment i.level) (here ∷ rest) rest
      (λ e. All-cons P here rest (record { first = omega arith; inside = omega arith; above = above_top first i.moment i.level e; there = Contains-get_or (i ∷ is) 0 i (omega arith); may = may_enter first i.moment i.level e }) later)
      (λ e. later)

of_highest_from : (P : Place → Type 0) (best : Place) (ps : List Place) → P best → All P ps → P (highest_from best ps)
of_highest_from P best [] b h = b
of_highest_from P best (p ∷ ps) b h =
    of_highest_from P (if nat_lt best.interrupt.level p.interrupt.level then p else best) ps (choice P (nat_lt best.interrupt.level p.interrupt.level) p best (All-head P p ps h) b) (All-tail P p ps h)

of_highest : (P : Place → Type 0) (ps : List Place) (p : Place) → All P ps → highest ps ≡ Some p → P p
of_highest P [] p h e = cc
of_highest P (q ∷ qs) p h e =
    let same : highest_from q qs ≡ p = cc in
    rw (← same) (of_highest_from P q qs (All-head P q qs h) (All-tail P q qs h))

-- what enters next is due
pub due-is : (masked quiet : Bool) (s t : ℕ) (frames : List FrameRecord) (is : List Interrupt) (p : Place) → due masked quiet s t frames is ≡ Some p → IsDue masked quiet frames 0 is p
due-is masked quiet s t frames is p e = of_highest (IsDue masked quiet frames 0 is) (due_from masked quiet s t frames true 0 is) p (due-due_from masked quiet s t frames true 0 is) e
