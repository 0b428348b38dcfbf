-- An interrupt that is due, by its place and by its number.
use Rattle.std.proofs.Common.{◌≡◌, ℕ, zero, suc, ◌+◌, ◌<◌, ◌≤◌, Bool, true, false, not, ◌&&◌, List, [], ◌∷◌, drop, refl, sym, ap, ◌∙◌, subst, arith, inl, inr, Option, Some, None}
use Rattle.std.specs.Prelude.{nat_le, nat_lt, if◌then◌else◌, ◌==◌, option_map, IsSomeAnd}
use Rattle.std.proofs.lemmas.Bool.Decides.{eqb_tells}
use Rattle.inject_list.specs.declared.lists.Moment.{Moment}
use Rattle.inject_list.specs.declared.lists.Moment.TheVariants.{Task, Step}
use Rattle.kern_model.proofs.Lemmas.{choice_by, less, and_first, and_second}
use Rattle.machine_model.specs.Frames.{Interrupt, FrameRecord, level_of, none_stands}
use Rattle.machine_model.specs.Due.{Place, is_step, lets_in, due_from, highest_from, highest, due, taken_at}
use Rattle.isr_nesting.specs.Nest.{number_at, unnumbered, waiting_at, without_number, due_number, IsRising}
use Rattle.isr_nesting.proofs.KeyLaws.{drop-here, number-here}
use Rattle.isr_nesting.proofs.SplitLaws.{none-level}

-- the interrupt at a place waits there, and may enter
pub record MayEnter (frames : List FrameRecord) (ws : List (ℕ × Interrupt)) (p : Place) : Type 0 where
  pub interrupt : waiting_at (number_at p.at ws) ws ≡ Some p.interrupt
  pub above : level_of frames < p.interrupt.level
  pub taken : unnumbered (without_number (number_at p.at ws) ws) ≡ taken_at p.at (unnumbered ws)

-- a place of the list, whose interrupt may enter
pub record IsHere (frames : List FrameRecord) (ws : List (ℕ × Interrupt)) (p : Place) : Type 0 where
  pub entry : ℕ × Interrupt
  pub rest : List (ℕ × Interrupt)
  pub at_place : drop p.at ws ≡ entry ∷ rest
  pub interrupt : p.interrupt ≡ entry.1
  pub above : level_of frames < entry.1.level

abbrev pub EachHere : List FrameRecord → List (ℕ × Interrupt) → List Place → Type 0
EachHere frames ws [] = Unit {0}
EachHere frames ws (p ∷ ps) = IsHere frames ws p × EachHere frames ws ps

here_chosen : (frames : List FrameRecord) (ws : List (ℕ × Interrupt)) (b : Bool) (p : Place) (ps : List Place) → (b ≡ true → IsHere frames ws p) → EachHere frames ws ps → EachHere frames ws (if b then p ∷ ps else ps)
here_chosen frames ws true p ps h rest = (h refl, rest)
here_chosen frames ws false p ps h rest = rest

lets-above : (masked quiet : Bool) (s t : ℕ) (frames : List FrameRecord) (first : Bool) (m : Moment) (level : ℕ) → lets_in masked quiet s t frames first m level ≡ true → level_of frames < level
lets-above masked quiet s t frames first (Step u) level h =
    less (level_of frames) level (and_second (nat_le u s) (nat_lt (level_of frames) level) (and_second (not masked) (nat_le u s && nat_lt (level_of frames) level) h))
lets-above masked quiet s t frames first (Task u) level h =
    let inner = and_second (nat_le u t) (none_stands frames && nat_lt 0 level) (and_second quiet (nat_le u t && (none_stands frames && nat_lt 0 level)) (and_second first (quiet && (nat_le u t && (none_stands frames && nat_lt 0 level))) h)) in
    let some : 0 < level = less 0 level (and_second (none_stands frames) (nat_lt 0 level) inner) in
    let none : level_of frames ≡ 0 = none-level frames (and_first (none_stands frames) (nat_lt 0 level) inner) in
    omega arith

each-here : (masked quiet : Bool) (s t : ℕ) (frames : List FrameRecord) (all : List (ℕ × Interrupt)) (at : ℕ) (first : Bool) (ws : List (ℕ × Interrupt)) → drop at all ≡ ws → EachHere frames all (due_from masked quiet s t frames first at (unnumbered ws))
each-here masked quiet s t frames all at first [] e = tt
each-here masked quiet s t frames all at first (w ∷ ws) e =
    here_chosen frames all (lets_in masked quiet s t frames first w.1.moment w.1.level) (record { at = at; interrupt = w.1 })
    (due_from masked quiet s t frames (first && is_step w.1.moment) (at + 1) (unnumbered ws))
    (λ h. record { entry = w; rest = ws; at_place = e; interrupt = refl; above = lets-above masked quiet s t frames first w.1.moment w.1.level h })
    (each-here masked quiet s t frames all (at + 1) (first && is_step w.1.moment) ws (drop-here all at w ws e))

highest-here : (frames : List FrameRecord) (ws : List (ℕ × Interrupt)) (b : Place) (ps : List Place) → IsHere frames ws b → EachHere frames ws ps → IsHere frames ws (highest_from b ps)
highest-here frames ws b [] h each = h
highest-here frames ws b (p ∷ ps) h (one, rest) =
    choice_by (λ q. IsHere frames ws (highest_from q ps)) (nat_lt b.interrupt.level p.interrupt.level) p b
    (λ e. highest-here frames ws p ps one rest) (λ e. highest-here frames ws b ps h rest)

due-here : (frames : List FrameRecord) (ws : List (ℕ × Interrupt)) (ps : List Place) (p : Place) → EachHere frames ws ps → highest ps ≡ Some p → IsHere frames ws p
due-here frames ws [] p each e = cc
due-here frames ws (q ∷ ps) p (one, rest) e =
    let same : highest_from q ps ≡ p = cc in
    subst (λ r. IsHere frames ws r) same (highest-here frames ws q ps one rest)

-- the numbers rise along the list
number-from : (n : ℕ) (ws : List (ℕ × Interrupt)) (at : ℕ) (w : ℕ × Interrupt) (rest : List (ℕ × Interrupt)) → IsRising n ws → drop at ws ≡ w ∷ rest → n ≤ w.0
number-from n [] zero w rest rise e = cc
number-from n [] (suc at) w rest rise e = cc
number-from n (v ∷ ws) zero w rest (low, small, top, later) e =
    let same : v.0 ≡ w.0 = cc in
    omega arith
number-from n (v ∷ ws) (suc at) w rest (low, small, top, later) e = omega (arith, number-from (v.0 + 1) ws at w rest later e)

without_kept : (b : Bool) (v : ℕ × Interrupt) (ws : List (ℕ × Interrupt)) → b ≡ false → (if not b then v ∷ ws else ws) ≡ v ∷ ws
without_kept b v ws e = ap (λ a. if not a then v ∷ ws else ws) e

unequal_numbers : (a b : ℕ) → a < b → (a == b) ≡ false
unequal_numbers a b h = elim (eqb_tells a b) [ inl e ↦ absurd (omega (arith, e.1)) | inr e ↦ e.0 ]

other_numbers : (a b : ℕ) → b < a → (a == b) ≡ false
other_numbers a b h = elim (eqb_tells a b) [ inl e ↦ absurd (omega (arith, e.1)) | inr e ↦ e.0 ]

same_number : (a : ℕ) → (a == a) ≡ true
same_number a = elim (eqb_tells a a) [ inl e ↦ e.0 | inr e ↦ absurd (e.1 refl) ]

without-none : (n i : ℕ) (ws : List (ℕ × Interrupt)) → i < n → IsRising n ws → without_number i ws ≡ ws
without-none n i [] h rise = refl
without-none n i (v ∷ ws) h (low, small, top, later) =
    without_kept (v.0 == i) v (without_number i ws) (other_numbers v.0 i (omega arith))
    ∙ ap (λ l. v ∷ l) (without-none (v.0 + 1) i ws (omega arith) later)

pub waits-here : (n : ℕ) (ws : List (ℕ × Interrupt)) (at : ℕ) (w : ℕ × Interrupt) (rest : List (ℕ × Interrupt)) → IsRising n ws → drop at ws ≡ w ∷ rest → waiting_at w.0 ws ≡ Some w.1
waits-here n [] zero w rest rise e = cc
waits-here n [] (suc at) w rest rise e = cc
waits-here n (v ∷ ws) zero w rest rise e =
    let same : v ≡ w = cc in
    subst (λ u. waiting_at u.0 (v ∷ ws) ≡ Some u.1) same (ap (λ b. if b then Some v.1 else waiting_at v.0 ws) (same_number v.0))
waits-here n (v ∷ ws) (suc at) w rest (low, small, top, later) e =
    let past : v.0 + 1 ≤ w.0 = number-from (v.0 + 1) ws at w rest later e in
    ap (λ b. if b then Some v.1 else waiting_at w.0 ws) (unequal_numbers v.0 w.0 (omega arith)) ∙ waits-here (v.0 + 1) ws at w rest later e

pub taken-here : (n : ℕ) (ws : List (ℕ × Interrupt)) (at : ℕ) (w : ℕ × Interrupt) (rest : List (ℕ × Interrupt)) → IsRising n ws → drop at ws ≡ w ∷ rest → unnumbered (without_number w.0 ws) ≡ taken_at at (unnumbered ws)
taken-here n [] zero w rest rise e = cc
taken-here n [] (suc at) w rest rise e = cc
taken-here n (v ∷ ws) zero w rest (low, small, top, later) e =
    let same : v.0 ≡ w.0 = cc in
    subst (λ i. unnumbered (without_number i (v ∷ ws)) ≡ unnumbered ws) same
    (ap unnumbered (ap (λ b. if not b then v ∷ without_number v.0 ws else without_number v.0 ws) (same_number v.0) ∙ without-none (v.0 + 1) v.0 ws (omega arith) later))
taken-here n (v ∷ ws) (suc at) w rest (low, small, top, later) e =
    let past : v.0 + 1 ≤ w.0 = number-from (v.0 + 1) ws at w rest later e in
    ap unnumbered (without_kept (v.0 == w.0) v (without_number w.0 ws) (unequal_numbers v.0 w.0 (omega arith)))
    ∙ ap (λ l. v.1 ∷ l) (taken-here (v.0 + 1) ws at w rest later e)

-- the interrupt that is due waits at its number, may enter, and the others stay
pub due-enters : (masked quiet : Bool) (s t : ℕ) (frames : List FrameRecord) (ws : List (ℕ × Interrupt)) (p : Place) → IsRising 0 ws → due masked quiet s t frames (unnumbered ws) ≡ Some p → MayEnter frames ws p
due-enters masked quiet s t frames ws p rise e =
    let h = due-here frames ws (due_from masked quiet s t frames true 0 (unnumbered ws)) p (each-here masked quiet s t frames ws 0 true ws refl) e in
    let number : number_at p.at ws ≡ h.entry.0 = number-here ws p.at h.entry h.rest h.at_place in
    record {
      interrupt = ap (λ i. waiting_at i ws) number ∙ waits-here 0 ws p.at h.entry h.rest rise h.at_place ∙ ap (λ i. Some i) (sym h.interrupt);
      above = subst (λ (i : Interrupt). level_of frames < i.level) (sym h.interrupt) h.above;
      taken = ap (λ i. unnumbered (without_number i ws)) number ∙ taken-here 0 ws p.at h.entry h.rest rise h.at_place;
    }

-- and so by its number alone
pub due-number_enters : (masked quiet : Bool) (s t : ℕ) (frames : List FrameRecord) (ws : List (ℕ × Interrupt)) (n : ℕ) → IsRising 0 ws → Some n ≡ due_number masked quiet s t frames ws → IsSomeAnd (waiting_at n ws) (λ i. level_of frames < i.level)
due-number_enters masked quiet s t frames ws n rise e = by_place (due masked quiet s t frames (unnumbered ws)) (λ p q. due-enters masked quiet s t frames ws p rise q) e
  where
    by_place : (d : Option Place) → ((p : Place) → d ≡ Some p → MayEnter frames ws p) → Some n ≡ option_map (λ p. number_at p.at ws) d → IsSomeAnd (waiting_at n ws) (λ i. level_of frames < i.level)
    by_place None h q = cc
    by_place (Some p) h q =
        let may = h p refl in
        let same : n ≡ number_at p.at ws = cc in
        subst (λ o. IsSomeAnd o (λ i. level_of frames < i.level)) (sym (ap (λ i. waiting_at i ws) same ∙ may.interrupt)) may.above
