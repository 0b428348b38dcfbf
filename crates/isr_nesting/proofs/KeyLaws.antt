-- The interrupt that enters next is the one of the least key.
use Rattle.std.proofs.Common.{◌≡◌, ℕ, zero, suc, ◌+◌, ◌%◌, ◌<◌, ◌≤◌, Bool, true, false, ◌&&◌, List, [], ◌∷◌, map, drop, refl, sym, ap, ◌∙◌, subst, arith, Some, None}
use Rattle.std.specs.Prelude.{min, nat_lt, option_map, if◌then◌else◌}
use Rattle.std.proofs.lemmas.Bool.Decides.{nat_tests}
use Rattle.kern_model.proofs.Lemmas.{choice_by, less, not_less}
use Rattle.machine_model.specs.Frames.{Interrupt, FrameRecord}
use Rattle.machine_model.specs.Due.{Place, is_step, lets_in, due_from, highest_from, highest}
use Rattle.isr_nesting.specs.Least.{nothing, least}
use Rattle.isr_nesting.specs.Nest.{number_at, unnumbered, due_number, IsRising}
use Rattle.isr_nesting.specs.Keys.{key, key_of, number_of}
use Rattle.isr_nesting.proofs.TreeLaws.{least-low}

-- the key of the interrupt at a place
abbrev pub place_key : List (ℕ × Interrupt) → Place → ℕ
place_key ws p = key p.interrupt.level (number_at p.at ws)

-- the numbers of places rise, from a number on
abbrev pub PlacesRise : List (ℕ × Interrupt) → ℕ → List Place → Type 0
PlacesRise ws n [] = Unit {0}
PlacesRise ws n (p ∷ ps) = (n ≤ number_at p.at ws) × (number_at p.at ws < 16384) × (p.interrupt.level ≤ 7) × PlacesRise ws (number_at p.at ws + 1) ps

pub places-from : (ws : List (ℕ × Interrupt)) (m n : ℕ) (ps : List Place) → m ≤ n → PlacesRise ws n ps → PlacesRise ws m ps
places-from ws m n [] h rise = tt
places-from ws m n (p ∷ ps) h (low, small, top, rest) = (omega arith, small, top, rest)

-- a higher level, or the same and a lower number
pub key-higher : (a b x y : ℕ) → a < b → b ≤ 7 → x < 16384 → y < 16384 → key b y < key a x
key-higher a b x y h top hx hy = omega arith

pub key-lower : (a b x y : ℕ) → a ≤ b → b ≤ 7 → x ≤ y → key b x ≤ key a y
key-lower a b x y h top low = omega arith

pub key-small : (a x : ℕ) → x < 16384 → key a x < nothing
key-small a x h = omega arith

pub key-number : (a x : ℕ) → x < 16384 → key a x % 16384 ≡ x
key-number a x h = omega arith

least_first : (k p l : ℕ) → p < k → min p l ≡ min k (min p l)
least_first k p l h = omega arith

least_kept : (k p l : ℕ) → k ≤ p → min k l ≡ min k (min p l)
least_kept k p l h = omega arith

least_alone : (k : ℕ) → k < nothing → k ≡ min k nothing
least_alone k h = omega arith

-- the one of the highest level has the least key, and it is one of them
pub highest-key : (ws : List (ℕ × Interrupt)) (b : Place) (ps : List Place) → number_at b.at ws < 16384 → b.interrupt.level ≤ 7 → PlacesRise ws (number_at b.at ws + 1) ps → place_key ws (highest_from b ps) ≡ min (place_key ws b) (least (map (place_key ws) ps))
highest-key ws b [] small low rise = least_alone (place_key ws b) (key-small b.interrupt.level (number_at b.at ws) small)
highest-key ws b (p ∷ ps) small low (next, small', low', rest) =
    let better : b.interrupt.level < p.interrupt.level → place_key ws (highest_from p ps) ≡ min (place_key ws b) (min (place_key ws p) (least (map (place_key ws) ps))) =
    λ h. highest-key ws p ps small' low' rest ∙ least_first (place_key ws b) (place_key ws p) (least (map (place_key ws) ps)) (key-higher b.interrupt.level p.interrupt.level (number_at b.at ws) (number_at p.at ws) h low' small small') in
    let kept : p.interrupt.level ≤ b.interrupt.level → place_key ws (highest_from b ps) ≡ min (place_key ws b) (min (place_key ws p) (least (map (place_key ws) ps))) =
    λ h. highest-key ws b ps small low (places-from ws (number_at b.at ws + 1) (number_at p.at ws + 1) ps (omega arith) rest) ∙ least_kept (place_key ws b) (place_key ws p) (least (map (place_key ws) ps)) (key-lower p.interrupt.level b.interrupt.level (number_at b.at ws) (number_at p.at ws) h low (omega arith)) in
    choice_by (λ q. place_key ws (highest_from q ps) ≡ min (place_key ws b) (min (place_key ws p) (least (map (place_key ws) ps)))) (nat_lt b.interrupt.level p.interrupt.level) p b
    (λ h. better (less b.interrupt.level p.interrupt.level h)) (λ h. kept (not_less b.interrupt.level p.interrupt.level h))

pub highest-small : (ws : List (ℕ × Interrupt)) (n : ℕ) (b : Place) (ps : List Place) → number_at b.at ws < 16384 → PlacesRise ws n ps → number_at (highest_from b ps).at ws < 16384
highest-small ws n b [] small rise = small
highest-small ws n b (p ∷ ps) small (next, small', low', rest) =
    choice_by (λ q. number_at (highest_from q ps).at ws < 16384) (nat_lt b.interrupt.level p.interrupt.level) p b
    (λ h. highest-small ws (number_at p.at ws + 1) p ps small' rest) (λ h. highest-small ws (number_at p.at ws + 1) b ps small rest)

pub number-of_key : (a x : ℕ) → x < 16384 → number_of (key a x) ≡ Some x
number-of_key a x h =
    let small : key a x < nothing = key-small a x h in
    let e : nat_lt (key a x) nothing ≡ true = grind (arith, nat_tests) in
    ap (λ b. if b then Some (key a x % 16384) else None) e ∙ ap (λ n. Some n) (key-number a x h)

-- the number of the highest is that of the least key
pub highest-number : (ws : List (ℕ × Interrupt)) (n : ℕ) (ps : List Place) → PlacesRise ws n ps → option_map (λ p. number_at p.at ws) (highest ps) ≡ number_of (least (map (place_key ws) ps))
highest-number ws n [] rise = refl
highest-number ws n (p ∷ ps) (low, small, top, rest) =
    let q = highest_from p ps in
    sym (number-of_key q.interrupt.level (number_at q.at ws) (highest-small ws (number_at p.at ws + 1) p ps small rest))
    ∙ ap number_of (highest-key ws p ps small top rest)

-- the number at a place
pub number-here : (ws : List (ℕ × Interrupt)) (at : ℕ) (w : ℕ × Interrupt) (rest : List (ℕ × Interrupt)) → drop at ws ≡ w ∷ rest → number_at at ws ≡ w.0
number-here [] zero w rest e = cc
number-here [] (suc at) w rest e = cc
number-here (v ∷ ws) zero w rest e = cc
number-here (v ∷ ws) (suc at) w rest e = number-here ws at w rest e

pub drop-here : (ws : List (ℕ × Interrupt)) (at : ℕ) (w : ℕ × Interrupt) (rest : List (ℕ × Interrupt)) → drop at ws ≡ w ∷ rest → drop (at + 1) ws ≡ rest
drop-here [] zero w rest e = cc
drop-here [] (suc at) w rest e = cc
drop-here (v ∷ ws) zero w rest e = cc
drop-here (v ∷ ws) (suc at) w rest e =
    let next : suc (at + 1) ≡ suc at + 1 = omega arith in
    subst (λ n. drop n (v ∷ ws) ≡ rest) next (drop-here ws at w rest e)

least_chosen : (b : Bool) (ws : List (ℕ × Interrupt)) (p : Place) (ps : List Place) (k r : ℕ) → place_key ws p ≡ k → least (map (place_key ws) ps) ≡ r → least (map (place_key ws) (if b then p ∷ ps else ps)) ≡ min (if b then k else nothing) r
least_chosen true ws p ps k r e f = cc
least_chosen false ws p ps k r e f = omega (arith, f, least-low (map (place_key ws) ps))

rise_chosen : (b : Bool) (ws : List (ℕ × Interrupt)) (n : ℕ) (p : Place) (ps : List Place) → n ≤ number_at p.at ws → number_at p.at ws < 16384 → p.interrupt.level ≤ 7 → PlacesRise ws (number_at p.at ws + 1) ps → PlacesRise ws n (if b then p ∷ ps else ps)
rise_chosen true ws n p ps low small top rest = (low, small, top, rest)
rise_chosen false ws n p ps low small top rest = places-from ws n (number_at p.at ws + 1) ps (omega arith) rest

module _ (masked quiet : Bool) (s t : ℕ) (frames : List FrameRecord) where
  -- the least key of those that are due
  abbrev pub due_key : Bool → List (ℕ × Interrupt) → ℕ
  due_key first [] = nothing
  due_key first (w ∷ ws) = min (if lets_in masked quiet s t frames first w.1.moment w.1.level then key_of w else nothing) (due_key (first && is_step w.1.moment) ws)

  pub due-least : (all : List (ℕ × Interrupt)) (at n : ℕ) (first : Bool) (ws : List (ℕ × Interrupt)) → drop at all ≡ ws → IsRising n ws → least (map (place_key all) (due_from masked quiet s t frames first at (unnumbered ws))) ≡ due_key first ws
  due-least all at n first [] e rise = refl
  due-least all at n first (w ∷ ws) e (low, small, top, rest) =
      least_chosen (lets_in masked quiet s t frames first w.1.moment w.1.level) all (record { at = at; interrupt = w.1 })
      (due_from masked quiet s t frames (first && is_step w.1.moment) (at + 1) (unnumbered ws)) (key_of w) (due_key (first && is_step w.1.moment) ws)
      (ap (λ n. key w.1.level n) (number-here all at w ws e))
      (due-least all (at + 1) (w.0 + 1) (first && is_step w.1.moment) ws (drop-here all at w ws e) rest)

  pub due-rise : (all : List (ℕ × Interrupt)) (at n : ℕ) (first : Bool) (ws : List (ℕ × Interrupt)) → drop at all ≡ ws → IsRising n ws → PlacesRise all n (due_from masked quiet s t frames first at (unnumbered ws))
  due-rise all at n first [] e rise = tt
  due-rise all at n first (w ∷ ws) e (low, small, top, rest) =
      let here = number-here all at w ws e in
      rise_chosen (lets_in masked quiet s t frames first w.1.moment w.1.level) all n (record { at = at; interrupt = w.1 })
      (due_from masked quiet s t frames (first && is_step w.1.moment) (at + 1) (unnumbered ws))
      (omega arith) (omega arith) top
      (subst (λ m. PlacesRise all (m + 1) (due_from masked quiet s t frames (first && is_step w.1.moment) (at + 1) (unnumbered ws))) (sym here)
      (due-rise all (at + 1) (w.0 + 1) (first && is_step w.1.moment) ws (drop-here all at w ws e) rest))

  -- the number of the interrupt that enters next is that of the least key
  pub due-number : (ws : List (ℕ × Interrupt)) → IsRising 0 ws → due_number masked quiet s t frames ws ≡ number_of (due_key true ws)
  due-number ws rise =
      highest-number ws 0 (due_from masked quiet s t frames true 0 (unnumbered ws)) (due-rise ws 0 0 true ws refl rise)
      ∙ ap number_of (due-least ws 0 0 true ws refl rise)
