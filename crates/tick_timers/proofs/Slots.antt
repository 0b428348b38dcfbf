-- The lists of a wheel.
use Rattle.std.proofs.Common.{◌≡◌, ℕ, ◌<◌, List, [], ◌∷◌, length, refl, sym, ap, ◌∙◌, set, get_or, filter, cond, not, true, false}
use Rattle.std.specs.Prelude.{◌==◌}
use Rattle.kern_model.specs.Effect.{unmatched}
use Rattle.std.proofs.lemmas.List.{get_or-map, length-map, map-set}
use Rattle.arrayvec.specs.ArrayVec.{ArrayVec}
use Rattle.tick_timers.specs.Matches.{pairs, slots_in, slot_at}
use Rattle.tick_timers.specs.declared.wheels.Match.{Match}

pub slot_at-slots_in : (vs : List (ArrayVec Match)) (i : ℕ) (d : ArrayVec Match) → i < length vs → slot_at (slots_in vs) i ≡ pairs (get_or vs i d).items
slot_at-slots_in vs i d h = get_or-map (λ (v : ArrayVec Match). pairs v.items) vs i d [] h

pub slots_in-set : (vs : List (ArrayVec Match)) (i : ℕ) (v d : ArrayVec Match) (f : List (ℕ × ℕ) → List (ℕ × ℕ)) → i < length vs → pairs v.items ≡ f (pairs (get_or vs i d).items)
    → slots_in (set vs i v) ≡ set (slots_in vs) i (f (slot_at (slots_in vs) i))
slots_in-set vs i v d f h e =
    map-set (λ (v : ArrayVec Match). pairs v.items) vs i v ∙ ap (λ xs. set (slots_in vs) i xs) (e ∙ ap f (sym (slot_at-slots_in vs i d h)))

pub pairs-filter : (ms : List Match) (n : ℕ) → pairs (filter (λ m. not (m.number == n)) ms) ≡ unmatched n (pairs ms)
pairs-filter [] n = refl
pairs-filter (m ∷ ms) n =
    elim (m.number == n) as (λ b. pairs (cond (not b) (m ∷ filter (λ m. not (m.number == n)) ms) (filter (λ m. not (m.number == n)) ms)) ≡ cond (not b) ((m.number, m.at) ∷ unmatched n (pairs ms)) (unmatched n (pairs ms))) [
      | true ↦ pairs-filter ms n
      | false ↦ ap (λ xs. (m.number, m.at) ∷ xs) (pairs-filter ms n)
    ]

pub slots-count : (vs : List (ArrayVec Match)) → length (slots_in vs) ≡ length vs
slots-count vs = length-map vs (λ (v : ArrayVec Match). pairs v.items)
