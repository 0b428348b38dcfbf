-- Lines more among those that share their places.
use Rattle.std.proofs.Common.{◌≡◌, ◌∙◌, ap, refl, ℕ, ◌+◌, ◌-◌, ◌<◌, ◌≤◌, List, [], ◌∷◌, ◌++◌, length, arith, length-append}
use Rattle.std.specs.List.{AllByRecursion}
use Rattle.std.proofs.lemmas.List.{map-append, get_or_append_left}
use Rattle.std.proofs.lemmas.List.Elements.{All-append, All-cons, All-nil, recursion_from_All, All-from_recursion}
use Rattle.std.proofs.Math.Seq.{get_or-append_seam}
use Rattle.asm_places.specs.Operands.{place_at, no_place}
use Rattle.asm_places.specs.LinePlacesView.{places_by, IsShared, IsEndedWith}
use Rattle.asm_places.specs.Place.{Place}

pub shared_none : IsShared [] []
shared_none = record { inside = All-nil (λ i. i < 0); few = omega arith }

-- a place more
pub ended_more : (old : List Place) (p : Place) → IsEndedWith old p (old ++ p ∷ [])
ended_more old p =
    let len : length (old ++ p ∷ []) ≡ length old + 1 = length-append old (p ∷ []) in
    let at : length (old ++ p ∷ []) - 1 ≡ length old = omega (arith, len) in
    record {
      same = λ k h. get_or_append_left old (p ∷ []) no_place k h;
      last = ap (place_at (old ++ p ∷ [])) at ∙ get_or-append_seam old p [] no_place;
      some = omega (arith, len);
      least = omega (arith, len);
      few = omega (arith, len);
    }

-- the place is at the end already
pub ended_same : (old : List Place) (p : Place) → 0 < length old → place_at old (length old - 1) ≡ p → IsEndedWith old p old
ended_same old p some last = record { same = λ k h. refl; last = last; some = some; least = omega arith; few = omega arith }

-- lines keep their places
kept : (old new : List Place) (p : Place) (is : List ℕ) → IsEndedWith old p new → AllByRecursion (λ i. i < length old) is → places_by new is ≡ places_by old is
kept old new p [] e h = refl
kept old new p (i ∷ is) e h = ap (λ q. q ∷ places_by new is) (e.same i h.0) ∙ ap (λ l. place_at old i ∷ l) (kept old new p is e h.1)

still : (n m : ℕ) → n ≤ m → (is : List ℕ) → AllByRecursion (λ i. i < n) is → AllByRecursion (λ i. i < m) is
still n m l [] h = h
still n m l (i ∷ is) h = (omega (arith, l, h.0), still n m l is h.1)

-- a line more
pub line_more : (old new : List Place) (p : Place) (is : List ℕ) (i : ℕ) → IsShared old is → IsEndedWith old p new → i ≡ length new - 1 → places_by new (is ++ i ∷ []) ≡ places_by old is ++ p ∷ []
line_more old new p is i s e n =
    map-append (place_at new) is (i ∷ [])
    ∙ (ap (λ l. l ++ place_at new i ∷ []) (kept old new p is e (recursion_from_All (λ j. j < length old) is s.inside))
    ∙ ap (λ q. places_by old is ++ q ∷ []) (ap (place_at new) n ∙ e.last))

pub shared_more : (old new : List Place) (p : Place) (is : List ℕ) (i : ℕ) → IsShared old is → IsEndedWith old p new → i ≡ length new - 1 → IsShared new (is ++ i ∷ [])
shared_more old new p is i s e n =
    let len : length (is ++ i ∷ []) ≡ length is + 1 = length-append is (i ∷ []) in
    record {
      inside = All-append (λ j. j < length new) is (i ∷ [])
          (All-from_recursion (λ j. j < length new) is (still (length old) (length new) e.least is (recursion_from_All (λ j. j < length old) is s.inside)))
          (All-cons (λ j. j < length new) i [] (omega (arith, e.some)) (All-nil (λ j. j < length new)));
      few = omega (arith, len, s.few, e.few);
    }
