-- A wheel after a match is added or taken out, and what is read of a slot.
use Rattle.std.proofs.Common.{◌≡◌, ◌≢◌, ℕ, zero, suc, ◌<◌, ◌≤◌, List, [], ◌∷◌, ◌++◌, length, refl, sym, ap, subst, ◌∙◌, Bool, true, false, cond, arith, inl, inr, Option, Some, None, set, get_or, get_or-set_other, get_or-set_same, append-nil, length-set, replicate, drop, filter, drop_of_length-le}
use Rattle.std.specs.Prelude.{◌%◌, ◌==◌, All, slice_get}
use Rattle.std.proofs.lemmas.Bool.{eq-eqb, ne_eqb}
use Rattle.std.proofs.lemmas.Bool.Decides.{eqb_tells}
use Rattle.std.proofs.lemmas.Bool.{cases_lt}
use Rattle.std.proofs.lemmas.List.{get_or_past, get_or-map, length-map}
use Rattle.std.proofs.Math.Seq.{drop-cons}
use Rattle.std.proofs.lemmas.List.Elements.{filter-append, All-filter, All-cons, All-nil}
use Rattle.arrayvec.specs.ArrayVec.{ArrayVec}
use Rattle.kern_model.specs.State.{count_of, without}
use Rattle.kern_model.specs.Effect.{unmatched}
use Rattle.kern_model.specs.Time.{due}
use Rattle.kern_model.specs.Valid.{matched}
use Rattle.kern_model.proofs.Lemmas.{count-append, count-without_same, count-without_other}
use Rattle.tick_timers.specs.Matches.{pairs, slots_in, slot_at, with_remainder}
use Rattle.tick_timers.specs.WheelView.{count_or_zero, match_in, matches_in, wheel_of, IsWheel}
use Rattle.tick_timers.specs.declared.wheels.Match.{Match}
use Rattle.tick_timers.specs.declared.wheels.Wheel.TheInside.{Inside}
use Rattle.tick_timers.proofs.Given.{count-same, count-other, numbers-push, numbers-few, numbers-without, numbers-room, count-matches, length-matches, matches-set, matches-push, matches-without, slot-other}
use Rattle.tick_timers.proofs.Filters.{filter-filter, unmatched-none}
use Rattle.tick_timers.proofs.Slots.{slots-count}

count_none : (n x : ℕ) (xs : List ℕ) → count_of n xs ≡ 0 → n ≡ x → count_of x xs ≡ 0
count_none n x xs h e = subst (λ y. count_of y xs ≡ 0) e h

length-filter : (r : ℕ) (ms : List (ℕ × ℕ)) → length (with_remainder r ms) ≤ length ms
length-filter r [] = omega arith
length-filter r (m ∷ ms) = less (m.1 % 64 == r) (length-filter r ms)
  where
    less : (b : Bool) → length (with_remainder r ms) ≤ length ms → length (cond b (m ∷ with_remainder r ms) (with_remainder r ms)) ≤ length (m ∷ ms)
    less true h = omega arith
    less false h = omega arith

-- a number that has no match gets one
module _ (a : Inside) (w : IsWheel a) (n at : ℕ) (low : n < 64) (fresh : count_of n (matched (wheel_of a)) ≡ 0) where
  pub ungiven : count_of n a.given ≡ 0
  ungiven = sym (count-matches a.counts a.given n) ∙ fresh

  pub slot-room : length (slot_at (slots_in a.slots) (at % 64)) < 64
  slot-room =
      let there = ap (λ (ms : List (ℕ × ℕ)). length ms) (w.slots (at % 64) (omega arith)) in
      let few = length-filter (at % 64) (wheel_of a) in
      let all = length-matches a.counts a.given in
      let room = numbers-room a.given n w.numbers low ungiven in
      omega arith

  pub added : matches_in (set a.counts n (Some at)) (a.given ++ n ∷ []) ≡ wheel_of a ++ (n, at) ∷ []
  added =
      let long = w.sizes.1 in
      matches-push (set a.counts n (Some at)) a.given n
      ∙ ap (λ ms. ms ++ match_in (set a.counts n (Some at)) n ∷ []) (matches-set a.counts a.given n (Some at) ungiven)
      ∙ ap (λ o. wheel_of a ++ (n, count_or_zero o) ∷ []) (get_or-set_same a.counts n (Some at) None (omega arith))

  put-same : (r : ℕ) → at % 64 ≡ r → with_remainder r (wheel_of a ++ (n, at) ∷ []) ≡ with_remainder r (wheel_of a) ++ (n, at) ∷ []
  put-same r e =
      filter-append (λ (m : ℕ × ℕ). m.1 % 64 == r) (wheel_of a) ((n, at) ∷ [])
      ∙ ap (λ b. with_remainder r (wheel_of a) ++ cond b ((n, at) ∷ []) []) (eq-eqb (at % 64) r e)

  put-other : (r : ℕ) → at % 64 ≢ r → with_remainder r (wheel_of a ++ (n, at) ∷ []) ≡ with_remainder r (wheel_of a)
  put-other r e =
      filter-append (λ (m : ℕ × ℕ). m.1 % 64 == r) (wheel_of a) ((n, at) ∷ [])
      ∙ ap (λ b. with_remainder r (wheel_of a) ++ cond b ((n, at) ∷ []) []) (ne_eqb (at % 64) r e)
      ∙ append-nil (with_remainder r (wheel_of a))

  module _ (slots : List (ArrayVec Match)) (count : length slots ≡ 64) (is : slots_in slots ≡ set (slots_in a.slots) (at % 64) (slot_at (slots_in a.slots) (at % 64) ++ (n, at) ∷ [])) where
    slot-put : (r : ℕ) → r < 64 → slot_at (slots_in slots) r ≡ with_remainder r (wheel_of a ++ (n, at) ∷ [])
    slot-put r h =
        let long = slots-count a.slots in let sizes = w.sizes.0 in
        elim (eqb_tells (at % 64) r) [
          | inl e ↦
              ap (λ ls. slot_at ls r) is
              ∙ ap (λ i. get_or (set (slots_in a.slots) i (slot_at (slots_in a.slots) i ++ (n, at) ∷ [])) r []) e.1
              ∙ get_or-set_same (slots_in a.slots) r (slot_at (slots_in a.slots) r ++ (n, at) ∷ []) [] (omega arith)
              ∙ ap (λ ms. ms ++ (n, at) ∷ []) (w.slots r h) ∙ sym (put-same r e.1)
          | inr e ↦
              ap (λ ls. slot_at ls r) is
              ∙ get_or-set_other (slots_in a.slots) (at % 64) r (slot_at (slots_in a.slots) (at % 64) ++ (n, at) ∷ []) [] (λ t. e.1 (sym t))
              ∙ w.slots r h ∙ sym (put-other r e.1)
        ]

    pub wheel-added : IsWheel (record { slots = slots; counts = set a.counts n (Some at); given = a.given ++ n ∷ [] })
    wheel-added = record {
      numbers = numbers-push a.given n w.numbers low ungiven;
      none = λ x none. elim (eqb_tells n x) [
        | inl e ↦ let one = count-append x a.given (n ∷ []) in let two = count-same x n [] e.1 in absurd (omega arith)
        | inr e ↦
            let one = count-append x a.given (n ∷ []) in let two = count-other x n [] e.1 in
            get_or-set_other a.counts n x (Some at) None (λ t. e.1 (sym t)) ∙ w.none x (omega arith)
      ];
      some = λ x none. elim (eqb_tells n x) [
        | inl e ↦
            let long = w.sizes.1 in
            let here : Some at ≡ None = sym (get_or-set_same a.counts n (Some at) None (omega arith)) ∙ ap (λ y. get_or (set a.counts n (Some at)) y None) e.1 ∙ none in
            absurd cc
        | inr e ↦
            let before : get_or a.counts x None ≡ None = sym (get_or-set_other a.counts n x (Some at) None (λ t. e.1 (sym t))) ∙ none in
            let one = count-append x a.given (n ∷ []) in let two = count-other x n [] e.1 in let three = w.some x before in
            omega arith
      ];
      sizes = let long = w.sizes.1 in let kept = length-set-counts in (count, omega arith);
      slots = λ r h. slot-put r h ∙ sym (ap (with_remainder r) added);
    }
      where
        length-set-counts : length (set a.counts n (Some at)) ≡ length a.counts
        length-set-counts = simp length-set

-- a number loses its match
module _ (a : Inside) (w : IsWheel a) (n at : ℕ) (has : get_or a.counts n None ≡ Some at) where
  pub taken : matches_in (set a.counts n None) (without n a.given) ≡ unmatched n (wheel_of a)
  taken = matches-set a.counts (without n a.given) n None (count-without_same n a.given) ∙ sym (matches-without a.counts a.given n)

  its-count : (match_in a.counts n).1 ≡ at
  its-count = ap count_or_zero has

  module _ (slots : List (ArrayVec Match)) (count : length slots ≡ 64) (is : slots_in slots ≡ set (slots_in a.slots) (at % 64) (unmatched n (slot_at (slots_in a.slots) (at % 64)))) where
    slot-taken : (r : ℕ) → r < 64 → slot_at (slots_in slots) r ≡ with_remainder r (unmatched n (wheel_of a))
    slot-taken r h =
        let long = slots-count a.slots in let sizes = w.sizes.0 in
        elim (eqb_tells (at % 64) r) [
          | inl e ↦
              ap (λ ls. slot_at ls r) is
              ∙ ap (λ i. get_or (set (slots_in a.slots) i (unmatched n (slot_at (slots_in a.slots) i))) r []) e.1
              ∙ get_or-set_same (slots_in a.slots) r (unmatched n (slot_at (slots_in a.slots) r)) [] (omega arith)
              ∙ ap (unmatched n) (w.slots r h) ∙ filter-filter _ _ (wheel_of a)
          | inr e ↦
              ap (λ ls. slot_at ls r) is
              ∙ get_or-set_other (slots_in a.slots) (at % 64) r (unmatched n (slot_at (slots_in a.slots) (at % 64))) [] (λ t. e.1 (sym t))
              ∙ w.slots r h ∙ sym (slot-other a.counts a.given n r (λ t. e.1 (sym (ap (λ k. k % 64) its-count) ∙ t)))
        ]

    pub wheel-taken : IsWheel (record { slots = slots; counts = set a.counts n None; given = without n a.given })
    wheel-taken = record {
      numbers = numbers-without a.given n w.numbers;
      none = λ x none. elim (eqb_tells x n) [
        | inl e ↦ let long = w.sizes.1 in gone x e.1
        | inr e ↦ get_or-set_other a.counts n x None None e.1 ∙ w.none x (sym (count-without_other x n a.given e.1) ∙ none)
      ];
      some = λ x none. elim (eqb_tells x n) [
        | inl e ↦ count_none n x (without n a.given) (count-without_same n a.given) (sym e.1)
        | inr e ↦ count-without_other x n a.given e.1 ∙ w.some x (sym (get_or-set_other a.counts n x None None e.1) ∙ none)
      ];
      sizes = let long = w.sizes.1 in let kept = length-set-counts in (count, omega arith);
      slots = λ r h. slot-taken r h ∙ sym (ap (with_remainder r) taken);
    }
      where
        length-set-counts : length (set a.counts n None) ≡ length a.counts
        length-set-counts = simp length-set

        gone : (x : ℕ) → x ≡ n → get_or (set a.counts n None) x None ≡ None
        gone x e = elim (cases_lt n (length a.counts)) [
          | inl l ↦ ap (λ y. get_or (set a.counts n None) y None) e ∙ get_or-set_same a.counts n None None l
          | inr l ↦ get_or_past (set a.counts n None) x None (let kept = length-set-counts in omega arith)
        ]

-- a number without a match
pub wheel-none : (a : Inside) → IsWheel a → (n : ℕ) → get_or a.counts n None ≡ None → unmatched n (wheel_of a) ≡ wheel_of a
wheel-none a w n none = unmatched-none n (wheel_of a) (count-matches a.counts a.given n ∙ w.some n none)

-- the numbers that have matches are below 64
pub matches-low : (counts : List (Option ℕ)) (xs : List ℕ) → ((x : ℕ) → 0 < count_of x xs → x < 64) → All (λ (m : ℕ × ℕ). m.0 < 64) (matches_in counts xs)
matches-low counts [] low = All-nil (λ (m : ℕ × ℕ). m.0 < 64)
matches-low counts (x ∷ xs) low =
    All-cons (λ (m : ℕ × ℕ). m.0 < 64) (match_in counts x) (matches_in counts xs)
    (low x (omega (arith, count-same x x xs refl)))
    (matches-low counts xs (λ y some. low y (elim (eqb_tells x y) [
      | inl e ↦ omega (arith, count-same y x xs e.1)
      | inr e ↦ omega (arith, count-other y x xs e.1)
    ])))

-- an empty wheel
none_at : (n x : ℕ) → get_or (replicate {A = Option ℕ} n None) x None ≡ None
none_at zero x = refl
none_at (suc n) zero = refl
none_at (suc n) (suc x) = none_at n x

pub wheel-empty : (slots : List (ArrayVec Match)) → ((r : ℕ) → slot_at (slots_in slots) r ≡ []) → length slots ≡ 64 → IsWheel (record { slots = slots; counts = replicate 64 None; given = [] })
wheel-empty slots empty count = record {
  numbers = record { once = λ x. omega arith; low = λ x some. absurd (omega arith) };
  none = λ x _. none_at 64 x;
  some = λ x _. refl;
  sizes = (count, refl);
  slots = λ r _. empty r;
}

pub none-from : (o : Option ℕ) → ((n : ℕ) → o ≡ Some n → ⊥) → o ≡ None
none-from None h = refl
none-from (Some n) h = absurd (h n refl)

-- what is read of a slot

pub due-here : (at i : ℕ) (ms : List Match) (d : Match) → i < length ms → (get_or ms i d).at ≡ at → slice_get (due at (pairs (drop i ms))) 0 ≡ Some (get_or ms i d).number
due-here at i ms d h e = ap (λ xs. slice_get (due at (pairs xs)) 0) (drop-cons ms i d h) ∙ first (get_or ms i d) (drop (suc i) ms) e
  where
    first : (m : Match) (rest : List Match) → m.at ≡ at → slice_get (due at (pairs (m ∷ rest))) 0 ≡ Some m.number
    first m rest e = ap (λ b. slice_get (matched (cond b ((m.number, m.at) ∷ filter (λ (n : ℕ × ℕ). n.1 == at) (pairs rest)) (filter (λ (n : ℕ × ℕ). n.1 == at) (pairs rest)))) 0) (eq-eqb m.at at e)

pub due-end : (at i k : ℕ) (ms : List Match) → length ms ≤ i → slice_get (due at (pairs (drop i ms))) k ≡ None
due-end at i k ms h = ap (λ xs. slice_get (due at (pairs xs)) k) (drop_of_length-le ms h)

pub number-low : (a : Inside) → IsWheel a → (r i : ℕ) (ms : List Match) (d : Match) → pairs ms ≡ with_remainder r (wheel_of a) → i < length ms → (get_or ms i d).number < 64
number-low a w r i ms d is h =
    let low = matches-low a.counts a.given w.numbers.low in
    let some = All-filter (λ (m : ℕ × ℕ). m.1 % 64 == r) (λ (m : ℕ × ℕ). m.0 < 64) (wheel_of a) low in
    let all : All (λ (m : ℕ × ℕ). m.0 < 64) (pairs ms) = subst (λ xs. All (λ (m : ℕ × ℕ). m.0 < 64) xs) (sym is) some in
    let long : length (pairs ms) ≡ length ms = length-map ms (λ (m : Match). (m.number, m.at)) in
    subst (λ (m : ℕ × ℕ). m.0 < 64) (get_or-map (λ (m : Match). (m.number, m.at)) ms i d (0, 0) h) (all i (0, 0) (omega arith))

-- no slot has more than 64 matches
pub slot-few : (a : Inside) → IsWheel a → (r : ℕ) (ms : List Match) → pairs ms ≡ with_remainder r (wheel_of a) → length ms ≤ 64
slot-few a w r ms is =
    let long : length (pairs ms) ≡ length ms = length-map ms (λ (m : Match). (m.number, m.at)) in
    let same : length (pairs ms) ≡ length (with_remainder r (wheel_of a)) = ap (λ (xs : List (ℕ × ℕ)). length xs) is in
    let few = length-filter r (wheel_of a) in
    let all = length-matches a.counts a.given in
    let given = numbers-few a.given w.numbers in
    omega arith
