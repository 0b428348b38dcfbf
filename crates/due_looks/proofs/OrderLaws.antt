-- The numbers of looks in the order of their moments name the looks in that order.
use Rattle.std.proofs.Common.{◌≡◌, ℕ, zero, suc, ◌+◌, ◌<◌, Bool, true, false, List, [], ◌∷◌, length, get_or, refl, sym, ap, ◌∙◌, subst, arith}
use Rattle.std.specs.Prelude.{All, if◌then◌else◌, ◌==◌, ◌&&◌, not}
use Rattle.std.specs.Ordering.{is_lt, nat_cmp}
use Rattle.std.specs.List.{filter}
use Rattle.std.specs.List.Sorted.{IsPermutation, IsNonDecreasingBy, IsStableByKey, ties}
use Rattle.std.proofs.lemmas.Bool.Decides.{nat_tests}
use Rattle.std.proofs.lemmas.List.{get_or_default}
use Rattle.std.proofs.lemmas.List.Elements.{All-cons, All-tail, filter_agree}
use Rattle.std.proofs.lemmas.List.Sorted.{All-permutation}
use Rattle.inject_list.specs.declared.lists.Look.{Look}
use Rattle.inject_list.specs.declared.lists.Seen.TheVariants.{Ready}
use Rattle.due_looks.specs.declared.queue.Timed.{Timed}
use Rattle.due_looks.specs.Rest.{of_moment}
use Rattle.due_looks.specs.Order.{look_of, looks_of, timed_from, IsOf, IsOrder}

abbrev pub timed_of : ℕ → List Timed → List Timed
timed_of t order = filter (λ x. x.moment == t) order

-- What a stable sort by moments gives.

tie_is : (a b : ℕ) → (not (is_lt (nat_cmp a b)) && not (is_lt (nat_cmp b a))) ≡ (b == a)
tie_is a b = grind (arith, nat_tests)

pub same-moments : (xs ys : List Timed) → IsStableByKey (λ (x : Timed). x.moment) nat_cmp xs ys → (t : ℕ) → timed_of t ys ≡ timed_of t xs
same-moments xs ys stable t =
    let x : Timed = record { moment = t; number = 0 } in
    let tied = ties (λ (a b : Timed). is_lt (nat_cmp a.moment b.moment)) x in
    let agree : (y : Timed) → tied y ≡ (y.moment == t) = λ y. tie_is t y.moment in
    sym (filter_agree tied (λ y. y.moment == t) agree ys) ∙ stable x ∙ filter_agree tied (λ y. y.moment == t) agree xs

module _ (lines : List Look) where
  -- these looks stand in the list from the number n on
  record StandFrom (n : ℕ) (ls : List Look) : Type 0 where
    inside : (k : ℕ) → k < length ls → n + k < length lines
    same : (k : ℕ) → k < length ls → look_of lines (n + k) ≡ look_of ls k

  stand_behind : (n : ℕ) (l : Look) (ls : List Look) → StandFrom n (l ∷ ls) → StandFrom (n + 1) ls
  stand_behind n l ls a =
      record {
        inside = λ k h. omega (arith, a.inside (suc k) (omega arith));
        same = λ k h. let place : n + 1 + k ≡ n + suc k = omega arith in ap (look_of lines) place ∙ a.same (suc k) (omega arith);
      }

  stand_first : (n : ℕ) (l : Look) (ls : List Look) → StandFrom n (l ∷ ls) → look_of lines n ≡ l
  stand_first n l ls a = let place : n ≡ n + 0 = omega arith in ap (look_of lines) place ∙ a.same 0 (omega arith)

  all_stand : StandFrom 0 lines
  all_stand = record { inside = λ k h. omega arith; same = λ k h. let place : 0 + k ≡ k = omega arith in ap (look_of lines) place }

  timed_numbers : (n : ℕ) (ls : List Look) → StandFrom n ls → All (IsOf lines) (timed_from n ls)
  timed_numbers n [] a = λ j d h. absurd (omega arith)
  timed_numbers n (l ∷ ls) a =
      let here : n < length lines = omega (arith, a.inside 0 (omega arith)) in
      All-cons (IsOf lines) (record { moment = l.at; number = n }) (timed_from (n + 1) ls) (here, ap (λ x. x.at) (stand_first n l ls a)) (timed_numbers (n + 1) ls (stand_behind n l ls a))

  timed_looks : (n : ℕ) (ls : List Look) → StandFrom n ls → looks_of lines (timed_from n ls) ≡ ls
  timed_looks n [] a = refl
  timed_looks n (l ∷ ls) a = ap (λ x. x ∷ looks_of lines (timed_from (n + 1) ls)) (stand_first n l ls a) ∙ ap (λ xs. l ∷ xs) (timed_looks (n + 1) ls (stand_behind n l ls a))

  kept_or_not : (b : Bool) (x : Timed) (xs : List Timed) → (if b then look_of lines x.number ∷ looks_of lines xs else looks_of lines xs) ≡ looks_of lines (if b then x ∷ xs else xs)
  kept_or_not true x xs = refl
  kept_or_not false x xs = refl

  -- the looks of one moment are those of its numbers
  moment_looks : (t : ℕ) (order : List Timed) → All (IsOf lines) order → of_moment t (looks_of lines order) ≡ looks_of lines (timed_of t order)
  moment_looks t [] all = refl
  moment_looks t (x ∷ xs) all =
      let l = look_of lines x.number in
      let here : l.at ≡ x.moment = (all 0 x (omega arith)).1 in
      ap (λ m. if m == t then l ∷ of_moment t (looks_of lines xs) else of_moment t (looks_of lines xs)) here
      ∙ ap (λ rest. if x.moment == t then l ∷ rest else rest) (moment_looks t xs (All-tail (IsOf lines) x xs all))
      ∙ kept_or_not (x.moment == t) x (timed_of t xs)

  -- the look at a place
  pub looks-at : (order : List Timed) (j : ℕ) → j < length order → (d : Look) (e : Timed) → get_or (looks_of lines order) j d ≡ look_of lines (get_or order j e).number
  looks-at [] j h d e = absurd (omega arith)
  looks-at (x ∷ xs) zero h d e = refl
  looks-at (x ∷ xs) (suc j) h d e = looks-at xs j (omega arith) d e

  pub look-found : (order : List Timed) (j : ℕ) → All (IsOf lines) order → j < length order → (x : Timed) → x ≡ get_or order j x → (l : Look) → l ≡ get_or lines x.number l → l ≡ get_or (looks_of lines order) j l
  look-found order j all h x same l here =
      let inside : x.number < length lines = subst (λ y. y.number < length lines) (sym same) (all j x h).0 in
      let none : Look = record { at = 0; what = Ready (record { 0 = 0 }) } in
      here ∙ get_or_default lines x.number l none inside ∙ ap (λ y. look_of lines y.number) same ∙ sym (looks-at order j h l x)

  pub moment-at : (order : List Timed) (j : ℕ) → All (IsOf lines) order → j < length order → (d : Look) (e : Timed) → (get_or (looks_of lines order) j d).at ≡ (get_or order j e).moment
  moment-at order j all h d e = ap (λ x. x.at) (looks-at order j h d e) ∙ (all j e h).1

  pub looks-long : (order : List Timed) → length (looks_of lines order) ≡ length order
  looks-long [] = refl
  looks-long (x ∷ xs) = ap (λ n. suc n) (looks-long xs)

  pub order-of : (order : List Timed) → IsPermutation (timed_from 0 lines) order → IsNonDecreasingBy (λ (x : Timed). x.moment) order → IsStableByKey (λ (x : Timed). x.moment) nat_cmp (timed_from 0 lines) order → IsOrder lines order
  order-of order permutation sorted stable =
      let timed = timed_from 0 lines in
      let all : All (IsOf lines) timed = timed_numbers 0 lines all_stand in
      let numbers : All (IsOf lines) order = All-permutation (IsOf lines) timed order permutation all in
      let e : Timed = record { moment = 0; number = 0 } in
      record {
        numbers = numbers;
        in_order = record {
          sorted = λ i j d low h.
              let long : length (looks_of lines order) ≡ length order = looks-long order in
              let first = moment-at order i numbers (omega arith) d e in
              let second = moment-at order j numbers (omega arith) d e in
              let up = sorted i j e low (omega arith) in
              omega (arith, first, second, up);
          same = λ t. moment_looks t order numbers ∙ ap (looks_of lines) (same-moments timed order stable t) ∙ sym (moment_looks t timed all) ∙ ap (of_moment t) (timed_looks 0 lines all_stand);
        };
      }
