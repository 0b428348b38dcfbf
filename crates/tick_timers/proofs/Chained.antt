-- A chain of numbers after one is given or taken back.
use Rattle.std.proofs.Common.{◌≡◌, ℕ, ◌+◌, ◌<◌, List, [], ◌∷◌, ◌++◌, length, drop, get_or, insert, refl, sym, ap, subst, ◌∙◌, arith, take_all, get_or-set_same, drop_of_length-le}
use Rattle.std.specs.Prelude.{if◌then◌else◌, ◌==◌}
use Rattle.std.proofs.lemmas.List.Sums.{sum_by-cons}
use Rattle.kern_model.specs.State.{count_of}
use Rattle.links.specs.Nodes.{AreOwn}
use Rattle.links.specs.Chain.{times, total, list_at, AreChained, forward_lists, back_lists, last_of, node_before, inserted, left, without, linked_after, unlinked_after}
use Rattle.links.proofs.Both.{forward_count, last_read, forward_once, forward_low, fresh}
use Rattle.links.proofs.Steps.{forward-inserted, back-inserted, forward-left, back-left}
use Rattle.tick_timers.specs.Matches.{AreNumbers}
use Rattle.tick_timers.specs.GivingView.{given_by, IsGiven}

count-times : (x : ℕ) (xs : List ℕ) → count_of x xs ≡ times x xs
count-times x [] = refl
count-times x (y ∷ xs) = ap (λ k. (if y == x then 1 else 0) + k) (count-times x xs)

-- of one list alone
total-one : (y : ℕ) (lists : List (List ℕ)) → length lists ≡ 1 → total y lists ≡ times y (list_at lists 0)
total-one y [] e = absurd (omega arith)
total-one y (xs ∷ []) e = sum_by-cons (times y) xs [] ∙ zero-right (times y xs)
  where
    zero-right : (k : ℕ) → k + 0 ≡ k
    zero-right k = omega arith
total-one y (xs ∷ ys ∷ lists) e = absurd (omega arith)

insert-last : (xs : List ℕ) (y : ℕ) → insert xs (length xs) y ≡ xs ++ y ∷ []
insert-last xs y =
    ap (λ us. us ++ y ∷ drop (length xs) xs) (take_all (length xs) xs (omega arith))
    ∙ ap (λ vs. xs ++ y ∷ vs) (drop_of_length-le xs (omega arith))

-- nothing is given
pub given-none : (n m : List ℕ) → AreOwn 65 n → AreOwn 65 m → IsGiven n m × (given_by n ≡ [])
given-none n m own_n own_m =
    let e = fresh 64 1 n m own_n own_m in
    (record { chained = e.2; whole = e.0 ∙ sym e.1 }, ap (λ ls. list_at ls 0) e.0)

module _ (n m : List ℕ) (r : IsGiven n m) where
  pub given-numbers : AreNumbers (given_by n)
  given-numbers = record {
    once = λ x. let e = count-times x (given_by n) in let o = forward_once 64 1 n m r.chained 0 x (omega arith) in omega arith;
    low = λ x some. let e = count-times x (given_by n) in forward_low 64 1 n m r.chained 0 x (omega arith) (omega arith);
  }

  total-given : (y : ℕ) → total y (forward_lists 64 1 n) ≡ count_of y (given_by n)
  total-given y = total-one y (forward_lists 64 1 n) (forward_count 64 1 n m r.chained) ∙ sym (count-times y (given_by n))

  -- one more is given, as the last
  module _ (y c a : ℕ) (low : y < 64) (none : count_of y (given_by n) ≡ 0) (last : c ≡ get_or m 64 0) (behind : a ≡ get_or (linked_after n c y) y 0) where
    first-link : (forward_lists 64 1 (linked_after n c y) ≡ inserted (forward_lists 64 1 n) 0 (length (given_by n)) y) × AreChained 64 1 (linked_after n c y) m
    first-link =
        let ends : get_or m 64 0 ≡ last_of 64 (given_by n) = last_read 64 1 n m r.chained 0 (omega arith) ∙ ap (λ ls. last_of 64 (list_at ls 0)) (sym r.whole) in
        let place : c ≡ node_before 64 (given_by n) (length (given_by n)) = last ∙ ends ∙ ap (last_of 64) (sym (take_all (length (given_by n)) (given_by n) (omega arith))) in
        forward-inserted 64 1 n m r.chained 0 y (length (given_by n)) c (omega arith) low (total-given y ∙ none) place

    second-link : (back_lists 64 1 (linked_after m a y) ≡ inserted (back_lists 64 1 m) 0 (length (given_by n)) y) × AreChained 64 1 (linked_after n c y) (linked_after m a y)
    second-link =
        let half : forward_lists 64 1 (linked_after n c y) ≡ inserted (back_lists 64 1 m) 0 (length (given_by n)) y = first-link.0 ∙ ap (λ ls. inserted ls 0 (length (given_by n)) y) r.whole in
        let nowhere : total y (back_lists 64 1 m) ≡ 0 = ap (total y) (sym r.whole) ∙ total-given y ∙ none in
        back-inserted 64 1 (linked_after n c y) m first-link.1 0 y (length (given_by n)) a (omega arith) low half nowhere behind

    pub given-more : IsGiven (linked_after n c y) (linked_after m a y)
    given-more = record {
      chained = second-link.1;
      whole = first-link.0 ∙ ap (λ ls. inserted ls 0 (length (given_by n)) y) r.whole ∙ sym second-link.0;
    }

    pub given-push : given_by (linked_after n c y) ≡ given_by n ++ y ∷ []
    given-push =
        let one = forward_count 64 1 n m r.chained in
        ap (λ ls. list_at ls 0) first-link.0
        ∙ get_or-set_same (forward_lists 64 1 n) 0 (insert (given_by n) (length (given_by n)) y) [] (omega arith)
        ∙ insert-last (given_by n) y

  -- one is taken back
  module _ (y b a : ℕ) (some : 0 < count_of y (given_by n)) (before : b ≡ get_or m y 0) (behind : a ≡ get_or (unlinked_after n b y) b 0) where
    stands : 0 < times y (given_by n)
    stands = let e = count-times y (given_by n) in omega arith

    first-unlink : (forward_lists 64 1 (unlinked_after n b y) ≡ left (forward_lists 64 1 n) 0 y) × AreChained 64 1 (unlinked_after n b y) m
    first-unlink =
        let all = total-given y in
        let e = forward-left 64 1 n m r.chained y b r.whole (omega arith) before in
        (e.0 0 (omega arith) stands, e.2)

    second-unlink : (back_lists 64 1 (unlinked_after m a y) ≡ left (back_lists 64 1 m) 0 y) × AreChained 64 1 (unlinked_after n b y) (unlinked_after m a y)
    second-unlink =
        let half : forward_lists 64 1 (unlinked_after n b y) ≡ left (back_lists 64 1 m) 0 y = first-unlink.0 ∙ ap (λ ls. left ls 0 y) r.whole in
        let back : 0 < times y (list_at (back_lists 64 1 m) 0) = subst (λ ls. 0 < times y (list_at ls 0)) r.whole stands in
        back-left 64 1 (unlinked_after n b y) m first-unlink.1 0 y b a (omega arith) half back before behind

    pub given-fewer : IsGiven (unlinked_after n b y) (unlinked_after m a y)
    given-fewer = record {
      chained = second-unlink.1;
      whole = first-unlink.0 ∙ ap (λ ls. left ls 0 y) r.whole ∙ sym second-unlink.0;
    }

    pub given-out : given_by (unlinked_after n b y) ≡ without y (given_by n)
    given-out =
        let one = forward_count 64 1 n m r.chained in
        ap (λ ls. list_at ls 0) first-unlink.0
        ∙ get_or-set_same (forward_lists 64 1 n) 0 (without y (given_by n)) [] (omega arith)
