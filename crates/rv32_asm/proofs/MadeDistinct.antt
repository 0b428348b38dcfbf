-- Lists in which no element stands twice.
use Rattle.std.proofs.Common.{◌≢◌, List, [], ◌∷◌, ◌++◌, sym, arith}
use Rattle.std.specs.List.{AllByRecursion, AllPairs}
use Rattle.std.proofs.lemmas.List.Elements.{All-from_recursion}
use Rattle.std.proofs.lemmas.List.Kept.{AllPairs-cons}

module _ {X : Type 0} where
  -- each element is none of the later ones
  abbrev pub AreApart : List X → Type 0
  AreApart [] = Unit {0}
  AreApart (x ∷ xs) = AllByRecursion (λ y. x ≢ y) xs × AreApart xs

  -- all of a list, with an element more among them
  pub all_with : (P : X → Type 0) (xs ys : List X) (z : X) → P z → AllByRecursion P (xs ++ ys) → AllByRecursion P (xs ++ z ∷ ys)
  all_with P [] ys z p h = (p, h)
  all_with P (x ∷ xs) ys z p h = (h.0, all_with P xs ys z p h.1)

  -- an element that is none of a list, among them
  pub apart_with : (xs ys : List X) (z : X) → AllByRecursion (λ y. y ≢ z) (xs ++ ys) → AreApart (xs ++ ys) → AreApart (xs ++ z ∷ ys)
  apart_with [] ys z new h = (turned ys new, h)
    where
      turned : (us : List X) → AllByRecursion (λ y. y ≢ z) us → AllByRecursion (λ y. z ≢ y) us
      turned [] k = tt
      turned (u ∷ us) k = (λ e. k.0 (sym e), turned us k.1)
  apart_with (x ∷ xs) ys z new h = (all_with (λ y. x ≢ y) xs ys z new.0 h.0, apart_with xs ys z new.1 h.1)

  -- what each element has, weakened
  pub all_weaker : (P Q : X → Type 0) → ((x : X) → P x → Q x) → (xs : List X) → AllByRecursion P xs → AllByRecursion Q xs
  all_weaker P Q f [] h = tt
  all_weaker P Q f (x ∷ xs) h = (f x h.0, all_weaker P Q f xs h.1)

  no_pairs : (R : X → X → Type 0) → AllPairs R []
  no_pairs R i j d a b = absurd (omega arith)

  -- then no two places have the same element
  pub pairs_apart : (xs : List X) → AreApart xs → AllPairs (λ m n. m ≢ n) xs
  pairs_apart [] h = no_pairs (λ m n. m ≢ n)
  pairs_apart (x ∷ xs) h = AllPairs-cons (λ m n. m ≢ n) x xs (All-from_recursion (λ y. x ≢ y) xs h.0) (pairs_apart xs h.1)
