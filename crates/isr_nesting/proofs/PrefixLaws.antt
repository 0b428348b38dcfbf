-- The least of the first words of a list.
use Rattle.std.proofs.Common.{◌≡◌, ◌⊎◌, ℕ, zero, suc, ◌<◌, ◌≤◌, List, [], ◌∷◌, length, take, refl, subst, arith, inl, inr}
use Rattle.std.specs.Prelude.{min, nat_le, slice_index}
use Rattle.kern_model.proofs.Lemmas.{at_most, above}
use Rattle.isr_nesting.specs.Least.{nothing, least}
use Rattle.isr_nesting.proofs.WaitLaws.{by_test}

pub prefix-lower : (k : ℕ) (xs : List ℕ) (j : ℕ) → j < k → j < length xs → least (take k xs) ≤ slice_index xs j
prefix-lower k [] j h inside = absurd (omega arith)
prefix-lower zero (x ∷ xs) j h inside = absurd (omega arith)
prefix-lower (suc k) (x ∷ xs) zero h inside = omega arith
prefix-lower (suc k) (x ∷ xs) (suc j) h inside = omega (arith, prefix-lower k xs j (omega arith) (omega arith))

pub record IsLeast (k : ℕ) (xs : List ℕ) (best j : ℕ) : Type 0 where
  pub before : j < k
  pub inside : j < length xs
  pub best_is : best ≡ slice_index xs j

later : (k : ℕ) (x : ℕ) (xs : List ℕ) (best : ℕ) → (best ≡ nothing) ⊎ ((j : ℕ) × IsLeast k xs best j) → (best ≡ nothing) ⊎ ((j : ℕ) × IsLeast (suc k) (x ∷ xs) best j)
later k x xs best (inl e) = inl e
later k x xs best (inr f) = inr (suc f.0, record { before = omega (arith, f.1.before); inside = omega (arith, f.1.inside); best_is = f.1.best_is })

pub prefix-attained : (k : ℕ) (xs : List ℕ) → (least (take k xs) ≡ nothing) ⊎ ((j : ℕ) × IsLeast k xs (least (take k xs)) j)
prefix-attained zero [] = inl refl
prefix-attained (suc k) [] = inl refl
prefix-attained zero (x ∷ xs) = inl refl
prefix-attained (suc k) (x ∷ xs) =
    let rest = least (take k xs) in
    by_test (nat_le x rest)
    (λ e. let same : min x rest ≡ x = omega (arith, at_most x rest e) in inr (0, record { before = omega arith; inside = omega arith; best_is = same }))
    (λ e. let same : rest ≡ min x rest = omega (arith, above x rest e) in subst (λ v. (v ≡ nothing) ⊎ ((j : ℕ) × IsLeast (suc k) (x ∷ xs) v j)) same (later k x xs rest (prefix-attained k xs)))
