-- A number is found in a list exactly where it stands there at least once.
use Rattle.std.proofs.Common.{◌≡◌, ℕ, suc, ◌+◌, Bool, true, false, not, ◌||◌, List, [], ◌∷◌, refl, sym, ap, ◌∙◌, if◌then◌else◌, ◌==◌, arith}
use Rattle.std.specs.List.{list_any}
use Rattle.kern_model.specs.State.{count_of, is_zero}

counted : (b : Bool) (n : ℕ) → (b || not (is_zero n)) ≡ not (is_zero ((if b then 1 else 0) + n))
counted true n = let e : 1 + n ≡ suc n = omega arith in ap (λ m. not (is_zero m)) (sym e)
counted false n = let e : 0 + n ≡ n = omega arith in ap (λ m. not (is_zero m)) (sym e)

pub found-counted : (x : ℕ) (ys : List ℕ) → list_any (λ y. y == x) ys ≡ not (is_zero (count_of x ys))
found-counted x [] = refl
found-counted x (y ∷ ys) = ap (λ b. (y == x) || b) (found-counted x ys) ∙ counted (y == x) (count_of x ys)
