-- Lists of which one element changes, seen by two functions that agree on the others.
use Rattle.std.proofs.Common.{◌≡◌, ◌≢◌, ℕ, zero, suc, ◌<◌, List, [], ◌∷◌, length, map, get_or, set, refl, ap, ◌∙◌, arith}

pub map-alike : {A B : Type 0} (f g : A → B) (xs : List A) (d : A) → ((j : ℕ) → j < length xs → f (get_or xs j d) ≡ g (get_or xs j d)) → map f xs ≡ map g xs
map-alike f g [] d h = refl
map-alike f g (x ∷ xs) d h = ap (λ y. y ∷ map f xs) (h 0 (omega arith)) ∙ ap (λ ys. g x ∷ ys) (map-alike f g xs d (λ j l. h (suc j) (omega (arith, l))))

pub map-set_alike : {A B : Type 0} (f g : A → B) (xs : List A) (i : ℕ) (v d : A) → ((j : ℕ) → j < length xs → j ≢ i → f (get_or xs j d) ≡ g (get_or xs j d)) → map f (set xs i v) ≡ set (map g xs) i (f v)
map-set_alike f g [] i v d h = refl
map-set_alike f g (x ∷ xs) zero v d h = ap (λ ys. f v ∷ ys) (map-alike f g xs d (λ j l. h (suc j) (omega (arith, l)) (λ e. absurd (omega (arith, e)))))
map-set_alike f g (x ∷ xs) (suc i) v d h =
    ap (λ y. y ∷ map f (set xs i v)) (h 0 (omega arith) (λ e. absurd (omega (arith, e))))
    ∙ ap (λ ys. g x ∷ ys) (map-set_alike f g xs i v d (λ j l ne. h (suc j) (omega (arith, l)) (λ e. ne (omega (arith, e)))))
