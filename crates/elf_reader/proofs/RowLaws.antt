-- Laws of rows of values.
use Rattle.std.proofs.Common.{◌≡◌, ℕ, zero, suc, ◌+◌, ◌-◌, ◌*◌, ◌<◌, ◌∷◌, refl, sym, ap, ◌∙◌, arith, Bool, false, ◌||◌}
use Rattle.std.specs.Prelude.{fold}
use Rattle.std.specs.List.{list_any}
use Rattle.app_image.specs.Fields.{rows}

-- the next row from place 0 on, and those behind it
pub rows_next0 : {T : Type 0} (f : ℕ → T) (size n k : ℕ) → k < n → rows f size (n - k) (size * k) ≡ f (size * k) ∷ rows f size (n - (k + 1)) (size * (k + 1))
rows_next0 f size n k h =
    let e : n - k ≡ suc (n - (k + 1)) = omega arith in
    let p : size * k + size ≡ size * (k + 1) = omega arith in
    ap (λ m. rows f size m (size * k)) e ∙ ap (λ q. f (size * k) ∷ rows f size (n - (k + 1)) q) p

-- a row that does not pass, and those behind it
pub any_next0 : {T : Type 0} (p : T → Bool) (f : ℕ → T) (size n k : ℕ) → k < n → p (f (size * k)) ≡ false
    → list_any p (rows f size (n - (k + 1)) (size * (k + 1))) ≡ list_any p (rows f size (n - k) (size * k))
any_next0 p f size n k h e =
    sym (ap (list_any p) (rows_next0 f size n k h) ∙ ap (λ b. b || list_any p (rows f size (n - (k + 1)) (size * (k + 1)))) e)

pub any_next1 : (p : ℕ → Bool) (n k at : ℕ) → k < n → p (at + k) ≡ false
    → list_any p (rows (λ i. i) 1 (n - (k + 1)) (at + (k + 1))) ≡ list_any p (rows (λ i. i) 1 (n - k) (at + k))
any_next1 p n k at h e =
    let m : n - k ≡ suc (n - (k + 1)) = omega arith in
    let q : (at + k) + 1 ≡ at + (k + 1) = omega arith in
    sym (ap (λ j. list_any p (rows (λ i. i) 1 j (at + k))) m ∙ ap (λ b. b || list_any p (rows (λ i. i) 1 (n - (k + 1)) ((at + k) + 1))) e ∙ ap (λ j. list_any p (rows (λ i. i) 1 (n - (k + 1)) j)) q)

-- a row added by a fold, and those behind it
pub fold_next0 : {T U : Type 0} (g : U → T → U) (u : U) (f : ℕ → T) (size n k : ℕ) → k < n
    → fold g u (rows f size (n - k) (size * k)) ≡ fold g (g u (f (size * k))) (rows f size (n - (k + 1)) (size * (k + 1)))
fold_next0 g u f size n k h = ap (fold g u) (rows_next0 f size n k h)

-- rows that are the same one by one
pub rows_same : {T : Type 0} (f g : ℕ → T) (size n a b : ℕ) → ((k : ℕ) → k < n → f (a + size * k) ≡ g (b + size * k)) → rows f size n a ≡ rows g size n b
rows_same f g size zero a b h = refl
rows_same f g size (suc n) a b h =
    let fa : a ≡ a + size * 0 = omega arith in
    let gb : b + size * 0 ≡ b = omega arith in
    let head : f a ≡ g b = ap f fa ∙ h 0 (omega arith) ∙ ap g gb in
    let rest : rows f size n (a + size) ≡ rows g size n (b + size) = rows_same f g size n (a + size) (b + size) (λ k l.
    let fk : (a + size) + size * k ≡ a + size * suc k = omega arith in
    let gk : b + size * suc k ≡ (b + size) + size * k = omega arith in
    ap f fk ∙ h (suc k) (omega arith) ∙ ap g gk) in
    ap (λ x. x ∷ rows f size n (a + size)) head ∙ ap (λ l. g b ∷ l) rest

-- whether some of two rows pass, the same one by one
pub any_same : (p q : ℕ → Bool) (n a b : ℕ) → ((k : ℕ) → k < n → p (a + k) ≡ q (b + k)) → list_any p (rows (λ i. i) 1 n a) ≡ list_any q (rows (λ i. i) 1 n b)
any_same p q zero a b h = refl
any_same p q (suc n) a b h =
    let pa : a ≡ a + 0 = omega arith in
    let qb : b + 0 ≡ b = omega arith in
    let head : p a ≡ q b = ap p pa ∙ h 0 (omega arith) ∙ ap q qb in
    let rest : list_any p (rows (λ i. i) 1 n (a + 1)) ≡ list_any q (rows (λ i. i) 1 n (b + 1)) = any_same p q n (a + 1) (b + 1) (λ k l.
    let pk : (a + 1) + k ≡ a + suc k = omega arith in
    let qk : b + suc k ≡ (b + 1) + k = omega arith in
    ap p pk ∙ h (suc k) (omega arith) ∙ ap q qk) in
    ap (λ x. x || list_any p (rows (λ i. i) 1 n (a + 1))) head ∙ ap (λ l. q b || l) rest
