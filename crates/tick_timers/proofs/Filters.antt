-- Matches that are kept or left out.
use Rattle.std.proofs.Common.{◌≡◌, ◌≢◌, ℕ, List, [], ◌∷◌, refl, sym, ap, ◌∙◌, Bool, true, false, cond, not, arith, inl, inr, filter}
use Rattle.std.specs.Prelude.{◌%◌, ◌==◌}
use Rattle.std.proofs.lemmas.Bool.{eqb-true, eq-eqb, ne_eqb, false≢true}
use Rattle.std.proofs.lemmas.Bool.Decides.{eqb_tells}
use Rattle.kern_model.specs.State.{count_of}
use Rattle.kern_model.specs.Effect.{unmatched}
use Rattle.kern_model.specs.Time.{due}
use Rattle.kern_model.specs.Valid.{matched}
use Rattle.tick_timers.specs.Matches.{with_remainder}
use Rattle.tick_timers.proofs.Given.{count-same, count-other}

-- two filters in either order
pub filter-filter : {X : Type 0} (p q : X → Bool) (xs : List X) → filter p (filter q xs) ≡ filter q (filter p xs)
filter-filter p q [] = refl
filter-filter {X} p q (x ∷ xs) = both (p x) (q x) refl refl (filter-filter p q xs)
  where
    both : (b c : Bool) → p x ≡ b → q x ≡ c → filter p (filter q xs) ≡ filter q (filter p xs) → filter p (filter q (x ∷ xs)) ≡ filter q (filter p (x ∷ xs))
    both b c e f rest =
        ap (λ c. filter p (cond c (x ∷ filter q xs) (filter q xs))) f ∙ inner b c e f rest ∙ sym (ap (λ b. filter q (cond b (x ∷ filter p xs) (filter p xs))) e)
      where
        inner : (b c : Bool) → p x ≡ b → q x ≡ c → filter p (filter q xs) ≡ filter q (filter p xs) → filter p (cond c (x ∷ filter q xs) (filter q xs)) ≡ filter q (cond b (x ∷ filter p xs) (filter p xs))
        inner true true e f rest = ap (λ b. cond b (x ∷ filter p (filter q xs)) (filter p (filter q xs))) e ∙ ap (λ ys. x ∷ ys) rest ∙ sym (ap (λ c. cond c (x ∷ filter q (filter p xs)) (filter q (filter p xs))) f)
        inner true false e f rest = rest ∙ sym (ap (λ c. cond c (x ∷ filter q (filter p xs)) (filter q (filter p xs))) f)
        inner false true e f rest = ap (λ b. cond b (x ∷ filter p (filter q xs)) (filter p (filter q xs))) e ∙ rest
        inner false false e f rest = rest

-- all pass where a filter keeps what another keeps
pub filter-inside : {X : Type 0} (p q : X → Bool) → ((x : X) → p x ≡ true → q x ≡ true) → (xs : List X) → filter p (filter q xs) ≡ filter p xs
filter-inside p q h [] = refl
filter-inside p q h (x ∷ xs) = both (p x) (q x) refl refl (filter-inside p q h xs)
  where
    both : (b c : Bool) → p x ≡ b → q x ≡ c → filter p (filter q xs) ≡ filter p xs → filter p (cond (q x) (x ∷ filter q xs) (filter q xs)) ≡ cond (p x) (x ∷ filter p xs) (filter p xs)
    both b true e f rest =
        ap (λ c. filter p (cond c (x ∷ filter q xs) (filter q xs))) f ∙ ap (λ ys. cond (p x) (x ∷ ys) ys) rest
    both true false e f rest = let t = h x e in absurd (false≢true (sym f ∙ t))
    both false false e f rest =
        ap (λ c. filter p (cond c (x ∷ filter q xs) (filter q xs))) f ∙ rest ∙ sym (ap (λ b. cond b (x ∷ filter p xs) (filter p xs)) e)

-- what is due at a count stands in the slot of its remainder
pub due-slot : (at : ℕ) (ms : List (ℕ × ℕ)) → due at (with_remainder (at % 64) ms) ≡ due at ms
due-slot at ms = ap (λ xs. matched xs) (filter-inside (λ (m : ℕ × ℕ). m.1 == at) (λ (m : ℕ × ℕ). m.1 % 64 == at % 64) same ms)
  where
    same : (m : ℕ × ℕ) → (m.1 == at) ≡ true → (m.1 % 64 == at % 64) ≡ true
    same m e = eq-eqb (m.1 % 64) (at % 64) (ap (λ n. n % 64) (eqb-true m.1 at e))

-- a number keeps the matches of others
unmatched-other : (x : ℕ) (m : ℕ × ℕ) (ms : List (ℕ × ℕ)) → m.0 ≢ x → unmatched x (m ∷ ms) ≡ m ∷ unmatched x ms
unmatched-other x m ms ne = ap (λ b. cond (not b) (m ∷ unmatched x ms) (unmatched x ms)) (ne_eqb m.0 x ne)

-- a number without a match has none to lose
pub unmatched-none : (x : ℕ) (ms : List (ℕ × ℕ)) → count_of x (matched ms) ≡ 0 → unmatched x ms ≡ ms
unmatched-none x [] h = refl
unmatched-none x (m ∷ ms) h =
    elim (eqb_tells m.0 x) [
      | inl e ↦ absurd (omega (arith, count-same x m.0 (matched ms) e.1))
      | inr e ↦ unmatched-other x m ms e.1 ∙ ap (λ xs. m ∷ xs) (unmatched-none x ms (sym (count-other x m.0 (matched ms) e.1) ∙ h))
    ]
