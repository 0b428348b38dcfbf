-- Registers that agree but for marked ones, and marks that come and go.
use Rattle.machine_laws.proofs.Common.{◌≡◌, Bool, ℕ, refl, true, List, [], false, ◌∙◌, ◌∷◌, sym, arith, subst, ◌≤◌, inl, inr, suc, zero, ◌<◌, ◌==◌, not, slice_set, length-set, Registers, read}
use Rattle.std.specs.Prelude.{◌||◌, cond, slice_index}
use Rattle.std.proofs.Common.{length}
use Rattle.std.proofs.Math.ListN.{get_or-eq_default}
use Rattle.std.proofs.lemmas.Bool.{or_parts, or_from, eqb-true, ne_eqb, cases_eq, cases_lt}
use Rattle.std.proofs.lemmas.List.{get_or-set_same, get_or-set_other}
use Rattle.kern_model.specs.State.{without}
use Rattle.rv32_exec.specs.Registers.{written}
use Rattle.machine_model.specs.Marks.{is_marked}
use Rattle.method_law.specs.Alike.{has_mark, AgreeBut}

-- the first of these registers has no mark, nor have the others
pub first-unmarked : (marks : List ℕ) (r : ℕ) (rs : List ℕ) → is_marked marks (r ∷ rs) ≡ false → has_mark marks r ≡ false
first-unmarked marks r rs h = (or_parts (has_mark marks r) (is_marked marks rs) h).0

pub rest-unmarked : (marks : List ℕ) (r : ℕ) (rs : List ℕ) → is_marked marks (r ∷ rs) ≡ false → is_marked marks rs ≡ false
rest-unmarked marks r rs h = (or_parts (has_mark marks r) (is_marked marks rs) h).1

-- no mark of another register goes
pub mark-stays : (rd r : ℕ) (marks : List ℕ) → (rd ≡ r → ⊥) → has_mark (without rd marks) r ≡ false → has_mark marks r ≡ false
mark-stays rd r [] d h = refl
mark-stays rd r (m ∷ ms) d h =
    let by : (b : Bool) → (m == rd) ≡ b → has_mark (cond (not b) (m ∷ without rd ms) (without rd ms)) r ≡ false → ((m == r) || has_mark ms r) ≡ false
    = λ b. elim b as (λ c. (m == rd) ≡ c → has_mark (cond (not c) (m ∷ without rd ms) (without rd ms)) r ≡ false → ((m == r) || has_mark ms r) ≡ false) [
      | true ↦ λ e i. or_from (m == r) (has_mark ms r) (ne_eqb m r (λ f. d (sym (eqb-true m rd e) ∙ f))) (mark-stays rd r ms d i)
      | false ↦ λ e i. let parts = or_parts (m == r) (has_mark (without rd ms) r) i in or_from (m == r) (has_mark ms r) parts.0 (mark-stays rd r ms d parts.1)
    ] in
    by (m == rd) refl h

-- x0 reads 0 whatever its mark
pub agree-without_x0 : (marks : List ℕ) (a b : Registers) → AgreeBut marks a b → AgreeBut (without 0 marks) a b
agree-without_x0 marks a b h =
    let unmarked : (r : ℕ) → has_mark (without 0 marks) r ≡ false → read a r ≡ read b r
    = λ r. elim r as (λ n. has_mark (without 0 marks) n ≡ false → read a n ≡ read b n) [
      | zero ↦ λ e. refl
      | suc n ↦ λ e. h.unmarked (suc n) (mark-stays 0 (suc n) marks (λ d. omega (arith, d)) e)
    ] in
    record { pc = h.pc; count = h.count; unmarked = unmarked }

-- a list read at a place that is written, or at another
set-here : (x y : List ℕ) (i v : ℕ) → length x ≡ length y → slice_index (slice_set x i v) i ≡ slice_index (slice_set y i v) i
set-here x y i v e =
    elim (cases_lt i (length x)) as (λ _. slice_index (slice_set x i v) i ≡ slice_index (slice_set y i v) i) [
      | inl l ↦ get_or-set_same x i v 0 l ∙ sym (get_or-set_same y i v 0 (subst (λ n. i < n) e l))
      | inr l ↦ get_or-eq_default (slice_set x i v) 0 (subst (λ n. n ≤ i) (sym (length-set x i v)) l)
          ∙ sym (get_or-eq_default (slice_set y i v) 0 (subst (λ n. n ≤ i) (e ∙ sym (length-set y i v)) l))
    ]

-- the same word written to the same register of both, which then has no mark
pub agree-written : (marks : List ℕ) (rd v p q : ℕ) (a b : Registers) → p ≡ q → AgreeBut marks a b → AgreeBut (without rd marks) (record { pc = p; x = written a.x rd v }) (record { pc = q; x = written b.x rd v })
agree-written marks zero v p q a b e h =
    let s = agree-without_x0 marks a b h in
    record { pc = e; count = s.count; unmarked = s.unmarked }
agree-written marks (suc d) v p q a b e h =
    let rd = suc d in
    let unmarked : (r : ℕ) → has_mark (without rd marks) r ≡ false → read (record { pc = p; x = slice_set a.x rd v }) r ≡ read (record { pc = q; x = slice_set b.x rd v }) r
    = λ r. elim r as (λ n. has_mark (without rd marks) n ≡ false → read (record { pc = p; x = slice_set a.x rd v }) n ≡ read (record { pc = q; x = slice_set b.x rd v }) n) [
      | zero ↦ λ f. refl
      | suc n ↦ λ f. elim (cases_eq rd (suc n)) as (λ _. slice_index (slice_set a.x rd v) (suc n) ≡ slice_index (slice_set b.x rd v) (suc n)) [
        | inl s ↦ subst (λ m. slice_index (slice_set a.x rd v) m ≡ slice_index (slice_set b.x rd v) m) s (set-here a.x b.x rd v h.count)
        | inr s ↦ get_or-set_other a.x rd (suc n) v 0 (λ t. s (sym t))
            ∙ h.unmarked (suc n) (mark-stays rd (suc n) marks s f)
            ∙ sym (get_or-set_other b.x rd (suc n) v 0 (λ t. s (sym t)))
      ]
    ] in
    record { pc = e; count = length-set a.x rd v ∙ h.count ∙ sym (length-set b.x rd v); unmarked = unmarked }
