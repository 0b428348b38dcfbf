-- The registers of a frame with an answer.
use Rattle.machine_laws.proofs.Common.{◌≡◌, ℕ, refl, List, [], false, ◌∙◌, ◌∷◌, sym, subst, inl, inr, suc, zero, ◌==◌, slice_set, length-set, Registers, read}
use Rattle.std.specs.Prelude.{◌||◌}
use Rattle.std.proofs.lemmas.Bool.{or_parts, or_from, eqb-false, ne_eqb, cases_eq, cases_Bool}
use Rattle.std.proofs.lemmas.List.{get_or-set_other}
use Rattle.kern_base.specs.declared.outcomes.Answer.{Answer}
use Rattle.kern_base.specs.Errors.{error_number}
use Rattle.kern_model.specs.State.{without}
use Rattle.rv32_exec.specs.Registers.{written}
use Rattle.machine_model.specs.Marks.{post_marks}
use Rattle.machine_model.specs.Interrupts.{told}
use Rattle.method_law.specs.Alike.{has_mark, AgreeBut}
use Rattle.method_law.proofs.Registers.Marks.{agree-written}

-- only a0 and a1 are marked
abbrev pub WithinPost : List ℕ → Type 0
WithinPost marks = (r : ℕ) → has_mark post_marks r ≡ false → has_mark marks r ≡ false

-- no mark comes by taking one away, and that one is gone
pub still-unmarked : (w r : ℕ) (marks : List ℕ) → has_mark marks r ≡ false → has_mark (without w marks) r ≡ false
still-unmarked w r [] h = refl
still-unmarked w r (m ∷ ms) h =
    let parts = or_parts (m == r) (has_mark ms r) h in
    let rest = still-unmarked w r ms parts.1 in
    elim (cases_Bool (m == w)) as (λ _. has_mark (without w (m ∷ ms)) r ≡ false) [
      | inl e ↦ rw e rest
      | inr e ↦ rw e (or_from (m == r) (has_mark (without w ms) r) parts.0 rest)
    ]

pub gone-unmarked : (w : ℕ) (marks : List ℕ) → has_mark (without w marks) w ≡ false
gone-unmarked w [] = refl
gone-unmarked w (m ∷ ms) =
    let rest = gone-unmarked w ms in
    elim (cases_Bool (m == w)) as (λ _. has_mark (without w (m ∷ ms)) w ≡ false) [
      | inl e ↦ rw e rest
      | inr e ↦ rw e (or_from (m == w) (has_mark (without w ms) w) e rest)
    ]

pub within-without : (w : ℕ) (marks : List ℕ) → WithinPost marks → WithinPost (without w marks)
within-without w marks h r e = still-unmarked w r marks (h r e)

-- other registers than a0 and a1 have no mark of a post
unmarked-others : (r : ℕ) → (10 ≡ r → ⊥) → (11 ≡ r → ⊥) → has_mark post_marks r ≡ false
unmarked-others r d e = or_from (10 == r) ((11 == r) || false) (ne_eqb 10 r d) (or_from (11 == r) false (ne_eqb 11 r e) refl)

-- the same answer in registers that agree but for a0 and a1
pub told-same : (marks : List ℕ) (a b : Registers) (v : Answer) → AgreeBut marks a b → WithinPost marks → AgreeBut [] (told v a) (told v b)
told-same marks a b v same within =
    let n = error_number v.err in
    let one = agree-written marks 10 n a.pc b.pc a b same.pc same in
    let two = agree-written (without 10 marks) 11 v.value a.pc b.pc (record { pc = a.pc; x = written a.x 10 n }) (record { pc = b.pc; x = written b.x 10 n }) same.pc one in
    let none : (r : ℕ) → has_mark (without 11 (without 10 marks)) r ≡ false
    = λ r. elim (cases_eq 11 r) as (λ _. has_mark (without 11 (without 10 marks)) r ≡ false) [
      | inl e ↦ subst (λ x. has_mark (without 11 (without 10 marks)) x ≡ false) e (gone-unmarked 11 (without 10 marks))
      | inr d ↦ still-unmarked 11 r (without 10 marks) (elim (cases_eq 10 r) as (λ _. has_mark (without 10 marks) r ≡ false) [
        | inl e ↦ subst (λ x. has_mark (without 10 marks) x ≡ false) e (gone-unmarked 10 marks)
        | inr e ↦ still-unmarked 10 r marks (within r (unmarked-others r e d))
      ])
    ] in
    record { pc = same.pc; count = two.count; unmarked = λ r h. two.unmarked r (none r) }

-- any answers
pub told-other : (marks : List ℕ) (a b : Registers) (v w : Answer) → AgreeBut marks a b → WithinPost marks → AgreeBut post_marks (told v a) (told w b)
told-other marks a b v w same within =
    let a1 : List ℕ = slice_set a.x 10 (error_number v.err) in
    let b1 : List ℕ = slice_set b.x 10 (error_number w.err) in
    let unmarked : (r : ℕ) → has_mark post_marks r ≡ false → read (told v a) r ≡ read (told w b) r
    = λ r. elim r as (λ m. has_mark post_marks m ≡ false → read (told v a) m ≡ read (told w b) m) [
      | zero ↦ λ h. refl
      | suc m ↦ λ h.
          let parts = or_parts (10 == suc m) ((11 == suc m) || false) h in
          let not10 : suc m ≡ 10 → ⊥ = λ e. eqb-false 10 (suc m) parts.0 (sym e) in
          let not11 : suc m ≡ 11 → ⊥ = λ e. eqb-false 11 (suc m) (or_parts (11 == suc m) false parts.1).0 (sym e) in
          get_or-set_other a1 11 (suc m) v.value 0 not11 ∙ get_or-set_other a.x 10 (suc m) (error_number v.err) 0 not10
          ∙ same.unmarked (suc m) (within (suc m) h)
          ∙ sym (get_or-set_other b1 11 (suc m) w.value 0 not11 ∙ get_or-set_other b.x 10 (suc m) (error_number w.err) 0 not10)
    ] in
    record {
      pc = same.pc;
      count = length-set a1 11 v.value ∙ length-set a.x 10 (error_number v.err) ∙ same.count ∙ sym (length-set b1 11 w.value ∙ length-set b.x 10 (error_number w.err));
      unmarked = unmarked;
    }
