-- What a line without a cause is.
use Rattle.std.proofs.Common.{◌≡◌, ℕ, List, [], ◌∷◌, Bool, true, false, cond, refl}
use Rattle.std.specs.Prelude.{Some, None, not}
use Rattle.std.specs.List.{find, list_any}
use Rattle.std.proofs.lemmas.Bool.{or_from}
use Rattle.asm_lines.specs.Language.{Line}
use Rattle.asm_places.specs.Names.{Names}
use Rattle.asm_causes.specs.Places.{bytes_of}
use Rattle.asm_places.specs.Operands.{registers_in}
use Rattle.asm_causes.specs.Causes.{is_register, has_constant_out_of_range, has_undefined, has_wrong_kind, has_far_target, has_long_name, is_too_many, is_defined_twice, has_early, early_causes, is_early}
use Rattle.asm_causes.specs.Refusal.{overfills_code, overfills_ram, has, causes, cause_of}
use Rattle.asm_places.specs.Counts.{Counts}
use Rattle.asm_places.specs.Place.{Place}
use Rattle.asm_causes.specs.declared.causes.AsmCause.{AsmCause}

-- none of some causes
abbrev pub NoneOf : (AsmCause → Bool) → List AsmCause → Type 0
NoneOf p [] = Unit {0}
NoneOf p (x ∷ xs) = (p x ≡ false) × NoneOf p xs

none_by : (p : AsmCause → Bool) (x : AsmCause) (xs : List AsmCause) (b : Bool) → p x ≡ b → (find p xs ≡ None → NoneOf p xs) → cond b (Some x) (find p xs) ≡ None → (p x ≡ false) × NoneOf p xs
none_by p x xs true e h f = absurd cc
none_by p x xs false e h f = (e, h f)

pub none_of : (p : AsmCause → Bool) (xs : List AsmCause) → find p xs ≡ None → NoneOf p xs
none_of p [] f = tt
none_of p (x ∷ xs) f = none_by p x xs (p x) refl (none_of p xs) f

-- a line that has no cause
pub record IsFree (names : Names) (places : List Place) (c : Counts) (p : Place) (l : Line) : Type 0 where
  pub registers : list_any (λ r. not (is_register r)) (registers_in l.statement) ≡ false
  pub constant : has_constant_out_of_range names l.statement ≡ false
  pub target : has_far_target names places p l.statement ≡ false
  pub name : has_long_name l.statement ≡ false
  pub twice : is_defined_twice names c l ≡ false
  pub undefined : has_undefined names l.statement ≡ false
  pub kind : has_wrong_kind names l.statement ≡ false
  pub code : overfills_code p p.section (bytes_of names c p.section l) ≡ false
  pub ram : overfills_ram p p.section (bytes_of names c p.section l) ≡ false
  pub count : is_too_many c l.statement ≡ false
  pub early : is_early names c p.section l ≡ false

-- where no element passes, none of them does
any_of : (q : AsmCause → Bool) (xs : List AsmCause) → NoneOf q xs → list_any q xs ≡ false
any_of q [] h = refl
any_of q (x ∷ xs) h = or_from (q x) (list_any q xs) h.0 (any_of q xs h.1)

pub is_free : (names : Names) (places : List Place) (c : Counts) (p : Place) (l : Line) → cause_of names places c p l ≡ None → IsFree names places c p l
is_free names places c p l e =
    let n = none_of (has names places c p l) causes e in
    let late = n.1.1.1.1.1.1.1.1.1.1.1 in
    let early : NoneOf (has_early names c p.section l) early_causes = (n.0, (n.1.0, (n.1.1.0, (n.1.1.1.0, (n.1.1.1.1.0, (n.1.1.1.1.1.0, (n.1.1.1.1.1.1.0, (n.1.1.1.1.1.1.1.0, (late.0, (late.1.0, (late.1.1.0, tt))))))))))) in
    record {
      registers = n.1.1.0;
      constant = n.1.1.1.0;
      target = n.1.1.1.1.1.1.1.1.0;
      name = late.0;
      twice = n.1.1.1.1.0;
      undefined = n.1.1.1.1.1.0;
      kind = n.1.1.1.1.1.1.0;
      code = n.1.1.1.1.1.1.1.1.1.0;
      ram = n.1.1.1.1.1.1.1.1.1.1.0;
      count = late.1.1.0;
      early = any_of (has_early names c p.section l) early_causes early;
    }
