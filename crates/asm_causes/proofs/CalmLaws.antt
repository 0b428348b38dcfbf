-- What a line without an early cause is refused with and gives.
use Rattle.std.proofs.Common.{◌≡◌, ◌∙◌, sym, ap, ℕ, ◌+◌, ◌<◌, List, [], ◌∷◌, ◌++◌, Bool, true, false, cond, arith, refl}
use Rattle.std.specs.Prelude.{Some, None, not, ◌&&◌, ◌||◌, if◌then◌else◌}
use Rattle.std.specs.List.{find, list_any}
use Rattle.asm_lines.specs.Language.{Line}
use Rattle.asm_places.specs.Names.{Names}
use Rattle.asm_places.specs.NameSteps.{counted}
use Rattle.asm_causes.specs.PlaceSteps.{filled, turned, place_after}
use Rattle.asm_causes.specs.Places.{bytes_of, size_of}
use Rattle.asm_causes.specs.Causes.{has_early, early_causes, is_early, has_far_target}
use Rattle.asm_causes.specs.Refusal.{overfills_code, overfills_ram, has, cause_of}
use Rattle.asm_causes.specs.Calm.{calm_from, late_cause}
use Rattle.asm_places.specs.Counts.{Counts}
use Rattle.asm_places.specs.Place.{Place}
use Rattle.asm_causes.specs.declared.causes.AsmCause.{AsmCause}
use Rattle.asm_causes.specs.declared.causes.AsmCause.TheVariants.{UnknownStatement, WrongForm, NoRegister, ConstantRange, DefinedTwice, Undefined, WrongKind, WrongSection, TargetRange, CodeFull, RamFull, LongName, UnknownSetting, TooMany}
use Rattle.asm_causes.proofs.CauseLaws.{NoneOf}

neither : (a b : Bool) → (a || b) ≡ false → (a ≡ false) × (b ≡ false)
neither true b h = absurd cc
neither false b h = (refl, h)

none_any : (q : AsmCause → Bool) (xs : List AsmCause) → list_any q xs ≡ false → NoneOf q xs
none_any q [] h = tt
none_any q (x ∷ xs) h = let both = neither (q x) (list_any q xs) h in (both.0, none_any q xs both.1)

find_past : (q : AsmCause → Bool) (xs ys : List AsmCause) → NoneOf q xs → find q (xs ++ ys) ≡ find q ys
find_past q [] ys h = refl
find_past q (x ∷ xs) ys h = ap (λ b. cond b (Some x) (find q (xs ++ ys))) h.0 ∙ find_past q xs ys h.1

none_found : (q : AsmCause → Bool) (xs : List AsmCause) → NoneOf q xs → find q xs ≡ None
none_found q [] h = refl
none_found q (x ∷ xs) h = ap (λ b. cond b (Some x) (find q xs)) h.0 ∙ none_found q xs h.1

module _ (names : Names) (c : Counts) (p : Place) (l : Line) where
  pub bytes_calm : is_early names c p.section l ≡ false → bytes_of names c p.section l ≡ size_of names l.statement
  bytes_calm e = ap (λ b. if b then 0 else size_of names l.statement) e

  pub place_calm : is_early names c p.section l ≡ false → turned l.statement (filled p.section (size_of names l.statement) p) ≡ place_after names c p l
  place_calm e = sym (ap (λ n. turned l.statement (filled p.section n p)) (bytes_calm e))

  -- such a line is refused with a late cause
  pub late_is_cause : (places : List Place) → is_early names c p.section l ≡ false → cause_of names places c p l ≡ late_cause names places p l.statement
  late_is_cause places e =
      let q : AsmCause → Bool = has names places c p l in
      let h : NoneOf (has_early names c p.section l) early_causes = none_any (has_early names c p.section l) early_causes e in
      let before : List AsmCause = UnknownStatement ∷ WrongForm ∷ NoRegister ∷ ConstantRange ∷ DefinedTwice ∷ Undefined ∷ WrongKind ∷ WrongSection ∷ [] in
      let behind : List AsmCause = LongName ∷ UnknownSetting ∷ TooMany ∷ [] in
      let none_before : NoneOf q before = (h.0, (h.1.0, (h.1.1.0, (h.1.1.1.0, (h.1.1.1.1.0, (h.1.1.1.1.1.0, (h.1.1.1.1.1.1.0, (h.1.1.1.1.1.1.1.0, tt)))))))) in
      let none_behind : find q behind ≡ None = none_found q behind h.1.1.1.1.1.1.1.1 in
      find_past q before (TargetRange ∷ CodeFull ∷ RamFull ∷ behind) none_before
      ∙ (ap (λ o. cond (q TargetRange) (Some TargetRange) (cond (q CodeFull) (Some CodeFull) (cond (q RamFull) (Some RamFull) o))) none_behind
      ∙ ap (λ n. if has_far_target names places p l.statement then Some TargetRange else if overfills_code p p.section n then Some CodeFull else if overfills_ram p p.section n then Some RamFull else None) (bytes_calm e))

  -- so many lines stand before the first early one
  pub calm_more : (ls : List Line) → is_early names c p.section l ≡ false → calm_from names c p (l ∷ ls) ≡ calm_from names (counted l.statement c) (place_after names c p l) ls + 1
  calm_more ls e = ap (λ b. if b then 0 else calm_from names (counted l.statement c) (place_after names c p l) ls + 1) e

  is_calm_by : (b : Bool) (n : ℕ) → 0 < (if b then 0 else n) → b ≡ false
  is_calm_by true n h = absurd (omega arith)
  is_calm_by false n h = refl

  pub is_calm : (ls : List Line) → 0 < calm_from names c p (l ∷ ls) → is_early names c p.section l ≡ false
  is_calm ls h = is_calm_by (is_early names c p.section l) (calm_from names (counted l.statement c) (place_after names c p l) ls + 1) h

-- one line more, where the lines so far were calm or not
pub calm_kept : (so_far early : Bool) (n rest : ℕ)
    → n + (if so_far then (if early then 0 else rest + 1) else 0) ≡ n + (if so_far && not early then 1 else 0) + (if so_far && not early then rest else 0)
calm_kept true true n rest = omega arith
calm_kept true false n rest = omega arith
calm_kept false early n rest = omega arith
