-- What declarations give, a line after the other.
use Rattle.std.proofs.Common.{◌≡◌, ℕ, zero, suc, ◌+◌, ◌-◌, ◌<◌, List, [], ◌∷◌, ◌++◌, length, Bool, arith, refl, sym, ap, ◌∙◌, append-nil, true, false}
use Rattle.std.specs.Prelude.{Option, Some, None, slice_index_or}
use Rattle.std.specs.Option.{option_map}
use Rattle.std.specs.List.{filter_map, range_with_len}
use Rattle.std.proofs.lemmas.List.Elements.{filter_map-append}
use Rattle.app_image.specs.Raw.{RawRecord}
use Rattle.asm_lines.specs.Language.{Line}
use Rattle.asm_places.specs.Names.{Names}
use Rattle.asm_places.specs.Operands.{no_place}
use Rattle.asm_causes.specs.declared.causes.AsmCause.{AsmCause}
use Rattle.rv32_asm.specs.Assembled.{numbers, tasks_given, objects_given, vectors_given, settings_given, unless_refused}
use Rattle.rv32_asm.specs.Assembly.{Refuses}
use Rattle.asm_places.specs.Counts.{Counts}
use Rattle.asm_causes.proofs.CauseLaws.{IsFree, is_free}
use Rattle.app_image.specs.declared.records.Symbol.{Symbol}
use Rattle.rv32_asm.specs.Before.{line_at, counts_before}
use Rattle.rv32_asm.specs.Declarations.{declaration_cause, declaration_refusal, declared_by, image_with, names_with}
use Rattle.rv32_asm.specs.Steps.{with_statement}
use Rattle.rv32_asm.proofs.StepLaws.{range_more, flat_more, same_raw, added_by}

-- a number among those from a number on
range_split : (k a m : ℕ) → range_with_len a (k + suc m) ≡ range_with_len a k ++ (a + k) ∷ range_with_len (a + k + 1) m
range_split zero a m =
    let whole : zero + suc m ≡ suc m = omega arith in
    let start : a ≡ a + zero = omega arith in
    ap (range_with_len a) whole ∙ (ap (λ b. b ∷ range_with_len (a + 1) m) start ∙ ap (λ b. (a + zero) ∷ range_with_len (b + 1) m) start)
range_split (suc k) a m =
    let whole : suc k + suc m ≡ suc (k + suc m) = omega arith in
    let here : a + 1 + k ≡ a + suc k = omega arith in
    ap (range_with_len a) whole ∙ ap (λ l. a ∷ l) (range_split k (a + 1) m ∙ ap (λ b. range_with_len (a + 1) k ++ b ∷ range_with_len (b + 1) m) here)

range_at : (k m : ℕ) → range_with_len 0 (k + suc m) ≡ range_with_len 0 k ++ k ∷ range_with_len (k + 1) m
range_at k m = let here : 0 + k ≡ k = omega arith in range_split k 0 m ∙ ap (λ b. range_with_len 0 k ++ b ∷ range_with_len (b + 1) m) here

module _ {T : Type 0} (f : ℕ → Option T) where
  -- one more number that gives nothing
  pub nothing_more : (k : ℕ) → filter_map f (range_with_len 0 k) ≡ [] → f k ≡ None → filter_map f (range_with_len 0 (k + 1)) ≡ []
  nothing_more k before e =
      let here : filter_map f (k ∷ []) ≡ [] = rw e refl in
      ap (filter_map f) (range_more k) ∙ (filter_map-append f (range_with_len 0 k) (k ∷ []) ∙ (ap (λ l. l ++ filter_map f (k ∷ [])) before ∙ here))

  -- the first number that gives something
  pub first_given : (k m : ℕ) (x : T) → filter_map f (range_with_len 0 k) ≡ [] → f k ≡ Some x → filter_map f (range_with_len 0 (k + suc m)) ≡ x ∷ filter_map f (range_with_len (k + 1) m)
  first_given k m x before e =
      let here : filter_map f (k ∷ range_with_len (k + 1) m) ≡ x ∷ filter_map f (range_with_len (k + 1) m) = rw e refl in
      ap (filter_map f) (range_at k m)
      ∙ (filter_map-append f (range_with_len 0 k) (k ∷ range_with_len (k + 1) m) ∙ (ap (λ l. l ++ filter_map f (k ∷ range_with_len (k + 1) m)) before ∙ here))

  -- where no number gives anything, none of them does
  given_none : (ks : List ℕ) (k : ℕ) (o : Option T) → f k ≡ o → filter_map f (k ∷ ks) ≡ [] → (o ≡ None) × (filter_map f ks ≡ [])
  given_none ks k None e h = (refl, (rw e at h))
  given_none ks k (Some x) e h = let some : x ∷ filter_map f ks ≡ [] = rw e at h in absurd cc

  none_from : (n a j : ℕ) → filter_map f (range_with_len a n) ≡ [] → j < n → f (a + j) ≡ None
  none_from zero a j h less = absurd (omega (arith, less))
  none_from (suc n) a zero h less =
      let start : a + zero ≡ a = omega arith in
      ap f start ∙ (given_none (range_with_len (a + 1) n) a (f a) refl h).0
  none_from (suc n) a (suc j) h less =
      let next : a + suc j ≡ a + 1 + j = omega arith in
      ap f next ∙ none_from n (a + 1) j (given_none (range_with_len (a + 1) n) a (f a) refl h).1 (omega (arith, less))

  pub none_given : (n k : ℕ) → filter_map f (range_with_len 0 n) ≡ [] → k < n → f k ≡ None
  none_given n k h less = let here : k ≡ 0 + k = omega arith in ap f here ∙ none_from n 0 k h less

module _ (names : Names) (lines : List Line) where
  -- a line more
  pub image_more : (code ram : List ℕ) (k : ℕ) → with_statement names [] (line_at lines k).number no_place (line_at lines k).statement (image_with names lines code ram k) ≡ image_with names lines code ram (k + 1)
  image_more code ram k =
      let at : ℕ → Line = line_at lines in
      added_by names [] (at k).number no_place (at k).statement (image_with names lines code ram k)
      ∙ sym (same_raw _ _ _ _ _ _ _ _ _ _ _ _ (flat_more (λ j. tasks_given names [] (at j).number (at j).statement) k)
      (flat_more (λ j. objects_given names [] (at j).number (at j).statement) k)
      (flat_more (λ j. vectors_given names [] (at j).number (at j).statement) k)
      (flat_more (λ j. settings_given names [] (at j).number (at j).statement) k)
      (sym (append-nil code)) (sym (append-nil ram)))

  -- the first line with a cause
  pub refused_at : (placing : List Bool) (code ram : List ℕ) (used k : ℕ) (line : ℕ) (cause : AsmCause) → k < length lines
      → filter_map (declaration_refusal names lines placing) (range_with_len 0 k) ≡ [] → declaration_refusal names lines placing k ≡ Some (line, cause)
      → declared_by names lines placing code ram used ≡ Refuses line cause
  refused_at placing code ram used k line cause inside before e =
      let m = length lines - (k + 1) in
      let size : length lines ≡ k + suc m = omega (arith, inside) in
      let first = ap (λ n. filter_map (declaration_refusal names lines placing) (range_with_len 0 n)) size ∙ first_given (declaration_refusal names lines placing) k m (line, cause) before e in
      ap (λ refusals. unless_refused refusals (image_with names lines code ram (length lines)) used) first

  -- the refusal of a line that is known
  pub refusal_said : (placing : List Bool) (k : ℕ) (l : Line) (b : Bool) (c : Counts) → line_at lines k ≡ l → slice_index_or placing k false ≡ b → c ≡ counts_before lines k
      → declaration_refusal names lines placing k ≡ option_map (λ cause. (l.number, cause)) (declaration_cause b names c l)
  refusal_said placing k l b c e f g =
      ap (λ (x : Line). option_map (λ cause. (x.number, cause)) (declaration_cause (slice_index_or placing k false) names (counts_before lines k) x)) e
      ∙ (ap (λ (x : Bool). option_map (λ cause. (l.number, cause)) (declaration_cause x names (counts_before lines k) l)) f
      ∙ ap (λ (x : Counts). option_map (λ cause. (l.number, cause)) (declaration_cause b names x l)) (sym g))

-- a line without a cause
pub is_free_declaration : (b : Bool) (names : Names) (c : Counts) (l : Line) → declaration_cause b names c l ≡ None → IsFree names [] c no_place l
is_free_declaration true names c l e = absurd cc
is_free_declaration false names c l e = is_free names [] c no_place l e

-- what equal lines declare
pub same_declared : (bytes : List ℕ) (symbols : List Symbol) (ls ls' : List Line) (placing placing' : List Bool) (code ram : List ℕ) (used used' : ℕ) → ls ≡ ls' → placing ≡ placing' → used ≡ used'
    → declared_by (names_with bytes symbols ls) ls placing code ram used ≡ declared_by (names_with bytes symbols ls') ls' placing' code ram used'
same_declared bytes symbols ls ls' placing placing' code ram used used' e f g =
    ap (λ (x : List Line). declared_by (names_with bytes symbols x) x placing code ram used) e
    ∙ (ap (λ (x : List Bool). declared_by (names_with bytes symbols ls') ls' x code ram used) f
    ∙ ap (λ (n : ℕ). declared_by (names_with bytes symbols ls') ls' placing' code ram n) g)
