-- An image that declarations give meets what the makers of a raw image see to.
use Rattle.std.proofs.Common.{◌≡◌, ℕ, zero, suc, ◌+◌, ◌<◌, ◌≤◌, List, [], ◌∷◌, length, Bool, true, false, All, arith, refl, sym, ap, ◌∙◌, subst}
use Rattle.std.specs.Prelude.{Option, Some, None, slice_index_or, cond}
use Rattle.std.specs.List.{AllByRecursion, filter_map, range_with_len}
use Rattle.std.specs.Option.{option_map, option_or}
use Rattle.std.specs.Str.{bytes_eq}
use Rattle.std.proofs.lemmas.List.Elements.{All-nil}
use Rattle.text_lex.specs.Tokens.{Tokens, lexed}
use Rattle.text_lex.specs.declared.Token.{Token}
use Rattle.app_image.specs.Raw.{RawRecord, IsMade, HasZerosUnused}
use Rattle.app_image.specs.declared.records.Symbol.{Symbol}
use Rattle.asm_lines.specs.Language.{Line}
use Rattle.asm_lines.specs.Lines.{read}
use Rattle.asm_lines.specs.Placing.{placing_lines}
use Rattle.asm_places.specs.Counts.{Counts}
use Rattle.asm_places.specs.Names.{Names, first_of}
use Rattle.asm_places.specs.NameSteps.{counted, names_of}
use Rattle.asm_places.specs.Operands.{no_place}
use Rattle.asm_places.specs.Symbols.{symbols_defined}
use Rattle.asm_places.specs.declared.places.Definition.{Definition}
use Rattle.asm_causes.specs.declared.causes.AsmCause.{AsmCause}
use Rattle.asm_causes.proofs.CauseLaws.{IsFree}
use Rattle.rv32_asm.specs.Assembled.{all_names, numbers, unless_refused}
use Rattle.rv32_asm.specs.Assembly.{Gives}
use Rattle.rv32_asm.specs.Before.{line_at, counts_before}
use Rattle.rv32_asm.specs.Declarations.{declaration_cause, declaration_refusal, declared, declared_by, image_with, names_with}
use Rattle.rv32_asm.specs.Steps.{with_statement}
use Rattle.rv32_asm.proofs.DeclaredLaws.{image_more, is_free_declaration, none_given}
use Rattle.rv32_asm.proofs.MadeCounts.{HasCounts, counts_kept}
use Rattle.rv32_asm.proofs.MadeForms.{HasZeros, lines_have_zeros}
use Rattle.rv32_asm.proofs.MadeNames.{AreDeclared, DefinesNoService, HasFreeNames, has_free_names, image_names, line_kept}
use Rattle.rv32_asm.proofs.MadeServices.{first_line, no_service}
use Rattle.rv32_asm.proofs.MadeSpelling.{DeclaresName, declare_names}
use Rattle.rv32_asm.proofs.MadeUnused.{unused_kept}
use Rattle.rv32_asm.proofs.StepLaws.{counts_more, same_names}

-- the first line of a symbol's definition: none

found_none : (b : Bool) (d : Definition) (o : Option Definition) → d.line ≡ None → first_line o ≡ None → first_line (cond b (Some d) o) ≡ None
found_none true d o e h = e
found_none false d o e h = h

symbol_lines : (bytes : List ℕ) (xs : List Symbol) (name : List ℕ) → first_line (first_of (symbols_defined bytes xs) name) ≡ None
symbol_lines bytes [] name = refl
symbol_lines bytes (x ∷ xs) name = found_none _ _ (first_of (symbols_defined bytes xs) name) refl (symbol_lines bytes xs name)

on_text_line : (o p : Option Definition) (line : ℕ) → first_line p ≡ None → first_line (option_or o p) ≡ Some line → first_line o ≡ Some line
on_text_line None p line none e = let some : None ≡ Some line = sym none ∙ e in absurd cc
on_text_line (Some d) p line none e = e

-- a name that a line defines first is no service's, also where there are symbols
defines_no_service : (bytes : List ℕ) (symbols : List Symbol) (lines : List Line) → DefinesNoService (names_with bytes symbols lines)
defines_no_service bytes symbols lines = λ name line e.
    let same : names_of lines name ≡ all_names lines name = ap (λ (n : Names). n name) (same_names lines) in
    let text = on_text_line (all_names lines name) (first_of (symbols_defined bytes symbols) name) line (symbol_lines bytes symbols name) e in
    no_service lines name line (ap first_line same ∙ text)

at_line : (P : Line → Type 0) (ls : List Line) (k : ℕ) → AllByRecursion P ls → k < length ls → P (line_at ls k)
at_line P [] k h less = absurd (omega (arith, less))
at_line P (l ∷ ls) zero h less = h.0
at_line P (l ∷ ls) (suc k) h less = at_line P ls k h.1 (omega (arith, less))

no_cause : {T : Type 0} (n : ℕ) (o : Option T) → option_map {U = ℕ × T} (λ cause. (n, cause)) o ≡ None → o ≡ None
no_cause n None e = refl
no_cause n (Some x) e = absurd cc

module _ (names : Names) where
  -- what holds of the image behind each line
  record IsSoFar (c : Counts) (raw : RawRecord) : Type 0 where
    pub counts : HasCounts c raw
    pub unused : All HasZerosUnused raw.objects
    pub named : AreDeclared names c.lines (image_names raw)

  line_keeps : DefinesNoService names → (c : Counts) (raw : RawRecord) (l : Line) → IsFree names [] c no_place l → HasZeros l.statement → DeclaresName l.statement → IsSoFar c raw
      → IsSoFar (counted l.statement c) (with_statement names [] l.number no_place l.statement raw)
  line_keeps services c raw l free zeros spelt h = record {
    counts = counts_kept names [] l.statement c no_place raw l.number free.count h.counts;
    unused = unused_kept names [] l.statement no_place raw l.number zeros h.unused;
    named = line_kept names [] services c no_place raw l free spelt h.named;
  }

  module _ (lines : List Line) (placing : List Bool) (code ram : List ℕ) (services : DefinesNoService names) (zeros : AllByRecursion (λ l. HasZeros l.statement) lines) (spelt : AllByRecursion (λ l. DeclaresName l.statement) lines)
      (free : filter_map (declaration_refusal names lines placing) (numbers lines) ≡ []) where
    up_to : (k : ℕ) → k ≤ length lines → IsSoFar (counts_before lines k) (image_with names lines code ram k)
    up_to zero h = record {
      counts = record { tasks_are = refl; objects_are = refl; vectors_are = refl; few_tasks = omega arith; few_objects = omega arith; few_vectors = omega arith };
      unused = All-nil HasZerosUnused;
      named = record { each = tt; apart = tt };
    }
    up_to (suc k) h =
        let inside : k < length lines = omega (arith, h) in
        let next : k + 1 ≡ suc k = omega arith in
        let none = no_cause _ _ (none_given (declaration_refusal names lines placing) (length lines) k free inside) in
        let line : IsFree names [] (counts_before lines k) no_place (line_at lines k) = is_free_declaration (slice_index_or placing k false) names (counts_before lines k) (line_at lines k) none in
        let kept = line_keeps services (counts_before lines k) (image_with names lines code ram k) (line_at lines k) line
        (at_line (λ l. HasZeros l.statement) lines k zeros inside) (at_line (λ l. DeclaresName l.statement) lines k spelt inside) (up_to k (omega (arith, h))) in
        let counted_so = subst (λ (c : Counts). IsSoFar c (with_statement names [] (line_at lines k).number no_place (line_at lines k).statement (image_with names lines code ram k))) (counts_more lines k inside) kept in
        subst (λ n. IsSoFar (counts_before lines n) (image_with names lines code ram n)) next (subst (IsSoFar (counts_before lines (k + 1))) (image_more names lines code ram k) counted_so)

    pub is_made_image : length code ≤ 16384 → length ram ≤ 65536 → IsMade (image_with names lines code ram (length lines))
    is_made_image few_code few_ram =
        let whole = up_to (length lines) (omega arith) in
        let names_so : HasFreeNames (image_with names lines code ram (length lines)) = has_free_names names _ _ whole.named in
        record {
          tasks = omega (arith, whole.counts.tasks_are, whole.counts.few_tasks);
          objects = omega (arith, whole.counts.objects_are, whole.counts.few_objects);
          vectors = omega (arith, whole.counts.vectors_are, whole.counts.few_vectors);
          code = few_code;
          ram = few_ram;
          names = names_so.names;
          distinct = names_so.distinct;
          unused = whole.unused;
        }

-- an image that is given comes of no refusal
given_free : (refusals : List (ℕ × AsmCause)) (image raw : RawRecord) (n used : ℕ) → unless_refused refusals image n ≡ Gives raw used → (refusals ≡ []) × (image ≡ raw)
given_free [] image raw n used e = (refl, cc)
given_free (refusal ∷ refusals) image raw n used e = absurd cc

-- what a text and its tokens declare is made
pub is_made_declared : (text : List ℕ) (tokens : List Token) (bytes : List ℕ) (symbols : List Symbol) (code ram : List ℕ) (raw : RawRecord) (used : ℕ) → lexed text ≡ Tokens tokens → length code ≤ 16384 → length ram ≤ 65536
    → declared text tokens bytes symbols code ram ≡ Gives raw used → IsMade raw
unfolding declared
is_made_declared text tokens bytes symbols code ram raw used lexed_so few_code few_ram e =
    let reading = read text tokens in
    let lines = reading.lines in
    let names = names_with bytes symbols lines in
    let placing = placing_lines text tokens in
    let given = given_free (filter_map (declaration_refusal names lines placing) (numbers lines)) (image_with names lines code ram (length lines)) raw reading.used used e in
    subst IsMade given.1 (is_made_image names lines placing code ram (defines_no_service bytes symbols lines) (lines_have_zeros text tokens) (declare_names text tokens lexed_so) given.0 few_code few_ram)
