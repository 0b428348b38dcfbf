-- The tokens that an assembled text, or one of declarations, has used are not more than it has.
use Rattle.std.specs.Prelude.{length}
use Rattle.std.specs.List.{filter_map}
use Rattle.std.proofs.Common.{◌≡◌, ◌≤◌, ℕ, List, [], ◌∷◌, arith}
use Rattle.text_lex.specs.declared.Token.{Token}
use Rattle.app_image.specs.Raw.{RawRecord}
use Rattle.rv32_asm.specs.Assembled.{all_names, assembled, image_of_first, numbers, refusal_at, unless_refused}
use Rattle.app_image.specs.declared.records.Symbol.{Symbol}
use Rattle.asm_lines.specs.Placing.{placing_lines}
use Rattle.rv32_asm.specs.Assembly.{Gives}
use Rattle.rv32_asm.specs.Declarations.{declaration_refusal, declared, image_with, names_with}
use Rattle.asm_lines.specs.Lines.{read}
use Rattle.asm_causes.specs.declared.causes.AsmCause.{AsmCause}

-- an image that is given is given behind what was read
same_used : (refusals : List (ℕ × AsmCause)) (image raw : RawRecord) (n used : ℕ) → unless_refused refusals image n ≡ Gives raw used → used ≡ n
same_used [] image raw n used e = cc
same_used (refusal ∷ refusals) image raw n used e = absurd cc

-- what an assembled text has used
pub used_few : (text : List ℕ) (tokens : List Token) (raw : RawRecord) (used : ℕ) → assembled text tokens ≡ Gives raw used → used ≤ length tokens
unfolding assembled
used_few text tokens raw used e =
    let reading = read text tokens in
    let lines = reading.lines in
    let names = all_names lines in
    let same = same_used (filter_map (refusal_at names lines) (numbers lines)) (image_of_first names lines (length lines)) raw reading.used used e in
    let least : reading.used ≤ length tokens = omega arith in
    omega (arith, same, least)

-- and what declarations have used
pub declared_few : (text : List ℕ) (tokens : List Token) (bytes : List ℕ) (symbols : List Symbol) (code ram : List ℕ) (raw : RawRecord) (used : ℕ) → declared text tokens bytes symbols code ram ≡ Gives raw used → used ≤ length tokens
unfolding declared
declared_few text tokens bytes symbols code ram raw used e =
    let reading = read text tokens in
    let lines = reading.lines in
    let names = names_with bytes symbols lines in
    let refusals = filter_map (declaration_refusal names lines (placing_lines text tokens)) (numbers lines) in
    let same = same_used refusals (image_with names lines code ram (length lines)) raw reading.used used e in
    let least : reading.used ≤ length tokens = omega arith in
    omega (arith, same, least)
