-- each pair of a comma and a number gives a word, and what is left over gives none
use Rattle.std.proofs.Common.{◌≡◌, ◌≤◌, ◌-◌, ◌+◌, List, length, take, drop, sym, ap, ◌∙◌, arith}
use Rattle.std.specs.Prelude.{Some, None}
use Rattle.std.proofs.lemmas.List.{length-take, length-drop}
use Rattle.std.proofs.lemmas.Bool.Decides.{nat_tests}
use Rattle.text_lex.specs.declared.Token.{Token}
use Rattle.text_lex.specs.declared.TokenKind.TheVariants.{Name}
use Rattle.inject_list.specs.Pieces.{pieces}
use Rattle.inject_list.specs.declared.words.Words.{Words}
use Rattle.inject_list.proofs.WordLaws.{kept_after, kept_step, kept_none, kept_all, words_kept}
use Rattle.inject_list.proofs.words.words_of.Goals as goal

pub loop-rest-preserved : goal.loop-rest-preserved
loop-rest-preserved c =
    let d : Token = record { kind = Name; line = 0; start = 0; len = 0 } in
    let ts : List Token = c.loop-rest.rest.now in
    let some : 2 ≤ length ts = c.in-len2-up.len_at_least in
    let count : c.with_word-words.result.count ≡ c.loop-rest.words.count + 1 = ap (λ (w : Words). w.count) c.with_word-words.ensures in
    record {
      reads = λ text.
          ap (λ (w : Words). kept_after w (pieces text (take (length ts - 2) (drop 2 ts)))) c.with_word-words.ensures
          ∙ (kept_step text ts d c.loop-rest.words (Some c.in_ok-word_behind.field-0) some (sym c.in_ok-word_behind.was ∙ c.word_behind.ensures text)
          ∙ c.loop-rest.invariant.reads text);
      few = omega (arith, c.loop-rest.invariant.few, some, count, length-take (length ts - 2) (drop 2 ts), length-drop 2 ts);
    }

pub returns-in_err-word_behind : goal.returns-in_err-word_behind
returns-in_err-word_behind c = λ text.
    let d : Token = record { kind = Name; line = 0; start = 0; len = 0 } in
    let ts : List Token = c.loop-rest.rest.now in
    let some : 2 ≤ length ts = c.in-len2-up.len_at_least in
    c.from_residual.ensures
    ∙ (kept_step text ts d c.loop-rest.words None some (sym c.in_err-word_behind.was ∙ c.word_behind.ensures text)
    ∙ (c.loop-rest.invariant.reads text ∙ words_kept (pieces text c.args.tokens.now)))

pub returns-then-is_empty : goal.returns-then-is_empty
returns-then-is_empty c = λ text.
    let none : length c.loop-rest.rest.now ≤ 0 = grind (arith, nat_tests, c.if-is_empty.true, c.is_empty.ensures) in
    sym (kept_all text c.loop-rest.rest.now c.loop-rest.words none) ∙ (c.loop-rest.invariant.reads text ∙ words_kept (pieces text c.args.tokens.now))

pub returns-else-is_empty : goal.returns-else-is_empty
returns-else-is_empty c = λ text.
    let one : 1 ≤ length c.loop-rest.rest.now = grind (arith, nat_tests, c.if-is_empty.false, c.is_empty.ensures) in
    sym (kept_none text c.loop-rest.rest.now c.loop-rest.words one c.in_default.len_below) ∙ (c.loop-rest.invariant.reads text ∙ words_kept (pieces text c.args.tokens.now))
