-- a line that gives goes on to the rest, and a line that is refused ends the reading
use Rattle.std.proofs.Common.{◌≡◌, ◌-◌, ◌+◌, List, ◌∷◌, take, drop, ap, sym, ◌∙◌, subst, arith}
use Rattle.std.proofs.lemmas.Result.{err_from_is_err_and}
use Rattle.text_lex.specs.declared.Token.{Token}
use Rattle.inject_list.specs.Pieces.{lines}
use Rattle.inject_list.specs.Reading.{read_from, injections_in, IsFault}
use Rattle.inject_list.specs.declared.causes.InjectError.{InjectError}
use Rattle.inject_list.proofs.LineLaws.{lines-at, reads_on, fault_stops}
use Rattle.inject_list.proofs.reading.read.Goals as goal

pub returns-in_err-read_line-clause-fault : goal.returns-in_err-read_line-clause-fault
returns-in_err-read_line-clause-fault c =
    let line : List Token = take (c.line_end-end.result - c.loop-at.at) (drop c.loop-at.at c.args.tokens.now) in
    let rest : List (List Token) = lines (drop (c.line_end-end.result + 1) c.args.tokens.now) in
    let split : lines (drop c.loop-at.at c.args.tokens.now) ≡ line ∷ rest = lines-at c.args.tokens.now c.loop-at.at c.line_end-end.result c.loop-at-test.true c.line_end-end.ensures.value in
    let whole : read_from c.args.text.now c.args.image.now c.loop-at.list (line ∷ rest) ≡ injections_in c.args.text.now c.args.tokens.now c.args.image.now =
    ap (read_from c.args.text.now c.args.image.now c.loop-at.list) (sym split) ∙ c.loop-at.invariant.reads in
    let fault : IsFault c.in_err-read_line.field-0.0 (injections_in c.args.text.now c.args.tokens.now c.args.image.now) =
    subst (IsFault c.in_err-read_line.field-0.0) whole (fault_stops c.args.text.now c.args.image.now c.loop-at.list c.in_err-read_line.field-0.0 line rest c.in_err-read_line.ensures.fault) in
    let (error, is, same) = err_from_is_err_and c.from_residual.result c.from_residual.ensures.1 in
    rw is (subst (λ (e : InjectError). IsFault e (injections_in c.args.text.now c.args.tokens.now c.args.image.now)) (sym same) fault)

pub loop-at-preserved : goal.loop-at-preserved
loop-at-preserved c =
    let line : List Token = take (c.line_end-end.result - c.loop-at.at) (drop c.loop-at.at c.args.tokens.now) in
    let rest : List (List Token) = lines (drop (c.line_end-end.result + 1) c.args.tokens.now) in
    let split : lines (drop c.loop-at.at c.args.tokens.now) ≡ line ∷ rest = lines-at c.args.tokens.now c.loop-at.at c.line_end-end.result c.loop-at-test.true c.line_end-end.ensures.value in
    record {
      reads =
          sym (reads_on c.args.text.now c.args.image.now c.loop-at.list c.read_line.new.list line rest c.in_ok-read_line.ensures.ok)
          ∙ (ap (read_from c.args.text.now c.args.image.now c.loop-at.list) (sym split) ∙ c.loop-at.invariant.reads);
      valid = c.in_ok-read_line.ensures.valid;
      inside = omega (arith, c.line_end-end.ensures.within);
    }
