use Rattle.std.proofs.Common.{◌≡◌, Some}
use Rattle.outside.specs.Causes.{DidNotRise}
use Rattle.program_model.specs.declared.commands.Command.TheVariants.{OnCase}
use Rattle.program_model.specs.Words.{command_of, texts}
use Rattle.program_model.specs.Answer.{Reads}
use Rattle.ucos_top.specs.Told.{IsEarly, OrNoMemory}
use Rattle.ucos_top.proofs.TopLemmas.{told_answer}
use Rattle.ucos_top.proofs.top.ucos_main.Goals as goal

-- what comes of a case that was read comes of the defined answer
pub returns-in-Ok-clause-complete : goal.returns-in-Ok-clause-complete
returns-in-Ok-clause-complete g c =
    let e : command_of (texts c.args.words.now) ≡ Some (OnCase c.in-Some-OnCase.command) = cc in
    let seen = rw c.as_slice.ensures.value at c.obey.ensures.complete in
    told_answer (command_of (texts c.args.words.now)) c.in-Some-OnCase.command c.in-Ok.input.items (g.S.Source.left c.args.source.now)
    (λ a. (Reads (command_of (texts c.args.words.now)) → DidNotRise (g.S.Source.faults c.args.source.now) (g.S.Source.faults c.read_input.new.source))
    → DidNotRise (g.K.Sink.faults c.args.sink.now) (g.K.Sink.faults c.obey.new.sink) → OrNoMemory c.obey.result a.status)
    e c.in-Ok.ensures.within c.in-Ok.ensures.whole (λ source sink. seen sink)

pub returns-in-Ok-clause-early : goal.returns-in-Ok-clause-early
returns-in-Ok-clause-early g c =
    let e : command_of (texts c.args.words.now) ≡ Some (OnCase c.in-Some-OnCase.command) = cc in
    let seen = rw c.as_slice.ensures.value at c.obey.ensures.early in
    told_answer (command_of (texts c.args.words.now)) c.in-Some-OnCase.command c.in-Ok.input.items (g.S.Source.left c.args.source.now)
    (λ a. IsEarly a.status → DidNotRise (g.S.Source.faults c.args.source.now) (g.S.Source.faults c.read_input.new.source) → OrNoMemory c.obey.result a.status)
    e c.in-Ok.ensures.within c.in-Ok.ensures.whole (λ early source. seen early)
