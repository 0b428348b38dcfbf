use Rattle.std.proofs.Common.{◌≡◌, rules}
use Rattle.program_model.specs.Generated.{generated}
use Rattle.ucos_top.proofs.TextLaws.{short_generated}
use Rattle.ucos_top.proofs.soak.generated_text.Goals as goal

-- a generated case is no longer than what is read
pub returns-in-Ok-clause-short : goal.returns-in-Ok-clause-short
returns-in-Ok-clause-short c =
    let text : c.generate.new.sink.held ≡ generated c.args.seed c.args.size = search rules in
    rw text (short_generated c.args.seed c.args.size c.requires)
