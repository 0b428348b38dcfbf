use Rattle.std.proofs.Common.{◌≡◌}
use Rattle.program_model.specs.declared.commands.CaseCommand.TheVariants.{Binary}
use Rattle.ucos_top.proofs.TopLemmas.{whole_written}
use Rattle.ucos_top.proofs.top.run.Goals as goal

-- the whole image is written
pub returns-in-Binary-clause-whole_text : goal.returns-in-Binary-clause-whole_text
returns-in-Binary-clause-whole_text g c =
    let e : c.args.command ≡ Binary = cc in
    rw e (whole_written c.write_image.result c.ending-in-Binary.result _ _ _ c.ending-in-Binary.ensures.ends c.write_image.ensures.bytes)
