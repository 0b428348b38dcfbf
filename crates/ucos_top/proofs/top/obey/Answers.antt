use Rattle.std.proofs.Common.{◌≡◌}
use Rattle.program_model.specs.Case.{Accepts, case_of}
use Rattle.ucos_top.proofs.top.obey.Goals as goal

-- what was written is a prefix of what the case has to print
pub returns-in-Ok-clause-write_fault_text : goal.returns-in-Ok-clause-write_fault_text
returns-in-Ok-clause-write_fault_text g c =
    let e : case_of c.args.input.now ≡ Accepts c.in-Ok.image c.in-Ok.list = c.in-Ok.ensures.case in
    rw e c.run.ensures.write_fault_text
