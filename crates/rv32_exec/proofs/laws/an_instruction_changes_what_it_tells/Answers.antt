use Rattle.rv32_exec.proofs.ChangeLaws.{changes-exec}
use Rattle.rv32_exec.proofs.laws.an_instruction_changes_what_it_tells.Goals as goal

pub returns : goal.returns
returns c = changes-exec
