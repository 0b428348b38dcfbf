use Rattle.rv32_exec.proofs.KeptLaws.{kept-exec}
use Rattle.rv32_exec.proofs.laws.an_instruction_keeps_words.Goals as goal

pub returns : goal.returns
returns c = kept-exec
