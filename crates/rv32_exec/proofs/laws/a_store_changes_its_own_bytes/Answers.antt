use Rattle.rv32_exec.proofs.StoreLaws.{stored-bytes}
use Rattle.rv32_exec.proofs.laws.a_store_changes_its_own_bytes.Goals as goal

pub returns : goal.returns
returns c = stored-bytes
