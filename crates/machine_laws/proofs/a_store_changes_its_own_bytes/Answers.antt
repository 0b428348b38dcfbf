use Rattle.machine_laws.proofs.Isolation.Memory.{memory-next}
use Rattle.machine_model.specs.Rules.{next}
use Rattle.rv32_exec.proofs.StoreLaws.{stored-bytes}
use Rattle.machine_laws.proofs.a_store_changes_its_own_bytes.Goals as goal

pub returns : goal.returns
returns c served method m who addr width value is e =
    let n = next served method m in
    stored-bytes addr width value m.memory n.1.memory is (rw e at (memory-next served method m))
