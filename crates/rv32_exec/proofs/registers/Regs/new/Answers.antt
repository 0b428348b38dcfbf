use Rattle.std.proofs.Common.{ℕ, zero, suc, ◌<◌, ◌^◌, refl, replicate, lit<}
use Rattle.std.specs.Prelude.{slice_index}
use Rattle.rv32_exec.proofs.registers.Regs.new.Goals as goal

-- zeros are words
zeros : (n r : ℕ) → slice_index (replicate n 0) r < 2 ^ 32
zeros zero r = lit< tt
zeros (suc n) zero = lit< tt
zeros (suc n) (suc r) = zeros n r

pub invariant_of-result : goal.invariant_of-result
invariant_of-result c = record { pc = lit< tt; count = refl; words = zeros 32 }
