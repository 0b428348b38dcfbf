use Rattle.std.proofs.Common.{◌≡◌, ◌≤◌, drop, max}
use Rattle.std.specs.Prelude.{fold}
use Rattle.elf_reader.specs.Memory.{ram_end}
use Rattle.elf_reader.proofs.segments.ram_count.Given as goal

abbrev pub invariant-loop-segment : goal.invariant-loop-segment
invariant-loop-segment l = record {
  same : fold (λ e s. max e (ram_end s)) l.end (drop l.segment-index l.segments) ≡ fold (λ e s. max e (ram_end s)) 0 l.segments;
  within : l.end ≤ 262144;
}
