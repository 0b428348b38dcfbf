-- Generated cases.
use Rattle.std.specs.Prelude.{codes, ◌++◌}
use Rattle.std.specs.Fmt.{digits}
use Rattle.std.proofs.Common.{◌≡◌, ℕ, List, refl}
use Rattle.program_model.specs.Generated.{generated}

-- the application as one text
abbrev application_text : List ℕ
application_text = codes ".code\nrx: os OSQPost\nret\ntk: os OSTimeTick\nret\nctl: li a0, inq\nli a1, 0\nli a2, 0\nos OSQPend\nmv s0, a1\nli a0, bus\nli a1, 0\nli a2, 0\nos OSMutexPend\nla t0, total\nlw t1, 0(t0)\nadd t1, t1, s0\nsw t1, 0(t0)\nli a0, bus\nli a1, 0\nos OSMutexPost\nj ctl\nlg: li a0, 5\nli a1, 0\nos OSTimeDly\nli a0, bus\nli a1, 0\nli a2, 0\nos OSMutexPend\nla t0, total\nlw t1, 0(t0)\nla t0, shown\nsw t1, 0(t0)\nli a0, bus\nli a1, 0\nos OSMutexPost\nj lg\nbg: addi s0, s0, 1\nj bg\n.ram\ntotal: .word 0\nshown: .word 0\n.queue inq, 32\n.mutex bus\n.task control, ctl, 10, 0, 0, 0x13C000\n.task logger, lg, 20, 0, 0, 0x13D000\n.task spin, bg, 30, 4, 0, 0x13E000\n.vector 1, 1, tk, 0x13F000\n.vector 2, 2, rx, 0x13F800\n"

three_readings : generated 1 3 ≡ application_text ++ codes ".inject\ntask 54, 2, 0, 196, 4, 0\ntask 90, 2, 0, 795, 4, 0\ntask 130, 2, 0, 89, 4, 0\n"
unfolding digits generated
three_readings = refl

two_ticks : generated 0 2 ≡ application_text ++ codes ".inject\ntask 47, 1\ntask 97, 1\n"
unfolding digits generated
two_ticks = refl

the_last_seed : generated 18446744073709551615 12 ≡ application_text ++ codes ".inject\ntask 48, 2, 0, 677, 4, 0\ntask 82, 1\ntask 127, 2, 0, 47, 4, 0\ntask 160, 1\ntask 203, 2, 0, 960, 4, 0\ntask 258, 2, 0, 880, 4, 0\ntask 281, 1\ntask 338, 2, 0, 641, 4, 0\ntask 360, 2, 0, 515, 4, 0\ntask 417, 2, 0, 325, 4, 0\ntask 449, 2, 0, 315, 4, 0\ntask 486, 2, 0, 592, 4, 0\n"
unfolding digits generated
the_last_seed = refl
