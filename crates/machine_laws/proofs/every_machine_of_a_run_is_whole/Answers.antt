-- Every machine of a run is whole.
use Rattle.machine_laws.proofs.Whole.Events.{KernelStaysWhole}
use Rattle.machine_laws.proofs.Whole.Runs.{whole-run}
use Rattle.machine_laws.proofs.every_machine_of_a_run_is_whole.Goals as goal

pub returns : goal.returns
returns c =
    let laws : KernelStaysWhole = record {
      call = c.a_call_keeps_the_kernel_valid.ensures;
      unit = c.a_unit_keeps_the_kernel_valid.ensures;
      finish = c.a_finish_keeps_the_kernel_valid.ensures;
      trap = c.a_trap_keeps_the_kernel_valid.ensures;
      callback_end = c.the_end_of_a_callback_keeps_the_kernel_valid.ensures;
    } in
    whole-run laws
