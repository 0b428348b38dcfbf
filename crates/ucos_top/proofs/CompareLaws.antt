-- How a comparison of both methods ends.
use Rattle.std.specs.Prelude.{if◌then◌else◌}
use Rattle.std.proofs.Common.{◌≡◌, ℕ, Bool, true, false, ap}
use Rattle.kern_base.specs.declared.kinds.Method.TheVariants.{Deferred}
use Rattle.app_image.specs.Image.{ImageRecord}
use Rattle.inject_list.specs.Lists.{ListRecord}
use Rattle.machine_model.specs.Premises.{is_broken}
use Rattle.program_model.specs.declared.statuses.Status.{Status}
use Rattle.program_model.specs.declared.statuses.Status.TheVariants.{Done, Broken}
use Rattle.program_model.specs.Both.{run_of}
use Rattle.program_model.specs.Answer.{compared_status}
use Rattle.ucos_top.specs.Told.{IsRun}

-- Broken where a premise is broken, and else Done
abbrev pub ending_of : Bool → Status
ending_of broken = if broken then Broken else Done

either_is_run : (broken : Bool) → IsRun (ending_of broken)
either_is_run true = tt
either_is_run false = tt

-- it ends as a run ends that writes its whole text
pub compared_is_run : (image : ImageRecord) (l : ListRecord) (count : ℕ) → IsRun (compared_status image l count)
unfolding compared_status
compared_is_run image l count = either_is_run (is_broken (run_of Deferred image l count))

-- its status, by whether a premise is broken in the deferred run
pub compared_ends : (broken : Bool) (image : ImageRecord) (l : ListRecord) (count : ℕ) → broken ≡ is_broken (run_of Deferred image l count)
    → ending_of broken ≡ compared_status image l count
unfolding compared_status
compared_ends broken image l count e = ap ending_of e
