-- What the kernel's fields mean, and what is always true of them.
use Rattle.std.specs.Prelude.{Bool, true, false, Option, Some, None, length}
use Rattle.kern_model.specs.State.{Kernel}
use Rattle.kern_model.specs.Micro.{Lists}
use Rattle.kern_model.specs.Valid.{IsLinked}
use Rattle.micro_steps.specs.Halfway.{seen_lists}
use Rattle.kernel_calls.specs.declared.seen.Seen.{Seen}
use Rattle.micro_steps.specs.Whole.{StepsRecord}
use Rattle.link_plans.specs.declared.plan.Plan.{Plan}
use Rattle.kernel_records.specs.RecordsRecord.{RecordsRecord, with_lists}
use Rattle.kernel_records.specs.Served.{IsServed}
use Rattle.kernel_calls.specs.Works.{WorkRecord}
use Rattle.kernel_calls.specs.KernelRecord.{KernelRecord}
use Rattle.kernel_calls.specs.Stepping.{AreNodes, IsHand}

-- the kernel of these records and these lists of nodes
abbrev pub state_with : Kernel → Lists → Kernel
state_with k l = with_lists k (seen_lists (length k.objects) l)

abbrev pub hand_of : Bool → WorkRecord → Option WorkRecord
hand_of true w = Some w
hand_of false w = None

abbrev pub kernel_of : RecordsRecord → StepsRecord → WorkRecord → Bool → KernelRecord
kernel_of r s w busy = record { state = state_with r.state s.start; registers = r.registers; hand = hand_of busy w }

-- what is always true of the fields
pub record IsSound (r : RecordsRecord) (s : StepsRecord) (q : Plan) (seen : Seen) (w : WorkRecord) (busy : Bool) : Type 0 where
  pub valid : IsLinked (state_with r.state s.start)
  pub served : IsServed (state_with r.state s.start)
  pub nodes : AreNodes (state_with r.state s.start) s.start
  pub hand : IsHand busy w q seen (state_with r.state s.start) s
