use Rattle.std.proofs.Common.{◌≡◌, ℕ, Some, ap, ◌∙◌}
use Rattle.kern_base.specs.declared.requests.Request.{Request}
use Rattle.kern_model.specs.State.{Task, prio_of}
use Rattle.served.specs.Served.{program_serves}
use Rattle.kernel_calls.specs.KernelRecord.{KernelRecord}
use Rattle.kernel_calls.specs.Works.{begun}
use Rattle.rv32_exec.specs.Registers.{Registers}
use Rattle.machine_model.specs.Acts.{called, request_of}
use Rattle.machine_core.specs.AnswerView.{request_in}
use Rattle.machine_core.proofs.tasks.call.Goals as goal

-- the request is the one in the registers of the task
pub returns-clause-kernel : goal.returns-clause-kernel
returns-clause-kernel g c = λ memory.
    let k = c.args.kernel.now in
    let x = c.args.task.0 in
    let prio : c.tcb-tcb.result.now.prio.0 ≡ prio_of k.state x = ap (λ (t : Task). t.prio) c.tcb-tcb.ensures.task in
    let request : c.request_in-request.result ≡ request_in k x memory = c.request_in-request.ensures memory ∙ ap (λ (r : Registers). request_of program_serves r memory) c.tcb-tcb.ensures.registers in
    c.begin.ensures.begun ∙ ap (λ (r : Request). let n : KernelRecord = record k { hand = Some (begun x r c.tcb-tcb.result.now.prio.0 c.tcb-tcb.result.now.prio.0) } in n) request
    ∙ ap (λ (p : ℕ). let n : KernelRecord = record k { hand = Some (begun x (request_in k x memory) p p) } in n) prio

pub returns-clause-line : goal.returns-clause-line
returns-clause-line g c = λ memory.
    let k = c.args.kernel.now in
    let x = c.args.task.0 in
    let request : c.request_in-request.result ≡ request_in k x memory = c.request_in-request.ensures memory ∙ ap (λ (r : Registers). request_of program_serves r memory) c.tcb-tcb.ensures.registers in
    c.call_line.ensures ∙ ap (λ (r : Request). called x r) request
