-- A frame step whose posts go to the queue is the rule of a frame that runs, by the deferred method.
use Rattle.std.specs.Prelude.{drop}
use Rattle.std.proofs.Common.{◌≡◌, ℕ, List, refl, sym}
use Rattle.kern_base.specs.Tables.{KindTable}
use Rattle.kern_base.specs.declared.kinds.Method.TheVariants.{Direct, Deferred}
use Rattle.kern_model.specs.State.{Kernel, prio_of}
use Rattle.kernel_calls.specs.KernelRecord.{KernelRecord, with_state}
use Rattle.rv32_exec.specs.Exec.{exec}
use Rattle.isr_nesting.specs.Nest.{Nest}
use Rattle.deferred_queue.specs.QueueRecord.{QueueRecord}
use Rattle.machine_model.specs.Marks.{marks_after, next_instruction}
use Rattle.machine_model.specs.Frames.{FrameRecord}
use Rattle.machine_model.specs.Machine.{Machine}
use Rattle.machine_core.specs.Posts.{post_at_once, post_later}
use Rattle.machine_core.specs.FrameCalls.{top_of, frame_stepped}
use Rattle.machine_core.specs.IsrStep.{HasParts, deferred_step, step_by_method}
use Rattle.machine_core.proofs.FrameRules.{IsStep, step-runs, keeps-step, goes-direct, goes-deferred, size-later}

pub step-of : (m : Machine) (code : List ℕ) (kinds : KindTable) (saved : ℕ) (frames : Nest) (memory : List ℕ) (queue : QueueRecord) → HasParts m code kinds saved frames memory queue
    → IsStep (post_later saved) (λ _. m.kernel) (λ q. q.posts) (deferred_step m) (frame_stepped (post_later saved) kinds code frames.frames memory queue)
step-of m code kinds saved frames memory queue p =
    rw (← p.code, ← p.kinds, ← p.saved, ← p.frames, ← p.memory)
    (step-runs (post_later (prio_of m.kernel m.current)) (λ _. m.kernel) (λ q. q.posts) Deferred m queue refl (sym p.posts) (λ s args. goes-deferred m queue s args (sym p.posts) (sym p.size)) (top_of m.frames) (drop 1 m.frames))

pub size-step : (code : List ℕ) (kinds : KindTable) (saved : ℕ) (frames : Nest) (memory : List ℕ) (queue : QueueRecord) → (frame_stepped (post_later saved) kinds code frames.frames memory queue).after.size ≡ queue.size
size-step code kinds saved frames memory queue =
    let f = top_of frames.frames in
    let e = exec code f.registers memory in
    keeps-step (post_later saved) kinds (λ (q : QueueRecord). q.size ≡ queue.size) queue refl (λ s args. size-later saved s args queue) e.did e f (drop 1 frames.frames) (marks_after (next_instruction code f.registers) f.marks) memory

-- A frame step whose posts act at once is that rule by the direct method.

pub direct-step : (m : Machine) (code : List ℕ) (kinds : KindTable) (prio : ℕ) (frames : Nest) (memory : List ℕ) (queue : QueueRecord) (kernel : KernelRecord) → HasParts m code kinds prio frames memory queue → kernel.state ≡ m.kernel
    → IsStep (post_at_once prio) (λ (k : KernelRecord). k.state) (λ _. m.later) (step_by_method Direct m) (frame_stepped (post_at_once prio) kinds code frames.frames memory kernel)
direct-step m code kinds prio frames memory queue kernel p same =
    rw (← p.code, ← p.kinds, ← p.saved, ← p.frames, ← p.memory)
    (step-runs (post_at_once (prio_of m.kernel m.current)) (λ (k : KernelRecord). k.state) (λ _. m.later) Direct m kernel same refl (λ s args. goes-direct m kernel s args same) (top_of m.frames) (drop 1 m.frames))

-- the registers of the tasks are as they were
pub registers-step : (code : List ℕ) (kinds : KindTable) (prio : ℕ) (frames : Nest) (memory : List ℕ) (kernel : KernelRecord) → (frame_stepped (post_at_once prio) kinds code frames.frames memory kernel).after.registers ≡ kernel.registers
registers-step code kinds prio frames memory kernel =
    let f = top_of frames.frames in
    let e = exec code f.registers memory in
    keeps-step (post_at_once prio) kinds (λ (k : KernelRecord). k.registers ≡ kernel.registers) kernel refl (λ s args. refl) e.did e f (drop 1 frames.frames) (marks_after (next_instruction code f.registers) f.marks) memory

-- and so is what is in hand
pub hand-step : (code : List ℕ) (kinds : KindTable) (prio : ℕ) (frames : Nest) (memory : List ℕ) (kernel : KernelRecord) → (frame_stepped (post_at_once prio) kinds code frames.frames memory kernel).after.hand ≡ kernel.hand
hand-step code kinds prio frames memory kernel =
    let f = top_of frames.frames in
    let e = exec code f.registers memory in
    keeps-step (post_at_once prio) kinds (λ (k : KernelRecord). k.hand ≡ kernel.hand) kernel refl (λ s args. refl) e.did e f (drop 1 frames.frames) (marks_after (next_instruction code f.registers) f.marks) memory

pub kernel-by : (new old : KernelRecord) (k : Kernel) → new.state ≡ k → new.registers ≡ old.registers → new.hand ≡ old.hand → new ≡ with_state old k
kernel-by new old k state registers hand = rw (← state, ← registers, ← hand) refl

pub nest-by : (new old : Nest) (fs : List FrameRecord) → new.frames ≡ fs → new.waiting ≡ old.waiting → new ≡ record { frames = fs; waiting = old.waiting }
nest-by new old fs frames waiting = rw (← frames, ← waiting) refl
