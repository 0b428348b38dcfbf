use Rattle.std.proofs.Common.{refl, ◌∙◌, sym, ap}
use Rattle.machine_core.proofs.IsrLaws.{step-of, direct-step, registers-step, hand-step, kernel-by, nest-by}
use Rattle.machine_core.proofs.interrupts.frame_step_by.Goals as goal

-- posts act at once
pub returns-in-Direct-clause-rule : goal.returns-in-Direct-clause-rule
returns-in-Direct-clause-rule g c = λ m parts same.
    let is = direct-step m c.args.program.now c.args.kinds.now c.args.prio.0 c.args.frames.now c.args.ram.now c.args.later.now c.args.kernel.now parts same in
    rw c.in-Direct.is (record {
      line = c.frame_step.ensures.line ∙ is.what;
      frames = c.frame_step.ensures.frames ∙ ap (λ fs. record c.args.frames.now { frames = fs }) is.frames;
      memory = c.frame_step.ensures.memory ∙ is.memory;
      posts = sym parts.posts ∙ is.later;
      kernel = kernel-by c.frame_step.new.posts c.args.kernel.now _ (ap (λ k. k.state) c.frame_step.ensures.posts ∙ is.kernel) (ap (λ k. k.registers) c.frame_step.ensures.posts ∙ registers-step c.args.program.now c.args.kinds.now c.args.prio.0 c.args.frames.now c.args.ram.now c.args.kernel.now) (ap (λ k. k.hand) c.frame_step.ensures.posts ∙ hand-step c.args.program.now c.args.kinds.now c.args.prio.0 c.args.frames.now c.args.ram.now c.args.kernel.now);
    })

-- or go into the queue
pub returns-in-Deferred-clause-rule : goal.returns-in-Deferred-clause-rule
returns-in-Deferred-clause-rule g c = λ m parts same.
    let by = c.isr_step_into.ensures.rule m parts in
    let is = step-of m c.args.program.now c.args.kinds.now c.args.prio.0 c.args.frames.now c.args.ram.now c.args.later.now parts in
    rw c.in-Deferred.is (record {
      line = by.line;
      frames = nest-by c.isr_step_into.new.frames c.args.frames.now _ by.frames c.isr_step_into.ensures.waiting;
      memory = by.memory;
      posts = by.posts;
      kernel = kernel-by c.args.kernel.now c.args.kernel.now _ (same ∙ is.kernel) refl refl;
    })
