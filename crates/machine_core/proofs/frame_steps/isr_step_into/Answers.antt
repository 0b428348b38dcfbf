use Rattle.std.proofs.Common.{◌∙◌, ap}
use Rattle.machine_core.proofs.IsrLaws.{step-of, size-step}
use Rattle.machine_core.proofs.frame_steps.isr_step_into.Goals as goal

pub returns-clause-rule : goal.returns-clause-rule
returns-clause-rule c = λ m parts.
    let is = step-of m c.args.program.now c.args.kinds.now c.args.saved.0 c.args.frames.now c.args.ram.now c.args.queue.now parts in
    record {
      line = c.frame_step.ensures.line ∙ is.what;
      frames = ap (λ n. n.frames) c.frame_step.ensures.frames ∙ is.frames;
      memory = c.frame_step.ensures.memory ∙ is.memory;
      posts = ap (λ q. q.posts) c.frame_step.ensures.posts ∙ is.later;
    }

pub returns-clause-size : goal.returns-clause-size
returns-clause-size c = ap (λ q. q.size) c.frame_step.ensures.posts ∙ size-step c.args.program.now c.args.kinds.now c.args.saved.0 c.args.frames.now c.args.ram.now c.args.queue.now
