use Rattle.std.specs.Prelude.{flat_map}
use Rattle.std.proofs.Common.{◌++◌, ap, arith}
use Rattle.std.proofs.Math.Nat.{mul-le-mul_right}
use Rattle.served.specs.Served.{program_serves}
use Rattle.machine_model.specs.Text.{event_text, end_line}
use Rattle.machine_model.specs.Run.{run}
use Rattle.program_model.specs.Answer.{printed}
use Rattle.ucos_top.proofs.ends.every_run_comes_to_its_end.Goals as goal

pub returns : goal.returns
unfolding printed
returns c method image l n valid words list =
    let r = run program_serves method image l n in
    let ended = c.every_run_ends.ensures program_serves method image l n valid words list in
    let bounded = c.raw_steps_are_bounded.ensures program_serves method image l n valid words list in
    let front = flat_map (event_text image) r.events in
    record {
      front = front;
      raw = r.last.s;
      end = ap (λ t. front ++ end_line r.last.s t) ended.t;
      bound =
          let some = mul-le-mul_right image.config.isr_limit bounded.list in
          let steps = bounded.steps in
          let frames = bounded.frames in
          let queue = bounded.queue in
          omega (arith, steps, frames, queue, some);
    }
