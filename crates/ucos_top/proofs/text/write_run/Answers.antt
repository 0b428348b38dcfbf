use Rattle.std.proofs.Common.{◌≡◌, ◌++◌, ◌<◌, [], arith, refl}
use Rattle.std.proofs.KnownBytes.{Appends-trans, Appends-nil}
use Rattle.std.proofs.lemmas.Result.{err_from_is_err_and}
use Rattle.outside.proofs.Known.{AppendsPrefix-after, WritesPiece-after}
use Rattle.served.specs.Served.{program_serves}
use Rattle.machine_model.specs.Rules.{next}
use Rattle.machine_model.specs.Bound.{events_left}
use Rattle.machine_model.specs.Run.{run_text}
use Rattle.machine_model.specs.Text.{event_text, end_line}
use Rattle.machine_model.proofs.CountLaws.{t-next}
use Rattle.machine_model.proofs.RunLaws.{printed_nothing, printed_more, printed_all}
use Rattle.program_model.specs.Answer.{printed}
use Rattle.ucos_top.proofs.CauseLaws.{cause-after}
use Rattle.ucos_top.proofs.text.write_run.Goals as goal

pub running-init : goal.running-init
running-init g c = record {
  written = ([], Appends-nil (g.K.Sink.held c.args.sink.now), λ list e. rw e (printed_nothing program_serves c.args.machine.method c.args.image.now list c.args.count));
  method = refl;
  within = c.requires.within;
  bound = c.requires.count;
  later = omega arith;
}

-- what the event prints is written
pub running-preserved : goal.running-preserved
running-preserved g c =
    let (front, written, printed) = c.running.invariant.written in
    let state = c.running.machine.state in
    let same : c.running.machine.method ≡ c.args.machine.method = c.running.invariant.method in
    let open_yet : state.t < c.args.count = omega (arith, c.running-test.true, c.task_steps.ensures) in
    let falls : events_left c.args.count (next program_serves c.args.machine.method state).1 < events_left c.args.count state = rw (c.step_into.ensures.machine, same) at (c.step_into.ensures.fewer c.args.count open_yet) in
    let some : 0 < events_left c.args.count state = omega (arith, falls) in
    let said = rw (c.step_into.ensures.event, same) at c.in_ok-write_event.ensures.bytes in
    record {
      written = (
        front ++ event_text c.args.image.now (next program_serves c.args.machine.method state).0,
        Appends-trans _ _ _ front _ written said,
        λ list e.
            rw (c.step_into.ensures.machine, same) ((printed_more program_serves c.args.machine.method c.args.image.now list c.args.count front state (printed list e) open_yet some).printed falls),
      );
      method = rw c.step_into.ensures.machine same;
      within = rw (c.step_into.ensures.machine, same) (omega (arith, t-next program_serves c.args.machine.method state, open_yet));
      bound = c.running.invariant.bound;
      later = omega (arith, c.running.invariant.later, c.in_ok-write_event.ensures.cause.later);
    }

pub running-smaller : goal.running-smaller
running-smaller g c = c.step_into.ensures.fewer c.args.count (omega (arith, c.running-test.true, c.task_steps.ensures))

-- a prefix of what the event prints is written, behind what was printed before
pub returns-in_err-write_event-clause-bytes : goal.returns-in_err-write_event-clause-bytes
unfolding printed
returns-in_err-write_event-clause-bytes g c = λ list e.
    let p = err_from_is_err_and c.from_residual.result c.from_residual.ensures.1 in
    let (front, written, printed) = c.running.invariant.written in
    let state = c.running.machine.state in
    let same : c.running.machine.method ≡ c.args.machine.method = c.running.invariant.method in
    let open_yet : state.t < c.args.count = omega (arith, c.running-test.true, c.task_steps.ensures) in
    let falls : events_left c.args.count (next program_serves c.args.machine.method state).1 < events_left c.args.count state = rw (c.step_into.ensures.machine, same) at (c.step_into.ensures.fewer c.args.count open_yet) in
    let some : 0 < events_left c.args.count state = omega (arith, falls) in
    let next_one = printed_more program_serves c.args.machine.method c.args.image.now list c.args.count front state (printed list e) open_yet some in
    let said = rw (c.step_into.ensures.event, same) at c.in_err-write_event.ensures.bytes in
    rw p.1 (AppendsPrefix-after (g.K.Sink.held c.args.sink.now) (g.K.Sink.held c.running.sink) (g.K.Sink.held c.write_event.new.sink)
    front (event_text c.args.image.now (next program_serves c.args.machine.method state).0) next_one.rest (run_text program_serves c.args.machine.method c.args.image.now list c.args.count) written said next_one.follows)

-- the last line is written, or a prefix of it
pub returns-clause-bytes : goal.returns-clause-bytes
unfolding printed
returns-clause-bytes g c = λ list e.
    let (front, written, printed) = c.running.invariant.written in
    let state = c.running.machine.state in
    let same : c.running.machine.method ≡ c.args.machine.method = c.running.invariant.method in
    let at_end : state.t ≡ c.args.count = omega (arith, c.running-test.false, c.task_steps.ensures, c.running.invariant.within) in
    let last : c.as_slice.result.now ≡ end_line state.s state.t = cc in
    let said = rw last at c.write.ensures.bytes in
    WritesPiece-after c.write.result _ _ _ front _ _ written said (printed_all program_serves c.args.machine.method c.args.image.now list c.args.count front state (printed list e) at_end)

pub returns-clause-cause : goal.returns-clause-cause
returns-clause-cause g c = cause-after (g.K.Sink.faults c.args.sink.now) (g.K.Sink.faults c.running.sink) (g.K.Sink.faults c.write.new.self) c.write.result c.running.invariant.later c.write.ensures.cause
