use Rattle.std.proofs.Common.{◌≡◌, ◌++◌, ◌<◌, [], ◌∷◌, ap, ◌∙◌, sym, arith, refl, append-nil}
use Rattle.std.proofs.KnownBytes.{Appends-trans, Appends-nil}
use Rattle.std.proofs.lemmas.Result.{err_from_is_err_and}
use Rattle.outside.proofs.Known.{AppendsPrefix-after}
use Rattle.served.specs.Served.{program_serves}
use Rattle.machine_model.specs.Machine.{Machine}
use Rattle.machine_model.specs.Rules.{next}
use Rattle.machine_model.specs.Bound.{events_left}
use Rattle.machine_model.specs.Premises.{premises}
use Rattle.machine_model.specs.Run.{run, history}
use Rattle.machine_model.specs.Text.{event_history, end_history}
use Rattle.machine_model.proofs.CountLaws.{t-next}
use Rattle.program_model.specs.Both.{run_of}
use Rattle.ucos_top.proofs.HistoryLaws.{told_nothing, told_more, told_all}
use Rattle.ucos_top.proofs.history.write_history.Goals as goal

pub running-init : goal.running-init
running-init g c = record {
  written = ([], [], Appends-nil (g.K.Sink.held c.args.sink.now), c.new-premises.ensures, λ list e. rw e (told_nothing program_serves c.args.machine.method c.args.image.now list c.args.count));
  method = refl;
  within = c.requires.within;
  bound = c.requires.count;
  later = omega arith;
}

-- what the event tells is written
pub running-preserved : goal.running-preserved
running-preserved g c =
    let (front, events, written, watched, told) = c.running.invariant.written in
    let state = c.running.machine.state in
    let same : c.running.machine.method ≡ c.args.machine.method = c.running.invariant.method in
    let open_yet : state.t < c.args.count = omega (arith, c.running-test.true, c.task_steps.ensures) in
    let falls : events_left c.args.count (next program_serves c.args.machine.method state).1 < events_left c.args.count state = rw (c.step_into.ensures.machine, same) at (c.step_into.ensures.fewer c.args.count open_yet) in
    let some : 0 < events_left c.args.count state = omega (arith, falls) in
    let said = rw (c.step_into.ensures.event, same) at c.in_ok-write_kept.ensures.bytes in
    let seen = rw (c.step_into.ensures.event, same) at (c.watch.ensures events watched) in
    record {
      written = (
        front ++ event_history c.args.image.now (next program_serves c.args.machine.method state).0,
        events ++ (next program_serves c.args.machine.method state).0 ∷ [],
        Appends-trans _ _ _ front _ written said,
        seen,
        λ list e.
            rw (c.step_into.ensures.machine, same) ((told_more program_serves c.args.machine.method c.args.image.now list c.args.count front events state (told list e) open_yet some).told falls),
      );
      method = rw c.step_into.ensures.machine same;
      within = rw (c.step_into.ensures.machine, same) (omega (arith, t-next program_serves c.args.machine.method state, open_yet));
      bound = c.running.invariant.bound;
      later = omega (arith, c.running.invariant.later, c.in_ok-write_kept.ensures.cause.later);
    }

pub running-smaller : goal.running-smaller
running-smaller g c = c.step_into.ensures.fewer c.args.count (omega (arith, c.running-test.true, c.task_steps.ensures))

-- a prefix of what the event tells is written, behind what was told before
pub returns-in_err-write_kept-clause-bytes : goal.returns-in_err-write_kept-clause-bytes
unfolding run_of
returns-in_err-write_kept-clause-bytes g c = λ list e.
    let p = err_from_is_err_and c.from_residual.result c.from_residual.ensures.1 in
    let (front, events, written, watched, told) = c.running.invariant.written in
    let state = c.running.machine.state in
    let same : c.running.machine.method ≡ c.args.machine.method = c.running.invariant.method in
    let open_yet : state.t < c.args.count = omega (arith, c.running-test.true, c.task_steps.ensures) in
    let falls : events_left c.args.count (next program_serves c.args.machine.method state).1 < events_left c.args.count state = rw (c.step_into.ensures.machine, same) at (c.step_into.ensures.fewer c.args.count open_yet) in
    let some : 0 < events_left c.args.count state = omega (arith, falls) in
    let next_one = told_more program_serves c.args.machine.method c.args.image.now list c.args.count front events state (told list e) open_yet some in
    let said = rw (c.step_into.ensures.event, same) at c.in_err-write_kept.ensures.bytes in
    rw p.1 (AppendsPrefix-after (g.K.Sink.held c.args.sink.now) (g.K.Sink.held c.running.sink) (g.K.Sink.held c.write_kept.new.sink)
    front (event_history c.args.image.now (next program_serves c.args.machine.method state).0) next_one.rest
    (history c.args.image.now (run program_serves c.args.machine.method c.args.image.now list c.args.count)) written said next_one.follows)

-- a prefix of the last line is written
pub returns-in_err-write-clause-bytes : goal.returns-in_err-write-clause-bytes
unfolding run_of
returns-in_err-write-clause-bytes g c = λ list e.
    let p = err_from_is_err_and c.from_residual-in_err-write.result c.from_residual-in_err-write.ensures.1 in
    let (front, events, written, watched, told) = c.running.invariant.written in
    let state = c.running.machine.state in
    let at_end : state.t ≡ c.args.count = omega (arith, c.running-test.false, c.task_steps.ensures, c.running.invariant.within) in
    let all = told_all program_serves c.args.machine.method c.args.image.now list c.args.count front events state (told list e) at_end in
    let last : c.as_slice.result.now ≡ end_history state.t = c.as_slice.ensures.value ∙ c.end_of_history-line.ensures ∙ ap end_history c.task_steps-2.ensures in
    let said = rw last at c.in_err-write.ensures.bytes in
    rw p.1 (AppendsPrefix-after (g.K.Sink.held c.args.sink.now) (g.K.Sink.held c.running.sink) (g.K.Sink.held c.write.new.self)
    front (end_history state.t) [] (history c.args.image.now (run program_serves c.args.machine.method c.args.image.now list c.args.count)) written said
    (all.text ∙ ap (λ l. front ++ l) (sym (append-nil (end_history state.t)))))

-- the last line is written
pub returns-clause-bytes : goal.returns-clause-bytes
unfolding run_of
returns-clause-bytes g c = λ list e.
    let (front, events, written, watched, told) = c.running.invariant.written in
    let state = c.running.machine.state in
    let at_end : state.t ≡ c.args.count = omega (arith, c.running-test.false, c.task_steps.ensures, c.running.invariant.within) in
    let all = told_all program_serves c.args.machine.method c.args.image.now list c.args.count front events state (told list e) at_end in
    let last : c.as_slice.result.now ≡ end_history state.t = c.as_slice.ensures.value ∙ c.end_of_history-line.ensures ∙ ap end_history c.task_steps-2.ensures in
    let said = rw last at c.in_ok-write.ensures.bytes in
    rw all.text (Appends-trans _ _ _ front (end_history state.t) written said)

pub returns-clause-raw_steps : goal.returns-clause-raw_steps
unfolding run_of
returns-clause-raw_steps g c = λ list e.
    let (front, events, written, watched, told) = c.running.invariant.written in
    let state = c.running.machine.state in
    let at_end : state.t ≡ c.args.count = omega (arith, c.running-test.false, c.task_steps.ensures, c.running.invariant.within) in
    let all = told_all program_serves c.args.machine.method c.args.image.now list c.args.count front events state (told list e) at_end in
    c.raw_steps-raw_steps.ensures ∙ ap (λ (m : Machine). m.s) (sym all.last)

-- the premises are those of all events
pub returns-clause-premises : goal.returns-clause-premises
unfolding run_of
returns-clause-premises g c = λ list e.
    let (front, events, written, watched, told) = c.running.invariant.written in
    let state = c.running.machine.state in
    let at_end : state.t ≡ c.args.count = omega (arith, c.running-test.false, c.task_steps.ensures, c.running.invariant.within) in
    let all = told_all program_serves c.args.machine.method c.args.image.now list c.args.count front events state (told list e) at_end in
    watched ∙ ap premises (sym all.events_are)
