use Rattle.std.proofs.Common.{◌≡◌, ◌++◌, ◌+◌, ◌<◌, [], ◌∷◌, length, ap, ◌∙◌, sym, arith, refl, length-append}
use Rattle.served.specs.Served.{program_serves}
use Rattle.machine_model.specs.Machine.{Machine}
use Rattle.machine_model.specs.Rules.{next}
use Rattle.machine_model.specs.Bound.{events_left}
use Rattle.machine_model.specs.Premises.{premises}
use Rattle.machine_model.specs.Text.{event_history}
use Rattle.machine_model.proofs.CountLaws.{t-next}
use Rattle.program_model.specs.Both.{run_of}
use Rattle.program_model.specs.Summary.{counts_of}
use Rattle.ucos_top.proofs.CountLaws.{few_counts}
use Rattle.ucos_top.proofs.HistoryLaws.{told_nothing, told_more, told_all}
use Rattle.ucos_top.proofs.counting.count_run.Goals as goal

pub running-init : goal.running-init
running-init c = record {
  counted = ([], c.new-counts.ensures, c.new-premises.ensures, omega (arith, c.requires.few), λ image list e. ([], rw e (told_nothing program_serves c.args.machine.method image list c.args.count)));
  method = refl;
  within = c.requires.within;
  bound = c.requires.count;
}

-- what was counted so far is of few events
pub add-requires : goal.add-requires
add-requires c =
    let (events, counted, watched, few, told) = c.running.invariant.counted in
    few_counts events c.running.counts counted (omega (arith, few))

-- the event is counted and watched
pub running-preserved : goal.running-preserved
running-preserved c =
    let (events, counted, watched, few, told) = c.running.invariant.counted in
    let state = c.running.machine.state in
    let same : c.running.machine.method ≡ c.args.machine.method = c.running.invariant.method in
    let open_yet : state.t < c.args.count = omega (arith, c.running-test.true, c.task_steps.ensures) in
    let falls : events_left c.args.count (next program_serves c.args.machine.method state).1 < events_left c.args.count state = rw (c.step_into.ensures.machine, same) at (c.step_into.ensures.fewer c.args.count open_yet) in
    let some : 0 < events_left c.args.count state = omega (arith, falls) in
    let event = (next program_serves c.args.machine.method state).0 in
    let longer : length (events ++ event ∷ []) ≡ length events + 1 = length-append events (event ∷ []) in
    record {
      counted = (
        events ++ event ∷ [],
        rw (c.step_into.ensures.event, same) at (c.add.ensures events counted),
        rw (c.step_into.ensures.event, same) at (c.watch.ensures events watched),
        rw (c.step_into.ensures.machine, same) (omega (arith, longer, few, falls)),
        λ image list e.
            let before = told image list e in (
              before.0 ++ event_history image event,
              rw (c.step_into.ensures.machine, same) ((told_more program_serves c.args.machine.method image list c.args.count before.0 events state before.1 open_yet some).told falls),
            ),
      );
      method = rw c.step_into.ensures.machine same;
      within = rw (c.step_into.ensures.machine, same) (omega (arith, t-next program_serves c.args.machine.method state, open_yet));
      bound = c.running.invariant.bound;
    }

pub running-smaller : goal.running-smaller
running-smaller c = c.step_into.ensures.fewer c.args.count (omega (arith, c.running-test.true, c.task_steps.ensures))

-- at the end all events are counted
pub returns-clause-counted : goal.returns-clause-counted
unfolding run_of
returns-clause-counted c = λ image list e.
    let (events, counted, watched, few, told) = c.running.invariant.counted in
    let state = c.running.machine.state in
    let at_end : state.t ≡ c.args.count = omega (arith, c.running-test.false, c.task_steps.ensures, c.running.invariant.within) in
    let before = told image list e in
    let all = told_all program_serves c.args.machine.method image list c.args.count before.0 events state before.1 at_end in
    record {
      raw_steps = c.raw_steps.ensures ∙ ap (λ (m : Machine). m.s) (sym all.last);
      counts = counted ∙ ap counts_of (sym all.events_are);
      premises = watched ∙ ap premises (sym all.events_are);
    }

pub returns-clause-few : goal.returns-clause-few
returns-clause-few c =
    let (events, counted, watched, few, told) = c.running.invariant.counted in
    few_counts events c.running.counts counted (omega (arith, few))
