use Rattle.std.proofs.Common.{◌≡◌, ℕ, ◌<◌, length}
use Rattle.link_plans.specs.Told.{standing_after, standing_told}
use Rattle.link_plans.proofs.plan.Plan.standings.Given as goal

abbrev pub invariant-loop-task : goal.invariant-loop-task
invariant-loop-task l =
    record {
      size : length l.standings ≡ 64;
      told : (x : ℕ) → x < l.task → standing_told l.standings x ≡ standing_after l.self l.tasks.tasks x;
    }
