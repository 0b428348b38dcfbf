use Rattle.std.proofs.Common.{◌≡◌, ℕ, ◌<◌, ◌≤◌}
use Rattle.std.specs.Prelude.{◌-◌, min}
use Rattle.mutex_inherit.specs.Chains.{prio_at, least_from}
use Rattle.mutex_inherit.proofs.chains.inherited.Given as goal

-- what is found and what is left to be looked at are the least of all
abbrev pub invariant-loop-task : goal.invariant-loop-task
invariant-loop-task l =
    (x : ℕ) → x < 64 → (prio_at l.prios x ≤ 63) × (min (prio_at l.prios x) (least_from (64 - l.task) l.task l.bases l.waits_for x) ≡ least_from 64 0 l.bases l.waits_for x)
