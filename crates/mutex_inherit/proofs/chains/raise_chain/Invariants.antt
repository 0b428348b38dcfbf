use Rattle.std.proofs.Common.{◌≡◌, ℕ, ◌<◌, Some}
use Rattle.std.specs.Prelude.{◌-◌}
use Rattle.mutex_inherit.specs.Chains.{number_of, prio_at, is_passed, raised}
use Rattle.mutex_inherit.proofs.chains.raise_chain.Given as goal

-- what is left of the chain raises what is left to be raised
abbrev pub invariant-loop-step : goal.invariant-loop-step
invariant-loop-step l =
    (x : ℕ) → x < 64 → raised (is_passed (65 - l._step) l.waits_for x (number_of l.next)) l.base.0 (prio_at l.prios x) ≡ raised (is_passed 65 l.waits_for x (Some l.first)) l.base.0 (prio_at l.initial.prios x)
