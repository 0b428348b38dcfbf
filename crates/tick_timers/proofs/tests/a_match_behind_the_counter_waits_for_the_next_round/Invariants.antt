use Rattle.std.proofs.Common.{◌≡◌, []}
use Rattle.tick_timers.proofs.tests.a_match_behind_the_counter_waits_for_the_next_round.Given as goal

abbrev pub invariant-loop : goal.invariant-loop
invariant-loop g l = l.ticks.matches ≡ []
