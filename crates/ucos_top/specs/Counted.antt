-- What was counted of a run.
use Rattle.std.specs.Prelude.{◌≡◌, ◌≤◌, ◌^◌, ℕ}
use Rattle.machine_model.specs.Premises.{premises}
use Rattle.machine_model.specs.Run.{Run}
use Rattle.program_model.specs.Summary.{Counts, counts_of}
use Rattle.ucos_top.specs.declared.counting.Counted.{Counted}

-- a run has at most so many events, at a million task steps and with all the interrupts that a case may have
abbrev pub most_events : ℕ
most_events = 2 ^ 41

-- the counts are those of so many events
pub record IsFew (c : Counts) : Type 0 where
  pub calls : c.calls ≤ most_events
  pub switches : c.switches ≤ most_events
  pub own : c.own ≤ most_events

-- this was counted of the run
pub record IsCountOf (c : Counted) (r : Run) : Type 0 where
  pub raw_steps : c.raw_steps ≡ r.last.s
  pub counts : c.counts ≡ counts_of r.events
  pub premises : c.premises ≡ premises r.events
