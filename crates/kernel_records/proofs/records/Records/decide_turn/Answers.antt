use Rattle.std.proofs.Common.{ap, ◌∙◌, Bool}
use Rattle.std.specs.Prelude.{nat_lt}
use Rattle.round_robin.specs.Turns.{quantum_of, turn_of}
use Rattle.kernel_records.specs.RecordsView.{state_of}
use Rattle.kernel_records.proofs.SchedulerFacts.{is-locked}
use Rattle.kernel_records.proofs.records.Records.decide_turn.Goals as goal

pub returns : goal.returns
returns c =
    let front = c.args.front.now in
    let a = c.self.inside in
    let locked = nat_lt 0 a.lock in
    rw (← c.self.view_is)
    (c.decide_tick.ensures
    ∙ ap (λ q. turn_of front q locked a.settings.round_robin) (rw (← c.self.view_is) at c.quantum_of.ensures)
    ∙ ap (λ (b : Bool). turn_of front (quantum_of front.first (state_of a)) b a.settings.round_robin) (is-locked a.lock))
