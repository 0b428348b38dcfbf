use Rattle.std.proofs.Common.{ap, sym, ◌∙◌}
use Rattle.event_flags.specs.Rows.{decision_for}
use Rattle.event_flags.proofs.Laws.{decided-row}
use Rattle.event_flags.proofs.flags.FlagGroup.decide.Goals as goal

pub returns-in-FlagPost-clause-row : goal.returns-in-FlagPost-clause-row
returns-in-FlagPost-clause-row c =
    let bits = c.args.self.now.bits in
    let r = c.args.request.now in
    let seen = c.args.seen.now in
    decided-row _ bits r seen c.requires (ap (λ s. decision_for s bits r seen) (sym c.in-FlagPost.is))

pub returns-in-FlagPend-clause-row : goal.returns-in-FlagPend-clause-row
returns-in-FlagPend-clause-row c =
    let bits = c.args.self.now.bits in
    let r = c.args.request.now in
    let seen = c.args.seen.now in
    decided-row c.decide_pend.result bits r seen c.requires (c.decide_pend.ensures ∙ ap (λ s. decision_for s bits r seen) (sym c.in-FlagPend.is))
