use Rattle.std.proofs.Common.{◌≡◌, ◌∙◌, sym, rules}
use Rattle.call_checks.specs.Refusals.{names_caller}
use Rattle.call_checks.proofs.Tables.{multi-row}
use Rattle.call_checks.proofs.refusals.call_refusal.Goals as goal

pub returns-in-PendMulti-clause-row : goal.returns-in-PendMulti-clause-row
returns-in-PendMulti-clause-row c = λ served call k s r own kinds moment.
    let told : names_caller c.args.moment ≡ c.eq-own.result = search rules in
    multi-row c.table_refusal.result c.eq-own.result c.args.request.now c.args.kinds.now served call k (s ∙ c.if-not-served.false) r (own ∙ told) kinds c.in-PendMulti.is (sym c.argument_refusal.ensures ∙ c.in_default-argument_refusal.is) c.table_refusal.ensures
