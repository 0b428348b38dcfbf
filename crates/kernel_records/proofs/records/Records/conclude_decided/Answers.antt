use Rattle.std.proofs.Common.{◌≡◌, ◌<◌, ap, sym, ◌∙◌, length, true, subst}
use Rattle.kern_base.specs.declared.outcomes.Decision.{Decision}
use Rattle.kern_base.specs.declared.outcomes.Decision.TheVariants.{Wake}
use Rattle.kern_model.specs.State.{Kernel, object_at}
use Rattle.kern_model.specs.Checks.{argument}
use Rattle.kern_model.specs.Waiters.{messages_in}
use Rattle.decisions.specs.Decided.{ending_of}
use Rattle.kernel_records.specs.Served.{is_served_wait}
use Rattle.kernel_records.specs.Deciding.{IsServedDecision, decision_of, own_change}
use Rattle.kernel_records.specs.Concluding.{awakens, is_deletion, waiting_in}
use Rattle.kernel_records.specs.RecordsRecord.{RecordsRecord}
use Rattle.kernel_records.proofs.DeletionFacts.{deleted-empty, deleted-there}
use Rattle.kernel_records.proofs.RowFacts.{own-block}
use Rattle.kernel_records.proofs.records.Records.conclude_decided.Goals as goal

pub returns-in-Block-clause-records : goal.returns-in-Block-clause-records
returns-in-Block-clause-records c =
    let r = c.args.request.now in
    let x = c.args.seen.now.caller.0 in
    let k = c.args.self.now.state in
    let served : is_served_wait r.service ≡ true = subst (λ (d : Decision). IsServedDecision d r.service) c.in-Block.is c.requires.served in
    c.wait.ensures
    ∙ rw c.in-Block.is (ap (λ (j : Kernel). let a : RecordsRecord = record { state = waiting_in r x j; registers = c.args.self.now.registers } in a) (sym (own-block r x k served)))

-- a deletion is of an object that is there, and holds no message any more

pub delete_object-requires-clause-object : goal.delete_object-requires-clause-object
delete_object-requires-clause-object c =
    let r = c.args.request.now in
    let d = c.in-Wake.who in
    let k = c.args.self.now.state in
    let h : is_deletion (ending_of r.service) ≡ true = sym c.is_deletion.ensures ∙ c.if-is_deletion.true in
    let e : Wake d ≡ decision_of r c.args.seen.now k = sym c.in-Wake.is ∙ c.requires.decided in
    let made = ap (λ (a : RecordsRecord). a.state) c.wake_some-answer.ensures.records
    ∙ ap (λ (a : RecordsRecord). awakens d r c.args.woken.now a.state) c.apply-in-Wake.ensures
    ∙ ap (λ (t : Decision). awakens d r c.args.woken.now (own_change r c.args.seen.now.caller.0 t k)) c.in-Wake.is in
    subst (λ (j : Kernel). argument r 0 < length j.objects) (sym made) (deleted-there r c.args.seen.now d c.args.woken.now k e h)

pub delete_object-requires-clause-empty : goal.delete_object-requires-clause-empty
delete_object-requires-clause-empty c =
    let r = c.args.request.now in
    let d = c.in-Wake.who in
    let k = c.args.self.now.state in
    let h : is_deletion (ending_of r.service) ≡ true = sym c.is_deletion.ensures ∙ c.if-is_deletion.true in
    let e : Wake d ≡ decision_of r c.args.seen.now k = sym c.in-Wake.is ∙ c.requires.decided in
    let made = ap (λ (a : RecordsRecord). a.state) c.wake_some-answer.ensures.records
    ∙ ap (λ (a : RecordsRecord). awakens d r c.args.woken.now a.state) c.apply-in-Wake.ensures
    ∙ ap (λ (t : Decision). awakens d r c.args.woken.now (own_change r c.args.seen.now.caller.0 t k)) c.in-Wake.is in
    subst (λ (j : Kernel). messages_in (object_at j (argument r 0)).content ≡ 0) (sym made) (deleted-empty r c.args.seen.now d c.args.woken.now k e h)
