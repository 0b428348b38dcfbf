use Rattle.std.proofs.Common.{ap, sym}
use Rattle.kern_model.specs.State.{Object}
use Rattle.kernel_records.proofs.ObjectFacts.{none-object, some-object}
use Rattle.kernel_records.proofs.records.Records.is_deleted.Goals as goal

pub returns-in-Some : goal.returns-in-Some
returns-in-Some c =
    rw (← c.self.view_is)
    (sym (ap (λ (b : Object). b.deleted) (some-object c.self.inside.messages.queues c.self.inside.objects.items c.deref.result.now c.args.number c.in-Some.object.now _ c.deref.ensures.value c.in-Some.ensures.lookup.0 c.in-Some.ensures.lookup.1)))

pub returns-in-None : goal.returns-in-None
returns-in-None c =
    rw (← c.self.view_is)
    (sym (ap (λ (b : Object). b.deleted) (none-object c.self.inside.messages.queues c.self.inside.objects.items c.deref.result.now c.args.number c.deref.ensures.value c.in-None.ensures.lookup.0)))
