use Rattle.std.proofs.Common.{ap, sym, ◌∙◌}
use Rattle.std.specs.Prelude.{slice_index_or}
use Rattle.kern_model.specs.State.{Object}
use Rattle.decisions.specs.Decided.{bits_in}
use Rattle.message_store.specs.Store.{no_queue}
use Rattle.kernel_records.proofs.ObjectFacts.{none-object, some-object}
use Rattle.kernel_records.proofs.records.Records.bits_of.Goals as goal

pub returns-in-Some : goal.returns-in-Some
returns-in-Some c =
    rw (← c.self.view_is)
    (c.bits.ensures (slice_index_or c.self.inside.messages.queues c.args.number no_queue)
    ∙ sym (ap (λ (b : Object). bits_in b.content) (some-object c.self.inside.messages.queues c.self.inside.objects.items c.deref.result.now c.args.number c.in-Some.object.now _ c.deref.ensures.value c.in-Some.ensures.lookup.0 c.in-Some.ensures.lookup.1)))

pub returns-in-None : goal.returns-in-None
returns-in-None c =
    rw (← c.self.view_is)
    (sym (ap (λ (b : Object). bits_in b.content) (none-object c.self.inside.messages.queues c.self.inside.objects.items c.deref.result.now c.args.number c.deref.ensures.value c.in-None.ensures.lookup.0)))
