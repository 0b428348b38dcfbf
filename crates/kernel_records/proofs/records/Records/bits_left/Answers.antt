use Rattle.std.proofs.Common.{sym, ◌∙◌, ◌≡◌, ◌<◌, ◌≤◌, length, subst}
use Rattle.std.specs.Prelude.{slice_index, slice_index_or}
use Rattle.kern_model.specs.State.{object_in, no_object}
use Rattle.kern_model.proofs.Lemmas.{less, not_less}
use Rattle.message_store.specs.Store.{no_queue}
use Rattle.kernel_records.specs.ObjectView.{object_seen, objects_in}
use Rattle.kernel_records.specs.RecordsView.{state_of}
use Rattle.kernel_records.proofs.BitsFacts.{bits-past, bits-there}
use Rattle.kernel_records.proofs.ObjectFacts.{length-objects, none-object, some-object}
use Rattle.kernel_records.proofs.records.Records.bits_left.Goals as goal

pub returns-in-Some : goal.returns-in-Some
returns-in-Some c =
    let n = slice_index c.args.request.now.args 0 in
    let qs = c.self.inside.messages.queues in
    let q = slice_index_or qs n no_queue in
    let here : object_in (objects_in qs c.self.inside.objects.items) n ≡ object_seen q c.in-Some.object.now =
    some-object qs c.self.inside.objects.items c.deref.result.now n c.in-Some.object.now _ c.deref.ensures.value c.in-Some.ensures.lookup.0 c.in-Some.ensures.lookup.1 in
    let inside : n < length (objects_in qs c.self.inside.objects.items) =
    subst (λ m. n < m) (sym (length-objects qs c.self.inside.objects.items)) (subst (λ l. n < length l) c.deref.ensures.value (less n (length c.deref.result.now) (sym c.in-Some.ensures.lookup.0))) in
    rw (← c.self.view_is) (λ x. c.bits_left.ensures q ∙ sym (bits-there c.args.request.now x (state_of c.self.inside) c.requires (object_seen q c.in-Some.object.now) here inside))

pub returns-in-None : goal.returns-in-None
returns-in-None c =
    let n = slice_index c.args.request.now.args 0 in
    let gone : object_in (objects_in c.self.inside.messages.queues c.self.inside.objects.items) n ≡ no_object =
    none-object c.self.inside.messages.queues c.self.inside.objects.items c.deref.result.now n c.deref.ensures.value c.in-None.ensures.lookup.0 in
    let past : length (objects_in c.self.inside.messages.queues c.self.inside.objects.items) ≤ n =
    subst (λ m. m ≤ n) (sym (length-objects c.self.inside.messages.queues c.self.inside.objects.items)) (subst (λ l. length l ≤ n) c.deref.ensures.value (not_less n (length c.deref.result.now) (sym c.in-None.ensures.lookup.0))) in
    rw (← c.self.view_is) (λ x. sym (bits-past c.args.request.now x (state_of c.self.inside) c.requires gone past))
