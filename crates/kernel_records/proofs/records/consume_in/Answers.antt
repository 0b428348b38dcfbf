use Rattle.std.proofs.Common.{◌∙◌, ap, sym}
use Rattle.std.specs.Prelude.{slice_index_or, slice_set}
use Rattle.kern_model.specs.Finish.{consumed_object}
use Rattle.message_store.specs.Store.{no_queue}
use Rattle.kernel_records.specs.ObjectView.{objects_in}
use Rattle.kernel_records.proofs.ConsumeFacts.{consumed-first, set-past}
use Rattle.kernel_records.proofs.ObjectFacts.{length-objects, object-at, object-set}
use Rattle.kernel_records.proofs.records.consume_in.Goals as goal

pub returns-then-number-objects-clause-objects : goal.returns-then-number-objects-clause-objects
returns-then-number-objects-clause-objects c = λ qs.
    let n = c.in-Some.number.now in
    let bs = objects_in qs c.args.objects.now in
    sym (consumed-first c.args.ids.now n c.args.ready c.args.option bs c.in-Some.ensures.value ∙ set-past bs n _ (rw (length-objects qs c.args.objects.now) c.if-number-objects.true))

pub returns-clause-objects : goal.returns-clause-objects
returns-clause-objects c = λ qs.
    let n = c.in-Some.number.now in
    let bs = c.args.objects.now in
    object-set qs bs n c.consume_bits.new.object
    ∙ ap (slice_set (objects_in qs bs) n) (c.consume_bits.ensures (slice_index_or qs n no_queue) ∙ ap (consumed_object c.args.ready c.args.option) (sym (object-at qs bs n _ c.if-number-objects.false)))
    ∙ sym (consumed-first c.args.ids.now n c.args.ready c.args.option (objects_in qs bs) c.in-Some.ensures.value)
