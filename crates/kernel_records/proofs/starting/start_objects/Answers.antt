use Rattle.std.proofs.Common.{rules, ◌≡◌, ◌+◌, ◌++◌, ◌∷◌, [], List, ap, sym, ◌∙◌, length, map, take}
use Rattle.std.proofs.lemmas.List.{length-append, length-map, map-append, take_more}
use Rattle.kern_model.specs.State as state
use Rattle.kern_model.specs.Start.{object_of}
use Rattle.kernel_records.specs.declared.objects.Object.{Object}
use Rattle.kernel_records.specs.ObjectView.{declared_queue, objects_in}
use Rattle.kernel_records.proofs.ObjectFacts.{objects-more}
use Rattle.kernel_records.proofs.starting.start_objects.Goals as goal

pub loop-def-preserved : goal.loop-def-preserved
loop-def-preserved c =
    let i = c.loop-def.def-index in
    let defs = c.args.defs.now in
    let d = c.def-item.result in
    let b = c.start_object.result in
    let old = c.loop-def.objects.items in
    let items : c.push.new.self.items ≡ old ++ b ∷ [] = search rules in
    let more : take (i + 1) defs ≡ take i defs ++ d ∷ [] = take_more defs i d c.loop-def-test.true ∙ ap (λ x. take i defs ++ x ∷ []) (sym c.def-item.is) in
    let queues = length-map (take i defs) declared_queue ∙ sym c.loop-def.invariant.size in
    record {
      size = ap (λ (bs : List Object). length bs) items ∙ length-append old (b ∷ []) ∙ ap (λ n. n + 1) c.loop-def.invariant.size ∙ sym (ap (λ ds. length ds) more ∙ length-append (take i defs) (d ∷ []));
      objects = ap (objects_in (map declared_queue (take (i + 1) defs))) items
          ∙ ap (λ ds. objects_in (map declared_queue ds) (old ++ b ∷ [])) more
          ∙ ap (λ qs. objects_in qs (old ++ b ∷ [])) (map-append declared_queue (take i defs) (d ∷ []))
          ∙ objects-more (map declared_queue (take i defs)) old (declared_queue d) b queues
          ∙ ap (λ (x : state.Object). objects_in (map declared_queue (take i defs)) old ++ x ∷ []) c.start_object.ensures
          ∙ ap (λ (os : List state.Object). os ++ object_of d ∷ []) c.loop-def.invariant.objects
          ∙ sym (ap (map object_of) more ∙ map-append object_of (take i defs) (d ∷ []));
    }
