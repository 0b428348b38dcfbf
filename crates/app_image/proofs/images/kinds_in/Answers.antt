use Rattle.std.proofs.Common.{◌≡◌, ◌+◌, ◌++◌, [], ◌∷◌, take, map, subst, sym, ap, ◌∙◌, arith}
use Rattle.std.proofs.lemmas.List.{map_more}
use Rattle.std.proofs.lemmas.List.Elements.{All-more}
use Rattle.kern_base.specs.declared.kinds.Kind.{Kind}
use Rattle.app_image.specs.declared.records.ObjDef.{ObjDef}
use Rattle.app_image.specs.Layout.{HasWordFields}
use Rattle.app_image.proofs.images.kinds_in.Goals as goal

-- one more object was passed
pub loop-object-preserved : goal.loop-object-preserved
loop-object-preserved c =
    let xs = c.args.objects.now in
    let i = c.loop-object.object-index in
    let x = c.object-item.result in
    let kind : ObjDef → Kind = λ o. o.kind in
    let more = subst (λ o. map kind (take (i + 1) xs) ≡ map kind (take i xs) ++ o.kind ∷ []) (sym c.object-item.is) (map_more kind xs i x c.loop-object-test.true) in
    record {
      kinds = c.push.ensures.items ∙ ap (λ ks. ks ++ x.kind ∷ []) c.loop-object.invariant.kinds ∙ sym more;
      fields = All-more HasWordFields xs i x c.loop-object-test.true c.loop-object.invariant.fields (subst HasWordFields c.object-item.is (record { four = omega arith; words = c.are_words.ensures }));
    }
