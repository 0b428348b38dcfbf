use Rattle.std.proofs.Common.{rules, ◌++◌, ◌∷◌, [], ◌-◌, ◌∙◌, ap}
use Rattle.asm_places.specs.LinePlacesView.{places_by}
use Rattle.asm_places.proofs.LinePlacesLaws.{line_more}
use Rattle.asm_places.proofs.line_places.LinePlaces.push.Goals as goal

pub returns : goal.returns
returns c = record {
  ok = ap (places_by c.end_with.new.places.items) c.in-Ok.ensures.items
      ∙ (line_more c.self.inside.distinct.items c.end_with.new.places.items c.args.place c.self.inside.indices.items (c.len.result - 1) c.self.invariant c.in_ok-end_with.ensures.ok (search rules)
      ∙ ap (λ l. l ++ c.args.place ∷ []) c.self.view_is);
}
