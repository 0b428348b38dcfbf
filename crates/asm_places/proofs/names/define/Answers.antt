use Rattle.std.proofs.Common.{◌≡◌, arith}
use Rattle.std.specs.Prelude.{None}
use Rattle.std.proofs.lemmas.Grind.{common_steps}
use Rattle.asm_places.specs.NamesView.{known_in}
use Rattle.asm_places.proofs.NameLaws.{define_new}
use Rattle.asm_places.proofs.names.define.Goals as goal

pub returns-in_ok-insert : goal.returns-in_ok-insert
returns-in_ok-insert c = λ q.
    let absent : known_in c.args.names.now c.args.name.now ≡ None = grind (arith, common_steps, c.get.ensures.value, c.is_none.ensures, c.if-is_none.true) in
    define_new (known_in c.args.names.now) c.args.name.now q c.args.definition (known_in c.insert.new.self q) absent (c.in_ok-insert.ensures.updates.0 (record { ref_ptr = (0, 0); now = q }))
