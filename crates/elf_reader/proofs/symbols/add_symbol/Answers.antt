use Rattle.std.proofs.Common.{◌≡◌, ◌∙◌, ◌||◌, true, false, arith, sym, ap}
use Rattle.std.specs.Prelude.{is_some}
use Rattle.std.specs.Str.{bytes_eq}
use Rattle.std.proofs.lemmas.Grind.{common_steps}
use Rattle.elf_reader.specs.Known.{value_of}
use Rattle.elf_reader.specs.Symbols.{name_of, is_known}
use Rattle.elf_reader.proofs.NameLaws.{known_push, some_cond, added_new, added_known}
use Rattle.elf_reader.proofs.symbols.add_symbol.Goals as goal

pub returns-in_ok-push-clause-symbols : goal.returns-in_ok-push-clause-symbols
returns-in_ok-push-clause-symbols c =
    let name = name_of c.args.bytes.now c.args.symbol in
    let absent : is_some (value_of c.args.names.now name) ≡ false = grind (arith, common_steps, c.part-name.ensures, c.get.ensures.value, c.is_none.ensures, c.if-is_none.true) in
    let unknown : is_known c.args.bytes.now c.args.symbols.now.items name ≡ false = sym (c.requires name) ∙ absent in
    c.in_ok-push.ensures.items ∙ added_new c.args.bytes.now c.args.symbols.now.items c.args.symbol unknown

pub returns-in_ok-push-clause-names : goal.returns-in_ok-push-clause-names
returns-in_ok-push-clause-names c = λ q.
    let name = name_of c.args.bytes.now c.args.symbol in
    let updated = rw c.part-name.ensures at (c.in_ok-insert.ensures.updates.0 (record { ref_ptr = (0, 0); now = q })) in
    some_cond (bytes_eq name q) c.args.symbol.value (value_of c.args.names.now q) (value_of c.insert.new.self q) updated
    ∙ ap (λ b. bytes_eq name q || b) (c.requires q)
    ∙ sym (known_push c.args.bytes.now c.args.symbols.now.items c.args.symbol q)
    ∙ ap (λ xs. is_known c.args.bytes.now xs q) (sym c.in_ok-push.ensures.items)

pub returns-else-is_none-clause-symbols : goal.returns-else-is_none-clause-symbols
returns-else-is_none-clause-symbols c =
    let name = name_of c.args.bytes.now c.args.symbol in
    let there : is_some (value_of c.args.names.now name) ≡ true = grind (arith, common_steps, c.part-name.ensures, c.get.ensures.value, c.is_none.ensures, c.if-is_none.false) in
    added_known c.args.bytes.now c.args.symbols.now.items c.args.symbol (sym (c.requires name) ∙ there)
