use mathlib.Core.Path.{fun_ext}
use Rattle.std.proofs.Common.{◌≡◌, sym, subst, arith, length}
use Rattle.std.proofs.lemmas.List.{length-map}
use Rattle.asm_lines.specs.Kept.{line_said, lines_said}
use Rattle.asm_places.specs.NamesView.{known_in}
use Rattle.asm_places.specs.NameSteps.{names_of}
use Rattle.asm_causes.specs.PlaceSteps.{places_of}
use Rattle.asm_causes.specs.Sizes.{AreSmall}
use Rattle.rv32_asm.proofs.SmallLaws.{names_small}
use Rattle.rv32_asm.proofs.assembling.assemble_all.Goals as goal

pub returns-clause-image : goal.returns-clause-image
returns-clause-image c =
    let placed : c.in-Ok-places_of.placed.places ≡ places_of (known_in c.in-Ok.names) (lines_said c.args.text.now c.args.lines.now) = c.in-Ok-places_of.ensures.places in
    let same : known_in c.in-Ok.names ≡ names_of (lines_said c.args.text.now c.args.lines.now) = fun_ext c.in-Ok.ensures in
    rw (placed, same) at c.assemble_lines.ensures.image

pub returns-clause-fault : goal.returns-clause-fault
returns-clause-fault c =
    let placed : c.in-Ok-places_of.placed.places ≡ places_of (known_in c.in-Ok.names) (lines_said c.args.text.now c.args.lines.now) = c.in-Ok-places_of.ensures.places in
    let same : known_in c.in-Ok.names ≡ names_of (lines_said c.args.text.now c.args.lines.now) = fun_ext c.in-Ok.ensures in
    rw (placed, same) at c.assemble_lines.ensures.fault

pub places_of-requires-clause-names : goal.places_of-requires-clause-names
places_of-requires-clause-names c =
    let same : known_in c.in-Ok.names ≡ names_of (lines_said c.args.text.now c.args.lines.now) = fun_ext c.in-Ok.ensures in
    let long = length-map c.args.lines.now (line_said c.args.text.now) in
    subst AreSmall (sym same) (names_small (lines_said c.args.text.now c.args.lines.now) (omega (arith, long, c.requires.few_lines)) c.requires.small)

pub assemble_lines-requires-clause-names : goal.assemble_lines-requires-clause-names
assemble_lines-requires-clause-names c =
    let same : known_in c.in-Ok.names ≡ names_of (lines_said c.args.text.now c.args.lines.now) = fun_ext c.in-Ok.ensures in
    let long = length-map c.args.lines.now (line_said c.args.text.now) in
    subst AreSmall (sym same) (names_small (lines_said c.args.text.now c.args.lines.now) (omega (arith, long, c.requires.few_lines)) c.requires.small)
