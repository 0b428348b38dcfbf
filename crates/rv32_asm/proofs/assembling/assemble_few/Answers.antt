use Rattle.std.proofs.Common.{◌≡◌, ℕ, List, ap, sym, ◌∙◌, subst}
use Rattle.asm_lines.specs.Language.{Line}
use Rattle.asm_lines.specs.Lines.{Reading, read}
use Rattle.asm_lines.specs.Kept.{lines_said}
use Rattle.asm_causes.specs.Sizes.{HaveSmallNumbers}
use Rattle.rv32_asm.specs.Steps.{assembled_lines}
use Rattle.rv32_asm.specs.Assembly.{IsFault}
use Rattle.rv32_asm.proofs.SmallLaws.{lines_small}
use Rattle.rv32_asm.proofs.assembling.assemble_few.Goals as goal

-- a reading by its parts
whole : (lines : List Line) (used : ℕ) (r : Reading) → lines ≡ r.lines → used ≡ r.used → record { lines = lines; used = used } ≡ r
whole lines used r e f =
    let Made : List Line → ℕ → Reading = λ x n. record { lines = x; used = n } in
    ap (λ x. Made x used) e ∙ ap (λ n. Made r.lines n) f

pub assemble_all-requires-clause-small : goal.assemble_all-requires-clause-small
assemble_all-requires-clause-small c =
    let text = c.args.text.now in
    let said : lines_said text c.deref.result.now ≡ (read text c.args.tokens.now).lines = ap (lines_said text) (c.deref.ensures.value ∙ ap (λ r. r.lines) c.reading.view_is) ∙ c.in-Ok.ensures.lines in
    subst HaveSmallNumbers (sym said) (lines_small text c.args.tokens.now c.requires.tokens)

pub returns-in-Ok-assemble_all-clause-image : goal.returns-in-Ok-assemble_all-clause-image
returns-in-Ok-assemble_all-clause-image c =
    let text = c.args.text.now in
    let said : lines_said text c.deref.result.now ≡ (read text c.args.tokens.now).lines = ap (lines_said text) (c.deref.ensures.value ∙ ap (λ r. r.lines) c.reading.view_is) ∙ c.in-Ok.ensures.lines in
    let used : c.reading.inside.used ≡ (read text c.args.tokens.now).used = ap (λ r. r.used) c.reading.view_is ∙ c.in-Ok.ensures.used in
    ap assembled_lines (sym (whole (lines_said text c.deref.result.now) c.reading.inside.used (read text c.args.tokens.now) said used)) ∙ c.in-Ok-assemble_all.ensures.image c.reading.inside.used

pub returns-clause-fault : goal.returns-clause-fault
returns-clause-fault c =
    let text = c.args.text.now in
    let said : lines_said text c.deref.result.now ≡ (read text c.args.tokens.now).lines = ap (lines_said text) (c.deref.ensures.value ∙ ap (λ r. r.lines) c.reading.view_is) ∙ c.in-Ok.ensures.lines in
    let used : c.reading.inside.used ≡ (read text c.args.tokens.now).used = ap (λ r. r.used) c.reading.view_is ∙ c.in-Ok.ensures.used in
    subst (λ (r : Reading). IsFault c.in-Err.error (assembled_lines r)) (whole (lines_said text c.deref.result.now) c.reading.inside.used (read text c.args.tokens.now) said used) (c.in-Err.ensures.fault c.reading.inside.used)
