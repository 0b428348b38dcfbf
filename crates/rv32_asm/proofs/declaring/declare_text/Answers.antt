use Rattle.std.proofs.Common.{◌≡◌, ap, sym, ◌∙◌, subst}
use Rattle.asm_lines.specs.Kept.{lines_said}
use Rattle.asm_lines.specs.Lines.{read}
use Rattle.asm_lines.specs.Placing.{placing_lines}
use Rattle.rv32_asm.specs.Assembly.{Assembly, IsFault}
use Rattle.rv32_asm.specs.Declarations.{declared}
use Rattle.rv32_asm.proofs.DeclaredLaws.{same_declared}
use Rattle.rv32_asm.proofs.declaring.declare_text.Goals as goal

pub returns-in-Ok-declare_all-clause-image : goal.returns-in-Ok-declare_all-clause-image
unfolding declared
returns-in-Ok-declare_all-clause-image c =
    let text = c.args.text.now in
    let tokens = c.args.tokens.now in
    let said : lines_said text c.deref.result.now ≡ (read text tokens).lines = ap (lines_said text) (c.deref.ensures.value ∙ ap (λ r. r.lines) c.reading.view_is) ∙ c.in-Ok.ensures.lines in
    let placed : c.deref-2.result.now ≡ placing_lines text tokens = c.deref-2.ensures.value ∙ c.in-Ok-placing_lines.ensures in
    let used : c.reading.inside.used ≡ (read text tokens).used = ap (λ r. r.used) c.reading.view_is ∙ c.in-Ok.ensures.used in
    sym (same_declared c.args.bytes.now c.args.symbols.now _ _ _ _ c.args.draft.code.items c.args.draft.ram.items _ _ said placed used) ∙ c.in-Ok-declare_all.ensures.image c.reading.inside.used

pub returns-clause-fault : goal.returns-clause-fault
unfolding declared
returns-clause-fault c =
    let text = c.args.text.now in
    let tokens = c.args.tokens.now in
    let said : lines_said text c.deref.result.now ≡ (read text tokens).lines = ap (lines_said text) (c.deref.ensures.value ∙ ap (λ r. r.lines) c.reading.view_is) ∙ c.in-Ok.ensures.lines in
    let placed : c.deref-2.result.now ≡ placing_lines text tokens = c.deref-2.ensures.value ∙ c.in-Ok-placing_lines.ensures in
    let used : c.reading.inside.used ≡ (read text tokens).used = ap (λ r. r.used) c.reading.view_is ∙ c.in-Ok.ensures.used in
    subst (λ (a : Assembly). IsFault c.in-Err.error a) (same_declared c.args.bytes.now c.args.symbols.now _ _ _ _ c.args.draft.code.items c.args.draft.ram.items _ _ said placed used) (c.in-Err.ensures.fault c.reading.inside.used)
