use Rattle.std.proofs.Common.{◌≡◌, ◌∙◌, ap}
use Rattle.std.proofs.lemmas.Result.{IfOk-weaker}
use Rattle.asm_lines.specs.Lines.{read}
use Rattle.asm_lines.specs.Kept.{lines_said}
use Rattle.asm_lines.specs.KeptLines.{read as kept_read}
use Rattle.asm_lines.proofs.SaidLines.{reading_said, read_said}
use Rattle.asm_lines.proofs.lines.read.Goals as goal

pub returns-clause-lines : goal.returns-clause-lines
returns-clause-lines c =
    let text = c.args.text.now in
    let tokens = c.args.tokens.now in
    IfOk-weaker c.read_rows.result (λ found. found ≡ kept_read text tokens) (λ found. lines_said text found.lines ≡ (read text tokens).lines)
    (λ found e. ap (λ r. lines_said text r.lines) e ∙ ap (λ r. r.lines) (read_said text tokens)) c.read_rows.ensures.kept

pub returns-clause-used : goal.returns-clause-used
returns-clause-used c =
    let text = c.args.text.now in
    let tokens = c.args.tokens.now in
    IfOk-weaker c.read_rows.result (λ found. found ≡ kept_read text tokens) (λ found. found.used ≡ (read text tokens).used)
    (λ found e. ap (λ r. r.used) e ∙ ap (λ r. r.used) (read_said text tokens)) c.read_rows.ensures.kept
