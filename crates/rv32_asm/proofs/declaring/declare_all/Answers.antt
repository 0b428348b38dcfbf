use mathlib.Core.Path.{fun_ext}
use Rattle.std.proofs.Common.{◌≡◌, ℕ, ap, ◌∙◌, subst}
use Rattle.std.specs.Prelude.{IfOk, IfErr}
use Rattle.std.specs.Option.{option_or}
use Rattle.asm_lines.specs.Kept.{lines_said}
use Rattle.asm_places.specs.Names.{Names, first_of}
use Rattle.asm_places.specs.NamesView.{known_in}
use Rattle.asm_places.specs.Symbols.{symbols_defined}
use Rattle.rv32_asm.specs.Assembly.{Gives, IsFault}
use Rattle.rv32_asm.specs.Declarations.{declared_by, names_with}
use Rattle.rv32_asm.proofs.StepLaws.{same_names}
use Rattle.rv32_asm.proofs.declaring.declare_all.Goals as goal

pub returns-clause-image : goal.returns-clause-image
returns-clause-image c =
    let lines = lines_said c.args.text.now c.args.lines.now in
    let bytes = c.args.bytes.now in
    let symbols = c.args.symbols.now in
    let same : known_in c.define_symbols.new.names ≡ names_with bytes symbols lines =
    fun_ext (λ q. c.in-Ok-define_symbols.ensures q ∙ ap (λ o. option_or o (first_of (symbols_defined bytes symbols) q)) (c.in-Ok.ensures q ∙ ap (λ (n : Names). n q) (same_names lines))) in
    subst (λ (n : Names). IfOk c.declare_lines.result (λ raw. (used : ℕ) → declared_by n lines c.args.placing.now c.args.draft.code.items c.args.draft.ram.items used ≡ Gives raw used)) same c.declare_lines.ensures.image

pub returns-clause-fault : goal.returns-clause-fault
returns-clause-fault c =
    let lines = lines_said c.args.text.now c.args.lines.now in
    let bytes = c.args.bytes.now in
    let symbols = c.args.symbols.now in
    let same : known_in c.define_symbols.new.names ≡ names_with bytes symbols lines =
    fun_ext (λ q. c.in-Ok-define_symbols.ensures q ∙ ap (λ o. option_or o (first_of (symbols_defined bytes symbols) q)) (c.in-Ok.ensures q ∙ ap (λ (n : Names). n q) (same_names lines))) in
    subst (λ (n : Names). IfErr c.declare_lines.result (λ error. (used : ℕ) → IsFault error (declared_by n lines c.args.placing.now c.args.draft.code.items c.args.draft.ram.items used))) same c.declare_lines.ensures.fault
