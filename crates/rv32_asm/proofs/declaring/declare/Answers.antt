use Rattle.std.proofs.Common.{◌≡◌, ◌≤◌, ◌+◌, arith, length}
use Rattle.std.proofs.lemmas.Result.{IfOk-weaker}
use Rattle.app_image.specs.Raw.{IsMade}
use Rattle.rv32_asm.specs.Assembly.{Gives}
use Rattle.rv32_asm.specs.Declarations.{declared}
use Rattle.rv32_asm.proofs.MadeDeclared.{is_made_declared}
use Rattle.rv32_asm.proofs.TokenCount.{token_count}
use Rattle.rv32_asm.proofs.declaring.declare.Goals as goal

pub declare_text-requires-clause-few : goal.declare_text-requires-clause-few
declare_text-requires-clause-few c = let few : length c.args.tokens.now ≤ length c.args.text.now + 1 = token_count c.args.text.now c.args.tokens.now c.requires.tokens in omega (arith, few, c.requires.short)

pub returns-clause-made : goal.returns-clause-made
returns-clause-made c =
    let text = c.args.text.now in
    let tokens = c.args.tokens.now in
    IfOk-weaker c.declare_text.result (λ given. declared text tokens c.args.bytes.now c.args.symbols.now c.with_words-draft.result.code.items c.with_words-draft.result.ram.items ≡ Gives given.0 given.1) (λ given. IsMade given.0)
    (λ given e. is_made_declared text tokens c.args.bytes.now c.args.symbols.now c.with_words-draft.result.code.items c.with_words-draft.result.ram.items given.0 given.1 c.requires.tokens
    (rw c.with_words-draft.ensures.code c.requires.code) (rw c.with_words-draft.ensures.ram c.requires.ram) e) c.declare_text.ensures.image
