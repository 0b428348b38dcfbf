use Rattle.std.proofs.Common.{◌≡◌, ◌≤◌, ◌+◌, arith, length, sym, subst}
use Rattle.std.specs.Prelude.{IfOk, IfErr}
use Rattle.std.proofs.lemmas.Result.{IfOk-weaker}
use Rattle.app_image.specs.Raw.{IsMade}
use Rattle.rv32_asm.specs.Assembly.{Assembly, Gives, IsFault}
use Rattle.rv32_asm.specs.Steps.{assembled_by_steps}
use Rattle.rv32_asm.proofs.StepLaws.{same_assembled}
use Rattle.rv32_asm.proofs.TokenCount.{token_count}
use Rattle.rv32_asm.proofs.Made.{is_made}
use Rattle.rv32_asm.proofs.assembling.assemble.Goals as goal

pub assemble_few-requires-clause-few : goal.assemble_few-requires-clause-few
assemble_few-requires-clause-few c = let few : length c.args.tokens.now ≤ length c.args.text.now + 1 = token_count c.args.text.now c.args.tokens.now c.requires.tokens in omega (arith, few, c.requires.short)

pub returns-clause-made : goal.returns-clause-made
returns-clause-made c =
    IfOk-weaker c.assemble_few.result (λ given. assembled_by_steps c.args.text.now c.args.tokens.now ≡ Gives given.0 given.1) (λ given. IsMade given.0)
    (λ given e. is_made c.args.text.now c.args.tokens.now given.0 given.1 c.requires.tokens e) c.assemble_few.ensures.image

pub returns-clause-image : goal.returns-clause-image
returns-clause-image c =
    subst (λ (a : Assembly). IfOk c.assemble_few.result (λ given. a ≡ Gives given.0 given.1)) (sym (same_assembled c.args.text.now c.args.tokens.now)) c.assemble_few.ensures.image

pub returns-clause-fault : goal.returns-clause-fault
returns-clause-fault c =
    subst (λ (a : Assembly). IfErr c.assemble_few.result (λ error. IsFault error a)) (sym (same_assembled c.args.text.now c.args.tokens.now)) c.assemble_few.ensures.fault
