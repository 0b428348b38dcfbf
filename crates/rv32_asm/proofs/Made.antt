-- An assembled image meets what the makers of a raw image see to.
use Rattle.std.proofs.Common.{◌≡◌, ℕ, List}
use Rattle.text_lex.specs.Tokens.{Tokens, lexed}
use Rattle.text_lex.specs.declared.Token.{Token}
use Rattle.app_image.specs.Raw.{RawRecord, IsMade}
use Rattle.rv32_asm.specs.Steps.{assembled_by_steps}
use Rattle.rv32_asm.specs.Assembly.{Gives}
use Rattle.rv32_asm.proofs.MadeFields.{MeetsLimits, meets_limits}
use Rattle.rv32_asm.proofs.MadeNames.{HasFreeNames, made_names}

-- what the tokens of a text are assembled to is made
pub is_made : (text : List ℕ) (tokens : List Token) (raw : RawRecord) (used : ℕ) → lexed text ≡ Tokens tokens → assembled_by_steps text tokens ≡ Gives raw used → IsMade raw
is_made text tokens raw used lexed_so given =
    let fields : MeetsLimits raw = meets_limits text tokens raw used given in
    let free : HasFreeNames raw = made_names text tokens raw used lexed_so given in
    record {
      tasks = fields.tasks;
      objects = fields.objects;
      vectors = fields.vectors;
      code = fields.code;
      ram = fields.ram;
      names = free.names;
      distinct = free.distinct;
      unused = fields.unused;
    }
