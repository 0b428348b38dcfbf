-- Worked texts: what they are assembled to.
use Rattle.std.proofs.Common.{◌≡◌, ℕ, List, [], ◌∷◌, refl}
use Rattle.std.specs.Prelude.{codes}
use Rattle.text_lex.specs.Tokens.{Lexed, Tokens, lexed}
use Rattle.kern_base.specs.declared.kinds.Kind.TheVariants.{Sem}
use Rattle.asm_lines.specs.Words.{service_number}
use Rattle.asm_places.specs.Names.{defined_at_start}
use Rattle.rv32_asm.specs.Assembled.{assembled}
use Rattle.rv32_asm.specs.Assembly.{Assembly, Gives, Refuses}
use Rattle.asm_causes.specs.declared.causes.AsmCause.TheVariants.{UnknownStatement, DefinedTwice, TargetRange}

-- what a text is assembled to whose tokens are these
abbrev read_as : List ℕ → Lexed → Assembly
read_as text (Tokens tokens) = assembled text tokens
read_as text _ = Refuses 0 UnknownStatement

abbrev text_assembled : List ℕ → Assembly
text_assembled text = read_as text (lexed text)

one_semaphore : text_assembled (codes ".code\ngo: li a0, s\nos OSSemPost\nli a0, s\nos OSSemPend\nj go\n.sem s, 0\n.task a, go, 10, 0, 0, 0x140000\n") ≡
    Gives (record {
      tasks = record { name = codes "a"; entry = 0; prio = 10; quanta = 0; qsize = 0; sp = 1310720; line = 8 } ∷ [];
      objects = record { name = codes "s"; kind = Sem; f = 0 ∷ 0 ∷ 0 ∷ 0 ∷ []; line = 7 } ∷ [];
      vectors = [];
      config = [];
      code = 0x00000513 ∷ 0x00100893 ∷ 0x00000073 ∷ 0x00000513 ∷ 0x00700893 ∷ 0x00000073 ∷ 0xfe9ff06f ∷ [];
      ram = [];
    }) 41
unfolding service_number defined_at_start lexed assembled
one_semaphore = refl

defined_twice : text_assembled (codes ".code\ngo: nop\ngo: nop\n") ≡ Refuses 3 DefinedTwice
unfolding service_number defined_at_start lexed assembled
defined_twice = refl

out_of_reach : text_assembled (codes ".code\ngo: beq x0, x0, far\n.space 4096\nfar: nop\n") ≡ Refuses 2 TargetRange
unfolding service_number defined_at_start lexed assembled
out_of_reach = refl
