use Rattle.std.proofs.Common.{◌≡◌, ℕ, List, [], ◌∷◌, ◌++◌, map, refl, sym, ap, ◌∙◌}
use Rattle.std.specs.Prelude.{Option, Some}
use Rattle.std.specs.Option.{option_to_list}
use Rattle.rv32_isa.specs.Listing.{encoded}
use Rattle.rv32_isa.specs.declared.Instr.{Instr}
use Rattle.asm_places.specs.NamesView.{known_in}
use Rattle.asm_places.specs.Names.{Names}
use Rattle.asm_lines.specs.Language.{Statement, Words, Space, LoadConstant, LoadValue, CallService}
use Rattle.asm_lines.specs.Kept.{statement_said}
use Rattle.rv32_asm.specs.Instructions.{instruction, words}
use Rattle.asm_places.specs.Place.{Place}
use Rattle.rv32_asm.proofs.instructions.push_words.Goals as goal

one : (o : Option Instr) (i : Instr) → o ≡ Some i → map encoded (option_to_list o) ≡ encoded i ∷ []
one o i e = rw e refl

-- the word of an instruction that a statement gives alone
one_word : (names : Names) (places : List Place) (from : Place) (s : Statement) (i : Instr) → instruction names places from s ≡ Some i → words names places from s ≡ encoded i ∷ []
one_word names places from (Words values) i e = absurd (cc)
one_word names places from (Space c) i e = absurd (cc)
one_word names places from (LoadConstant d c) i e = absurd (cc)
one_word names places from (LoadValue d v) i e = absurd (cc)
one_word names places from (CallService number) i e = absurd (cc)
one_word names places from s i e = one (instruction names places from s) i e

pub returns-in_ok-push_instr-in_default : goal.returns-in_ok-push_instr-in_default
returns-in_ok-push_instr-in_default c =
    let word = one_word (known_in c.args.names.now) c.args.places.now c.args.from (statement_said c.args.text.now c.args.statement.now) c.in-Some.instr (sym c.in-Some.ensures.value) in
    c.in_ok-push_instr-in_default.ensures ∙ ap (λ ws. c.args.words.now.items ++ ws) (sym word)
