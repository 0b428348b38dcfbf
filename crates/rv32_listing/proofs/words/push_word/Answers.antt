use Rattle.std.specs.Prelude.{codes}
use Rattle.rv32_listing.specs.Texts.{hexadecimal}
use Rattle.rv32_listing.proofs.Pushed.{pushed}
use Rattle.rv32_listing.proofs.words.push_word.Goals as goal

-- the directive, and the word
pub returns-clause-items : goal.returns-clause-items
returns-clause-items c =
    pushed c.args.line.now.items c.push_bytes.new.line.items c.push_hexadecimal.new.line.items (codes ".word ") (hexadecimal c.args.word)
    c.push_bytes.ensures.items c.push_hexadecimal.ensures.items
