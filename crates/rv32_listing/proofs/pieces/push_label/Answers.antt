use Rattle.std.proofs.Common.{decimal}
use Rattle.std.specs.Prelude.{codes}
use Rattle.rv32_listing.proofs.Pushed.{pushed}
use Rattle.rv32_listing.proofs.pieces.push_label.Goals as goal

-- the front of a label, and its address
pub returns-clause-items : goal.returns-clause-items
returns-clause-items c =
    pushed c.args.line.now.items c.push_bytes.new.line.items c.push_number.new.line.items (codes "code_word_at_address_") (decimal c.args.address)
    c.push_bytes.ensures.items c.push_number.ensures.items
