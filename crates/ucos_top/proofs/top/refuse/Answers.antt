use Rattle.ucos_top.proofs.TopLemmas.{line_written}
use Rattle.ucos_top.proofs.top.refuse.Goals as goal

-- the line is written, or a prefix of it
pub returns-clause-text : goal.returns-clause-text
returns-clause-text g c =
    let said = rw (c.as_slice.ensures.value, c.refusal_line.ensures) at c.write.ensures.bytes in
    line_written c.write.result _ _ _ _ _ said c.write.ensures.cause
