use Rattle.std.proofs.Common.{◌∙◌, sym, arith}
use Rattle.app_image.proofs.TrimLaws.{trim_step, trim_end, trim_none}
use Rattle.app_image.proofs.reading.trimmed.Goals as goal
use Rattle.app_image.proofs.reading.trimmed.Goals.{then-loop-len-test+else-bytes-len-eq0, else-loop-len-test}

-- the last zero is dropped
pub loop-len-preserved : goal.loop-len-preserved
loop-len-preserved c = record {
  within = omega arith;
  same = trim_step c.args.bytes.now c.loop-len.len c.loop-len-test.true c.loop-len.invariant.within c.if-bytes-len-eq0.true ∙ c.loop-len.invariant.same;
}

-- nothing more is dropped
pub returns : goal.returns
returns c =
    elim c.loop-len-test.branch [
      | then-loop-len-test+else-bytes-len-eq0 w ↦ sym (trim_end c.args.bytes.now c.loop-len.len w.loop-len-test.true c.loop-len.invariant.within w.if-bytes-len-eq0.false) ∙ c.loop-len.invariant.same
      | else-loop-len-test w ↦ sym (trim_none c.args.bytes.now c.loop-len.len (omega (arith, w.loop-len-test.false))) ∙ c.loop-len.invariant.same
    ]
