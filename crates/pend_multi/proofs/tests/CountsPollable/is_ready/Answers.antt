use Rattle.std.proofs.Common.{◌∙◌, sym, ap, get_or}
use Rattle.std.specs.Prelude.{is_some}
use Rattle.kern_model.specs.State.{Content}
use Rattle.kern_model.specs.Several.{polled}
use Rattle.pend_multi.proofs.Counts.{held, ready-count}
use Rattle.pend_multi.proofs.tests.CountsPollable.is_ready.Goals as goal

pub returns : goal.returns
returns c = λ k seen.
    let counts = c.args.self.now.counts in
    let o = c.args.obj.0 in
    ready-count (get_or counts o 0) ∙ ap (λ (b : Content). is_some (polled b)) (sym (held k counts o seen))
