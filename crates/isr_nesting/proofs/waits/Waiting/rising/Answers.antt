use Rattle.std.proofs.Common.{subst, arith}
use Rattle.isr_nesting.specs.Nest.{IsRising}
use Rattle.isr_nesting.proofs.WaitLaws.{waiting-rising}
use Rattle.isr_nesting.proofs.waits.Waiting.rising.Goals as goal

pub returns : goal.returns
returns c =
    let k = c.self.invariant in
    subst (λ ws. IsRising 0 ws) c.self.view_is (waiting-rising c.self.inside.entered.items 0 c.self.inside.recorded.items (omega (arith, k.few)) k.levels)
