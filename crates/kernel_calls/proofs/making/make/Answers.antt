use Rattle.std.proofs.Common.{◌+◌, ap, subst, sym, ◌∙◌}
use Rattle.kern_model.specs.Micro.{Halves}
use Rattle.micro_steps.specs.Starts.{AreChains}
use Rattle.kernel_calls.proofs.MakeFacts.{all_made, fewer_left, making_paused}
use Rattle.kernel_calls.proofs.making.make.Goals as goal

pub loop-init : goal.loop-init
loop-init g c =
    let s = c.args.steps.now in
    let chains = subst AreChains c.chains.ensures.0 c.consistent.ensures in
    record {
      made = 0;
      midway = c.take.ensures.midway _ _ _ _ _ (making_paused c.args.link s c.requires.whole chains c.requires.fits);
      prios_are = c.take.ensures.prios;
    }

pub loop-preserved : goal.loop-preserved
loop-preserved g c =
    let before = c.loop.invariant in
    record {
      made = before.made + 1;
      midway = c.step.ensures.more _ _ _ _ _ c.loop-test.true before.midway;
      prios_are = c.step.ensures.kept.1 ∙ before.prios_are;
    }

pub loop-smaller : goal.loop-smaller
loop-smaller g c =
    let before = c.loop.invariant in
    fewer_left _ _ _ _ _ _ before.midway (c.step.ensures.more _ _ _ _ _ c.loop-test.true before.midway)

pub returns : goal.returns
returns g c =
    let before = c.loop.invariant in
    let made = all_made _ _ _ _ _ (c.step.ensures.last _ _ _ _ _ c.loop-test.false before.midway) in
    record {
      halves = c.close.ensures.kept.0 ∙ made;
      start = c.close.ensures.start ∙ ap (λ (h : Halves). h.forward) (sym c.close.ensures.kept.0);
      prios = c.close.ensures.kept.1 ∙ c.step.ensures.kept.1 ∙ before.prios_are;
    }
