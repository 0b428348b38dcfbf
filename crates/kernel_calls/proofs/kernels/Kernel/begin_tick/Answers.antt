use Rattle.std.proofs.Common.{◌≡◌, ℕ, ◌<◌, ◌++◌, List, [], ◌∷◌, refl, sym, ap, ◌∙◌, subst, length, true, arith}
use Rattle.kern_model.specs.State.{Kernel, count_of, list_at, task_at}
use Rattle.kern_model.specs.Effect.{Effect, fine}
use Rattle.kern_model.specs.Micro.{Halves, lists_of}
use Rattle.links.specs.Chain.{list_at as chain_at}
use Rattle.kern_model.specs.Time.{time_tick}
use Rattle.kern_model.specs.Valid.{IsLinked}
use Rattle.kern_base.specs.declared.outcomes.Decision.{Decision}
use Rattle.kern_base.specs.declared.outcomes.Decision.TheVariants.{Done}
use Rattle.micro_steps.specs.declared.link.Link.{Link}
use Rattle.link_plans.specs.declared.plan.Plan.{Plan}
use Rattle.round_robin.specs.Turns.{front, turn_in}
use Rattle.kernel_records.specs.Served.{IsServed}
use Rattle.kernel_calls.specs.Works.{WorkRecord, begun, effect_of}
use Rattle.kernel_calls.specs.Ticking.{interrupted_list, tick_links, tick_turn}
use Rattle.kernel_calls.specs.Stepping.{AreNodes, IsInHand, IsTickPlanned}
use Rattle.kernel_calls.specs.KernelView.{state_with}
use Rattle.kernel_calls.specs.declared.seen.Seen.{Seen}
use Rattle.kernel_calls.proofs.BeginFacts.{as-tick, at-start, begun-hand, course-tick, some-steps}
use Rattle.kernel_calls.proofs.CourseFacts.{tick-effect}
use Rattle.kernel_calls.proofs.LinkFacts.{AreLinksOf, body-alone, body_of, links_of}
use Rattle.kernel_calls.proofs.StepFacts.{at-rest, free-of}
use Rattle.kernel_calls.proofs.TickCase.{listed-tick, tick-links, tick-inside, turn-lists}
use Rattle.kernel_calls.proofs.kernels.Kernel.begin_tick.Goals as goal

pub returns-clause-open_yet : goal.returns-clause-open_yet
returns-clause-open_yet g c = some-steps _ _

pub invariant_of-self : goal.invariant_of-self
invariant_of-self g c =
    let rs = c.self.inside.records.state in
    let start = c.self.inside.steps.start in
    let k = state_with rs start in
    let r = c.args.request.now in
    let x = c.args.caller.0 in
    let i = c.args.interrupted.0 in
    let h = c.args.compared.0 in
    let q = c.plan_tick-self-inside.new.plan in
    let turn = c.plan_tick-self-inside.result in
    let seen : Seen = record { around = c.self.inside.seen.around; turn = turn } in
    let w = begun x r i h in
    let v = c.self.invariant.valid in
    let free = free-of c.self.inside.busy c.self.inside.work (rw (← c.self.view_is) at c.requires.free) in
    let rest = at-rest c.self.inside.busy c.self.inside.work c.self.inside.plan c.self.inside.seen k c.self.inside.steps free c.self.invariant.hand in
    let may = rw (← c.self.view_is) at c.requires.may in
    let room = rw (← c.self.view_is) at c.requires.room in
    let tick = c.requires.tick in
    let plan = c.plan_tick-self-inside.ensures in
    let lists = c.ready-ready.ensures.forward ∙ ap (λ (a : Halves). a.forward.ready) (c.chains.ensures.0 ∙ rest.halves) in
    let found : turn ≡ turn_in (front (interrupted_list (task_at k 60) i h (chain_at c.ready-ready.result.now.forward i))) rs = plan.turn in
    let is : turn ≡ tick_turn i h k = found ∙ turn-lists (front (interrupted_list (task_at k 60) i h (chain_at c.ready-ready.result.now.forward i))) rs (lists_of k) ∙ ap (λ ls. turn_in (front (interrupted_list (task_at k 60) i h (list_at ls i))) k) lists ∙ ap (λ xs. turn_in (front xs) k) (listed-tick i h k v) in
    let planned : IsTickPlanned w q seen k =
    record {
      turn = is;
      inside = tick-inside i h k v turn is;
      room = room;
      caller = subst (λ n. n < 64) (sym plan.caller) (omega arith);
      woken = plan.empty.1;
      objects = plan.empty.0;
    } in
    let m = at-start rs c.self.inside.steps c.self.invariant.nodes in
    let links : body_of k.tasks q ≡ tick_links i h turn k = body-alone k.tasks q plan.fresh.0 ∙ ap (λ d. links_of d k.tasks q) plan.decision ∙ plan.known in
    let body : AreLinksOf (effect_of w k) (length k.objects) c.self.inside.steps.prios (body_of k.tasks q) start =
    subst (λ ks. AreLinksOf (effect_of w k) (length k.objects) c.self.inside.steps.prios ks start) (sym links)
    (subst (λ e. AreLinksOf e (length k.objects) c.self.inside.steps.prios (tick_links i h turn k) start) (sym (tick-effect w k (course-tick w refl tick)))
    (tick-links i h k start c.self.inside.steps.prios v m rest.prios turn is)) in
    let hand : IsInHand w q seen k c.take.new.self =
    begun-hand w q seen rs c.self.inside.steps c.take.new.self v c.self.invariant.nodes rest c.requires.task refl may (as-tick w q seen k refl tick planned) plan.fresh.1 plan.fresh.2 plan.fresh.3 body c.take.ensures.midway c.take.ensures.prios in
    record {
      valid = subst (λ l. IsLinked (state_with rs l)) (sym c.take.ensures.kept.1) v;
      served = subst (λ l. IsServed (state_with rs l)) (sym c.take.ensures.kept.1) c.self.invariant.served;
      nodes = subst (λ l. AreNodes (state_with rs l) l) (sym c.take.ensures.kept.1) c.self.invariant.nodes;
      hand =
          subst (λ (u : WorkRecord). IsInHand u q seen (state_with rs c.take.new.self.start) c.take.new.self) (sym c.begin.ensures)
          (subst (λ l. IsInHand w q seen (state_with rs l) c.take.new.self) (sym c.take.ensures.kept.1) hand);
    }
