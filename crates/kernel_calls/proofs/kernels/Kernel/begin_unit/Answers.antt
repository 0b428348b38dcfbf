use Rattle.std.proofs.Common.{◌≡◌, ℕ, ◌<◌, ◌++◌, List, refl, sym, ap, ◌∙◌, subst, length, Option, inl, inr, arith}
use Rattle.std.specs.Prelude.{All}
use Rattle.kern_base.specs.declared.numbers.TaskId.{TaskId}
use Rattle.kern_base.specs.declared.outcomes.Decision.TheVariants.{Wake}
use Rattle.kern_base.specs.declared.outcomes.Who.TheVariants.{All as Every}
use Rattle.kern_model.specs.State.{Kernel, prio_of}
use Rattle.kern_model.specs.Micro.{lists_of}
use Rattle.kern_model.specs.Valid.{IsLinked}
use Rattle.micro_steps.specs.declared.link.Link.{Link}
use Rattle.link_plans.specs.Plans.{last_links, wakes_links}
use Rattle.link_plans.specs.declared.plan.Plan.{Plan}
use Rattle.kernel_records.specs.Served.{IsServed}
use Rattle.kernel_calls.specs.Works.{MayRunUnit, WorkRecord, effect_of, unit_begun}
use Rattle.kernel_calls.specs.Ticking.{unit_last, unit_woken}
use Rattle.kernel_calls.specs.Stepping.{AreNodes, IsInHand, IsUnitPlanned}
use Rattle.kernel_calls.specs.KernelView.{state_with}
use Rattle.kernel_calls.proofs.BeginFacts.{at-start, begun-hand, some-steps}
use Rattle.kernel_calls.proofs.LinkFacts.{AreLinksOf, body_of, links_of}
use Rattle.kernel_calls.proofs.StepFacts.{at-rest, free-of, unit-is}
use Rattle.kernel_calls.proofs.UnitCase.{last-lists, unit-below, unit-links}
use Rattle.kernel_calls.proofs.kernels.Kernel.begin_unit.Goals as goal

pub returns-clause-open_yet : goal.returns-clause-open_yet
returns-clause-open_yet g c = some-steps _ _

-- a unit's task is one of the 64
unit-inside : (x : ℕ) (k : Kernel) → MayRunUnit x k → x < 64
unit-inside x k m = elim m.0 [
  | inl e ↦ let n = e in omega (arith, n)
  | inr e ↦ let n = e in omega (arith, n)
]

pub plan_unit-requires : goal.plan_unit-requires
plan_unit-requires g c = unit-inside c.args.task.0 c.args.self.now.state c.requires.may

pub invariant_of-self : goal.invariant_of-self
invariant_of-self g c =
    let rs = c.self.inside.records.state in
    let start = c.self.inside.steps.start in
    let k = state_with rs start in
    let x = c.args.task.0 in
    let q = c.plan_unit.new.plan in
    let seen = c.self.inside.seen in
    let w = unit_begun x in
    let v = c.self.invariant.valid in
    let free = free-of c.self.inside.busy c.self.inside.work (rw (← c.self.view_is) at c.requires.free) in
    let rest = at-rest c.self.inside.busy c.self.inside.work c.self.inside.plan seen k c.self.inside.steps free c.self.invariant.hand in
    let may : MayRunUnit x k = rw (← c.self.view_is) at c.requires.may in
    let plan = c.plan_unit.ensures in
    let planned : IsUnitPlanned w q k =
    record {
      woken = plan.woken;
      woken_below = subst (All (λ y. y < 64)) (sym plan.woken) (unit-below x k v);
      caller = subst (λ (t : TaskId). t.0 < 64) (sym plan.caller) (unit-inside x k may);
      objects = plan.empty;
    } in
    let m = at-start rs c.self.inside.steps c.self.invariant.nodes in
    let last : q.last ≡ unit_last x k = plan.last ∙ last-lists x rs (lists_of k) in
    let links : body_of k.tasks q ≡ wakes_links k.tasks (prio_of k 60) (unit_woken x k) ++ last_links (unit_last x k) =
    ap (λ d. links_of d k.tasks q ++ last_links q.last) plan.decision
    ∙ ap (λ h. wakes_links k.tasks h q.woken.items ++ last_links q.last) plan.compared
    ∙ ap (λ ys. wakes_links k.tasks (prio_of k 60) ys ++ last_links q.last) plan.woken
    ∙ ap (λ o. wakes_links k.tasks (prio_of k 60) (unit_woken x k) ++ last_links o) last in
    let body : AreLinksOf (effect_of w k) (length k.objects) c.self.inside.steps.prios (body_of k.tasks q) start =
    subst (λ ks. AreLinksOf (effect_of w k) (length k.objects) c.self.inside.steps.prios ks start) (sym links)
    (subst (λ e. AreLinksOf e (length k.objects) c.self.inside.steps.prios (wakes_links k.tasks (prio_of k 60) (unit_woken x k) ++ last_links (unit_last x k)) start) (sym (unit-is x k)) (unit-links k start c.self.inside.steps.prios v m rest.prios c.self.invariant.served x may)) in
    let hand : IsInHand w q seen k c.take.new.self =
    begun-hand w q seen rs c.self.inside.steps c.take.new.self v c.self.invariant.nodes rest (unit-inside x k may) refl may planned plan.fresh.0 plan.fresh.1 plan.fresh.2 body c.take.ensures.midway c.take.ensures.prios in
    record {
      valid = subst (λ l. IsLinked (state_with rs l)) (sym c.take.ensures.kept.1) v;
      served = subst (λ l. IsServed (state_with rs l)) (sym c.take.ensures.kept.1) c.self.invariant.served;
      nodes = subst (λ l. AreNodes (state_with rs l) l) (sym c.take.ensures.kept.1) c.self.invariant.nodes;
      hand =
          subst (λ (u : WorkRecord). IsInHand u q seen (state_with rs c.take.new.self.start) c.take.new.self) (sym c.begin_unit.ensures)
          (subst (λ l. IsInHand w q seen (state_with rs l) c.take.new.self) (sym c.take.ensures.kept.1) hand);
    }
