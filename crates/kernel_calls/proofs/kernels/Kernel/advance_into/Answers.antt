use Rattle.std.proofs.Common.{◌≡◌, ℕ, ◌<◌, ◌+◌, ◌∷◌, [], refl, sym, ap, ◌∙◌, subst, Some, None, true, arith}
use Rattle.std.specs.Prelude.{All, Bool, Option}
use Rattle.kernel_calls.specs.declared.seen.Seen.{Seen}
use Rattle.kern_model.specs.State.{Kernel}
use Rattle.kern_model.specs.Micro.{Lists, lists_of}
use Rattle.kern_model.specs.Services.{blocks, cost}
use Rattle.kern_model.specs.Valid.{IsLinked}
use Rattle.link_plans.specs.Plans.{links_left}
use Rattle.link_plans.specs.declared.plan.Plan.{Plan}
use Rattle.micro_steps.specs.declared.link.Link.{Link}
use Rattle.micro_steps.specs.declared.link.Link.TheVariants as link
use Rattle.micro_steps.specs.Whole.{FitsLink, HasNode, IsMidway, IsPaused, StepsRecord, prios_after}
use Rattle.kernel_records.specs.RecordsRecord.{RecordsRecord}
use Rattle.kernel_records.specs.Served.{IsServed}
use Rattle.kernel_calls.specs.Works.{WorkRecord, effect_of, stepped}
use Rattle.kernel_calls.specs.Stepping.{AreNodes, IsHand, IsInHand, prios_over}
use Rattle.kernel_calls.specs.KernelRecord.{KernelRecord}
use Rattle.kernel_calls.specs.KernelView.{IsSound, state_with}
use Rattle.kernel_calls.proofs.StepFacts.{below-cost, busy-of, few-steps, hand-back, hand-next, in-hand, left-below, plan-inside, IsSamePlan}
use Rattle.kernel_calls.specs.Ending.{Course, OfCall, OfTick, OfUnit, course_of, outcome_by, records_by}
use Rattle.kernel_calls.proofs.MayEndFacts.{may-end, may-end-same}
use Rattle.kernel_calls.proofs.EndFacts.{sound-end, is-last, outcome-made, state-made}
use Rattle.kernel_calls.proofs.OwnFacts.{last-own, next-own}
use Rattle.kernel_calls.proofs.kernels.Kernel.advance_into.Goals as goal

pub count-requires : goal.count-requires
count-requires g c =
    let b = busy-of c.self.inside.busy c.self.inside.work c.requires.busy.0 (rw (← c.self.view_is) at c.requires.busy.1) in
    let h = in-hand c.self.inside.busy c.self.inside.work c.self.inside.plan c.self.inside.seen (state_with c.self.inside.records.state c.self.inside.steps.start) c.self.inside.steps b.0 c.self.invariant.hand in
    let few = few-steps c.self.inside.work (state_with c.self.inside.records.state c.self.inside.steps.start) c.self.invariant.valid h.may in
    let below = h.open_yet in
    omega arith

-- a step that has another micro-step is not at its last
not-both : (v w : WorkRecord) (state k : Kernel) (o : Option WorkRecord) → o ≡ Some v → o ≡ Some w → state ≡ k → w.done + 1 < cost (effect_of w k) k → v.done + 1 ≡ cost (effect_of v state) state → ⊥
not-both v w state k o e f s i d =
    let same : v ≡ w = cc in
    let at_end : w.done + 1 ≡ cost (effect_of w k) k = rw (← s, ← same) d in
    omega arith

not-yet : (v w : WorkRecord) (state k : Kernel) (o : Option WorkRecord) → o ≡ Some v → o ≡ Some w → state ≡ k → w.done + 1 ≡ cost (effect_of w k) k → v.done + 1 < cost (effect_of v state) state → ⊥
not-yet v w state k o e f s i d =
    let same : v ≡ w = cc in
    let below : w.done + 1 < cost (effect_of w k) k = rw (← s, ← same) d in
    omega arith

both-hands : (v w : WorkRecord) (o : Option WorkRecord) → o ≡ Some v → o ≡ Some w → v ≡ w
both-hands v w o e f = cc

-- what is sound in the middle of a step stays so with another of its micro-steps made
sound-next : (r : RecordsRecord) (s t : StepsRecord) (q p : Plan) (seen : Seen) (w v : WorkRecord) (busy : Bool) → IsSound r s q seen w busy → t.start ≡ s.start → v ≡ stepped w → busy ≡ true
    → IsInHand (stepped w) p seen (state_with r.state s.start) t → IsSound r t p seen v busy
sound-next r s t q p seen w v busy i start same b h =
    record {
      valid = subst (λ l. IsLinked (state_with r.state l)) (sym start) i.valid;
      served = subst (λ l. IsServed (state_with r.state l)) (sym start) i.served;
      nodes = subst (λ l. AreNodes (state_with r.state l) l) (sym start) i.nodes;
      hand =
          subst (λ (u : WorkRecord). IsHand busy u p seen (state_with r.state t.start) t) (sym same)
          (subst (λ l. IsHand busy (stepped w) p seen (state_with r.state l) t) (sym start) (hand-back busy (stepped w) p seen (state_with r.state s.start) t b h));
    }

pub invariant_of-self : goal.invariant_of-self
invariant_of-self g c =
    let b = busy-of c.self.inside.busy c.self.inside.work c.requires.busy.0 (rw (← c.self.view_is) at c.requires.busy.1) in
    let k = state_with c.self.inside.records.state c.self.inside.steps.start in
    let w = c.self.inside.work in
    let q = c.self.inside.plan in
    let h = in-hand c.self.inside.busy w q c.self.inside.seen k c.self.inside.steps b.0 c.self.invariant.hand in
    sound-next c.self.inside.records c.self.inside.steps c.step.new.self q q c.self.inside.seen w c.count.new.self c.self.inside.busy c.self.invariant c.step.ensures.kept.0 c.count.ensures b.0
    (hand-next w q q c.self.inside.seen k c.self.inside.steps c.step.new.self h (record { decision = refl; caller = refl; compared = refl; objects = refl; woken = refl; known = refl; bits = refl })
    (c.step.ensures.more (blocks (effect_of w k) k) (lists_of k) w.done (links_left k.tasks q) h.end c.if-not-step.true h.midway) (ap (prios_over (links_left k.tasks q)) c.step.ensures.kept.1))

pub returns-then-not-step-clause-done : goal.returns-then-not-step-clause-done
returns-then-not-step-clause-done g c =
    let b = busy-of c.self.inside.busy c.self.inside.work c.requires.busy.0 (rw (← c.self.view_is) at c.requires.busy.1) in
    let k = state_with c.self.inside.records.state c.self.inside.steps.start in
    let w = c.self.inside.work in
    let h = in-hand c.self.inside.busy w c.self.inside.plan c.self.inside.seen k c.self.inside.steps b.0 c.self.invariant.hand in
    let open_yet = below-cost (effect_of w k) k (w.done + 1) (left-below (blocks (effect_of w k) k) (lists_of k) (w.done + 1) (links_left k.tasks c.self.inside.plan) h.end c.step.new.self
    (c.step.ensures.more (blocks (effect_of w k) k) (lists_of k) w.done (links_left k.tasks c.self.inside.plan) h.end c.if-not-step.true h.midway)) in
    λ v e d. absurd (not-both v w c.args.self.now.state k c.args.self.now.hand e (c.requires.busy.1 ∙ ap Some (sym b.1)) (ap (λ (a : KernelRecord). a.state) (sym c.self.view_is)) open_yet d)

pub next_link-requires-clause-objects : goal.next_link-requires-clause-objects
next_link-requires-clause-objects g c =
    let b = busy-of c.self.inside.busy c.self.inside.work c.requires.busy.0 (rw (← c.self.view_is) at c.requires.busy.1) in
    let h = in-hand c.self.inside.busy c.self.inside.work c.self.inside.plan c.self.inside.seen (state_with c.self.inside.records.state c.self.inside.steps.start) c.self.inside.steps b.0 c.self.invariant.hand in
    (plan-inside c.self.inside.work c.self.inside.plan c.self.inside.seen (state_with c.self.inside.records.state c.self.inside.steps.start) c.self.inside.steps h).objects

pub next_link-requires-clause-woken : goal.next_link-requires-clause-woken
next_link-requires-clause-woken g c =
    let b = busy-of c.self.inside.busy c.self.inside.work c.requires.busy.0 (rw (← c.self.view_is) at c.requires.busy.1) in
    let h = in-hand c.self.inside.busy c.self.inside.work c.self.inside.plan c.self.inside.seen (state_with c.self.inside.records.state c.self.inside.steps.start) c.self.inside.steps b.0 c.self.invariant.hand in
    (plan-inside c.self.inside.work c.self.inside.plan c.self.inside.seen (state_with c.self.inside.records.state c.self.inside.steps.start) c.self.inside.steps h).woken

pub take-requires-clause-even : goal.take-requires-clause-even
take-requires-clause-even g c =
    let b = busy-of c.self.inside.busy c.self.inside.work c.requires.busy.0 (rw (← c.self.view_is) at c.requires.busy.1) in
    let k = state_with c.self.inside.records.state c.self.inside.steps.start in
    let w = c.self.inside.work in
    let q = c.self.inside.plan in
    let h = in-hand c.self.inside.busy w q c.self.inside.seen k c.self.inside.steps b.0 c.self.invariant.hand in
    (c.step.ensures.last (blocks (effect_of w k) k) (lists_of k) w.done (links_left k.tasks q) h.end c.if-not-step.false h.midway).even

-- a link that fits has its node
fits-node : (objects : ℕ) (k : Link) (l : Lists) → FitsLink objects k l → HasNode k
fits-node objects (link.Wait n p o) l f = f.0
fits-node objects (link.Leave n o) l f = tt
fits-node objects (link.Unready x p) l f = tt
fits-node objects (link.Ready x p tail) l f = tt
fits-node objects link.Plain l f = tt

pub take-requires-clause-node : goal.take-requires-clause-node
take-requires-clause-node g c =
    let b = busy-of c.self.inside.busy c.self.inside.work c.requires.busy.0 (rw (← c.self.view_is) at c.requires.busy.1) in
    let k = state_with c.self.inside.records.state c.self.inside.steps.start in
    let w = c.self.inside.work in
    let q = c.self.inside.plan in
    let p = c.next_link.new.self in
    let h = in-hand c.self.inside.busy w q c.self.inside.seen k c.self.inside.steps b.0 c.self.invariant.hand in
    let ms = blocks (effect_of w k) k in
    let next : links_left k.tasks q ≡ c.in-Some.link ∷ links_left k.tasks p = next-own k.tasks c.tasks.result.now.tasks q p c.in-Some.link c.tasks.ensures.tasks c.in-Some.ensures.next in
    let paused = c.step.ensures.last ms (lists_of k) w.done (links_left k.tasks q) h.end c.if-not-step.false h.midway in
    fits-node _ c.in-Some.link _ (subst (λ ks. IsPaused ms (lists_of k) (w.done + 1) ks h.end c.step.new.self) next paused).fits.0

-- the next block is in hand
in-next : (w : WorkRecord) (q p : Plan) (seen : Seen) (k : Kernel) (s m t : StepsRecord) (j : Link) (h : IsInHand w q seen k s) → links_left k.tasks q ≡ j ∷ links_left k.tasks p
    → IsPaused (blocks (effect_of w k) k) (lists_of k) (w.done + 1) (links_left k.tasks q) h.end m → m.prios ≡ s.prios → IsSamePlan q p → t.prios ≡ prios_after j m.prios
    → (IsPaused (blocks (effect_of w k) k) (lists_of k) (w.done + 1) (j ∷ links_left k.tasks p) h.end m → IsMidway (blocks (effect_of w k) k) (lists_of k) (w.done + 1) (links_left k.tasks p) h.end t) → IsInHand (stepped w) p seen k t
in-next w q p seen k s m t j h next paused same plan prios taken =
    hand-next w q p seen k s t h plan
    (taken (subst (λ ks. IsPaused (blocks (effect_of w k) k) (lists_of k) (w.done + 1) ks h.end m) next paused))
    (ap (prios_over (links_left k.tasks p)) (prios ∙ ap (prios_after j) same) ∙ ap (λ ks. prios_over ks s.prios) (sym next))

pub invariant_of-self-in-Some : goal.invariant_of-self-in-Some
invariant_of-self-in-Some g c =
    let b = busy-of c.self.inside.busy c.self.inside.work c.requires.busy.0 (rw (← c.self.view_is) at c.requires.busy.1) in
    let k = state_with c.self.inside.records.state c.self.inside.steps.start in
    let w = c.self.inside.work in
    let q = c.self.inside.plan in
    let p = c.next_link.new.self in
    let h = in-hand c.self.inside.busy w q c.self.inside.seen k c.self.inside.steps b.0 c.self.invariant.hand in
    let ms = blocks (effect_of w k) k in
    let next : links_left k.tasks q ≡ c.in-Some.link ∷ links_left k.tasks p = next-own k.tasks c.tasks.result.now.tasks q p c.in-Some.link c.tasks.ensures.tasks c.in-Some.ensures.next in
    let kept = c.in-Some.ensures.kept in
    sound-next c.self.inside.records c.self.inside.steps c.take.new.self q p c.self.inside.seen w c.count.new.self c.self.inside.busy c.self.invariant (c.take.ensures.kept.1 ∙ c.step.ensures.kept.0) c.count.ensures b.0
    (in-next w q p c.self.inside.seen k c.self.inside.steps c.step.new.self c.take.new.self c.in-Some.link h next
    (c.step.ensures.last ms (lists_of k) w.done (links_left k.tasks q) h.end c.if-not-step.false h.midway) c.step.ensures.kept.1
    (record { decision = kept.0; caller = kept.1; compared = kept.2; objects = kept.3; woken = kept.4; known = kept.5; bits = kept.6 }) c.take.ensures.prios
    (c.take.ensures.midway ms (lists_of k) (w.done + 1) (links_left k.tasks p) h.end))

pub returns-in-Some-clause-done : goal.returns-in-Some-clause-done
returns-in-Some-clause-done g c =
    let b = busy-of c.self.inside.busy c.self.inside.work c.requires.busy.0 (rw (← c.self.view_is) at c.requires.busy.1) in
    let k = state_with c.self.inside.records.state c.self.inside.steps.start in
    let w = c.self.inside.work in
    let q = c.self.inside.plan in
    let p = c.next_link.new.self in
    let h = in-hand c.self.inside.busy w q c.self.inside.seen k c.self.inside.steps b.0 c.self.invariant.hand in
    let ms = blocks (effect_of w k) k in
    let next : links_left k.tasks q ≡ c.in-Some.link ∷ links_left k.tasks p = next-own k.tasks c.tasks.result.now.tasks q p c.in-Some.link c.tasks.ensures.tasks c.in-Some.ensures.next in
    let paused = c.step.ensures.last ms (lists_of k) w.done (links_left k.tasks q) h.end c.if-not-step.false h.midway in
    let taken = c.take.ensures.midway ms (lists_of k) (w.done + 1) (links_left k.tasks p) h.end (subst (λ ks. IsPaused ms (lists_of k) (w.done + 1) ks h.end c.step.new.self) next paused) in
    let open_yet = below-cost (effect_of w k) k (w.done + 1) (left-below ms (lists_of k) (w.done + 1) (links_left k.tasks p) h.end c.take.new.self taken) in
    λ v e d. absurd (not-both v w c.args.self.now.state k c.args.self.now.hand e (c.requires.busy.1 ∙ ap Some (sym b.1)) (ap (λ (a : KernelRecord). a.state) (sym c.self.view_is)) open_yet d)

pub next_link-requires-clause-caller : goal.next_link-requires-clause-caller
next_link-requires-clause-caller g c =
    let b = busy-of c.self.inside.busy c.self.inside.work c.requires.busy.0 (rw (← c.self.view_is) at c.requires.busy.1) in
    let h = in-hand c.self.inside.busy c.self.inside.work c.self.inside.plan c.self.inside.seen (state_with c.self.inside.records.state c.self.inside.steps.start) c.self.inside.steps b.0 c.self.invariant.hand in
    (plan-inside c.self.inside.work c.self.inside.plan c.self.inside.seen (state_with c.self.inside.records.state c.self.inside.steps.start) c.self.inside.steps h).caller

-- what was planned can be made
pub conclude-requires : goal.conclude-requires
conclude-requires g c =
    let b = busy-of c.self.inside.busy c.self.inside.work c.requires.busy.0 (rw (← c.self.view_is) at c.requires.busy.1) in
    let k = state_with c.self.inside.records.state c.self.inside.steps.start in
    let h = in-hand c.self.inside.busy c.self.inside.work c.self.inside.plan c.self.inside.seen k c.self.inside.steps b.0 c.self.invariant.hand in
    let kept = c.in-None.ensures.kept in
    may-end-same c.self.inside.work c.count.new.self c.self.inside.plan c.next_link.new.self c.self.inside.seen c.self.inside.records.state c.count.ensures
    (record { decision = kept.0; caller = kept.1; compared = kept.2; objects = kept.3; woken = kept.4; known = kept.5; bits = kept.6 })
    (may-end (course_of c.self.inside.work) c.self.inside.work c.self.inside.plan c.self.inside.seen c.self.inside.records.state c.self.inside.steps.start refl c.self.invariant.valid c.self.invariant.served h.caller h.may h.planned)

-- the kernel is busy
sound-busy : (r : RecordsRecord) (s : StepsRecord) (q : Plan) (seen : Seen) (w : WorkRecord) (busy : Bool) → busy ≡ true → IsSound r s q seen w busy → IsSound r s q seen w true
sound-busy r s q seen w busy b i = subst (λ c. IsSound r s q seen w c) b i

-- the records are those of the course of the work
ended-records : (w v : WorkRecord) (q p : Plan) (seen : Seen) (k : Kernel) → v ≡ stepped w → IsSamePlan q p → records_by (course_of v) v p seen k ≡ records_by (course_of w) w q seen k
ended-records w v q p seen k e h = ap (λ u. records_by (course_of u) u p seen k) e ∙ same-plan (course_of w)
  where
    same-plan : (c : Course) → records_by c (stepped w) p seen k ≡ records_by c w q seen k
    same-plan OfCall = rw (h.decision, h.woken) refl
    same-plan OfTick = refl
    same-plan OfUnit = rw h.woken refl

ended-outcome : (w v : WorkRecord) (q p : Plan) (seen : Seen) (k : Kernel) → v ≡ stepped w → IsSamePlan q p → outcome_by (course_of v) v p seen k ≡ outcome_by (course_of w) w q seen k
ended-outcome w v q p seen k e h = ap (λ u. outcome_by (course_of u) u p seen k) e ∙ same-plan (course_of w)
  where
    same-plan : (c : Course) → outcome_by c (stepped w) p seen k ≡ outcome_by c w q seen k
    same-plan OfCall = rw (h.decision, h.woken) refl
    same-plan OfTick = refl
    same-plan OfUnit = refl

pub invariant_of-self-in-None : goal.invariant_of-self-in-None
invariant_of-self-in-None g c =
    let b = busy-of c.self.inside.busy c.self.inside.work c.requires.busy.0 (rw (← c.self.view_is) at c.requires.busy.1) in
    let k = state_with c.self.inside.records.state c.self.inside.steps.start in
    let w = c.self.inside.work in
    let q = c.self.inside.plan in
    let seen = c.self.inside.seen in
    let kept = c.in-None.ensures.kept in
    let same : IsSamePlan q c.next_link.new.self = record { decision = kept.0; caller = kept.1; compared = kept.2; objects = kept.3; woken = kept.4; known = kept.5; bits = kept.6 } in
    let i = sound-busy c.self.inside.records c.self.inside.steps q seen w c.self.inside.busy b.0 c.self.invariant in
    let none : links_left k.tasks q ≡ [] = last-own k.tasks c.tasks.result.now.tasks q c.tasks.ensures.tasks c.in-None.ensures.next in
    let paused = subst (λ ks. IsPaused (blocks (effect_of w k) k) (lists_of k) (w.done + 1) ks i.hand.end c.step.new.self) none (c.step.ensures.last (blocks (effect_of w k) k) (lists_of k) w.done (links_left k.tasks q) i.hand.end c.if-not-step.false i.hand.midway) in
    let records = ap (λ (r : RecordsRecord). r.state) c.conclude.ensures.records ∙ ended-records w c.count.new.self q c.next_link.new.self seen c.self.inside.records.state c.count.ensures same in
    sound-end w c.count.new.self q c.next_link.new.self seen c.self.inside.records c.conclude.new.records c.self.inside.steps c.step.new.self c.close.new.self i none paused c.step.ensures.kept.1
    c.close.ensures.kept.0 c.close.ensures.kept.1 c.close.ensures.start records

pub returns-in-None-clause-valid : goal.returns-in-None-clause-valid
returns-in-None-clause-valid g c = (invariant_of-self-in-None g c).valid

pub returns-in-None-clause-more : goal.returns-in-None-clause-more
returns-in-None-clause-more g c =
    let b = busy-of c.self.inside.busy c.self.inside.work c.requires.busy.0 (rw (← c.self.view_is) at c.requires.busy.1) in
    let k = state_with c.self.inside.records.state c.self.inside.steps.start in
    let w = c.self.inside.work in
    let q = c.self.inside.plan in
    let i = sound-busy c.self.inside.records c.self.inside.steps q c.self.inside.seen w c.self.inside.busy b.0 c.self.invariant in
    let none : links_left k.tasks q ≡ [] = last-own k.tasks c.tasks.result.now.tasks q c.tasks.ensures.tasks c.in-None.ensures.next in
    let paused = subst (λ ks. IsPaused (blocks (effect_of w k) k) (lists_of k) (w.done + 1) ks i.hand.end c.step.new.self) none (c.step.ensures.last (blocks (effect_of w k) k) (lists_of k) w.done (links_left k.tasks q) i.hand.end c.if-not-step.false i.hand.midway) in
    let at_end = is-last w q c.self.inside.seen c.self.inside.records.state c.self.inside.steps.start c.self.inside.steps c.step.new.self i.valid i.served i.hand none paused in
    λ v e d. absurd (not-yet v w c.args.self.now.state k c.args.self.now.hand e (c.requires.busy.1 ∙ ap Some (sym b.1)) (ap (λ (a : KernelRecord). a.state) (sym c.self.view_is)) at_end d)

pub returns-in-None-clause-done : goal.returns-in-None-clause-done
returns-in-None-clause-done g c =
    let b = busy-of c.self.inside.busy c.self.inside.work c.requires.busy.0 (rw (← c.self.view_is) at c.requires.busy.1) in
    let k = state_with c.self.inside.records.state c.self.inside.steps.start in
    let w = c.self.inside.work in
    let q = c.self.inside.plan in
    let seen = c.self.inside.seen in
    let kept = c.in-None.ensures.kept in
    let as_planned : IsSamePlan q c.next_link.new.self = record { decision = kept.0; caller = kept.1; compared = kept.2; objects = kept.3; woken = kept.4; known = kept.5; bits = kept.6 } in
    let i = sound-busy c.self.inside.records c.self.inside.steps q seen w c.self.inside.busy b.0 c.self.invariant in
    let none : links_left k.tasks q ≡ [] = last-own k.tasks c.tasks.result.now.tasks q c.tasks.ensures.tasks c.in-None.ensures.next in
    let paused = subst (λ ks. IsPaused (blocks (effect_of w k) k) (lists_of k) (w.done + 1) ks i.hand.end c.step.new.self) none (c.step.ensures.last (blocks (effect_of w k) k) (lists_of k) w.done (links_left k.tasks q) i.hand.end c.if-not-step.false i.hand.midway) in
    let records = ap (λ (r : RecordsRecord). r.state) c.conclude.ensures.records ∙ ended-records w c.count.new.self q c.next_link.new.self seen c.self.inside.records.state c.count.ensures as_planned in
    let state : state_with c.conclude.new.records.state c.close.new.self.start ≡ (effect_of w k).kernel =
    ap (λ l. state_with c.conclude.new.records.state l) c.close.ensures.start
    ∙ state-made w q seen c.self.inside.records.state c.self.inside.steps.start c.self.inside.steps c.step.new.self i.valid i.served i.hand none paused c.conclude.new.records.state records in
    let outcome : c.conclude.new.outcome ≡ (effect_of w k).outcome =
    c.conclude.ensures.outcome ∙ ended-outcome w c.count.new.self q c.next_link.new.self seen c.self.inside.records.state c.count.ensures as_planned
    ∙ outcome-made w q seen c.self.inside.records.state c.self.inside.steps.start c.self.inside.steps c.step.new.self i.valid i.served i.hand none paused in
    let registers = ap (λ (r : RecordsRecord). r.registers) c.conclude.ensures.records in
    λ v e n.
    let same : v ≡ w = both-hands v w c.args.self.now.hand e (c.requires.busy.1 ∙ ap Some (sym b.1)) in
    rw (same, ← c.self.view_is) (refl, outcome, ap (λ s. record { state = s; registers = c.conclude.new.records.registers; hand = None }) state ∙ ap (λ rs. record { state = (effect_of w k).kernel; registers = rs; hand = None }) registers)
