-- What the last micro-step of a whole step leaves.
use Rattle.std.proofs.Common.{◌≡◌, ℕ, ◌+◌, List, [], length, map, refl, sym, ap, ◌∙◌, subst, Bool, true, false, arith}
use Rattle.kern_base.specs.Tables.{KindTable}
use Rattle.kern_base.specs.declared.kinds.Kind.{Kind}
use Rattle.kern_model.specs.State.{Kernel, Object, kind_of, kinds_of}
use Rattle.kern_model.specs.Micro.{Halves, Lists, is_filled, lists_of, whole}
use Rattle.kern_model.specs.Call.{call_of}
use Rattle.kern_model.specs.Effect.{Effect}
use Rattle.served.specs.Served.{program_serves}
use Rattle.kern_model.specs.Services.{blocks, cost, effect, half}
use Rattle.kern_model.specs.Valid.{IsLinked}
use Rattle.kern_model.proofs.Lemmas.{choice, half-effect, half-unit, linked-effect, linked-unit}
use Rattle.kern_laws.proofs.Lemmas.{kinds-effect, kinds-unit}
use Rattle.std.proofs.lemmas.List.{length-map}
use Rattle.micro_steps.specs.Halfway.{seen as nodes_seen, seen_lists}
use Rattle.micro_steps.specs.Whole.{IsPaused, StepsRecord}
use Rattle.link_plans.specs.Plans.{links_left}
use Rattle.link_plans.specs.declared.plan.Plan.{Plan}
use Rattle.kernel_records.specs.RecordsRecord.{RecordsRecord, with_lists, without_lists}
use Rattle.kernel_records.specs.Served.{IsServed}
use Rattle.kernel_calls.specs.Works.{WorkRecord, effect_of, unit_of}
use Rattle.kernel_calls.specs.Ending.{course_of, outcome_by, records_by}
use Rattle.kernel_calls.specs.Stepping.{AreNodes, HasPrios, IsInHand, IsResting, MayWork, prios_over}
use Rattle.kernel_calls.specs.KernelView.{IsSound, state_with}
use Rattle.kernel_calls.specs.declared.seen.Seen.{Seen}
use Rattle.kernel_calls.proofs.CourseFacts.{outcome-work, records-work, served-work}
use Rattle.kernel_calls.proofs.StepFacts.{cost-below, effect_as, may-call, none-left, unit-is}

-- no call and no unit makes or loses an object
kept-by : (e : Effect) (k : Kernel) → kinds_of e.kernel ≡ kinds_of k → length e.kernel.objects ≡ length k.objects
kept-by e k same =
    let kind : Object → Kind = λ b. kind_of b.content in
    sym (length-map e.kernel.objects kind) ∙ ap (λ (t : KindTable). length t.objects) same ∙ length-map k.objects kind

pub objects-kept : (w : WorkRecord) (k : Kernel) → length (effect_of w k).kernel.objects ≡ length k.objects
objects-kept w k =
    let call = effect program_serves (call_of w.request w.caller w.interrupted w.compared) k in
    choice (λ (e : Effect). length e.kernel.objects ≡ length k.objects) w.unit (unit_of w.caller k) call
    (kept-by (unit_of w.caller k) k (ap (λ (e : Effect). kinds_of e.kernel) (unit-is w.caller k) ∙ kinds-unit w.caller k))
    (kept-by call k (kinds-effect program_serves (call_of w.request w.caller w.interrupted w.compared) k))

-- a work keeps the kernel linked
linked-as : (b : Bool) (w : WorkRecord) (k : Kernel) → IsLinked k → MayWork b w k → IsLinked (effect_as b w k).kernel
linked-as true w k v m = subst (λ (e : Effect). IsLinked e.kernel) (sym (unit-is w.caller k)) (linked-unit w.caller k v m.0 m.1 m.2)
linked-as false w k v m = linked-effect program_serves (call_of w.request w.caller w.interrupted w.compared) k v (may-call w k m)

-- and its micro-steps end with the lists of its kernel
half-work : (w : WorkRecord) (k : Kernel) → half (effect_of w k) k (cost (effect_of w k) k) ≡ whole (lists_of (effect_of w k).kernel)
half-work w k =
    let call = effect program_serves (call_of w.request w.caller w.interrupted w.compared) k in
    choice (λ (e : Effect). half e k (cost e k) ≡ whole (lists_of e.kernel)) w.unit (unit_of w.caller k) call
    (subst (λ (e : Effect). half e k (cost e k) ≡ whole (lists_of e.kernel)) (sym (unit-is w.caller k)) (half-unit w.caller k))
    (half-effect program_serves (call_of w.request w.caller w.interrupted w.compared) k)

-- the kernel of records and lists that are those of another
made-of : (rs e : Kernel) (l : Lists) → without_lists rs ≡ without_lists e → seen_lists (length e.objects) l ≡ lists_of e → state_with rs l ≡ e
made-of rs e l a b =
    let objects : length rs.objects ≡ length e.objects = ap (λ (k : Kernel). length k.objects) a in
    ap (λ (k : Kernel). with_lists k (seen_lists (length rs.objects) l)) a
    ∙ ap (λ n. with_lists e (seen_lists n l)) objects
    ∙ ap (λ m. with_lists e m) b

-- both directions and the set are those of one direction
whole-of : (h : Halves) (l : Lists) (n : ℕ) → h.forward.ready ≡ h.back.ready → h.forward.pend ≡ h.back.pend → nodes_seen n h ≡ whole l → h ≡ whole h.forward
whole-of h l n r p e =
    let ready : h.forward.ready ≡ l.ready = ap (λ (j : Halves). j.forward.ready) e in
    let marked : h.marked ≡ map is_filled h.forward.ready = ap (λ (j : Halves). j.marked) e ∙ ap (map is_filled) (sym ready) in
    let back : h.back ≡ h.forward = ap (λ rs. record { ready = rs; pend = h.back.pend }) (sym r) ∙ ap (λ ps. record { ready = h.forward.ready; pend = ps }) (sym p) in
    ap (λ b. record { forward = h.forward; back = b; marked = h.marked }) back
    ∙ ap (λ m. record { forward = h.forward; back = h.forward; marked = m }) marked

module _ (w : WorkRecord) (q : Plan) (seen : Seen) (rs : Kernel) (start : Lists) (s0 s : StepsRecord) where
  abbrev before : Kernel
  before = state_with rs start

  abbrev made : Effect
  made = effect_of w before

  module _ (v : IsLinked before) (sv : IsServed before) (h : IsInHand w q seen before s0) (none : links_left before.tasks q ≡ []) (p : IsPaused (blocks made before) (lists_of before) (w.done + 1) [] h.end s) where
    pub is-last : w.done + 1 ≡ cost made before
    is-last =
        let most = cost-below made before (w.done + 1) (none-left (blocks made before) (lists_of before) (w.done + 1) h.end s p) in
        let open_yet = h.open_yet in
        omega arith

    pub linked-made : IsLinked made.kernel
    linked-made = linked-as w.unit w before v h.may

    pub served-made : IsServed made.kernel
    served-made = served-work (course_of w) w q seen before refl v h.planned sv

    lists-made : nodes_seen (length before.pend) s.halves ≡ whole (lists_of made.kernel)
    lists-made =
        p.chains ∙ ap (λ i. half made before i) is-last ∙ half-work w before

    forward-made : seen_lists (length before.pend) s.halves.forward ≡ lists_of made.kernel
    forward-made = ap (λ (j : Halves). j.forward) lists-made

    objects-made : length before.pend ≡ length made.kernel.objects
    objects-made = v.sizes.pend ∙ sym (objects-kept w before)

    pub halves-made : s.halves ≡ whole s.halves.forward
    halves-made = whole-of s.halves (lists_of made.kernel) (length before.pend) p.even.ready p.even.pend lists-made

    pub nodes-made : AreNodes made.kernel s.halves.forward
    nodes-made = subst (λ l. AreNodes made.kernel l) (sym p.ends) h.nodes

    pub prios-made : s.prios ≡ s0.prios → HasPrios made.kernel s.prios
    prios-made e = subst (HasPrios made.kernel) (sym e) (subst (λ ks. HasPrios made.kernel (prios_over ks s0.prios)) none h.prios)

    -- what the records and the chains then are
    pub state-made : (rs' : Kernel) → rs' ≡ records_by (course_of w) w q seen rs → state_with rs' s.halves.forward ≡ made.kernel
    state-made rs' e =
        made-of rs' made.kernel s.halves.forward
        (ap without_lists e ∙ records-work w q seen rs start (course_of w) refl v h.may h.planned sv)
        (ap (λ n. seen_lists n s.halves.forward) (sym objects-made) ∙ forward-made)

    pub outcome-made : outcome_by (course_of w) w q seen rs ≡ made.outcome
    outcome-made = outcome-work w q seen rs start (course_of w) refl v h.may h.planned

-- what is sound at the last micro-step stays so once what was decided is made
pub sound-end : (w v : WorkRecord) (q p : Plan) (seen : Seen) (r n : RecordsRecord) (s0 s t : StepsRecord) (i : IsSound r s0 q seen w true)
    → links_left (state_with r.state s0.start).tasks q ≡ [] → IsPaused (blocks (effect_of w (state_with r.state s0.start)) (state_with r.state s0.start)) (lists_of (state_with r.state s0.start)) (w.done + 1) [] i.hand.end s
    → s.prios ≡ s0.prios → t.halves ≡ s.halves → t.prios ≡ s.prios → t.start ≡ s.halves.forward
    → n.state ≡ records_by (course_of w) w q seen r.state → IsSound n t p seen v false
sound-end w v q p seen r n s0 s t i none paused prios halves kept start records =
    let made = (effect_of w (state_with r.state s0.start)).kernel in
    let is : state_with n.state t.start ≡ made = ap (λ l. state_with n.state l) start ∙ state-made w q seen r.state s0.start s0 s i.valid i.served i.hand none paused n.state records in
    let nodes : AreNodes made t.start = subst (AreNodes made) (sym start) (nodes-made w q seen r.state s0.start s0 s i.valid i.served i.hand none paused) in
    let listed : HasPrios made t.prios = subst (HasPrios made) (sym kept) (prios-made w q seen r.state s0.start s0 s i.valid i.served i.hand none paused prios) in
    let whole_t : t.halves ≡ whole t.start = halves ∙ halves-made w q seen r.state s0.start s0 s i.valid i.served i.hand none paused ∙ ap whole (sym start) in
    record {
      valid = subst IsLinked (sym is) (linked-made w q seen r.state s0.start s0 s i.valid i.served i.hand none paused);
      served = subst IsServed (sym is) (served-made w q seen r.state s0.start s0 s i.valid i.served i.hand none paused);
      nodes = subst (λ k. AreNodes k t.start) (sym is) nodes;
      hand = subst (λ k. IsResting k t) (sym is) (record { halves = whole_t; prios = listed });
    }
