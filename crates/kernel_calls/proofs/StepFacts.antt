-- What a micro-step of the step in hand keeps.
use Rattle.std.proofs.Common.{◌≡◌, ℕ, ◌<◌, ◌≤◌, ◌+◌, List, [], length, drop, refl, sym, ap, ◌∙◌, subst, Bool, true, false, Some, None, inl, inr, arith}
use Rattle.std.proofs.lemmas.Bool.{true≢false}
use Rattle.std.proofs.lemmas.List.{length-map}
use Rattle.std.proofs.lemmas.Grind.{common_steps}
use Rattle.kern_base.specs.declared.outcomes.Around.{Around}
use Rattle.kern_base.specs.Checks.{is_post}
use Rattle.kern_model.specs.State.{Kernel}
use Rattle.kern_model.specs.Effect.{Effect}
use Rattle.kern_model.specs.Micro.{Lists, Micro, lists_of}
use Rattle.kern_model.specs.Call.{call_of}
use Rattle.served.specs.Served.{program_serves}
use Rattle.kern_model.specs.Services.{blocks, cost, effect, unit_effect}
use Rattle.kern_model.specs.Valid.{IsLinked, MayCall}
use Rattle.kern_model.proofs.Lemmas.{cost-effect-le, cost-unit-le}
use Rattle.std.specs.Prelude.{All, if◌then◌else◌}
use Rattle.std.proofs.lemmas.List.Elements.{All-nil}
use Rattle.micro_steps.specs.declared.link.Link.{Link}
use Rattle.micro_steps.specs.Blocks.{rest}
use Rattle.micro_steps.specs.Halfway.{left_of, on_tasks, to_go}
use Rattle.micro_steps.specs.Whole.{IsMidway, IsPaused, StepsRecord, task_blocks}
use Rattle.micro_steps.proofs.Seen.{some_left}
use Rattle.link_plans.specs.Plans.{links_left}
use Rattle.link_plans.specs.declared.plan.Plan.{Plan}
use Rattle.kernel_calls.specs.Works.{MayBegin, WorkRecord, effect_of, stepped, unit_of}
use Rattle.kernel_calls.specs.Ending.{Course, OfCall, OfTick, OfUnit, course_of}
use Rattle.kernel_calls.specs.Stepping.{HasPrios, IsHand, IsInHand, IsPlanned, IsPlannedAs, IsResting, IsTickPlanned, IsUnitPlanned, MayWork, prios_over}
use Rattle.kernel_calls.specs.declared.seen.Seen.{Seen}
use Rattle.kernel_calls.specs.KernelView.{hand_of}

-- the step in hand is the work, where the kernel is busy
pub busy-of : (b : Bool) (v w : WorkRecord) → hand_of b v ≡ Some w → (b ≡ true) × (v ≡ w)
busy-of true v w h = (refl, cc)
busy-of false v w h = absurd cc

pub free-of : (b : Bool) (v : WorkRecord) → hand_of b v ≡ None → b ≡ false
free-of true v h = absurd cc
free-of false v h = refl

pub in-hand : (b : Bool) (w : WorkRecord) (q : Plan) (seen : Seen) (k : Kernel) (s : StepsRecord) → b ≡ true → IsHand b w q seen k s → IsInHand w q seen k s
in-hand b w q seen k s e h = subst (λ c. IsHand c w q seen k s) e h

pub hand-back : (b : Bool) (w : WorkRecord) (q : Plan) (seen : Seen) (k : Kernel) (s : StepsRecord) → b ≡ true → IsInHand w q seen k s → IsHand b w q seen k s
hand-back b w q seen k s e h = subst (λ c. IsHand c w q seen k s) (sym e) h

pub at-rest : (b : Bool) (w : WorkRecord) (q : Plan) (seen : Seen) (k : Kernel) (s : StepsRecord) → b ≡ false → IsHand b w q seen k s → IsResting k s
at-rest b w q seen k s e h = subst (λ c. IsHand c w q seen k s) e h

-- a step never has more micro-steps than a counter holds
pub may-call : (w : WorkRecord) (k : Kernel) → MayBegin w.caller w.request k → is_post w.request.service ≡ false → MayCall w.caller k
may-call w k (inl m) n = m
may-call w k (inr p) n = absurd (true≢false (sym p.1 ∙ n))

-- what a unit does
pub unit-is : (x : ℕ) (k : Kernel) → unit_of x k ≡ unit_effect x k
unfolding unit_of
unit-is x k = refl

-- what a work does, a unit or a call
abbrev pub effect_as : Bool → WorkRecord → Kernel → Effect
effect_as b w k = if b then unit_of w.caller k else effect program_serves (call_of w.request w.caller w.interrupted w.compared) k

few-as : (b : Bool) (w : WorkRecord) (k : Kernel) → IsLinked k → MayWork b w k → cost (effect_as b w k) k ≤ 32000
few-as true w k v m = subst (λ e. cost e k ≤ 32000) (sym (unit-is w.caller k)) (cost-unit-le w.caller k v)
few-as false w k v m = cost-effect-le program_serves (call_of w.request w.caller w.interrupted w.compared) k v (may-call w k m)

pub few-steps : (w : WorkRecord) (k : Kernel) → IsLinked k → MayWork w.unit w k → cost (effect_of w k) k ≤ 32000
few-steps w k v m = few-as w.unit w k v m

-- where a block is in hand, micro-steps are left
pub left-below : (ms : List Micro) (l : Lists) (i : ℕ) (ks : List Link) (end : Lists) (s : StepsRecord) → IsMidway ms l i ks end s → i < length ms
left-below ms l i ks end s m =
    let some : 0 < length (rest s.prios s.cursor s.halves) = some_left s.prios s.cursor.link s.cursor.stage s.cursor.passed s.cursor.place s.halves m.at in
    let same : length (drop i ms) ≡ length (to_go (length l.pend) s.prios s.cursor (task_blocks s.prios ks) s.halves) = ap length (sym m.left) in
    let mapped : length (left_of s.prios s.cursor s.halves) ≡ length (rest s.prios s.cursor s.halves) = length-map (rest s.prios s.cursor s.halves) on_tasks in
    grind (arith, common_steps)

-- where no link is left, none is
pub none-left : (ms : List Micro) (l : Lists) (i : ℕ) (end : Lists) (s : StepsRecord) → IsPaused ms l i [] end s → length ms ≤ i
none-left ms l i end s p =
    let same : length (drop i ms) ≡ 0 = ap length (sym p.left) in
    grind (arith, common_steps)

-- the cost is the number of micro-steps
pub below-cost : (e : Effect) (k : Kernel) (i : ℕ) → i < length (blocks e k) → i < cost e k
unfolding cost
below-cost e k i h = h

pub cost-below : (e : Effect) (k : Kernel) (i : ℕ) → length (blocks e k) ≤ i → cost e k ≤ i
unfolding cost
cost-below e k i h = h

-- a plan of the same decision
pub record IsSamePlan (q p : Plan) : Type 0 where
  pub decision : p.decision ≡ q.decision
  pub caller : p.caller ≡ q.caller
  pub compared : p.compared ≡ q.compared
  pub objects : p.objects ≡ q.objects
  pub woken : p.woken ≡ q.woken
  pub known : p.known ≡ q.known
  pub bits : p.bits ≡ q.bits

pub planned-next : (w : WorkRecord) (q p : Plan) (seen : Around) (k : Kernel) → IsSamePlan q p → IsPlanned w q seen k → IsPlanned (stepped w) p seen k
planned-next w q p seen k e h =
    record {
      around = h.around;
      who = h.who;
      decision = e.decision ∙ h.decision;
      effect = rw e.decision h.effect;
      served = rw e.decision h.served;
      caller = rw e.caller h.caller;
      compared = rw e.compared h.compared;
      woken = rw (e.woken, e.decision) h.woken;
      bits = rw (e.bits, e.decision) h.bits;
      objects = rw (e.objects, e.decision) h.objects;
      known = rw (e.known, e.decision) h.known;
      woken_below = rw e.woken h.woken_below;
      objects_below = rw e.objects h.objects_below;
    }

tick-next : (w : WorkRecord) (q p : Plan) (seen : Seen) (k : Kernel) → IsSamePlan q p → IsTickPlanned w q seen k → IsTickPlanned (stepped w) p seen k
tick-next w q p seen k e h =
    record {
      turn = h.turn;
      inside = h.inside;
      room = h.room;
      caller = rw e.caller h.caller;
      woken = rw e.woken h.woken;
      objects = rw e.objects h.objects;
    }

unit-next : (w : WorkRecord) (q p : Plan) (k : Kernel) → IsSamePlan q p → IsUnitPlanned w q k → IsUnitPlanned (stepped w) p k
unit-next w q p k e h =
    record {
      woken = rw e.woken h.woken;
      woken_below = rw e.woken h.woken_below;
      caller = rw e.caller h.caller;
      objects = rw e.objects h.objects;
    }

planned-as-next : (c : Course) (w : WorkRecord) (q p : Plan) (seen : Seen) (k : Kernel) → IsSamePlan q p → IsPlannedAs c w q seen k → IsPlannedAs c (stepped w) p seen k
planned-as-next OfCall w q p seen k e h = planned-next w q p seen.around k e h
planned-as-next OfTick w q p seen k e h = tick-next w q p seen k e h
planned-as-next OfUnit w q p seen k e h = unit-next w q p k e h

-- the numbers of a plan are within their bounds
pub record IsPlanInside (q : Plan) : Type 0 where
  pub caller : q.caller.0 < 64
  pub objects : All (λ o. o < 64) q.objects.items
  pub woken : All (λ x. x < 64) q.woken.items

inside-as : (c : Course) (w : WorkRecord) (q : Plan) (seen : Seen) (k : Kernel) → w.caller < 64 → IsPlannedAs c w q seen k → IsPlanInside q
inside-as OfCall w q seen k low h = record { caller = subst (λ x. x < 64) (sym h.caller) low; objects = h.objects_below; woken = h.woken_below }
inside-as OfTick w q seen k low h =
    record {
      caller = h.caller;
      objects = subst (All (λ o. o < 64)) (sym h.objects) (All-nil (λ o. o < 64));
      woken = subst (All (λ x. x < 64)) (sym h.woken) (All-nil (λ x. x < 64));
    }
inside-as OfUnit w q seen k low h = record { caller = h.caller; objects = subst (All (λ o. o < 64)) (sym h.objects) (All-nil (λ o. o < 64)); woken = h.woken_below }

pub plan-inside : (w : WorkRecord) (q : Plan) (seen : Seen) (k : Kernel) (s : StepsRecord) → IsInHand w q seen k s → IsPlanInside q
plan-inside w q seen k s h = inside-as (course_of w) w q seen k h.caller h.planned

may-next : (b : Bool) (w : WorkRecord) (k : Kernel) → MayWork b w k → MayWork b (stepped w) k
may-next true w k m = m
may-next false w k m = m

-- a micro-step later, in the same block or in the next one
pub hand-next : (w : WorkRecord) (q p : Plan) (seen : Seen) (k : Kernel) (s t : StepsRecord) (h : IsInHand w q seen k s) → IsSamePlan q p
    → IsMidway (blocks (effect_of w k) k) (lists_of k) (w.done + 1) (links_left k.tasks p) h.end t
    → prios_over (links_left k.tasks p) t.prios ≡ prios_over (links_left k.tasks q) s.prios → IsInHand (stepped w) p seen k t
hand-next w q p seen k s t h e m n =
    record {
      caller = h.caller;
      may = may-next w.unit w k h.may;
      planned = planned-as-next (course_of w) w q p seen k e h.planned;
      open_yet = below-cost (effect_of w k) k (w.done + 1) (left-below (blocks (effect_of w k) k) (lists_of k) (w.done + 1) (links_left k.tasks p) h.end t m);
      end = h.end;
      midway = m;
      nodes = h.nodes;
      prios = subst (HasPrios (effect_of w k).kernel) (sym n) h.prios;
    }
