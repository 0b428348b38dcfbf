-- How the lists, the plan and the whole step in hand go together.
use Rattle.std.specs.Prelude.{◌≡◌, ◌<◌, ◌≤◌, ℕ, Bool, true, false, List, [], ◌∷◌, All, length}
use Rattle.kern_base.specs.declared.numbers.Prio.{Prio}
use Rattle.kern_base.specs.declared.outcomes.Around.{Around}
use Rattle.kern_base.specs.declared.outcomes.Who.TheVariants as who
use Rattle.kern_model.specs.State.{Kernel, prio_of}
use Rattle.kern_model.specs.Micro.{Lists, lists_of, whole}
use Rattle.kern_base.specs.declared.requests.Request.{Request}
use Rattle.kern_base.specs.declared.outcomes.Decision.{Decision}
use Rattle.kern_base.specs.declared.outcomes.Decision.TheVariants.{Wake}
use Rattle.kern_model.specs.Services.{blocks, cost}
use Rattle.links.specs.Chain as nodes
use Rattle.micro_steps.specs.declared.link.Link.{Link}
use Rattle.micro_steps.specs.Blocks.{prio_in}
use Rattle.micro_steps.specs.Whole.{IsMidway, StepsRecord, prios_after}
use Rattle.link_plans.specs.Fits.{IsNoded}
use Rattle.link_plans.specs.Plans.{links_left}
use Rattle.link_plans.specs.declared.plan.Plan.{Plan}
use Rattle.decisions.specs.Around.{IsAround}
use Rattle.kernel_records.specs.Deciding.{IsServedDecision, decision_of, effect_by, waiters_of}
use Rattle.kernel_records.specs.Concluding.{bits_left, objects_waited, woken_of}
use Rattle.kernel_calls.specs.Moving.{known_links}
use Rattle.kernel_calls.specs.Works.{MayBegin, MayRunUnit, WorkRecord, effect_of}
use Rattle.kernel_calls.specs.Ticking.{tick_turn, unit_woken}
use Rattle.kernel_calls.specs.Ending.{Course, OfCall, OfTick, OfUnit, course_of}
use Rattle.kernel_records.specs.Ticks.{HasRoom, IsInside}
use Rattle.kernel_calls.specs.declared.seen.Seen.{Seen}

-- the present priorities of all tasks are these
abbrev pub HasPrios : Kernel → List Prio → Type 0
HasPrios k prios = (x : ℕ) → prio_in prios x ≡ prio_of k x

-- the priorities once these links are made
abbrev pub prios_over : List Link → List Prio → List Prio
prios_over [] prios = prios
prios_over (k ∷ ks) prios = prios_over ks (prios_after k prios)

-- past so many objects nobody waits
abbrev pub IsPast : ℕ → List (List ℕ) → Type 0
IsPast objects pend = (o : ℕ) → objects ≤ o → nodes.list_at pend o ≡ []

-- the nodes in the lists are those of the objects for which their tasks wait, and there are none past these
pub record AreNodes (k : Kernel) (l : Lists) : Type 0 where
  pub noded : IsNoded k.tasks l.pend
  pub past : IsPast (length k.objects) l.pend

-- the bits that a post of event flags leaves, of the plan of one; 0 in any other plan
abbrev pub planned_bits : Decision → Request → ℕ → Kernel → ℕ
planned_bits (Wake who.Matching) r x k = bits_left r x (Wake who.Matching) k
planned_bits d r x k = 0

-- What is planned of a work: what was decided of its request, with this around what it is about, which is what its service does; the
-- tasks to be woken or looked at, the objects to be waited for, and the links that are known.
pub record IsPlanned (w : WorkRecord) (q : Plan) (seen : Around) (k : Kernel) : Type 0 where
  pub around : IsAround seen (waiters_of w.request w.caller k) k
  pub who : seen.caller.0 ≡ w.caller
  pub decision : q.decision ≡ decision_of w.request seen k
  pub effect : effect_of w k ≡ effect_by q.decision w.request w.caller w.compared (waiters_of w.request w.caller k) k
  pub served : IsServedDecision q.decision w.request.service
  pub caller : q.caller.0 ≡ w.caller
  pub compared : q.compared.0 ≡ w.compared
  pub woken : q.woken.items ≡ woken_of q.decision (waiters_of w.request w.caller k)
  pub bits : q.bits ≡ planned_bits q.decision w.request w.caller k
  pub objects : q.objects.items ≡ objects_waited q.decision w.request
  pub known : q.known.items ≡ known_links q.decision w.request w.caller w.compared k
  pub woken_below : All (λ x. x < 64) q.woken.items
  pub objects_below : All (λ o. o < 64) q.objects.items

-- What is planned of OSTimeTick: the turn that was seen is that of the interrupted priority, and one more signal can be counted.
pub record IsTickPlanned (w : WorkRecord) (q : Plan) (seen : Seen) (k : Kernel) : Type 0 where
  pub turn : seen.turn ≡ tick_turn w.interrupted w.compared k
  pub inside : IsInside seen.turn
  pub room : HasRoom k
  pub caller : q.caller.0 < 64
  pub woken : q.woken.items ≡ []
  pub objects : q.objects.items ≡ []

-- What is planned of a unit: those are woken whose match is the next tick.
pub record IsUnitPlanned (w : WorkRecord) (q : Plan) (k : Kernel) : Type 0 where
  pub woken : q.woken.items ≡ unit_woken w.caller k
  pub woken_below : All (λ x. x < 64) q.woken.items
  pub caller : q.caller.0 < 64
  pub objects : q.objects.items ≡ []

-- what is planned of a work
abbrev pub IsPlannedAs : Course → WorkRecord → Plan → Seen → Kernel → Type 0
IsPlannedAs OfCall w q seen k = IsPlanned w q seen.around k
IsPlannedAs OfTick w q seen k = IsTickPlanned w q seen k
IsPlannedAs OfUnit w q seen k = IsUnitPlanned w q k

-- who has begun: one who may begin a call, or a unit
abbrev pub MayWork : Bool → WorkRecord → Kernel → Type 0
MayWork true w k = MayRunUnit w.caller k
MayWork false w k = MayBegin w.caller w.request k

-- A whole step in hand: of its micro-steps so many are made, the others are those of the block in hand and of the links that are
-- left of the plan, and these end with lists of nodes that fit the kernel after the step.
pub record IsInHand (w : WorkRecord) (q : Plan) (seen : Seen) (k : Kernel) (s : StepsRecord) : Type 0 where
  pub caller : w.caller < 64
  pub may : MayWork w.unit w k
  pub planned : IsPlannedAs (course_of w) w q seen k
  pub open_yet : w.done < cost (effect_of w k) k
  pub end : Lists
  pub midway : IsMidway (blocks (effect_of w k) k) (lists_of k) w.done (links_left k.tasks q) end s
  pub nodes : AreNodes (effect_of w k).kernel end
  pub prios : HasPrios (effect_of w k).kernel (prios_over (links_left k.tasks q) s.prios)

-- nothing is in hand: the lists in both directions are those that were found, and the priorities those of the tasks
pub record IsResting (k : Kernel) (s : StepsRecord) : Type 0 where
  pub halves : s.halves ≡ whole s.start
  pub prios : HasPrios k s.prios

abbrev pub IsHand : Bool → WorkRecord → Plan → Seen → Kernel → StepsRecord → Type 0
IsHand true w q seen k s = IsInHand w q seen k s
IsHand false w q seen k s = IsResting k s
