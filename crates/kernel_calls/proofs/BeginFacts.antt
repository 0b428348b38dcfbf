-- A whole step that begins: what was decided of a call is planned, and its first micro-step is in hand.
use Rattle.std.proofs.Common.{Bool, ◌≡◌, ℕ, ◌<◌, ◌+◌, ◌*◌, ◌/◌, List, [], ◌∷◌, ◌++◌, length, refl, sym, ap, ◌∙◌, subst, true, false, None, arith}
use Rattle.std.specs.Prelude.{◌==◌, ◌&&◌, ◌≤◌, if◌then◌else◌}
use Rattle.std.proofs.lemmas.Bool.{false≢true}
use Rattle.kern_base.specs.Services.{is_post}
use Rattle.kern_base.specs.declared.numbers.Prio.{Prio}
use Rattle.kern_base.specs.declared.services.Service.{Service}
use Rattle.kern_base.specs.declared.services.Service.TheVariants.{SemPend, QPend, FlagPend, TaskSemPend, TaskQPend, FlagPost, TimeDly, RoundRobinYield}
use Rattle.kern_base.specs.declared.outcomes.Answer.{Answer}
use Rattle.kern_base.specs.declared.outcomes.Around.{Around}
use Rattle.kern_base.specs.declared.outcomes.Decision.{Decision}
use Rattle.kern_base.specs.declared.outcomes.Decision.TheVariants.{Done, Block, Wake}
use Rattle.kern_base.specs.declared.outcomes.Who.TheVariants.{First, All as Every, Matching}
use Rattle.kern_model.specs.State.{Kernel, Task, count_of, is_ready, is_zero, place_of, task_at, task_in, waits_for_nothing}
use Rattle.kern_model.specs.Checks.{named_task}
use Rattle.kern_model.specs.Micro.{Halves, Lists, Micro, in_order, lists_of, plain, whole}
use Rattle.kern_model.specs.Effect.{Effect, blocks_on, chosen}
use Rattle.kern_model.specs.Services.{blocks, content_for, cost}
use Rattle.kern_model.specs.Valid.{AllWait, IsLinked, matched}
use Rattle.kern_model.proofs.Lemmas.{AllWait-chosen, and_first, and_second, caller_ready, equal, not_false}
use Rattle.micro_steps.specs.declared.link.Link.{Link}
use Rattle.micro_steps.specs.declared.link.Link.TheVariants as link
use Rattle.micro_steps.specs.Halfway.{seen as nodes_seen}
use Rattle.micro_steps.specs.Whole.{AreFit, IsMidway, IsPaused, StepsRecord, lists_after, task_blocks}
use Rattle.link_plans.specs.Fits.{AreKernels, IsNoded}
use Rattle.link_plans.specs.Plans.{block_links, links_left, matching_links, wakes_links}
use Rattle.link_plans.specs.declared.plan.Plan.{Plan}
use Rattle.link_plans.proofs.Lemmas.{links_keep}
use Rattle.decisions.specs.Around.{IsAround}
use Rattle.decisions.specs.Decided.{bits_in, decided, wait_of, wakes_matching}
use Rattle.tick_timers.specs.Matches.{IsUnmatched}
use Rattle.kernel_records.specs.Suspension.{acts, moves_in_lists, moves_task, suspension_of}
use Rattle.kernel_records.specs.Deciding.{IsServedDecision, decision_of, effect_by, own_change, waiters_of}
use Rattle.kernel_records.proofs.DecidingFacts.{effect-decided, effect-moved}
use Rattle.kernel_records.proofs.SuspensionFacts.{IsMoving, is-moving, moved-inside, moves-done, yields-unlocked}
use Rattle.kernel_records.specs.Concluding.{handing, objects_waited, woken_of}
use Rattle.kernel_records.specs.Served.{is_served_wait}
use Rattle.kernel_records.proofs.ConcludingFacts.{all-posts, plain-flags, plain-wait}
use Rattle.kernel_records.proofs.RowFacts.{beside, own-block}
use Rattle.kernel_calls.specs.Moving.{known_links, links_moved}
use Rattle.kernel_calls.proofs.MoveCase.{moved-links}
use Rattle.kernel_calls.specs.Works.{MayBegin, WorkRecord, effect_of}
use Rattle.kernel_records.specs.Ticks.{is_tick}
use Rattle.kernel_calls.specs.Ending.{OfTick, OfUnit, course_for, course_of}
use Rattle.kernel_calls.specs.Stepping.{AreNodes, HasPrios, IsInHand, IsPast, IsPlanned, IsPlannedAs, IsResting, IsTickPlanned, MayWork, planned_bits, prios_over}
use Rattle.kernel_calls.specs.declared.seen.Seen.{Seen}
use Rattle.kernel_calls.specs.KernelView.{state_with}
use Rattle.kernel_calls.proofs.StepFacts.{below-cost, may-call}
use Rattle.kernel_calls.proofs.EndFacts.{objects-kept}
use Rattle.kernel_calls.proofs.LinkFacts.{AreLinksOf, blocks-end, body-alone, body_of, fit-end, links-fresh, links_of, lists-end, prios-end}
use Rattle.kernel_calls.proofs.WakeCase.{wake-blocks, wake-fits, wake-nodes, wake-prios}
use Rattle.kernel_calls.proofs.BlockCase.{block-blocks, block-fits, block-nodes, block-prios}
use Rattle.kernel_calls.proofs.FlagCase.{flags-blocks, flags-fit, flags-nodes, flags-prios}
use Rattle.kernel_calls.proofs.OwnChanges.{IsWaking, free_posted, is-waking, objects_posted, own-flags, own-keeps}
use Rattle.kernel_records.proofs.WaitFacts.{AreObjects, unlocked, wait-objects, waited-objects}
use Rattle.kernel_calls.proofs.WaiterFacts.{AllWait-woken}

-- a wait is no post
wait-posts : (s : Service) → is_served_wait s ≡ true → is_post s ≡ false
wait-posts SemPend h = refl
wait-posts QPend h = refl
wait-posts FlagPend h = refl
wait-posts TaskSemPend h = refl
wait-posts TaskQPend h = refl
wait-posts TimeDly h = refl
wait-posts _ h = absurd (false≢true h)

module _ (w : WorkRecord) (q : Plan) (around : Around) (k : Kernel) (l : Lists) (prios : List Prio) where
  -- who waits for what the call is about
  abbrev ws : List ℕ
  ws = waiters_of w.request w.caller k

  -- a decision's effect
  abbrev what : Decision → Effect
  what d = decided d w.request.service w.request w.caller w.compared ws (own_change w.request w.caller d k)

  module _ (v : IsLinked k) (a : AreKernels k l) (p : HasPrios k prios) (may : MayBegin w.caller w.request k) (seen : IsAround around ws k) (caller : q.caller.0 ≡ w.caller) (compared : q.compared.0 ≡ w.compared) where
    links-block : Block ≡ decision_of w.request around k → is_served_wait w.request.service ≡ true → q.objects.items ≡ objects_waited Block w.request → AreLinksOf (what Block) (length k.objects) prios (links_of Block k.tasks q) l
    links-block e s os =
        let lock = equal k.lock 0 (not_false (k.lock == 0) (sym seen.locked ∙ unlocked w.request around k e s)) in
        let ready = caller_ready k v w.caller (may-call w k may (wait-posts w.request.service s)) lock in
        let wait = wait_of w.request.service w.request k.ticks in
        let list : wait.objects ≡ objects_waited Block w.request = wait-objects w.request.service w.request k.ticks in
        let objects : AreObjects (length k.objects) wait.objects = subst (AreObjects (length k.objects)) (sym list) (waited-objects w.request around k e s) in
        let made : what Block ≡ blocks_on k w.caller wait = plain-wait w.request.service _ s ∙ ap (λ (j : Kernel). blocks_on j w.caller (wait_of w.request.service w.request j.ticks)) (own-block w.request w.caller k s) in
        let links : links_of Block k.tasks q ≡ block_links k.tasks w.caller wait.objects = ap (λ x. block_links k.tasks x q.objects.items) caller ∙ ap (block_links k.tasks w.caller) (os ∙ sym list) in
        let all : AreLinksOf (blocks_on k w.caller wait) (length k.objects) prios (block_links k.tasks w.caller wait.objects) l =
        record {
          fits = block-fits w.caller wait k l prios v a p ready.0 ready.1 objects;
          blocks = block-blocks w.caller wait k l prios v a p ready.0 ready.1 objects;
          noded = block-nodes w.caller wait k l prios v a p ready.0 ready.1 objects;
          listed = block-prios w.caller wait k l prios v a p ready.0 ready.1 objects;
        } in
        subst (λ f. AreLinksOf f (length k.objects) prios (links_of Block k.tasks q) l) (sym made) (subst (λ ks. AreLinksOf (blocks_on k w.caller wait) (length k.objects) prios ks l) (sym links) all)

    links-wake : (xs : List ℕ) (f : Effect) → AllWait k xs → q.woken.items ≡ xs → IsWaking w.request w.compared xs k f → AreLinksOf f (length k.objects) prios (wakes_links k.tasks q.compared.0 q.woken.items) l
    links-wake xs f wait is made =
        let links : wakes_links k.tasks q.compared.0 q.woken.items ≡ wakes_links k.tasks w.compared xs = ap (λ h. wakes_links k.tasks h q.woken.items) compared ∙ ap (wakes_links k.tasks w.compared) is in
        let ks = wakes_links k.tasks w.compared xs in
        let all : AreLinksOf f (length k.objects) prios ks l =
        record {
          fits = wake-fits (handing w.request) w.compared xs k l prios v a wait;
          blocks = wake-blocks (handing w.request) w.compared xs k l prios v a wait ∙ sym made.blocks;
          noded = subst (λ (ts : List Task). IsNoded ts (lists_after prios ks l).pend) (sym made.tasks) (wake-nodes (handing w.request) w.compared xs k l prios v a wait);
          listed = λ y. wake-prios (handing w.request) w.compared xs k l prios v a wait p y ∙ sym (ap (λ (ts : List Task). (task_in ts y).prio) made.tasks);
        } in
        subst (λ js. AreLinksOf f (length k.objects) prios js l) (sym links) all

    links-flags : w.request.service ≡ FlagPost → q.woken.items ≡ ws → q.bits ≡ planned_bits (Wake Matching) w.request w.caller k → AreLinksOf (what (Wake Matching)) (length k.objects) prios (matching_links k.tasks q.bits q.compared.0 q.woken.items) l
    links-flags s is same =
        let os = objects_posted w.request k in
        let free = free_posted w.request k in
        let own = own-flags w.request w.caller k s in
        let bits = bits_in (content_for w.request (beside k os free)) in
        let made : what (Wake Matching) ≡ wakes_matching bits w.compared ws (beside k os free) =
        plain-flags w.request.service _ _ s ∙ ap (λ (j : Kernel). wakes_matching (bits_in (content_for w.request j)) w.compared ws j) own in
        let links : matching_links k.tasks q.bits q.compared.0 q.woken.items ≡ matching_links k.tasks bits w.compared ws =
        ap (λ b. matching_links k.tasks b q.compared.0 q.woken.items) (same ∙ ap (λ (j : Kernel). bits_in (content_for w.request j)) own)
        ∙ ap (λ h. matching_links k.tasks bits h q.woken.items) compared ∙ ap (matching_links k.tasks bits w.compared) is in
        let wait = AllWait-woken (Wake Matching) w.request w.caller k s v in
        let all : AreLinksOf (wakes_matching bits w.compared ws (beside k os free)) (length k.objects) prios (matching_links k.tasks bits w.compared ws) l =
        record {
          fits = flags-fit bits w.compared ws k l prios v a wait;
          blocks = flags-blocks bits w.compared ws k l prios v a wait os free;
          noded = flags-nodes bits w.compared ws k l prios v a wait os free;
          listed = flags-prios bits w.compared ws k l prios v a wait os free p;
        } in
        subst (λ e. AreLinksOf e (length k.objects) prios (matching_links k.tasks q.bits q.compared.0 q.woken.items) l) (sym made) (subst (λ ks. AreLinksOf (wakes_matching bits w.compared ws (beside k os free)) (length k.objects) prios ks l) (sym links) all)

    -- a call that wakes nobody leaves the nodes and the priorities of all tasks
    links-done : (b : Answer) → AreLinksOf (what (Done b)) (length k.objects) prios [] l
    links-done b =
        record {
          fits = tt;
          blocks = refl;
          noded = λ o n h. a.noded o n h ∙ ap (λ os. 8 * (n / 8) + place_of o os) (sym (own-keeps (λ (t : Task). t.objects) (λ t m ms. refl) w.request w.caller (Done b) k (n / 8)));
          listed = λ y. p y ∙ sym (own-keeps (λ (t : Task). t.prio) (λ t m ms. refl) w.request w.caller (Done b) k y);
        }

    links-decided : (d : Decision) → d ≡ decision_of w.request around k → IsServedDecision d w.request.service → q.objects.items ≡ objects_waited d w.request → q.woken.items ≡ woken_of d ws → q.bits ≡ planned_bits d w.request w.caller k → q.known.items ≡ [] → AreLinksOf (what d) (length k.objects) prios (links_of d k.tasks q) l
    links-decided (Done b) e s os is bits none = subst (λ ks. AreLinksOf (what (Done b)) (length k.objects) prios ks l) (sym none) (links-done b)
    links-decided Block e s os is bits none = links-block e s os
    links-decided (Wake First) e s os is bits none =
        links-wake (chosen false ws) (what (Wake First)) (AllWait-chosen k false ws (AllWait-woken (Wake First) w.request w.caller k s v)) is
        (is-waking First w.request w.caller w.compared (chosen false ws) k s)
    links-decided (Wake Every) e s os is bits none =
        links-wake ws (what (Wake Every)) (AllWait-woken (Wake Every) w.request w.caller k s v) is
        (is-waking Every w.request w.caller w.compared ws k (all-posts w.request.service s))
    links-decided (Wake Matching) e s os is bits none = links-flags s is bits

    -- a caller that yields is ready, and no internal task
    yield-ready : (d : Decision) → w.request.service ≡ RoundRobinYield → d ≡ decision_of w.request around k → acts d ≡ true → (is_ready (task_at k w.caller) ≡ true) × (w.caller < 62)
    yield-ready d t e acting =
        let lock = equal k.lock 0 (not_false (k.lock == 0) (sym seen.locked ∙ yields-unlocked w.request around d k t e acting)) in
        let ready = caller_ready k v w.caller (may-call w k may (ap is_post t)) lock in
        let low = ready.0 in
        (ready.1, omega (arith, low))

    -- a call that suspends a task, resumes one or yields
    links-of-move : (d : Decision) → d ≡ decision_of w.request around k → IsServedDecision d w.request.service → around.caller.0 ≡ w.caller → moves_task w.request.service d ≡ true → q.known.items ≡ known_links d w.request w.caller w.compared k → AreLinksOf (suspension_of w.request.service (named_task w.request w.caller) w.caller w.compared k) (length k.objects) prios (links_of d k.tasks q) l
    links-of-move d e s who moves known =
        let r = w.request in
        let x = w.caller in
        let y = named_task r x in
        let is = moves-done r.service d moves s in
        let links : links_of d k.tasks q ≡ links_moved r.service y x w.compared k = ap (λ c. links_of c k.tasks q) is.1 ∙ known ∙ ap (λ b. if b then links_moved r.service y x w.compared k else []) moves in
        let inside : (r.service ≡ RoundRobinYield → ⊥) → y < 64 = λ other. subst (λ n. y < n) v.sizes.tasks (subst (λ z. named_task r z < length k.tasks) who (moved-inside r around d k other e moves)) in
        let ready : r.service ≡ RoundRobinYield → (is_ready (task_at k x) ≡ true) × (x < 62) = λ t. yield-ready d t e (and_second (moves_in_lists r.service) (acts d) moves) in
        let moving = subst (λ z. IsMoving r.service (task_at k (named_task r z))) who (is-moving r around d k e moves) in
        subst (λ ks. AreLinksOf (suspension_of r.service y x w.compared k) (length k.objects) prios ks l) (sym links) (moved-links k l prios v a p r.service y x w.compared inside ready moving)

    -- what is planned
    planned-if : (b : Bool) (d : Decision) → moves_task w.request.service d ≡ b → d ≡ decision_of w.request around k → IsServedDecision d w.request.service → around.caller.0 ≡ w.caller → q.objects.items ≡ objects_waited d w.request → q.woken.items ≡ woken_of d ws → q.bits ≡ planned_bits d w.request w.caller k → q.known.items ≡ known_links d w.request w.caller w.compared k → AreLinksOf (effect_by d w.request w.caller w.compared ws k) (length k.objects) prios (links_of d k.tasks q) l
    planned-if true d m e s who os is bits known =
        subst (λ f. AreLinksOf f (length k.objects) prios (links_of d k.tasks q) l) (sym (effect-moved w.request d w.caller w.compared ws k m)) (links-of-move d e s who m known)
    planned-if false d m e s who os is bits known =
        let none : q.known.items ≡ [] = known ∙ ap (λ b. if b then links_moved w.request.service (named_task w.request w.caller) w.caller w.compared k else []) m in
        subst (λ f. AreLinksOf f (length k.objects) prios (links_of d k.tasks q) l) (sym (effect-decided w.request d w.caller w.compared ws k m)) (links-decided d e s os is bits none)

    pub links-planned : (d : Decision) → d ≡ decision_of w.request around k → IsServedDecision d w.request.service → around.caller.0 ≡ w.caller → q.objects.items ≡ objects_waited d w.request → q.woken.items ≡ woken_of d ws → q.bits ≡ planned_bits d w.request w.caller k → q.known.items ≡ known_links d w.request w.caller w.compared k → AreLinksOf (effect_by d w.request w.caller w.compared ws k) (length k.objects) prios (links_of d k.tasks q) l
    links-planned d e s who os is bits known = planned-if (moves_task w.request.service d) d refl e s who os is bits known

-- a caller that is to wait has no match yet
pub caller-unmatched : (w : WorkRecord) (q : Plan) (around : Around) (k : Kernel) → IsLinked k → MayBegin w.caller w.request k → IsPlanned w q around k → q.decision ≡ Block → IsUnmatched w.caller k.matches
caller-unmatched w q around k v may plan e =
    let served : is_served_wait w.request.service ≡ true = subst (λ (d : Decision). IsServedDecision d w.request.service) e plan.served in
    let lock = equal k.lock 0 (not_false (k.lock == 0) (sym plan.around.locked ∙ unlocked w.request around k (sym e ∙ plan.decision) served)) in
    let ready = (caller_ready k v w.caller (may-call w k may (wait-posts w.request.service served)) lock).1 in
    let t = task_at k w.caller in
    let waits : waits_for_nothing t.waiting ≡ true = and_first (waits_for_nothing t.waiting) (is_zero t.suspended) (and_second t.alive (waits_for_nothing t.waiting && is_zero t.suspended) ready) in
    let once = v.matches.once_matched w.caller in
    let none : count_of w.caller (matched k.matches) ≤ 0 = rw waits at once in
    omega (arith, none)

-- a step begins with micro-steps
pub some-steps : (e : Effect) (k : Kernel) → 0 < cost e k
some-steps e k = below-cost e k 0 (omega arith)

-- the links of a call that was planned
pub call-body : (w : WorkRecord) (q : Plan) (around : Around) (k : Kernel) (l : Lists) (prios : List Prio) → IsLinked k → AreKernels k l → HasPrios k prios → MayBegin w.caller w.request k → IsPlanned w q around k → q.last ≡ None → AreLinksOf (effect_of w k) (length k.objects) prios (body_of k.tasks q) l
call-body w q around k l prios v a p may plan last =
    subst (λ ks. AreLinksOf (effect_of w k) (length k.objects) prios ks l) (sym (body-alone k.tasks q last))
    (subst (λ f. AreLinksOf f (length k.objects) prios (links_of q.decision k.tasks q) l) (sym plan.effect)
    (links-planned w q around k l prios v a p may plan.around plan.caller plan.compared q.decision plan.decision plan.served plan.who plan.objects plan.woken plan.bits plan.known))

-- what is planned, by the course of the work
pub as-call : (w : WorkRecord) (q : Plan) (seen : Seen) (k : Kernel) → w.unit ≡ false → is_tick w.request.service ≡ false → IsPlanned w q seen.around k → IsPlannedAs (course_of w) w q seen k
as-call w q seen k u e h =
    subst (λ b. IsPlannedAs (if b then OfUnit else course_for (is_tick w.request.service)) w q seen k) (sym u)
    (subst (λ b. IsPlannedAs (course_for b) w q seen k) (sym e) h)

pub as-tick : (w : WorkRecord) (q : Plan) (seen : Seen) (k : Kernel) → w.unit ≡ false → is_tick w.request.service ≡ true → IsTickPlanned w q seen k → IsPlannedAs (course_of w) w q seen k
as-tick w q seen k u e h =
    subst (λ b. IsPlannedAs (if b then OfUnit else course_for (is_tick w.request.service)) w q seen k) (sym u)
    (subst (λ b. IsPlannedAs (course_for b) w q seen k) (sym e) h)

-- the course of a call, and of a tick
pub course-tick : (w : WorkRecord) → w.unit ≡ false → is_tick w.request.service ≡ true → OfTick ≡ course_of w
course-tick w u e = sym (ap (λ b. if b then OfUnit else course_for (is_tick w.request.service)) u ∙ ap course_for e)

-- the lists of nodes that a kernel at rest has
pub at-start : (rs : Kernel) (s : StepsRecord) → AreNodes (state_with rs s.start) s.start → AreKernels (state_with rs s.start) s.start
at-start rs s nodes = record { lists = refl; past = nodes.past; noded = nodes.noded }

-- The first micro-step is in hand.
pub begun-hand : (w : WorkRecord) (q : Plan) (seen : Seen) (rs : Kernel) (s t : StepsRecord) → IsLinked (state_with rs s.start) → AreNodes (state_with rs s.start) s.start → IsResting (state_with rs s.start) s
    → w.caller < 64 → w.done ≡ 0 → MayWork w.unit w (state_with rs s.start) → IsPlannedAs (course_of w) w q seen (state_with rs s.start) → q.task ≡ 0 → q.made ≡ 0 → q.ended ≡ false
    → AreLinksOf (effect_of w (state_with rs s.start)) (length (state_with rs s.start).objects) s.prios (body_of (state_with rs s.start).tasks q) s.start
    → ((ms : List Micro) (l : Lists) (i : ℕ) (ks : List Link) (end : Lists) → IsPaused ms l i (link.Plain ∷ ks) end s → IsMidway ms l i ks end t) → t.prios ≡ s.prios → IsInHand w q seen (state_with rs s.start) t
begun-hand w q seen rs s t v nodes rest caller done may plan task made ended all taken prios =
    let k = state_with rs s.start in
    let e = effect_of w k in
    let body = body_of k.tasks q in
    let links : links_left k.tasks q ≡ body ++ link.Plain ∷ [] = links-fresh k.tasks q task made ended in
    let end = lists_after s.prios body s.start in
    let same : nodes_seen (length (lists_of k).pend) s.halves ≡ whole (lists_of k) =
    ap (nodes_seen (length (lists_of k).pend)) rest.halves ∙ ap (λ i. nodes_seen i (whole s.start)) v.sizes.pend in
    let forward : s.halves.forward ≡ s.start = ap (λ (h : Halves). h.forward) rest.halves in
    let made_blocks : task_blocks s.prios (links_left k.tasks q) ≡ e.blocks ++ plain ∷ [] = ap (task_blocks s.prios) links ∙ blocks-end s.prios body ∙ ap (λ bs. bs ++ plain ∷ []) all.blocks in
    let fits : AreFit (length (lists_of k).pend) s.prios (links_left k.tasks q) s.halves.forward =
    subst (λ n. AreFit n s.prios (links_left k.tasks q) s.halves.forward) (sym v.sizes.pend)
    (subst (λ ks. AreFit (length k.objects) s.prios ks s.halves.forward) (sym links)
    (subst (λ l. AreFit (length k.objects) s.prios (body ++ link.Plain ∷ []) l) (sym forward) (fit-end (length k.objects) s.prios body s.start all.fits))) in
    let paused : IsPaused (blocks e k) (lists_of k) 0 (link.Plain ∷ links_left k.tasks q) end s =
    record {
      even = record { ready = ap (λ (h : Halves). h.forward.ready) rest.halves ∙ sym (ap (λ (h : Halves). h.back.ready) rest.halves); pend = ap (λ (h : Halves). h.forward.pend) rest.halves ∙ sym (ap (λ (h : Halves). h.back.pend) rest.halves) };
      fits = (tt, fits);
      ends = ap (lists_after s.prios (links_left k.tasks q)) forward ∙ ap (λ ks. lists_after s.prios ks s.start) links ∙ lists-end s.prios body s.start;
      left = ap (λ (h : Halves). in_order (task_blocks s.prios (link.Plain ∷ links_left k.tasks q)) h.forward) same ∙ ap (λ bs. in_order (plain ∷ bs) (lists_of k)) made_blocks;
      chains = same;
    } in
    record {
      caller = caller;
      may = may;
      planned = plan;
      open_yet = subst (λ i. i < cost e k) (sym done) (some-steps e k);
      end = end;
      midway = subst (λ i. IsMidway (blocks e k) (lists_of k) i (links_left k.tasks q) end t) (sym done) (taken (blocks e k) (lists_of k) 0 (links_left k.tasks q) end paused);
      nodes = record { noded = all.noded; past = subst (λ n. IsPast n end.pend) (sym (objects-kept w k)) (links_keep (length k.objects) s.prios body s.start all.fits nodes.past) };
      prios = subst (HasPrios e.kernel) (sym (ap (prios_over (links_left k.tasks q)) prios ∙ ap (λ ks. prios_over ks s.prios) links ∙ prios-end body s.prios)) all.listed;
    }
