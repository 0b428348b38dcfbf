-- One task's record changes while nothing is in hand: it reads its result, or it stops.
use Rattle.std.proofs.Common.{◌≡◌, ◌<◌, ℕ, ◌+◌, ◌*◌, ◌/◌, Bool, true, false, List, [], ◌∷◌, get_or, length, length-set, Some, None, refl, sym, ap, ◌∙◌, subst}
use Rattle.kern_base.specs.declared.errors.OsErr.{OsErr}
use Rattle.kern_base.specs.declared.errors.OsErr.TheVariants.{NoError}
use Rattle.kern_base.specs.declared.numbers.Prio.{Prio}
use Rattle.kern_base.specs.declared.services.Service.{Service}
use Rattle.kern_base.specs.declared.services.Service.TheVariants.{FlagPend}
use Rattle.kernel_calls.specs.declared.seen.Seen.{Seen}
use Rattle.kern_base.specs.declared.outcomes.Finished.{Finished}
use Rattle.kern_model.specs.State.{Kernel, Object, Task, is_ready, no_task, place_of, prio_of, task_at, update_list, update_task, without}
use Rattle.kern_model.specs.Finish.{consumed_in, finished, finished_with, flags_consumed}
use Rattle.kern_model.specs.Micro.{Halves, Lists, whole}
use Rattle.kern_model.specs.Stop.{stopped}
use Rattle.kern_model.specs.Valid.{IsLinked}
use Rattle.kern_model.proofs.Lemmas.{linked-finished, linked-stopped, update_task_same}
use Rattle.link_plans.specs.Fits.{IsNoded}
use Rattle.link_plans.specs.declared.plan.Plan.{Plan}
use Rattle.micro_steps.specs.Halfway.{seen_lists}
use Rattle.micro_steps.specs.Whole.{StepsRecord}
use Rattle.kernel_records.specs.RecordsRecord.{RecordsRecord, with_lists, without_lists}
use Rattle.kernel_records.specs.TaskChanges.{cleared_task, stopped_task}
use Rattle.kernel_calls.specs.KernelView.{IsSound, hand_of, state_with}
use Rattle.kernel_calls.specs.Stepping.{AreNodes, HasPrios, IsHand, IsPast, IsResting}
use Rattle.kernel_calls.specs.Works.{WorkRecord}
use Rattle.kernel_calls.proofs.ServedFacts.{served-task}

-- nothing is in hand
pub resting : (busy : Bool) (w : WorkRecord) (q : Plan) (seen : Seen) (k : Kernel) (s : StepsRecord) → hand_of busy w ≡ None → IsHand busy w q seen k s → IsResting k s
resting true w q seen k s free hand = cc
resting false w q seen k s free hand = hand

pub rests : (busy : Bool) (w : WorkRecord) (q : Plan) (seen : Seen) (k : Kernel) (s : StepsRecord) → hand_of busy w ≡ None → IsResting k s → IsHand busy w q seen k s
rests true w q seen k s free rest = cc
rests false w q seen k s free rest = rest

-- its nodes stay those of its objects
pub noded-task : (f : Task → Task) → ((t : Task) → (f t).objects ≡ t.objects) → (ts : List Task) (x : ℕ) (pend : List (List ℕ)) → IsNoded ts pend → IsNoded (update_task ts x f) pend
noded-task f same ts x pend noded o n h =
    noded o n h ∙ ap (λ os. 8 * (n / 8) + place_of o os) (sym (update_task_same (λ t. t.objects) f same ts x (n / 8)))

-- and the priorities of all tasks
pub prios-task : (f : Task → Task) → ((t : Task) → (f t).prio ≡ t.prio) → (k j : Kernel) (x : ℕ) (prios : List Prio) → j.tasks ≡ update_task k.tasks x f → HasPrios k prios → HasPrios j prios
prios-task f same k j x prios e has y =
    has y ∙ sym (ap (λ ts. (get_or ts y no_task).prio) e ∙ update_task_same (λ t. t.prio) f same k.tasks x y)

-- the kernel after a task has read this result
abbrev read : ℕ → Finished → Kernel → Kernel
read x f k =
    record k {
      tasks = update_task k.tasks x cleared_task;
      objects = flags_consumed f.service f.answer.err (task_at k x) f.answer.value k.objects;
    }

finished-read : (x : ℕ) (k : Kernel) (f : Finished) → (task_at k x).answered ≡ Some f → finished x k ≡ read x f k
finished-read x k f e = ap (λ a. finished_with a x k) e

-- no object is lost
length-in : (os : List ℕ) (ready opt : ℕ) (bs : List Object) → length (consumed_in os ready opt bs) ≡ length bs
length-in [] ready opt bs = refl
length-in (o ∷ os) ready opt bs = length-set bs o _

length-consumed : (s : Service) (err : OsErr) (t : Task) (ready : ℕ) (bs : List Object) → length (flags_consumed s err t ready bs) ≡ length bs
length-consumed FlagPend NoError t ready bs = length-in t.objects ready t.opt bs
length-consumed FlagPend _ t ready bs = refl
length-consumed _ err t ready bs = refl

module _ (r t : RecordsRecord) (s : StepsRecord) (x : ℕ) (f : Finished) (waits : (task_at r.state x).answered ≡ Some f) (is : t.state ≡ finished x r.state) where
  finished-state : state_with t.state s.start ≡ read x f (state_with r.state s.start)
  finished-state =
      ap (λ k. state_with k s.start) (is ∙ finished-read x r.state f waits)
      ∙ ap (λ n. with_lists (read x f r.state) (seen_lists n s.start)) (length-consumed f.service f.answer.err (task_at r.state x) f.answer.value r.state.objects)

  pub finished-same : state_with t.state s.start ≡ finished x (state_with r.state s.start)
  finished-same = finished-state ∙ sym (finished-read x (state_with r.state s.start) f waits)

  module _ (q : Plan) (seen : Seen) (w : WorkRecord) (busy : Bool) (sound : IsSound r s q seen w busy) (free : hand_of busy w ≡ None) where
    pub finished-linked : IsLinked (state_with t.state s.start)
    finished-linked = subst IsLinked (sym finished-same) (linked-finished x (state_with r.state s.start) sound.valid)

    pub finished-sound : IsSound t s q seen w busy
    finished-sound =
        let k = state_with r.state s.start in
        let j = state_with t.state s.start in
        let tasks : j.tasks ≡ update_task k.tasks x cleared_task = ap (λ (i : Kernel). i.tasks) finished-state in
        let objects : length (read x f k).objects ≡ length k.objects = length-consumed f.service f.answer.err (task_at k x) f.answer.value k.objects in
        let nodes : AreNodes (read x f k) s.start = record { noded = noded-task cleared_task (λ u. refl) k.tasks x s.start.pend sound.nodes.noded; past = subst (λ n. IsPast n s.start.pend) (sym objects) sound.nodes.past } in
        let rest = resting busy w q seen k s free sound.hand in
        record {
          valid = finished-linked;
          served = served-task k j x cleared_task tasks (λ l. sound.served.waits x l) tt (sound.served.bases x) sound.served;
          nodes = subst (λ i. AreNodes i s.start) (sym finished-state) nodes;
          hand = rests busy w q seen j s free (record { halves = rest.halves; prios = prios-task cleared_task (λ u. refl) k j x s.prios tasks rest.prios });
        }

-- the kernel after a task stopped
module _ (r t : RecordsRecord) (s m : StepsRecord) (q : Plan) (seen : Seen) (w : WorkRecord) (busy : Bool) (sound : IsSound r s q seen w busy) (free : hand_of busy w ≡ None) (x p : ℕ) (inside : x < 60) (ready : is_ready (task_at r.state x) ≡ true) (quiet : r.state.processing ≡ false) (prio_is : p ≡ prio_of r.state x) (is : t.state ≡ without_lists (stopped x r.state)) (halves : m.halves ≡ whole (record { ready = update_list s.halves.forward.ready p (without x); pend = s.halves.forward.pend })) (start : m.start ≡ m.halves.forward) (prios : m.prios ≡ s.prios) where
  stopped-start : m.start ≡ record { ready = update_list s.start.ready (prio_of r.state x) (without x); pend = s.start.pend }
  stopped-start =
      start
      ∙ ap (λ (h : Halves). h.forward) halves
      ∙ ap (λ (l : Lists). let n : Lists = record { ready = update_list l.ready p (without x); pend = l.pend } in n) (ap (λ (h : Halves). h.forward) (resting busy w q seen (state_with r.state s.start) s free sound.hand).halves)
      ∙ ap (λ a. let n : Lists = record { ready = update_list s.start.ready a (without x); pend = s.start.pend } in n) prio_is

  stopped-state : state_with t.state m.start ≡ stopped x (state_with r.state s.start)
  stopped-state = ap (λ k. state_with k m.start) is ∙ ap (state_with (without_lists (stopped x r.state))) stopped-start

  pub stopped-linked : IsLinked (state_with t.state m.start)
  stopped-linked = subst IsLinked (sym stopped-state) (linked-stopped x (state_with r.state s.start) sound.valid inside ready quiet)

  pub stopped-sound : IsSound t m q seen w busy
  stopped-sound =
      let k = state_with r.state s.start in
      let j = state_with t.state m.start in
      let tasks : j.tasks ≡ update_task k.tasks x stopped_task = ap (λ (i : Kernel). i.tasks) stopped-state in
      let rest = resting busy w q seen k s free sound.hand in
      let nodes : AreNodes (stopped x k) m.start =
      subst (AreNodes (stopped x k)) (sym stopped-start) (record { noded = noded-task stopped_task (λ u. refl) k.tasks x s.start.pend sound.nodes.noded; past = sound.nodes.past }) in
      let whole_now : m.halves ≡ whole m.start = halves ∙ ap whole (sym (start ∙ ap (λ (h : Halves). h.forward) halves)) in
      record {
        valid = stopped-linked;
        served = served-task k j x stopped_task tasks (λ l. sound.served.waits x l) (sound.served.reads x) (sound.served.bases x) sound.served;
        nodes = subst (λ i. AreNodes i m.start) (sym stopped-state) nodes;
        hand = rests busy w q seen j m free (record { halves = whole_now; prios = subst (HasPrios j) (sym prios) (prios-task stopped_task (λ u. refl) k j x s.prios tasks rest.prios) });
      }
