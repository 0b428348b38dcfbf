-- The whole valid kernel state is kept: the clauses together keep each plain change, and so every service, unit, finish and trap.
use Rattle.kern_model.proofs.Common.{Call, ◌≡◌, ◌⊎◌, ℕ, ◌<◌, List, [], ◌∷◌, refl, sym, ap, ◌∙◌, subst, Bool, true, false, arith, inl, Some, None, is_post, Service, Kernel, Settings, Content, Count, Messages, Bits, Held, Timed, list_at, task_at, object_at, is_ready, with_content, with_task, update_object, wakes, blocked, moved, moved_all, moves_of, renewed_tasks, effect, unit_effect, IsLinked, IsInherited, MayCall, IsValid, MayOwn, IsObject, IsRequest}
use Rattle.kern_model.specs.Waiters.{without_object}
use Rattle.kern_model.specs.Tasks.{task_ends}
use Rattle.kern_model.specs.Timers.{runs, rests}
use Rattle.kern_model.specs.Finish.{finished}
use Rattle.kern_model.specs.Stop.{stopped, callback_ended}
use Rattle.kern_model.specs.Pool.{pool_of}
use Rattle.kern_model.proofs.Linked.Moves.{linked-moved}
use Rattle.kern_model.proofs.Linked.Renewals.{AllMovable, movable-renewed, movable-moved}
use Rattle.kern_model.proofs.Inherit.Renewed.{inherited-renewed}
use Rattle.kern_model.proofs.Linked.Calls.{linked-effect, linked-unit}
use Rattle.kern_model.proofs.Linked.Contents.{linked-finished, linked-stopped}
use Rattle.kern_model.proofs.Linked.TaskServices.{linked-callback_ended}
use Rattle.kern_model.proofs.Messages.Calls.{pool-effect, pool-unit, pool-finished, pool-stopped}
use Rattle.kern_laws.proofs.Changes.Each.{Preserved, Holds, is_plain, is_timed, WaitsFit}
use Rattle.kern_laws.proofs.Changes.Parts.{Parts, Keeps, Ordered, SoundObjects, TimerMatches, WaitForms, ResultTables, OwnQueues, Words}
use Rattle.kern_laws.proofs.Services.Calls.{preserved-effect, preserved-unit, preserved-finished, preserved-stopped}
use Rattle.kern_laws.proofs.Services.Timers.{preserved-callback_ended}
use Rattle.kern_laws.proofs.Valid.Settings.{keeps-settings}
use Rattle.kern_laws.proofs.Valid.Queues.{keeps-own_queues}
use Rattle.kern_laws.proofs.Valid.Timers.{keeps-timers}
use Rattle.kern_laws.proofs.Valid.Order.{keeps-ordered}
use Rattle.kern_laws.proofs.Valid.WaitForms.{keeps-wait_forms}
use Rattle.kern_laws.proofs.Valid.Results.{keeps-tables}
use Rattle.kern_laws.proofs.Valid.Words.{keeps-words}
use Rattle.kern_laws.proofs.Valid.Fits.{keeps-fits}
use Rattle.kern_laws.proofs.Valid.Objects.{keeps-objects}
use Rattle.kern_laws.proofs.Valid.Inherited.{keeps-inherited}

-- what holds of each clause that the plain changes keep holds of all
parts-by : (s : Settings) (j : Kernel) → ((C : Kernel → Type 0) → Keeps s C → C j) → Parts s j
parts-by s j each =
    record {
      ordered = each Ordered (keeps-ordered s);
      objects = each SoundObjects (keeps-objects s);
      timers = each TimerMatches (keeps-timers s);
      waits = each WaitForms (keeps-wait_forms s);
      fits = each WaitsFit (keeps-fits s);
      reads = each ResultTables (keeps-tables s);
      messages = each OwnQueues (keeps-own_queues s);
      words = each Words (keeps-words s);
      settings = each (λ k. k.settings ≡ s) (keeps-settings s);
    }

-- a renewal is made of moves
parts-moved_all : (s : Settings) (place : List ℕ → ℕ) (ms : List (ℕ × ℕ)) (k : Kernel) → IsLinked k → AllMovable k ms → Parts s k → Parts s (moved_all place ms k)
parts-moved_all s place [] k v h q = q
parts-moved_all s place (m ∷ ms) k v h q =
    parts-moved_all s place ms (moved place m.0 m.1 k) (linked-moved k v m.0 h.0 h.1 place m.1 h.2 h.3) (movable-moved place m.0 m.1 k ms h.4)
    (parts-by s (moved place m.0 m.1 k) (λ C keeps. keeps.moves place m.0 m.1 k v h.0 h.1 h.2 h.3 q))

-- the owner of a mutex is an application task or the timer task
owner_may : (s : Settings) (k : Kernel) (o m x : ℕ) → Holds k o (Held (Some x) m) → Parts s k → MayOwn k.settings.tasks x
owner_may s k o m x h q =
    let sound : IsObject k.settings.tasks (list_at k.pend o) false (Held (Some x) m) =
    subst (λ b. IsObject k.settings.tasks (list_at k.pend o) b (Held (Some x) m)) h.there (subst (λ b. IsObject k.settings.tasks (list_at k.pend o) (object_at k o).deleted b) h.holds (q.objects o)) in
    sound.0

untimed : (c : Content) → is_plain c ≡ true → is_timed c ≡ false
untimed (Count n) h = refl
untimed (Messages limit ms) h = refl
untimed (Bits bits) h = refl
untimed (Held owner n) h = refl
untimed (Timed t) h = sym h

-- the parts, and inherited priorities
abbrev pub AllParts : Settings → Kernel → Type 0
AllParts s k = Parts s k × IsInherited k

pub preserved-all_parts : (s : Settings) → Preserved (AllParts s) (Parts s)
preserved-all_parts s =
    let i = keeps-inherited s in
    record {
      fits = λ k p. p.0.fits;
      words = λ k p. p.0.words;
      before_renewal = λ k p. p.0;
      renew = λ place k v q. (parts-moved_all s place (moves_of renewed_tasks k) k v (movable-renewed k v) q, inherited-renewed place k v);
      wake = λ f h x k w q. parts-by s (wakes f h x k) (λ C keeps. keeps.wake f h x k w q);
      wake_kept = λ f h x k w n p. (parts-by s (wakes f h x k) (λ C keeps. keeps.wake f h x k w p.0), i.wake f h x k w n p.0 p.1);
      block = λ k x w b p. parts-by s (blocked k x w) (λ C keeps. keeps.block k x w b p.0);
      block_kept = λ k x w b n p. (parts-by s (blocked k x w) (λ C keeps. keeps.block k x w b p.0), i.block k x w b n p.0 p.1);
      content = λ k o old new h f word p. (parts-by s (with_content k o new) (λ C keeps. keeps.content k o old new h f word p.0), i.content k o old new h f word p.0 p.1);
      taken = λ k o n x h m p. (parts-by s (with_content k o (Held (Some x) 1)) (λ C keeps. keeps.taken k o n x h m p.0), i.taken k o n x h m p.0 p.1);
      nested = λ k o m n x h a b p. (parts-by s (with_content k o (Held (Some x) n)) (λ C keeps. keeps.owned k o m n x x h (owner_may s k o m x h p.0) a b p.0), i.nested k o m n x h a b p.0 p.1);
      passed = λ k o m v x h l p. parts-by s (with_content k o (Held (Some x) 1)) (λ C keeps. keeps.owned k o m 1 v x h (inl l) (omega arith) (omega arith) p.0);
      freed = λ k o m v h e p. parts-by s (with_content k o (Held None 0)) (λ C keeps. keeps.freed k o m v h e p.0);
      deleted = λ k o v n h e q. parts-by s (without_object o k) (λ C keeps. keeps.deleted k o (Held v n) h refl e q);
      deleted_kept = λ k o c h n e p. (parts-by s (without_object o k) (λ C keeps. keeps.deleted k o c h (untimed c n) e p.0), i.deleted k o c h n e p.0 p.1);
      timer_runs = λ k o after t h p. (parts-by s (runs o t after k) (λ C keeps. keeps.timer_runs k o after t h p.0), i.timer_runs k o after t h p.0 p.1);
      timer_rests = λ k o t state h n p. (parts-by s (rests o t state k) (λ C keeps. keeps.timer_rests k o t state h n p.0), i.timer_rests k o t state h n p.0 p.1);
      timer_deleted = λ k o t v h n p.
          (parts-by s (record k { objects = update_object k.objects o (λ b. record b { deleted = true }) }) (λ C keeps. keeps.timer_deleted k o t v h n p.0), i.timer_deleted k o t v h n p.0 p.1);
      task = λ k x f h p. (parts-by s (with_task k x f) (λ C keeps. keeps.task k x f h p.0), i.task k x f h p.0 p.1);
      based = λ k x n inside a b p. parts-by s (with_task k x (λ t. record t { base = n })) (λ C keeps. keeps.based k x n inside a b p.0);
      stores = λ k x ms h words p. (parts-by s (with_task k x (λ t. record t { messages = ms })) (λ C keeps. keeps.stores k x ms h words p.0), i.stores k x ms h words p.0 p.1);
      answers = λ k x a h p. (parts-by s (with_task k x (λ t. record t { answered = a })) (λ C keeps. keeps.answers k x a h p.0), i.answers k x a h p.0 p.1);
      ended = λ k o x v l p. parts-by s (task_ends o x k).kernel (λ C keeps. keeps.ended k o x v l p.0);
      died = λ k x v l r p. (parts-by s (stopped x k) (λ C keeps. keeps.died k x v l r p.0), i.died k x v l r p.0 p.1);
      internal = λ k x w v a b p. (parts-by s (with_task k x (λ t. record t { waiting = w })) (λ C keeps. keeps.internal k x w v a b p.0), i.internal k x w v a b p.0 p.1);
      rest = λ k j h p. (parts-by s j (λ C keeps. keeps.rest k j h p.0), i.rest k j h p.0 p.1);
    }

all_parts-valid : (k : Kernel) → IsValid k → AllParts k.settings k
all_parts-valid k v =
    (record { ordered = v.order; objects = v.objects; timers = v.timers; waits = v.waits.forms; fits = v.waits.fits; reads = v.results; messages = v.messages.limits; words = v.words; settings = refl }, v.inherited)

valid-all_parts : (k j : Kernel) → IsValid k → IsLinked j → pool_of j ≡ pool_of k → AllParts k.settings j → IsValid j
valid-all_parts k j v l e p =
    let q = p.0 in
    record {
      links = l;
      order = q.ordered;
      waits = record { forms = q.waits; fits = q.fits };
      results = q.reads;
      objects = q.objects;
      timers = q.timers;
      messages = record { limits = q.messages; pool = e ∙ v.messages.pool ∙ sym (ap (λ s. s.pool) q.settings) };
      words = q.words;
      inherited = p.1;
    }

pub valid-effect : (served : Service → Bool) (call : Call) (k : Kernel) → IsValid k → (is_post call.request.service ≡ false → MayCall call.caller k) → IsRequest call.request → IsValid (effect served call k).kernel
valid-effect served call k v m t =
    valid-all_parts k (effect served call k).kernel v (linked-effect served call k v.links m) (pool-effect served call k v.links m)
    (preserved-effect (AllParts k.settings) (Parts k.settings) (preserved-all_parts k.settings) served call k v.links m t (all_parts-valid k v))

pub valid-unit : (x : ℕ) (k : Kernel) → IsValid k → (x ≡ 60) ⊎ (x ≡ 61) → is_ready (task_at k x) ≡ true → (x ≡ 61 → k.in_callback ≡ false) → IsValid (unit_effect x k).kernel
valid-unit x k v i r n =
    valid-all_parts k (unit_effect x k).kernel v (linked-unit x k v.links i r n) (pool-unit x k)
    (preserved-unit (AllParts k.settings) (Parts k.settings) (preserved-all_parts k.settings) x k v.links i (all_parts-valid k v))

pub valid-finished : (x : ℕ) (k : Kernel) → IsValid k → IsValid (finished x k)
valid-finished x k v =
    valid-all_parts k (finished x k) v (linked-finished x k v.links) (pool-finished x k)
    (preserved-finished (AllParts k.settings) (Parts k.settings) (preserved-all_parts k.settings) x k v.links (all_parts-valid k v))

pub valid-stopped : (x : ℕ) (k : Kernel) → IsValid k → x < 60 → is_ready (task_at k x) ≡ true → k.processing ≡ false → IsValid (stopped x k)
valid-stopped x k v l r n =
    valid-all_parts k (stopped x k) v (linked-stopped x k v.links l r n) (pool-stopped x k)
    (preserved-stopped (AllParts k.settings) (Parts k.settings) (preserved-all_parts k.settings) x k v.links l r n (all_parts-valid k v))

pub valid-callback_ended : (k : Kernel) → IsValid k → IsValid (callback_ended k)
valid-callback_ended k v =
    valid-all_parts k (callback_ended k) v (linked-callback_ended k v.links) refl
    (preserved-callback_ended (AllParts k.settings) (Parts k.settings) (preserved-all_parts k.settings) k (all_parts-valid k v))
