-- Every event keeps the machine whole.
use Rattle.machine_laws.proofs.Common.{◌≡◌, Bool, ℕ, refl, true, List, [], false, ◌∙◌, None, Some, sym, Option, inl, inr, ◌≢◌, ◌==◌, ◌&&◌, length, nat_lt, All, ◌++◌, false≢true, true≢false, All-nil, All-cons, All-head, All-tail, static_error, leave, is_post, OsErr, Method, Deferred, Direct, Service, choice, choice_by, unequal, call_of, posted, post_request, Kernel, task_at, prio_of, kinds_of, timer_task, acts, FrameRecord, none_stands, frame_runs, without_top, checked_post, queues, Machine, WholeStep, CallOf, TakeOf, UnitOf, Work, effect_of, Queued, front, next, rule, Rule, Begins, Enters, FrameRuns, FrameLimit, Looks, MicroStep, TakeBegins, TaskActs, done, settled, is_free, advances, Applies, IsBegun}
use Rattle.std.specs.Prelude.{◌∷◌}
use Rattle.std.proofs.lemmas.List.Elements.{All-append}
use Rattle.kern_model.specs.State.{handler_task}
use Rattle.kern_model.specs.Stop.{stopped, callback_ended}
use Rattle.kern_model.specs.Valid.{IsValid, IsWord}
use Rattle.kern_laws.specs.Laws.{EffectKeepsValid, UnitKeepsValid, FinishKeepsValid, TrapKeepsValid, CallbackEndKeepsValid}
use Rattle.machine_model.specs.Queue.{queued, without_front}
use Rattle.machine_model.specs.Machine.{handler_compares}
use Rattle.machine_model.specs.Acts.{after_instruction, trapped}
use Rattle.machine_laws.specs.Whole.{IsWorkOfWords, HandsWords, AreWordPosts, IsWholeMachine}
use Rattle.machine_laws.proofs.Rules.Chosen.{applies}
use Rattle.machine_laws.proofs.Rules.Outcomes.{Instructs, EndsIn, after-frame, after-advances, after-acts}
use Rattle.machine_laws.proofs.Valid.Settling.{hand-of}
use Rattle.machine_laws.proofs.Valid.Tasks.{IsRunner, not_processing, act, runs}
use Rattle.machine_laws.proofs.Valid.WholeSteps.{front-post}
use Rattle.machine_laws.proofs.Valid.Events.{valid-next}
use Rattle.machine_laws.proofs.Whole.Tables.{acts-table}

-- The laws of the kernel that these stand on.
pub record KernelStaysWhole : Type 0 where
  pub call : EffectKeepsValid
  pub unit : UnitKeepsValid
  pub finish : FinishKeepsValid
  pub trap : TrapKeepsValid
  pub callback_end : CallbackEndKeepsValid

-- what is kept beside validity
record Keeps (n : Machine) : Type 0 where
  kernel : IsValid n.kernel
  hand : HandsWords n.in_hand
  later : AreWordPosts n.later

-- the words of the post that waits longest, and of those behind it

front-words : (later : List Queued) (q : Queued) → front later ≡ Some q → AreWordPosts later → All IsWord q.args
front-words [] q e w = cc
front-words (p ∷ ps) q e w = let same : p ≡ q = cc in rw (← same) (All-head (λ r. All IsWord r.args) p ps w)

rest-words : (later : List Queued) → AreWordPosts later → AreWordPosts (without_front later)
rest-words [] w = w
rest-words (p ∷ ps) w = All-tail (λ r. All IsWord r.args) p ps w

module _ (laws : KernelStaysWhole) (served : Service → Bool) (method : Method) where
  -- a post that is performed, which has no table
  whole-posted : (s : Service) (args : List ℕ) (c h : ℕ) (k : Kernel) → is_post s ≡ true → All IsWord args → IsValid k → IsValid (posted served s args c h k).kernel
  whole-posted s args c h k post words w =
      laws.call served (call_of (post_request s args) handler_task c h) k w (λ no. absurd (true≢false (sym post ∙ no))) (record { words = words; table = λ _ read. absurd (false≢true read) })

  -- a post of a frame

  whole-queues : (o : Option (List Queued)) (k : Kernel) (later : List Queued) → IsValid k → IsValid (queues o k later).kernel
  whole-queues (Some after) k later w = w
  whole-queues None k later w = w

  whole-checked : (o : Method) (e : Option OsErr) (s : Service) (args : List ℕ) (m : Machine) → is_post s ≡ true → All IsWord args → IsValid m.kernel → IsValid (checked_post served o e s args m).kernel
  whole-checked o (Some err) s args m post words w = w
  whole-checked Direct None s args m post words w = whole-posted s args (prio_of m.kernel m.current) (prio_of m.kernel m.current) m.kernel post words w
  whole-checked Deferred None s args m post words w =
      whole-queues (queued m.config.defer_size (record { service = s; args = args; saved = prio_of m.kernel m.current }) m.later) m.kernel m.later w

  -- the queue after a post of a frame

  later-queued : (size : ℕ) (q : Queued) (k : Kernel) (later : List Queued) → All IsWord q.args → AreWordPosts later → AreWordPosts (queues (queued size q later) k later).later
  later-queued size q k later words w =
      choice (λ o. AreWordPosts (queues o k later).later) (nat_lt (length later) size) (Some (later ++ q ∷ [])) None
      (All-append (λ p. All IsWord p.args) later (q ∷ []) w (All-cons (λ p. All IsWord p.args) q [] words (All-nil (λ p. All IsWord p.args)))) w

  later-checked : (o : Method) (e : Option OsErr) (s : Service) (args : List ℕ) (m : Machine) → All IsWord args → AreWordPosts m.later → AreWordPosts (checked_post served o e s args m).later
  later-checked o (Some err) s args m words w = w
  later-checked Direct None s args m words w = w
  later-checked Deferred None s args m words w = later-queued m.config.defer_size (record { service = s; args = args; saved = prio_of m.kernel m.current }) m.kernel m.later words w

  module _ (m : Machine) (w : IsWholeMachine served method m) where
    -- the leaving of a frame
    keeps-left : (below : List FrameRecord) → Keeps (without_top below m)
    keeps-left below =
        let n : Machine = record m { frames = below } in
        choice Keeps (none_stands below && is_free m.in_hand) (settled n) n (record { kernel = w.kernel; hand = w.hand; later = w.later }) (record { kernel = w.kernel; hand = w.hand; later = w.later })

    -- an instruction of a frame
    keeps-frame : (f : FrameRecord) (below : List FrameRecord) → Keeps (frame_runs served method f below m).machine
    keeps-frame f below =
        after-frame served method f below m Keeps
        (record {
          left = keeps-left below;
          ran = λ g memory used level. record { kernel = w.kernel; hand = w.hand; later = w.later };
          posted = λ g s args words used level post. record {
            kernel = whole-checked method (static_error s args (kinds_of m.kernel) false) s args m post words w.kernel;
            hand = w.hand;
            later = later-checked method (static_error s args (kinds_of m.kernel) false) s args m words w.later;
          };
        })

    -- the end of a whole step
    keeps-ends : (x : Work) → IsBegun x m.kernel m.current m.later → IsWorkOfWords x → EndsIn x (effect_of served m.config x m.kernel).kernel m Keeps
    keeps-ends (CallOf x r p) h t = λ registers memory e. record { kernel = laws.call served (call_of r x p p) m.kernel w.kernel (λ _. h.may_call) t; hand = tt; later = w.later }
    keeps-ends (UnitOf x) h t = λ registers e. record { kernel = laws.unit x m.kernel w.kernel h.internal h.ready (λ _. h.no_callback); hand = tt; later = w.later }
    keeps-ends (TakeOf q) h t =
        record {
          kernel = whole-posted q.service q.args q.saved (handler_compares m.config q.saved) m.kernel (front-post m.later q h.first w.valid.queue.posts) (front-words m.later q h.first w.later) w.kernel;
          hand = tt;
          later = rest-words m.later w.later;
        }

    -- a micro-step
    keeps-advances : (x : WholeStep) → m.in_hand ≡ Some x → Keeps (advances served x m).machine
    keeps-advances x some =
        let h = hand-of served method m x w.valid some in
        let t : IsWorkOfWords x.work = rw some at w.hand in
        after-advances served x m Keeps (λ _. record { kernel = w.kernel; hand = t; later = w.later }) (λ _. keeps-ends x.work h.begun t)

    -- what the current task does

    module _ (frames : m.frames ≡ []) (none : m.in_hand ≡ None) (empty : m.kernel.lock ≡ 0 → m.later ≡ []) where
      after-whole : (pc : ℕ) → IsValid (after_instruction m.current pc m.kernel)
      after-whole pc =
          choice (λ (k : Kernel). IsValid k) ((m.current == timer_task) && (pc == leave)) (callback_ended m.kernel) m.kernel (laws.callback_end m.kernel w.kernel) w.kernel

      stopped-whole : IsRunner m.current m.kernel → m.current ≢ 61 → IsValid (stopped m.current m.kernel)
      stopped-whole (inl l) d =
          let a = act served method m w.valid frames none empty in
          laws.trap m.current m.kernel w.kernel l a.ready (not_processing m.current m.kernel a l)
      stopped-whole (inr h) d = absurd (d h.0)

      trapped-whole : Instructs m.current m → IsValid (trapped m.current m.kernel)
      trapped-whole i =
          choice_by (λ (k : Kernel). IsValid k) (m.current == timer_task) (callback_ended m.kernel) (stopped m.current m.kernel) (λ _. laws.callback_end m.kernel w.kernel)
          (λ t. stopped-whole (runs served method m w.valid frames none empty i) (unequal m.current 61 t))

      whole-acts : IsValid (acts served m.current (task_at m.kernel m.current).answered m).machine.kernel
      whole-acts =
          after-acts served m.current m (λ n. IsValid n.kernel)
          (record {
            finishes = λ registers memory long. laws.finish m.current m.kernel w.kernel;
            idles = λ d. w.kernel;
            works = λ d u. w.kernel;
            runs = λ i pc registers memory long. after-whole pc;
            calls = λ i r registers memory long. w.kernel;
            traps = λ i memory. trapped-whole i;
          })
          (task_at m.kernel m.current).answered refl

      later-acts : AreWordPosts (acts served m.current (task_at m.kernel m.current).answered m).machine.later
      later-acts =
          after-acts served m.current m (λ n. AreWordPosts n.later)
          (record {
            finishes = λ registers memory long. w.later;
            idles = λ d. w.later;
            works = λ d u. w.later;
            runs = λ i pc registers memory long. w.later;
            calls = λ i r registers memory long. w.later;
            traps = λ i memory. w.later;
          })
          (task_at m.kernel m.current).answered refl

      keeps-acts : Keeps (acts served m.current (task_at m.kernel m.current).answered m).machine
      keeps-acts = record { kernel = whole-acts; hand = acts-table served m.current m none (task_at m.kernel m.current).answered; later = later-acts }

    -- each rule

    keeps-done : (r : Rule) → Applies method r m → Keeps (done served method r m).machine
    keeps-done Begins a = record { kernel = w.kernel; hand = w.hand; later = w.later }
    keeps-done (Looks l) a = record { kernel = w.kernel; hand = w.hand; later = w.later }
    keeps-done (Enters p) a = record { kernel = w.kernel; hand = w.hand; later = w.later }
    keeps-done (FrameLimit f below) a = keeps-left below
    keeps-done (FrameRuns f below) a = keeps-frame f below
    keeps-done (MicroStep x) a = keeps-advances x a.in_hand
    keeps-done (TakeBegins q) a = record { kernel = w.kernel; hand = tt; later = w.later }
    keeps-done TaskActs a = keeps-acts a.0.frames a.0.in_hand a.1

    pub whole-next : IsWholeMachine served method (next served method m).1
    whole-next =
        let n = keeps-done (rule method m) (applies method m) in
        record { valid = valid-next served method m w.valid; kernel = n.kernel; hand = n.hand; later = n.later }
