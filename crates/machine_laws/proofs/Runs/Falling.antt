-- Every event of a valid machine leaves fewer events to come, and does at most one task step.
use Rattle.machine_laws.proofs.Common.{◌≡◌, Bool, ℕ, refl, List, [], false, ◌∙◌, ◌∷◌, None, Some, sym, arith, Option, ap, ◌≤◌, ◌+◌, ◌<◌, ◌&&◌, length, nat_lt, true≢false, Config, static_error, OsErr, Method, Deferred, Direct, Service, choice, call_of, cost, Kernel, task_at, kinds_of, IsLinked, acts, events_left, FrameRecord, none_stands, frame_runs, without_top, checked_post, queues, Machine, WholeStep, CallOf, TakeOf, UnitOf, Work, effect_of, Queued, front, next, rule, Rule, Begins, Enters, FrameRuns, FrameLimit, Looks, MicroStep, TakeBegins, TaskActs, done, settled, is_free, advances, Applies, IsBegun}
use Rattle.std.proofs.Common.{◌-◌, ◌*◌, ◌++◌}
use Rattle.std.proofs.lemmas.List.{length-append}
use Rattle.kern_model.proofs.Lemmas.{cost-effect-le, cost-unit-le}
use Rattle.machine_model.specs.Queue.{queued, without_front}
use Rattle.machine_model.specs.Due.{taken_at}
use Rattle.machine_model.specs.Bound.{first_event, steps_taken, most_micro_steps, whole_step_events, frame_events, frames_events, interrupt_events}
use Rattle.machine_model.specs.Interrupts.{posting}
use Rattle.machine_laws.specs.Valid.{IsQueue}
use Rattle.machine_laws.proofs.Rules.Chosen.{applies}
use Rattle.machine_laws.proofs.Rules.Due.{length-without_look, length-taken_at, due-is}
use Rattle.machine_laws.proofs.Rules.Outcomes.{after-frame, EndsIn, after-advances, after-acts}
use Rattle.machine_laws.proofs.Valid.WholeSteps.{front-post}
use Rattle.machine_laws.proofs.Valid.Settling.{Valid, hand-of}

-- The micro-steps of the whole step in hand.

cost-begun : (served : Service → Bool) (config : Config) (w : Work) (k : Kernel) (current : ℕ) (later : List Queued) (size : ℕ) → IsLinked k → IsQueue size later → IsBegun w k current later → cost (effect_of served config w k) k ≤ most_micro_steps
cost-begun served config (CallOf x r p) k current later size v q h = cost-effect-le served (call_of r x p p) k v (λ _. h.may_call)
cost-begun served config (UnitOf x) k current later size v q h = cost-unit-le x k v
cost-begun served config (TakeOf p) k current later size v q h = let post = front-post later p h.first q.posts in cost-effect-le served (call_of _ 63 _ _) k v (λ no. absurd (true≢false (sym post ∙ no)))

module _ (served : Service → Bool) (method : Method) where
  pub cost-in_hand : (m : Machine) (w : WholeStep) → Valid served method m → m.in_hand ≡ Some w → cost (effect_of served m.config w.work m.kernel) m.kernel ≤ most_micro_steps
  cost-in_hand m w v some =
      let h = hand-of served method m w v some in
      cost-begun served m.config w.work m.kernel m.current m.later m.config.defer_size v.kernel v.queue h.begun

  few-taken : (m : Machine) (o : Option WholeStep) → Valid served method m → m.in_hand ≡ o → steps_taken o ≤ most_micro_steps
  few-taken m None v e = omega arith
  few-taken m (Some w) v e = let h = hand-of served method m w v e in let c = cost-in_hand m w v e in let more = h.more in omega (arith, c, more)

  -- fewer micro-steps are taken than a whole step may have
  pub taken-le : (m : Machine) → Valid served method m → steps_taken m.in_hand ≤ most_micro_steps
  taken-le m v = few-taken m m.in_hand v refl

-- Queues.

pub length-front : (later : List Queued) (q : Queued) → front later ≡ Some q → length later ≡ 1 + length (without_front later)
length-front [] q e = cc
length-front (p ∷ ps) q e = omega arith

length-queues : (size : ℕ) (q : Queued) (k : Kernel) (later : List Queued) → length (queues (queued size q later) k later).later ≤ length later + 1
length-queues size q k later =
    choice (λ (o : Option (List Queued)). length (queues o k later).later ≤ length later + 1) (nat_lt (length later) size) (Some (later ++ q ∷ [])) None (let e = length-append later (q ∷ []) in omega (arith, e)) (omega arith)

length-checked : (served : Service → Bool) (method : Method) (e : Option OsErr) (s : Service) (args : List ℕ) (m : Machine) → length (checked_post served method e s args m).later ≤ length m.later + 1
length-checked served method (Some err) s args m = omega arith
length-checked served Direct None s args m = omega arith
length-checked served Deferred None s args m = length-queues m.config.defer_size _ m.kernel m.later

-- a post of a frame adds at most one to the queue
pub length-posting : (served : Service → Bool) (method : Method) (s : Service) (args : List ℕ) (m : Machine) → length (posting served method s args m).later ≤ length m.later + 1
length-posting served method s args m = length-checked served method (static_error s args (kinds_of m.kernel) false) s args m

-- Fewer events are left.

-- the events of frames
frames-top : (limit : ℕ) (f : FrameRecord) (below frames : List FrameRecord) → frames ≡ f ∷ below → frames_events limit frames ≡ frame_events limit f + frames_events limit below
frames-top limit f below frames e = rw e refl

-- what the events left are reckoned from
record IsCounted (m n : Machine) (frames : List FrameRecord) : Type 0 where
  stand : n.frames ≡ frames
  t : n.t ≡ m.t
  begun : n.begun ≡ m.begun
  looks : n.looks ≡ m.looks
  interrupts : n.interrupts ≡ m.interrupts
  later : n.later ≡ m.later
  in_hand : n.in_hand ≡ m.in_hand
  config : n.config ≡ m.config

without-top : (below : List FrameRecord) (m : Machine) → IsCounted m (without_top below m) below
without-top below m =
    let n : Machine = record m { frames = below } in
    choice (λ l. IsCounted m l below) (none_stands below && is_free m.in_hand) (settled n) n
    (record { stand = refl; t = refl; begun = refl; looks = refl; interrupts = refl; later = refl; in_hand = refl; config = refl })
    (record { stand = refl; t = refl; begun = refl; looks = refl; interrupts = refl; later = refl; in_hand = refl; config = refl })

-- the events left of a machine without its top frame
left-without : (c : ℕ) (below : List FrameRecord) (m n : Machine) → IsCounted m n below
    → events_left c n ≡ whole_step_events * (c - m.t) + first_event m.begun + (length m.looks + length m.interrupts * interrupt_events m.config.isr_limit) + (frames_events m.config.isr_limit below + whole_step_events * length m.later) - steps_taken m.in_hand
left-without c below m n h = rw (h.stand, h.t, h.begun, h.looks, h.interrupts, h.later, h.in_hand, h.config) refl

module _ (served : Service → Bool) (method : Method) (c : ℕ) (m : Machine) (v : Valid served method m) (short : m.t < c) where
  abbrev Fewer : Machine → Type 0
  Fewer n = events_left c n < events_left c m

  taken : steps_taken m.in_hand ≤ most_micro_steps
  taken = taken-le served method m v

  fewer-left : (f : FrameRecord) (below : List FrameRecord) → m.frames ≡ f ∷ below → Fewer (without_top below m)
  fewer-left f below top =
      let e = left-without c below m (without_top below m) (without-top below m) in
      let all = frames-top m.config.isr_limit f below m.frames top in
      omega (arith, e, all, taken, short)

  fewer-runs : (f : FrameRecord) (below : List FrameRecord) → m.frames ≡ f ∷ below → f.used < m.config.isr_limit → Fewer (frame_runs served method f below m).machine
  fewer-runs f below top room =
      let all = frames-top m.config.isr_limit f below m.frames top in
      after-frame served method f below m Fewer
      (record {
        left = fewer-left f below top;
        ran = λ g memory used level. omega (arith, all, taken, short, used, room);
        posted = λ g s args words used level post. let one = length-posting served method s args m in omega (arith, all, taken, short, used, room, one);
      })

  fewer-ends : (w : Work) (micro : ℕ) (k : Kernel) → IsBegun w m.kernel m.current m.later → steps_taken m.in_hand ≤ micro → micro ≤ most_micro_steps → EndsIn w k m Fewer
  fewer-ends (CallOf x r p) micro k h some few = λ registers memory e. omega (arith, some, few, short)
  fewer-ends (UnitOf x) micro k h some few = λ registers e. omega (arith, some, few, short)
  fewer-ends (TakeOf q) micro k h some few = let e = length-front m.later q h.first in omega (arith, some, few, short, e)

  fewer-advances : (w : WholeStep) → m.in_hand ≡ Some w → Fewer (advances served w m).machine
  fewer-advances w some =
      let h = hand-of served method m w v some in
      let now : steps_taken m.in_hand ≡ 1 + w.done = rw some refl in
      let within = cost-in_hand served method m w v some in
      let more = h.more in
      after-advances served w m Fewer
      (λ d. omega (arith, now, within, more, short))
      (λ e. fewer-ends w.work (1 + w.done) _ h.begun (omega (arith, now)) (omega (arith, within, more)))

  fewer-acts : m.in_hand ≡ None → Fewer (acts served m.current (task_at m.kernel m.current).answered m).machine
  fewer-acts none =
      let now : steps_taken m.in_hand ≡ 0 = rw none refl in
      after-acts served m.current m Fewer
      (record {
        finishes = λ registers memory e. omega (arith, now, short);
        idles = λ e. omega (arith, now, short);
        works = λ d u. omega (arith, now, short);
        runs = λ i pc registers memory e. omega (arith, now, short);
        calls = λ i r registers memory e. omega (arith, now, short);
        traps = λ i memory. omega (arith, now, short);
      })
      (task_at m.kernel m.current).answered refl

  fewer-done : (r : Rule) → Applies method r m → Fewer (done served method r m).machine
  fewer-done Begins a = let first : first_event m.begun ≡ 1 = rw a refl in omega (arith, first, taken, short)
  fewer-done (Looks l) a = let e = length-without_look m.s m.looks l a.look in omega (arith, e, taken, short)
  fewer-done (Enters p) a =
      let d = due-is _ _ m.s m.t m.frames m.interrupts p a.due in
      let e = length-taken_at p.at m.interrupts (omega (arith, d.inside)) in
      let all : length m.interrupts * interrupt_events m.config.isr_limit ≡ (1 + length (taken_at p.at m.interrupts)) * interrupt_events m.config.isr_limit = ap (λ n. n * interrupt_events m.config.isr_limit) e in
      omega (arith, all, taken, short)
  fewer-done (FrameLimit f below) a = fewer-left f below a.0.frames
  fewer-done (FrameRuns f below) a = fewer-runs f below a.0.frames a.1
  fewer-done (MicroStep w) a = fewer-advances w a.in_hand
  fewer-done (TakeBegins q) a = let e : m.in_hand ≡ None = a.0.in_hand in let now : steps_taken m.in_hand ≡ 0 = rw e refl in omega (arith, now, short)
  fewer-done TaskActs a = fewer-acts a.0.in_hand

  fewer-next : Fewer (next served method m).1
  fewer-next = fewer-done (rule method m) (applies method m)

pub events_left-next : (served : Service → Bool) (method : Method) (c : ℕ) (m : Machine) → Valid served method m → m.t < c → events_left c (next served method m).1 < events_left c m
events_left-next served method c m v short = fewer-next served method c m v short
