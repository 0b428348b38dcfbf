-- Under the deferred method interrupt code switches to no other task.
use Rattle.machine_laws.proofs.Common.{◌≡◌, Bool, ℕ, refl, List, [], sym, ◌==◌, ◌&&◌, Deferred, Service, choice_by, equal, and_first, and_second, Kernel, pick, FrameRecord, none_stands, frame_runs, without_top, Machine, Queued, next, rule, Rule, Begins, Enters, FrameRuns, FrameLimit, Looks, MicroStep, TakeBegins, TaskActs, done, settled, is_free}
use Rattle.machine_model.specs.Settling.{settled_task, none_waits}
use Rattle.machine_laws.specs.Isolation.{IsInterruptCode}
use Rattle.machine_laws.proofs.Rules.Outcomes.{after-frame}
use Rattle.machine_laws.proofs.Valid.Settling.{Valid, rest-of, no_post}
use Rattle.machine_laws.proofs.Valid.Frames.{free-is}

-- settling changes nothing where the current task is the one that is picked
settled-same : (k : Kernel) (later : List Queued) (current : ℕ) → (k.lock ≡ 0 → later ≡ [] → current ≡ pick k) → settled_task k later current ≡ current
settled-same k later current h =
    choice_by (λ x. x ≡ current) ((k.lock == 0) && none_waits later) (pick k) current
    (λ t. sym (h (equal k.lock 0 (and_first (k.lock == 0) (none_waits later) t)) (no_post later (and_second (k.lock == 0) (none_waits later) t))))
    (λ t. refl)

module _ (served : Service → Bool) (m : Machine) (v : Valid served Deferred m) where
  abbrev Keeps : Machine → Type 0
  Keeps n = n.current ≡ m.current

  keeps-left : (below : List FrameRecord) → Keeps (without_top below m)
  keeps-left below =
      let n : Machine = record m { frames = below } in
      choice_by Keeps (none_stands below && is_free m.in_hand) (settled n) n
      (λ t.
      let none = free-is m.in_hand (and_second (none_stands below) (is_free m.in_hand) t) in
      let rest = rest-of served Deferred m v none in
      settled-same m.kernel m.later m.current (λ e n. rest.picked e n tt))
      (λ t. refl)

  keeps-runs : (f : FrameRecord) (below : List FrameRecord) → Keeps (frame_runs served Deferred f below m).machine
  keeps-runs f below =
      after-frame served Deferred f below m Keeps (record { left = keeps-left below; ran = λ g memory used level. refl; posted = λ g s args words used level post. refl })

  keeps-done : (r : Rule) → IsInterruptCode r → Keeps (done served Deferred r m).machine
  keeps-done Begins h = absurd h
  keeps-done (Looks l) h = absurd h
  keeps-done (Enters p) h = refl
  keeps-done (FrameLimit f below) h = keeps-left below
  keeps-done (FrameRuns f below) h = keeps-runs f below
  keeps-done (MicroStep w) h = absurd h
  keeps-done (TakeBegins q) h = absurd h
  keeps-done TaskActs h = absurd h

pub task-next : (served : Service → Bool) (m : Machine) → Valid served Deferred m → IsInterruptCode (rule Deferred m) → (next served Deferred m).1.current ≡ m.current
task-next served m v h = keeps-done served m v (rule Deferred m) h
