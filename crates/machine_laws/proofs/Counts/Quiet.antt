-- How many events have no raw step.
use Rattle.machine_laws.proofs.Common.{◌≡◌, Bool, ℕ, refl, true, List, [], false, ◌∷◌, arith, Option, ◌≤◌, ◌+◌, suc, zero, ◌==◌, ◌&&◌, length, ImageRecord, ListRecord, Method, Finished, Service, choice, Kernel, task_at, acts, events_left, FrameRecord, none_stands, frame_runs, without_top, Machine, WholeStep, CallOf, TakeOf, UnitOf, Work, start, next, rule, Rule, Begins, Enters, FrameRuns, FrameLimit, Looks, MicroStep, TakeBegins, TaskActs, done, Run, run, run_on, settled, is_free, advances, Event, Applies}
use Rattle.std.proofs.Common.{◌*◌}
use Rattle.std.proofs.lemmas.List.{length-map}
use Rattle.machine_model.specs.Frames.{interrupt_of}
use Rattle.machine_model.specs.Bound.{first_event}
use Rattle.machine_model.specs.Rules.{raw}
use Rattle.machine_laws.specs.Counting.{quiet_left}
use Rattle.machine_laws.proofs.Rules.Chosen.{applies}
use Rattle.machine_laws.proofs.Rules.Due.{length-without_look, length-taken_at, due-is}
use Rattle.machine_laws.proofs.Rules.Outcomes.{after-frame, EndsIn, after-advances, after-acts}

-- a whole step and a task leave them
abbrev IsBelow : Machine → Machine → Type 0
IsBelow m n = quiet_left n ≡ quiet_left m

below-ends : (w : Work) (k : Kernel) (m : Machine) → EndsIn w k m (IsBelow m)
below-ends (CallOf x r p) k m = λ registers memory e. refl
below-ends (UnitOf x) k m = λ registers e. refl
below-ends (TakeOf q) k m = refl

below-advances : (served : Service → Bool) (w : WholeStep) (m : Machine) → IsBelow m (advances served w m).machine
below-advances served w m = after-advances served w m (IsBelow m) (λ _. refl) (λ _. below-ends w.work _ m)

below-acts : (served : Service → Bool) (x : ℕ) (o : Option Finished) (m : Machine) → (task_at m.kernel x).answered ≡ o → IsBelow m (acts served x o m).machine
below-acts served x o m a =
    after-acts served x m (IsBelow m)
    (record {
      finishes = λ registers memory e. refl;
      idles = λ e. refl;
      works = λ d u. refl;
      runs = λ i pc registers memory e. refl;
      calls = λ i r registers memory e. refl;
      traps = λ i memory. refl;
    })
    o a

-- the machine without its top frame, and what may stand for its quiet events
record IsWithout (below : List FrameRecord) (m n : Machine) : Type 0 where
  frames : n.frames ≡ below
  begun : n.begun ≡ m.begun
  looks : n.looks ≡ m.looks
  interrupts : n.interrupts ≡ m.interrupts

without-top : (below : List FrameRecord) (m : Machine) → IsWithout below m (without_top below m)
without-top below m =
    let n : Machine = record m { frames = below } in
    choice (IsWithout below m) (none_stands below && is_free m.in_hand) (settled n) n
    (record { frames = refl; begun = refl; looks = refl; interrupts = refl })
    (record { frames = refl; begun = refl; looks = refl; interrupts = refl })

-- so many quiet events are left where so many frames stand
quiet-without : (below : List FrameRecord) (m n : Machine) → IsWithout below m n → quiet_left n ≡ first_event m.begun + length m.looks + 2 * length m.interrupts + length below
quiet-without below m n h = rw (h.frames, h.begun, h.looks, h.interrupts) refl

-- what a rule with so many raw steps comes to
abbrev Falls : Machine → ℕ → Machine → Type 0
Falls m steps n = 1 + quiet_left n ≤ quiet_left m + steps

falls-frames : (served : Service → Bool) (method : Method) (f : FrameRecord) (below : List FrameRecord) (m : Machine) → m.frames ≡ f ∷ below → Falls m 1 (frame_runs served method f below m).machine
falls-frames served method f below m e =
    let many : length m.frames ≡ 1 + length below = rw e (omega arith) in
    after-frame served method f below m (Falls m 1)
    (record {
      left = let w = without-top below m in let q = quiet-without below m (without_top below m) w in omega (arith, q, many);
      ran = λ g memory u l. omega (arith, many);
      posted = λ g s args u l p. omega (arith, many);
    })

falls-done : (served : Service → Bool) (method : Method) (r : Rule) (m : Machine) → Applies method r m → Falls m (raw r) (done served method r m).machine
falls-done served method Begins m h = rw h (omega arith)
falls-done served method (Looks l) m h = let e = length-without_look m.s m.looks l h.look in omega (arith, e)
falls-done served method (Enters p) m h =
    let d = due-is _ _ m.s m.t m.frames m.interrupts p h.due in
    let e = length-taken_at p.at m.interrupts (omega (arith, d.inside)) in
    omega (arith, e)
falls-done served method (FrameLimit f below) m h =
    let w = without-top below m in
    let q = quiet-without below m (without_top below m) w in
    let e : m.frames ≡ f ∷ below = h.0.frames in
    let many : length m.frames ≡ 1 + length below = rw e (omega arith) in
    omega (arith, q, many)
falls-done served method (FrameRuns f below) m h = falls-frames served method f below m h.0.frames
falls-done served method (MicroStep w) m h = let b = below-advances served w m in omega (arith, b)
falls-done served method (TakeBegins q) m h = omega arith
falls-done served method TaskActs m h = let b = below-acts served m.current (task_at m.kernel m.current).answered m refl in omega (arith, b)

-- the raw steps of an event are those of its rule
pub s-next : (served : Service → Bool) (method : Method) (m : Machine) → (next served method m).1.s ≡ m.s + raw (rule method m)
s-next served method m = refl

pub quiet-next : (served : Service → Bool) (method : Method) (m : Machine) → 1 + quiet_left (next served method m).1 + m.s ≤ quiet_left m + (next served method m).1.s
quiet-next served method m =
    let f = falls-done served method (rule method m) m (applies method m) in
    let s = s-next served method m in
    omega (arith, f, s)

-- the events of a run

-- what is counted at the end of a run, or of its rest
abbrev Counted : Machine → Run → Type 0
Counted m r = length r.events + m.s + quiet_left r.last ≤ quiet_left m + r.last.s

of_two : {A : Type 0} (P : A → Type 0) (b : Bool) (x y : A) → P x → P y → P (elim b [ true ↦ x | false ↦ y ])
of_two P true x y p q = p
of_two P false x y p q = q

pub counted-run_on : (served : Service → Bool) (method : Method) (n more : ℕ) (m : Machine) → Counted m (run_on served method n more m)
counted-run_on served method n zero m = omega arith
counted-run_on served method n (suc more) m =
    let e : Event × Machine = next served method m in
    let rest = run_on served method n more e.1 in
    let later = counted-run_on served method n more e.1 in
    let now = quiet-next served method m in
    of_two (Counted m) (m.t == n) (record { events = []; last = m }) (record { events = e.0 ∷ rest.events; last = rest.last }) (omega arith) (omega (arith, later, now))

pub counted-run : (served : Service → Bool) (method : Method) (image : ImageRecord) (list : ListRecord) (n : ℕ) → length (run served method image list n).events ≤ (run served method image list n).last.s + (1 + length list.looks + 2 * length list.injections)
counted-run served method image list n =
    let m = start image list in
    let c = counted-run_on served method n (events_left n m) m in
    let many : length (start image list).interrupts ≡ length list.injections = length-map list.injections (interrupt_of image.vectors) in
    omega (arith, c, many)
