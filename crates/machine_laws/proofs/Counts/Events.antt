-- The counts of a run, event by event.
use Rattle.machine_laws.proofs.Common.{◌≡◌, Bool, ℕ, refl, true, List, [], false, ◌∷◌, None, Some, arith, Option, ap, ◌≤◌, ◌+◌, suc, zero, ◌<◌, ◌==◌, ◌&&◌, length, ImageRecord, IsValidImage, HasWords, ListRecord, IsValidList, Method, Service, choice, unequal, Kernel, task_at, acts, events_left, FrameRecord, none_stands, frame_runs, without_top, Machine, WholeStep, CallOf, TakeOf, UnitOf, Work, start, next, rule, Rule, Begins, Enters, FrameRuns, FrameLimit, Looks, MicroStep, TakeBegins, TaskActs, done, Run, run, run_on, settled, is_free, advances, Applies, IsBegun}
use Rattle.std.specs.Prelude.{map}
use Rattle.std.proofs.Common.{◌-◌, ◌*◌, cond}
use Rattle.std.specs.List.{count_by}
use Rattle.std.proofs.lemmas.List.{length-map}
use Rattle.std.proofs.lemmas.List.Sums.{sum_by-cons}
use Rattle.machine_model.specs.Frames.{interrupt_of}
use Rattle.machine_model.specs.Bound.{steps_taken, most_micro_steps, whole_step_events}
use Rattle.machine_model.specs.Rules.{raw}
use Rattle.machine_model.specs.Run.{machines_on}
use Rattle.machine_model.proofs.RunLaws.{run_on-more, run_on-end}
use Rattle.machine_laws.specs.StepBound.{rules_of, is_take, is_instruction, is_entry, IsBounded}
use Rattle.machine_laws.proofs.Rules.Chosen.{applies}
use Rattle.machine_laws.proofs.Rules.Due.{length-taken_at, due-is}
use Rattle.machine_laws.proofs.Rules.Outcomes.{after-frame, EndsIn, after-advances, after-acts}
use Rattle.machine_laws.proofs.Valid.Settling.{Valid, hand-of}
use Rattle.machine_laws.proofs.Runs.Falling.{cost-in_hand, length-front, length-posting}
use Rattle.machine_laws.proofs.Runs.Ends.{OnItsWay, on_its_way-next, on_its_way-start, run-ends}
use Rattle.machine_laws.proofs.Runs.Machines.{machines_on-end, machines_on-more}

-- 1 where a test holds
abbrev one : Bool → ℕ
one b = cond b 1 0

-- the raw steps of a whole step, where it is a take: they are counted when it begins
abbrev held_for : Work → ℕ
held_for (CallOf x r p) = 0
held_for (UnitOf x) = 0
held_for (TakeOf q) = whole_step_events

abbrev held : Option WholeStep → ℕ
held None = 0
held (Some w) = held_for w.work

-- how many instructions these frames may still run
abbrev room : ℕ → List FrameRecord → ℕ
room limit [] = 0
room limit (f ∷ fs) = (limit - f.used) + room limit fs

-- 1 where a take is in hand, whose post is in the queue still
abbrev taking_of : Work → ℕ
taking_of (CallOf x r p) = 0
taking_of (UnitOf x) = 0
taking_of (TakeOf q) = 1

abbrev taking : Option WholeStep → ℕ
taking None = 0
taking (Some w) = taking_of w.work

-- what an event changes of these counts, where it begins a take, is an instruction of a frame, or an entry
record Counts (m : Machine) (steps takes instructions entries : ℕ) (n : Machine) : Type 0 where
  raw : steps + whole_step_events * m.t + held n.in_hand + steps_taken m.in_hand ≤ whole_step_events * (n.t + takes) + instructions + steps_taken n.in_hand + held m.in_hand
  frames : room m.config.isr_limit n.frames + instructions ≤ room m.config.isr_limit m.frames + entries * m.config.isr_limit
  list : length n.interrupts + entries ≤ length m.interrupts
  queue : length n.later + takes + taking m.in_hand ≤ length m.later + instructions + taking n.in_hand
  config : n.config ≡ m.config

-- what a frame's leaving leaves
record IsLeft (below : List FrameRecord) (m n : Machine) : Type 0 where
  stand : n.frames ≡ below
  t : n.t ≡ m.t
  interrupts : n.interrupts ≡ m.interrupts
  later : n.later ≡ m.later
  in_hand : n.in_hand ≡ m.in_hand
  config : n.config ≡ m.config

without-top : (below : List FrameRecord) (m : Machine) → IsLeft below m (without_top below m)
without-top below m =
    let n : Machine = record m { frames = below } in
    choice (IsLeft below m) (none_stands below && is_free m.in_hand) (settled n) n (record { stand = refl; t = refl; interrupts = refl; later = refl; in_hand = refl; config = refl })
    (record { stand = refl; t = refl; interrupts = refl; later = refl; in_hand = refl; config = refl })

counts-left : (below : List FrameRecord) (m : Machine) (steps instructions : ℕ) → steps ≡ instructions → room m.config.isr_limit below + instructions ≤ room m.config.isr_limit m.frames → Counts m steps 0 instructions 0 (without_top below m)
counts-left below m steps instructions same fewer =
    let l = without-top below m in
    record {
      raw = rw (l.in_hand, l.t) (omega (arith, same));
      frames = rw l.stand (omega (arith, fewer));
      list = rw l.interrupts (omega arith);
      queue = rw (l.later, l.in_hand) (omega arith);
      config = l.config;
    }

room-top : (limit : ℕ) (f : FrameRecord) (below frames : List FrameRecord) → frames ≡ f ∷ below → room limit frames ≡ (limit - f.used) + room limit below
room-top limit f below frames e = rw e refl

module _ (served : Service → Bool) (method : Method) (m : Machine) (v : Valid served method m) where
  counts-runs : (f : FrameRecord) (below : List FrameRecord) → m.frames ≡ f ∷ below → f.used < m.config.isr_limit → Counts m 1 0 1 0 (frame_runs served method f below m).machine
  counts-runs f below top lt =
      let all = room-top m.config.isr_limit f below m.frames top in
      after-frame served method f below m (Counts m 1 0 1 0)
      (record {
        left = counts-left below m 1 1 refl (omega (arith, all, lt));
        ran = λ g memory used level. record { raw = omega arith; frames = omega (arith, all, lt, used); list = omega arith; queue = omega arith; config = refl };
        posted = λ g s args words used level post.
            let more = length-posting served method s args m in
            record { raw = omega arith; frames = omega (arith, all, lt, used); list = omega arith; queue = omega (arith, more); config = refl };
      })

  counts-ends : (w : Work) (k : Kernel) → IsBegun w m.kernel m.current m.later → held m.in_hand ≡ held_for w → taking m.in_hand ≡ taking_of w → steps_taken m.in_hand ≤ most_micro_steps → EndsIn w k m (Counts m 1 0 0 0)
  counts-ends (CallOf x r p) k h hold take some = λ registers memory e. record { raw = omega (arith, hold, some); frames = omega arith; list = omega arith; queue = omega (arith, take); config = refl }
  counts-ends (UnitOf x) k h hold take some = λ registers e. record { raw = omega (arith, hold, some); frames = omega arith; list = omega arith; queue = omega (arith, take); config = refl }
  counts-ends (TakeOf q) k h hold take some =
      let e = length-front m.later q h.first in
      record { raw = omega (arith, hold, some); frames = omega arith; list = omega arith; queue = omega (arith, take, e); config = refl }

  counts-advances : (w : WholeStep) → m.in_hand ≡ Some w → Counts m 1 0 0 0 (advances served w m).machine
  counts-advances w some =
      let h = hand-of served method m w v some in
      let now : steps_taken m.in_hand ≡ 1 + w.done = rw some refl in
      let hold : held m.in_hand ≡ held_for w.work = rw some refl in
      let take : taking m.in_hand ≡ taking_of w.work = rw some refl in
      let within = cost-in_hand served method m w v some in
      let more = h.more in
      after-advances served w m (Counts m 1 0 0 0)
      (λ d. record { raw = omega (arith, now, hold); frames = omega arith; list = omega arith; queue = omega (arith, take); config = refl })
      (λ e. counts-ends w.work _ h.begun hold take (omega (arith, now, within, more)))

  counts-acts : m.in_hand ≡ None → Counts m 1 0 0 0 (acts served m.current (task_at m.kernel m.current).answered m).machine
  counts-acts none =
      let now : steps_taken m.in_hand ≡ 0 = rw none refl in
      let hold : held m.in_hand ≡ 0 = rw none refl in
      let take : taking m.in_hand ≡ 0 = rw none refl in
      after-acts served m.current m (Counts m 1 0 0 0)
      (record {
        finishes = λ registers memory e. record { raw = omega (arith, now, hold); frames = omega arith; list = omega arith; queue = omega arith; config = refl };
        idles = λ e. record { raw = omega (arith, now, hold); frames = omega arith; list = omega arith; queue = omega arith; config = refl };
        works = λ d u. record { raw = omega (arith, now, hold); frames = omega arith; list = omega arith; queue = omega (arith, take); config = refl };
        runs = λ i pc registers memory e. record { raw = omega (arith, now, hold); frames = omega arith; list = omega arith; queue = omega arith; config = refl };
        calls = λ i r registers memory e. record { raw = omega (arith, now, hold); frames = omega arith; list = omega arith; queue = omega (arith, take); config = refl };
        traps = λ i memory. record { raw = omega (arith, now, hold); frames = omega arith; list = omega arith; queue = omega arith; config = refl };
      })
      (task_at m.kernel m.current).answered refl

  counts-done : (r : Rule) → Applies method r m → Counts m (raw r) (one (is_take r)) (one (is_instruction r)) (one (is_entry r)) (done served method r m).machine
  counts-done Begins a = record { raw = omega arith; frames = omega arith; list = omega arith; queue = omega arith; config = refl }
  counts-done (Looks l) a = record { raw = omega arith; frames = omega arith; list = omega arith; queue = omega arith; config = refl }
  counts-done (Enters p) a =
      let d = due-is _ _ m.s m.t m.frames m.interrupts p a.due in
      let e = length-taken_at p.at m.interrupts (omega (arith, d.inside)) in
      record { raw = omega arith; frames = omega arith; list = omega (arith, e); queue = omega arith; config = refl }
  counts-done (FrameLimit f below) a =
      let all = room-top m.config.isr_limit f below m.frames a.0.frames in
      counts-left below m 0 0 refl (omega (arith, all))
  counts-done (FrameRuns f below) a = counts-runs f below a.0.frames a.1
  counts-done (MicroStep w) a = counts-advances w a.in_hand
  counts-done (TakeBegins q) a =
      let none : m.in_hand ≡ None = a.0.in_hand in
      let now : steps_taken m.in_hand ≡ 0 = rw none refl in
      let hold : held m.in_hand ≡ 0 = rw none refl in
      let take : taking m.in_hand ≡ 0 = rw none refl in
      record { raw = omega (arith, now, hold); frames = omega arith; list = omega arith; queue = omega (arith, take); config = refl }
  counts-done TaskActs a = counts-acts a.0.in_hand

  counts-next : let r = rule method m in Counts m (raw r) (one (is_take r)) (one (is_instruction r)) (one (is_entry r)) (next served method m).1
  counts-next =
      let c = counts-done (rule method m) (applies method m) in
      record { raw = c.raw; frames = c.frames; list = c.list; queue = c.queue; config = c.config }

-- A run, or the rest of one.

record Sums (m last : Machine) (takes instructions entries : ℕ) : Type 0 where
  raw : last.s + whole_step_events * m.t + held last.in_hand + steps_taken m.in_hand ≤ m.s + whole_step_events * (last.t + takes) + instructions + steps_taken last.in_hand + held m.in_hand
  frames : room m.config.isr_limit last.frames + instructions ≤ room m.config.isr_limit m.frames + entries * m.config.isr_limit
  list : length last.interrupts + entries ≤ length m.interrupts
  queue : length last.later + takes + taking m.in_hand ≤ length m.later + instructions + taking last.in_hand

abbrev SumsOf : Machine → Run → List Rule → Type 0
SumsOf m r rules = Sums m r.last (count_by is_take rules) (count_by is_instruction rules) (count_by is_entry rules)

count-cons : (test : Rule → Bool) (r : Rule) (rules : List Rule) → count_by test (r ∷ rules) ≡ one (test r) + count_by test rules
count-cons test r rules = sum_by-cons (λ x. cond (test x) 1 0) r rules

-- one event more, before the rest
sums-more : (m n last : Machine) (steps take instruction entry takes instructions entries : ℕ) → Counts m steps take instruction entry n → n.s ≡ m.s + steps → Sums n last takes instructions entries → Sums m last (take + takes) (instruction + instructions) (entry + entries)
sums-more m n last steps take instruction entry takes instructions entries c s rest =
    let frames : room m.config.isr_limit last.frames + instructions ≤ room m.config.isr_limit n.frames + entries * m.config.isr_limit = rw c.config at rest.frames in
    record {
      raw = let a = c.raw in let b = rest.raw in omega (arith, a, b, s);
      frames = let a = c.frames in omega (arith, a, frames);
      list = let a = c.list in let b = rest.list in omega (arith, a, b);
      queue = let a = c.queue in let b = rest.queue in omega (arith, a, b);
    }

sums-same : (m last : Machine) (a b c x y z : ℕ) → x ≡ a → y ≡ b → z ≡ c → Sums m last a b c → Sums m last x y z
sums-same m last a b c x y z e f g h = rw (e, f, g) h

sums-none : (m : Machine) (r : Run) (rules : List Rule) → r ≡ record { events = []; last = m } → rules ≡ [] → SumsOf m r rules
sums-none m r rules e f = rw (e, f) (record { raw = omega arith; frames = omega arith; list = omega arith; queue = omega arith })

module _ (served : Service → Bool) (method : Method) (n : ℕ) where
  abbrev rules_on : ℕ → Machine → List Rule
  rules_on more m = map (rule method) (machines_on served method n more m)

  rules_on-end : (more : ℕ) (m : Machine) → (m.t == n) ≡ true → rules_on more m ≡ []
  rules_on-end more m e = ap (map (rule method)) (machines_on-end served method n more m e)

  rules_on-more : (more : ℕ) (m : Machine) → (m.t == n) ≡ false → rules_on (suc more) m ≡ rule method m ∷ rules_on more (next served method m).1
  rules_on-more more m e = ap (map (rule method)) (machines_on-more served method n more m e)

  sums-one_more : (more : ℕ) (m : Machine) (b : Bool) → (m.t == n) ≡ b → OnItsWay served method n m → (OnItsWay served method n (next served method m).1 → SumsOf (next served method m).1 (run_on served method n more (next served method m).1) (rules_on more (next served method m).1)) → SumsOf m (run_on served method n (suc more) m) (rules_on (suc more) m)
  sums-one_more more m true e h rest = sums-none m (run_on served method n (suc more) m) (rules_on (suc more) m) (run_on-end served method n (suc more) m e) (rules_on-end (suc more) m e)
  sums-one_more more m false e h rest =
      let d = unequal m.t n e in
      let l = h.within in
      let r = rule method m in
      let later = rest (on_its_way-next served method n m h (omega (arith, d, l))) in
      let rules = rules_on more (next served method m).1 in
      let both = sums-more m (next served method m).1 (run_on served method n more (next served method m).1).last (raw r) (one (is_take r)) (one (is_instruction r)) (one (is_entry r)) (count_by is_take rules) (count_by is_instruction rules) (count_by is_entry rules) (counts-next served method m h.valid) refl later in
      let whole = sums-same m (run_on served method n more (next served method m).1).last _ _ _ (count_by is_take (r ∷ rules)) (count_by is_instruction (r ∷ rules)) (count_by is_entry (r ∷ rules)) (count-cons is_take r rules) (count-cons is_instruction r rules) (count-cons is_entry r rules) both in
      rw (run_on-more served method n more m e, rules_on-more more m e) whole

  sums-from : (more : ℕ) (m : Machine) → OnItsWay served method n m → SumsOf m (run_on served method n more m) (rules_on more m)
  sums-from zero m h = record { raw = omega arith; frames = omega arith; list = omega arith; queue = omega arith }
  sums-from (suc more) m h = sums-one_more more m (m.t == n) refl h (λ g. sums-from more (next served method m).1 g)

pub bounded-run : (served : Service → Bool) (method : Method) (image : ImageRecord) (list : ListRecord) (n : ℕ) → IsValidImage image → HasWords image → IsValidList image list → let rules = rules_of served method image list n in IsBounded (run served method image list n).last.s n (count_by is_take rules) (count_by is_instruction rules) (count_by is_entry rules) image.config.isr_limit (length list.injections)
bounded-run served method image list n h words l =
    let m = start image list in
    let sums = sums-from served method n (events_left n m) m (on_its_way-start served method image list n h words l) in
    let e = run-ends served method image list n h words l in
    let last = (run served method image list n).last in
    let none : last.in_hand ≡ None = e.in_hand in
    let taken : steps_taken last.in_hand ≡ 0 = rw none refl in
    let hold : held last.in_hand ≡ 0 = rw none refl in
    let take : taking last.in_hand ≡ 0 = rw none refl in
    let t : last.t ≡ n = e.t in
    let many : length m.interrupts ≡ length list.injections = length-map list.injections (interrupt_of image.vectors) in
    record {
      steps = let a = sums.raw in omega (arith, a, taken, hold, t);
      frames = let a = sums.frames in omega (arith, a);
      list = let a = sums.list in omega (arith, a, many);
      queue = let a = sums.queue in omega (arith, a, take);
    }
