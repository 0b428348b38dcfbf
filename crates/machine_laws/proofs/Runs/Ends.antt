-- Every run ends, with nothing half done.
use Rattle.machine_laws.proofs.Common.{◌≡◌, Bool, ℕ, refl, true, List, [], false, ◌∷◌, None, sym, arith, subst, ◌≤◌, inl, inr, ◌+◌, suc, zero, ◌<◌, ◌⊎◌, ◌==◌, ◌&&◌, length, ImageRecord, IsValidImage, HasWords, ListRecord, IsValidList, Method, Service, choice, equal, unequal, Kernel, task_at, acts, events_left, FrameRecord, none_stands, frame_runs, without_top, Machine, CallOf, TakeOf, UnitOf, Work, start, next, rule, Rule, Begins, Enters, FrameRuns, FrameLimit, Looks, MicroStep, TakeBegins, TaskActs, done, Run, run, run_on, settled, is_free, Applies}
use Rattle.machine_model.specs.Frames.{level_of}
use Rattle.machine_model.proofs.RunLaws.{run_on-end, run_on-more}
use Rattle.machine_laws.specs.Valid.{AreStacked}
use Rattle.machine_laws.specs.Ending.{HasEnded}
use Rattle.machine_laws.proofs.Rules.Chosen.{applies}
use Rattle.machine_laws.proofs.Rules.Outcomes.{after-frame, EndsIn, after-advances, after-acts}
use Rattle.machine_laws.proofs.Valid.Settling.{Valid}
use Rattle.machine_laws.proofs.Valid.Events.{valid-next, valid-start_machine}
use Rattle.machine_laws.proofs.Runs.Falling.{taken-le, events_left-next}

-- An event does no task step; or it does one, and then nothing is in hand and no frame stands.

record StepDone (m n : Machine) : Type 0 where
  t : n.t ≡ m.t + 1
  in_hand : n.in_hand ≡ None
  frames : n.frames ≡ []

abbrev Moves : Machine → Machine → Type 0
Moves m n = (n.t ≡ m.t) ⊎ StepDone m n

module _ (served : Service → Bool) (method : Method) (m : Machine) where
  moves-left : (below : List FrameRecord) → Moves m (without_top below m)
  moves-left below =
      let n : Machine = record m { frames = below } in
      choice (Moves m) (none_stands below && is_free m.in_hand) (settled n) n (inl refl) (inl refl)

  moves-runs : (f : FrameRecord) (below : List FrameRecord) → Moves m (frame_runs served method f below m).machine
  moves-runs f below =
      after-frame served method f below m (Moves m)
      (record {
        left = moves-left below;
        ran = λ g memory used level. inl refl;
        posted = λ g s args words used level post. inl refl;
      })

  moves-ends : (w : Work) (k : Kernel) → m.frames ≡ [] → EndsIn w k m (Moves m)
  moves-ends (CallOf x r p) k e = λ registers memory long. inr (record { t = refl; in_hand = refl; frames = e })
  moves-ends (UnitOf x) k e = λ registers long. inr (record { t = refl; in_hand = refl; frames = e })
  moves-ends (TakeOf q) k e = inl refl

  moves-acts : m.frames ≡ [] → m.in_hand ≡ None → Moves m (acts served m.current (task_at m.kernel m.current).answered m).machine
  moves-acts e none =
      after-acts served m.current m (Moves m)
      (record {
        finishes = λ registers memory long. inr (record { t = refl; in_hand = none; frames = e });
        idles = λ d. inr (record { t = refl; in_hand = none; frames = e });
        works = λ d u. inl refl;
        runs = λ i pc registers memory long. inr (record { t = refl; in_hand = none; frames = e });
        calls = λ i r registers memory long. inl refl;
        traps = λ i memory. inr (record { t = refl; in_hand = none; frames = e });
      })
      (task_at m.kernel m.current).answered refl

  moves-done : (r : Rule) → Applies method r m → Moves m (done served method r m).machine
  moves-done Begins a = inl refl
  moves-done (Looks l) a = inl refl
  moves-done (Enters p) a = inl refl
  moves-done (FrameLimit f below) a = moves-left below
  moves-done (FrameRuns f below) a = moves-runs f below
  moves-done (MicroStep w) a = after-advances served w m (Moves m) (λ d. inl refl) (λ d. moves-ends w.work _ a.frames)
  moves-done (TakeBegins q) a = inl refl
  moves-done TaskActs a = moves-acts a.0.frames a.0.in_hand

  moves-next : Moves m (next served method m).1
  moves-next =
      elim (moves-done (rule method m) (applies method m)) [ inl e ↦ inl e | inr h ↦ inr (record { t = h.t; in_hand = h.in_hand; frames = h.frames }) ]

-- A run ends.

module _ (served : Service → Bool) (method : Method) (n : ℕ) where
  -- what is true of the machine of a run with these task steps
  pub record OnItsWay (m : Machine) : Type 0 where
    pub valid : Valid served method m
    pub within : m.t ≤ n
    pub in_hand : m.t ≡ n → m.in_hand ≡ None
    pub frames : m.t ≡ n → m.frames ≡ []

  pub on_its_way-next : (m : Machine) → OnItsWay m → m.t < n → OnItsWay (next served method m).1
  on_its_way-next m h short = by (moves-next served method m)
    where
      by : Moves m (next served method m).1 → OnItsWay (next served method m).1
      by (inl e) =
          record {
            valid = valid-next served method m h.valid;
            within = omega (arith, e, short);
            in_hand = λ same. absurd (omega (arith, e, short, same));
            frames = λ same. absurd (omega (arith, e, short, same));
          }
      by (inr d) =
          record {
            valid = valid-next served method m h.valid;
            within = let t = d.t in omega (arith, t, short);
            in_hand = λ _. d.in_hand;
            frames = λ _. d.frames;
          }

  ended : (m : Machine) → OnItsWay m → m.t ≡ n → HasEnded served method n m
  ended m h e = record { valid = h.valid; t = e; in_hand = h.in_hand e; frames = h.frames e }

  at_end : (more : ℕ) (m : Machine) → OnItsWay m → (m.t == n) ≡ true → HasEnded served method n (run_on served method n more m).last
  at_end more m h e = subst (λ (r : Run). HasEnded served method n r.last) (sym (run_on-end served method n more m e)) (ended m h (equal m.t n e))

  not_yet : (m : Machine) → OnItsWay m → (m.t == n) ≡ false → m.t < n
  not_yet m h e = let d = unequal m.t n e in let l = h.within in omega (arith, d, l)

  no_more : (m : Machine) (b : Bool) → (m.t == n) ≡ b → OnItsWay m → events_left n m ≤ 0 → HasEnded served method n (run_on served method n zero m).last
  no_more m true e h enough = at_end zero m h e
  no_more m false e h enough =
      let short = not_yet m h e in
      let taken = taken-le served method m h.valid in
      absurd (omega (arith, short, taken, enough))

  one_more : (more : ℕ) (m : Machine) (b : Bool) → (m.t == n) ≡ b → OnItsWay m → (m.t < n → HasEnded served method n (run_on served method n more (next served method m).1).last) → HasEnded served method n (run_on served method n (suc more) m).last
  one_more more m true e h goes_on = at_end (suc more) m h e
  one_more more m false e h goes_on = subst (λ (r : Run). HasEnded served method n r.last) (sym (run_on-more served method n more m e)) (goes_on (not_yet m h e))

  pub ends-from : (more : ℕ) (m : Machine) → OnItsWay m → events_left n m ≤ more → HasEnded served method n (run_on served method n more m).last
  ends-from zero m h enough = no_more m (m.t == n) refl h enough
  ends-from (suc more) m h enough =
      one_more more m (m.t == n) refl h
      (λ short.
      let fewer = events_left-next served method n m h.valid short in
      ends-from more (next served method m).1 (on_its_way-next m h short) (omega (arith, fewer, enough)))

-- the start of a run is on its way
pub on_its_way-start : (served : Service → Bool) (method : Method) (image : ImageRecord) (list : ListRecord) (n : ℕ) → IsValidImage image → HasWords image → IsValidList image list → OnItsWay served method n (start image list)
on_its_way-start served method image list n h words l = record { valid = valid-start_machine served method image list h words l; within = omega arith; in_hand = λ _. refl; frames = λ _. refl }

pub run-ends : (served : Service → Bool) (method : Method) (image : ImageRecord) (list : ListRecord) (n : ℕ) → IsValidImage image → HasWords image → IsValidList image list → HasEnded served method n (run served method image list n).last
run-ends served method image list n h words l =
    let m = start image list in
    ends-from served method n (events_left n m) m (on_its_way-start served method image list n h words l) (omega arith)

-- Frames.

levels-bound : (limit : ℕ) (frames : List FrameRecord) → AreStacked limit frames → length frames ≤ level_of frames
levels-bound limit [] h = omega arith
levels-bound limit (f ∷ below) h =
    let rest = levels-bound limit below h.3 in
    let above = h.1 in
    omega (arith, rest, above)

level-bound : (limit : ℕ) (frames : List FrameRecord) → AreStacked limit frames → level_of frames ≤ 7
level-bound limit [] h = omega arith
level-bound limit (f ∷ below) h = h.2

pub few-frames : (served : Service → Bool) (method : Method) (m : Machine) → Valid served method m → length m.frames ≤ 7
few-frames served method m v =
    let a = levels-bound m.config.isr_limit m.frames v.frames in
    let b = level-bound m.config.isr_limit m.frames v.frames in
    omega (arith, a, b)
