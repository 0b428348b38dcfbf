-- The plan of a turn of round robin: the first task of a ready list goes to its tail.
use Rattle.std.proofs.Common.{◌≡◌, ◌≢◌, ℕ, ◌<◌, ◌≤◌, ◌+◌, List, [], ◌∷◌, inl, inr, length, refl, sym, ap, ◌∙◌, subst, Bool, true, false, ◌&&◌, Option, Some, None, arith}
use Rattle.std.specs.Prelude.{◌==◌, ◌-◌, ◌⊎◌, not, if◌then◌else◌, nat_le, nat_lt}
use Rattle.std.proofs.lemmas.List.{get_or_past}
use Rattle.std.proofs.lemmas.Bool.{false≢true, true≢false}
use Rattle.std.proofs.lemmas.Bool.Decides.{eqb_tells, leb_tells}
use Rattle.kern_base.specs.declared.numbers.Prio.{Prio}
use Rattle.kern_base.specs.declared.numbers.TaskId.{TaskId}
use Rattle.kern_model.specs.State.{Kernel, Task, count_of, is_ready, is_zero, list_at, prio_of, task_at, update_task, waits_for_nothing}
use Rattle.kern_model.specs.Micro.{Lists, at_tail}
use Rattle.kern_model.specs.Effect.{Effect}
use Rattle.kern_model.specs.RoundRobin.{first_in, full_quantum, rotates}
use Rattle.kern_model.specs.Valid.{IsAboveIdle, IsLinked}
use Rattle.kern_model.proofs.Lemmas.{alive-declared, and_first, and_second, choice, in_ready, inside-ready, self_equal}
use Rattle.micro_steps.specs.Blocks.{no_prio, prio_in}
use Rattle.micro_steps.specs.declared.link.Link.{Link}
use Rattle.micro_steps.specs.declared.link.Link.TheVariants as link
use Rattle.micro_steps.specs.Whole.{AreFit}
use Rattle.link_plans.specs.Fits.{AreKernels, IsNoded}
use Rattle.link_plans.proofs.Fits.Waits.{no_wait}
use Rattle.link_plans.proofs.Renewals.Moves.{move_holds}
use Rattle.round_robin.specs.Turns.{first_task, front, is_idle, quantum_of, second_task, spent, turn_at, turn_in, turned}
use Rattle.round_robin.specs.declared.turns.Turn.{Turn}
use Rattle.round_robin.specs.declared.turns.Turn.TheVariants.{Stays, Spends, Rotates}
use Rattle.kernel_records.specs.Ticks.{IsInside}
use Rattle.kernel_calls.specs.Ticking.{rotation_links}
use Rattle.kernel_calls.specs.Stepping.{HasPrios}
use Rattle.kernel_calls.proofs.LinkFacts.{AreLinksOf}
use Rattle.kernel_calls.proofs.SignalCase.{no-links}
use Rattle.kernel_calls.proofs.StopFacts.{noded-task, prios-task}

-- a ready task that is not the idle one has a priority above it
above-idle : (k : Kernel) → IsLinked k → (x : ℕ) → is_ready (task_at k x) ≡ true → x < 62 → IsAboveIdle k.settings.tasks x
above-idle k v x ready low =
    elim (leb_tells 60 x) [
      | inr d ↦ inl (alive-declared k v x d.1 (and_first (task_at k x).alive _ ready))
      | inl d ↦ elim (eqb_tells x 60) [
        | inl e ↦ inr (inl e.1)
        | inr e ↦ inr (inr (let other = e.1 in omega (arith, d.1, low, other)))
      ]
    ]

module _ (k : Kernel) (l : Lists) (prios : List Prio) (v : IsLinked k) (a : AreKernels k l) (p : HasPrios k prios) where
  in-table : (x : ℕ) → prio_of k x ≤ 62 → x < length prios
  in-table x above =
      elim (leb_tells (length prios) x) [
        | inl d ↦
            let idle : prio_of k x ≡ 63 = sym (p x) ∙ ap (λ (q : Prio). q.0) (get_or_past prios x no_prio d.1) in
            absurd (omega arith)
        | inr d ↦ d.1
      ]

  -- it leaves its list and joins it again
  rotation-fits : (x : ℕ) → is_ready (task_at k x) ≡ true → x < 62 → AreFit (length k.objects) prios (link.Unready (record { 0 = x }) (record { 0 = prio_of k x }) ∷ link.Ready (record { 0 = x }) (record { 0 = prio_of k x }) true ∷ []) l
  rotation-fits x ready low =
      let t = task_at k x in
      let above : prio_of k x ≤ 62 = v.tasks.above_idle x (above-idle k v x ready low) in
      (move_holds true x t.prio k l prios v a (λ o y some. p y) low above (in-table x above) true true [] ready
      (no_wait t.alive (waits_for_nothing t.waiting) (is_zero t.suspended) ready) (λ e. absurd (true≢false e))).fits

  -- what a rotation changes of tasks are quanta
  pub rotation-links : (j : Kernel) (x q : ℕ) → is_ready (task_at k x) ≡ true → x < 62 → prio_of k x ≡ q → IsNoded j.tasks l.pend → HasPrios j prios → AreLinksOf (rotates x q j) (length k.objects) prios (link.Unready (record { 0 = x }) (record { 0 = q }) ∷ link.Ready (record { 0 = x }) (record { 0 = q }) true ∷ []) l
  rotation-links j x q ready low is noded has =
      let head = first_in (list_at (rotates x q j).kernel.ready q) in
      record {
        fits = subst (λ r. AreFit (length k.objects) prios (link.Unready (record { 0 = x }) (record { 0 = r }) ∷ link.Ready (record { 0 = x }) (record { 0 = r }) true ∷ []) l) is (rotation-fits x ready low);
        blocks = refl;
        noded = noded-task full_quantum (λ u. refl) j.tasks head l.pend noded;
        listed = prios-task full_quantum (λ u. refl) j (rotates x q j).kernel head prios refl has;
      }

  -- a task spends from its quantum
  abbrev spends : Task → Task
  spends t = record t { quantum = t.quantum - 1 }

  spent-links : (y : ℕ) → IsNoded (spent y k).tasks l.pend × HasPrios (spent y k) prios
  spent-links y = (noded-task spends (λ u. refl) k.tasks y l.pend a.noded, prios-task spends (λ u. refl) k (spent y k) y prios refl p)

-- a turn that rotates is that of the first task, which is not the idle one
rotates-by : (b : Bool) (first second : Option TaskId) (quantum : ℕ) (y z : TaskId) → Rotates y z ≡ (if b then turn_at first second quantum else Stays) → (b ≡ true) × (first ≡ Some y)
rotates-by false first second quantum y z e = absurd cc
rotates-by true None second quantum y z e = absurd cc
rotates-by true (Some c) None quantum y z e = absurd cc
rotates-by true (Some c) (Some d) quantum y z e = (refl, by (nat_le quantum 1) e)
  where
    by : (b : Bool) → Rotates y z ≡ (if b then Rotates c d else Spends c) → Some c ≡ Some y
    by true h = cc
    by false h = absurd cc

first-inside : (xs : List ℕ) (y : TaskId) → first_task xs ≡ Some y → 0 < count_of y.0 xs
first-inside [] y e = absurd cc
first-inside (x ∷ xs) y e =
    let same : record { 0 = x } ≡ y = cc in
    let number : x ≡ y.0 = ap (λ (t : TaskId). t.0) same in
    let here : (x == y.0) ≡ true = ap (λ n. x == n) (sym number) ∙ self_equal x in
    rw here (omega arith)

second-inside : (xs : List ℕ) (y : TaskId) → second_task xs ≡ Some y → 0 < count_of y.0 xs
second-inside [] y e = absurd cc
second-inside (x ∷ xs) y e = let some = first-inside xs y e in omega (arith, some)

-- the tasks of a turn are tasks
turn-at-inside : (xs : List ℕ) (quantum : ℕ) → ((x : ℕ) → 0 < count_of x xs → x < 64) → IsInside (turn_at (first_task xs) (second_task xs) quantum)
turn-at-inside [] quantum low = tt
turn-at-inside (x ∷ []) quantum low = low x (first-inside (x ∷ []) (record { 0 = x }) refl)
turn-at-inside (x ∷ y ∷ xs) quantum low =
    let first = low x (first-inside (x ∷ y ∷ xs) (record { 0 = x }) refl) in
    choice IsInside (nat_le quantum 1) (Rotates (record { 0 = x }) (record { 0 = y })) (Spends (record { 0 = x })) (first, low y (second-inside (x ∷ y ∷ xs) (record { 0 = y }) refl)) first

pub turn-inside : (xs : List ℕ) (k : Kernel) → ((x : ℕ) → 0 < count_of x xs → x < 64) → IsInside (turn_in (front xs) k)
turn-inside xs k low =
    choice IsInside (k.settings.round_robin && (not (not (k.lock == 0)) && not (is_idle (first_task xs)))) (turn_at (first_task xs) (second_task xs) (quantum_of (first_task xs) k)) Stays
    (turn-at-inside xs (quantum_of (first_task xs) k) low) tt

module _ (k : Kernel) (l : Lists) (prios : List Prio) (v : IsLinked k) (a : AreKernels k l) (p : HasPrios k prios) (q : ℕ) where
  pub turn-links : (turn : Turn) → turn ≡ turn_in (front (list_at k.ready q)) k → AreLinksOf (turned turn q k) (length k.objects) prios (rotation_links q turn) l
  turn-links Stays e = no-links k l prios v a p (turned Stays q k) refl refl
  turn-links (Spends y) e =
      let all = spent-links k l prios v a p y.0 in
      record { fits = tt; blocks = refl; noded = all.0; listed = all.1 }
  turn-links (Rotates y z) e =
      let xs = list_at k.ready q in
      let free = not (not (k.lock == 0)) && not (is_idle (first_task xs)) in
      let from = rotates-by (k.settings.round_robin && free) (first_task xs) (second_task xs) (quantum_of (first_task xs) k) y z e in
      let stands : 0 < count_of y.0 xs = first-inside xs y from.1 in
      let ready = in_ready k v q y.0 stands in
      let idle : not (is_idle (first_task xs)) ≡ true = and_second (not (not (k.lock == 0))) (not (is_idle (first_task xs))) (and_second k.settings.round_robin free from.0) in
      let other : not (y.0 == 62) ≡ true = subst (λ f. not (is_idle f) ≡ true) from.1 idle in
      let low : y.0 < 62 =
      elim (leb_tells 63 y.0) [
        | inl d ↦ let none = inside-ready k v q y.0 d.1 in absurd (omega (arith, none, stands))
        | inr d ↦ elim (eqb_tells y.0 62) [
          | inl s ↦ absurd (false≢true (sym (ap not s.0) ∙ other))
          | inr s ↦ let no = s.1 in omega (arith, d.1, no)
        ]
      ] in
      let all = spent-links k l prios v a p y.0 in
      rotation-links k l prios v a p (spent y.0 k) y.0 q ready.0 low ready.1 all.0 all.1
