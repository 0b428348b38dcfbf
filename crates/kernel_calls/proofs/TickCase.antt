-- The plan of OSTimeTick: a signal for the tick task, a turn of round robin, and a signal for the timer task, one after the other.
use Rattle.std.proofs.Common.{◌≡◌, ◌≢◌, ℕ, ◌<◌, ◌≤◌, inl, inr, ne_eqb, List, [], ◌∷◌, ◌++◌, append_assoc, length, refl, sym, ap, ◌∙◌, subst, Bool, true, false, Option, Some, None, arith}
use Rattle.std.specs.Prelude.{◌+◌, ◌-◌, insert, if◌then◌else◌, ◌==◌, nat_lt, not}
use Rattle.kern_base.specs.declared.numbers.Prio.{Prio}
use Rattle.kern_base.specs.declared.numbers.TaskId.{TaskId}
use Rattle.kern_base.specs.declared.outcomes.Waiting.{Waiting}
use Rattle.kern_base.specs.declared.outcomes.Waiting.TheVariants.{No, Delay, Obj, TaskSem, TaskQ, Multi, Signal}
use Rattle.kern_model.specs.State.{Kernel, Settings, Task, list_at, no_task, prio_of, task_at, update_list, update_task}
use Rattle.kern_model.specs.Micro.{Lists, join_place}
use Rattle.kern_model.specs.Effect.{Effect, and_then}
use Rattle.kern_model.specs.RoundRobin.{first_in, full_quantum, rotates, round_robin}
use Rattle.kern_model.specs.Time.{signalled, signals_tick, signals_timer, time_tick}
use Rattle.kern_model.specs.Valid.{IsLinked}
use Rattle.kern_model.proofs.Lemmas.{inside-ready, leads-and_then, leads-round_robin, leads-signals_tick, linked-round_robin, linked-tick_signalled, list-inside, list-other, task-other, update_task_same}
use Rattle.micro_steps.specs.declared.link.Link.{Link}
use Rattle.micro_steps.specs.Whole.{lists_after}
use Rattle.link_plans.specs.Fits.{AreKernels}
use Rattle.round_robin.specs.Turns.{front, quantum_of, spent, turn_in, turn_of, turned}
use Rattle.round_robin.proofs.TurnFacts.{is-turn}
use Rattle.round_robin.specs.declared.turns.Front.{Front}
use Rattle.round_robin.specs.declared.turns.Turn.{Turn}
use Rattle.round_robin.specs.declared.turns.Turn.TheVariants.{Stays, Spends, Rotates}
use Rattle.std.proofs.lemmas.Bool.Decides.{eqb_tells, leb_tells}
use Rattle.kernel_records.specs.Ticks.{IsInside, signals_next}
use Rattle.kernel_calls.specs.Ticking.{interrupted_list, rotation_links, signal_links, signal_links_of, tick_links, tick_turn, with_signalled}
use Rattle.kernel_calls.specs.Stepping.{HasPrios, prios_over}
use Rattle.kernel_records.specs.RecordsRecord.{with_lists}
use Rattle.kernel_calls.proofs.Following.{compose, lists-kernel}
use Rattle.kernel_calls.proofs.LinkFacts.{AreLinksOf}
use Rattle.kernel_calls.proofs.RotationCase.{turn-inside, turn-links}
use Rattle.kernel_calls.proofs.SignalCase.{tick-signal, timer-signal}

-- What a signal and a turn keep: of each task its quantum, and its priority and what it waits for.

record Keeps (k j : Kernel) : Type 0 where
  quantum : (y : ℕ) → (task_at j y).quantum ≡ (task_at k y).quantum
  objects : length j.objects ≡ length k.objects
  lock : j.lock ≡ k.lock
  settings : j.settings ≡ k.settings
  calls : j.tick_calls ≡ k.tick_calls
  timer : (task_at j 61).waiting ≡ (task_at k 61).waiting
  prio : prio_of j 61 ≡ prio_of k 61

signal-keeps : (w : Waiting) (h : ℕ) (k : Kernel) → Keeps k (signalled w 60 h (record k { tick_signals = k.tick_signals + 1 })).kernel
signal-keeps Signal h k =
    let f : Task → Task = λ t. record t { waiting = No } in
    record {
      quantum = λ y. update_task_same (λ t. t.quantum) f (λ t. refl) k.tasks 60 y;
      objects = refl;
      lock = refl;
      settings = refl;
      calls = refl;
      timer = ap (λ (t : Task). t.waiting) (task-other k.tasks 60 f 61 (λ e. absurd (omega (arith, e))));
      prio = update_task_same (λ t. t.prio) f (λ t. refl) k.tasks 60 61;
    }
signal-keeps _ h k = record { quantum = λ y. refl; objects = refl; lock = refl; settings = refl; calls = refl; timer = refl; prio = refl }

-- so the turn is the same before the signal
same-turn : (f : Front) (k j : Kernel) → Keeps k j → turn_in f j ≡ turn_in f k
same-turn f k j s =
    ap (λ n. turn_of f n (not (j.lock == 0)) j.settings.round_robin) (quanta f.first)
    ∙ ap (λ n. turn_of f (quantum_of f.first k) (not (n == 0)) j.settings.round_robin) s.lock
    ∙ ap (λ (n : Settings). turn_of f (quantum_of f.first k) (not (k.lock == 0)) n.round_robin) s.settings
  where
    quanta : (first : Option TaskId) → quantum_of first j ≡ quantum_of first k
    quanta None = refl
    quanta (Some y) = s.quantum y.0

pub same-tick_turn : (i h : ℕ) (k : Kernel) → turn_in (front (list_at (signals_tick h k).kernel.ready i)) (signals_tick h k).kernel ≡ tick_turn i h k
same-tick_turn i h k = same-turn (front (list_at (signals_tick h k).kernel.ready i)) k (signals_tick h k).kernel (signal-keeps (task_at k 60).waiting h k)

-- nor does it depend on other lists
pub turn-lists : (f : Front) (k : Kernel) (m : Lists) → turn_in f k ≡ turn_in f (with_lists k m)
turn-lists f k m = ap (λ n. turn_of f n (not (k.lock == 0)) k.settings.round_robin) (quanta f.first)
  where
    quanta : (first : Option TaskId) → quantum_of first k ≡ quantum_of first (with_lists k m)
    quanta None = refl
    quanta (Some y) = refl

-- a turn changes quanta alone
record KeepsMost (k j : Kernel) : Type 0 where
  objects : length j.objects ≡ length k.objects
  settings : j.settings ≡ k.settings
  calls : j.tick_calls ≡ k.tick_calls
  timer : (task_at j 61).waiting ≡ (task_at k 61).waiting
  prio : prio_of j 61 ≡ prio_of k 61

turn-keeps : (turn : Turn) (q : ℕ) (k : Kernel) → KeepsMost k (turned turn q k).kernel
turn-keeps Stays q k = record { objects = refl; settings = refl; calls = refl; timer = refl; prio = refl }
turn-keeps (Spends y) q k =
    let f : Task → Task = λ t. record t { quantum = t.quantum - 1 } in
    record { objects = refl; settings = refl; calls = refl; timer = update_task_same (λ t. t.waiting) f (λ t. refl) k.tasks y.0 61; prio = update_task_same (λ t. t.prio) f (λ t. refl) k.tasks y.0 61 }
turn-keeps (Rotates y z) q k =
    let f : Task → Task = λ t. record t { quantum = t.quantum - 1 } in
    let ts = update_task k.tasks y.0 f in
    let x = first_in (list_at (rotates y.0 q (spent y.0 k)).kernel.ready q) in
    record {
      objects = refl;
      settings = refl;
      calls = refl;
      timer = update_task_same (λ t. t.waiting) full_quantum (λ t. refl) ts x 61 ∙ update_task_same (λ t. t.waiting) f (λ t. refl) k.tasks y.0 61;
      prio = update_task_same (λ t. t.prio) full_quantum (λ t. refl) ts x 61 ∙ update_task_same (λ t. t.prio) f (λ t. refl) k.tasks y.0 61;
    }

module _ (i h : ℕ) (k : Kernel) (l : Lists) (prios : List Prio) (v : IsLinked k) (a : AreKernels k l) (p : HasPrios k prios) where
  abbrev first : Effect
  first = signals_tick h k

  abbrev first_links : List Link
  first_links = signal_links 60 h (task_at k 60)

  abbrev l1 : Lists
  l1 = lists_after prios first_links l

  abbrev prios1 : List Prio
  prios1 = prios_over first_links prios

  keeps : Keeps k first.kernel
  keeps = signal-keeps (task_at k 60).waiting h k

  one : AreLinksOf first (length k.objects) prios first_links l
  one = tick-signal k l prios v a p h

  v1 : IsLinked first.kernel
  v1 = linked-tick_signalled (task_at k 60).waiting h k refl v

  a1 : AreKernels first.kernel l1
  a1 = lists-kernel (length k.objects) prios first_links l first one k refl v a (leads-signals_tick h k) keeps.objects

  module _ (turn : Turn) (is : turn ≡ tick_turn i h k) where
    abbrev second : Effect
    second = round_robin i first.kernel

    turns : second ≡ turned turn i first.kernel
    turns = is-turn i first.kernel ∙ ap (λ t. turned t i first.kernel) (same-tick_turn i h k ∙ sym is)

    most : KeepsMost first.kernel second.kernel
    most = subst (λ (e : Effect). KeepsMost first.kernel e.kernel) (sym turns) (turn-keeps turn i first.kernel)

    two : AreLinksOf second (length k.objects) prios1 (rotation_links i turn) l1
    two =
        subst (λ e. AreLinksOf e (length k.objects) prios1 (rotation_links i turn) l1) (sym turns)
        (subst (λ n. AreLinksOf (turned turn i first.kernel) n prios1 (rotation_links i turn) l1) keeps.objects
        (turn-links first.kernel l1 prios1 v1 a1 one.listed i turn (is ∙ sym (same-tick_turn i h k))))

    abbrev both : List Link
    both = first_links ++ rotation_links i turn

    abbrev middle : Effect
    middle = and_then first (round_robin i)

    with_turn : AreLinksOf middle (length k.objects) prios both l
    with_turn = compose (length k.objects) prios first_links l first one (rotation_links i turn) second second.outcome two

    v2 : IsLinked second.kernel
    v2 = linked-round_robin i first.kernel v1

    a2 : AreKernels second.kernel (lists_after prios both l)
    a2 = lists-kernel (length k.objects) prios both l middle with_turn k refl v a (leads-and_then k first (round_robin i) (leads-signals_tick h k) (leads-round_robin i first.kernel)) (most.objects ∙ keeps.objects)

    -- the timer task is signalled as the first kernel says
    timer-same : (if signals_next second.kernel then signal_links 61 h (task_at second.kernel 61) else []) ≡ (if signals_next k then signal_links 61 h (task_at k 61) else [])
    timer-same =
        let calls = most.calls ∙ keeps.calls in
        let settings = most.settings ∙ keeps.settings in
        let w = most.timer ∙ keeps.timer in
        let prio = most.prio ∙ keeps.prio in
        ap (λ b. if b then signal_links 61 h (task_at second.kernel 61) else [])
        (ap (λ c. not (nat_lt (c + 1) second.kernel.settings.tmr_div)) calls ∙ ap (λ (s : Settings). not (nat_lt (k.tick_calls + 1) s.tmr_div)) settings)
        ∙ ap (λ ks. if signals_next k then ks else [])
        (ap (λ u. signal_links_of u 61 (prio_of second.kernel 61) h) w ∙ ap (λ q. signal_links_of (task_at k 61).waiting 61 q h) prio)

    three : AreLinksOf (signals_timer h second.kernel) (length k.objects) (prios_over both prios) (if signals_next k then signal_links 61 h (task_at k 61) else []) (lists_after prios both l)
    three =
        subst (λ ks. AreLinksOf (signals_timer h second.kernel) (length k.objects) (prios_over both prios) ks (lists_after prios both l)) timer-same
        (subst (λ n. AreLinksOf (signals_timer h second.kernel) n (prios_over both prios) (if signals_next second.kernel then signal_links 61 h (task_at second.kernel 61) else []) (lists_after prios both l)) (most.objects ∙ keeps.objects)
        (timer-signal second.kernel (lists_after prios both l) (prios_over both prios) v2 a2 with_turn.listed h))

    pub tick-links : AreLinksOf (time_tick i h k) (length k.objects) prios (tick_links i h turn k) l
    tick-links =
        let last = if signals_next k then signal_links 61 h (task_at k 61) else [] in
        subst (λ ks. AreLinksOf (time_tick i h k) (length k.objects) prios ks l) (append_assoc first_links (rotation_links i turn) last)
        (compose (length k.objects) prios both l middle with_turn last (signals_timer h second.kernel) (signals_timer h second.kernel).outcome three)

-- The list of the interrupted priority once the tick task has its signal.

signalled-list : (w : Waiting) (i h : ℕ) (k : Kernel) → i < length k.ready → list_at (signalled w 60 h (record k { tick_signals = k.tick_signals + 1 })).kernel.ready i ≡ with_signalled w (prio_of k 60 == i) (prio_of k 60 == h) (list_at k.ready i)
signalled-list Signal i h k inside =
    let p = prio_of k 60 in
    let f : List ℕ → List ℕ = λ xs. insert xs (join_place p h xs) 60 in
    elim (eqb_tells p i) [
      | inl e ↦
          ap (λ n. list_at (update_list k.ready p f) n) (sym e.1)
          ∙ list-inside f k.ready p (subst (λ n. n < length k.ready) (sym e.1) inside)
          ∙ ap (λ n. f (list_at k.ready n)) e.1
          ∙ ap (λ b. with_signalled Signal b (p == h) (list_at k.ready i)) (sym e.0)
      | inr e ↦ list-other f k.ready p i e.1 ∙ ap (λ b. with_signalled Signal b (p == h) (list_at k.ready i)) (sym e.0)
    ]
signalled-list _ i h k inside = refl

past-list : (w : Waiting) (i h : ℕ) (k : Kernel) → IsLinked k → 64 ≤ i → list_at (signalled w 60 h (record k { tick_signals = k.tick_signals + 1 })).kernel.ready i ≡ with_signalled w (prio_of k 60 == i) (prio_of k 60 == h) (list_at k.ready i)
past-list Signal i h k v far =
    let p = prio_of k 60 in
    let f : List ℕ → List ℕ = λ xs. insert xs (join_place p h xs) 60 in
    let low = (v.tasks.each_task 60).prio_to in
    let apart : p ≢ i = λ e. absurd (omega (arith, e, low, far)) in
    list-other f k.ready p i apart ∙ ap (λ b. with_signalled Signal b (p == h) (list_at k.ready i)) (sym (ne_eqb p i apart))
past-list _ i h k v far = refl

pub listed-tick : (i h : ℕ) (k : Kernel) → IsLinked k → interrupted_list (task_at k 60) i h (list_at k.ready i) ≡ list_at (signals_tick h k).kernel.ready i
listed-tick i h k v =
    elim (leb_tells 64 i) [
      | inr d ↦ sym (signalled-list (task_at k 60).waiting i h k (omega (arith, d.1, v.sizes.ready)))
      | inl d ↦ sym (past-list (task_at k 60).waiting i h k v d.1)
    ]

-- the tasks of the turn are tasks
pub tick-inside : (i h : ℕ) (k : Kernel) → IsLinked k → (turn : Turn) → turn ≡ tick_turn i h k → IsInside turn
tick-inside i h k v turn is =
    let j = (signals_tick h k).kernel in
    let valid : IsLinked j = linked-tick_signalled (task_at k 60).waiting h k refl v in
    subst IsInside (sym is)
    (turn-inside (list_at j.ready i) k (λ x some. elim (leb_tells 63 x) [
      | inl d ↦ let none = inside-ready j valid i x d.1 in absurd (omega (arith, none, some))
      | inr d ↦ omega (arith, d.1)
    ]))
