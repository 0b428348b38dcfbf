-- The plan of a unit of the tick task or the timer task.
use Rattle.std.proofs.Common.{◌≡◌, ◌≢◌, ℕ, ◌<◌, ◌≤◌, ◌+◌, List, [], ◌∷◌, ◌++◌, append-nil, get_or, inl, inr, length, refl, sym, ap, ◌∙◌, subst, Bool, true, false, Option, Some, None, arith}
use Rattle.std.specs.Prelude.{◌⊎◌, ◌%◌, ◌^◌, ◌-◌, ◌==◌, All, if◌then◌else◌}
use Rattle.std.proofs.lemmas.List.Elements.{All-cons, All-nil}
use Rattle.kern_base.specs.declared.numbers.Prio.{Prio}
use Rattle.kern_base.specs.declared.outcomes.Finished.{Finished}
use Rattle.kern_base.specs.declared.outcomes.Outcome.{Outcome}
use Rattle.kern_base.specs.declared.outcomes.Outcome.TheVariants.{Quiet}
use Rattle.kern_base.specs.declared.outcomes.UnitEnd.TheVariants.{Tick, TmrEnd}
use Rattle.kern_base.specs.declared.outcomes.Waiting.TheVariants.{Signal}
use Rattle.kern_model.specs.State.{Kernel, Task, Content, Timed, is_ready, object_at, prio_of, task_at, update_list, update_task, without}
use Rattle.kern_model.specs.Micro.{Lists, at_tail, unready}
use Rattle.kern_model.specs.Effect.{Effect, answered_task, fine, wake_blocks, wakes, wakes_all, wakes_blocks, woken}
use Rattle.kern_model.specs.Inherit.{moved_all, moves_blocks, moves_of, renew_blocks, renewed, renewed_tasks}
use Rattle.kern_model.specs.Services.{unit_effect}
use Rattle.kern_model.specs.Time.{due, tick_unit, ticked, timed_out, waits_for_signal}
use Rattle.kern_model.specs.Timers.{due_timer, fired, timer_ends, timer_fires, timer_goes_on, timer_counts, timer_unit}
use Rattle.kern_model.specs.Valid.{AllWait, IsLinked}
use Rattle.kern_model.proofs.Lemmas.{AllWait-due, AllWait-wakes, Leads, choice, leads-woken, linked-tick_wakes, renew_blocks-signals, renewed-signals, signals, task-other, tick_wakes, wakes_all-signals}
use Rattle.micro_steps.specs.declared.link.Link.{Link}
use Rattle.micro_steps.specs.declared.link.Link.TheVariants as link
use Rattle.micro_steps.specs.Whole.{AreFit, lists_after, task_blocks}
use Rattle.link_plans.specs.Fits.{AreKernels, IsNoded}
use Rattle.link_plans.specs.Plans.{last_links, wakes_links}
use Rattle.link_plans.proofs.Lemmas.{block_fits, wakes_keep}
use Rattle.kernel_records.specs.Served.{IsServed}
use Rattle.kernel_records.specs.Ticks.{plain_ticked}
use Rattle.kernel_records.specs.TimerUnits.{rests_after, timer_rests}
use Rattle.kernel_calls.specs.Ticking.{unit_last, unit_rests, unit_woken}
use Rattle.kernel_calls.specs.Works.{MayRunUnit}
use Rattle.kernel_calls.specs.Stepping.{HasPrios, prios_over}
use Rattle.kernel_records.specs.RecordsRecord.{with_lists}
use Rattle.kernel_calls.proofs.Following.{compose, lists-kernel}
use Rattle.kernel_calls.proofs.LinkFacts.{AreLinksOf}
use Rattle.kernel_calls.proofs.RenewalFacts.{no-moves}
use Rattle.kernel_calls.proofs.ServedFacts.{bare-timed_out, served-wakes_by}
use Rattle.kernel_calls.proofs.SignalCase.{no-links}
use Rattle.kernel_calls.proofs.StopFacts.{noded-task, prios-task}
use Rattle.kernel_calls.proofs.WakeCase.{objects-all, prios-all, wake-blocks, wake-fits, wake-prios}

-- the result of a wait that ends at its tick
abbrev ends : Task → Finished
ends t = timed_out t.waiting t

abbrev next_tick : Kernel → ℕ
next_tick k = (k.ticks + 1) % 2 ^ 32

abbrev those : Kernel → List ℕ
those k = due (next_tick k) k.matches

-- the kernel at the tick, before its wakes
abbrev at_tick : Kernel → Kernel
at_tick k = record k { ticks = next_tick k }

abbrev pub h : Kernel → ℕ
h k = prio_of k 60

served-tick_wakes : (k : Kernel) → IsLinked k → IsServed k → IsServed (tick_wakes k)
served-tick_wakes k v s =
    let wait = AllWait-due k v (next_tick k) in
    served-wakes_by ends (h k) (those k) (at_tick k) (λ t. bare-timed_out t.waiting t) (wait-same k (those k) wait) (record { waits = s.waits; reads = s.reads; bases = s.bases })
  where
    wait-same : (j : Kernel) (xs : List ℕ) → AllWait j xs → AllWait (at_tick j) xs
    wait-same j [] w = tt
    wait-same j (x ∷ xs) w = (w.0, w.1, w.2, wait-same j xs w.3)

plain-kernel : (k : Kernel) → (plain_ticked k).kernel ≡ signals (tick_wakes k) (k.tick_signals - 1)
plain-kernel k = wakes_all-signals ends (h k) (those k) (at_tick k) (k.tick_signals - 1)

-- so is the kernel after a tick, but for its signals
pub served-tick : (k : Kernel) → IsLinked k → IsServed k → IsServed (plain_ticked k).kernel
served-tick k v s =
    let all = served-tick_wakes k v s in
    subst IsServed (sym (plain-kernel k)) (record { waits = all.waits; reads = all.reads; bases = all.bases })

-- A renewal after a tick changes nothing.

none-renewed : (k : Kernel) → IsLinked k → IsServed k → moves_of renewed_tasks (tick_wakes k) ≡ []
none-renewed k v s = no-moves (tick_wakes k) (linked-tick_wakes k v) (served-tick_wakes k v s)

pub ticked-plain : (k : Kernel) → IsLinked k → IsServed k → ticked k ≡ plain_ticked k
ticked-plain k v s =
    let none = none-renewed k v s in
    let n = k.tick_signals - 1 in
    let plain = plain_ticked k in
    let kernel : renewed at_tail plain.kernel ≡ plain.kernel =
    ap (renewed at_tail) (plain-kernel k) ∙ renewed-signals at_tail (tick_wakes k) n
    ∙ ap (λ ms. signals (moved_all at_tail ms (tick_wakes k)) n) none ∙ sym (plain-kernel k) in
    let blocks : renew_blocks at_tail plain.kernel ≡ [] =
    ap (renew_blocks at_tail) (plain-kernel k) ∙ renew_blocks-signals at_tail (tick_wakes k) n
    ∙ ap (λ ms. moves_blocks at_tail ms (tick_wakes k)) none in
    ap (λ (j : Kernel). let e : Effect = record { kernel = j; outcome = plain.outcome; blocks = plain.blocks ++ renew_blocks at_tail plain.kernel } in e) kernel
    ∙ ap (λ bs. let e : Effect = record { kernel = plain.kernel; outcome = plain.outcome; blocks = plain.blocks ++ bs } in e) blocks
    ∙ ap (λ bs. let e : Effect = record { kernel = plain.kernel; outcome = plain.outcome; blocks = bs } in e) (append-nil plain.blocks)

-- counters do not matter to the blocks of wakes
blocks-counted : (c : ℕ) (xs : List ℕ) (k : Kernel) (a b : ℕ) → wakes_blocks (record k { ticks = a; tick_signals = b }) c xs ≡ wakes_blocks k c xs
blocks-counted c [] k a b = refl
blocks-counted c (x ∷ xs) k a b = ap (λ bs. wake_blocks k c x ++ bs) (blocks-counted c xs k a b)

-- tasks above the application's stay as they are
abbrev Below : List ℕ → Type 0
Below [] = Unit {0}
Below (x ∷ xs) = (x < 60) × Below xs

below-waiting : (k : Kernel) (xs : List ℕ) → AllWait k xs → Below xs
below-waiting k [] w = tt
below-waiting k (x ∷ xs) w = (w.0, below-waiting k xs w.3)

apart-wakes : (f : Task → Finished) (c : ℕ) (xs : List ℕ) (k : Kernel) (y : ℕ) → Below xs → 60 ≤ y → task_at (wakes_all f c xs k) y ≡ task_at k y
apart-wakes f c [] k y b far = refl
apart-wakes f c (x ∷ xs) k y b far =
    let i = wakes (f (task_at k x)) c x k in
    apart-wakes f c xs i y b.1 far ∙ task-other k.tasks x (answered_task (f (task_at k x))) y (λ e. let low = b.0 in absurd (omega (arith, e, low, far)))

module _ (k : Kernel) (l : Lists) (prios : List Prio) (v : IsLinked k) (a : AreKernels k l) (p : HasPrios k prios) (s : IsServed k) where
  abbrev xs : List ℕ
  xs = those k

  abbrev n : ℕ
  n = length k.objects

  abbrev ks : List Link
  ks = wakes_links k.tasks (h k) xs

  wait : AllWait k xs
  wait = AllWait-due k v (next_tick k)

  abbrev counting : Kernel
  counting = record k { ticks = next_tick k; tick_signals = k.tick_signals - 1 }

  plain-links : AreLinksOf (plain_ticked k) n prios ks l
  plain-links =
      record {
        fits = wake-fits ends (h k) xs k l prios v a wait;
        blocks = wake-blocks ends (h k) xs k l prios v a wait ∙ sym (blocks-counted (h k) xs k (next_tick k) (k.tick_signals - 1));
        noded = wakes_keep prios k.tasks (plain_ticked k).kernel.tasks (h k) xs l (objects-all ends (h k) xs counting) a.noded;
        listed = λ y. wake-prios ends (h k) xs k l prios v a wait p y ∙ prios-all ends (h k) xs k y ∙ sym (prios-all ends (h k) xs counting y);
      }

  -- the tick's wakes alone, in a kernel that is linked
  abbrev wakes-tick : Effect
  wakes-tick = woken ends (fine 0) (h k) xs (at_tick k)

  wakes-links : AreLinksOf wakes-tick n prios ks l
  wakes-links =
      record {
        fits = plain-links.fits;
        blocks = wake-blocks ends (h k) xs k l prios v a wait ∙ sym (blocks-counted (h k) xs k (next_tick k) k.tick_signals);
        noded = wakes_keep prios k.tasks wakes-tick.kernel.tasks (h k) xs l (objects-all ends (h k) xs (at_tick k)) a.noded;
        listed = λ y. wake-prios ends (h k) xs k l prios v a wait p y ∙ prios-all ends (h k) xs k y ∙ sym (prios-all ends (h k) xs (at_tick k) y);
      }

  objects-woken : (f : Task → Finished) (c : ℕ) (ys : List ℕ) (j : Kernel) → length (wakes_all f c ys j).objects ≡ length j.objects
  objects-woken f c [] j = refl
  objects-woken f c (y ∷ ys) j = objects-woken f c ys (wakes (f (task_at j y)) c y j)

  a1 : AreKernels (tick_wakes k) (lists_after prios ks l)
  a1 =
      let first : AreKernels (at_tick k) l = record { lists = a.lists; past = a.past; noded = a.noded } in
      let leads : Leads (at_tick k) wakes-tick = leads-woken ends (fine 0) (h k) xs (at_tick k) in
      lists-kernel n prios ks l wakes-tick wakes-links k refl v a (record { lists = leads.lists }) (objects-woken ends (h k) xs (at_tick k))

  module _ (may : MayRunUnit 60 k) where
    still-ready : is_ready (task_at (tick_wakes k) 60) ≡ true
    still-ready = ap is_ready (apart-wakes ends (h k) xs (at_tick k) 60 (below-waiting k xs wait) (omega arith)) ∙ may.1

    -- the tick task waits after its last signal
    abbrev j : Kernel
    j = (plain_ticked k).kernel

    abbrev rest-tick : Effect
    rest-tick =
        record {
          kernel = record j { tasks = update_task j.tasks 60 (λ t. record t { waiting = Signal }); ready = update_list j.ready (prio_of j 60) (without 60) };
          outcome = (plain_ticked k).outcome;
          blocks = unready 60 (prio_of j 60) ∷ [];
        }

    same-prio : prio_of j 60 ≡ prio_of k 60
    same-prio = prios-all ends (h k) xs counting 60

    rest-links : AreLinksOf rest-tick n (prios_over ks prios) (link.Unready (record { 0 = 60 }) (record { 0 = prio_of k 60 }) ∷ []) (lists_after prios ks l)
    rest-links =
        let f : Task → Task = λ t. record t { waiting = Signal } in
        let i = tick_wakes k in
        let prio : prio_of i 60 ≡ prio_of k 60 = prios-all ends (h k) xs (at_tick k) 60 in
        let size : length i.objects ≡ n = objects-woken ends (h k) xs (at_tick k) in
        record {
          fits =
              subst (λ m. AreFit m (prios_over ks prios) (link.Unready (record { 0 = 60 }) (record { 0 = prio_of k 60 }) ∷ []) (lists_after prios ks l)) size
              (subst (λ q. AreFit (length i.objects) (prios_over ks prios) (link.Unready (record { 0 = 60 }) (record { 0 = q }) ∷ []) (lists_after prios ks l)) prio
              (block_fits (prios_over ks prios) i 60 [] (lists_after prios ks l) (linked-tick_wakes k v) a1 (omega arith) still-ready (All-nil (λ o. o < length i.objects)) (λ o. omega arith) (omega arith)));
          blocks = ap (λ q. unready 60 q ∷ []) (sym same-prio);
          noded = noded-task f (λ u. refl) j.tasks 60 (lists_after prios ks l).pend plain-links.noded;
          listed = prios-task f (λ u. refl) j rest-tick.kernel 60 (prios_over ks prios) refl plain-links.listed;
        }

    tick-if : (b : Bool) → AreLinksOf (if b then waits_for_signal 60 (plain_ticked k) else plain_ticked k) n prios (ks ++ last_links (if b then Some (link.Unready (record { 0 = 60 }) (record { 0 = prio_of k 60 })) else None)) l
    tick-if true = compose n prios ks l (plain_ticked k) plain-links (link.Unready (record { 0 = 60 }) (record { 0 = prio_of k 60 }) ∷ []) rest-tick (plain_ticked k).outcome rest-links
    tick-if false = subst (λ js. AreLinksOf (plain_ticked k) n prios js l) (sym (append-nil ks)) plain-links

    tick-unit-links : AreLinksOf (tick_unit k) n prios (ks ++ last_links (if k.tick_signals == 1 then Some (link.Unready (record { 0 = 60 }) (record { 0 = prio_of k 60 })) else None)) l
    tick-unit-links =
        subst (λ e. AreLinksOf (if k.tick_signals == 1 then waits_for_signal 60 e else e) n prios (ks ++ last_links (if k.tick_signals == 1 then Some (link.Unready (record { 0 = 60 }) (record { 0 = prio_of k 60 })) else None)) l)
        (sym (ticked-plain k v s)) (tick-if (k.tick_signals == 1))

  -- The timer task's unit.

  fired-tasks : (o : ℕ) (c : Content) → (fired o c k).tasks ≡ k.tasks
  fired-tasks o (Timed t) = choice (λ (i : Kernel). i.tasks ≡ k.tasks) t.periodic _ _ refl refl
  fired-tasks o _ = refl

  module _ (may : MayRunUnit 61 k) where
    abbrev rests-61 : Bool → List Link
    rests-61 b = last_links (if b then Some (link.Unready (record { 0 = 61 }) (record { 0 = prio_of k 61 })) else None)

    ends-if : (b : Bool) → k.timer_signals == 0 ≡ b → AreLinksOf (timer_ends k) n prios (rests-61 b) l
    ends-if true e =
        let f : Task → Task = λ t. record t { waiting = Signal } in
        let g : Effect = record { kernel = record k { lock = 0; processing = false }; outcome = (timer_ends k).outcome; blocks = [] } in
        let all : AreLinksOf (waits_for_signal 61 (record { kernel = record k { lock = 0; processing = false }; outcome = Quiet TmrEnd; blocks = [] })) n prios (rests-61 true) l =
        record {
          fits = block_fits prios k 61 [] l v a (omega arith) may.1 (All-nil (λ o. o < n)) (λ o. omega arith) (omega arith);
          blocks = refl;
          noded = noded-task f (λ u. refl) k.tasks 61 l.pend a.noded;
          listed = prios-task f (λ u. refl) k (waits_for_signal 61 (record { kernel = record k { lock = 0; processing = false }; outcome = Quiet TmrEnd; blocks = [] })).kernel 61 prios refl p;
        } in
        subst (λ c. AreLinksOf (if c then waits_for_signal 61 (record { kernel = record k { lock = 0; processing = false }; outcome = Quiet TmrEnd; blocks = [] }) else record { kernel = record k { lock = 0; processing = false }; outcome = Quiet TmrEnd; blocks = [] }) n prios (rests-61 true) l) (sym e) all
    ends-if false e =
        subst (λ c. AreLinksOf (if c then waits_for_signal 61 (record { kernel = record k { lock = 0; processing = false }; outcome = Quiet TmrEnd; blocks = [] }) else record { kernel = record k { lock = 0; processing = false }; outcome = Quiet TmrEnd; blocks = [] }) n prios (rests-61 false) l) (sym e)
        (no-links k l prios v a p (record { kernel = record k { lock = 0; processing = false }; outcome = Quiet TmrEnd; blocks = [] }) refl refl)

    goes-on : (o : Option ℕ) → AreLinksOf (timer_goes_on o k) n prios (rests-61 (rests_after o k)) l
    goes-on (Some o) = no-links k l prios v a p (timer_fires o k) refl (fired-tasks o (object_at k o).content)
    goes-on None = ends-if (k.timer_signals == 0) refl

    timer-if : (b : Bool) → AreLinksOf (if b then timer_goes_on (due_timer k.timer_count k.timer_matches) k else timer_counts k) n prios (rests-61 (if b then rests_after (due_timer k.timer_count k.timer_matches) k else false)) l
    timer-if true = goes-on (due_timer k.timer_count k.timer_matches)
    timer-if false = no-links k l prios v a p (timer_counts k) refl refl

    timer-unit-links : AreLinksOf (timer_unit k) n prios (rests-61 (timer_rests k)) l
    timer-unit-links = timer-if k.processing

  pub unit-links : (x : ℕ) → MayRunUnit x k → AreLinksOf (unit_effect x k) n prios (wakes_links k.tasks (h k) (unit_woken x k) ++ last_links (unit_last x k)) l
  unit-links x may = elim may.0 [
    | inl e ↦ subst (λ y. MayRunUnit y k → AreLinksOf (unit_effect y k) n prios (wakes_links k.tasks (h k) (unit_woken y k) ++ last_links (unit_last y k)) l) (sym e) tick-unit-links may
    | inr e ↦ subst (λ y. MayRunUnit y k → AreLinksOf (unit_effect y k) n prios (wakes_links k.tasks (h k) (unit_woken y k) ++ last_links (unit_last y k)) l) (sym e) timer-unit-links may
  ]

-- whether a unit's task waits after it does not depend on the lists
rests-lists : (o : Option ℕ) (k : Kernel) (m : Lists) → rests_after o k ≡ rests_after o (with_lists k m)
rests-lists (Some o) k m = refl
rests-lists None k m = refl

pub last-lists : (x : ℕ) (k : Kernel) (m : Lists) → unit_last x k ≡ unit_last x (with_lists k m)
last-lists x k m =
    ap (λ (b : Bool). if (if x == 60 then k.tick_signals == 1 else (if k.processing then b else false)) then Some (link.Unready (record { 0 = x }) (record { 0 = prio_of k x })) else None)
    (rests-lists (due_timer k.timer_count k.timer_matches) k m)

-- those that a unit wakes are tasks
all-below : (xs : List ℕ) → Below xs → All (λ x. x < 64) xs
all-below [] b = All-nil (λ x. x < 64)
all-below (x ∷ xs) b = All-cons (λ y. y < 64) x xs (let low = b.0 in omega (arith, low)) (all-below xs b.1)

pub unit-below : (x : ℕ) (k : Kernel) → IsLinked k → All (λ y. y < 64) (unit_woken x k)
unit-below x k v = choice (All (λ y. y < 64)) (x == 60) (those k) [] (all-below (those k) (below-waiting k (those k) (AllWait-due k v (next_tick k)))) (All-nil (λ y. y < 64))
