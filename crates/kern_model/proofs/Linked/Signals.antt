-- The tick task and the timer task get a signal or wait for one: the kernel stays linked.
use Rattle.kern_model.proofs.Common.{◌≡◌, ◌≢◌, ◌⊎◌, ℕ, ◌<◌, ◌≤◌, List, [], length, get_or, refl, sym, ap, ◌∙◌, subst, Bool, true, false, ◌&&◌, not, arith, inl, inr, ◌==◌, if◌then◌else◌, Waiting, No, Signal, Kernel, Task, list_at, update_list, update_task, no_task, task_at, prio_of, count_of, without, is_ready, is_zero, waits_for_nothing, join_place, joined, IsLinked, IsTask, one_if, matched, has_result}
use Rattle.std.proofs.lemmas.List.{length-set}
use Rattle.kern_model.proofs.Basics.Updates.{update_task_same, task-updated, task-other}
use Rattle.kern_model.proofs.Lists.Members.{count-joined_other, count-joined_own, count-left_other, count-left_none}
use Rattle.kern_model.proofs.Linked.TaskChanges.{Internals, linked-change}
use Rattle.kern_model.proofs.Linked.Suspensions.{left-gone}
use Rattle.kern_model.proofs.Linked.Contents.{matched_none}
use Rattle.kern_model.proofs.Linked.Wakes.{no_ready, none_ready, not_ready-absent}

abbrev pub IsInternal : ℕ → Type 0
IsInternal x = (x ≡ 60) ⊎ (x ≡ 61)

-- such a task lives, is not suspended, and has no objects, result or match
pub record Standing (k : Kernel) (x : ℕ) : Type 0 where
  pub above : 60 ≤ x
  pub below : x < 62
  pub alive : (task_at k x).alive ≡ true
  pub running : (task_at k x).suspended ≡ 0
  pub objects : (task_at k x).objects ≡ []
  pub reads : has_result (task_at k x).answered ≡ false
  pub unmatched : count_of x (matched k.matches) ≡ 0

pub standing : (k : Kernel) → IsLinked k → (x : ℕ) → IsInternal x → Standing k x
standing k v x (inl e) = at_60 x e
  where
    at_60 : (x : ℕ) → x ≡ 60 → Standing k x
    at_60 x e =
        subst (λ n. Standing k n) (sym e)
        (record { above = omega arith; below = omega arith; alive = v.internal.tick_lives.0; running = v.internal.tick_lives.1; objects = (v.internal.no_objects 60 (omega arith)).0; reads = (v.internal.no_objects 60 (omega arith)).1; unmatched = matched_none k.matches v.matches.match_words 60 (omega arith) })
standing k v x (inr e) = at_61 x e
  where
    at_61 : (x : ℕ) → x ≡ 61 → Standing k x
    at_61 x e =
        subst (λ n. Standing k n) (sym e)
        (record { above = omega arith; below = omega arith; alive = v.internal.timer_lives.0; running = v.internal.timer_lives.1; objects = (v.internal.no_objects 61 (omega arith)).0; reads = (v.internal.no_objects 61 (omega arith)).1; unmatched = matched_none k.matches v.matches.match_words 61 (omega arith) })

module _ (k : Kernel) (v : IsLinked k) (x : ℕ) (who : IsInternal x) where
  s : Standing k x
  s = standing k v x who

  in_tasks : x < length k.tasks
  in_tasks = omega (arith, v.sizes.tasks, s.below)

  not_idle : x ≢ 62
  not_idle e = let l = s.below in absurd (omega (arith, e, l))

  abbrev now_waiting : Waiting → Task → Task
  now_waiting w t = record t { waiting = w }

  own-now : (w : Waiting) → get_or (update_task k.tasks x (now_waiting w)) x no_task ≡ now_waiting w (task_at k x)
  own-now w = task-updated k.tasks x (now_waiting w) in_tasks

  -- the tasks and the ready lists as they are now, with these signals, calls, processing and lock
  abbrev now : Waiting → List (List ℕ) → ℕ → ℕ → ℕ → Bool → ℕ → Kernel
  now w lists tick_signals timer_signals tick_calls processing lock =
      record k { tasks = update_task k.tasks x (now_waiting w); ready = lists; tick_signals = tick_signals; timer_signals = timer_signals; tick_calls = tick_calls; processing = processing; lock = lock }

  internals-now : (w : Waiting) (lists : List (List ℕ)) (a b c : ℕ) (pr : Bool) (l : ℕ) → ((get_or (update_task k.tasks x (now_waiting w)) 60 no_task).waiting ≡ (if is_zero a then Signal else No)) → ((get_or (update_task k.tasks x (now_waiting w)) 61 no_task).waiting ≡ (if is_zero b && not pr then Signal else No)) → l ≤ 250 → (pr ≡ true → 0 < l) → (k.in_callback ≡ true → pr ≡ true) → Internals (now w lists a b c pr l)
  internals-now w lists a b c pr l tick timer most locked callback =
      record {
        internal = λ y h. (update_task_same (λ t. t.objects) (now_waiting w) (λ t. refl) k.tasks x y ∙ (v.internal.no_objects y h).0, ap has_result (update_task_same (λ t. t.answered) (now_waiting w) (λ t. refl) k.tasks x y) ∙ (v.internal.no_objects y h).1);
        handler = update_task_same (λ t. t.alive) (now_waiting w) (λ t. refl) k.tasks x 63 ∙ v.internal.handler;
        idle = ap is_ready (task-other k.tasks x (now_waiting w) 62 not_idle) ∙ v.internal.idle;
        idle_prio = ap (λ (t : Task). t.prio) (task-other k.tasks x (now_waiting w) 62 not_idle) ∙ v.internal.idle_prio;
        idle_base = ap (λ (t : Task). t.base) (task-other k.tasks x (now_waiting w) 62 not_idle) ∙ v.internal.idle_base;
        tick_lives = (update_task_same (λ t. t.alive) (now_waiting w) (λ t. refl) k.tasks x 60 ∙ v.internal.tick_lives.0, update_task_same (λ t. t.suspended) (now_waiting w) (λ t. refl) k.tasks x 60 ∙ v.internal.tick_lives.1);
        timer_lives = (update_task_same (λ t. t.alive) (now_waiting w) (λ t. refl) k.tasks x 61 ∙ v.internal.timer_lives.0, update_task_same (λ t. t.suspended) (now_waiting w) (λ t. refl) k.tasks x 61 ∙ v.internal.timer_lives.1);
        tick_waits = tick;
        timer_waits = timer;
        lock = most;
        locked = locked;
        callback = callback;
        ticks = v.clocks.ticks;
        timer_count = v.clocks.timer_count;
      }

  nowhere : (o : ℕ) → count_of x (list_at k.pend o) ≡ 0
  nowhere o = v.lists.waiters o x ∙ zero_either (waits_for_nothing (task_at k x).waiting) (ap (λ os. count_of o os) s.objects)
    where
      zero_either : (b : Bool) {n : ℕ} → n ≡ 0 → (if b then 0 else n) ≡ 0
      zero_either true e = refl
      zero_either false e = e

  pend_now : (w : Waiting) (o : ℕ) → count_of x (list_at k.pend o) ≡ (if waits_for_nothing w then 0 else count_of o (task_at k x).objects)
  pend_now w o = nowhere o ∙ sym (zero_either (waits_for_nothing w) (ap (λ os. count_of o os) s.objects))
    where
      zero_either : (b : Bool) {n : ℕ} → n ≡ 0 → (if b then 0 else n) ≡ 0
      zero_either true e = refl
      zero_either false e = e

  valid_task : (w : Waiting) → IsTask (length k.objects) (now_waiting w (task_at k x))
  valid_task w =
      let i = v.tasks.each_task x in
      record { prio_from = i.prio_from; prio_to = i.prio_to; base_from = i.base_from; objects = i.objects; few = i.few; different = i.different; lives = λ e. s.alive; reads = λ e. s.reads; suspended = i.suspended; count = i.count }

  pub change-now : (w : Waiting) (lists : List (List ℕ)) (a b c : ℕ) (pr : Bool) (l : ℕ) → Internals (now w lists a b c pr l) → length lists ≡ length k.ready → ((p y : ℕ) → x ≢ y → count_of y (list_at lists p) ≡ count_of y (list_at k.ready p)) → ((p : ℕ) → count_of x (list_at lists p) ≡ one_if (is_ready (now_waiting w (task_at k x)) && (prio_of k x == p))) → IsLinked (now w lists a b c pr l)
  change-now w lists a b c pr l internals same others own =
      linked-change k (now w lists a b c pr l) x v
      (record {
        tasks = length-set k.tasks x _;
        ready = same;
        pend = refl;
        objects = refl;
        settings = refl;
        others = task-other k.tasks x (now_waiting w);
        task = subst (λ u. IsTask (length k.objects) u) (sym (own-now w)) (valid_task w);
        lives = λ e. s.alive;
        prio = λ e. subst (λ (u : Task). u.prio ≤ 62) (sym (own-now w)) (v.tasks.above_idle x e);
        base = λ e. subst (λ (u : Task). u.base ≤ 62) (sym (own-now w)) (v.tasks.bases x e);
        each_object = v.contents;
        ready_others = others;
        ready_own = λ p. own p ∙ ap (λ (u : Task). one_if (is_ready u && (u.prio == p))) (sym (own-now w));
        pend_others = λ o y d. refl;
        pend_own = λ o. pend_now w o ∙ ap (λ (u : Task). if waits_for_nothing u.waiting then 0 else count_of o u.objects) (sym (own-now w));
        match_others = λ y d. refl;
        match_own = omega (arith, s.unmatched);
        match_words = v.matches.match_words;
        internals = internals;
      })

  prio_inside : prio_of k x < length k.ready
  prio_inside = omega (arith, v.sizes.ready, (v.tasks.each_task x).prio_to)

  -- it gets a signal: its lists, with these signals
  pub linked-signalled : (h a b c : ℕ) → (task_at k x).waiting ≡ Signal → ((get_or (update_task k.tasks x (now_waiting No)) 60 no_task).waiting ≡ (if is_zero a then Signal else No)) → ((get_or (update_task k.tasks x (now_waiting No)) 61 no_task).waiting ≡ (if is_zero b && not k.processing then Signal else No)) → IsLinked (now No (joined (join_place (prio_of k x) h) x (prio_of k x) k.ready) a b c k.processing k.lock)
  linked-signalled h a b c w tick timer =
      let p = prio_of k x in
      let lists = joined (join_place p h) x p k.ready in
      change-now No lists a b c k.processing k.lock (internals-now No lists a b c k.processing k.lock tick timer v.lock.few v.lock.locked v.lock.callback) (length-set k.ready p _) (λ q y d. count-joined_other (join_place p h) x p k.ready q y d prio_inside) own
    where
      absent : (q : ℕ) → count_of x (list_at k.ready q) ≡ 0
      absent q = not_ready-absent k v x (no_ready (task_at k x).alive (waits_for_nothing (task_at k x).waiting) (is_zero (task_at k x).suspended) (ap waits_for_nothing w)) q

      own : (q : ℕ) → count_of x (list_at (joined (join_place (prio_of k x) h) x (prio_of k x) k.ready) q) ≡ one_if (((task_at k x).alive && (true && is_zero (task_at k x).suspended)) && (prio_of k x == q))
      own q =
          let now : count_of x (list_at (joined (join_place (prio_of k x) h) x (prio_of k x) k.ready) q) ≡ one_if (prio_of k x == q) =
          omega (arith, absent q, count-joined_own (join_place (prio_of k x) h) x (prio_of k x) k.ready q prio_inside) in
          now ∙ ap (λ z. one_if ((true && (true && z)) && (prio_of k x == q))) (sym (ap is_zero s.running)) ∙ ap (λ z. one_if ((z && (true && is_zero (task_at k x).suspended)) && (prio_of k x == q))) (sym s.alive)

  -- it waits for the next signal, with these signals, processing and lock
  pub linked-waits : (a b : ℕ) (pr : Bool) (l : ℕ) → ((get_or (update_task k.tasks x (now_waiting Signal)) 60 no_task).waiting ≡ (if is_zero a then Signal else No)) → ((get_or (update_task k.tasks x (now_waiting Signal)) 61 no_task).waiting ≡ (if is_zero b && not pr then Signal else No)) → l ≤ 250 → (pr ≡ true → 0 < l) → (k.in_callback ≡ true → pr ≡ true) → IsLinked (now Signal (update_list k.ready (prio_of k x) (without x)) a b k.tick_calls pr l)
  linked-waits a b pr l tick timer most locked callback =
      let lists = update_list k.ready (prio_of k x) (without x) in
      change-now Signal lists a b k.tick_calls pr l (internals-now Signal lists a b k.tick_calls pr l tick timer most locked callback) (length-set k.ready (prio_of k x) _) (λ q y d. count-left_other x (prio_of k x) k.ready q y d) own
    where
      gone : (b : Bool) → is_ready (task_at k x) ≡ b → (q : ℕ) → count_of x (list_at (update_list k.ready (prio_of k x) (without x)) q) ≡ 0
      gone true e q = left-gone k v x true e q
      gone false e q = count-left_none x (prio_of k x) k.ready q (not_ready-absent k v x e q)

      own : (q : ℕ) → count_of x (list_at (update_list k.ready (prio_of k x) (without x)) q) ≡ one_if (((task_at k x).alive && (false && is_zero (task_at k x).suspended)) && (prio_of k x == q))
      own q = gone (is_ready (task_at k x)) refl q ∙ sym (none_ready (prio_of k x) q ((task_at k x).alive && (false && is_zero (task_at k x).suspended)) (no_ready (task_at k x).alive false (is_zero (task_at k x).suspended) refl))
