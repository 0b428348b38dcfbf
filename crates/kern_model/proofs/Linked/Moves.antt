-- A move to another priority, and the signals of the internal tasks, keep the kernel linked.
use Rattle.kern_model.proofs.Common.{◌≡◌, ◌≢◌, ◌⊎◌, ℕ, ◌<◌, ◌≤◌, List, [], ◌∷◌, length, refl, sym, ap, ◌∙◌, subst, Bool, true, false, ◌&&◌, arith, inl, inr, All, ◌==◌, if◌then◌else◌, insert, Kernel, Task, list_at, update_list, task_at, prio_of, count_of, without, is_ready, waits_for_nothing, wait_place, joined, moved, moved_ready, rewaited, waited_objects, with_prio, IsLinked, IsTask, one_if, matched, has_result}
use Rattle.std.proofs.lemmas.List.{length-set}
use Rattle.std.proofs.lemmas.List.Elements.{All-nil, All-head, All-tail}
use Rattle.std.proofs.lemmas.Bool.Decides.{eqb_tells}
use Rattle.kern_model.proofs.Basics.Updates.{update_task_same, task-updated, task-other}
use Rattle.kern_model.proofs.Lists.Members.{list-other, count-joined_other, count-joined_own, count-left_other, count-left_here}
use Rattle.kern_model.proofs.Linked.TaskChanges.{Internals, linked-change}
use Rattle.kern_model.proofs.Linked.Suspensions.{left-gone}
use Rattle.kern_model.proofs.Linked.Wakes.{self_equal, not_ready-absent, waits-count}

length-rewaited : (prio : ℕ → ℕ) (x p : ℕ) (os : List ℕ) (lists : List (List ℕ)) → length (rewaited prio x p os lists) ≡ length lists
length-rewaited prio x p [] lists = refl
length-rewaited prio x p (o ∷ os) lists =
    let left = update_list lists o (without x) in
    length-rewaited prio x p os (joined (wait_place prio p) x o left) ∙ length-set left o _ ∙ length-set lists o _

module _ (prio : ℕ → ℕ) (x p : ℕ) where
  -- x leaves the waiters of one object and joins them again
  abbrev pub again : ℕ → List (List ℕ) → List (List ℕ)
  again o lists = joined (wait_place prio p) x o (update_list lists o (without x))

  pub length-again : (o : ℕ) (lists : List (List ℕ)) → length (again o lists) ≡ length lists
  length-again o lists = length-set (update_list lists o (without x)) o _ ∙ length-set lists o _

  inside-left : (o : ℕ) (lists : List (List ℕ)) → o < length lists → o < length (update_list lists o (without x))
  inside-left o lists h = subst (λ n. o < n) (sym (length-set lists o (without x (list_at lists o)))) h

  pub count-again_other : (o q y : ℕ) (lists : List (List ℕ)) → x ≢ y → o < length lists → count_of y (list_at (again o lists) q) ≡ count_of y (list_at lists q)
  count-again_other o q y lists d h =
      count-joined_other (wait_place prio p) x o (update_list lists o (without x)) q y d (inside-left o lists h) ∙ count-left_other x o lists q y d

  pub count-again_own : (o q : ℕ) (lists : List (List ℕ)) → o < length lists → count_of x (list_at lists o) ≡ 1 → count_of x (list_at (again o lists) q) ≡ count_of x (list_at lists q)
  count-again_own o q lists h one =
      let left = update_list lists o (without x) in
      elim (eqb_tells o q) [
        | inl e ↦ subst (λ z. count_of x (list_at (again o lists) z) ≡ count_of x (list_at lists z)) e.1
            (omega (arith, count-joined_own (wait_place prio p) x o left o (inside-left o lists h), count-left_here x o lists, one, ap one_if (self_equal o)))
        | inr e ↦ ap (λ l. count_of x l) (list-other (λ xs. insert xs (wait_place prio p xs) x) left o q e.1 ∙ list-other (without x) lists o q e.1)
      ]

  pub count-rewaited_other : (os : List ℕ) (lists : List (List ℕ)) (q y : ℕ) → x ≢ y → All (λ o. o < length lists) os → count_of y (list_at (rewaited prio x p os lists) q) ≡ count_of y (list_at lists q)
  count-rewaited_other [] lists q y d h = refl
  count-rewaited_other (o ∷ os) lists q y d h =
      count-rewaited_other os (again o lists) q y d (subst (λ n. All (λ i. i < n) os) (sym (length-again o lists)) (All-tail (λ i. i < length lists) o os h))
      ∙ count-again_other o q y lists d (All-head (λ i. i < length lists) o os h)

  pub count-rewaited_own : (os : List ℕ) (lists : List (List ℕ)) (q : ℕ) → All (λ o. o < length lists) os → ((o : ℕ) → 0 < count_of o os → count_of x (list_at lists o) ≡ 1) → count_of x (list_at (rewaited prio x p os lists) q) ≡ count_of x (list_at lists q)
  count-rewaited_own [] lists q h one = refl
  count-rewaited_own (o ∷ os) lists q h one =
      let here = All-head (λ i. i < length lists) o os h in
      let first : count_of x (list_at lists o) ≡ 1 = one o (omega (arith, ap one_if (self_equal o))) in
      count-rewaited_own os (again o lists) q (subst (λ n. All (λ i. i < n) os) (sym (length-again o lists)) (All-tail (λ i. i < length lists) o os h))
      (λ i l. count-again_own o i lists here first ∙ one i (omega arith))
      ∙ count-again_own o q lists here first

-- a living application task, or the timer task, moves to a priority of 1 to 62
module _ (k : Kernel) (v : IsLinked k) (x : ℕ) (who : (x < 60) ⊎ (x ≡ 61)) (a : (task_at k x).alive ≡ true) (place : List ℕ → ℕ) (p : ℕ) (from : 1 ≤ p) (to : p ≤ 62) where
  below : x < 62
  below = elim who [ inl l ↦ omega arith | inr e ↦ omega (arith, e) ]

  in_tasks : x < length k.tasks
  in_tasks = omega (arith, v.sizes.tasks, below)

  not_idle : x ≢ 62
  not_idle e = let l = below in absurd (omega (arith, e, l))

  own-moved : task_at (moved place x p k) x ≡ with_prio p (task_at k x)
  own-moved = task-updated k.tasks x (with_prio p) in_tasks

  p_inside : p < length k.ready
  p_inside = omega (arith, v.sizes.ready, to)

  moved_own : (r : ℕ) (b : Bool) → is_ready (task_at k x) ≡ b → count_of x (list_at (moved_ready b place x (prio_of k x) p k.ready) r) ≡ one_if (b && (p == r))
  moved_own r false e = not_ready-absent k v x e r
  moved_own r true e =
      let left = update_list k.ready (prio_of k x) (without x) in
      let inside : p < length left = subst (λ n. p < n) (sym (length-set k.ready (prio_of k x) (without x (list_at k.ready (prio_of k x))))) p_inside in
      omega (arith, count-joined_own place x p left r inside, left-gone k v x true e r)

  moved_others : (r y : ℕ) (b : Bool) → x ≢ y → count_of y (list_at (moved_ready b place x (prio_of k x) p k.ready) r) ≡ count_of y (list_at k.ready r)
  moved_others r y false d = refl
  moved_others r y true d =
      let left = update_list k.ready (prio_of k x) (without x) in
      let inside : p < length left = subst (λ n. p < n) (sym (length-set k.ready (prio_of k x) (without x (list_at k.ready (prio_of k x))))) p_inside in
      count-joined_other place x p left r y d inside ∙ count-left_other x (prio_of k x) k.ready r y d

  length-moved : (b : Bool) → length (moved_ready b place x (prio_of k x) p k.ready) ≡ length k.ready
  length-moved false = refl
  length-moved true = length-set (update_list k.ready (prio_of k x) (without x)) p _ ∙ length-set k.ready (prio_of k x) _

  pub objects_inside : (b : Bool) → All (λ o. o < length k.pend) (if b then [] else (task_at k x).objects)
  objects_inside true = All-nil (λ o. o < length k.pend)
  objects_inside false = subst (λ n. All (λ o. o < n) (task_at k x).objects) (sym v.sizes.pend) (v.tasks.each_task x).objects

  pub stands_once : (b : Bool) → waits_for_nothing (task_at k x).waiting ≡ b → (o : ℕ) → 0 < count_of o (if b then [] else (task_at k x).objects) → count_of x (list_at k.pend o) ≡ 1
  stands_once true w o l = absurd (omega arith)
  stands_once false w o l = omega (arith, waits-count k v x w o, (v.tasks.each_task x).different o)

  internals-moved : Internals (moved place x p k)
  internals-moved =
      record {
        internal = λ y h. (update_task_same (λ t. t.objects) (with_prio p) (λ t. refl) k.tasks x y ∙ (v.internal.no_objects y h).0, ap has_result (update_task_same (λ t. t.answered) (with_prio p) (λ t. refl) k.tasks x y) ∙ (v.internal.no_objects y h).1);
        handler = update_task_same (λ t. t.alive) (with_prio p) (λ t. refl) k.tasks x 63 ∙ v.internal.handler;
        idle = update_task_same is_ready (with_prio p) (λ t. refl) k.tasks x 62 ∙ v.internal.idle;
        idle_prio = ap (λ (t : Task). t.prio) (task-other k.tasks x (with_prio p) 62 not_idle) ∙ v.internal.idle_prio;
        idle_base = ap (λ (t : Task). t.base) (task-other k.tasks x (with_prio p) 62 not_idle) ∙ v.internal.idle_base;
        tick_lives = (update_task_same (λ t. t.alive) (with_prio p) (λ t. refl) k.tasks x 60 ∙ v.internal.tick_lives.0, update_task_same (λ t. t.suspended) (with_prio p) (λ t. refl) k.tasks x 60 ∙ v.internal.tick_lives.1);
        timer_lives = (update_task_same (λ t. t.alive) (with_prio p) (λ t. refl) k.tasks x 61 ∙ v.internal.timer_lives.0, update_task_same (λ t. t.suspended) (with_prio p) (λ t. refl) k.tasks x 61 ∙ v.internal.timer_lives.1);
        tick_waits = update_task_same (λ t. t.waiting) (with_prio p) (λ t. refl) k.tasks x 60 ∙ v.internal.tick_waits;
        timer_waits = update_task_same (λ t. t.waiting) (with_prio p) (λ t. refl) k.tasks x 61 ∙ v.internal.timer_waits;
        lock = v.lock.few;
        locked = v.lock.locked;
        callback = v.lock.callback;
        ticks = v.clocks.ticks;
        timer_count = v.clocks.timer_count;
      }

  pub linked-moved : IsLinked (moved place x p k)
  linked-moved =
      let t = task_at k x in
      let i = v.tasks.each_task x in
      linked-change k (moved place x p k) x v
      (record {
        tasks = length-set k.tasks x _;
        ready = length-moved (is_ready t);
        pend = length-rewaited (prio_of k) x p (waited_objects t) k.pend;
        objects = refl;
        settings = refl;
        others = task-other k.tasks x (with_prio p);
        task = subst (λ u. IsTask (length k.objects) u) (sym own-moved)
            (record { prio_from = from; prio_to = omega (arith, to); base_from = i.base_from; objects = i.objects; few = i.few; different = i.different; lives = i.lives; reads = i.reads; suspended = i.suspended; count = i.count });
        lives = λ e. a;
        prio = λ e. subst (λ (u : Task). u.prio ≤ 62) (sym own-moved) to;
        base = λ e. subst (λ (u : Task). u.base ≤ 62) (sym own-moved) (v.tasks.bases x e);
        each_object = v.contents;
        ready_others = λ r y d. moved_others r y (is_ready t) d;
        ready_own = λ r. moved_own r (is_ready t) refl ∙ ap (λ (u : Task). one_if (is_ready u && (u.prio == r))) (sym own-moved);
        pend_others = λ o y d. count-rewaited_other (prio_of k) x p (waited_objects t) k.pend o y d (objects_inside (waits_for_nothing t.waiting));
        pend_own = λ o. count-rewaited_own (prio_of k) x p (waited_objects t) k.pend o (objects_inside (waits_for_nothing t.waiting)) (stands_once (waits_for_nothing t.waiting) refl)
            ∙ v.lists.waiters o x ∙ ap (λ (u : Task). if waits_for_nothing u.waiting then 0 else count_of o u.objects) (sym own-moved);
        match_others = λ y d. refl;
        match_own = subst (λ (u : Task). count_of x (matched k.matches) ≤ (if waits_for_nothing u.waiting then 0 else 1)) (sym own-moved) (v.matches.once_matched x);
        match_words = v.matches.match_words;
        internals = internals-moved;
      })
