-- Changes of one task's standing that keep the kernel linked: it gets or awaits a signal, is suspended, resumed or deleted, or
-- moves to another priority.
use Rattle.kern_model.proofs.Common.{◌≡◌, ◌≢◌, ℕ, zero, suc, ◌<◌, ◌≤◌, ◌+◌, List, [], length, refl, sym, ap, ◌∙◌, subst, Bool, true, false, ◌&&◌, arith, inl, inr, Some, add-one, ◌==◌, if◌then◌else◌, Outcome, Kernel, Task, list_at, update_list, task_at, prio_of, count_of, without, is_ready, is_zero, waits_for_nothing, join_place, TaskSuspend, plain_result, fine, left_all, waited_objects, IsLinked, IsTask, IsWord, one_if, matched, has_result}
use Rattle.std.proofs.lemmas.List.{length-set}
use Rattle.std.proofs.lemmas.Bool.{true≢false}
use Rattle.std.proofs.lemmas.Bool.Decides.{eqb_tells}
use Rattle.kern_model.specs.Tasks.{left_ready, suspended_task, suspends, resumed_ready, resumes, deleted_task, task_ends}
use Rattle.kern_model.proofs.Basics.Updates.{task-updated, task-other, length-left_all, length-woken_ready}
use Rattle.kern_model.proofs.Lists.Members.{count-joined_other, count-joined_own, count-left_other, count-left_here, count-left_none, count-left_all_other, count-left_all_here, count-unmatched_other, count-unmatched_own, unmatched-keeps}
use Rattle.kern_model.proofs.Linked.TaskChanges.{OneTask, linked-one_task}
use Rattle.kern_model.proofs.Linked.Wakes.{none_ready, not_ready-absent, free-absent, waits-count}

-- a task that leaves its ready list, where it stands in one, stands in none
pub left-gone : (k : Kernel) → IsLinked k → (x : ℕ) (b : Bool) → is_ready (task_at k x) ≡ b → (p : ℕ) → count_of x (list_at (left_ready b x (prio_of k x) k.ready) p) ≡ 0
left-gone k v x false e p = not_ready-absent k v x e p
left-gone k v x true e p =
    elim (eqb_tells (prio_of k x) p) [
      | inl s ↦ subst (λ z. count_of x (list_at (update_list k.ready (prio_of k x) (without x)) z) ≡ 0) s.1 (count-left_here x (prio_of k x) k.ready)
      | inr s ↦ count-left_none x (prio_of k x) k.ready p (v.lists.stands p x ∙ ap (λ b. one_if (b && (prio_of k x == p))) e ∙ ap one_if s.0)
    ]

pub left-others : (x p : ℕ) (lists : List (List ℕ)) (b : Bool) (q y : ℕ) → x ≢ y → count_of y (list_at (left_ready b x p lists) q) ≡ count_of y (list_at lists q)
left-others x p lists false q y d = refl
left-others x p lists true q y d = count-left_other x p lists q y d

length-left_ready : (b : Bool) (x p : ℕ) (lists : List (List ℕ)) → length (left_ready b x p lists) ≡ length lists
length-left_ready false x p lists = refl
length-left_ready true x p lists = length-set lists p _

both_false : (a b c : Bool) → c ≡ false → a && (b && c) ≡ false
both_false true true c h = h
both_false true false c h = refl
both_false false b c h = refl

pub above_zero : (n : ℕ) → is_zero (n + 1) ≡ false
above_zero n = ap is_zero (add-one n)

-- a task that is alive has a priority of 1 to 62 unless it is the idle task
module _ (k : Kernel) (v : IsLinked k) (x : ℕ) (inside : x < 60) where
  in_tasks : x < length k.tasks
  in_tasks = omega (arith, v.sizes.tasks)

  prio_inside : prio_of k x < length k.ready
  prio_inside = omega (arith, v.sizes.ready, (v.tasks.each_task x).prio_to)

  -- suspension
  module _ (own : Bool) (few : (task_at k x).suspended ≢ 250) (a : (task_at k x).alive ≡ true) (free : own ≡ true → waits_for_nothing (task_at k x).waiting ≡ true) where
    own-suspended : task_at (suspends own x k).kernel x ≡ suspended_task own (task_at k x)
    own-suspended = task-updated k.tasks x (suspended_task own) in_tasks

    suspended_valid : IsTask (length k.objects) (suspended_task own (task_at k x))
    suspended_valid =
        let i = v.tasks.each_task x in
        record {
          prio_from = i.prio_from;
          prio_to = i.prio_to;
          base_from = i.base_from;
          objects = i.objects;
          few = i.few;
          different = i.different;
          lives = i.lives;
          reads = λ e. reads own free e;
          suspended = omega (arith, i.suspended);
          count = i.count;
        }
      where
        reads : (b : Bool) → (b ≡ true → waits_for_nothing (task_at k x).waiting ≡ true) → waits_for_nothing (task_at k x).waiting ≡ false → has_result (if b then Some (plain_result TaskSuspend (fine 0)) else (task_at k x).answered) ≡ false
        reads true h e = absurd (true≢false (sym (h refl) ∙ e))
        reads false h e = (v.tasks.each_task x).reads e

    one_task-suspended : OneTask k (suspends own x k).kernel x
    one_task-suspended =
        let t = task_at k x in
        record {
          application = inside;
          tasks = length-set k.tasks x _;
          ready = length-left_ready (is_ready t) x t.prio k.ready;
          pend = refl;
          objects = refl;
          settings = refl;
          others = task-other k.tasks x (suspended_task own);
          task = subst (λ u. IsTask (length k.objects) u) (sym own-suspended) suspended_valid;
          lives = λ e. a;
          prio = λ e. subst (λ (u : Task). u.prio ≤ 62) (sym own-suspended) (v.tasks.above_idle x e);
          base = λ e. subst (λ (u : Task). u.base ≤ 62) (sym own-suspended) (v.tasks.bases x e);
          each_object = v.contents;
          ready_others = λ p y d. left-others x t.prio k.ready (is_ready t) p y d;
          ready_own = λ p. left-gone k v x (is_ready t) refl p
              ∙ sym (none_ready t.prio p (is_ready (suspended_task own t)) (both_false t.alive (waits_for_nothing t.waiting) (is_zero (t.suspended + 1)) (above_zero t.suspended)))
              ∙ ap (λ (u : Task). one_if (is_ready u && (u.prio == p))) (sym own-suspended);
          pend_others = λ o y d. refl;
          pend_own = λ o. v.lists.waiters o x ∙ ap (λ (u : Task). if waits_for_nothing u.waiting then 0 else count_of o u.objects) (sym own-suspended);
          match_others = λ y d. refl;
          match_own = subst (λ (u : Task). count_of x (matched k.matches) ≤ (if waits_for_nothing u.waiting then 0 else 1)) (sym own-suspended) (v.matches.once_matched x);
          match_words = v.matches.match_words;
          tick_signals = refl;
          timer_signals = refl;
          processing = refl;
          in_callback = refl;
          ticks = refl;
          timer_count = refl;
          lock = v.lock.few;
          locked = v.lock.locked;
        }

    pub linked-suspends : IsLinked (suspends own x k).kernel
    linked-suspends = linked-one_task k (suspends own x k).kernel x v one_task-suspended

  -- resumption
  module _ (n : ℕ) (e : (task_at k x).suspended ≡ suc n) (a : (task_at k x).alive ≡ true) where
    own-resumed : task_at (resumes (suc n) x 0 k).kernel x ≡ record (task_at k x) { suspended = n }
    own-resumed = task-updated k.tasks x (λ t. record t { suspended = n }) in_tasks

    not_yet : (p : ℕ) → count_of x (list_at k.ready p) ≡ 0
    not_yet p =
        not_ready-absent k v x (both_false (task_at k x).alive (waits_for_nothing (task_at k x).waiting) (is_zero (task_at k x).suspended) (ap is_zero e)) p

    resumed_own : (h p m : ℕ) (b : Bool) → waits_for_nothing (task_at k x).waiting ≡ b → count_of x (list_at (resumed_ready b m (prio_of k x) h x k.ready) p) ≡ one_if (((task_at k x).alive && (b && is_zero m)) && (prio_of k x == p))
    resumed_own h p m false w = not_yet p ∙ sym (none_ready (prio_of k x) p ((task_at k x).alive && false) (ap (λ z. z && false) a))
    resumed_own h p zero true w =
        let now : count_of x (list_at (resumed_ready true zero (prio_of k x) h x k.ready) p) ≡ one_if (prio_of k x == p) =
        omega (arith, not_yet p, count-joined_own (join_place (prio_of k x) h) x (prio_of k x) k.ready p prio_inside) in
        now ∙ ap (λ z. one_if ((z && true) && (prio_of k x == p))) (sym a)
    resumed_own h p (suc m) true w = not_yet p ∙ sym (none_ready (prio_of k x) p ((task_at k x).alive && false) (ap (λ z. z && false) a))

    resumed_others : (h p m y : ℕ) (b : Bool) → x ≢ y → count_of y (list_at (resumed_ready b m (prio_of k x) h x k.ready) p) ≡ count_of y (list_at k.ready p)
    resumed_others h p m y false d = refl
    resumed_others h p zero y true d = count-joined_other (join_place (prio_of k x) h) x (prio_of k x) k.ready p y d prio_inside
    resumed_others h p (suc m) y true d = refl

    length-resumed : (b : Bool) (m h : ℕ) → length (resumed_ready b m (prio_of k x) h x k.ready) ≡ length k.ready
    length-resumed false m h = refl
    length-resumed true m h = length-woken_ready m (prio_of k x) h x k.ready

    one_task-resumed : (h : ℕ) → OneTask k (resumes (suc n) x h k).kernel x
    one_task-resumed h =
        let t = task_at k x in
        let i = v.tasks.each_task x in
        record {
          application = inside;
          tasks = length-set k.tasks x _;
          ready = length-resumed (waits_for_nothing t.waiting) n h;
          pend = refl;
          objects = refl;
          settings = refl;
          others = task-other k.tasks x (λ t. record t { suspended = n });
          task = subst (λ u. IsTask (length k.objects) u) (sym own-resumed)
              (record { prio_from = i.prio_from; prio_to = i.prio_to; base_from = i.base_from; objects = i.objects; few = i.few; different = i.different; lives = i.lives; reads = i.reads; suspended = omega (arith, i.suspended, e); count = i.count });
          lives = λ e. a;
          prio = λ e. subst (λ (u : Task). u.prio ≤ 62) (sym own-resumed) (v.tasks.above_idle x e);
          base = λ e. subst (λ (u : Task). u.base ≤ 62) (sym own-resumed) (v.tasks.bases x e);
          each_object = v.contents;
          ready_others = λ p y d. resumed_others h p n y (waits_for_nothing t.waiting) d;
          ready_own = λ p. resumed_own h p n (waits_for_nothing t.waiting) refl ∙ ap (λ (u : Task). one_if (is_ready u && (u.prio == p))) (sym own-resumed);
          pend_others = λ o y d. refl;
          pend_own = λ o. v.lists.waiters o x ∙ ap (λ (u : Task). if waits_for_nothing u.waiting then 0 else count_of o u.objects) (sym own-resumed);
          match_others = λ y d. refl;
          match_own = subst (λ (u : Task). count_of x (matched k.matches) ≤ (if waits_for_nothing u.waiting then 0 else 1)) (sym own-resumed) (v.matches.once_matched x);
          match_words = v.matches.match_words;
          tick_signals = refl;
          timer_signals = refl;
          processing = refl;
          in_callback = refl;
          ticks = refl;
          timer_count = refl;
          lock = v.lock.few;
          locked = v.lock.locked;
        }

    pub linked-resumes : (h : ℕ) → IsLinked (resumes (suc n) x h k).kernel
    linked-resumes h = linked-one_task k (resumes (suc n) x h k).kernel x v (one_task-resumed h)

  -- deletion
  own-ended : (o : Outcome) → task_at (task_ends o x k).kernel x ≡ deleted_task (task_at k x)
  own-ended o = task-updated k.tasks x deleted_task in_tasks

  ended_pend : (o : ℕ) (b : Bool) → waits_for_nothing (task_at k x).waiting ≡ b → count_of x (list_at (left_all x (if b then [] else (task_at k x).objects) k.pend) o) ≡ 0
  ended_pend o true w = free-absent k v x w o
  ended_pend o false w = count-left_all_here x (task_at k x).objects k.pend o (omega (arith, waits-count k v x w o))

  pub linked-task_ends : (o : Outcome) → IsLinked (task_ends o x k).kernel
  linked-task_ends o =
      let t = task_at k x in
      let i = v.tasks.each_task x in
      let j = (task_ends o x k).kernel in
      let dead : (task_at j x).alive ≡ false = ap (λ (u : Task). u.alive) (own-ended o) in
      linked-one_task k j x v
      (record {
        application = inside;
        tasks = length-set k.tasks x _;
        ready = length-left_ready (is_ready t) x t.prio k.ready;
        pend = length-left_all x (waited_objects t) k.pend;
        objects = refl;
        settings = refl;
        others = task-other k.tasks x deleted_task;
        task = subst (λ u. IsTask (length k.objects) u) (sym (own-ended o))
            (record { prio_from = i.prio_from; prio_to = i.prio_to; base_from = i.base_from; objects = i.objects; few = i.few; different = i.different; lives = λ e. absurd (true≢false e); reads = λ e. refl; suspended = i.suspended; count = i.count });
        lives = λ e. absurd (true≢false (sym e ∙ dead));
        prio = λ e. subst (λ (u : Task). u.prio ≤ 62) (sym (own-ended o)) (v.tasks.above_idle x e);
        base = λ e. subst (λ (u : Task). u.base ≤ 62) (sym (own-ended o)) (v.tasks.bases x e);
        each_object = v.contents;
        ready_others = λ p y d. left-others x t.prio k.ready (is_ready t) p y d;
        ready_own = λ p. left-gone k v x (is_ready t) refl p ∙ ap (λ (u : Task). one_if (is_ready u && (u.prio == p))) (sym (own-ended o));
        pend_others = λ q y d. count-left_all_other x (waited_objects t) k.pend q y d;
        pend_own = λ q. ended_pend q (waits_for_nothing t.waiting) refl ∙ ap (λ (u : Task). if waits_for_nothing u.waiting then 0 else count_of q u.objects) (sym (own-ended o));
        match_others = λ y d. count-unmatched_other x k.matches y d;
        match_own = omega (arith, count-unmatched_own x k.matches);
        match_words = unmatched-keeps (λ m. (m.0 < 60) × IsWord m.1) x k.matches v.matches.match_words;
        tick_signals = refl;
        timer_signals = refl;
        processing = refl;
        in_callback = refl;
        ticks = refl;
        timer_count = refl;
        lock = v.lock.few;
        locked = v.lock.locked;
      })
