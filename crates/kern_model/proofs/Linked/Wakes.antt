-- What keeps the kernel linked: a wake, a block, a change of content, the end of a wait, a trap.
use Rattle.kern_model.proofs.Common.{◌≡◌, ◌≢◌, ℕ, zero, suc, ◌<◌, ◌≤◌, ◌+◌, ◌^◌, List, [], ◌∷◌, ◌++◌, length, refl, sym, ap, ◌∙◌, subst, Bool, true, false, ◌&&◌, arith, inl, inr, All, ◌==◌, ◌%◌, if◌then◌else◌, Finished, Kernel, Task, list_at, update_list, task_at, prio_of, count_of, without, is_ready, is_zero, waits_for_nothing, Wait, wakes, wakes_all, answered_task, woken_ready, blocked, waiting_task, new_match, join_place, IsLinked, IsTask, IsWord, AllWait, one_if, matched, has_result}
use Rattle.std.proofs.lemmas.List.{length-set}
use Rattle.std.proofs.lemmas.List.Elements.{All-nil, All-append, All-cons}
use Rattle.std.proofs.lemmas.Bool.{false≢true, true≢false, cases_lt}
use Rattle.std.proofs.lemmas.Bool.Decides.{eqb_tells}
use Rattle.kern_model.proofs.Linked.TaskChanges.{OneTask, linked-one_task}
use Rattle.kern_model.proofs.Basics.Updates.{length-left_all, length-woken_ready, length-stands_in, task-updated, task-other}
use Rattle.kern_model.proofs.Lists.Members.{count-joined_other, count-joined_own, count-left_other, count-left_here, count-left_none, count-left_all_other, count-left_all_here, count-stands_in_other, count-stands_in_own, count-unmatched_other, count-unmatched_own, unmatched-keeps}

-- facts of tests
pub self_equal : (n : ℕ) → (n == n) ≡ true
self_equal n = elim (eqb_tells n n) [ inl e ↦ e.0 | inr e ↦ absurd (e.1 refl) ]

pub no_ready : (a b c : Bool) → b ≡ false → a && (b && c) ≡ false
no_ready true b c h = ap (λ z. z && c) h
no_ready false b c h = refl

pub ready_alive : (a b c : Bool) → a && (b && c) ≡ true → a ≡ true
ready_alive true b c h = refl
ready_alive false b c h = h

pub ready_free : (a b c : Bool) → a && (b && c) ≡ true → b ≡ true
ready_free true true c h = refl
ready_free true false c h = h
ready_free false b c h = absurd (false≢true h)

pub ready_running : (a b c : Bool) → a && (b && c) ≡ true → c ≡ true
ready_running true true c h = h
ready_running true false c h = absurd (false≢true h)
ready_running false b c h = absurd (false≢true h)

pub none_ready : (p q : ℕ) (b : Bool) → b ≡ false → one_if (b && (p == q)) ≡ 0
none_ready p q b h = ap (λ z. one_if (z && (p == q))) h

suspended_not : (a b : Bool) → 0 ≡ one_if ((a && false) && b)
suspended_not true b = refl
suspended_not false b = refl

pub count_matched-append : (y : ℕ) (ms ns : List (ℕ × ℕ)) → count_of y (matched (ms ++ ns)) ≡ count_of y (matched ms) + count_of y (matched ns)
count_matched-append y [] ns = omega arith
count_matched-append y (m ∷ ms) ns = omega (arith, count_matched-append y ms ns)

-- a task that is not ready stands in no ready list
pub not_ready-absent : (k : Kernel) → IsLinked k → (x : ℕ) → is_ready (task_at k x) ≡ false → (p : ℕ) → count_of x (list_at k.ready p) ≡ 0
not_ready-absent k v x h p = v.lists.stands p x ∙ none_ready (prio_of k x) p (is_ready (task_at k x)) h

-- a task that waits for nothing stands in no pend list, and has no match
pub free-absent : (k : Kernel) → IsLinked k → (x : ℕ) → waits_for_nothing (task_at k x).waiting ≡ true → (o : ℕ) → count_of x (list_at k.pend o) ≡ 0
free-absent k v x h o = v.lists.waiters o x ∙ ap (λ b. if b then 0 else count_of o (task_at k x).objects) h

pub free-unmatched : (k : Kernel) → IsLinked k → (x : ℕ) → waits_for_nothing (task_at k x).waiting ≡ true → count_of x (matched k.matches) ≡ 0
free-unmatched k v x h =
    let most : count_of x (matched k.matches) ≤ 0 = subst (λ (b : Bool). count_of x (matched k.matches) ≤ (if b then 0 else 1)) h (v.matches.once_matched x) in
    omega (arith, most)

-- a task that waits stands as often in the list of an object as the object among its own
pub waits-count : (k : Kernel) → IsLinked k → (x : ℕ) → waits_for_nothing (task_at k x).waiting ≡ false → (o : ℕ) → count_of x (list_at k.pend o) ≡ count_of o (task_at k x).objects
waits-count k v x h o = v.lists.waiters o x ∙ ap (λ b. if b then 0 else count_of o (task_at k x).objects) h

-- a living application task is a declared one
pub alive-declared : (k : Kernel) → IsLinked k → (x : ℕ) → x < 60 → (task_at k x).alive ≡ true → x < k.settings.tasks
alive-declared k v x l a =
    elim (cases_lt x k.settings.tasks) [ inl h ↦ h | inr h ↦ absurd (false≢true (sym (v.tasks.declared x h l) ∙ a)) ]

module _ (k : Kernel) (v : IsLinked k) (x : ℕ) (inside : x < 60) where
  in_tasks : x < length k.tasks
  in_tasks = omega (arith, v.sizes.tasks)

  prio_inside : prio_of k x < length k.ready
  prio_inside = omega (arith, v.sizes.ready, (v.tasks.each_task x).prio_to)

  pend_inside : (os : List ℕ) → All (λ o. o < length k.objects) os → All (λ o. o < length k.pend) os
  pend_inside os h = subst (λ n. All (λ o. o < n) os) (sym v.sizes.pend) h

  -- a wake
  module _ (f : Finished) (h : ℕ) (w : waits_for_nothing (task_at k x).waiting ≡ false) where
    woken_own : (p n : ℕ) → count_of x (list_at (woken_ready n (prio_of k x) h x k.ready) p) ≡ one_if (((task_at k x).alive && (true && is_zero n)) && (prio_of k x == p))
    woken_own p zero =
        let before = not_ready-absent k v x (no_ready (task_at k x).alive (waits_for_nothing (task_at k x).waiting) (is_zero (task_at k x).suspended) w) p in
        let now : count_of x (list_at (woken_ready zero (prio_of k x) h x k.ready) p) ≡ one_if (prio_of k x == p) =
        omega (arith, before, count-joined_own (join_place (prio_of k x) h) x (prio_of k x) k.ready p prio_inside) in
        now ∙ ap (λ a. one_if ((a && true) && (prio_of k x == p))) (sym ((v.tasks.each_task x).lives w))
    woken_own p (suc n) =
        not_ready-absent k v x (no_ready (task_at k x).alive (waits_for_nothing (task_at k x).waiting) (is_zero (task_at k x).suspended) w) p
        ∙ suspended_not (task_at k x).alive (prio_of k x == p)

    woken_others : (p n y : ℕ) → x ≢ y → count_of y (list_at (woken_ready n (prio_of k x) h x k.ready) p) ≡ count_of y (list_at k.ready p)
    woken_others p zero y d = count-joined_other (join_place (prio_of k x) h) x (prio_of k x) k.ready p y d prio_inside
    woken_others p (suc n) y d = refl

    own-wakes : task_at (wakes f h x k) x ≡ answered_task f (task_at k x)
    own-wakes = task-updated k.tasks x (answered_task f) in_tasks

    one_task-wakes : OneTask k (wakes f h x k) x
    one_task-wakes =
        let t = task_at k x in
        record {
          application = inside;
          tasks = length-set k.tasks x _;
          ready = length-woken_ready t.suspended t.prio h x k.ready;
          pend = length-left_all x t.objects k.pend;
          objects = refl;
          settings = refl;
          others = task-other k.tasks x (answered_task f);
          task = subst (λ u. IsTask (length k.objects) u) (sym own-wakes) (answered_valid (length k.objects) t (v.tasks.each_task x));
          lives = λ a. ap (λ (u : Task). u.alive) (sym own-wakes) ∙ a;
          prio = λ a. subst (λ (u : Task). u.prio ≤ 62) (sym own-wakes) (v.tasks.above_idle x a);
          base = λ a. subst (λ (u : Task). u.base ≤ 62) (sym own-wakes) (v.tasks.bases x a);
          each_object = v.contents;
          ready_others = λ p y d. woken_others p t.suspended y d;
          ready_own = λ p. woken_own p t.suspended ∙ ap (λ (u : Task). one_if (is_ready u && (u.prio == p))) (sym own-wakes);
          pend_others = λ o y d. count-left_all_other x t.objects k.pend o y d;
          pend_own = λ o. count-left_all_here x t.objects k.pend o (omega (arith, waits-count k v x w o))
              ∙ ap (λ (u : Task). if waits_for_nothing u.waiting then 0 else count_of o u.objects) (sym own-wakes);
          match_others = λ y d. count-unmatched_other x k.matches y d;
          match_own = omega (arith, count-unmatched_own x k.matches);
          match_words = unmatched-keeps (λ m. (m.0 < 60) × IsWord m.1) x k.matches v.matches.match_words;
          tick_signals = refl;
          timer_signals = refl;
          processing = refl;
          in_callback = refl;
          ticks = refl;
          timer_count = refl;
          lock = v.lock.few;
          locked = v.lock.locked;
        }
      where
        answered_valid : (n : ℕ) (t : Task) → IsTask n t → IsTask n (answered_task f t)
        answered_valid n t i =
            record {
              prio_from = i.prio_from;
              prio_to = i.prio_to;
              base_from = i.base_from;
              objects = i.objects;
              few = i.few;
              different = i.different;
              lives = λ e. absurd (true≢false e);
              reads = λ e. absurd (true≢false e);
              suspended = i.suspended;
              count = i.count;
            }

    pub linked-wakes : IsLinked (wakes f h x k)
    linked-wakes = linked-one_task k (wakes f h x k) x v one_task-wakes

  -- a block of a ready task for which no result waits
  module _ (w : Wait) (r : is_ready (task_at k x) ≡ true) (a : has_result (task_at k x).answered ≡ false) (some : waits_for_nothing w.waiting ≡ false) (os : All (λ o. o < length k.objects) w.objects) (few : length w.objects ≤ 8) (different : (o : ℕ) → count_of o w.objects ≤ 1) where
    own-blocked : task_at (blocked k x w) x ≡ waiting_task w (task_at k x)
    own-blocked = task-updated k.tasks x (waiting_task w) in_tasks

    free : waits_for_nothing (task_at k x).waiting ≡ true
    free = ready_free (task_at k x).alive (waits_for_nothing (task_at k x).waiting) (is_zero (task_at k x).suspended) r

    blocked_own : (p : ℕ) → count_of x (list_at (update_list k.ready (prio_of k x) (without x)) p) ≡ one_if (is_ready (waiting_task w (task_at k x)) && (prio_of k x == p))
    blocked_own p =
        gone ∙ sym (none_ready (prio_of k x) p (is_ready (waiting_task w (task_at k x))) (no_ready (task_at k x).alive (waits_for_nothing w.waiting) (is_zero (task_at k x).suspended) some))
      where
        gone : count_of x (list_at (update_list k.ready (prio_of k x) (without x)) p) ≡ 0
        gone =
            elim (eqb_tells (prio_of k x) p) [
              | inl e ↦ subst (λ z. count_of x (list_at (update_list k.ready (prio_of k x) (without x)) z) ≡ 0) e.1 (count-left_here x (prio_of k x) k.ready)
              | inr e ↦ count-left_none x (prio_of k x) k.ready p (v.lists.stands p x ∙ ap (λ b. one_if (b && (prio_of k x == p))) r ∙ ap one_if e.0)
            ]

    pend_in : All (λ o. o < length k.pend) w.objects
    pend_in = pend_inside w.objects os

    one_task-blocked : OneTask k (blocked k x w) x
    one_task-blocked =
        let t = task_at k x in
        record {
          application = inside;
          tasks = length-set k.tasks x _;
          ready = length-set k.ready t.prio _;
          pend = length-stands_in (prio_of k) x t.prio w.objects k.pend;
          objects = refl;
          settings = refl;
          others = task-other k.tasks x (waiting_task w);
          task = subst (λ u. IsTask (length k.objects) u) (sym own-blocked) waiting_valid;
          lives = λ e. ap (λ (u : Task). u.alive) (sym own-blocked) ∙ e;
          prio = λ e. subst (λ (u : Task). u.prio ≤ 62) (sym own-blocked) (v.tasks.above_idle x e);
          base = λ e. subst (λ (u : Task). u.base ≤ 62) (sym own-blocked) (v.tasks.bases x e);
          each_object = v.contents;
          ready_others = λ p y d. count-left_other x t.prio k.ready p y d;
          ready_own = λ p. blocked_own p ∙ ap (λ (u : Task). one_if (is_ready u && (u.prio == p))) (sym own-blocked);
          pend_others = λ o y d. count-stands_in_other (prio_of k) x t.prio w.objects k.pend o y d pend_in;
          pend_own = λ o. count-stands_in_own (prio_of k) x t.prio w.objects k.pend o pend_in
              ∙ ap (λ n. count_of o w.objects + n) (free-absent k v x free o) ∙ omega arith
              ∙ ap (λ b. if b then 0 else count_of o w.objects) (sym some)
              ∙ ap (λ (u : Task). if waits_for_nothing u.waiting then 0 else count_of o u.objects) (sym own-blocked);
          match_others = λ y d. new_others w.timeout y d;
          match_own = subst (λ (u : Task). count_of x (matched (k.matches ++ new_match x w.timeout k.ticks)) ≤ (if waits_for_nothing u.waiting then 0 else 1)) (sym own-blocked)
              (subst (λ (b : Bool). count_of x (matched (k.matches ++ new_match x w.timeout k.ticks)) ≤ (if b then 0 else 1)) (sym some) (new_own w.timeout));
          match_words = new_words w.timeout;
          tick_signals = refl;
          timer_signals = refl;
          processing = refl;
          in_callback = refl;
          ticks = refl;
          timer_count = refl;
          lock = v.lock.few;
          locked = v.lock.locked;
        }
      where
        alive : (task_at k x).alive ≡ true
        alive = ready_alive (task_at k x).alive (waits_for_nothing (task_at k x).waiting) (is_zero (task_at k x).suspended) r

        waiting_valid : IsTask (length k.objects) (waiting_task w (task_at k x))
        waiting_valid =
            let i = v.tasks.each_task x in
            record {
              prio_from = i.prio_from;
              prio_to = i.prio_to;
              base_from = i.base_from;
              objects = os;
              few = few;
              different = different;
              lives = λ e. alive;
              reads = λ e. a;
              suspended = i.suspended;
              count = i.count;
            }

        new_others : (n y : ℕ) → x ≢ y → count_of y (matched (k.matches ++ new_match x n k.ticks)) ≡ count_of y (matched k.matches)
        new_others zero y d = omega (arith, count_matched-append y k.matches [])
        new_others (suc n) y d =
            let m : ℕ × ℕ = (x, (k.ticks + suc n) % 2 ^ 32) in
            elim (eqb_tells x y) as (λ _. count_of y (matched (k.matches ++ m ∷ [])) ≡ count_of y (matched k.matches)) [
              | inl e ↦ absurd (d e.1)
              | inr e ↦ omega (arith, count_matched-append y k.matches (m ∷ []), ap one_if e.0)
            ]

        new_own : (n : ℕ) → count_of x (matched (k.matches ++ new_match x n k.ticks)) ≤ 1
        new_own zero = omega (arith, count_matched-append x k.matches [], free-unmatched k v x free)
        new_own (suc n) =
            let m : ℕ × ℕ = (x, (k.ticks + suc n) % 2 ^ 32) in
            omega (arith, count_matched-append x k.matches (m ∷ []), free-unmatched k v x free, ap one_if (self_equal x))

        new_word : (n : ℕ) → All (λ m. (m.0 < 60) × IsWord m.1) (new_match x n k.ticks)
        new_word zero = All-nil (λ m. (m.0 < 60) × IsWord m.1)
        new_word (suc n) = All-cons (λ m. (m.0 < 60) × IsWord m.1) (x, (k.ticks + suc n) % 2 ^ 32) [] (inside, grind arith) (All-nil (λ m. (m.0 < 60) × IsWord m.1))

        new_words : (n : ℕ) → All (λ m. (m.0 < 60) × IsWord m.1) (k.matches ++ new_match x n k.ticks)
        new_words n = All-append (λ m. (m.0 < 60) × IsWord m.1) k.matches (new_match x n k.ticks) v.matches.match_words (new_word n)

    pub linked-blocked : IsLinked (blocked k x w)
    linked-blocked = linked-one_task k (blocked k x w) x v one_task-blocked

-- to wake several
pub AllWait-wakes : (f : Finished) (h x : ℕ) (k : Kernel) (xs : List ℕ) → count_of x xs ≡ 0 → AllWait k xs → AllWait (wakes f h x k) xs
AllWait-wakes f h x k [] none w = tt
AllWait-wakes f h x k (y ∷ ys) none w =
    elim (eqb_tells y x) [
      | inl e ↦ let no : one_if (y == x) ≡ 1 = ap one_if e.0 in absurd (omega arith)
      | inr e ↦ let others : count_of x ys ≡ 0 = omega arith in
          (w.0, ap (λ u. waits_for_nothing u.waiting) (task-other k.tasks x (answered_task f) y (λ d. e.1 (sym d))) ∙ w.1, w.2, AllWait-wakes f h x k ys others w.3)
    ]

pub linked-wakes_all : (f : Task → Finished) (h : ℕ) (xs : List ℕ) (k : Kernel) → IsLinked k → AllWait k xs → IsLinked (wakes_all f h xs k)
linked-wakes_all f h [] k v w = v
linked-wakes_all f h (x ∷ xs) k v w =
    let g = f (task_at k x) in
    linked-wakes_all f h xs (wakes g h x k) (linked-wakes k v x w.0 g h w.1) (AllWait-wakes g h x k xs w.2 w.3)
