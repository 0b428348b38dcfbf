-- What else keeps the kernel linked: changes of a task that do not touch its standing, of the counters and the lock, and of the
-- order in ready lists; signals; suspension; deletion; and moves to another priority.
use Rattle.kern_model.proofs.Common.{◌≡◌, ◌≢◌, ◌⊎◌, ℕ, ◌<◌, ◌≤◌, ◌+◌, List, [], length, get_or, refl, sym, ap, ◌∙◌, subst, Bool, true, false, ◌&&◌, not, arith, inl, inr, Option, All, ◌==◌, if◌then◌else◌, Waiting, Finished, No, Signal, Kernel, Task, list_at, update_list, update_task, with_task, no_task, task_at, prio_of, count_of, without, is_ready, is_zero, waits_for_nothing, joined, IsLinked, IsTask, IsAboveIdle, IsWord, one_if, matched, has_result}
use Rattle.std.proofs.lemmas.List.{length-set}
use Rattle.std.proofs.lemmas.Bool.Decides.{eqb_tells}
use Rattle.kern_model.proofs.Basics.Updates.{update_task_same, update_task_keeps, update_task_at}
use Rattle.kern_model.proofs.Lists.Members.{count-joined_other, count-joined_own, count-left_other, count-left_here, count-left_none}

-- what a linked kernel says of a task's standing
pub record Seen : Type 0 where
  pub prio : ℕ
  pub alive : Bool
  pub waiting : Waiting
  pub objects : List ℕ
  pub suspended : ℕ
  pub answered : Option Finished

abbrev pub seen : Task → Seen
seen t = record { prio = t.prio; alive = t.alive; waiting = t.waiting; objects = t.objects; suspended = t.suspended; answered = t.answered }

-- a task with the same standing
pub task-seen : (n : ℕ) (t u : Task) → seen u ≡ seen t → 1 ≤ u.base → IsWord u.count → IsTask n t → IsTask n u
task-seen n t u e base count i =
    record {
      prio_from = subst (λ (s : Seen). 1 ≤ s.prio) (sym e) i.prio_from;
      prio_to = subst (λ (s : Seen). s.prio ≤ 63) (sym e) i.prio_to;
      base_from = base;
      objects = subst (λ (s : Seen). All (λ o. o < n) s.objects) (sym e) i.objects;
      few = subst (λ (s : Seen). length s.objects ≤ 8) (sym e) i.few;
      different = subst (λ (s : Seen). (o : ℕ) → count_of o s.objects ≤ 1) (sym e) i.different;
      lives = subst (λ (s : Seen). waits_for_nothing s.waiting ≡ false → s.alive ≡ true) (sym e) i.lives;
      reads = subst (λ (s : Seen). waits_for_nothing s.waiting ≡ false → has_result s.answered ≡ false) (sym e) i.reads;
      suspended = subst (λ (s : Seen). s.suspended ≤ 250) (sym e) i.suspended;
      count = count;
    }

-- a base priority that stays, or that of an application task, which becomes at most 62
abbrev pub SameOrBelow : ℕ → ℕ → ℕ → Type 0
SameOrBelow x old new = (new ≡ old) ⊎ ((x < 60) × (new ≤ 62))

-- a change of a task that does not touch its standing
pub linked-plain : (k : Kernel) (x : ℕ) (f : Task → Task) → ((t : Task) → seen (f t) ≡ seen t) → 1 ≤ (f (task_at k x)).base → IsWord (f (task_at k x)).count → SameOrBelow x (task_at k x).base (f (task_at k x)).base → IsLinked k → IsLinked (with_task k x f)
linked-plain k x f h from count base v =
    record {
      sizes = record { tasks = length-set k.tasks x _ ∙ v.sizes.tasks; ready = v.sizes.ready; pend = v.sizes.pend; objects = v.sizes.objects; application = v.sizes.application };
      tasks = record {
        each_task = update_task_keeps (λ t. IsTask (length k.objects) t) f k.tasks x (task-seen (length k.objects) (task_at k x) (f (task_at k x)) (h (task_at k x)) from count) v.tasks.each_task;
        declared = λ y l i. ap (λ (s : Seen). s.alive) (same y) ∙ v.tasks.declared y l i;
        above_idle = λ y d. subst (λ (s : Seen). s.prio ≤ 62) (sym (same y)) (v.tasks.above_idle y d);
        bases = update_task_at (λ y t. IsAboveIdle k.settings.tasks y → t.base ≤ 62) f k.tasks x (λ b d. below base (b d)) v.tasks.bases;
      };
      contents = v.contents;
      lists = record {
        stands = λ p y. v.lists.stands p y ∙ ap (λ (s : Seen). one_if ((s.alive && (waits_for_nothing s.waiting && is_zero s.suspended)) && (s.prio == p))) (sym (same y));
        waiters = λ o y. v.lists.waiters o y ∙ ap (λ (s : Seen). if waits_for_nothing s.waiting then 0 else count_of o s.objects) (sym (same y));
      };
      matches = record {
        once_matched = λ y. subst (λ (s : Seen). count_of y (matched k.matches) ≤ (if waits_for_nothing s.waiting then 0 else 1)) (sym (same y)) (v.matches.once_matched y);
        match_words = v.matches.match_words;
      };
      internal = record {
        no_objects = λ y i. subst (λ (s : Seen). (s.objects ≡ []) × (has_result s.answered ≡ false)) (sym (same y)) (v.internal.no_objects y i);
        handler = ap (λ (s : Seen). s.alive) (same 63) ∙ v.internal.handler;
        idle = ap (λ (s : Seen). s.alive && (waits_for_nothing s.waiting && is_zero s.suspended)) (same 62) ∙ v.internal.idle;
        idle_prio = ap (λ (s : Seen). s.prio) (same 62) ∙ v.internal.idle_prio;
        idle_base = update_task_at (λ y t. y ≡ 62 → t.base ≡ 63) f k.tasks x (λ b e. idles base e (b e)) (λ y e. subst (λ z. (task_at k z).base ≡ 63) (sym e) v.internal.idle_base) 62 refl;
        tick_lives = subst (λ (s : Seen). (s.alive ≡ true) × (s.suspended ≡ 0)) (sym (same 60)) v.internal.tick_lives;
        timer_lives = subst (λ (s : Seen). (s.alive ≡ true) × (s.suspended ≡ 0)) (sym (same 61)) v.internal.timer_lives;
        tick_waits = ap (λ (s : Seen). s.waiting) (same 60) ∙ v.internal.tick_waits;
        timer_waits = ap (λ (s : Seen). s.waiting) (same 61) ∙ v.internal.timer_waits;
      };
      lock = v.lock;
      clocks = v.clocks;
    }
  where
    same : (y : ℕ) → seen (get_or (update_task k.tasks x f) y no_task) ≡ seen (task_at k y)
    same = update_task_same seen f h k.tasks x

    below : SameOrBelow x (task_at k x).base (f (task_at k x)).base → (task_at k x).base ≤ 62 → (f (task_at k x)).base ≤ 62
    below (inl e) l = omega (arith, e, l)
    below (inr e) l = e.1

    idles : SameOrBelow x (task_at k x).base (f (task_at k x)).base → x ≡ 62 → (task_at k x).base ≡ 63 → (f (task_at k x)).base ≡ 63
    idles (inl e) s b = e ∙ b
    idles (inr e) s b = absurd (omega (arith, s, e.0))

-- the counters and the lock
pub linked-scalars : (k : Kernel) (timer_matches : List (ℕ × ℕ)) (ticks timer_count tick_signals timer_signals tick_calls : ℕ) (processing in_callback : Bool) (lock free : ℕ) → IsWord ticks → IsWord timer_count → ((task_at k 60).waiting ≡ (if is_zero tick_signals then Signal else No)) → ((task_at k 61).waiting ≡ (if is_zero timer_signals && not processing then Signal else No)) → lock ≤ 250 → (processing ≡ true → 0 < lock) → (in_callback ≡ true → processing ≡ true) → IsLinked k
    → IsLinked (record k { timer_matches = timer_matches; ticks = ticks; timer_count = timer_count; tick_signals = tick_signals; timer_signals = timer_signals; tick_calls = tick_calls; processing = processing; in_callback = in_callback; lock = lock; free = free })
linked-scalars k timer_matches ticks timer_count tick_signals timer_signals tick_calls processing in_callback lock free t c tick timer l p i v =
    record {
      sizes = v.sizes;
      tasks = v.tasks;
      contents = v.contents;
      lists = v.lists;
      matches = v.matches;
      internal = record { no_objects = v.internal.no_objects; handler = v.internal.handler; idle = v.internal.idle; idle_prio = v.internal.idle_prio; idle_base = v.internal.idle_base; tick_lives = v.internal.tick_lives; timer_lives = v.internal.timer_lives; tick_waits = tick; timer_waits = timer };
      lock = record { few = l; locked = p; callback = i };
      clocks = record { ticks = t; timer_count = c };
    }

pub linked-free : (k : Kernel) (n : ℕ) → IsLinked k → IsLinked (record k { free = n })
linked-free k n v =
    linked-scalars k k.timer_matches k.ticks k.timer_count k.tick_signals k.timer_signals k.tick_calls k.processing k.in_callback k.lock n v.clocks.ticks v.clocks.timer_count v.internal.tick_waits v.internal.timer_waits v.lock.few v.lock.locked v.lock.callback v

pub linked-timer_matches : (k : Kernel) (ms : List (ℕ × ℕ)) → IsLinked k → IsLinked (record k { timer_matches = ms })
linked-timer_matches k ms v =
    linked-scalars k ms k.ticks k.timer_count k.tick_signals k.timer_signals k.tick_calls k.processing k.in_callback k.lock k.free v.clocks.ticks v.clocks.timer_count v.internal.tick_waits v.internal.timer_waits v.lock.few v.lock.locked v.lock.callback v

pub linked-tick_calls : (k : Kernel) (n : ℕ) → IsLinked k → IsLinked (record k { tick_calls = n })
linked-tick_calls k n v =
    linked-scalars k k.timer_matches k.ticks k.timer_count k.tick_signals k.timer_signals n k.processing k.in_callback k.lock k.free v.clocks.ticks v.clocks.timer_count v.internal.tick_waits v.internal.timer_waits v.lock.few v.lock.locked v.lock.callback v

pub linked-locked : (k : Kernel) (n : ℕ) → n ≤ 250 → (k.processing ≡ true → 0 < n) → IsLinked k → IsLinked (record k { lock = n })
linked-locked k n l p v =
    linked-scalars k k.timer_matches k.ticks k.timer_count k.tick_signals k.timer_signals k.tick_calls k.processing k.in_callback n k.free v.clocks.ticks v.clocks.timer_count v.internal.tick_waits v.internal.timer_waits l p v.lock.callback v

-- another order in the ready lists
pub linked-ready : (k : Kernel) (lists : List (List ℕ)) → length lists ≡ length k.ready → ((p x : ℕ) → count_of x (list_at lists p) ≡ count_of x (list_at k.ready p)) → IsLinked k → IsLinked (record k { ready = lists })
linked-ready k lists n same v =
    record {
      sizes = record { tasks = v.sizes.tasks; ready = n ∙ v.sizes.ready; pend = v.sizes.pend; objects = v.sizes.objects; application = v.sizes.application };
      tasks = v.tasks;
      contents = v.contents;
      lists = record { stands = λ p x. same p x ∙ v.lists.stands p x; waiters = v.lists.waiters };
      matches = v.matches;
      internal = v.internal;
      lock = v.lock;
      clocks = v.clocks;
    }

-- a ready task leaves its place in its list for another
pub linked-rotated : (k : Kernel) (place : List ℕ → ℕ) (x p : ℕ) → is_ready (task_at k x) ≡ true → prio_of k x ≡ p → IsLinked k → IsLinked (record k { ready = joined place x p (update_list k.ready p (without x)) })
linked-rotated k place x p r e v =
    linked-ready k (joined place x p left) (length-set left p _ ∙ length-set k.ready p _) (λ q y. same q y (eqb_tells x y)) v
  where
    left : List (List ℕ)
    left = update_list k.ready p (without x)

    inside : p < length left
    inside = omega (arith, length-set k.ready p (without x (list_at k.ready p)), v.sizes.ready, (v.tasks.each_task x).prio_to, e)

    gone : (q : ℕ) → (p ≡ q) ⊎ (p ≢ q) → count_of x (list_at left q) ≡ 0
    gone q (inl s) = subst (λ z. count_of x (list_at left z) ≡ 0) s (count-left_here x p k.ready)
    gone q (inr d) = count-left_none x p k.ready q (v.lists.stands q x ∙ not_here)
      where
        not_here : one_if (is_ready (task_at k x) && (prio_of k x == q)) ≡ 0
        not_here = elim (eqb_tells (prio_of k x) q) as (λ _. one_if (is_ready (task_at k x) && (prio_of k x == q)) ≡ 0) [ inl s ↦ absurd (d (sym e ∙ s.1)) | inr s ↦ ap (λ b. one_if (is_ready (task_at k x) && b)) s.0 ∙ ap (λ b. one_if (b && false)) r ]

    decide : (q : ℕ) → (p ≡ q) ⊎ (p ≢ q)
    decide q = elim (eqb_tells p q) [ inl s ↦ inl s.1 | inr s ↦ inr s.1 ]

    same : (q y : ℕ) → ((x == y) ≡ true) × (x ≡ y) ⊎ ((x == y) ≡ false) × (x ≢ y) → count_of y (list_at (joined place x p left) q) ≡ count_of y (list_at k.ready q)
    same q y (inl s) = subst (λ z. count_of z (list_at (joined place x p left) q) ≡ count_of z (list_at k.ready q)) s.1
        (count-joined_own place x p left q inside
        ∙ ap (λ n. one_if (p == q) + n) (gone q (decide q))
        ∙ omega arith
        ∙ ap (λ n. one_if (n == q)) (sym e)
        ∙ ap (λ b. one_if (b && (prio_of k x == q))) (sym r)
        ∙ sym (v.lists.stands q x))
    same q y (inr s) = count-joined_other place x p left q y s.1 inside ∙ count-left_other x p k.ready q y s.1
