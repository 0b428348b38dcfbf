-- A change of one task and its places in the lists keeps the kernel linked.
use Rattle.kern_model.proofs.Common.{◌≡◌, ◌≢◌, ℕ, ◌<◌, ◌≤◌, [], length, refl, sym, ap, ◌∙◌, subst, Bool, true, false, ◌&&◌, not, arith, inl, inr, All, ◌==◌, if◌then◌else◌, No, Signal, Kernel, Task, list_at, task_at, prio_of, object_at, count_of, is_ready, is_zero, waits_for_nothing, IsLinked, IsTask, IsAboveIdle, IsContent, IsWord, one_if, matched, has_result}
use Rattle.std.proofs.lemmas.Bool.Decides.{eqb_tells}

-- what is so of the tasks that are no application's, and of the lock and the clocks
pub record Internals (k : Kernel) : Type 0 where
  pub internal : (x : ℕ) → 60 ≤ x → ((task_at k x).objects ≡ []) × (has_result (task_at k x).answered ≡ false)
  pub handler : (task_at k 63).alive ≡ false
  pub idle : is_ready (task_at k 62) ≡ true
  pub idle_prio : prio_of k 62 ≡ 63
  pub idle_base : (task_at k 62).base ≡ 63
  pub tick_lives : ((task_at k 60).alive ≡ true) × ((task_at k 60).suspended ≡ 0)
  pub timer_lives : ((task_at k 61).alive ≡ true) × ((task_at k 61).suspended ≡ 0)
  pub tick_waits : (task_at k 60).waiting ≡ (if is_zero k.tick_signals then Signal else No)
  pub timer_waits : (task_at k 61).waiting ≡ (if is_zero k.timer_signals && not k.processing then Signal else No)
  pub lock : k.lock ≤ 250
  pub locked : k.processing ≡ true → 0 < k.lock
  pub callback : k.in_callback ≡ true → k.processing ≡ true
  pub ticks : IsWord k.ticks
  pub timer_count : IsWord k.timer_count

-- k becomes j by a change of one task and its places in the lists
pub record Change (k j : Kernel) (x : ℕ) : Type 0 where
  pub tasks : length j.tasks ≡ length k.tasks
  pub ready : length j.ready ≡ length k.ready
  pub pend : length j.pend ≡ length k.pend
  pub objects : length j.objects ≡ length k.objects
  pub settings : j.settings ≡ k.settings
  pub others : (y : ℕ) → x ≢ y → task_at j y ≡ task_at k y
  pub task : IsTask (length k.objects) (task_at j x)
  pub lives : (task_at j x).alive ≡ true → (task_at k x).alive ≡ true
  pub prio : IsAboveIdle k.settings.tasks x → prio_of j x ≤ 62
  pub base : IsAboveIdle k.settings.tasks x → (task_at j x).base ≤ 62
  pub each_object : (o : ℕ) → IsContent (object_at j o).content
  pub ready_others : (p y : ℕ) → x ≢ y → count_of y (list_at j.ready p) ≡ count_of y (list_at k.ready p)
  pub ready_own : (p : ℕ) → count_of x (list_at j.ready p) ≡ one_if (is_ready (task_at j x) && (prio_of j x == p))
  pub pend_others : (o y : ℕ) → x ≢ y → count_of y (list_at j.pend o) ≡ count_of y (list_at k.pend o)
  pub pend_own : (o : ℕ) → count_of x (list_at j.pend o) ≡ (if waits_for_nothing (task_at j x).waiting then 0 else count_of o (task_at j x).objects)
  pub match_others : (y : ℕ) → x ≢ y → count_of y (matched j.matches) ≡ count_of y (matched k.matches)
  pub match_own : count_of x (matched j.matches) ≤ (if waits_for_nothing (task_at j x).waiting then 0 else 1)
  pub match_words : All (λ m. (m.0 < 60) × IsWord m.1) j.matches
  pub internals : Internals j

-- a fact of x and a fact of all others
by_task : (P : ℕ → Type 0) (x : ℕ) → P x → ((y : ℕ) → x ≢ y → P y) → (y : ℕ) → P y
by_task P x own others y = elim (eqb_tells x y) [ inl e ↦ subst P e.1 own | inr e ↦ others y e.1 ]

pub linked-change : (k j : Kernel) (x : ℕ) → IsLinked k → Change k j x → IsLinked j
linked-change k j x v c =
    record {
      sizes = record {
        tasks = c.tasks ∙ v.sizes.tasks;
        ready = c.ready ∙ v.sizes.ready;
        pend = c.pend ∙ v.sizes.pend ∙ sym c.objects;
        objects = subst (λ n. n ≤ 64) (sym c.objects) v.sizes.objects;
        application = subst (λ s. s.tasks ≤ 60) (sym c.settings) v.sizes.application;
      };
      tasks = record {
        each_task = by_task (λ y. IsTask (length j.objects) (task_at j y)) x
            (subst (λ n. IsTask n (task_at j x)) (sym c.objects) c.task)
            (λ y d. subst (λ n. IsTask n (task_at j y)) (sym c.objects) (subst (λ t. IsTask (length k.objects) t) (sym (c.others y d)) (v.tasks.each_task y)));
        declared = by_task (λ y. j.settings.tasks ≤ y → y < 60 → (task_at j y).alive ≡ false) x
            (λ h i. gone (task_at j x).alive (λ a. sym (v.tasks.declared x (subst (λ s. s.tasks ≤ x) c.settings h) i) ∙ c.lives a))
            (λ y d h i. ap (λ (t : Task). t.alive) (c.others y d) ∙ v.tasks.declared y (subst (λ s. s.tasks ≤ y) c.settings h) i);
        above_idle = subst (λ s. (y : ℕ) → IsAboveIdle s.tasks y → prio_of j y ≤ 62) (sym c.settings)
            (by_task (λ y. IsAboveIdle k.settings.tasks y → prio_of j y ≤ 62) x c.prio (λ y d h. subst (λ (t : Task). t.prio ≤ 62) (sym (c.others y d)) (v.tasks.above_idle y h)));
        bases = subst (λ s. (y : ℕ) → IsAboveIdle s.tasks y → (task_at j y).base ≤ 62) (sym c.settings)
            (by_task (λ y. IsAboveIdle k.settings.tasks y → (task_at j y).base ≤ 62) x c.base (λ y d h. subst (λ (t : Task). t.base ≤ 62) (sym (c.others y d)) (v.tasks.bases y h)));
      };
      contents = c.each_object;
      lists = record {
        stands = λ p. by_task (λ y. count_of y (list_at j.ready p) ≡ one_if (is_ready (task_at j y) && (prio_of j y == p))) x (c.ready_own p)
            (λ y d. c.ready_others p y d ∙ v.lists.stands p y ∙ ap (λ t. one_if (is_ready t && (t.prio == p))) (sym (c.others y d)));
        waiters = λ o. by_task (λ y. count_of y (list_at j.pend o) ≡ (if waits_for_nothing (task_at j y).waiting then 0 else count_of o (task_at j y).objects)) x (c.pend_own o)
            (λ y d. c.pend_others o y d ∙ v.lists.waiters o y ∙ ap (λ (t : Task). if waits_for_nothing t.waiting then 0 else count_of o t.objects) (sym (c.others y d)));
      };
      matches = record {
        once_matched = by_task (λ y. count_of y (matched j.matches) ≤ (if waits_for_nothing (task_at j y).waiting then 0 else 1)) x c.match_own
            (λ y d. subst (λ n. n ≤ (if waits_for_nothing (task_at j y).waiting then 0 else 1)) (sym (c.match_others y d))
            (subst (λ (t : Task). count_of y (matched k.matches) ≤ (if waits_for_nothing t.waiting then 0 else 1)) (sym (c.others y d)) (v.matches.once_matched y)));
        match_words = c.match_words;
      };
      internal = record {
        no_objects = c.internals.internal;
        handler = c.internals.handler;
        idle = c.internals.idle;
        idle_prio = c.internals.idle_prio;
        idle_base = c.internals.idle_base;
        tick_lives = c.internals.tick_lives;
        timer_lives = c.internals.timer_lives;
        tick_waits = c.internals.tick_waits;
        timer_waits = c.internals.timer_waits;
      };
      lock = record { few = c.internals.lock; locked = c.internals.locked; callback = c.internals.callback };
      clocks = record { ticks = c.internals.ticks; timer_count = c.internals.timer_count };
    }
  where
    gone : (b : Bool) → (b ≡ true → false ≡ true) → b ≡ false
    gone true h = sym (h refl)
    gone false h = refl

-- k becomes j by a change of one application task and its places in the lists
pub record OneTask (k j : Kernel) (x : ℕ) : Type 0 where
  pub application : x < 60
  pub tasks : length j.tasks ≡ length k.tasks
  pub ready : length j.ready ≡ length k.ready
  pub pend : length j.pend ≡ length k.pend
  pub objects : length j.objects ≡ length k.objects
  pub settings : j.settings ≡ k.settings
  pub others : (y : ℕ) → x ≢ y → task_at j y ≡ task_at k y
  pub task : IsTask (length k.objects) (task_at j x)
  pub lives : (task_at j x).alive ≡ true → (task_at k x).alive ≡ true
  pub prio : IsAboveIdle k.settings.tasks x → prio_of j x ≤ 62
  pub base : IsAboveIdle k.settings.tasks x → (task_at j x).base ≤ 62
  pub each_object : (o : ℕ) → IsContent (object_at j o).content
  pub ready_others : (p y : ℕ) → x ≢ y → count_of y (list_at j.ready p) ≡ count_of y (list_at k.ready p)
  pub ready_own : (p : ℕ) → count_of x (list_at j.ready p) ≡ one_if (is_ready (task_at j x) && (prio_of j x == p))
  pub pend_others : (o y : ℕ) → x ≢ y → count_of y (list_at j.pend o) ≡ count_of y (list_at k.pend o)
  pub pend_own : (o : ℕ) → count_of x (list_at j.pend o) ≡ (if waits_for_nothing (task_at j x).waiting then 0 else count_of o (task_at j x).objects)
  pub match_others : (y : ℕ) → x ≢ y → count_of y (matched j.matches) ≡ count_of y (matched k.matches)
  pub match_own : count_of x (matched j.matches) ≤ (if waits_for_nothing (task_at j x).waiting then 0 else 1)
  pub match_words : All (λ m. (m.0 < 60) × IsWord m.1) j.matches
  pub tick_signals : j.tick_signals ≡ k.tick_signals
  pub timer_signals : j.timer_signals ≡ k.timer_signals
  pub processing : j.processing ≡ k.processing
  pub in_callback : j.in_callback ≡ k.in_callback
  pub ticks : j.ticks ≡ k.ticks
  pub timer_count : j.timer_count ≡ k.timer_count
  pub lock : j.lock ≤ 250
  pub locked : j.processing ≡ true → 0 < j.lock

pub far : (x n : ℕ) → x < 60 → 60 ≤ n → x ≢ n
far x n h g e = absurd (omega (arith, e))

pub linked-one_task : (k j : Kernel) (x : ℕ) → IsLinked k → OneTask k j x → IsLinked j
linked-one_task k j x v c =
    linked-change k j x v
    (record {
      tasks = c.tasks;
      ready = c.ready;
      pend = c.pend;
      objects = c.objects;
      settings = c.settings;
      others = c.others;
      task = c.task;
      lives = c.lives;
      prio = c.prio;
      base = c.base;
      each_object = c.each_object;
      ready_others = c.ready_others;
      ready_own = c.ready_own;
      pend_others = c.pend_others;
      pend_own = c.pend_own;
      match_others = c.match_others;
      match_own = c.match_own;
      match_words = c.match_words;
      internals = record {
        internal = λ y h. subst (λ (t : Task). (t.objects ≡ []) × (has_result t.answered ≡ false)) (sym (same y h)) (v.internal.no_objects y h);
        handler = ap (λ (t : Task). t.alive) (same 63 (omega arith)) ∙ v.internal.handler;
        idle = ap (λ t. is_ready t) (same 62 (omega arith)) ∙ v.internal.idle;
        idle_prio = ap (λ (t : Task). t.prio) (same 62 (omega arith)) ∙ v.internal.idle_prio;
        idle_base = ap (λ (t : Task). t.base) (same 62 (omega arith)) ∙ v.internal.idle_base;
        tick_lives = subst (λ (t : Task). (t.alive ≡ true) × (t.suspended ≡ 0)) (sym (same 60 (omega arith))) v.internal.tick_lives;
        timer_lives = subst (λ (t : Task). (t.alive ≡ true) × (t.suspended ≡ 0)) (sym (same 61 (omega arith))) v.internal.timer_lives;
        tick_waits = ap (λ (t : Task). t.waiting) (same 60 (omega arith)) ∙ v.internal.tick_waits ∙ ap (λ n. if is_zero n then Signal else No) (sym c.tick_signals);
        timer_waits = ap (λ (t : Task). t.waiting) (same 61 (omega arith)) ∙ v.internal.timer_waits
            ∙ ap (λ n. if is_zero n && not k.processing then Signal else No) (sym c.timer_signals)
            ∙ ap (λ b. if is_zero j.timer_signals && not b then Signal else No) (sym c.processing);
        lock = c.lock;
        locked = c.locked;
        callback = λ h. c.processing ∙ v.lock.callback (sym c.in_callback ∙ h);
        ticks = subst IsWord (sym c.ticks) v.clocks.ticks;
        timer_count = subst IsWord (sym c.timer_count) v.clocks.timer_count;
      };
    })
  where
    same : (n : ℕ) → 60 ≤ n → task_at j n ≡ task_at k n
    same n h = c.others n (far x n c.application h)
