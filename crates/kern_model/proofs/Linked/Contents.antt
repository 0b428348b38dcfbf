-- What keeps the kernel linked besides wakes and blocks: a change of content, the end of a wait, a trap; and how long the
-- lists of a linked kernel are.
use Rattle.kern_model.proofs.Common.{◌≡◌, ◌⊎◌, ℕ, zero, suc, ◌<◌, ◌≤◌, ◌+◌, List, [], ◌∷◌, length, get_or, refl, sym, ap, ◌∙◌, subst, Bool, true, false, ◌&&◌, arith, inl, inr, Option, Some, None, All, ◌==◌, if◌then◌else◌, Service, FlagPend, OsErr, NoError, Finished, Kernel, Task, Object, Content, Count, Messages, Bits, Held, Timed, list_at, update_list, update_task, update_object, with_content, no_task, no_object, task_at, prio_of, object_at, count_of, without, is_ready, is_zero, waits_for_nothing, IsLinked, IsTask, IsContent, IsWord, AllWait, one_if, matched, has_result}
use Rattle.std.proofs.lemmas.List.{length-set, get_or_past}
use Rattle.std.proofs.lemmas.Bool.{true≢false, cases_lt}
use Rattle.std.proofs.lemmas.Bool.Decides.{eqb_tells}
use Rattle.std.proofs.lemmas.List.Elements.{All-head, All-tail}
use Rattle.kern_model.specs.Finish.{finished, finished_with, flags_consumed, consumed_in, consumed_object, consumed_content}
use Rattle.kern_model.specs.Stop.{stopped}
use Rattle.kern_model.proofs.Basics.Updates.{task-updated, task-other}
use Rattle.kern_model.proofs.Linked.TaskChanges.{OneTask, linked-one_task}
use Rattle.kern_model.proofs.Lists.Counts.{length-le_by_counts}
use Rattle.kern_model.proofs.Lists.Members.{count-left_other, count-left_here, count-left_none}
use Rattle.kern_model.proofs.Linked.Wakes.{self_equal, ready_free}

inside : (bs : List Object) (o : ℕ) → (get_or bs o no_object).deleted ≡ false → o < length bs
inside [] o h = absurd (true≢false h)
inside (b ∷ bs) zero h = omega arith
inside (b ∷ bs) (suc o) h = omega (arith, inside bs o h)

-- an object that is not deleted stands among the objects
pub object_inside : (k : Kernel) (o : ℕ) → (object_at k o).deleted ≡ false → o < length k.objects
object_inside k o h = inside k.objects o h

-- other contents of the objects
pub linked-objects : (k : Kernel) (objects : List Object) → length objects ≡ length k.objects → ((o : ℕ) → IsContent (get_or objects o no_object).content) → IsLinked k → IsLinked (record k { objects = objects })
linked-objects k objects same each v =
    record {
      sizes = record { tasks = v.sizes.tasks; ready = v.sizes.ready; pend = v.sizes.pend ∙ sym same; objects = omega (arith, same, v.sizes.objects); application = v.sizes.application };
      tasks = record {
        each_task = λ x. subst (λ n. IsTask n (task_at k x)) (sym same) (v.tasks.each_task x);
        declared = v.tasks.declared;
        above_idle = v.tasks.above_idle;
        bases = v.tasks.bases;
      };
      contents = each;
      lists = v.lists;
      matches = v.matches;
      internal = v.internal;
      lock = v.lock;
      clocks = v.clocks;
    }

-- what holds of each object holds after a change of one that keeps it there
pub update_object_keeps : (P : Object → Type 0) (f : Object → Object) (bs : List Object) (o : ℕ) → (P (get_or bs o no_object) → P (f (get_or bs o no_object))) → ((i : ℕ) → P (get_or bs i no_object)) → (i : ℕ) → P (get_or (update_object bs o f) i no_object)
update_object_keeps P f [] o h old i = old i
update_object_keeps P f (b ∷ bs) zero h old zero = h (old 0)
update_object_keeps P f (b ∷ bs) zero h old (suc i) = old (suc i)
update_object_keeps P f (b ∷ bs) (suc o) h old zero = old 0
update_object_keeps P f (b ∷ bs) (suc o) h old (suc i) = update_object_keeps P f bs o h (λ j. old (suc j)) i

pub update_object_at : (P : ℕ → Object → Type 0) (f : Object → Object) (bs : List Object) (o : ℕ) → (P o (get_or bs o no_object) → P o (f (get_or bs o no_object))) → ((i : ℕ) → P i (get_or bs i no_object)) → (i : ℕ) → P i (get_or (update_object bs o f) i no_object)
update_object_at P f [] o h old i = old i
update_object_at P f (b ∷ bs) zero h old zero = h (old 0)
update_object_at P f (b ∷ bs) zero h old (suc i) = old (suc i)
update_object_at P f (b ∷ bs) (suc o) h old zero = old 0
update_object_at P f (b ∷ bs) (suc o) h old (suc i) = update_object_at (λ n. P (suc n)) f bs o h (λ j. old (suc j)) i

-- what a change of one object does not alter there is as before, at each object
pub update_object_same : {B : Type 0} (g : Object → B) (f : Object → Object) (bs : List Object) (o i : ℕ) → g (f (get_or bs o no_object)) ≡ g (get_or bs o no_object) → g (get_or (update_object bs o f) i no_object) ≡ g (get_or bs i no_object)
update_object_same g f [] o i h = refl
update_object_same g f (b ∷ bs) zero zero h = h
update_object_same g f (b ∷ bs) zero (suc i) h = refl
update_object_same g f (b ∷ bs) (suc o) zero h = refl
update_object_same g f (b ∷ bs) (suc o) (suc i) h = update_object_same g f bs o i h

pub linked-with_content : (k : Kernel) (o : ℕ) (content : Content) → IsContent content → IsLinked k → IsLinked (with_content k o content)
linked-with_content k o content c v =
    linked-objects k (update_object k.objects o (λ b. record b { content = content })) (length-set k.objects o _)
    (update_object_keeps (λ b. IsContent b.content) (λ b. record b { content = content }) k.objects o (λ _. c) v.contents) v

consumed_content-valid : (ready opt : ℕ) (c : Content) → IsContent c → IsContent (consumed_content ready opt c)
consumed_content-valid ready opt (Bits bits) c = tt
consumed_content-valid ready opt (Count n) c = c
consumed_content-valid ready opt (Messages limit ms) c = c
consumed_content-valid ready opt (Held owner nesting) c = c
consumed_content-valid ready opt (Timed t) c = c

-- the end of a wait
consumed_objects-valid : (t : Task) (ready : ℕ) (bs : List Object) → ((i : ℕ) → IsContent (get_or bs i no_object).content) → (s : Service) (err : OsErr) → (length (flags_consumed s err t ready bs) ≡ length bs) × ((i : ℕ) → IsContent (get_or (flags_consumed s err t ready bs) i no_object).content)
consumed_objects-valid t ready bs each FlagPend NoError = consumed_in-valid t.objects
  where
    one_valid : (b : Object) (d : Bool) → IsContent b.content → IsContent (Object.content (if d then b else record b { content = consumed_content ready t.opt b.content }))
    one_valid b true c = c
    one_valid b false c = consumed_content-valid ready t.opt b.content c

    consumed_in-valid : (os : List ℕ) → (length (consumed_in os ready t.opt bs) ≡ length bs) × ((i : ℕ) → IsContent (get_or (consumed_in os ready t.opt bs) i no_object).content)
    consumed_in-valid [] = (refl, each)
    consumed_in-valid (o ∷ os) =
        (length-set bs o _, update_object_keeps (λ b. IsContent b.content) (consumed_object ready t.opt) bs o (λ c. one_valid (get_or bs o no_object) (get_or bs o no_object).deleted c) each)
consumed_objects-valid t ready bs each s err = (refl, each)

-- the changes of a task record
abbrev pub cleared_task : Task → Task
cleared_task t = record t { answered = None }

abbrev pub dead_task : Task → Task
dead_task t = record t { alive = false }

-- the task without its result, where the objects are such already
one_task-cleared : (k : Kernel) → IsLinked k → (x : ℕ) → x < 60 → OneTask k (record k { tasks = update_task k.tasks x cleared_task }) x
one_task-cleared k v x inside =
    let t = task_at k x in
    record {
      application = inside;
      tasks = length-set k.tasks x _;
      ready = refl;
      pend = refl;
      objects = refl;
      settings = refl;
      others = task-other k.tasks x cleared_task;
      task = subst (λ u. IsTask (length k.objects) u) (sym own) (cleared_valid (length k.objects) t (v.tasks.each_task x));
      lives = λ a. ap (λ (u : Task). u.alive) (sym own) ∙ a;
      prio = λ a. subst (λ (u : Task). u.prio ≤ 62) (sym own) (v.tasks.above_idle x a);
      base = λ a. subst (λ (u : Task). u.base ≤ 62) (sym own) (v.tasks.bases x a);
      each_object = v.contents;
      ready_others = λ p y d. refl;
      ready_own = λ p. v.lists.stands p x ∙ ap (λ (u : Task). one_if (is_ready u && (u.prio == p))) (sym own);
      pend_others = λ o y d. refl;
      pend_own = λ o. v.lists.waiters o x ∙ ap (λ (u : Task). if waits_for_nothing u.waiting then 0 else count_of o u.objects) (sym own);
      match_others = λ y d. refl;
      match_own = subst (λ (u : Task). count_of x (matched k.matches) ≤ (if waits_for_nothing u.waiting then 0 else 1)) (sym own) (v.matches.once_matched x);
      match_words = v.matches.match_words;
      tick_signals = refl;
      timer_signals = refl;
      processing = refl;
      in_callback = refl;
      ticks = refl;
      timer_count = refl;
      lock = v.lock.few;
      locked = v.lock.locked;
    }
  where
    own : get_or (update_task k.tasks x cleared_task) x no_task ≡ cleared_task (task_at k x)
    own = task-updated k.tasks x cleared_task (omega (arith, v.sizes.tasks))

    cleared_valid : (n : ℕ) (t : Task) → IsTask n t → IsTask n (cleared_task t)
    cleared_valid n t i =
        record {
          prio_from = i.prio_from;
          prio_to = i.prio_to;
          base_from = i.base_from;
          objects = i.objects;
          few = i.few;
          different = i.different;
          lives = i.lives;
          reads = λ e. refl;
          suspended = i.suspended;
          count = i.count;
        }

finished-by : (x : ℕ) (k : Kernel) → IsLinked k → (a : Option Finished) → (task_at k x).answered ≡ a → IsLinked (finished_with a x k)
finished-by x k v None e = v
finished-by x k v (Some f) e =
    let t = task_at k x in
    let objects = flags_consumed f.service f.answer.err t f.answer.value k.objects in
    let each = consumed_objects-valid t f.answer.value k.objects v.contents f.service f.answer.err in
    let j : Kernel = record k { objects = objects } in
    let valid : IsLinked j = linked-objects k objects each.0 each.1 v in
    linked-one_task j (record j { tasks = update_task k.tasks x cleared_task }) x valid (one_task-cleared j valid x (inside_60 (cases_lt x 60)))
  where
    inside_60 : (x < 60) ⊎ (60 ≤ x) → x < 60
    inside_60 (inl h) = h
    inside_60 (inr h) = absurd (true≢false (sym (ap has_result e) ∙ (v.internal.no_objects x h).1))

pub linked-finished : (x : ℕ) (k : Kernel) → IsLinked k → IsLinked (finished x k)
linked-finished x k v = finished-by x k v (task_at k x).answered refl

-- a trap of a ready application task, while the timer task is not processing
pub linked-stopped : (x : ℕ) (k : Kernel) → IsLinked k → x < 60 → is_ready (task_at k x) ≡ true → k.processing ≡ false → IsLinked (stopped x k)
linked-stopped x k v inside r quiet = linked-one_task k (stopped x k) x v one
  where
    own : task_at (stopped x k) x ≡ dead_task (task_at k x)
    own = task-updated k.tasks x dead_task (omega (arith, v.sizes.tasks))

    free : waits_for_nothing (task_at k x).waiting ≡ true
    free = ready_free (task_at k x).alive (waits_for_nothing (task_at k x).waiting) (is_zero (task_at k x).suspended) r

    gone : (p : ℕ) → count_of x (list_at (update_list k.ready (prio_of k x) (without x)) p) ≡ 0
    gone p =
        elim (eqb_tells (prio_of k x) p) [
          | inl e ↦ subst (λ z. count_of x (list_at (update_list k.ready (prio_of k x) (without x)) z) ≡ 0) e.1 (count-left_here x (prio_of k x) k.ready)
          | inr e ↦ count-left_none x (prio_of k x) k.ready p (v.lists.stands p x ∙ ap (λ b. one_if (b && (prio_of k x == p))) r ∙ ap one_if e.0)
        ]

    dead_valid : IsTask (length k.objects) (dead_task (task_at k x))
    dead_valid =
        let i = v.tasks.each_task x in
        record {
          prio_from = i.prio_from;
          prio_to = i.prio_to;
          base_from = i.base_from;
          objects = i.objects;
          few = i.few;
          different = i.different;
          lives = λ e. absurd (true≢false (sym free ∙ e));
          reads = i.reads;
          suspended = i.suspended;
          count = i.count;
        }

    one : OneTask k (stopped x k) x
    one =
        record {
          application = inside;
          tasks = length-set k.tasks x _;
          ready = length-set k.ready (prio_of k x) _;
          pend = refl;
          objects = refl;
          settings = refl;
          others = task-other k.tasks x dead_task;
          task = subst (λ u. IsTask (length k.objects) u) (sym own) dead_valid;
          lives = λ a. absurd (true≢false (sym a ∙ ap (λ (u : Task). u.alive) own));
          prio = λ a. subst (λ (u : Task). u.prio ≤ 62) (sym own) (v.tasks.above_idle x a);
          base = λ a. subst (λ (u : Task). u.base ≤ 62) (sym own) (v.tasks.bases x a);
          each_object = v.contents;
          ready_others = λ p y d. count-left_other x (prio_of k x) k.ready p y d;
          ready_own = λ p. gone p ∙ ap (λ (u : Task). one_if (is_ready u && (u.prio == p))) (sym own);
          pend_others = λ o y d. refl;
          pend_own = λ o. v.lists.waiters o x ∙ ap (λ (u : Task). if waits_for_nothing u.waiting then 0 else count_of o u.objects) (sym own);
          match_others = λ y d. refl;
          match_own = subst (λ (u : Task). count_of x (matched k.matches) ≤ (if waits_for_nothing u.waiting then 0 else 1)) (sym own) (v.matches.once_matched x);
          match_words = v.matches.match_words;
          tick_signals = refl;
          timer_signals = refl;
          processing = refl;
          in_callback = refl;
          ticks = refl;
          timer_count = refl;
          lock = omega arith;
          locked = λ h. absurd (true≢false (sym h ∙ quiet));
        }

-- how long the lists are
stand_below : (b : Bool) → one_if b ≤ 1
stand_below true = omega arith
stand_below false = omega arith

waiters_below : (b : Bool) (n : ℕ) → n ≤ 1 → (if b then 0 else n) ≤ 1
waiters_below true n h = omega arith
waiters_below false n h = h

waiters_none : (b : Bool) (n : ℕ) → n ≡ 0 → (if b then 0 else n) ≡ 0
waiters_none true n h = refl
waiters_none false n h = h

pub once-pend : (k : Kernel) → IsLinked k → (o x : ℕ) → count_of x (list_at k.pend o) ≤ 1
once-pend k v o x = subst (λ n. n ≤ 1) (sym (v.lists.waiters o x)) (waiters_below (waits_for_nothing (task_at k x).waiting) (count_of o (task_at k x).objects) ((v.tasks.each_task x).different o))

pub application-pend : (k : Kernel) → IsLinked k → (o x : ℕ) → 60 ≤ x → count_of x (list_at k.pend o) ≡ 0
application-pend k v o x h =
    v.lists.waiters o x ∙ waiters_none (waits_for_nothing (task_at k x).waiting) (count_of o (task_at k x).objects) (ap (λ os. count_of o os) (v.internal.no_objects x h).0)

pub length-pend : (k : Kernel) → IsLinked k → (o : ℕ) → length (list_at k.pend o) ≤ 60
length-pend k v o = length-le_by_counts 60 (list_at k.pend o) (once-pend k v o) (application-pend k v o)

past : (ts : List Task) (x : ℕ) → length ts ≤ x → (get_or ts x no_task).alive ≡ false
past ts x h = ap (λ (t : Task). t.alive) (get_or_past ts x no_task h)

pub once-ready : (k : Kernel) → IsLinked k → (p x : ℕ) → count_of x (list_at k.ready p) ≤ 1
once-ready k v p x = subst (λ n. n ≤ 1) (sym (v.lists.stands p x)) (stand_below (is_ready (task_at k x) && (prio_of k x == p)))

pub inside-ready : (k : Kernel) → IsLinked k → (p x : ℕ) → 63 ≤ x → count_of x (list_at k.ready p) ≡ 0
inside-ready k v p x h = v.lists.stands p x ∙ ap (λ a. one_if ((a && (waits_for_nothing (task_at k x).waiting && is_zero (task_at k x).suspended)) && (prio_of k x == p))) (dead (cases_lt 63 x))
  where
    dead : (63 < x) ⊎ (x ≤ 63) → (task_at k x).alive ≡ false
    dead (inl l) = past k.tasks x (omega (arith, v.sizes.tasks))
    dead (inr l) = let e : 63 ≡ x = omega arith in subst (λ y. (task_at k y).alive ≡ false) e v.internal.handler

pub length-ready : (k : Kernel) → IsLinked k → (p : ℕ) → length (list_at k.ready p) ≤ 63
length-ready k v p = length-le_by_counts 63 (list_at k.ready p) (once-ready k v p) (inside-ready k v p)

once_none : (b : Bool) → (if b then 0 else 1) ≤ 1
once_none true = omega arith
once_none false = omega arith

pub matched_none : (ms : List (ℕ × ℕ)) → All (λ m. (m.0 < 60) × IsWord m.1) ms → (x : ℕ) → 60 ≤ x → count_of x (matched ms) ≡ 0
matched_none [] h x l = refl
matched_none (m ∷ ms) h x l =
    elim (eqb_tells m.0 x) as (λ _. one_if (m.0 == x) + count_of x (matched ms) ≡ 0) [
      | inl e ↦ absurd (omega (arith, e.1, (All-head (λ m. (m.0 < 60) × IsWord m.1) m ms h).0))
      | inr e ↦ omega (arith, ap one_if e.0, matched_none ms (All-tail (λ m. (m.0 < 60) × IsWord m.1) m ms h) x l)
    ]

length-matched : (ms : List (ℕ × ℕ)) → length (matched ms) ≡ length ms
length-matched [] = refl
length-matched (m ∷ ms) = ap (λ n. suc n) (length-matched ms)

pub length-matches : (k : Kernel) → IsLinked k → length k.matches ≤ 60
length-matches k v =
    let most : length (matched k.matches) ≤ 60 =
    length-le_by_counts 60 (matched k.matches) (λ x. least (v.matches.once_matched x) (once_none (waits_for_nothing (task_at k x).waiting))) (matched_none k.matches v.matches.match_words) in
    subst (λ n. n ≤ 60) (length-matched k.matches) most
  where
    least : {a b c : ℕ} → a ≤ b → b ≤ c → a ≤ c
    least p q = omega arith

-- the waiters of an object wait
pub all_wait : (k : Kernel) (xs : List ℕ) → ((x : ℕ) → 0 < count_of x xs → (x < 60) × (waits_for_nothing (task_at k x).waiting ≡ false)) → ((x : ℕ) → count_of x xs ≤ 1) → AllWait k xs
all_wait k [] h once = tt
all_wait k (x ∷ xs) h once =
    let one : one_if (x == x) ≡ 1 = ap one_if (self_equal x) in
    let this = h x (omega (arith, one)) in
    (this.0, this.1, omega (arith, one, once x), all_wait k xs (λ y l. h y (omega arith)) (λ y. omega (arith, once y)))

pub AllWait-pend : (k : Kernel) → IsLinked k → (o : ℕ) → AllWait k (list_at k.pend o)
AllWait-pend k v o = all_wait k (list_at k.pend o) (λ x h. (below x h (cases_lt x 60), waits x (waits_for_nothing (task_at k x).waiting) refl h)) (once-pend k v o)
  where
    below : (x : ℕ) → 0 < count_of x (list_at k.pend o) → (x < 60) ⊎ (60 ≤ x) → x < 60
    below x h (inl l) = l
    below x h (inr l) = absurd (omega (arith, application-pend k v o x l))

    waits : (x : ℕ) (b : Bool) → waits_for_nothing (task_at k x).waiting ≡ b → 0 < count_of x (list_at k.pend o) → b ≡ false
    waits x false e h = refl
    waits x true e h =
        let none : count_of x (list_at k.pend o) ≡ 0 = v.lists.waiters o x ∙ ap (λ b. if b then 0 else count_of o (task_at k x).objects) e in
        absurd (omega arith)
