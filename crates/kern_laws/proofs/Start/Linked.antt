-- The kernel at the start is linked.
use Rattle.std.proofs.Common.{◌≡◌, ◌≢◌, ℕ, zero, suc, ◌<◌, ◌≤◌, ◌+◌, ◌-◌, List, [], ◌∷◌, ◌++◌, length, get_or, map, refl, sym, ap, ◌∙◌, subst, Bool, true, false, ◌&&◌, inl, inr, arith, append_assoc}
use Rattle.std.specs.Prelude.{All, ◌==◌, if◌then◌else◌, replicate}
use Rattle.std.proofs.lemmas.List.{length-append, length-map, length-replicate, get_or-map, get_or_past, get_or-replicate, get_or_append_left, get_or-append_right}
use Rattle.std.proofs.lemmas.List.Elements.{All-nil}
use Rattle.std.proofs.lemmas.Bool.{false≢true, true≢false, cases_lt}
use Rattle.std.proofs.lemmas.Bool.Decides.{eqb_tells}
use Rattle.kern_base.specs.declared.outcomes.Waiting.{Waiting}
use Rattle.kern_base.specs.declared.outcomes.Waiting.TheVariants.{No, Signal}
use Rattle.kern_model.specs.State.{Task, Object, no_task, no_object, list_at, object_at, count_of, is_ready, waits_for_nothing}
use Rattle.kern_model.specs.Valid.{IsLinked, IsTask, IsAboveIdle, IsContent, IsWord, one_if, has_result}
use Rattle.app_image.specs.Image.{ImageRecord, IsValidImage}
use Rattle.app_image.specs.declared.records.TaskDef.{TaskDef}
use Rattle.kern_model.specs.Start.{start_tasks, living_task, application_task, internal_tasks, start_state, tasks_of, ready_from, object_of}

-- a declared task that stands nowhere
pub blank_def : TaskDef
blank_def = record { name = []; entry = 0; prio = 0; quanta = 0; qsize = 0; sp = 0; line = 0 }

different : (a b : ℕ) → a ≢ b → one_if (a == b) ≡ 0
different a b h = elim (eqb_tells a b) [ inl e ↦ absurd (h e.1) | inr e ↦ ap one_if e.0 ]

same_number : (a b : ℕ) → a ≡ b → one_if (a == b) ≡ 1
same_number a b h = elim (eqb_tells a b) [ inl e ↦ ap one_if e.0 | inr e ↦ absurd (e.1 h) ]

-- the tasks of a priority, counted

count-skip : (b : Bool) (a x : ℕ) (rest : List ℕ) → a ≢ x → count_of x (if b then a ∷ rest else rest) ≡ count_of x rest
count-skip true a x rest h = omega (arith, different a x h)
count-skip false a x rest h = refl

count-here : (b : Bool) (a x : ℕ) (rest : List ℕ) → a ≡ x → count_of x rest ≡ 0 → count_of x (if b then a ∷ rest else rest) ≡ one_if b
count-here true a x rest h none = omega (arith, same_number a x h, none)
count-here false a x rest h none = none

count-before : (p a x : ℕ) (ds : List TaskDef) → x < a → count_of x (tasks_of p a ds) ≡ 0
count-before p a x [] h = refl
count-before p a x (d ∷ ds) h =
    count-skip (d.prio == p) a x (tasks_of p (a + 1) ds) (λ e. absurd (omega (arith, e))) ∙ count-before p (a + 1) x ds (omega arith)

count-after : (p a x : ℕ) (ds : List TaskDef) → a + length ds ≤ x → count_of x (tasks_of p a ds) ≡ 0
count-after p a x [] h = refl
count-after p a x (d ∷ ds) h =
    count-skip (d.prio == p) a x (tasks_of p (a + 1) ds) (λ e. absurd (omega (arith, e))) ∙ count-after p (a + 1) x ds (omega arith)

count-at : (p a x j : ℕ) (ds : List TaskDef) (b : TaskDef) → x ≡ a + j → j < length ds → count_of x (tasks_of p a ds) ≡ one_if ((get_or ds j b).prio == p)
count-at p a x j [] b e h = absurd (omega arith)
count-at p a x zero (d ∷ ds) b e h =
    count-here (d.prio == p) a x (tasks_of p (a + 1) ds) (omega arith) (count-before p (a + 1) x ds (omega arith))
count-at p a x (suc j) (d ∷ ds) b e h =
    count-skip (d.prio == p) a x (tasks_of p (a + 1) ds) (λ f. absurd (omega (arith, f))) ∙ count-at p (a + 1) x j ds b (omega arith) (omega arith)

-- the ready lists by priority

length-ready_from : (ds : List TaskDef) (a m : ℕ) → length (ready_from ds a m) ≡ m
length-ready_from ds a zero = refl
length-ready_from ds a (suc m) = omega (arith, length-ready_from ds (a + 1) m)

get-ready_from : (ds : List TaskDef) (a m j p : ℕ) → p ≡ a + j → j < m → get_or (ready_from ds a m) j [] ≡ tasks_of p 0 ds
get-ready_from ds a zero j p e h = absurd (omega arith)
get-ready_from ds a (suc m) zero p e h = ap (λ q. tasks_of q 0 ds) (let s : a ≡ p = omega arith in s)
get-ready_from ds a (suc m) (suc j) p e h = get-ready_from ds (a + 1) m j p (omega arith) (omega arith)

module _ (ds : List TaskDef) (m : ℕ) where
  ready-low : (p : ℕ) → p < m → list_at (ready_from ds 0 m ++ (62 ∷ []) ∷ []) p ≡ tasks_of p 0 ds
  ready-low p h =
      get_or_append_left (ready_from ds 0 m) ((62 ∷ []) ∷ []) [] p (omega (arith, length-ready_from ds 0 m)) ∙ get-ready_from ds 0 m p p (omega arith) h

  ready-last : list_at (ready_from ds 0 m ++ (62 ∷ []) ∷ []) m ≡ 62 ∷ []
  ready-last =
      get_or-append_right (ready_from ds 0 m) ((62 ∷ []) ∷ []) m m [] (length-ready_from ds 0 m) (omega arith)
      ∙ ap (λ j. list_at ((62 ∷ []) ∷ []) j) (let s : m - m ≡ 0 = omega arith in s)

  ready-past : (p : ℕ) → m < p → list_at (ready_from ds 0 m ++ (62 ∷ []) ∷ []) p ≡ []
  ready-past p h =
      get_or_past (ready_from ds 0 m ++ (62 ∷ []) ∷ []) p [] (omega (arith, length-append (ready_from ds 0 m) ((62 ∷ []) ∷ []), length-ready_from ds 0 m))

  -- all but the idle task stand in the lists of the priorities below the last
  count-high : (x p : ℕ) → x ≢ 62 → m ≤ p → count_of x (list_at (ready_from ds 0 m ++ (62 ∷ []) ∷ []) p) ≡ 0
  count-high x p d h =
      elim (eqb_tells m p) [
        | inl e ↦ subst (λ q. count_of x (list_at (ready_from ds 0 m ++ (62 ∷ []) ∷ []) q) ≡ 0) e.1 (ap (λ l. count_of x l) ready-last ∙ omega (arith, different 62 x (λ f. d (sym f))))
        | inr e ↦ ap (λ l. count_of x l) (ready-past p (below m p h e.1))
      ]
    where
      below : (a b : ℕ) → a ≤ b → a ≢ b → a < b
      below a b l d = omega arith

  -- a number that no application task has
  count-other : (x p : ℕ) → x ≢ 62 → length ds ≤ x → count_of x (list_at (ready_from ds 0 m ++ (62 ∷ []) ∷ []) p) ≡ 0
  count-other x p d far =
      elim (cases_lt p m) [
        | inl h ↦ ap (λ l. count_of x l) (ready-low p h) ∙ count-after p 0 x ds (omega arith)
        | inr h ↦ count-high x p d h
      ]

  count-application : (x p : ℕ) (b : TaskDef) → x < length ds → x ≢ 62 → (get_or ds x b).prio < m → count_of x (list_at (ready_from ds 0 m ++ (62 ∷ []) ∷ []) p) ≡ one_if ((get_or ds x b).prio == p)
  count-application x p b inside d low =
      elim (cases_lt p m) [
        | inl h ↦ ap (λ l. count_of x l) (ready-low p h) ∙ count-at p 0 x x ds b (omega arith) inside
        | inr h ↦ count-high x p d h ∙ sym (different (get_or ds x b).prio p (λ e. absurd (omega (arith, e))))
      ]

  count-idle : (p : ℕ) → length ds ≤ 60 → count_of 62 (list_at (ready_from ds 0 m ++ (62 ∷ []) ∷ []) p) ≡ one_if (m == p)
  count-idle p few =
      elim (cases_lt p m) [
        | inl h ↦ ap (λ l. count_of 62 l) (ready-low p h) ∙ count-after p 0 62 ds (omega arith) ∙ sym (different m p (λ e. absurd (omega (arith, e))))
        | inr h ↦ elim (eqb_tells m p) [
          | inl e ↦ subst (λ q. count_of 62 (list_at (ready_from ds 0 m ++ (62 ∷ []) ∷ []) q) ≡ one_if (m == q)) e.1 (ap (λ l. count_of 62 l) ready-last ∙ sym (same_number m m refl))
          | inr e ↦ ap (λ l. count_of 62 l) (ready-past p (below m p h e.1)) ∙ sym (different m p e.1)
        ]
      ]
    where
      below : (a b : ℕ) → a ≤ b → a ≢ b → a < b
      below a b l d = omega arith

-- the tasks by number

module _ (i : ImageRecord) (v : IsValidImage i) where
  at-application : (x : ℕ) → x < length i.tasks → get_or (start_tasks i) x no_task ≡ application_task i.config.quanta (get_or i.tasks x blank_def)
  at-application x h =
      let long : length (map (application_task i.config.quanta) i.tasks) ≡ length i.tasks = length-map i.tasks (application_task i.config.quanta) in
      ap (λ l. get_or l x no_task) (append_assoc (map (application_task i.config.quanta) i.tasks) (replicate (60 - length i.tasks) no_task) (internal_tasks i.config))
      ∙ get_or_append_left (map (application_task i.config.quanta) i.tasks) (replicate (60 - length i.tasks) no_task ++ internal_tasks i.config) no_task x (omega arith)
      ∙ get_or-map (application_task i.config.quanta) i.tasks x blank_def no_task h

  at-none : (x : ℕ) → length i.tasks ≤ x → x < 60 → get_or (start_tasks i) x no_task ≡ no_task
  at-none x l h =
      let n = length i.tasks in
      let long : length (map (application_task i.config.quanta) i.tasks) ≡ length i.tasks = length-map i.tasks (application_task i.config.quanta) in
      let blank : length (replicate (60 - length i.tasks) no_task) ≡ 60 - length i.tasks = length-replicate (60 - length i.tasks) no_task in
      ap (λ l. get_or l x no_task) (append_assoc (map (application_task i.config.quanta) i.tasks) (replicate (60 - length i.tasks) no_task) (internal_tasks i.config))
      ∙ get_or-append_right (map (application_task i.config.quanta) i.tasks) (replicate (60 - length i.tasks) no_task ++ internal_tasks i.config) n x no_task long l
      ∙ get_or_append_left (replicate (60 - length i.tasks) no_task) (internal_tasks i.config) no_task (x - n) (omega arith)
      ∙ get_or-replicate (60 - length i.tasks) (x - n) no_task no_task (omega arith)

  front-length : length (map (application_task i.config.quanta) i.tasks ++ replicate (60 - length i.tasks) no_task) ≡ 60
  front-length =
      let long : length (map (application_task i.config.quanta) i.tasks) ≡ length i.tasks = length-map i.tasks (application_task i.config.quanta) in
      let blank : length (replicate (60 - length i.tasks) no_task) ≡ 60 - length i.tasks = length-replicate (60 - length i.tasks) no_task in
      omega (arith, long, blank, length-append (map (application_task i.config.quanta) i.tasks) (replicate (60 - length i.tasks) no_task), v.tasks_room)

  at-internal : (x j : ℕ) → x - 60 ≡ j → 60 ≤ x → get_or (start_tasks i) x no_task ≡ get_or (internal_tasks i.config) j no_task
  at-internal x j e h =
      get_or-append_right (map (application_task i.config.quanta) i.tasks ++ replicate (60 - length i.tasks) no_task) (internal_tasks i.config) 60 x no_task front-length h
      ∙ ap (λ q. get_or (internal_tasks i.config) q no_task) e

  at-past : (x : ℕ) → 64 ≤ x → get_or (start_tasks i) x no_task ≡ no_task
  at-past x h = at-internal x (x - 60) refl (omega arith) ∙ get_or_past (internal_tasks i.config) (x - 60) no_task (omega arith)

  -- what holds of each task holds of the task of each number
  module _ (P : ℕ → Task → Type 0) (app : (x : ℕ) → x < length i.tasks → P x (application_task i.config.quanta (get_or i.tasks x blank_def))) (none : (x : ℕ) → length i.tasks ≤ x → x < 60 → P x no_task) (tick : P 60 (living_task i.config.tick_prio i.config.quanta 0 Signal)) (tmr : P 61 (living_task i.config.tmr_prio i.config.quanta 0 Signal)) (idle : P 62 (living_task 63 i.config.quanta 0 No)) (past : (x : ℕ) → 63 ≤ x → P x no_task) where
    inner : (x j : ℕ) → 60 + j ≡ x → P x (get_or (start_tasks i) x no_task)
    inner x zero e = subst (λ y. P y (get_or (start_tasks i) y no_task)) e (subst (λ (t : Task). P 60 t) (sym (at-internal 60 0 refl (omega arith))) tick)
    inner x (suc zero) e = subst (λ y. P y (get_or (start_tasks i) y no_task)) e (subst (λ (t : Task). P 61 t) (sym (at-internal 61 1 refl (omega arith))) tmr)
    inner x (suc (suc zero)) e = subst (λ y. P y (get_or (start_tasks i) y no_task)) e (subst (λ (t : Task). P 62 t) (sym (at-internal 62 2 refl (omega arith))) idle)
    inner x (suc (suc (suc zero))) e = subst (λ y. P y (get_or (start_tasks i) y no_task)) e (subst (λ (t : Task). P 63 t) (sym (at-internal 63 3 refl (omega arith))) (past 63 (omega arith)))
    inner x (suc (suc (suc (suc j)))) e = subst (λ (t : Task). P x t) (sym (at-past x (omega arith))) (past x (omega arith))

    pub each : (x : ℕ) → P x (get_or (start_tasks i) x no_task)
    each x =
        elim (cases_lt x (length i.tasks)) [
          | inl h ↦ subst (λ (t : Task). P x t) (sym (at-application x h)) (app x h)
          | inr h ↦ elim (cases_lt x 60) [
            | inl g ↦ subst (λ (t : Task). P x t) (sym (at-none x h g)) (none x h g)
            | inr g ↦ inner x (x - 60) (omega arith)
          ]
        ]

  -- the facts of each task

  living_valid : (m prio quantum limit : ℕ) (w : Waiting) → 1 ≤ prio → prio ≤ 63 → IsTask m (living_task prio quantum limit w)
  living_valid m prio quantum limit w low high =
      record {
        prio_from = low;
        prio_to = high;
        base_from = low;
        objects = All-nil (λ o. o < m);
        few = omega arith;
        different = λ o. omega arith;
        lives = λ h. refl;
        reads = λ h. refl;
        suspended = omega arith;
        count = omega arith;
      }

  none_valid : (m : ℕ) → IsTask m no_task
  none_valid m =
      record {
        prio_from = omega arith;
        prio_to = omega arith;
        base_from = omega arith;
        objects = All-nil (λ o. o < m);
        few = omega arith;
        different = λ o. omega arith;
        lives = λ h. absurd (true≢false h);
        reads = λ h. refl;
        suspended = omega arith;
        count = omega arith;
      }

  prio_of_def : (x : ℕ) → x < length i.tasks → (1 ≤ (get_or i.tasks x blank_def).prio) × ((get_or i.tasks x blank_def).prio ≤ 62)
  prio_of_def x h = let t = v.tasks x blank_def h in (t.prio_low, t.prio_high)

  task_valid : (m x : ℕ) → IsTask m (get_or (start_tasks i) x no_task)
  task_valid m =
      each (λ x t. IsTask m t) (λ x h. let p = prio_of_def x h in living_valid m (get_or i.tasks x blank_def).prio _ _ No p.0 (omega (arith, p.1))) (λ x l h. none_valid m)
      (living_valid m i.config.tick_prio i.config.quanta 0 Signal v.config.tick_prio_low (omega (arith, v.config.tick_prio_high)))
      (living_valid m i.config.tmr_prio i.config.quanta 0 Signal v.config.tmr_prio_low (omega (arith, v.config.tmr_prio_high)))
      (living_valid m 63 i.config.quanta 0 No (omega arith) (omega arith)) (λ x h. none_valid m)

  task_stands : (p x : ℕ) → count_of x (list_at (ready_from i.tasks 0 63 ++ (62 ∷ []) ∷ []) p) ≡ one_if (is_ready (get_or (start_tasks i) x no_task) && ((get_or (start_tasks i) x no_task).prio == p))
  task_stands p =
      each (λ x t. count_of x (list_at (ready_from i.tasks 0 63 ++ (62 ∷ []) ∷ []) p) ≡ one_if (is_ready t && (t.prio == p)))
      (λ x h. let q = prio_of_def x h in count-application i.tasks 63 x p blank_def h (λ e. absurd (omega (arith, e, v.tasks_room))) (omega (arith, q.1)))
      (λ x l h. count-other i.tasks 63 x p (λ e. absurd (omega (arith, e))) l)
      (count-other i.tasks 63 60 p (λ e. absurd (omega (arith, e))) (omega (arith, v.tasks_room)))
      (count-other i.tasks 63 61 p (λ e. absurd (omega (arith, e))) (omega (arith, v.tasks_room)))
      (count-idle i.tasks 63 p v.tasks_room)
      (λ x h. count-other i.tasks 63 x p (λ e. absurd (omega (arith, e))) (omega (arith, v.tasks_room)))

  task_waits : (o x : ℕ) → 0 ≡ (if waits_for_nothing (get_or (start_tasks i) x no_task).waiting then 0 else count_of o (get_or (start_tasks i) x no_task).objects)
  task_waits o =
      each (λ x t. 0 ≡ (if waits_for_nothing t.waiting then 0 else count_of o t.objects)) (λ x h. refl) (λ x l h. refl) refl refl refl (λ x h. refl)

  task_quiet : (x : ℕ) → ((get_or (start_tasks i) x no_task).objects ≡ []) × (has_result (get_or (start_tasks i) x no_task).answered ≡ false)
  task_quiet = each (λ x t. (t.objects ≡ []) × (has_result t.answered ≡ false)) (λ x h. (refl, refl)) (λ x l h. (refl, refl)) (refl, refl) (refl, refl) (refl, refl) (λ x h. (refl, refl))

  -- who is not above the idle task
  not_above : (x : ℕ) → length i.tasks ≤ x → x < 60 → IsAboveIdle (length i.tasks) x → ⊥
  not_above x l h (inl a) = absurd (omega (arith, a, l))
  not_above x l h (inr (inl e)) = absurd (omega (arith, e, h))
  not_above x l h (inr (inr e)) = absurd (omega (arith, e, h))

  not_idle : IsAboveIdle (length i.tasks) 62 → ⊥
  not_idle (inl a) = absurd (omega (arith, a, v.tasks_room))
  not_idle (inr (inl e)) = absurd (omega (arith, e))
  not_idle (inr (inr e)) = absurd (omega (arith, e))

  not_last : (x : ℕ) → 63 ≤ x → IsAboveIdle (length i.tasks) x → ⊥
  not_last x h (inl a) = absurd (omega (arith, a, h, v.tasks_room))
  not_last x h (inr (inl e)) = absurd (omega (arith, e, h))
  not_last x h (inr (inr e)) = absurd (omega (arith, e, h))

  task_above : (x : ℕ) → IsAboveIdle (length i.tasks) x → (get_or (start_tasks i) x no_task).prio ≤ 62
  task_above =
      each (λ x t. IsAboveIdle (length i.tasks) x → t.prio ≤ 62) (λ x h a. (prio_of_def x h).1) (λ x l h a. absurd (not_above x l h a)) (λ a. v.config.tick_prio_high) (λ a. v.config.tmr_prio_high) (λ a. absurd (not_idle a)) (λ x h a. absurd (not_last x h a))

  task_bases : (x : ℕ) → IsAboveIdle (length i.tasks) x → (get_or (start_tasks i) x no_task).base ≤ 62
  task_bases =
      each (λ x t. IsAboveIdle (length i.tasks) x → t.base ≤ 62) (λ x h a. (prio_of_def x h).1) (λ x l h a. absurd (not_above x l h a)) (λ a. v.config.tick_prio_high) (λ a. v.config.tmr_prio_high) (λ a. absurd (not_idle a)) (λ x h a. absurd (not_last x h a))

  empty_pend : (m o : ℕ) → list_at (replicate m []) o ≡ []
  empty_pend m o =
      elim (cases_lt o m) [
        | inl h ↦ get_or-replicate m o [] [] h
        | inr h ↦ get_or_past (replicate m []) o [] (omega (arith, length-replicate m (let e : List ℕ = [] in e)))
      ]

  pub linked-start : ((o : ℕ) → IsContent (object_at (start_state i) o).content) → IsLinked (start_state i)
  linked-start contents =
      record {
        sizes = record {
          tasks = omega (arith, front-length, length-append (map (application_task i.config.quanta) i.tasks ++ replicate (60 - length i.tasks) no_task) (internal_tasks i.config));
          ready = omega (arith, length-ready_from i.tasks 0 63, length-append (ready_from i.tasks 0 63) ((62 ∷ []) ∷ []));
          pend = length-replicate (length i.objects) [] ∙ sym (length-map i.objects object_of);
          objects = omega (arith, length-map i.objects object_of, v.objects_room);
          application = v.tasks_room;
        };
        tasks = record {
          each_task = task_valid (length (map object_of i.objects));
          declared = λ x l h. ap (λ (t : Task). t.alive) (at-none x l h);
          above_idle = task_above;
          bases = task_bases;
        };
        contents = contents;
        lists = record { stands = task_stands; waiters = λ o x. ap (λ l. count_of x l) (empty_pend (length i.objects) o) ∙ task_waits o x };
        matches = record { once_matched = λ x. omega arith; match_words = All-nil (λ m. (m.0 < 60) × IsWord m.1) };
        internal = record {
          no_objects = λ x h. task_quiet x;
          handler = ap (λ (t : Task). t.alive) (at-internal 63 3 refl (omega arith));
          idle = ap is_ready (at-internal 62 2 refl (omega arith));
          idle_prio = ap (λ (t : Task). t.prio) (at-internal 62 2 refl (omega arith));
          idle_base = ap (λ (t : Task). t.base) (at-internal 62 2 refl (omega arith));
          tick_lives = (ap (λ (t : Task). t.alive) (at-internal 60 0 refl (omega arith)), ap (λ (t : Task). t.suspended) (at-internal 60 0 refl (omega arith)));
          timer_lives = (ap (λ (t : Task). t.alive) (at-internal 61 1 refl (omega arith)), ap (λ (t : Task). t.suspended) (at-internal 61 1 refl (omega arith)));
          tick_waits = ap (λ (t : Task). t.waiting) (at-internal 60 0 refl (omega arith));
          timer_waits = ap (λ (t : Task). t.waiting) (at-internal 61 1 refl (omega arith));
        };
        lock = record { few = omega arith; locked = λ h. absurd (false≢true h); callback = λ h. absurd (false≢true h) };
        clocks = record { ticks = omega arith; timer_count = omega arith };
      }

-- what holds of each content holds at each number
pub contents-each : (bs : List Object) → All (λ b. IsContent b.content) bs → (o : ℕ) → IsContent (get_or bs o no_object).content
contents-each bs all o =
    elim (cases_lt o (length bs)) [
      | inl h ↦ all o no_object h
      | inr h ↦ subst (λ (b : Object). IsContent b.content) (sym (get_or_past bs o no_object h)) (omega arith)
    ]
