-- The ready lists while the application tasks join them, in declared order.
use Rattle.std.proofs.Common.{◌≡◌, ◌≢◌, ◌<◌, ◌≤◌, ℕ, zero, suc, ◌+◌, Bool, true, false, List, [], ◌∷◌, ◌++◌, length, take, drop, map, insert, replicate, refl, sym, ap, ◌∙◌, subst, inl, inr, arith}
use Rattle.std.specs.Prelude.{◌==◌, if◌then◌else◌}
use Rattle.std.proofs.Math.ListN.{set}
use Rattle.std.proofs.Math.Seq.{take-length, drop-length}
use Rattle.std.proofs.lemmas.List.{length-map, take_all}
use Rattle.std.proofs.lemmas.List.Sums.{sum_by-cons}
use Rattle.std.proofs.lemmas.Bool.Decides.{eqb_tells}
use Rattle.app_image.specs.Image.{ImageRecord, IsValidImage}
use Rattle.app_image.specs.Layout.{HasWords}
use Rattle.app_image.specs.declared.records.TaskDef.{TaskDef}
use Rattle.kern_base.specs.declared.numbers.Prio.{Prio}
use Rattle.kern_base.specs.declared.numbers.TaskId.{TaskId}
use Rattle.kernel_calls.specs.declared.seen.Seen.{Seen}
use Rattle.kern_model.specs.Micro.{Halves, Lists, after, whole}
use Rattle.kern_model.specs.Start.{object_of, ready_from, start_state, start_tasks, tasks_of}
use Rattle.kern_model.specs.Valid.{IsLinked}
use Rattle.kern_laws.proofs.Lemmas.{each, valid-start}
use Rattle.links.specs.Chain.{times, total, list_at}
use Rattle.micro_steps.specs.declared.link.Link.TheVariants as link
use Rattle.micro_steps.specs.Blocks.{block_of}
use Rattle.micro_steps.specs.Halfway.{tasks_in}
use Rattle.micro_steps.specs.Starts.{no_lists}
use Rattle.micro_steps.specs.Whole.{FitsLink, StepsRecord}
use Rattle.link_plans.specs.declared.plan.Plan.{Plan}
use Rattle.kernel_records.specs.RecordsRecord.{RecordsRecord, records_at_start}
use Rattle.kernel_records.specs.Served.{HasNoTable, IsServed, IsSingle}
use Rattle.kernel_calls.specs.KernelView.{IsSound, state_with}
use Rattle.kernel_calls.specs.Stepping.{HasPrios}
use Rattle.kernel_calls.specs.Works.{WorkRecord}

-- the tasks of a priority, and one task more

tasks_of-here : (p i : ℕ) (ds : List TaskDef) (d : TaskDef) → d.prio ≡ p → tasks_of p i (ds ++ d ∷ []) ≡ tasks_of p i ds ++ (i + length ds) ∷ []
tasks_of-here p i [] d e =
    let same : i + 0 ≡ i = omega arith in
    elim (eqb_tells d.prio p) [
      | inl h ↦ ap (λ b. if b then i ∷ [] else []) h.0 ∙ ap (λ n. n ∷ []) (sym same)
      | inr h ↦ absurd (h.1 e)
    ]
tasks_of-here p i (c ∷ ds) d e =
    let same : i + 1 + length ds ≡ i + length (c ∷ ds) = omega arith in
    by_case (c.prio == p) (tasks_of p (i + 1) (ds ++ d ∷ [])) (tasks_of p (i + 1) ds) (i + length (c ∷ ds)) (tasks_of-here p (i + 1) ds d e ∙ ap (λ n. tasks_of p (i + 1) ds ++ n ∷ []) same)
  where
    by_case : (b : Bool) (new old : List ℕ) (x : ℕ) → new ≡ old ++ x ∷ [] → (if b then i ∷ new else new) ≡ (if b then i ∷ old else old) ++ x ∷ []
    by_case true new old x r = ap (λ xs. i ∷ xs) r
    by_case false new old x r = r

tasks_of-other : (p i : ℕ) (ds : List TaskDef) (d : TaskDef) → d.prio ≢ p → tasks_of p i (ds ++ d ∷ []) ≡ tasks_of p i ds
tasks_of-other p i [] d e =
    elim (eqb_tells d.prio p) [
      | inl h ↦ absurd (e h.1)
      | inr h ↦ ap (λ b. if b then i ∷ [] else []) h.0
    ]
tasks_of-other p i (c ∷ ds) d e =
    ap (λ xs. if c.prio == p then i ∷ xs else xs) (tasks_of-other p (i + 1) ds d e)

-- the lists of all priorities, and one task more

ready_from-below : (ds : List TaskDef) (d : TaskDef) (a n : ℕ) → d.prio < a → ready_from (ds ++ d ∷ []) a n ≡ ready_from ds a n
ready_from-below ds d a zero h = refl
ready_from-below ds d a (suc n) h =
    ap (λ xs. xs ∷ ready_from (ds ++ d ∷ []) (a + 1) n) (tasks_of-other a 0 ds d (λ e. absurd (omega (arith, e, h))))
    ∙ ap (λ xs. tasks_of a 0 ds ∷ xs) (ready_from-below ds d (a + 1) n (omega arith))

insert-last : (xs : List ℕ) (x : ℕ) → insert xs (length xs) x ≡ xs ++ x ∷ []
insert-last xs x = ap (λ ys. ys ++ x ∷ drop (length xs) xs) (take-length xs) ∙ ap (λ ys. xs ++ x ∷ ys) (drop-length xs)

ready_from-more : (ds : List TaskDef) (d : TaskDef) (rest : List (List ℕ)) (a n j : ℕ) → j < n → d.prio ≡ a + j → (let lists = ready_from ds a n ++ rest in set lists j (list_at lists j ++ length ds ∷ [])) ≡ ready_from (ds ++ d ∷ []) a n ++ rest
ready_from-more ds d rest a zero j h e = absurd (omega arith)
ready_from-more ds d rest a (suc n) zero h e =
    let count : 0 + length ds ≡ length ds = omega arith in
    ap (λ m. (tasks_of a 0 ds ++ m ∷ []) ∷ (ready_from ds (a + 1) n ++ rest)) (sym count)
    ∙ ap (λ xs. xs ∷ (ready_from ds (a + 1) n ++ rest)) (sym (tasks_of-here a 0 ds d (omega (arith, e))))
    ∙ ap (λ xs. tasks_of a 0 (ds ++ d ∷ []) ∷ (xs ++ rest)) (sym (ready_from-below ds d (a + 1) n (omega (arith, e))))
ready_from-more ds d rest a (suc n) (suc j) h e =
    ap (λ xs. tasks_of a 0 ds ∷ xs) (ready_from-more ds d rest (a + 1) n j (omega arith) (omega (arith, e)))
    ∙ ap (λ xs. xs ∷ (ready_from (ds ++ d ∷ []) (a + 1) n ++ rest)) (sym (tasks_of-other a 0 ds d (λ f. absurd (omega (arith, e, f)))))

ready_from-none : (a n : ℕ) → ready_from [] a n ++ [] ∷ [] ≡ replicate (suc n) []
ready_from-none a zero = refl
ready_from-none a (suc n) = ap (λ lists. [] ∷ lists) (ready_from-none (a + 1) n)

-- a task that is not among them stands nowhere

times-other : (b : Bool) (a x : ℕ) (xs : List ℕ) → a ≢ x → times x xs ≡ 0 → times x (if b then a ∷ xs else xs) ≡ 0
times-other true a x xs h none = elim (eqb_tells a x) [ inl e ↦ absurd (h e.1) | inr e ↦ ap (λ c. (if c then 1 else 0) + times x xs) e.0 ∙ omega (arith, none) ]
times-other false a x xs h none = none

times-after : (p a x : ℕ) (ds : List TaskDef) → a + length ds ≤ x → times x (tasks_of p a ds) ≡ 0
times-after p a x [] h = refl
times-after p a x (d ∷ ds) h = times-other (d.prio == p) a x (tasks_of p (a + 1) ds) (λ e. absurd (omega (arith, e))) (times-after p (a + 1) x ds (omega arith))

total-after : (ds : List TaskDef) (x a n : ℕ) → length ds ≤ x → total x (ready_from ds a n ++ [] ∷ []) ≡ 0
total-after ds x a zero h = sum_by-cons (times x) [] []
total-after ds x a (suc n) h =
    let first = times-after a 0 x ds (omega arith) in
    let rest = total-after ds x (a + 1) n h in
    sum_by-cons (times x) (tasks_of a 0 ds) (ready_from ds (a + 1) n ++ [] ∷ []) ∙ omega (arith, first, rest)

-- the idle task joins the last list
last-list : (ds : List TaskDef) (a n x : ℕ) → (let lists = ready_from ds a n ++ [] ∷ [] in set lists n (list_at lists n ++ x ∷ [])) ≡ ready_from ds a n ++ (x ∷ []) ∷ []
last-list ds a zero x = refl
last-list ds a (suc n) x = ap (λ lists. tasks_of a 0 ds ∷ lists) (last-list ds (a + 1) n x)

-- The lists once these have joined.
unfoldable pub joined_by : List TaskDef → Lists
joined_by ds = record { ready = ready_from ds 0 63 ++ [] ∷ []; pend = replicate 64 [] }

pub joined_by-none : no_lists ≡ joined_by []
unfolding joined_by
joined_by-none = ap (λ r. let l : Lists = record { ready = r; pend = replicate 64 [] } in l) (sym (ready_from-none 0 63))

joined_by-more : (prios : List Prio) (x : TaskId) (p : Prio) (ds : List TaskDef) (d : TaskDef) → x.0 ≡ length ds → p.0 ≡ d.prio → d.prio < 63 → after (block_of prios (link.Ready x p true) (joined_by ds)) (joined_by ds) ≡ joined_by (ds ++ d ∷ [])
unfolding joined_by
joined_by-more prios x p ds d e f h =
    let lists = ready_from ds 0 63 ++ [] ∷ [] in
    ap (λ r. let l : Lists = record { ready = r; pend = replicate 64 [] } in l)
    (rw (e, f) (ap (set lists d.prio) (insert-last (list_at lists d.prio) (length ds)) ∙ ready_from-more ds d ([] ∷ []) 0 63 d.prio h (omega arith)))

-- the same of both directions
pub joins_next : (prios : List Prio) (x : TaskId) (p : Prio) (ds : List TaskDef) (d : TaskDef) (h j : Halves) → h ≡ whole (joined_by ds) → j ≡ whole (after (block_of prios (link.Ready x p true) h.forward) h.forward) → x.0 ≡ length ds → p.0 ≡ d.prio → d.prio < 63 → j ≡ whole (joined_by (ds ++ d ∷ []))
joins_next prios x p ds d h j before now e f low =
    now
    ∙ ap (λ (g : Halves). whole (after (block_of prios (link.Ready x p true) g.forward) g.forward)) before
    ∙ ap whole (joined_by-more prios x p ds d e f low)

pub joined_by-fits : (x : TaskId) (p : Prio) (tail : Bool) (ds : List TaskDef) → length ds ≤ x.0 → x.0 < 64 → p.0 < 64 → FitsLink 64 (link.Ready x p tail) (joined_by ds)
unfolding joined_by
joined_by-fits x p tail ds few inside low = (inside, low, total-after ds x.0 0 63 few)

-- all of them
pub joined_by-all : (ds : List TaskDef) (i : ℕ) → length ds ≤ i → joined_by (take i ds) ≡ record { ready = ready_from ds 0 63 ++ [] ∷ []; pend = replicate 64 [] }
unfolding joined_by
joined_by-all ds i h = ap joined_by (take_all i ds h)

-- the lists of nodes at the start
unfoldable pub start_lists : List TaskDef → Lists
start_lists ds = record { ready = ready_from ds 0 63 ++ (62 ∷ []) ∷ []; pend = replicate 64 [] }

joined_by-idle : (prios : List Prio) (x : TaskId) (p : Prio) (ds : List TaskDef) → x.0 ≡ 62 → p.0 ≡ 63 → after (block_of prios (link.Ready x p true) (joined_by ds)) (joined_by ds) ≡ start_lists ds
unfolding joined_by start_lists
joined_by-idle prios x p ds e f =
    let lists = ready_from ds 0 63 ++ [] ∷ [] in
    ap (λ r. let l : Lists = record { ready = r; pend = replicate 64 [] } in l)
    (rw (e, f) (ap (set lists 63) (insert-last (list_at lists 63) 62) ∙ last-list ds 0 63 62))

-- the same of both directions
pub joins_last : (prios : List Prio) (x : TaskId) (p : Prio) (ds : List TaskDef) (h j : Halves) → h ≡ whole (joined_by ds) → j ≡ whole (after (block_of prios (link.Ready x p true) h.forward) h.forward) → x.0 ≡ 62 → p.0 ≡ 63 → j ≡ whole (start_lists ds)
joins_last prios x p ds h j before now e f =
    now
    ∙ ap (λ (g : Halves). whole (after (block_of prios (link.Ready x p true) g.forward) g.forward)) before
    ∙ ap whole (joined_by-idle prios x p ds e f)

-- all have joined
joined_by-is : (ds : List TaskDef) → record { ready = ready_from ds 0 63 ++ [] ∷ []; pend = replicate 64 [] } ≡ joined_by ds
unfolding joined_by
joined_by-is ds = refl

pub all_joined : (ds es : List TaskDef) (h : Halves) → h ≡ whole (record { ready = ready_from ds 0 63 ++ [] ∷ []; pend = replicate 64 [] }) → ds ≡ es → h ≡ whole (joined_by es)
all_joined ds es h e same = e ∙ ap whole (joined_by-is ds) ∙ ap (λ fs. whole (joined_by fs)) same

empty-at : (m o : ℕ) → list_at (replicate m []) o ≡ []
empty-at zero o = refl
empty-at (suc m) zero = refl
empty-at (suc m) (suc o) = empty-at m o

take-empty : (n m : ℕ) → n ≤ m → take n (tasks_in (replicate m [])) ≡ replicate n []
take-empty zero m h = take-none (tasks_in (replicate m []))
  where
    take-none : (lists : List (List ℕ)) → take 0 lists ≡ []
    take-none [] = refl
    take-none (xs ∷ lists) = refl
take-empty (suc n) zero h = absurd (omega (arith, h))
take-empty (suc n) (suc m) h = ap (λ lists. [] ∷ lists) (take-empty n m (omega (arith, h)))

-- At the start no task waits for anything that is not served.
served-start : (i : ImageRecord) → IsValidImage i → IsServed (start_state i)
served-start i v =
    record {
      waits = each i v (λ x t. x < 60 → IsSingle t.waiting) (λ x h l. tt) (λ x g h l. tt) (λ l. absurd (omega arith)) (λ l. absurd (omega arith)) (λ l. tt) (λ x h l. tt);
      reads = each i v (λ x t. HasNoTable t.answered) (λ x h. tt) (λ x l h. tt) tt tt tt (λ x h. tt);
      bases = each i v (λ x t. t.base ≡ t.prio) (λ x h. refl) (λ x l h. refl) refl refl refl (λ x h. refl);
    }

pub linked_at_start : (i : ImageRecord) → IsValidImage i → HasWords i → IsLinked (start_state i)
linked_at_start i v words = (valid-start i v words).links

pub count-tasks : (i : ImageRecord) → IsValidImage i → HasWords i → length (start_tasks i) ≡ 64
count-tasks i v words = (linked_at_start i v words).sizes.tasks

-- The kernel at the start.
module _ (i : ImageRecord) (v : IsValidImage i) (words : HasWords i) (r : RecordsRecord) (s : StepsRecord) (is : r ≡ records_at_start i) (halves : s.halves ≡ whole (start_lists i.tasks)) (start : s.start ≡ s.halves.forward) (prios : HasPrios r.state s.prios) where
  found : s.start ≡ start_lists i.tasks
  found = start ∙ ap (λ (h : Halves). h.forward) halves

  pub started-state : state_with r.state s.start ≡ start_state i
  unfolding start_lists
  started-state =
      let n = length (map object_of i.objects) in
      let count : n ≡ length i.objects = length-map i.objects object_of in
      ap (λ (t : RecordsRecord). state_with t.state s.start) is
      ∙ ap (state_with (records_at_start i).state) found
      ∙ ap (λ ps. record (start_state i) { pend = ps }) (take-empty n 64 (omega (arith, count, v.objects_room)) ∙ ap (λ m. replicate m []) count)

  pub started-linked : IsLinked (state_with r.state s.start)
  started-linked = subst IsLinked (sym started-state) (linked_at_start i v words)

  no_node : (o : ℕ) → list_at s.start.pend o ≡ []
  unfolding start_lists
  no_node o = ap (λ (l : Lists). list_at l.pend o) found ∙ empty-at 64 o

  pub started-sound : (q : Plan) (seen : Seen) (w : WorkRecord) → IsSound r s q seen w false
  started-sound q seen w =
      record {
        valid = started-linked;
        served = subst IsServed (sym started-state) (served-start i v);
        nodes = record {
          noded = λ o n h. let none : times n (list_at s.start.pend o) ≡ 0 = ap (times n) (no_node o) in absurd (omega (arith, none, h));
          past = λ o h. no_node o;
        };
        hand = record { halves = halves ∙ ap whole (sym found); prios = prios };
      }
