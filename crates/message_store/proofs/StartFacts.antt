-- The store at the start.
use Rattle.std.proofs.Common.{◌≡◌, ℕ, zero, suc, ◌+◌, ◌-◌, ◌≤◌, List, [], ◌∷◌, ◌++◌, length, map, refl, sym, ap, subst, ◌∙◌, arith, append_assoc}
use Rattle.std.specs.Prelude.{replicate}
use Rattle.std.proofs.lemmas.List.{map-append, length-map, length-append, length-replicate, replicate-append-replicate}
use Rattle.std.proofs.lemmas.Simd.{map-map}
use Rattle.app_image.specs.Image.{ImageRecord}
use Rattle.app_image.specs.declared.records.TaskDef.{TaskDef}
use Rattle.app_image.specs.declared.records.ObjDef.{ObjDef}
use Rattle.kern_base.specs.declared.kinds.Kind.{Kind}
use Rattle.kern_base.specs.declared.kinds.Kind.TheVariants.{Sem, Queue, Flags, Mutex, OneShot, Periodic}
use Rattle.kern_model.specs.State.{no_task, list_at, count_of}
use Rattle.kern_model.specs.Start.{start_tasks, application_task, internal_tasks, content_of}
use Rattle.msg_queues.specs.Stored as stored
use Rattle.task_objects.specs.Box.{TaskObjects}
use Rattle.message_store.specs.Store.{no_own}
use Rattle.message_store.specs.Start.{held_of, own_of, start_store}
use Rattle.message_store.specs.StoreView.{AreApart, key_lists, queue_in, own_in, declared_limit, empty_queue, empty_own}
use Rattle.message_store.proofs.CallFacts.{seen_of, same-store}

-- the queues and own objects that are declared
abbrev pub declared_queues : List ObjDef → List stored.Queue
declared_queues ds = map (λ d. empty_queue (declared_limit d.kind d.f)) ds

abbrev pub declared_own : List TaskDef → List TaskObjects
declared_own ds = map (λ d. empty_own d.qsize) ds ++ replicate (64 - length ds) (empty_own 0)

-- one more task without a declaration
pub one-more : (own new : List TaskObjects) (t : TaskObjects) (ds : List TaskDef) (k : ℕ) → own ≡ map (λ d. empty_own d.qsize) ds ++ replicate (k - length ds) (empty_own 0) → t ≡ empty_own 0 → length ds ≤ k → new ≡ own ++ t ∷ [] → new ≡ map (λ d. empty_own d.qsize) ds ++ replicate (k + 1 - length ds) (empty_own 0)
one-more own new t ds k so blank h e =
    let front = map (λ (d : TaskDef). empty_own d.qsize) ds in
    let more : k - length ds + 1 ≡ k + 1 - length ds = omega (arith, h) in
    e ∙ ap (λ l. l ++ t ∷ []) so ∙ ap (λ x. (front ++ replicate (k - length ds) (empty_own 0)) ++ x ∷ []) blank
    ∙ append_assoc front (replicate (k - length ds) (empty_own 0)) (empty_own 0 ∷ [])
    ∙ ap (λ l. front ++ l) (replicate-append-replicate (k - length ds) 1 (empty_own 0))
    ∙ ap (λ n. front ++ replicate n (empty_own 0)) more

declared-same : (p : stored.Pool) (k : Kind) (f : List ℕ) → queue_in p (empty_queue (declared_limit k f)) ≡ held_of (content_of k f)
declared-same p Sem f = refl
declared-same p Queue f = refl
declared-same p Flags f = refl
declared-same p Mutex f = refl
declared-same p OneShot f = refl
declared-same p Periodic f = refl

queues-started : (p : stored.Pool) (ds : List ObjDef) → map (queue_in p) (declared_queues ds) ≡ map (λ d. held_of (content_of d.kind d.f)) ds
queues-started p [] = refl
queues-started p (d ∷ ds) = ap (λ q. q ∷ map (queue_in p) (declared_queues ds)) (declared-same p d.kind d.f) ∙ ap (λ qs. held_of (content_of d.kind d.f) ∷ qs) (queues-started p ds)

map-replicated : {A B : Type 0} (f : A → B) (n : ℕ) (x : A) → map f (replicate n x) ≡ replicate n (f x)
map-replicated f zero x = refl
map-replicated f (suc n) x = ap (λ xs. f x ∷ xs) (map-replicated f n x)

applications-started : (p : stored.Pool) (quanta : ℕ) (ds : List TaskDef) → map (own_in p) (map (λ d. empty_own d.qsize) ds) ≡ map own_of (map (application_task quanta) ds)
applications-started p quanta [] = refl
applications-started p quanta (d ∷ ds) = ap (λ xs. own_in p (empty_own d.qsize) ∷ xs) (applications-started p quanta ds)

own-started : (p : stored.Pool) (i : ImageRecord) → length i.tasks ≤ 60 → map (own_in p) (declared_own i.tasks) ≡ map own_of (start_tasks i)
own-started p i h =
    let n = length i.tasks in
    let front = map own_of (map (application_task i.config.quanta) i.tasks) in
    let more : 60 - n + 4 ≡ 64 - n = omega (arith, h) in
    let left : map (own_in p) (declared_own i.tasks) ≡ front ++ replicate (64 - n) no_own
    = map-append (own_in p) (map (λ (d : TaskDef). empty_own d.qsize) i.tasks) (replicate (64 - n) (empty_own 0))
    ∙ ap (λ l. l ++ map (own_in p) (replicate (64 - n) (empty_own 0))) (applications-started p i.config.quanta i.tasks)
    ∙ ap (λ l. front ++ l) (map-replicated (own_in p) (64 - n) (empty_own 0)) in
    let rest : map own_of (replicate (60 - n) no_task ++ internal_tasks i.config) ≡ replicate (64 - n) no_own
    = map-append own_of (replicate (60 - n) no_task) (internal_tasks i.config)
    ∙ ap (λ l. l ++ no_own ∷ no_own ∷ no_own ∷ no_own ∷ []) (map-replicated own_of (60 - n) no_task)
    ∙ replicate-append-replicate (60 - n) 4 no_own
    ∙ ap (λ m. replicate m no_own) more in
    left
    ∙ sym (ap (λ l. map own_of l) (append_assoc (map (application_task i.config.quanta) i.tasks) (replicate (60 - n) no_task) (internal_tasks i.config))
    ∙ map-append own_of (map (application_task i.config.quanta) i.tasks) (replicate (60 - n) no_task ++ internal_tasks i.config)
    ∙ ap (λ l. front ++ l) rest)

pub started : (p : stored.Pool) (queues : List stored.Queue) (own : List TaskObjects) (i : ImageRecord) → length i.tasks ≤ 60 → p.free ≡ i.config.pool → queues ≡ declared_queues i.objects → own ≡ declared_own i.tasks → seen_of p queues own ≡ start_store i
started p queues own i h free qs os =
    same-store p.free i.config.pool (map (queue_in p) queues) _ (map (own_in p) own) _ free
    (ap (λ l. map (queue_in p) l) qs ∙ queues-started p i.objects)
    (ap (λ l. map (own_in p) l) os ∙ own-started p i h)

-- nothing is stored under any key

none-map : {A : Type 0} (f : A → List ℕ) (xs : List A) → ((x : A) → f x ≡ []) → (i : ℕ) → list_at (map f xs) i ≡ []
none-map f [] h i = refl
none-map f (x ∷ xs) h zero = h x
none-map f (x ∷ xs) h (suc i) = none-map f xs h i

none-append : (xs ys : List (List ℕ)) → ((i : ℕ) → list_at xs i ≡ []) → ((i : ℕ) → list_at ys i ≡ []) → (i : ℕ) → list_at (xs ++ ys) i ≡ []
none-append [] ys h k i = k i
none-append (x ∷ xs) ys h k zero = h 0
none-append (x ∷ xs) ys h k (suc i) = none-append xs ys (λ j. h (suc j)) k i

none-declared : (os : List ObjDef) (ts : List TaskDef) (i : ℕ) → list_at (key_lists (declared_queues os) (declared_own ts)) i ≡ []
none-declared os ts =
    none-append (map (λ (q : stored.Queue). q.keys) (declared_queues os)) (map (λ (t : TaskObjects). t.keys) (declared_own ts))
    (λ i. ap (λ l. list_at l i) (map-map (λ (q : stored.Queue). q.keys) (λ (d : ObjDef). empty_queue (declared_limit d.kind d.f)) os) ∙ none-map (λ (d : ObjDef). []) os (λ d. refl) i)
    (λ i. ap (λ l. list_at l i) keys ∙ none-append (map (λ (d : TaskDef). []) ts) (replicate (64 - length ts) []) (none-map (λ (d : TaskDef). []) ts (λ d. refl)) (none-replicate (64 - length ts)) i)
  where
    none-replicate : (n i : ℕ) → list_at (replicate n []) i ≡ []
    none-replicate zero i = refl
    none-replicate (suc n) zero = refl
    none-replicate (suc n) (suc i) = none-replicate n i

    keys : map (λ (t : TaskObjects). t.keys) (declared_own ts) ≡ map (λ (d : TaskDef). []) ts ++ replicate (64 - length ts) []
    keys =
        map-append (λ (t : TaskObjects). t.keys) (map (λ (d : TaskDef). empty_own d.qsize) ts) (replicate (64 - length ts) (empty_own 0))
        ∙ ap (λ l. l ++ map (λ (t : TaskObjects). t.keys) (replicate (64 - length ts) (empty_own 0))) (map-map (λ (t : TaskObjects). t.keys) (λ (d : TaskDef). empty_own d.qsize) ts)
        ∙ ap (λ l. map (λ (d : TaskDef). []) ts ++ l) (map-replicated (λ (t : TaskObjects). t.keys) (64 - length ts) (empty_own 0))

apart-declared : (p : stored.Pool) (os : List ObjDef) (ts : List TaskDef) → AreApart (key_lists (declared_queues os) (declared_own ts)) p
apart-declared p os ts =
    record {
      present = λ i key l. absurd (omega (arith, l, none i key));
      once = λ i key. omega (arith, none i key);
      alone = λ i j key ne l. none j key;
    }
  where
    none : (i key : ℕ) → count_of key (list_at (key_lists (declared_queues os) (declared_own ts)) i) ≡ 0
    none i key = ap (λ l. count_of key l) (none-declared os ts i)

pub apart-started : (p : stored.Pool) (queues : List stored.Queue) (own : List TaskObjects) (os : List ObjDef) (ts : List TaskDef) → queues ≡ declared_queues os → own ≡ declared_own ts → AreApart (key_lists queues own) p
apart-started p queues own os ts e f =
    subst (λ l. AreApart (key_lists l own) p) (sym e) (subst (λ l. AreApart (key_lists (declared_queues os) l) p) (sym f) (apart-declared p os ts))

pub long-started : (own : List TaskObjects) (ts : List TaskDef) → own ≡ declared_own ts → length ts ≤ 60 → length own ≡ 64
long-started own ts e h =
    let front = map (λ (d : TaskDef). empty_own d.qsize) ts in
    let rest = replicate (64 - length ts) (empty_own 0) in
    omega (arith, h, ap length e, length-append front rest, length-map ts (λ (d : TaskDef). empty_own d.qsize), length-replicate (64 - length ts) (empty_own 0))
