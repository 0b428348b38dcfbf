-- The kernel at the start is valid: nobody waits or owns, no message is stored, no timer runs.
use Rattle.kern_model.proofs.Common.{◌≡◌, ◌⊎◌, inl, inr, ◌<◌, ◌≤◌, ℕ, suc, Bool, true, false, List, [], ◌∷◌, Some, None, get_or, refl, sym, ap, ◌∙◌, subst, arith, length, map, replicate, All, ◌==◌, if◌then◌else◌, slice_index}
use Rattle.std.proofs.lemmas.Bool.{false≢true, cases_lt}
use Rattle.std.proofs.lemmas.List.{get_or_past}
use Rattle.std.proofs.lemmas.List.Elements.{All-head, All-tail, All-replicate, All-cons, All-nil}
use Rattle.kern_base.specs.declared.kinds.Kind.{Kind}
use Rattle.kern_base.specs.declared.kinds.Kind.TheVariants.{Sem, Queue, Flags, Mutex, OneShot, Periodic}
use Rattle.kern_base.specs.declared.outcomes.Waiting.{Waiting}
use Rattle.kern_base.specs.declared.outcomes.Waiting.TheVariants.{No, Signal}
use Rattle.kern_model.specs.State.{Kernel, Task, Object, no_task, no_object, list_at, task_at, object_at, prio_of, count_of}
use Rattle.kern_model.specs.Inherit.{waits_on, owner_for, reaches, reaches_by, numbers, least_of, inherited}
use Rattle.kern_model.specs.Pool.{object_messages, task_messages}
use Rattle.kern_model.specs.Waiters.{messages_in}
use Rattle.kern_model.specs.Valid.{IsValid, IsLinked, IsInherited, IsWord, IsContent}
use Rattle.kern_model.specs.Valid.Lists.{Rises}
use Rattle.kern_model.specs.Valid.Objects.{IsObject}
use Rattle.kern_model.specs.Valid.Timers.{timer_matches_of}
use Rattle.kern_model.specs.Valid.Waits.{WaitsFor, Fits}
use Rattle.kern_model.specs.Valid.Results.{ReadsFrom}
use Rattle.kern_model.specs.Valid.Words.{HasTaskWords, HoldsWords, IsOptionalWord}
use Rattle.kern_model.specs.Start.{start_tasks, living_task, start_state, object_of, content_of}
use Rattle.kern_model.proofs.Lemmas.{choice_by, equal, or_either, inherited-own}
use Rattle.app_image.specs.Image.{ImageRecord, IsValidImage, no_callback}
use Rattle.app_image.specs.Layout.{HasWords, HasWordFields}
use Rattle.app_image.specs.declared.records.ObjDef.{ObjDef}
use Rattle.kern_laws.proofs.Changes.Words.{index-word}
use Rattle.kern_laws.proofs.Start.Linked.{linked-start, each}

-- what holds of each element, and of what stands past the end, holds at each number
each-at : {A : Type 0} (P : A → Type 0) (xs : List A) (d : A) → All P xs → P d → (i : ℕ) → P (get_or xs i d)
each-at P xs d all past i =
    elim (cases_lt i (length xs)) [ inl l ↦ all i d l | inr l ↦ subst P (sym (get_or_past xs i d l)) past ]

-- Where no task waits for the owner of a mutex, a task inherits its own base priority alone.

module _ (k : Kernel) (nobody : (u : ℕ) → waits_on k u ≡ None) (x : ℕ) (low : (task_at k x).base ≤ 63) where
  reached : (u : ℕ) → reaches k u x ≡ true → u ≡ x
  reached u t =
      elim (or_either (u == x) (reaches_by 63 k x (waits_on k u)) t) [
        | inl e ↦ equal u x e
        | inr e ↦ absurd (false≢true (sym (ap (λ o. reaches_by 63 k x o) (nobody u)) ∙ e))
      ]

  least-alone : (us : List ℕ) → (task_at k x).base ≤ least_of x us k
  least-alone [] = low
  least-alone (u ∷ us) =
      let here = choice_by (λ n. (task_at k x).base ≤ n) (reaches k u x) (task_at k u).base 63 (λ t. subst (λ y. (task_at k x).base ≤ (task_at k y).base) (sym (reached u t)) (omega arith)) (λ _. low) in
      omega (arith, here, least-alone us)

  inherits-own : x < 64 → (task_at k x).base ≡ inherited k x
  inherits-own l = omega (arith, least-alone (numbers 0 64), inherited-own k x l)

-- Each task at the start.

record IsStartTask (x : ℕ) (t : Task) : Type 0 where
  waiting : (t.waiting ≡ No) ⊎ ((t.waiting ≡ Signal) × (60 ≤ x))
  objects : t.objects ≡ []
  messages : t.messages ≡ []
  answered : t.answered ≡ None
  own : t.prio ≡ t.base
  words : HasTaskWords t

living-words : (prio quantum limit : ℕ) (w : Waiting) → HasTaskWords (living_task prio quantum limit w)
living-words prio quantum limit w = record { mask = omega arith; opt = omega arith; table = omega arith; messages = All-nil (λ m. IsWord m.0 × IsWord m.1); answered = tt }

start-ready : (x prio quantum limit : ℕ) → IsStartTask x (living_task prio quantum limit No)
start-ready x prio quantum limit = record { waiting = inl refl; objects = refl; messages = refl; answered = refl; own = refl; words = living-words prio quantum limit No }

start-signal : (x prio quantum limit : ℕ) → 60 ≤ x → IsStartTask x (living_task prio quantum limit Signal)
start-signal x prio quantum limit h = record { waiting = inr (refl, h); objects = refl; messages = refl; answered = refl; own = refl; words = living-words prio quantum limit Signal }

start-none : (x : ℕ) → IsStartTask x no_task
start-none x = record { waiting = inl refl; objects = refl; messages = refl; answered = refl; own = refl; words = record { mask = omega arith; opt = omega arith; table = omega arith; messages = All-nil (λ m. IsWord m.0 × IsWord m.1); answered = tt } }

task_messages-none : (ts : List Task) → ((x : ℕ) → (get_or ts x no_task).messages ≡ []) → task_messages ts ≡ 0
task_messages-none [] h = refl
task_messages-none (t ∷ ts) h =
    let here = ap (λ (l : List (ℕ × ℕ)). length l) (h 0) in
    omega (arith, here, task_messages-none ts (λ x. h (suc x)))

-- what it waits for, and reads

start-waits : (x : ℕ) (t : Task) → IsStartTask x t → WaitsFor x t.waiting t
start-waits x t h =
    elim h.waiting [ inl e ↦ subst (λ w. WaitsFor x w t) (sym e) tt | inr e ↦ subst (λ w. WaitsFor x w t) (sym e.0) (e.1, h.objects) ]

start-fits : (bs : List Object) (x : ℕ) (t : Task) → IsStartTask x t → Fits bs t.waiting t.objects
start-fits bs x t h o some = let none = ap (λ l. count_of o l) h.objects in absurd (omega (arith, some, none))

start-reads : (x : ℕ) (t : Task) → IsStartTask x t → ReadsFrom t.answered t
start-reads x t h = subst (λ a. ReadsFrom a t) (sym h.answered) tt

start-messages : (x : ℕ) (t : Task) → IsStartTask x t → length t.messages ≤ t.limit
start-messages x t h = let none = ap (λ (l : List (ℕ × ℕ)). length l) h.messages in omega (arith, none)

start-owner : (k : Kernel) (x : ℕ) (t : Task) → IsStartTask x t → owner_for t.waiting t.objects k ≡ None
start-owner k x t h =
    elim h.waiting [ inl e ↦ ap (λ w. owner_for w t.objects k) e | inr e ↦ ap (λ w. owner_for w t.objects k) e.0 ]

-- Each object at the start, where so many application tasks are declared.

record IsStartObject (n : ℕ) (b : Object) : Type 0 where
  content : IsObject n [] b.deleted b.content
  timer : timer_matches_of b.deleted b.content ≡ 0
  messages : messages_in b.content ≡ 0
  words : HoldsWords b.content
  numbers : IsContent b.content

callback-word : (b : Bool) (n : ℕ) → IsWord n → IsOptionalWord (if b then None else Some n)
callback-word true n h = tt
callback-word false n h = h

start-content : (n : ℕ) (kind : Kind) (f : List ℕ) → All IsWord f → IsStartObject n (record { content = content_of kind f; deleted = false })
start-content n Sem f w = record { content = tt; timer = refl; messages = refl; words = tt; numbers = index-word f w 0 }
start-content n Queue f w = record { content = tt; timer = refl; messages = refl; words = All-nil (λ m. IsWord m.0 × IsWord m.1); numbers = omega arith }
start-content n Flags f w = record { content = tt; timer = refl; messages = refl; words = index-word f w 0; numbers = tt }
start-content n Mutex f w = record { content = refl; timer = refl; messages = refl; words = tt; numbers = omega arith }
start-content n OneShot f w = record { content = tt; timer = refl; messages = refl; words = (callback-word (slice_index f 2 == no_callback) (slice_index f 2) (index-word f w 2), index-word f w 3); numbers = (index-word f w 0, index-word f w 1) }
start-content n Periodic f w = record { content = tt; timer = refl; messages = refl; words = (callback-word (slice_index f 2 == no_callback) (slice_index f 2) (index-word f w 2), index-word f w 3); numbers = (index-word f w 0, index-word f w 1) }

start-no_object : (n : ℕ) → IsStartObject n no_object
start-no_object n = record { content = (refl, tt); timer = refl; messages = refl; words = tt; numbers = omega arith }

start-objects : (n : ℕ) (ds : List ObjDef) → All HasWordFields ds → All (IsStartObject n) (map object_of ds)
start-objects n [] h = All-nil (IsStartObject n)
start-objects n (d ∷ ds) h =
    All-cons (IsStartObject n) (object_of d) (map object_of ds) (start-content n d.kind d.f (All-head HasWordFields d ds h).words) (start-objects n ds (All-tail HasWordFields d ds h))

object_messages-none : (n : ℕ) (bs : List Object) → All (IsStartObject n) bs → object_messages bs ≡ 0
object_messages-none n [] h = refl
object_messages-none n (b ∷ bs) h =
    let here = (All-head (IsStartObject n) b bs h).messages in
    omega (arith, here, object_messages-none n bs (All-tail (IsStartObject n) b bs h))

-- The kernel at the start.

module _ (i : ImageRecord) (v : IsValidImage i) (words : HasWords i) where
  task-is : (x : ℕ) → IsStartTask x (task_at (start_state i) x)
  task-is =
      each i v IsStartTask (λ x h. start-ready x _ _ _) (λ x l h. start-none x) (start-signal 60 i.config.tick_prio i.config.quanta 0 (omega arith)) (start-signal 61 i.config.tmr_prio i.config.quanta 0 (omega arith)) (start-ready 62 63 i.config.quanta 0) (λ x h. start-none x)

  objects-are : All (IsStartObject (length i.tasks)) (map object_of i.objects)
  objects-are = start-objects (length i.tasks) i.objects words.fields

  object-is : (o : ℕ) → IsStartObject (length i.tasks) (object_at (start_state i) o)
  object-is = each-at (IsStartObject (length i.tasks)) (map object_of i.objects) no_object objects-are (start-no_object (length i.tasks))

  no_waiter : (o : ℕ) → list_at (start_state i).pend o ≡ []
  no_waiter =
      let P : List ℕ → Type 0 = λ l. l ≡ [] in
      each-at P (replicate (length i.objects) []) [] (All-replicate P (length i.objects) [] refl) refl

  inherited-start : IsLinked (start_state i) → IsInherited (start_state i)
  inherited-start l x who alive =
      let k = start_state i in
      let own = (task-is x).own in
      let most = (l.tasks.each_task x).prio_to in
      let few : x < 64 = elim who [ inl h ↦ omega (arith, h) | inr e ↦ omega (arith, e) ] in
      own ∙ inherits-own k (λ u. start-owner k u (task_at k u) (task-is u)) x (omega (arith, own, most)) few

  pub valid-start : IsValid (start_state i)
  valid-start =
      let k = start_state i in
      let linked = linked-start i v (λ o. (object-is o).numbers) in
      record {
        links = linked;
        order = λ o. subst (λ l. Rises (map (prio_of k) l)) (sym (no_waiter o)) tt;
        waits = record { forms = λ x. start-waits x (task_at k x) (task-is x); fits = λ x _. start-fits k.objects x (task_at k x) (task-is x) };
        results = λ x. start-reads x (task_at k x) (task-is x);
        objects = λ o. subst (λ l. IsObject (length i.tasks) l (object_at k o).deleted (object_at k o).content) (sym (no_waiter o)) (object-is o).content;
        timers = λ o. sym (object-is o).timer;
        messages = record {
          limits = λ x. start-messages x (task_at k x) (task-is x);
          pool = omega (arith, object_messages-none (length i.tasks) (map object_of i.objects) objects-are, task_messages-none (start_tasks i) (λ x. (task-is x).messages));
        };
        words = record { tasks = λ x. (task-is x).words; objects = λ o. (object-is o).words };
        inherited = inherited-start linked;
      }
