-- Each plain change keeps that what tasks wait for is there, and of a kind that they may so wait for.
use Rattle.kern_model.proofs.Common.{◌≡◌, ℕ, ◌<◌, List, [], get_or, refl, sym, ap, ◌∙◌, subst, true, false, arith, Some, None, SemPend, QPend, FlagPend, MutexPend, Waiting, Obj, Multi, Kernel, Task, Object, Settings, Timer, Content, Count, Messages, Bits, Held, Timed, Running, update_task, update_object, no_task, no_object, list_at, task_at, object_at, count_of, waits_for_nothing, answered_task, waiting_task, with_prio, IsLinked, can_wait, Fits}
use Rattle.std.proofs.lemmas.Bool.{false≢true, true≢false}
use Rattle.kern_model.specs.Tasks.{deleted_task}
use Rattle.kern_model.specs.Waiters.{emptied}
use Rattle.kern_model.proofs.Basics.Updates.{update_task_keeps}
use Rattle.kern_model.proofs.Linked.Wakes.{waits-count}
use Rattle.kern_model.proofs.Linked.Contents.{update_object_at}
use Rattle.kern_laws.proofs.Changes.Each.{Shape, WaitsFit, follows}
use Rattle.kern_laws.proofs.Changes.Parts.{Keeps}
use Rattle.kern_laws.proofs.Valid.WaitForms.{no_objects}

-- what a task may wait for does not hang on the numbers in it

same_count : (w : Waiting) (m n : ℕ) → can_wait w (Count m) ≡ can_wait w (Count n)
same_count (Obj SemPend) m n = refl
same_count (Obj _) m n = refl
same_count Multi m n = refl
same_count _ m n = refl

same_messages : (w : Waiting) (l m : ℕ) (ms ns : List (ℕ × ℕ)) → can_wait w (Messages l ms) ≡ can_wait w (Messages m ns)
same_messages (Obj QPend) l m ms ns = refl
same_messages (Obj _) l m ms ns = refl
same_messages Multi l m ms ns = refl
same_messages _ l m ms ns = refl

same_bits : (w : Waiting) (a b : ℕ) → can_wait w (Bits a) ≡ can_wait w (Bits b)
same_bits (Obj FlagPend) a b = refl
same_bits (Obj _) a b = refl
same_bits _ a b = refl

same_owned : (w : Waiting) (v x m n : ℕ) → can_wait w (Held (Some v) m) ≡ can_wait w (Held (Some x) n)
same_owned (Obj MutexPend) v x m n = refl
same_owned (Obj _) v x m n = refl
same_owned _ v x m n = refl

-- a task waits for no free mutex, and for no timer
pub free_never : (w : Waiting) (n : ℕ) → can_wait w (Held None n) ≡ false
free_never (Obj MutexPend) n = refl
free_never (Obj _) n = refl
free_never _ n = refl

pub timed_never : (w : Waiting) (t : Timer) → can_wait w (Timed t) ≡ false
timed_never (Obj SemPend) t = refl
timed_never (Obj _) t = refl
timed_never _ t = refl

fits_followed : (w : Waiting) (old new : Content) → follows old new ≡ true → can_wait w old ≡ true → can_wait w new ≡ true
fits_followed w (Count m) (Count n) e h = same_count w n m ∙ h
fits_followed w (Messages l ms) (Messages m ns) e h = same_messages w m l ns ms ∙ h
fits_followed w (Bits a) (Bits b) e h = same_bits w b a ∙ h
fits_followed w _ _ e h = absurd (false≢true e)

-- a change of one task
abbrev FitsAs : Kernel → Task → Type 0
FitsAs k t = waits_for_nothing t.waiting ≡ false → Fits k.objects t.waiting t.objects

fits-task : (k : Kernel) (x : ℕ) (f : Task → Task) → (FitsAs k (task_at k x) → FitsAs k (f (task_at k x))) → WaitsFit k → (y : ℕ) → FitsAs k (get_or (update_task k.tasks x f) y no_task)
fits-task k x f h old = update_task_keeps (λ t. FitsAs k t) f k.tasks x h old

-- a change of one object for those that wait for it
abbrev CanWait : Waiting → Object → Type 0
CanWait w b = (b.deleted ≡ false) × (can_wait w b.content ≡ true)

fits-object : (k : Kernel) (o : ℕ) (f : Object → Object) → ((x : ℕ) → waits_for_nothing (task_at k x).waiting ≡ false → 0 < count_of o (task_at k x).objects → CanWait (task_at k x).waiting (object_at k o) → CanWait (task_at k x).waiting (f (object_at k o))) → WaitsFit k → WaitsFit (record k { objects = update_object k.objects o f })
fits-object k o f h old x w =
    update_object_at (λ i b. 0 < count_of i (task_at k x).objects → CanWait (task_at k x).waiting b) f k.objects o (λ c l. h x w l (c l)) (old x w)

-- nobody waits for an object without waiters, and for what does not fit
pub nobody_waits : (k : Kernel) → IsLinked k → (o : ℕ) → list_at k.pend o ≡ [] → (x : ℕ) → waits_for_nothing (task_at k x).waiting ≡ false → 0 < count_of o (task_at k x).objects → ⊥
nobody_waits k v o none x w l = let zero_times : count_of x (list_at k.pend o) ≡ 0 = ap (λ xs. count_of x xs) none in absurd (omega (arith, l, zero_times, waits-count k v x w o))

-- what a task waits for, once its content is known
known : (w : Waiting) (b : Object) (c : Content) → b.content ≡ c → CanWait w b → can_wait w c ≡ true
known w b c e h = ap (λ a. can_wait w a) (sym e) ∙ h.1

no_timer : (w : Waiting) (b : Object) (t : Timer) → b.content ≡ Timed t → CanWait w b → ⊥
no_timer w b t e h = true≢false (sym (known w b (Timed t) e h) ∙ timed_never w t)

pub keeps-fits : (s : Settings) → Keeps s WaitsFit
keeps-fits s =
    record {
      wake = λ f h x k w i. fits-task k x (answered_task f) (λ _ e. absurd (true≢false e)) i.fits;
      block = λ k x w b i. fits-task k x (waiting_task w) (λ _ _. b.fits) i.fits;
      moves = λ place x p k v m a l n i. fits-task k x (with_prio p) (λ j. j) i.fits;
      content = λ k o old new h e word i. fits-object k o (λ b. record b { content = new })
          (λ x _ _ c. (c.0, fits_followed (task_at k x).waiting old new e (known (task_at k x).waiting (object_at k o) old h.holds c))) i.fits;
      taken = λ k o n x h m i. fits-object k o (λ b. record b { content = Held (Some x) 1 })
          (λ y _ _ c. absurd (true≢false (sym (known (task_at k y).waiting (object_at k o) (Held None n) h.holds c) ∙ free_never (task_at k y).waiting n))) i.fits;
      owned = λ k o m n v x h a l d i. fits-object k o (λ b. record b { content = Held (Some x) n })
          (λ y _ _ c. (c.0, same_owned (task_at k y).waiting x v n m ∙ known (task_at k y).waiting (object_at k o) (Held (Some v) m) h.holds c)) i.fits;
      freed = λ k o m v h e i. fits-object k o (λ b. record b { content = Held None 0 }) (λ x w l _. absurd (nobody_waits k h.links o e x w l)) i.fits;
      deleted = λ k o c h t e i. fits-object k o (λ b. record { content = emptied b.content; deleted = true }) (λ x w l _. absurd (nobody_waits k h.links o e x w l)) i.fits;
      timer_runs = λ k o after t h i. fits-object k o (λ b. record b { content = Timed (record t { state = Running }) })
          (λ x _ _ c. absurd (no_timer (task_at k x).waiting (object_at k o) t h.holds c)) i.fits;
      timer_rests = λ k o t state h d i. fits-object k o (λ b. record b { content = Timed (record t { state = state }) })
          (λ x _ _ c. absurd (no_timer (task_at k x).waiting (object_at k o) t h.holds c)) i.fits;
      timer_deleted = λ k o t v h d i. fits-object k o (λ b. record b { deleted = true }) (λ x _ _ c. absurd (no_timer (task_at k x).waiting (object_at k o) t h c)) i.fits;
      task = λ k x f h i. fits-task k x f (λ j. subst (λ (m : Shape). waits_for_nothing m.waiting ≡ false → Fits k.objects m.waiting m.objects) (sym (h (task_at k x))) j) i.fits;
      based = λ k x p inside l n i. fits-task k x (λ t. record t { base = p }) (λ j. j) i.fits;
      stores = λ k x ms r words i. fits-task k x (λ t. record t { messages = ms }) (λ j. j) i.fits;
      answers = λ k x a p i. fits-task k x (λ t. record t { answered = a }) (λ j. j) i.fits;
      ended = λ k outcome x v l i. fits-task k x deleted_task (λ _ e. absurd (true≢false e)) i.fits;
      died = λ k x v l r i. fits-task k x (λ t. record t { alive = false }) (λ j. j) i.fits;
      internal = λ k x w v e d i. fits-task k x (λ t. record t { waiting = w })
          (λ _ _ o l. let none : count_of o (task_at k x).objects ≡ 0 = ap (λ os. count_of o os) (no_objects k x v e) in absurd (omega (arith, l, none))) i.fits;
      rest = λ k j e i. rest k j e.tasks e.objects i.fits;
    }
  where
    rest : (k j : Kernel) → j.tasks ≡ k.tasks → j.objects ≡ k.objects → WaitsFit k → WaitsFit j
    rest k j e d old x =
        subst (λ (t : Task). FitsAs j t) (sym (ap (λ ts. get_or ts x no_task) e))
        (λ w o l. subst (λ (b : Object). CanWait (task_at k x).waiting b) (sym (ap (λ bs. get_or bs o no_object) d)) (old x w o l))
