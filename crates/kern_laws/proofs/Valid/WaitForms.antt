-- Each plain change keeps that a task waits for more than one object only for several, whose table lies in RAM.
use Rattle.kern_model.proofs.Common.{◌≡◌, ◌⊎◌, ℕ, List, [], length, get_or, refl, sym, ap, ◌∙◌, subst, arith, inl, inr, false, Waiting, No, Delay, Obj, TaskSem, TaskQ, Multi, Signal, Kernel, Task, Settings, update_task, no_task, task_at, answered_task, waiting_task, with_prio, IsLinked, IsTable, WaitsFor}
use Rattle.kern_model.specs.Tasks.{deleted_task}
use Rattle.kern_model.proofs.Basics.Updates.{update_task_at}
use Rattle.kern_laws.proofs.Changes.Each.{Shape}
use Rattle.kern_laws.proofs.Changes.Parts.{WaitForms, Keeps}

-- a wait's form is a matter of its objects and its table alone
waits_for-same : (x : ℕ) (w : Waiting) (t u : Task) → u.objects ≡ t.objects → u.table ≡ t.table → WaitsFor x w t → WaitsFor x w u
waits_for-same x No t u e d h = tt
waits_for-same x Delay t u e d h = e ∙ h
waits_for-same x (Obj s) t u e d h = (h.0, ap (λ (os : List ℕ). length os) e ∙ h.1)
waits_for-same x TaskSem t u e d h = e ∙ h
waits_for-same x TaskQ t u e d h = e ∙ h
waits_for-same x Multi t u e d h = subst (λ n. IsTable n (length u.objects)) (sym d) (subst (λ (os : List ℕ). IsTable t.table (length os)) (sym e) h)
waits_for-same x Signal t u e d h = (h.0, e ∙ h.1)

-- the form of a task's wait
abbrev HasForm : ℕ → Task → Type 0
HasForm x t = WaitsFor x t.waiting t

-- what of a task it is a matter of
record Form : Type 0 where
  pub waiting : Waiting
  pub objects : List ℕ
  pub table : ℕ

abbrev form : Task → Form
form t = record { waiting = t.waiting; objects = t.objects; table = t.table }

-- a change of one task that leaves all that
forms-task : (k : Kernel) (x : ℕ) (f : Task → Task) → ((t : Task) → form (f t) ≡ form t) → WaitForms k → (y : ℕ) → HasForm y (get_or (update_task k.tasks x f) y no_task)
forms-task k x f h old =
    let t = task_at k x in
    update_task_at HasForm f k.tasks x
    (λ i. subst (λ s. WaitsFor x s (f t)) (sym (ap (λ (m : Form). m.waiting) (h t)))
    (waits_for-same x t.waiting t (f t) (ap (λ (m : Form). m.objects) (h t)) (ap (λ (m : Form). m.table) (h t)) i))
    old

-- an internal task has no object, and waits for a signal or for nothing
signalled : (x : ℕ) → (x ≡ 60) ⊎ (x ≡ 61) → (w : Waiting) → (w ≡ No) ⊎ (w ≡ Signal) → (t : Task) → t.objects ≡ [] → WaitsFor x w t
signalled x who w (inl e) t none = subst (λ s. WaitsFor x s t) (sym e) tt
signalled x who w (inr e) t none = subst (λ s. WaitsFor x s t) (sym e) (elim who [ inl i ↦ omega (arith, i) | inr i ↦ omega (arith, i) ], none)

pub no_objects : (k : Kernel) (x : ℕ) → IsLinked k → (x ≡ 60) ⊎ (x ≡ 61) → (task_at k x).objects ≡ []
no_objects k x v (inl e) = (v.internal.no_objects x (omega (arith, e))).0
no_objects k x v (inr e) = (v.internal.no_objects x (omega (arith, e))).0

pub keeps-wait_forms : (s : Settings) → Keeps s WaitForms
keeps-wait_forms s =
    record {
      wake = λ f h x k w i. update_task_at HasForm (answered_task f) k.tasks x (λ _. tt) i.waits;
      block = λ k x w b i. update_task_at HasForm (waiting_task w) k.tasks x (λ _. b.form) i.waits;
      moves = λ place x p k v m a l n i. forms-task k x (with_prio p) (λ t. refl) i.waits;
      content = λ k o old new h e word i. i.waits;
      taken = λ k o n x h m i. i.waits;
      owned = λ k o m n v x h a l d i. i.waits;
      freed = λ k o m v h e i. i.waits;
      deleted = λ k o c h t e i. i.waits;
      timer_runs = λ k o after t h i. i.waits;
      timer_rests = λ k o t state h d i. i.waits;
      timer_deleted = λ k o t v h d i. i.waits;
      task = λ k x f h i. forms-task k x f (λ t. ap (λ (m : Shape). let r : Form = record { waiting = m.waiting; objects = m.objects; table = m.table } in r) (h t)) i.waits;
      based = λ k x p inside l n i. forms-task k x (λ t. record t { base = p }) (λ t. refl) i.waits;
      stores = λ k x ms r words i. forms-task k x (λ t. record t { messages = ms }) (λ t. refl) i.waits;
      answers = λ k x a p i. forms-task k x (λ t. record t { answered = a }) (λ t. refl) i.waits;
      ended = λ k outcome x v l i. update_task_at HasForm deleted_task k.tasks x (λ _. tt) i.waits;
      died = λ k x v l r i. forms-task k x (λ t. record t { alive = false }) (λ t. refl) i.waits;
      internal = λ k x w v e d i. update_task_at HasForm (λ t. record t { waiting = w }) k.tasks x
          (λ _. signalled x e w d (record (task_at k x) { waiting = w }) (no_objects k x v e)) i.waits;
      rest = λ k j e i. subst (λ (ts : List Task). (y : ℕ) → HasForm y (get_or ts y no_task)) (sym e.tasks) i.waits;
    }
