-- Each plain change keeps that a result of several objects that waits has its table in RAM.
use Rattle.kern_model.proofs.Common.{◌≡◌, ℕ, List, length, get_or, refl, sym, ap, ◌∙◌, subst, Option, Some, None, false, Service, PendMulti, Finished, Kernel, Task, Settings, update_task, no_task, task_at, answered_task, waiting_task, with_prio, has_result, IsTable, HasItsTable, IsResult, ReadsFrom}
use Rattle.std.proofs.lemmas.Bool.{true≢false}
use Rattle.kern_model.specs.Tasks.{deleted_task}
use Rattle.kern_model.proofs.Basics.Updates.{update_task_keeps}
use Rattle.kern_laws.proofs.Changes.Each.{Shape}
use Rattle.kern_laws.proofs.Changes.Parts.{ResultTables, Keeps}

-- what a result says of its task is a matter of its objects and its table alone
its_table-same : (s : Service) (f : Finished) (t u : Task) → u.objects ≡ t.objects → u.table ≡ t.table → HasItsTable s f t → HasItsTable s f u
its_table-same PendMulti f t u e d h =
    (subst (λ n. IsTable n (length u.objects)) (sym d) (subst (λ (os : List ℕ). IsTable t.table (length os)) (sym e) h.0), h.1 ∙ sym d, h.2 ∙ ap (λ (os : List ℕ). length os) (sym e))
its_table-same _ f t u e d h = h

result-same : (f : Finished) (t u : Task) → u.objects ≡ t.objects → u.table ≡ t.table → IsResult f t → IsResult f u
result-same f t u e d h = record { table = its_table-same f.service f t u e d h.table; ready = h.ready; eight = h.eight; past = h.past }

-- the result of a task
abbrev Reads : Task → Type 0
Reads t = ReadsFrom t.answered t

-- what of a task it is a matter of
record Result : Type 0 where
  pub answered : Option Finished
  pub objects : List ℕ
  pub table : ℕ

abbrev result : Task → Result
result t = record { answered = t.answered; objects = t.objects; table = t.table }

reads-same : (a : Option Finished) (t u : Task) → u.objects ≡ t.objects → u.table ≡ t.table → ReadsFrom a t → ReadsFrom a u
reads-same None t u e d h = tt
reads-same (Some f) t u e d h = result-same f t u e d h

-- a change of one task that leaves all that
reads-task : (k : Kernel) (x : ℕ) (f : Task → Task) → ((t : Task) → result (f t) ≡ result t) → ResultTables k → (y : ℕ) → Reads (get_or (update_task k.tasks x f) y no_task)
reads-task k x f h old =
    let t = task_at k x in
    update_task_keeps (λ t. Reads t) f k.tasks x
    (λ i. subst (λ a. ReadsFrom a (f t)) (sym (ap (λ (m : Result). m.answered) (h t)))
    (reads-same t.answered t (f t) (ap (λ (m : Result). m.objects) (h t)) (ap (λ (m : Result). m.table) (h t)) i))
    old

-- no result
no_result : (a : Option Finished) (t : Task) → has_result a ≡ false → ReadsFrom a t
no_result None t h = tt
no_result (Some f) t h = absurd (true≢false h)

pub keeps-tables : (s : Settings) → Keeps s ResultTables
keeps-tables s =
    record {
      wake = λ f h x k w i. update_task_keeps (λ t. Reads t) (answered_task f) k.tasks x
          (λ _. result-same f (task_at k x) (answered_task f (task_at k x)) refl refl (w.result.result x (i.waits x))) i.reads;
      block = λ k x w b i. update_task_keeps (λ t. Reads t) (waiting_task w) k.tasks x (λ _. no_result (task_at k x).answered (waiting_task w (task_at k x)) b.no_result) i.reads;
      moves = λ place x p k v m a l n i. reads-task k x (with_prio p) (λ t. refl) i.reads;
      content = λ k o old new h e word i. i.reads;
      taken = λ k o n x h m i. i.reads;
      owned = λ k o m n v x h a l d i. i.reads;
      freed = λ k o m v h e i. i.reads;
      deleted = λ k o c h t e i. i.reads;
      timer_runs = λ k o after t h i. i.reads;
      timer_rests = λ k o t state h d i. i.reads;
      timer_deleted = λ k o t v h d i. i.reads;
      task = λ k x f h i. reads-task k x f (λ t. ap (λ (m : Shape). let r : Result = record { answered = m.answered; objects = m.objects; table = m.table } in r) (h t)) i.reads;
      based = λ k x p inside l n i. reads-task k x (λ t. record t { base = p }) (λ t. refl) i.reads;
      stores = λ k x ms r words i. reads-task k x (λ t. record t { messages = ms }) (λ t. refl) i.reads;
      answers = λ k x a p i. update_task_keeps (λ t. Reads t) (λ t. record t { answered = a }) k.tasks x (λ _. p.0 (record (task_at k x) { answered = a })) i.reads;
      ended = λ k outcome x v l i. update_task_keeps (λ t. Reads t) deleted_task k.tasks x (λ _. tt) i.reads;
      died = λ k x v l r i. reads-task k x (λ t. record t { alive = false }) (λ t. refl) i.reads;
      internal = λ k x w v e d i. reads-task k x (λ t. record t { waiting = w }) (λ t. refl) i.reads;
      rest = λ k j e i. subst (λ (ts : List Task). (y : ℕ) → Reads (get_or ts y no_task)) (sym e.tasks) i.reads;
    }
