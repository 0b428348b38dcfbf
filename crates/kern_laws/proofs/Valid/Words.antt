-- Each plain change keeps that what programs gave and read are words.
use Rattle.kern_model.proofs.Common.{◌≡◌, ℕ, List, get_or, sym, subst, Some, None, true, false, Kernel, Task, Object, Running, Content, Count, Messages, Bits, Held, Timed, Settings, update_task, update_object, no_task, no_object, task_at, object_at, answered_task, waiting_task, with_prio, IsWord, HasTaskWords, HoldsWords}
use Rattle.std.proofs.lemmas.List.Elements.{All-nil}
use Rattle.kern_model.specs.Waiters.{emptied}
use Rattle.kern_model.specs.Tasks.{deleted_task}
use Rattle.kern_model.proofs.Basics.Updates.{update_task_keeps}
use Rattle.kern_model.proofs.Linked.Contents.{update_object_keeps}
use Rattle.kern_laws.proofs.Changes.Each.{Shape, shape}
use Rattle.kern_laws.proofs.Changes.Parts.{Words, Keeps}

-- a change of one task
words-task : (k : Kernel) (x : ℕ) (f : Task → Task) → (HasTaskWords (task_at k x) → HasTaskWords (f (task_at k x))) → Words k → (y : ℕ) → HasTaskWords (get_or (update_task k.tasks x f) y no_task)
words-task k x f h old = update_task_keeps HasTaskWords f k.tasks x h old.tasks

-- a change of one object
words-object : (k : Kernel) (o : ℕ) (f : Object → Object) → (HoldsWords (object_at k o).content → HoldsWords (f (object_at k o)).content) → Words k → Words (record k { objects = update_object k.objects o f })
words-object k o f h old = record { tasks = old.tasks; objects = update_object_keeps (λ b. HoldsWords b.content) f k.objects o h old.objects }

-- what a task's words are a matter of
task-shape : (t u : Task) → shape u ≡ shape t → HasTaskWords t → HasTaskWords u
task-shape t u e h =
    subst (λ (m : Shape). HasTaskWords (record u { mask = m.mask; opt = m.opt; table = m.table; messages = m.messages; answered = m.answered })) (sym e)
    (record { mask = h.mask; opt = h.opt; table = h.table; messages = h.messages; answered = h.answered })

emptied-words : (c : Content) → HoldsWords c → HoldsWords (emptied c)
emptied-words (Messages limit ms) h = All-nil (λ m. IsWord m.0 × IsWord m.1)
emptied-words (Count n) h = h
emptied-words (Bits bits) h = h
emptied-words (Held owner nesting) h = h
emptied-words (Timed t) h = h

pub keeps-words : (s : Settings) → Keeps s Words
keeps-words s =
    record {
      wake = λ f h x k w i. record { tasks = words-task k x (answered_task f) (λ o. record { mask = o.mask; opt = o.opt; table = o.table; messages = o.messages; answered = w.result.words }) i.words; objects = i.words.objects };
      block = λ k x w b i. record { tasks = words-task k x (waiting_task w) (λ o. record { mask = b.mask; opt = b.opt; table = b.table; messages = o.messages; answered = o.answered }) i.words; objects = i.words.objects };
      moves = λ place x p k v m a l n i. record { tasks = words-task k x (with_prio p) (λ o. record { mask = o.mask; opt = o.opt; table = o.table; messages = o.messages; answered = o.answered }) i.words; objects = i.words.objects };
      content = λ k o old new h e word i. words-object k o (λ b. record b { content = new }) (λ _. word) i.words;
      taken = λ k o n x h m i. words-object k o (λ b. record b { content = Held (Some x) 1 }) (λ _. tt) i.words;
      owned = λ k o m n v x h a l d i. words-object k o (λ b. record b { content = Held (Some x) n }) (λ _. tt) i.words;
      freed = λ k o m v h e i. words-object k o (λ b. record b { content = Held None 0 }) (λ _. tt) i.words;
      deleted = λ k o c h t e i. record { tasks = i.words.tasks; objects = (words-object k o (λ b. record { content = emptied b.content; deleted = true }) (emptied-words (object_at k o).content) i.words).objects };
      timer_runs = λ k o after t h i. record { tasks = i.words.tasks; objects = (words-object k o (λ b. record b { content = Timed (record t { state = Running }) }) (λ w. subst HoldsWords h.holds w) i.words).objects };
      timer_rests = λ k o t state h d i. record { tasks = i.words.tasks; objects = (words-object k o (λ b. record b { content = Timed (record t { state = state }) }) (λ w. subst HoldsWords h.holds w) i.words).objects };
      timer_deleted = λ k o t v h d i. words-object k o (λ b. record b { deleted = true }) (λ w. w) i.words;
      task = λ k x f h i. record { tasks = words-task k x f (task-shape (task_at k x) (f (task_at k x)) (h (task_at k x))) i.words; objects = i.words.objects };
      based = λ k x p inside l n i. record { tasks = words-task k x (λ t. record t { base = p }) (λ o. record { mask = o.mask; opt = o.opt; table = o.table; messages = o.messages; answered = o.answered }) i.words; objects = i.words.objects };
      stores = λ k x ms r words i. record { tasks = words-task k x (λ t. record t { messages = ms }) (λ o. record { mask = o.mask; opt = o.opt; table = o.table; messages = words; answered = o.answered }) i.words; objects = i.words.objects };
      answers = λ k x a p i. record { tasks = words-task k x (λ t. record t { answered = a }) (λ o. record { mask = o.mask; opt = o.opt; table = o.table; messages = o.messages; answered = p.1 }) i.words; objects = i.words.objects };
      ended = λ k outcome x v l i. record { tasks = words-task k x deleted_task (λ o. record { mask = o.mask; opt = o.opt; table = o.table; messages = All-nil (λ m. IsWord m.0 × IsWord m.1); answered = tt }) i.words; objects = i.words.objects };
      died = λ k x v l r i. record { tasks = words-task k x (λ t. record t { alive = false }) (λ o. record { mask = o.mask; opt = o.opt; table = o.table; messages = o.messages; answered = o.answered }) i.words; objects = i.words.objects };
      internal = λ k x w v e d i. record { tasks = words-task k x (λ t. record t { waiting = w }) (λ o. record { mask = o.mask; opt = o.opt; table = o.table; messages = o.messages; answered = o.answered }) i.words; objects = i.words.objects };
      rest = λ k j e i. record {
        tasks = subst (λ (ts : List Task). (y : ℕ) → HasTaskWords (get_or ts y no_task)) (sym e.tasks) i.words.tasks;
        objects = subst (λ (bs : List Object). (o : ℕ) → HoldsWords (get_or bs o no_object).content) (sym e.objects) i.words.objects;
      };
    }
