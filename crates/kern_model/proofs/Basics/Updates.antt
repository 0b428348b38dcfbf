-- What the changes of the kernel keep.
use Rattle.kern_model.proofs.Common.{◌≡◌, ◌≢◌, ℕ, zero, suc, ◌<◌, List, [], ◌∷◌, length, get_or, refl, ◌∙◌, sym, Finished, Kernel, Task, update_task, no_task, task_at, prio_of, wakes, left_all, woken_ready, answered_task, stands_in}
use Rattle.std.proofs.lemmas.List.{length-set, get_or-set_same, get_or-set_other}

-- what a change of tasks cannot alter is as before, at each task
pub update_task_same : {B : Type 0} (g : Task → B) (f : Task → Task) → ((t : Task) → g (f t) ≡ g t) → (ts : List Task) (x y : ℕ) → g (get_or (update_task ts x f) y no_task) ≡ g (get_or ts y no_task)
update_task_same g f h [] x y = refl
update_task_same g f h (t ∷ ts) zero zero = h t
update_task_same g f h (t ∷ ts) zero (suc y) = refl
update_task_same g f h (t ∷ ts) (suc x) zero = refl
update_task_same g f h (t ∷ ts) (suc x) (suc y) = update_task_same g f h ts x y

-- what holds of each task holds after a change of one that keeps it there
pub update_task_keeps : (P : Task → Type 0) (f : Task → Task) (ts : List Task) (x : ℕ) → (P (get_or ts x no_task) → P (f (get_or ts x no_task))) → ((y : ℕ) → P (get_or ts y no_task)) → (y : ℕ) → P (get_or (update_task ts x f) y no_task)
update_task_keeps P f [] x h old y = old y
update_task_keeps P f (t ∷ ts) zero h old zero = h (old 0)
update_task_keeps P f (t ∷ ts) zero h old (suc y) = old (suc y)
update_task_keeps P f (t ∷ ts) (suc x) h old zero = old 0
update_task_keeps P f (t ∷ ts) (suc x) h old (suc y) = update_task_keeps P f ts x h (λ z. old (suc z)) y

pub update_task_at : (P : ℕ → Task → Type 0) (f : Task → Task) (ts : List Task) (x : ℕ) → (P x (get_or ts x no_task) → P x (f (get_or ts x no_task))) → ((y : ℕ) → P y (get_or ts y no_task)) → (y : ℕ) → P y (get_or (update_task ts x f) y no_task)
update_task_at P f [] x h old y = old y
update_task_at P f (t ∷ ts) zero h old zero = h (old 0)
update_task_at P f (t ∷ ts) zero h old (suc y) = old (suc y)
update_task_at P f (t ∷ ts) (suc x) h old zero = old 0
update_task_at P f (t ∷ ts) (suc x) h old (suc y) = update_task_at (λ n. P (suc n)) f ts x h (λ z. old (suc z)) y

pub length-left_all : (x : ℕ) (os : List ℕ) (lists : List (List ℕ)) → length (left_all x os lists) ≡ length lists
length-left_all x [] lists = refl
length-left_all x (o ∷ os) lists = length-left_all x os _ ∙ length-set lists o _

pub length-woken_ready : (n p h x : ℕ) (lists : List (List ℕ)) → length (woken_ready n p h x lists) ≡ length lists
length-woken_ready zero p h x lists = length-set lists p _
length-woken_ready (suc n) p h x lists = refl

pub length-stands_in : (prio : ℕ → ℕ) (x p : ℕ) (os : List ℕ) (lists : List (List ℕ)) → length (stands_in prio x p os lists) ≡ length lists
length-stands_in prio x p [] lists = refl
length-stands_in prio x p (o ∷ os) lists = length-stands_in prio x p os _ ∙ length-set lists o _

module _ (f : Finished) (h x : ℕ) (k : Kernel) where
  pub prio_of-wakes : (y : ℕ) → prio_of (wakes f h x k) y ≡ prio_of k y
  prio_of-wakes y = update_task_same (λ t. t.prio) (answered_task f) (λ t. refl) k.tasks x y

  pub objects-wakes : (y : ℕ) → (task_at (wakes f h x k) y).objects ≡ (task_at k y).objects
  objects-wakes y = update_task_same (λ t. t.objects) (answered_task f) (λ t. refl) k.tasks x y

-- the tasks and the objects at a place after a change
module _ (ts : List Task) (x : ℕ) (f : Task → Task) where
  pub task-updated : x < length ts → get_or (update_task ts x f) x no_task ≡ f (get_or ts x no_task)
  task-updated h = get_or-set_same ts x _ no_task h

  pub task-other : (y : ℕ) → x ≢ y → get_or (update_task ts x f) y no_task ≡ get_or ts y no_task
  task-other y h = get_or-set_other ts x y _ no_task (λ d. h (sym d))
