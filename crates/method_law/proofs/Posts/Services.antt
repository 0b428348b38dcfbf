-- A post with the handler's compared priority and with the saved one, where it readies no task that has the saved one.
use Rattle.machine_laws.proofs.Common.{◌≡◌, Bool, ℕ, refl, true, List, [], false, ◌∙◌, ◌∷◌, arith, subst, ap, inl, inr, ◌<◌, ◌==◌, if◌then◌else◌, Finished, Waiting, Request, fine, result_of, wakes_all, Kernel, task_at, Task, list_at, Content, Bits, Count, IsLinked}
use Rattle.std.specs.Prelude.{◌+◌}
use Rattle.std.proofs.Common.{length}
use Rattle.std.proofs.lemmas.Bool.{eqb-true, cases_Bool}
use Rattle.kern_base.specs.declared.outcomes.Waiting.TheVariants.{TaskSem, TaskQ}
use Rattle.kern_model.specs.State.{Messages, with_content, count_of, waits_for_nothing}
use Rattle.kern_model.specs.FlagBits.{has_bit, bits_after}
use Rattle.kern_model.specs.Effect.{posted_result, message, chosen}
use Rattle.kern_model.specs.Checks.{argument}
use Rattle.kern_model.specs.Semaphores.{sem_post_to, sem_post}
use Rattle.kern_model.specs.Queues.{q_post_to, q_post}
use Rattle.kern_model.specs.Flags.{flag_wakes_all, flag_post}
use Rattle.kern_model.specs.TaskObjects.{task_sem_post_to, task_q_post_to}
use Rattle.kern_model.specs.Posts.{PostKeeps}
use Rattle.kern_model.proofs.Lemmas.{keeps-refl, keeps-with_content}
use Rattle.machine_model.specs.Steps.{some_readied}
use Rattle.method_law.proofs.Posts.Wakes.{waits_not, none-readied, joins-alike, same-wakes_all, same-flag_wakes_all}

-- what is chosen of a list stands in it
chosen-stands : (all : Bool) (xs : List ℕ) (y : ℕ) → 0 < count_of y (chosen all xs) → 0 < count_of y xs
chosen-stands all [] y h = h
chosen-stands true (x ∷ xs) y h = h
chosen-stands false (x ∷ xs) y h = omega (arith, h)

-- in a list of one task only that one stands
alone-stands : (b : Bool) → 0 < (if b then 1 else 0) + 0 → b ≡ true
alone-stands true h = refl
alone-stands false h = absurd (omega (arith, h))

module _ (saved : ℕ) (k : Kernel) (v : IsLinked k) where
  -- a change by the compared priority, where the one with the handler's keeps what posts keep and readies no task of the saved one
  abbrev pub Same : (ℕ → Kernel) → Type 0
  Same e = length (e 0).tasks ≡ length k.tasks → PostKeeps k (e 0) → some_readied saved k.tasks (e 0).tasks ≡ false → e 0 ≡ e saved

  -- a task that stands in a pend list waits
  pend-waits : (o y : ℕ) → 0 < count_of y (list_at k.pend o) → waits_not k y ≡ false
  pend-waits o y h =
      elim (cases_Bool (waits_not k y)) as (λ _. waits_not k y ≡ false) [
        | inl e ↦ (let none : count_of y (list_at k.pend o) ≡ 0 = v.lists.waiters o y ∙ ap (λ b. if b then 0 else count_of o (task_at k y).objects) e in absurd (omega (arith, h, none)))
        | inr e ↦ e
      ]

  by-woken : (f : Task → Finished) (xs : List ℕ) → ((y : ℕ) → 0 < count_of y xs → waits_not k y ≡ false) → Same (λ h. wakes_all f h xs k)
  by-woken f xs waiting l keeps none =
      let after = wakes_all f 0 xs k in
      same-wakes_all saved k f xs k (keeps-refl k) (λ y c w. joins-alike saved k after y v keeps (waiting y c) w (none-readied saved k.tasks after.tasks l none y))

  by-chosen : (f : Task → Finished) (all : Bool) (xs : List ℕ) → ((y : ℕ) → 0 < count_of y xs → waits_not k y ≡ false) → Same (λ h. wakes_all f h (chosen all xs) k)
  by-chosen f all xs waiting = by-woken f (chosen all xs) (λ y c. waiting y (chosen-stands all xs y c))

  -- one task, which waits
  by-one : (f : Task → Finished) (x : ℕ) → waits_not k x ≡ false → Same (λ h. wakes_all f h (x ∷ []) k)
  by-one f x waiting = by-woken f (x ∷ []) (λ y c. subst (λ z. waits_not k z ≡ false) (eqb-true x y (alone-stands (x == y) c)) waiting)

  same-sem_post_to : (xs : List ℕ) (n o opt : ℕ) → ((y : ℕ) → 0 < count_of y xs → waits_not k y ≡ false) → Same (λ h. (sem_post_to xs n o opt h k).kernel)
  same-sem_post_to [] n o opt waiting = λ l keeps none. refl
  same-sem_post_to (x ∷ xs) n o opt waiting = by-chosen (posted_result o (fine 0)) (opt == 2) (x ∷ xs) waiting

  pub same-sem_post : (c : Content) (r : Request) → Same (λ h. (sem_post c r h k).kernel)
  same-sem_post (Count n) r = same-sem_post_to (list_at k.pend (argument r 0)) n (argument r 0) (argument r 1) (pend-waits (argument r 0))
  same-sem_post _ r = λ l keeps none. refl

  same-q_post_to : (xs : List ℕ) (limit : ℕ) (ms : List (ℕ × ℕ)) (r : Request) → ((y : ℕ) → 0 < count_of y xs → waits_not k y ≡ false) → Same (λ h. (q_post_to xs limit ms r h k).kernel)
  same-q_post_to [] limit ms r waiting = λ l keeps none. refl
  same-q_post_to (x ∷ xs) limit ms r waiting = by-chosen (posted_result (argument r 0) (message (argument r 1) (argument r 2))) (has_bit (argument r 3) 2) (x ∷ xs) waiting

  pub same-q_post : (c : Content) (r : Request) → Same (λ h. (q_post c r h k).kernel)
  same-q_post (Messages limit ms) r = same-q_post_to (list_at k.pend (argument r 0)) limit ms r (pend-waits (argument r 0))
  same-q_post _ r = λ l keeps none. refl

  pub same-flag_post : (c : Content) (r : Request) → Same (λ h. (flag_post c r h k).kernel)
  same-flag_post (Bits old) r l keeps none =
      let o = argument r 0 in
      let bits = bits_after old (argument r 1) (argument r 2) in
      let xs = list_at k.pend o in
      let j = with_content k o (Bits bits) in
      let after = flag_wakes_all bits 0 xs j in
      same-flag_wakes_all saved k bits xs j (keeps-with_content k o (Bits bits)) (λ y c w. joins-alike saved k after y v keeps (pend-waits o y c) w (none-readied saved k.tasks after.tasks l none y))
  same-flag_post _ r l keeps none = refl

  pub same-task_sem : (w : Waiting) (x : ℕ) → (task_at k x).waiting ≡ w → Same (λ h. (task_sem_post_to w x h k).kernel)
  same-task_sem TaskSem x e = by-one (result_of (fine 0)) x (ap waits_for_nothing e)
  same-task_sem _ x e = λ l keeps none. refl

  pub same-task_q : (w : Waiting) (r : Request) (x : ℕ) → (task_at k x).waiting ≡ w → Same (λ h. (task_q_post_to w r x h k).kernel)
  same-task_q TaskQ r x e = by-one (result_of (message (argument r 1) (argument r 2))) x (ap waits_for_nothing e)
  same-task_q _ r x e = λ l keeps none. refl
