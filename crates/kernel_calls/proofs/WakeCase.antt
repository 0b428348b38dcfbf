-- The plan of a call that wakes tasks.
use Rattle.std.proofs.Common.{◌≡◌, ℕ, ◌<◌, ◌≤◌, List, [], ◌∷◌, length, refl, sym, ap, ◌∙◌, subst, inl, inr, arith}
use Rattle.std.specs.Prelude.{false}
use Rattle.std.proofs.lemmas.Bool.Decides.{eqb_tells}
use Rattle.kern_base.specs.declared.numbers.Prio.{Prio}
use Rattle.kern_base.specs.declared.outcomes.Finished.{Finished}
use Rattle.kern_model.specs.State.{Kernel, Task, count_of, prio_of, task_at, waits_for_nothing}
use Rattle.kern_model.specs.Micro.{Lists}
use Rattle.kern_model.specs.Effect.{wakes, wakes_all, wakes_blocks}
use Rattle.kern_model.specs.Valid.{AllWait, IsLinked}
use Rattle.kern_model.proofs.Lemmas.{objects-wakes, prio_of-wakes}
use Rattle.micro_steps.specs.Blocks.{prio_in}
use Rattle.micro_steps.specs.Whole.{AreFit, lists_after, task_blocks}
use Rattle.link_plans.specs.Fits.{AreKernels, IsNoded}
use Rattle.link_plans.specs.Plans.{wakes_links}
use Rattle.link_plans.proofs.Lemmas.{wakes_keep_prios, wakes_keep, waiter_can_wake, wakes-row, all_wakes_fit}
use Rattle.kernel_calls.specs.Stepping.{HasPrios, prios_over}
use Rattle.kernel_calls.proofs.LinkFacts.{over-past}

-- of waiters none stands twice
pub once-waiting : (k : Kernel) (xs : List ℕ) → AllWait k xs → (x : ℕ) → count_of x xs ≤ 1
once-waiting k [] w x = omega arith
once-waiting k (y ∷ ys) w x =
    let rest = once-waiting k ys w.3 x in
    elim (eqb_tells y x) [
      | inl d ↦
          let none : count_of x ys ≡ 0 = subst (λ z. count_of z ys ≡ 0) d.1 w.2 in
          rw (d.0, none) (omega arith)
      | inr d ↦ rw d.0 (omega (arith, rest))
    ]

-- and each is an application task that waits
pub one-waiting : (k : Kernel) (xs : List ℕ) → AllWait k xs → (x : ℕ) → 0 < count_of x xs → (x < 60) × (waits_for_nothing (task_at k x).waiting ≡ false)
one-waiting k [] w x i = absurd (omega arith)
one-waiting k (y ∷ ys) w x i =
    elim (eqb_tells y x) [
      | inl d ↦ subst (λ z. (z < 60) × (waits_for_nothing (task_at k z).waiting ≡ false)) d.1 (w.0, w.1)
      | inr d ↦ one-waiting k ys w.3 x (let j = rw d.0 at i in omega arith)
    ]

pub objects-all : (f : Task → Finished) (h : ℕ) (xs : List ℕ) (k : Kernel) (y : ℕ) → (task_at (wakes_all f h xs k) y).objects ≡ (task_at k y).objects
objects-all f h [] k y = refl
objects-all f h (x ∷ xs) k y = objects-all f h xs (wakes (f (task_at k x)) h x k) y ∙ objects-wakes (f (task_at k x)) h x k y

pub prios-all : (f : Task → Finished) (h : ℕ) (xs : List ℕ) (k : Kernel) (y : ℕ) → prio_of (wakes_all f h xs k) y ≡ prio_of k y
prios-all f h [] k y = refl
prios-all f h (x ∷ xs) k y = prios-all f h xs (wakes (f (task_at k x)) h x k) y ∙ prio_of-wakes (f (task_at k x)) h x k y

module _ (f : Task → Finished) (h : ℕ) (xs : List ℕ) (k : Kernel) (l : Lists) (prios : List Prio) (v : IsLinked k) (a : AreKernels k l) (w : AllWait k xs) where
  pub wake-fits : AreFit (length k.objects) prios (wakes_links k.tasks h xs) l
  wake-fits =
      all_wakes_fit (length k.objects) prios k.tasks h xs l (once-waiting k xs w)
      (λ x i. let it = one-waiting k xs w x i in waiter_can_wake k x l v a it.0 it.1)

  pub wake-blocks : task_blocks prios (wakes_links k.tasks h xs) ≡ wakes_blocks k h xs
  wake-blocks = wakes-row prios k h xs (λ x. (v.tasks.each_task x).few)

  pub wake-nodes : IsNoded (wakes_all f h xs k).tasks (lists_after prios (wakes_links k.tasks h xs) l).pend
  wake-nodes = wakes_keep prios k.tasks (wakes_all f h xs k).tasks h xs l (objects-all f h xs k) a.noded

  pub wake-prios : HasPrios k prios → HasPrios (wakes_all f h xs k) (prios_over (wakes_links k.tasks h xs) prios)
  wake-prios p = λ y. ap (λ ps. prio_in ps y) (over-past (wakes_links k.tasks h xs) prios ∙ wakes_keep_prios prios k.tasks h xs) ∙ p y ∙ sym (prios-all f h xs k y)
