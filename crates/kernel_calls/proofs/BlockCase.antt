-- The plan of a call in which the caller waits.
use Rattle.std.proofs.Common.{◌≡◌, ℕ, ◌<◌, ◌≤◌, List, length, refl, sym, ap, ◌∙◌, inl, inr, true, arith}
use Rattle.std.proofs.lemmas.Bool.{true≢false}
use Rattle.std.proofs.lemmas.Bool.Decides.{leb_tells}
use Rattle.std.proofs.lemmas.List.{get_or_past}
use Rattle.kern_base.specs.declared.numbers.Prio.{Prio}
use Rattle.kern_model.specs.State.{Kernel, Task, is_ready, prio_of, task_at}
use Rattle.kern_model.specs.Micro.{Lists}
use Rattle.kern_model.specs.Effect.{Wait, block_blocks, blocked, waiting_task}
use Rattle.kern_model.specs.Valid.{IsLinked}
use Rattle.kern_model.proofs.Lemmas.{and_first, task-other, task-updated, update_task_same}
use Rattle.micro_steps.specs.Blocks.{no_prio, prio_in}
use Rattle.micro_steps.specs.Whole.{AreFit, lists_after, task_blocks}
use Rattle.link_plans.specs.Fits.{AreKernels, IsNoded}
use Rattle.link_plans.specs.Plans.{block_links}
use Rattle.link_plans.proofs.Lemmas.{block_fits, block_keeps_prios, block_keeps, block-row}
use Rattle.kernel_calls.specs.Stepping.{HasPrios, prios_over}
use Rattle.kernel_calls.proofs.LinkFacts.{over-past}
use Rattle.kernel_records.proofs.WaitFacts.{AreObjects}

module _ (x : ℕ) (wait : Wait) (k : Kernel) (l : Lists) (prios : List Prio) (v : IsLinked k) (a : AreKernels k l) (p : HasPrios k prios) (application : x < 60) (ready : is_ready (task_at k x) ≡ true) (objects : AreObjects (length k.objects) wait.objects) where
  -- the caller's priority is above the idle task's
  declared : x < k.settings.tasks
  declared =
      elim (leb_tells k.settings.tasks x) [
        | inl d ↦ absurd (true≢false (sym (and_first (task_at k x).alive _ ready) ∙ v.tasks.declared x d.1 application))
        | inr d ↦ d.1
      ]

  in-table : x < length prios
  in-table =
      elim (leb_tells (length prios) x) [
        | inl d ↦
            let idle : prio_of k x ≡ 63 = sym (p x) ∙ ap (λ (q : Prio). q.0) (get_or_past prios x no_prio d.1) in
            let above : prio_of k x ≤ 62 = v.tasks.above_idle x (inl declared) in
            absurd (omega arith)
        | inr d ↦ d.1
      ]

  pub block-fits : AreFit (length k.objects) prios (block_links k.tasks x wait.objects) l
  block-fits = block_fits prios k x wait.objects l v a (omega arith) ready objects.inside objects.once objects.few

  pub block-blocks : task_blocks prios (block_links k.tasks x wait.objects) ≡ block_blocks k x wait.objects
  block-blocks = block-row prios k x wait.objects p in-table objects.few

  inside-tasks : x < length k.tasks
  inside-tasks = let many = v.sizes.tasks in omega arith

  pub block-nodes : IsNoded (blocked k x wait).tasks (lists_after prios (block_links k.tasks x wait.objects) l).pend
  block-nodes =
      block_keeps prios k (blocked k x wait).tasks x wait.objects l v a ready objects.once objects.few
      (ap (λ (t : Task). t.objects) (task-updated k.tasks x (waiting_task wait) inside-tasks))
      (λ y d. ap (λ (t : Task). t.objects) (task-other k.tasks x (waiting_task wait) y (λ e. d (sym e))))

  pub block-prios : HasPrios (blocked k x wait) (prios_over (block_links k.tasks x wait.objects) prios)
  block-prios = λ y.
      ap (λ ps. prio_in ps y) (over-past (block_links k.tasks x wait.objects) prios)
      ∙ block_keeps_prios prios k.tasks x wait.objects in-table objects.few (p x) y
      ∙ p y ∙ sym (update_task_same (λ t. t.prio) (waiting_task wait) (λ t. refl) k.tasks x y)
