-- The plan of a post of event flags: each waiter is looked at, on the bits that the group then has.
use Rattle.std.proofs.Common.{◌≡◌, ℕ, List, length, sym, ap, ◌∙◌, subst}
use Rattle.kern_base.specs.declared.numbers.Prio.{Prio}
use Rattle.kern_model.specs.State.{Kernel, Object, Task}
use Rattle.kern_model.specs.Micro.{Lists}
use Rattle.kern_model.specs.Flags.{flag_blocks_all, flag_wakes_all}
use Rattle.kern_model.specs.Valid.{AllWait, IsLinked}
use Rattle.micro_steps.specs.Blocks.{prio_in}
use Rattle.micro_steps.specs.Whole.{AreFit, lists_after, task_blocks}
use Rattle.link_plans.specs.Fits.{AreKernels, IsNoded}
use Rattle.link_plans.specs.Plans.{matching_links}
use Rattle.link_plans.proofs.Lemmas.{matching-row, matching_fit, matching_keep, matching_keep_prios, prio-matching, waiter_can_wake}
use Rattle.kernel_calls.specs.Stepping.{HasPrios, prios_over}
use Rattle.kernel_calls.proofs.LinkFacts.{over-past}
use Rattle.kernel_records.proofs.RowFacts.{beside}
use Rattle.kernel_calls.proofs.OwnChanges.{flag_blocks-beside, flag_wakes-beside}
use Rattle.kernel_calls.proofs.WakeCase.{once-waiting, one-waiting}

module _ (bits h : ℕ) (xs : List ℕ) (k : Kernel) (l : Lists) (prios : List Prio) (v : IsLinked k) (a : AreKernels k l) (w : AllWait k xs) where
  pub flags-fit : AreFit (length k.objects) prios (matching_links k.tasks bits h xs) l
  flags-fit =
      matching_fit (length k.objects) prios k.tasks bits h xs l (once-waiting k xs w)
      (λ x i. let it = one-waiting k xs w x i in waiter_can_wake k x l v a it.0 it.1)

  module _ (os : List Object) (free : ℕ) where
    tasks-beside : (flag_wakes_all bits h xs (beside k os free)).tasks ≡ (flag_wakes_all bits h xs k).tasks
    tasks-beside = ap (λ (j : Kernel). j.tasks) (flag_wakes-beside bits h xs k os free)

    pub flags-blocks : task_blocks prios (matching_links k.tasks bits h xs) ≡ flag_blocks_all bits h xs (beside k os free)
    flags-blocks = matching-row prios k bits h xs (λ x. (v.tasks.each_task x).few) ∙ sym (flag_blocks-beside bits h xs k os free)

    pub flags-nodes : IsNoded (flag_wakes_all bits h xs (beside k os free)).tasks (lists_after prios (matching_links k.tasks bits h xs) l).pend
    flags-nodes =
        subst (λ (ts : List Task). IsNoded ts (lists_after prios (matching_links k.tasks bits h xs) l).pend) (sym tasks-beside)
        (matching_keep prios k bits h xs l a.noded)

    pub flags-prios : HasPrios k prios → HasPrios (flag_wakes_all bits h xs (beside k os free)) (prios_over (matching_links k.tasks bits h xs) prios)
    flags-prios p =
        subst (λ (j : Kernel). HasPrios j (prios_over (matching_links k.tasks bits h xs) prios)) (sym (flag_wakes-beside bits h xs k os free))
        (λ y. ap (λ ps. prio_in ps y) (over-past (matching_links k.tasks bits h xs) prios ∙ matching_keep_prios prios k.tasks bits h xs) ∙ p y ∙ sym (prio-matching bits h xs k y))
