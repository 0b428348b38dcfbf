-- The links of a call, and of the renewal behind them.
use Rattle.std.proofs.Common.{◌≡◌, ℕ, ◌+◌, ◌*◌, ◌/◌, ◌<◌, ◌≤◌, Bool, true, false, List, [], ◌∷◌, length, refl, sym, ap, ◌∙◌, subst, arith, inl, inr}
use Rattle.std.specs.Prelude.{All, if◌then◌else◌}
use Rattle.std.proofs.Math.Nat.{not-suc-le-zero}
use Rattle.std.proofs.lemmas.Bool.Decides.{eqb_tells}
use Rattle.kern_base.specs.declared.numbers.Prio.{Prio}
use Rattle.kern_base.specs.declared.outcomes.Finished.{Finished}
use Rattle.kern_model.specs.State.{Kernel, Task, task_at, task_in, prio_of, count_of, is_ready, place_of, waits_for_nothing}
use Rattle.kern_model.specs.Micro.{Lists, lists_of, whole}
use Rattle.kern_model.specs.Effect.{Wait, block_blocks, blocked, fine, waiting_task, wakes_all, wakes_blocks}
use Rattle.kern_model.specs.Inherit.{inherited}
use Rattle.kern_model.specs.Valid.{AllWait, IsLinked}
use Rattle.kern_model.proofs.Lemmas.{task-other, task-updated, update_task_same, leads-blocks_on, leads-woken}
use Rattle.micro_steps.specs.Blocks.{prio_in}
use Rattle.link_plans.specs.AfterCalls.{TellAll}
use Rattle.link_plans.specs.Fits.{AreKernels}
use Rattle.link_plans.specs.Plans.{block_links, wakes_links}
use Rattle.link_plans.specs.Renewals.{IsRenewalAfter}
use Rattle.link_plans.proofs.Fits.Waits.{block_fits}
use Rattle.link_plans.proofs.Calls.Tells.{block_knows, objects-woken, prio-woken}
use Rattle.link_plans.proofs.Calls.Follows.{block_keeps_prios, renewals_follow, wakes_keep_prios}
use Rattle.link_plans.proofs.Nodes.Served.{block_keeps, wakes_keep}
use Rattle.link_plans.proofs.Nodes.Waiters.{waiter_can_wake}
use Rattle.link_plans.proofs.Plans.Links.{block-row, wakes-row}
use Rattle.link_plans.proofs.Fits.Woken.{all_wakes_fit}

pub block_renews : (prios : List Prio) (tail : Bool) (k : Kernel) (x : ℕ) (w : Wait) (l : Lists) → IsLinked k → AreKernels k l → IsLinked (blocked k x w) → TellAll prios k → x < 64 → is_ready (task_at k x) ≡ true → All (λ o. o < length k.objects) w.objects → ((o : ℕ) → count_of o w.objects ≤ 1) → length w.objects ≤ 8 → prio_of k x ≡ inherited k x → IsRenewalAfter k.tasks prios tail (block_links k.tasks x w.objects) (block_blocks k x w.objects) k (blocked k x w) l
block_renews prios tail k x w l v same after tell small is all once few own =
    let os = w.objects in
    let inside : x < length prios = let size = tell.0 in omega (arith, size, small) in
    let in_tasks : x < length k.tasks = let size = v.sizes.tasks in omega (arith, size, small) in
    renewals_follow k.tasks prios tail (block_links k.tasks x os) (block_blocks k x os) k (blocked k x w) l
    (record {
      linked = v;
      lists = same;
      fits = block_fits prios k x os l v same small is all once few;
      blocks = block-row prios k x os tell.1 inside few;
      leads = (leads-blocks_on k x w).lists;
      linked_after = after;
      objects = refl;
      noded = block_keeps prios k (blocked k x w).tasks x os l v same is once few
          (ap (λ (t : Task). t.objects) (task-updated k.tasks x (waiting_task w) in_tasks))
          (λ y far. ap (λ (t : Task). t.objects) (task-other k.tasks x (waiting_task w) y (λ e. far (sym e))));
      tells = λ o y some. block_keeps_prios prios k.tasks x os inside few (tell.1 x) y ∙ tell.1 y ∙ sym (update_task_same (λ t. t.prio) (waiting_task w) (λ t. refl) k.tasks x y);
      size = tell.0;
      known = block_knows k x w own;
    })

-- tasks that wait, of which none stands twice

waits-once : (k : Kernel) (xs : List ℕ) → AllWait k xs → (x : ℕ) → count_of x xs ≤ 1
waits-once k [] w x = omega arith
waits-once k (y ∷ ys) w x =
    elim (eqb_tells y x) [
      | inl e ↦ let none : count_of x ys ≡ 0 = ap (λ z. count_of z ys) (sym e.1) ∙ w.2 in rw e.0 (omega (arith, none))
      | inr e ↦ let rest = waits-once k ys w.3 x in rw e.0 (omega (arith, rest))
    ]

waits-each : (k : Kernel) (xs : List ℕ) → AllWait k xs → (x : ℕ) → 0 < count_of x xs → (x < 60) × (waits_for_nothing (task_at k x).waiting ≡ false)
waits-each k [] w x some = absurd (not-suc-le-zero {n = 0} some)
waits-each k (y ∷ ys) w x some =
    elim (eqb_tells y x) [
      | inl e ↦ subst (λ z. (z < 60) × (waits_for_nothing (task_at k z).waiting ≡ false)) e.1 (w.0, w.1)
      | inr e ↦ waits-each k ys w.3 x (let fewer = subst (λ b. 0 < (if b then 1 else 0) + count_of x ys) e.0 some in omega (arith, fewer))
    ]

pub wakes_renew : (prios : List Prio) (tail : Bool) (f : Task → Finished) (h : ℕ) (xs : List ℕ) (k j : Kernel) (l : Lists) → IsLinked k → AreKernels k l → IsLinked j → TellAll prios k → AllWait k xs → j.tasks ≡ (wakes_all f h xs k).tasks → lists_of j ≡ lists_of (wakes_all f h xs k) → length j.objects ≡ length k.objects → IsRenewalAfter k.tasks prios tail (wakes_links k.tasks h xs) (wakes_blocks k h xs) k j l
wakes_renew prios tail f h xs k j l v same after tell waits tasks lists objects =
    let objects_same : (y : ℕ) → (task_in j.tasks y).objects ≡ (task_at k y).objects = λ y. ap (λ ts. (task_in ts y).objects) tasks ∙ objects-woken f h xs k y in
    renewals_follow k.tasks prios tail (wakes_links k.tasks h xs) (wakes_blocks k h xs) k j l
    (record {
      linked = v;
      lists = same;
      fits = all_wakes_fit (length k.objects) prios k.tasks h xs l (waits-once k xs waits) (λ x some. let is = waits-each k xs waits x some in waiter_can_wake k x l v same is.0 is.1);
      blocks = wakes-row prios k h xs (λ x. (v.tasks.each_task x).few);
      leads = (leads-woken f (fine 0) h xs k).lists ∙ ap whole (sym lists);
      linked_after = after;
      objects = objects;
      noded = wakes_keep prios k.tasks j.tasks h xs l objects_same same.noded;
      tells = λ o y some. ap (λ ps. prio_in ps y) (wakes_keep_prios prios k.tasks h xs) ∙ tell.1 y ∙ sym (ap (λ ts. (task_in ts y).prio) tasks ∙ prio-woken f h xs k y);
      size = tell.0;
      known = λ y moves still. sym (objects_same y);
    })

pub plain_renews : (prios : List Prio) (tail : Bool) (k j : Kernel) (l : Lists) → IsLinked k → AreKernels k l → IsLinked j → TellAll prios k → lists_of j ≡ lists_of k → length j.objects ≡ length k.objects → ((x : ℕ) → prio_of j x ≡ prio_of k x) → ((x : ℕ) → (task_at j x).objects ≡ (task_at k x).objects) → IsRenewalAfter k.tasks prios tail [] [] k j l
plain_renews prios tail k j l v same after tell lists objects prio same_objects =
    renewals_follow k.tasks prios tail [] [] k j l
    (record {
      linked = v;
      lists = same;
      fits = tt;
      blocks = refl;
      leads = ap whole (sym lists);
      linked_after = after;
      objects = objects;
      noded = λ o n some. same.noded o n some ∙ ap (λ os. 8 * (n / 8) + place_of o os) (sym (same_objects (n / 8)));
      tells = λ o y some. tell.1 y ∙ sym (prio y);
      size = tell.0;
      known = λ y moves still. sym (same_objects y);
    })
