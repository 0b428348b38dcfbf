-- The plan of a call that suspends a task, resumes one or yields.
use Rattle.std.proofs.Common.{◌≡◌, ℕ, zero, suc, ◌<◌, ◌≤◌, ◌-◌, List, [], length, refl, sym, ap, ◌∙◌, subst, Bool, true, false, ◌&&◌, arith}
use Rattle.std.specs.Prelude.{All, ◌==◌}
use Rattle.std.proofs.lemmas.List.Elements.{All-nil}
use Rattle.kern_base.specs.declared.numbers.Prio.{Prio}
use Rattle.kern_base.specs.declared.services.Service.{Service}
use Rattle.kern_base.specs.declared.services.Service.TheVariants.{TaskSuspend, TaskResume, RoundRobinYield}
use Rattle.kern_model.specs.State.{Kernel, Task, is_ready, is_zero, prio_of, task_at, waits_for_nothing}
use Rattle.kern_model.specs.Micro.{Lists}
use Rattle.kern_model.specs.Effect.{Effect}
use Rattle.kern_model.specs.Tasks.{resumed_blocks, resumes, suspended_task, suspends, unready_blocks}
use Rattle.kern_model.specs.Valid.{IsLinked}
use Rattle.micro_steps.specs.declared.link.Link.{Link}
use Rattle.micro_steps.specs.Whole.{AreFit, lists_after, task_blocks}
use Rattle.link_plans.specs.Fits.{AreKernels, IsNoded}
use Rattle.link_plans.proofs.Lemmas.{block_fits, ready_nowhere}
use Rattle.kernel_records.specs.Suspension.{suspension_of}
use Rattle.kernel_records.proofs.SuspensionFacts.{IsMoving}
use Rattle.kernel_calls.specs.Moving.{links_moved, moved_links, resumed_links, unready_links}
use Rattle.kernel_calls.specs.Stepping.{HasPrios, prios_over}
use Rattle.kernel_calls.proofs.LinkFacts.{AreLinksOf}
use Rattle.kernel_calls.proofs.RotationCase.{rotation-links}
use Rattle.kernel_calls.proofs.StopFacts.{noded-task, prios-task}

-- a task that leaves or joins its ready list changes no list of waiters, and no priority

unready-pend : (b : Bool) (prios : List Prio) (x p : ℕ) (l : Lists) → (lists_after prios (unready_links b x p) l).pend ≡ l.pend
unready-pend true prios x p l = refl
unready-pend false prios x p l = refl

unready-prios : (b : Bool) (prios : List Prio) (x p : ℕ) → prios_over (unready_links b x p) prios ≡ prios
unready-prios true prios x p = refl
unready-prios false prios x p = refl

unready-row : (b : Bool) (prios : List Prio) (x p : ℕ) → task_blocks prios (unready_links b x p) ≡ unready_blocks b x p
unready-row true prios x p = refl
unready-row false prios x p = refl

resumed-pend : (b : Bool) (n : ℕ) (prios : List Prio) (x p h : ℕ) (l : Lists) → (lists_after prios (resumed_links b n x p h) l).pend ≡ l.pend
resumed-pend true zero prios x p h l = refl
resumed-pend true (suc n) prios x p h l = refl
resumed-pend false n prios x p h l = refl

resumed-prios : (b : Bool) (n : ℕ) (prios : List Prio) (x p h : ℕ) → prios_over (resumed_links b n x p h) prios ≡ prios
resumed-prios true zero prios x p h = refl
resumed-prios true (suc n) prios x p h = refl
resumed-prios false n prios x p h = refl

resumed-row : (b : Bool) (n : ℕ) (prios : List Prio) (x p h : ℕ) → task_blocks prios (resumed_links b n x p h) ≡ resumed_blocks b n x p h
resumed-row true zero prios x p h = refl
resumed-row true (suc n) prios x p h = refl
resumed-row false n prios x p h = refl

-- a task that is suspended is not ready
both-false : (a b : Bool) → (a && (b && false)) ≡ false
both-false true true = refl
both-false true false = refl
both-false false b = refl

not-ready : (t : Task) (n : ℕ) → t.suspended ≡ suc n → is_ready t ≡ false
not-ready t n e = ap (λ m. t.alive && (waits_for_nothing t.waiting && is_zero m)) e ∙ both-false t.alive (waits_for_nothing t.waiting)

module _ (k : Kernel) (l : Lists) (prios : List Prio) (v : IsLinked k) (a : AreKernels k l) (p : HasPrios k prios) (y : ℕ) (inside : y < 64) where
  abbrev t : Task
  t = task_at k y

  suspend-fits : (b : Bool) → is_ready t ≡ b → AreFit (length k.objects) prios (unready_links b y t.prio) l
  suspend-fits true e = block_fits prios k y [] l v a inside e (All-nil (λ o. o < length k.objects)) (λ o. omega arith) (omega arith)
  suspend-fits false e = tt

  suspend-links : (own : Bool) → AreLinksOf (suspends own y k) (length k.objects) prios (unready_links (is_ready t) y t.prio) l
  suspend-links own =
      record {
        fits = suspend-fits (is_ready t) refl;
        blocks = unready-row (is_ready t) prios y t.prio;
        noded = subst (IsNoded (suspends own y k).kernel.tasks) (sym (unready-pend (is_ready t) prios y t.prio l)) (noded-task (suspended_task own) (λ u. refl) k.tasks y l.pend a.noded);
        listed = subst (HasPrios (suspends own y k).kernel) (sym (unready-prios (is_ready t) prios y t.prio)) (prios-task (suspended_task own) (λ u. refl) k (suspends own y k).kernel y prios refl p);
      }

  resume-fits : (b : Bool) (n h : ℕ) → is_ready t ≡ false → AreFit (length k.objects) prios (resumed_links b n y t.prio h) l
  resume-fits true zero h e = let low = (v.tasks.each_task y).prio_to in ((inside, omega (arith, low), ready_nowhere k y l v a e), tt)
  resume-fits true (suc n) h e = tt
  resume-fits false n h e = tt

  resume-links : (n h : ℕ) → t.suspended ≡ suc n → AreLinksOf (resumes (suc n) y h k) (length k.objects) prios (resumed_links (waits_for_nothing t.waiting) n y t.prio h) l
  resume-links n h e =
      let b = waits_for_nothing t.waiting in
      let f : Task → Task = λ u. record u { suspended = n } in
      record {
        fits = resume-fits b n h (not-ready t n e);
        blocks = resumed-row b n prios y t.prio h;
        noded = subst (IsNoded (resumes (suc n) y h k).kernel.tasks) (sym (resumed-pend b n prios y t.prio h l)) (noded-task f (λ u. refl) k.tasks y l.pend a.noded);
        listed = subst (HasPrios (resumes (suc n) y h k).kernel) (sym (resumed-prios b n prios y t.prio h)) (prios-task f (λ u. refl) k (resumes (suc n) y h k).kernel y prios refl p);
      }

  move-links : (s : Service) (x h : ℕ) → (s ≡ RoundRobinYield → ⊥) → IsMoving s t → AreLinksOf (suspension_of s y x h k) (length k.objects) prios (moved_links s y h t) l
  move-links TaskSuspend x h o i = suspend-links (y == x)
  move-links TaskResume x h o i =
      let b = waits_for_nothing t.waiting in
      let less : t.suspended - 1 ≡ i.0 = let e = i.1 in omega (arith, e) in
      subst (λ n. AreLinksOf (resumes n y h k) (length k.objects) prios (resumed_links b (t.suspended - 1) y t.prio h) l) (sym i.1)
      (subst (λ n. AreLinksOf (resumes (suc i.0) y h k) (length k.objects) prios (resumed_links b n y t.prio h) l) (sym less) (resume-links i.0 h i.1))
  move-links RoundRobinYield x h o i = absurd (o refl)
  move-links _ x h o i = absurd i

suspend-other : TaskSuspend ≡ RoundRobinYield → ⊥
suspend-other e = absurd cc

resume-other : TaskResume ≡ RoundRobinYield → ⊥
resume-other e = absurd cc

-- a call of x, which names task y
pub moved-links : (k : Kernel) (l : Lists) (prios : List Prio) → IsLinked k → AreKernels k l → HasPrios k prios → (s : Service) (y x h : ℕ) → ((s ≡ RoundRobinYield → ⊥) → y < 64)
    → (s ≡ RoundRobinYield → (is_ready (task_at k x) ≡ true) × (x < 62)) → IsMoving s (task_at k y) → AreLinksOf (suspension_of s y x h k) (length k.objects) prios (links_moved s y x h k) l
moved-links k l prios v a p RoundRobinYield y x h inside ready i = let r = ready refl in rotation-links k l prios v a p k x (prio_of k x) r.0 r.1 refl a.noded p
moved-links k l prios v a p TaskSuspend y x h inside ready i = move-links k l prios v a p y (inside suspend-other) TaskSuspend x h suspend-other i
moved-links k l prios v a p TaskResume y x h inside ready i = move-links k l prios v a p y (inside resume-other) TaskResume x h resume-other i
moved-links k l prios v a p _ y x h inside ready i = absurd i
