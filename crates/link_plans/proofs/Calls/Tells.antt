-- What the plan of a call and the records before it tell of the tasks after it.
use Rattle.std.proofs.Common.{◌≡◌, ◌≢◌, ℕ, zero, suc, ◌+◌, ◌<◌, Bool, true, false, ◌⊎◌, List, [], ◌∷◌, length, Option, Some, None, refl, sym, ap, ◌∙◌, subst, arith, inl, inr}
use Rattle.std.proofs.lemmas.List.{get_or_past}
use Rattle.std.specs.Prelude.{◌==◌, ◌&&◌, ◌||◌, not, min, if◌then◌else◌}
use Rattle.std.specs.List.{list_any}
use Rattle.std.proofs.lemmas.Bool.{true≢false}
use Rattle.std.proofs.lemmas.Bool.Decides.{eqb_tells, leb_tells}
use Rattle.kern_base.specs.declared.outcomes.Decision.TheVariants.{Block, Wake}
use Rattle.kern_base.specs.declared.outcomes.Finished.{Finished}
use Rattle.kern_base.specs.declared.outcomes.Waiting.{Waiting}
use Rattle.kern_base.specs.declared.outcomes.Waiting.TheVariants.{Obj}
use Rattle.kern_base.specs.declared.outcomes.Who.{Who}
use Rattle.kern_base.specs.declared.outcomes.Who.TheVariants.{First, All as Every, Matching}
use Rattle.kern_base.specs.declared.services.Service.TheVariants.{MutexPend}
use Rattle.kern_model.specs.State.{Kernel, Task, Content, Held, no_task, object_at, task_at, prio_of, waits_for_nothing}
use Rattle.kern_model.specs.Effect.{Wait, answered_task, blocked, waiting_task, wakes, wakes_all}
use Rattle.kern_model.specs.Flags.{flag_wakes_all}
use Rattle.kern_model.specs.Inherit.{inherited, least_of, living, numbers, owner_for, owner_in, reaches, reaches_by, waits_on}
use Rattle.kern_model.proofs.Lemmas.{objects-wakes, prio_of-wakes, task-other, task-updated, update_task_same, self_equal}
use Rattle.link_plans.specs.declared.plan.Plan.{Plan}
use Rattle.link_plans.specs.Matching.{flag_result, holds_on, matching}
use Rattle.link_plans.specs.Told.{free_after, living_standing, standing_by}
use Rattle.link_plans.specs.AfterCalls.{TellsAfter}
use Rattle.link_plans.specs.Renewals.{KnowObjects}
use Rattle.link_plans.proofs.Matching.Wakes.{any-matching, are_wakes}

and_false : (b : Bool) → (b && false) ≡ false
and_false true = refl
and_false false = refl

and_true : (b : Bool) → (b && true) ≡ b
and_true true = refl
and_true false = refl

or_true : (b : Bool) → (b || true) ≡ true
or_true true = refl
or_true false = refl

or_false : (b : Bool) → (b || false) ≡ b
or_false true = refl
or_false false = refl

-- a caller waits

pub block_tells : (q : Plan) (k : Kernel) (w : Wait) → q.decision ≡ Block → waits_for_nothing w.waiting ≡ false → q.caller.0 < length k.tasks → TellsAfter q k.tasks (blocked k q.caller.0 w).tasks
block_tells q k w e waits inside =
    let c = q.caller.0 in
    let by : Task → Bool → Option _ = λ t free. standing_by t.alive free t.suspended in
    record {
      stands = λ x.
          let t = task_at k x in let free = waits_for_nothing t.waiting in
          ap (λ d. by t (free_after d c q.woken.items x free (holds_on q.bits t))) e
          ∙ elim (eqb_tells x c) [
            | inl s ↦
                ap (λ b. by t (free && not b)) s.0 ∙ ap (by t) (and_false free ∙ sym waits)
                ∙ ap (λ z. by (task_at k z) (waits_for_nothing w.waiting)) s.1
                ∙ ap living_standing (sym (task-updated k.tasks c (waiting_task w) inside))
                ∙ ap (λ z. living_standing (task_at (blocked k c w) z)) (sym s.1)
            | inr s ↦
                ap (λ b. by t (free && not b)) s.0 ∙ ap (by t) (and_true free)
                ∙ ap living_standing (sym (task-other k.tasks c (waiting_task w) x (λ d. s.1 (sym d))))
          ];
      present = λ x. sym (update_task_same (λ t. t.prio) (waiting_task w) (λ t. refl) k.tasks c x);
    }

-- tasks are woken

wakes_stand : (f : Task → Finished) (h : ℕ) (xs : List ℕ) (k : Kernel) (x : ℕ) → living_standing (task_at (wakes_all f h xs k) x) ≡ standing_by (task_at k x).alive (waits_for_nothing (task_at k x).waiting || list_any (λ y. y == x) xs) (task_at k x).suspended
wakes_stand f h [] k x = ap (λ b. standing_by (task_at k x).alive b (task_at k x).suspended) (sym (or_false (waits_for_nothing (task_at k x).waiting)))
wakes_stand f h (y ∷ ys) k x =
    let g = answered_task (f (task_at k y)) in
    let j = wakes (f (task_at k y)) h y k in
    let t = task_at k x in
    let others = list_any (λ z. z == x) ys in
    let free = waits_for_nothing t.waiting in
    let now = waits_for_nothing (task_at j x).waiting in
    wakes_stand f h ys j x
    ∙ ap (λ a. standing_by a (now || others) (task_at j x).suspended) (update_task_same (λ u. u.alive) g (λ u. refl) k.tasks y x)
    ∙ ap (λ n. standing_by t.alive (now || others) n) (update_task_same (λ u. u.suspended) g (λ u. refl) k.tasks y x)
    ∙ elim (eqb_tells y x) [
      | inl e ↦ woken t free others now (y == x) e.0 (living_or_free e.1)
      | inr e ↦
          ap (λ (u : Task). standing_by t.alive (waits_for_nothing u.waiting || others) t.suspended) (task-other k.tasks y g x e.1)
          ∙ ap (λ b. standing_by t.alive (free || (b || others)) t.suspended) (sym e.0)
    ]
  where
    living_or_free : y ≡ x → ((task_at k x).alive ≡ false) ⊎ (waits_for_nothing (task_at (wakes (f (task_at k y)) h y k) x).waiting ≡ true)
    living_or_free e =
        elim (leb_tells (x + 1) (length k.tasks)) [
          | inl l ↦ inr (ap (λ z. waits_for_nothing (task_at (wakes (f (task_at k y)) h y k) z).waiting) (sym e) ∙ ap (λ (u : Task). waits_for_nothing u.waiting) (task-updated k.tasks y (answered_task (f (task_at k y))) (let low = l.1 in omega (arith, low, e))))
          | inr l ↦ inl (ap (λ (u : Task). u.alive) (get_or_past k.tasks x no_task (let past = l.1 in omega (arith, past))))
        ]

    woken : (t : Task) (free others now b : Bool) → b ≡ true → (t.alive ≡ false) ⊎ (now ≡ true) → standing_by t.alive (now || others) t.suspended ≡ standing_by t.alive (free || (b || others)) t.suspended
    woken t free others now b e (inl dead) = ap (λ a. standing_by a (now || others) t.suspended) dead ∙ ap (λ a. standing_by a (free || (b || others)) t.suspended) (sym dead)
    woken t free others now b e (inr is) =
        ap (λ c. standing_by t.alive (c || others) t.suspended) is
        ∙ ap (λ c. standing_by t.alive c t.suspended) (sym (or_true free))
        ∙ ap (λ c. standing_by t.alive (free || (c || others)) t.suspended) (sym e)

pub prio-woken : (f : Task → Finished) (h : ℕ) (xs : List ℕ) (k : Kernel) (x : ℕ) → prio_of (wakes_all f h xs k) x ≡ prio_of k x
prio-woken f h [] k x = refl
prio-woken f h (y ∷ ys) k x = prio-woken f h ys (wakes (f (task_at k y)) h y k) x ∙ prio_of-wakes (f (task_at k y)) h y k x

pub objects-woken : (f : Task → Finished) (h : ℕ) (xs : List ℕ) (k : Kernel) (x : ℕ) → (task_at (wakes_all f h xs k) x).objects ≡ (task_at k x).objects
objects-woken f h [] k x = refl
objects-woken f h (y ∷ ys) k x = objects-woken f h ys (wakes (f (task_at k y)) h y k) x ∙ objects-wakes (f (task_at k y)) h y k x

-- all that are named are woken
all_free : (w : Who) (caller x : ℕ) (xs : List ℕ) (free holds : Bool) → (w ≡ Matching → ⊥) → free_after (Wake w) caller xs x free holds ≡ (free || list_any (λ y. y == x) xs)
all_free First caller x xs free holds other = refl
all_free Every caller x xs free holds other = refl
all_free Matching caller x xs free holds other = absurd (other refl)

pub wakes_tell : (q : Plan) (f : Task → Finished) (h : ℕ) (k : Kernel) (who : Who) → q.decision ≡ Wake who → (who ≡ Matching → ⊥) → TellsAfter q k.tasks (wakes_all f h q.woken.items k).tasks
wakes_tell q f h k who e other =
    record {
      stands = λ x.
          let t = task_at k x in let free = waits_for_nothing t.waiting in let holds = holds_on q.bits t in
          ap (λ d. standing_by t.alive (free_after d q.caller.0 q.woken.items x free holds) t.suspended) e
          ∙ ap (λ b. standing_by t.alive b t.suspended) (all_free who q.caller.0 x q.woken.items free holds other)
          ∙ sym (wakes_stand f h q.woken.items k x);
      present = λ x. sym (prio-woken f h q.woken.items k x);
    }

-- those whose condition holds are woken
pub matching_tell : (q : Plan) (h : ℕ) (k : Kernel) → q.decision ≡ Wake Matching → TellsAfter q k.tasks (flag_wakes_all q.bits h q.woken.items k).tasks
matching_tell q h k e =
    let xs = matching k.tasks q.bits q.woken.items in
    let f = flag_result q.bits in
    let is : flag_wakes_all q.bits h q.woken.items k ≡ wakes_all f h xs k = are_wakes q.bits h q.woken.items k in
    record {
      stands = λ x.
          let t = task_at k x in let free = waits_for_nothing t.waiting in
          ap (λ d. standing_by t.alive (free_after d q.caller.0 q.woken.items x free (holds_on q.bits t)) t.suspended) e
          ∙ ap (λ b. standing_by t.alive (free || b) t.suspended) (sym (any-matching k.tasks q.bits x q.woken.items))
          ∙ sym (wakes_stand f h xs k x)
          ∙ ap (λ (j : Kernel). living_standing (task_at j x)) (sym is);
      present = λ x. sym (ap (λ (j : Kernel). prio_of j x) is ∙ prio-woken f h xs k x);
    }

-- The inherited priority of a task does not depend on what it waits for itself.
module _ (k : Kernel) (x : ℕ) (w : Wait) where
  abbrev j : Kernel
  j = blocked k x w

  living-same : (o : Option ℕ) → living o j ≡ living o k
  living-same None = refl
  living-same (Some v) = ap (λ b. if b then Some v else None) (update_task_same (λ t. t.alive) (waiting_task w) (λ t. refl) k.tasks x v)

  owner_in-same : (c : Content) → owner_in c j ≡ owner_in c k
  owner_in-same (Held owner nesting) = living-same owner
  owner_in-same _ = refl

  owner_for-same : (a : Waiting) (os : List ℕ) → owner_for a os j ≡ owner_for a os k
  owner_for-same (Obj MutexPend) (o ∷ os) = owner_in-same (object_at k o).content
  owner_for-same _ _ = refl

  waits_on-same : (u : ℕ) → u ≢ x → waits_on j u ≡ waits_on k u
  waits_on-same u far =
      ap (λ (t : Task). owner_for t.waiting t.objects j) (task-other k.tasks x (waiting_task w) u (λ d. far (sym d))) ∙ owner_for-same (task_at k u).waiting (task_at k u).objects

  reaches-same : (n : ℕ) (o : Option ℕ) → reaches_by n j x o ≡ reaches_by n k x o
  reaches-same zero None = refl
  reaches-same zero (Some u) = refl
  reaches-same (suc n) None = refl
  reaches-same (suc n) (Some u) =
      elim (eqb_tells u x) [
        | inl e ↦ ap (λ b. b || reaches_by n j x (waits_on j u)) e.0 ∙ ap (λ b. b || reaches_by n k x (waits_on k u)) (sym e.0)
        | inr e ↦ ap (λ b. (u == x) || b) (reaches-same n (waits_on j u) ∙ ap (reaches_by n k x) (waits_on-same u e.1))
      ]

  least-same : (us : List ℕ) → least_of x us j ≡ least_of x us k
  least-same [] = refl
  least-same (u ∷ us) =
      ap (λ b. min (if b then (task_at j u).base else 63) (least_of x us j)) (reaches-same 64 (Some u))
      ∙ ap (λ n. min (if reaches k u x then n else 63) (least_of x us j)) (update_task_same (λ t. t.base) (waiting_task w) (λ t. refl) k.tasks x u)
      ∙ ap (λ n. min (if reaches k u x then (task_at k u).base else 63) n) (least-same us)

  inherited-same : inherited j x ≡ inherited k x
  inherited-same = least-same (numbers 0 64)

  pub block_knows : prio_of k x ≡ inherited k x → KnowObjects k.tasks (blocked k x w)
  block_knows own y moves waits =
      elim (eqb_tells y x) [
        | inl e ↦
            let moves_x : (inherited j x == prio_of j x) ≡ false = subst (λ z. (inherited j z == prio_of j z) ≡ false) e.1 moves in
            let stays : inherited j x ≡ prio_of j x = inherited-same ∙ sym own ∙ sym (update_task_same (λ t. t.prio) (waiting_task w) (λ t. refl) k.tasks x x) in
            absurd (true≢false (sym (ap (λ n. n == prio_of j x) stays ∙ self_equal (prio_of j x)) ∙ moves_x))
        | inr e ↦ ap (λ (t : Task). t.objects) (sym (task-other k.tasks x (waiting_task w) y (λ d. e.1 (sym d))))
      ]
