-- A waiter can be woken: its i-th node stands in the list of its i-th object.
use Rattle.std.proofs.Common.{◌≡◌, ℕ, suc, ◌+◌, ◌*◌, ◌/◌, ◌<◌, ◌≤◌, List, [], ◌∷◌, ◌++◌, length, map, take, refl, sym, ap, ◌∙◌, subst, Bool, true, false, arith, inl, inr, append_assoc}
use Rattle.std.specs.Prelude.{if◌then◌else◌, ◌==◌, ◌&&◌, All}
use Rattle.std.proofs.Math.Nat.{not-suc-le-zero}
use Rattle.std.proofs.lemmas.Bool.Decides.{eqb_tells}
use Rattle.std.proofs.lemmas.List.{length-append}
use Rattle.std.proofs.lemmas.List.Elements.{All-head, All-tail}
use Rattle.std.proofs.lemmas.List.Sums.{sum_by-cons}
use Rattle.kern_model.specs.State.{Kernel, Task, task_at, count_of, place_of, waits_for_nothing, is_ready, prio_of}
use Rattle.kern_model.specs.Micro.{Lists}
use Rattle.kern_model.specs.Valid.{IsLinked, one_if}
use Rattle.kern_model.proofs.Lemmas.{count-append}
use Rattle.links.specs.Chain.{times, total, list_at}
use Rattle.links.proofs.Times.{times_here, times-le}
use Rattle.micro_steps.specs.Halfway.{tasks_in}
use Rattle.micro_steps.proofs.Seen.{list_at-tasks, list_at-take}
use Rattle.link_plans.specs.Fits.{StandsIn, CanWake, IsNoded, AreKernels}
use Rattle.link_plans.proofs.Fits.Wakes.{counted}

pub times-count : (x : ℕ) (xs : List ℕ) → times x xs ≡ count_of x xs
times-count x [] = refl
times-count x (y ∷ ys) = ap (λ n. (if y == x then 1 else 0) + n) (times-count x ys)

pub total-none : (n : ℕ) (lists : List (List ℕ)) → ((o : ℕ) → times n (list_at lists o) ≡ 0) → total n lists ≡ 0
total-none n [] h = refl
total-none n (xs ∷ lists) h = let first = h 0 in let rest = total-none n lists (λ o. h (suc o)) in omega (arith, first, rest, sum_by-cons (times n) xs lists)

-- a task of a list has a node there
pub node_of : (x : ℕ) (xs : List ℕ) → 0 < count_of x (map (λ m. m / 8) xs) → (m : ℕ) × (0 < times m xs) × (m / 8 ≡ x)
node_of x [] some = absurd (not-suc-le-zero {n = 0} (omega (arith, some)))
node_of x (y ∷ ys) some =
    elim (eqb_tells (y / 8) x) [
      | inl e ↦ (y, (let here = times_here y ys in omega (arith, here)), e.1)
      | inr e ↦
          let zero_more = subst (λ b. 0 < (if b then 1 else 0) + count_of x (map (λ m. m / 8) ys)) e.0 some in
          let rest = node_of x ys (omega (arith, zero_more)) in
          (rest.0, (let more = times-le rest.0 y ys in let there = rest.1 in omega (arith, more, there)), rest.2)
    ]

pub place_after : (o : ℕ) (front os : List ℕ) → count_of o front ≡ 0 → place_of o (front ++ o ∷ os) ≡ length front
place_after o [] os none =
    elim (eqb_tells o o) [
      | inl e ↦ rw e.0 refl
      | inr e ↦ absurd (e.1 refl)
    ]
place_after o (p ∷ front) os none =
    elim (eqb_tells p o) [
      | inl e ↦ absurd (not-suc-le-zero {n = 0} (let n = subst (λ b. (if b then 1 else 0) + count_of o front ≡ 0) e.0 none in omega (arith, n)))
      | inr e ↦ let zero_more = subst (λ b. (if b then 1 else 0) + count_of o front ≡ 0) e.0 none in
          let rest = place_after o front os (omega (arith, zero_more)) in
          rw e.0 (omega (arith, rest))
    ]

-- the objects from one place on
stands_from : (k : Kernel) (x : ℕ) (pend : List (List ℕ)) → IsNoded k.tasks pend → ((o : ℕ) → 0 < count_of o (task_at k x).objects → 0 < count_of x (map (λ m. m / 8) (list_at pend o))) → ((o : ℕ) → count_of o (task_at k x).objects ≤ 1) → ((o : ℕ) → 0 < count_of o (task_at k x).objects → o < 64) → (i : ℕ) (front os : List ℕ) → front ++ os ≡ (task_at k x).objects → length front ≡ i → length (task_at k x).objects ≤ 8 → StandsIn x i os pend
stands_from k x pend noded waits once inside i front [] e at few = tt
stands_from k x pend noded waits once inside i front (o ∷ os) e at few =
    let all = (task_at k x).objects in
    let total : count_of o all ≡ count_of o front + (1 + count_of o os) = ap (count_of o) (sym e) ∙ count-append o front (o ∷ os) ∙ ap (λ n. count_of o front + n) (counted o os) in
    let most = once o in
    let none : count_of o front ≡ 0 = omega (arith, total, most) in
    let after : count_of o os ≡ 0 = omega (arith, total, most) in
    let place : place_of o all ≡ i = ap (place_of o) (sym e) ∙ place_after o front os none ∙ at in
    let long : length front + (1 + length os) ≡ length all = (let n = sym (length-append front (o ∷ os)) ∙ ap length e in omega (arith, n)) in
    let own : (8 * x + i) / 8 ≡ x = omega (arith, at, long, few) in
    let some : 0 < count_of x (map (λ m. m / 8) (list_at pend o)) = waits o (omega (arith, total)) in
    let node = node_of x (list_at pend o) some in
    let is : node.0 ≡ 8 * x + i = noded o node.0 node.1 ∙ ap (λ y. 8 * y + place_of o (task_at k y).objects) node.2 ∙ ap (λ n. 8 * x + n) place in (
      inside o (omega (arith, total)),
      subst (λ n. 0 < times n (list_at pend o)) is node.1,
      after,
      stands_from k x pend noded waits once inside (i + 1) (front ++ o ∷ []) os (append_assoc front (o ∷ []) os ∙ e) (length-append front (o ∷ []) ∙ ap (λ n. n + 1) at) few,
    )

no_ready : (t : Task) → waits_for_nothing t.waiting ≡ false → is_ready t ≡ false
no_ready t e = rw e (and_false t.alive)
  where
    and_false : (b : Bool) → (b && false) ≡ false
    and_false true = refl
    and_false false = refl

-- an object of a list that is below a number
pub object_below : (n o : ℕ) (os : List ℕ) → All (λ p. p < n) os → 0 < count_of o os → o < n
object_below n o [] all some = absurd (not-suc-le-zero {n = 0} some)
object_below n o (p ∷ os) all some =
    elim (eqb_tells p o) [
      | inl e ↦ subst (λ q. q < n) e.1 (All-head (λ q. q < n) p os all)
      | inr e ↦ let more = subst (λ b. 0 < (if b then 1 else 0) + count_of o os) e.0 some in object_below n o os (All-tail (λ q. q < n) p os all) (omega (arith, more))
    ]

-- a task that is not ready stands in no ready list
pub ready_nowhere : (k : Kernel) (x : ℕ) (l : Lists) → IsLinked k → AreKernels k l → is_ready (task_at k x) ≡ false → total x l.ready ≡ 0
ready_nowhere k x l v same none =
    let ready : l.ready ≡ k.ready = ap (λ (m : Lists). m.ready) same.lists in
    total-none x l.ready (λ p. times-count x (list_at l.ready p) ∙ ap (λ ls. count_of x (list_at ls p)) ready ∙ v.lists.stands p x ∙ ap (λ b. one_if (b && (prio_of k x == p))) none)

-- an application task that waits can be woken
pub waiter_can_wake : (k : Kernel) (x : ℕ) (l : Lists) → IsLinked k → AreKernels k l → x < 60 → waits_for_nothing (task_at k x).waiting ≡ false → CanWake k.tasks x l
waiter_can_wake k x l v same small waits =
    let n = length k.objects in let t = task_at k x in
    let task = v.tasks.each_task x in let low = task.prio_to in let few = v.sizes.objects in
    let pend : take n (tasks_in l.pend) ≡ k.pend = ap (λ (m : Lists). m.pend) same.lists in
    let inside : (o : ℕ) → 0 < count_of o t.objects → o < n = λ o. object_below n o t.objects task.objects in
    let there : (o : ℕ) → 0 < count_of o t.objects → 0 < count_of x (map (λ m. m / 8) (list_at l.pend o)) =
    λ o some.
    let is : count_of x (map (λ m. m / 8) (list_at l.pend o)) ≡ count_of o t.objects =
    ap (count_of x) (sym (list_at-tasks l.pend o) ∙ sym (list_at-take n (tasks_in l.pend) o (inside o some)) ∙ ap (λ ls. list_at ls o) pend) ∙ v.lists.waiters o x ∙ ap (λ b. if b then 0 else count_of o t.objects) waits in
    omega (arith, is, some) in
    record {
      task = omega (arith, small);
      prio = omega (arith, low);
      few = task.few;
      stands = stands_from k x l.pend same.noded there task.different (λ o some. let low = inside o some in omega (arith, low, few)) 0 [] t.objects refl refl task.few;
      nowhere = ready_nowhere k x l v same (no_ready t waits);
    }
