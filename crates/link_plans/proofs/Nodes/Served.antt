-- Each node that waits serves its task's object.
use Rattle.std.proofs.Common.{◌≡◌, ◌≢◌, ℕ, zero, suc, ◌+◌, ◌*◌, ◌/◌, ◌<◌, ◌≤◌, List, [], ◌∷◌, ◌++◌, length, map, refl, sym, ap, ◌∙◌, subst, arith, inl, inr, append_assoc, get_or-set_other, true}
use Rattle.std.specs.Prelude.{insert, slice_set}
use Rattle.std.proofs.Math.Nat.{not-suc-le-zero}
use Rattle.std.proofs.lemmas.Bool.Decides.{eqb_tells}
use Rattle.std.proofs.lemmas.List.{length-append}
use Rattle.kern_base.specs.declared.numbers.Prio.{Prio}
use Rattle.kern_model.specs.State.{Kernel, Task, task_in, task_at, prio_of, place_of, count_of, is_ready, is_zero, waits_for_nothing}
use Rattle.kern_model.specs.Micro.{Lists, wait_place}
use Rattle.kern_model.specs.Valid.{IsLinked}
use Rattle.kern_model.proofs.Lemmas.{count-append}
use Rattle.links.specs.Chain.{times, list_at, inserted, left}
use Rattle.links.proofs.Times.{times-insert, times-le, times_other}
use Rattle.links.proofs.Steps.{times-without-le}
use Rattle.micro_steps.specs.declared.link.Link.{Link}
use Rattle.micro_steps.specs.Blocks.{prio_by}
use Rattle.micro_steps.specs.Whole.{lists_after}
use Rattle.link_plans.specs.Plans.{leave_links, ready_links, wakes_links, wait_links, block_links}
use Rattle.link_plans.specs.Fits.{IsNoded, AreKernels}
use Rattle.link_plans.proofs.Fits.Wakes.{counted}
use Rattle.link_plans.proofs.Nodes.Waiters.{place_after}
use Rattle.link_plans.proofs.Fits.Waits.{waited, node-count, no_wait, out_of}

pub times-left-le : (m n : ℕ) (pend : List (List ℕ)) (o p : ℕ) → times m (list_at (left pend o n) p) ≤ times m (list_at pend p)
times-left-le m n [] o p = omega arith
times-left-le m n (xs ∷ pend) zero zero = times-without-le m n xs
times-left-le m n (xs ∷ pend) zero (suc p) = omega arith
times-left-le m n (xs ∷ pend) (suc o) zero = omega arith
times-left-le m n (xs ∷ pend) (suc o) (suc p) = times-left-le m n pend o p

-- after these links no node stands more often in a list of waiters
abbrev IsLess : List Prio → List Link → Type 0
IsLess prios ks = (l : Lists) (o n : ℕ) → times n (list_at (lists_after prios ks l).pend o) ≤ times n (list_at l.pend o)

leaves_less : (prios : List Prio) (x i : ℕ) (os : List ℕ) (ks : List Link) → IsLess prios ks → IsLess prios (leave_links x i os ++ ks)
leaves_less prios x i [] ks less l o n = less l o n
leaves_less prios x i (p ∷ os) ks less l o n =
    let next : Lists = record { ready = l.ready; pend = left l.pend p (8 * x + i) } in
    let rest = leaves_less prios x (i + 1) os ks less next o n in let one = times-left-le n (8 * x + i) l.pend p o in
    omega (arith, rest, one)

ready_less : (prios : List Prio) (s x p h : ℕ) (ks : List Link) → IsLess prios ks → IsLess prios (ready_links s x p h ++ ks)
ready_less prios zero x p h ks less l o n = less _ o n
ready_less prios (suc s) x p h ks less l o n = less l o n

wakes_less : (prios : List Prio) (ts : List Task) (h : ℕ) (xs : List ℕ) → IsLess prios (wakes_links ts h xs)
wakes_less prios ts h [] = λ l o n. omega arith
wakes_less prios ts h (x ∷ xs) =
    let t = task_in ts x in
    leaves_less prios x 0 t.objects (ready_links t.suspended x t.prio h ++ wakes_links ts h xs) (ready_less prios t.suspended x t.prio h (wakes_links ts h xs) (wakes_less prios ts h xs))

pub wakes_keep : (prios : List Prio) (ts us : List Task) (h : ℕ) (xs : List ℕ) (l : Lists) → ((y : ℕ) → (task_in us y).objects ≡ (task_in ts y).objects) → IsNoded ts l.pend → IsNoded us (lists_after prios (wakes_links ts h xs) l).pend
wakes_keep prios ts us h xs l same noded o n some =
    let le = wakes_less prios ts h xs l o n in
    noded o n (omega (arith, some, le)) ∙ ap (λ ids. 8 * (n / 8) + place_of o ids) (sym (same (n / 8)))

-- a node joins one list
pub times-inserted-le : (m n : ℕ) (pend : List (List ℕ)) (o i p : ℕ) → times m (list_at (inserted pend o i n) p) ≤ times m (n ∷ list_at pend p)
times-inserted-le m n [] o i p = times-le m n []
times-inserted-le m n (xs ∷ pend) zero i zero = let same = times-insert m xs i n in omega (arith, same)
times-inserted-le m n (xs ∷ pend) zero i (suc p) = times-le m n (list_at pend p)
times-inserted-le m n (xs ∷ pend) (suc o) i zero = times-le m n xs
times-inserted-le m n (xs ∷ pend) (suc o) i (suc p) = times-inserted-le m n pend o i p

-- x waits for its objects from one place on
waits_keep : (prios : List Prio) (us : List Task) (x p i : ℕ) (front os : List ℕ) (l : Lists) → IsNoded us l.pend → front ++ os ≡ (task_in us x).objects → length front ≡ i → ((o : ℕ) → count_of o (task_in us x).objects ≤ 1) → i + length os ≤ 8 → IsNoded us (lists_after prios (wait_links x p i os) l).pend
waits_keep prios us x p i front [] l noded e at once few = noded
waits_keep prios us x p i front (o ∷ os) l noded e at once few =
    let all = (task_in us x).objects in
    let total : count_of o all ≡ count_of o front + (1 + count_of o os) = ap (count_of o) (sym e) ∙ count-append o front (o ∷ os) ∙ ap (λ n. count_of o front + n) (counted o os) in
    let most = once o in
    let none : count_of o front ≡ 0 = omega (arith, total, most) in
    let place : place_of o all ≡ i = ap (place_of o) (sym e) ∙ place_after o front os none ∙ at in
    let node = 8 * x + i in
    let own : node / 8 ≡ x = omega (arith, few) in
    let q : Prio = record { 0 = p } in
    let now = slice_set prios (node / 8) q in
    let w = wait_place (prio_by now) p (list_at l.pend o) in
    let next : Lists = record { ready = l.ready; pend = inserted l.pend o w node } in
    let is : 8 * (node / 8) + place_of o (task_in us (node / 8)).objects ≡ node = ap (λ y. 8 * y + place_of o (task_in us y).objects) own ∙ ap (λ j. 8 * x + j) place in
    let here : IsNoded us next.pend =
    λ r n some.
    elim (eqb_tells r o) [
      | inl a ↦ elim (eqb_tells node n) [
        | inl b ↦ subst (λ m. m ≡ 8 * (m / 8) + place_of r (task_in us (m / 8)).objects) b.1 (subst (λ s. node ≡ 8 * (node / 8) + place_of s (task_in us (node / 8)).objects) (sym a.1) (sym is))
        | inr b ↦ noded r n (let le = times-inserted-le n node l.pend o w r in let other = times_other n node (list_at l.pend r) b.1 in omega (arith, some, le, other))
      ]
      | inr a ↦ noded r n (subst (λ (ys : List ℕ). 0 < times n ys) (get_or-set_other l.pend o r (insert (list_at l.pend o) w node) [] a.1) some)
    ] in
    let rest = waits_keep now us x p (i + 1) (front ++ o ∷ []) os next here (append_assoc front (o ∷ []) os ∙ e) (length-append front (o ∷ []) ∙ ap (λ n. n + 1) at) once (omega (arith, few)) in
    subst (λ (m : Lists). IsNoded us (lists_after now (wait_links x p (i + 1) os) m).pend) (sym (waited (prio_by now) node p o l)) rest

pub block_keeps : (prios : List Prio) (k : Kernel) (us : List Task) (x : ℕ) (os : List ℕ) (l : Lists) → IsLinked k → AreKernels k l → is_ready (task_at k x) ≡ true → ((o : ℕ) → count_of o os ≤ 1) → length os ≤ 8 → (task_in us x).objects ≡ os → ((y : ℕ) → (y ≡ x → ⊥) → (task_in us y).objects ≡ (task_at k y).objects) → IsNoded us (lists_after prios (block_links k.tasks x os) l).pend
block_keeps prios k us x os l v same is once few own others =
    let t = task_at k x in
    let none = no_wait t.alive (waits_for_nothing t.waiting) (is_zero t.suspended) is in
    let start : IsNoded us l.pend =
    λ o n some.
    let le = node-count n (list_at l.pend o) in
    let out = out_of k x o l v same none in
    let far : n / 8 ≢ x = λ e. let zero_more : count_of (n / 8) (map (λ m. m / 8) (list_at l.pend o)) ≡ 0 = ap (λ y. count_of y (map (λ m. m / 8) (list_at l.pend o))) e ∙ out in not-suc-le-zero {n = 0} (omega (arith, some, le, zero_more)) in
    same.noded o n some ∙ ap (λ ids. 8 * (n / 8) + place_of o ids) (sym (others (n / 8) far)) in
    waits_keep prios us x (prio_of k x) 0 [] os _ start (sym own) refl (λ o. subst (λ ids. count_of o ids ≤ 1) (sym own) (once o)) (omega (arith, few))
