-- The links of a caller that waits fit.
use Rattle.std.proofs.Common.{◌≡◌, ◌≢◌, ℕ, ◌+◌, ◌*◌, ◌/◌, ◌<◌, ◌≤◌, List, [], ◌∷◌, length, map, take, refl, sym, ap, ◌∙◌, subst, Bool, true, false, arith, inl, inr, get_or-set_other}
use Rattle.std.specs.Prelude.{if◌then◌else◌, ◌==◌, ◌&&◌, All, slice_set, insert}
use Rattle.std.proofs.Math.Nat.{not-suc-le-zero}
use Rattle.std.proofs.lemmas.Bool.Decides.{eqb_tells, leb_tells}
use Rattle.std.proofs.lemmas.List.Elements.{All-head, All-tail}
use Rattle.kern_base.specs.declared.numbers.Prio.{Prio}
use Rattle.kern_model.specs.State.{Kernel, task_at, count_of, waits_for_nothing, is_ready, is_zero, prio_of}
use Rattle.kern_model.specs.Micro.{Lists, Halves, after, wait, wait_place, whole}
use Rattle.kern_model.specs.Valid.{IsLinked}
use Rattle.kern_model.proofs.Lemmas.{plains}
use Rattle.links.specs.Chain.{times, total, list_at, inserted}
use Rattle.micro_steps.specs.Blocks.{prio_by}
use Rattle.micro_steps.specs.Halfway.{tasks_in}
use Rattle.micro_steps.specs.Whole.{AreFit}
use Rattle.micro_steps.proofs.Seen.{list_at-tasks, list_at-take}
use Rattle.link_plans.specs.Plans.{wait_links, block_links}
use Rattle.link_plans.specs.Fits.{AreKernels}
use Rattle.link_plans.proofs.Nodes.Waiters.{times-count, total-none}
use Rattle.link_plans.proofs.Fits.Wakes.{counted}
use Rattle.link_plans.proofs.Fits.Woken.{total-inserted}

-- the lists after a node joined
pub waited : (prio : ℕ → ℕ) (n p o : ℕ) (l : Lists) → after (wait prio n p o l) l ≡ record { ready = l.ready; pend = inserted l.pend o (wait_place prio p (list_at l.pend o)) n }
waited prio n p o l = ap (λ (h : Halves). h.forward) (plains (wait_place prio p (list_at l.pend o)) _ (whole l))

-- as a node stands in a list, its task stands in the list of tasks
pub node-count : (n : ℕ) (xs : List ℕ) → times n xs ≤ count_of (n / 8) (map (λ m. m / 8) xs)
node-count n [] = omega arith
node-count n (y ∷ ys) =
    let rest = node-count n ys in
    elim (eqb_tells y n) [
      | inl e ↦ rw e.1 (elim (eqb_tells n n) [
        | inl a ↦ elim (eqb_tells (n / 8) (n / 8)) [
          | inl b ↦ rw (a.0, b.0) (omega (arith, rest))
          | inr b ↦ absurd (b.1 refl)
        ]
        | inr a ↦ absurd (a.1 refl)
      ])
      | inr e ↦ rw e.0 (omega (arith, rest))
    ]

-- the task x stands in no such list
abbrev pub IsOut : ℕ → List ℕ → Type 0
IsOut x xs = count_of x (map (λ m. m / 8) xs) ≡ 0

waits_fit : (n : ℕ) (prios : List Prio) (x p i : ℕ) (os : List ℕ) (l : Lists) → n ≤ 64 → x < 64 → i + length os ≤ 8 → All (λ o. o < n) os → ((o : ℕ) → count_of o os ≤ 1) → ((j : ℕ) → i ≤ j → j < 8 → total (8 * x + j) l.pend ≡ 0) → ((o : ℕ) → 0 < count_of o os → IsOut x (list_at l.pend o)) → AreFit n prios (wait_links x p i os) l
waits_fit n prios x p i [] l most small few all once none out = tt
waits_fit n prios x p i (o ∷ os) l most small few all once none out =
    let node = 8 * x + i in
    let own : node / 8 ≡ x = omega (arith, few) in
    let low : o < n = All-head (λ q. q < n) o os all in
    let here : count_of o (o ∷ os) ≡ 1 + count_of o os = counted o os in
    let absent : times (node / 8) (map (λ m. m / 8) (list_at l.pend o)) ≡ 0 = ap (λ y. times y (map (λ m. m / 8) (list_at l.pend o))) own ∙ times-count x _ ∙ out o (omega (arith, here)) in
    let q : Prio = record { 0 = p } in
    let now = slice_set prios (node / 8) q in
    let w = wait_place (prio_by now) p (list_at l.pend o) in
    let next : Lists = record { ready = l.ready; pend = inserted l.pend o w node } in
    let others : (j : ℕ) → i + 1 ≤ j → j < 8 → total (8 * x + j) next.pend ≡ 0 = λ j from to. total-inserted (8 * x + j) node l.pend o w (λ e. not-suc-le-zero {n = 0} (omega (arith, e, from))) ∙ none j (omega (arith, from)) to in
    let apart : (r : ℕ) → 0 < count_of r os → IsOut x (list_at next.pend r) =
    λ r some.
    let far : r ≢ o = λ e. let two = once o in let one = subst (λ z. 0 < count_of z os) e some in not-suc-le-zero {n = 0} (omega (arith, here, two, one)) in
    let same : list_at next.pend r ≡ list_at l.pend r = get_or-set_other l.pend o r (insert (list_at l.pend o) w node) [] far in
    ap (λ ys. count_of x (map (λ m. m / 8) ys)) same ∙ out r (omega (arith, some)) in
    let rest = waits_fit n now x p (i + 1) os next most small (omega (arith, few)) (All-tail (λ q. q < n) o os all) (λ r. let c = once r in omega (arith, c)) others apart in
    ((omega (arith, small, few), omega (arith, low, most), low, none i (omega arith) (omega (arith, few)), absent), subst (AreFit n now (wait_links x p (i + 1) os)) (sym (waited (prio_by now) node p o l)) rest)

eqb-same : (n : ℕ) → (n == n) ≡ true
eqb-same n =
    elim (eqb_tells n n) [
      | inl e ↦ e.0
      | inr e ↦ absurd (e.1 refl)
    ]

-- a ready task waits for nothing
pub no_wait : (a b c : Bool) → (a && (b && c)) ≡ true → b ≡ true
no_wait true true c e = refl
no_wait true false c e = e
no_wait false true c e = refl
no_wait false false c e = e

-- a ready task stands in no list of waiters
pub out_of : (k : Kernel) (x o : ℕ) (l : Lists) → IsLinked k → AreKernels k l → waits_for_nothing (task_at k x).waiting ≡ true → IsOut x (list_at l.pend o)
out_of k x o l v same none =
    let n = length k.objects in
    let pend : take n (tasks_in l.pend) ≡ k.pend = ap (λ (m : Lists). m.pend) same.lists in
    elim (leb_tells (o + 1) n) [
      | inl e ↦ ap (count_of x) (sym (list_at-tasks l.pend o) ∙ sym (list_at-take n (tasks_in l.pend) o (omega (arith, e.1))) ∙ ap (λ ls. list_at ls o) pend) ∙ v.lists.waiters o x ∙ ap (λ b. if b then 0 else count_of o (task_at k x).objects) none
      | inr e ↦ ap (λ ys. count_of x (map (λ m. m / 8) ys)) (same.past o (omega (arith, e.1)))
    ]

pub block_fits : (prios : List Prio) (k : Kernel) (x : ℕ) (os : List ℕ) (l : Lists) → IsLinked k → AreKernels k l → x < 64 → is_ready (task_at k x) ≡ true → All (λ o. o < length k.objects) os → ((o : ℕ) → count_of o os ≤ 1) → length os ≤ 8 → AreFit (length k.objects) prios (block_links k.tasks x os) l
block_fits prios k x os l v same small is all once few =
    let p = prio_of k x in let t = task_at k x in
    let none = no_wait t.alive (waits_for_nothing t.waiting) (is_zero t.suspended) is in
    let low = (v.tasks.each_task x).prio_to in let most = v.sizes.objects in
    let ready : l.ready ≡ k.ready = ap (λ (m : Lists). m.ready) same.lists in
    let there : times x (list_at l.ready p) ≡ 1 = times-count x (list_at l.ready p) ∙ ap (λ ls. count_of x (list_at ls p)) ready ∙ v.lists.stands p x ∙ rw (is, eqb-same p) refl in
    let out : (o : ℕ) → IsOut x (list_at l.pend o) = λ o. out_of k x o l v same none in
    let nowhere : (j : ℕ) → 0 ≤ j → j < 8 → total (8 * x + j) l.pend ≡ 0 =
    λ j from to.
    let own : (8 * x + j) / 8 ≡ x = omega (arith, to) in
    total-none (8 * x + j) l.pend (λ o. let le = node-count (8 * x + j) (list_at l.pend o) in let zero_more : count_of ((8 * x + j) / 8) (map (λ m. m / 8) (list_at l.pend o)) ≡ 0 = ap (λ y. count_of y (map (λ m. m / 8) (list_at l.pend o))) own ∙ out o in omega (arith, le, zero_more)) in
    ((small, omega (arith, low), omega (arith, there)), waits_fit (length k.objects) prios x p 0 os _ most small (omega (arith, few)) all once nowhere (λ o some. out o))
