-- A wake keeps that other tasks can be woken.
use Rattle.std.proofs.Common.{◌≡◌, ◌≢◌, ℕ, zero, suc, ◌+◌, ◌*◌, ◌/◌, ◌<◌, ◌≤◌, List, [], ◌∷◌, length, take, drop, insert, refl, sym, ap, ◌∙◌, subst, arith, inl, inr}
use Rattle.std.specs.Prelude.{◌==◌, if◌then◌else◌}
use Rattle.std.proofs.Math.Nat.{not-suc-le-zero}
use Rattle.std.proofs.lemmas.Bool.Decides.{eqb_tells}
use Rattle.std.proofs.lemmas.List.{take-append-drop}
use Rattle.std.proofs.lemmas.List.Sums.{sum_by-cons}
use Rattle.kern_model.specs.State.{count_of, Task, task_in}
use Rattle.kern_model.specs.Micro.{Lists}
use Rattle.links.specs.Chain.{times, total, list_at, left, without, inserted}
use Rattle.links.proofs.Times.{times-append, times_other}
use Rattle.micro_steps.specs.Blocks.{place_at}
use Rattle.kern_base.specs.declared.numbers.Prio.{Prio}
use Rattle.micro_steps.specs.Whole.{AreFit}
use Rattle.link_plans.specs.Plans.{wakes_links}
use Rattle.link_plans.specs.Fits.{StandsIn, CanWake}
use Rattle.link_plans.proofs.Fits.Wakes.{nodes_left, CanWakeAll, lists_woken, counted, wakes-fit}
use Rattle.pend_lists.proofs.Tasks.{without_gone, without_kept}

times-without : (m n : ℕ) (xs : List ℕ) → m ≢ n → times m (without n xs) ≡ times m xs
times-without m n [] ne = refl
times-without m n (x ∷ xs) ne =
    elim (eqb_tells x n) [
      | inl e ↦ ap (times m) (without_gone x n xs e.1) ∙ times-without m n xs ne ∙ sym (times_other m x xs (λ d. ne (sym d ∙ e.1)))
      | inr e ↦ ap (times m) (without_kept x n xs e.1) ∙ ap (λ k. (if x == m then 1 else 0) + k) (times-without m n xs ne)
    ]

times-left : (m n : ℕ) (pend : List (List ℕ)) (o p : ℕ) → m ≢ n → times m (list_at (left pend o n) p) ≡ times m (list_at pend p)
times-left m n [] o p ne = refl
times-left m n (xs ∷ pend) zero zero ne = times-without m n xs ne
times-left m n (xs ∷ pend) zero (suc p) ne = refl
times-left m n (xs ∷ pend) (suc o) zero ne = refl
times-left m n (xs ∷ pend) (suc o) (suc p) ne = times-left m n pend o p ne

-- a node of another task leaves
stands_apart : (y j : ℕ) (os : List ℕ) (pend : List (List ℕ)) (o n : ℕ) → j + length os ≤ 8 → n / 8 ≢ y → StandsIn y j os pend → StandsIn y j os (left pend o n)
stands_apart y j [] pend o n few far s = tt
stands_apart y j (p ∷ os) pend o n few far s =
    let own : (8 * y + j) / 8 ≡ y = omega (arith, few) in
    let ne : 8 * y + j ≢ n = λ e. far (ap (λ k. k / 8) (sym e) ∙ own) in
    (s.0, rw (times-left (8 * y + j) n pend o p ne) s.1, s.2, stands_apart y (j + 1) os pend o n (omega (arith, few)) far s.3)

stands_after : (x i y : ℕ) (os us : List ℕ) (pend : List (List ℕ)) → i + length os ≤ 8 → length us ≤ 8 → x ≢ y → StandsIn y 0 us pend → StandsIn y 0 us (nodes_left x i os pend)
stands_after x i y [] us pend few short ne s = s
stands_after x i y (o ∷ os) us pend few short ne s =
    let own : (8 * x + i) / 8 ≡ x = omega (arith, few) in
    stands_after x (i + 1) y os us (left pend o (8 * x + i)) (omega (arith, few)) short ne (stands_apart y 0 us pend o (8 * x + i) (omega (arith, short)) (λ e. ne (sym own ∙ e)) s)

times-insert : (y x i : ℕ) (xs : List ℕ) → x ≢ y → times y (insert xs i x) ≡ times y xs
times-insert y x i xs ne =
    times-append y (take i xs) (x ∷ drop i xs) ∙ ap (λ k. times y (take i xs) + k) (times_other y x (drop i xs) ne) ∙ sym (times-append y (take i xs) (drop i xs)) ∙ ap (times y) (take-append-drop i xs)

pub total-inserted : (y x : ℕ) (lists : List (List ℕ)) (p i : ℕ) → x ≢ y → total y (inserted lists p i x) ≡ total y lists
total-inserted y x [] p i ne = refl
total-inserted y x (xs ∷ lists) zero i ne =
    sum_by-cons (times y) (insert xs i x) lists ∙ ap (λ k. k + total y lists) (times-insert y x i xs ne) ∙ sym (sum_by-cons (times y) xs lists)
total-inserted y x (xs ∷ lists) (suc p) i ne =
    sum_by-cons (times y) xs (inserted lists p i x) ∙ ap (λ k. times y xs + k) (total-inserted y x lists p i ne) ∙ sym (sum_by-cons (times y) xs lists)

keeps_ready : (n x p h y : ℕ) (os : List ℕ) (l : Lists) → x ≢ y → total y (lists_woken n x p h os l).ready ≡ total y l.ready
keeps_ready zero x p h y os l ne = total-inserted y x l.ready p (place_at (p == h) (list_at l.ready p)) ne
keeps_ready (suc n) x p h y os l ne = refl

keeps_pend : (n x p h : ℕ) (os : List ℕ) (l : Lists) → (lists_woken n x p h os l).pend ≡ nodes_left x 0 os l.pend
keeps_pend zero x p h os l = refl
keeps_pend (suc n) x p h os l = refl

pub wake_keeps : (ts : List Task) (h x y : ℕ) (l : Lists) → x ≢ y → CanWake ts x l → CanWake ts y l → CanWake ts y (lists_woken (task_in ts x).suspended x (task_in ts x).prio h (task_in ts x).objects l)
wake_keeps ts h x y l ne w u =
    let t = task_in ts x in
    record {
      task = u.task;
      prio = u.prio;
      few = u.few;
      stands = rw (keeps_pend t.suspended x t.prio h t.objects l) (stands_after x 0 y t.objects (task_in ts y).objects l.pend (omega (arith, w.few)) u.few ne u.stands);
      nowhere = keeps_ready t.suspended x t.prio h y t.objects l ne ∙ u.nowhere;
    }

-- tasks that can be woken, and of which none stands twice, can be woken one after another
pub can_wake_all : (ts : List Task) (h : ℕ) (xs : List ℕ) (l : Lists) → ((x : ℕ) → count_of x xs ≤ 1) → ((x : ℕ) → 0 < count_of x xs → CanWake ts x l) → CanWakeAll ts h xs l
can_wake_all ts h [] l once can = tt
can_wake_all ts h (x ∷ xs) l once can =
    let here : CanWake ts x l = can x (first x xs) in (
      here,
      can_wake_all ts h xs _ (λ y. let o = once y in omega (arith, o)) (λ y some.
          let apart : x ≢ y = λ e. let o = subst (λ z. count_of z (x ∷ xs) ≤ 1) (sym e) (once y) in let s = subst (λ z. 0 < count_of z xs) (sym e) some in not-suc-le-zero {n = 0} (omega (arith, o, s, counted x xs)) in
          wake_keeps ts h x y l apart here (can y (omega (arith, some)))),
    )
  where
    first : (x : ℕ) (xs : List ℕ) → 0 < count_of x (x ∷ xs)
    first x xs = omega (arith, counted x xs)

pub all_wakes_fit : (n : ℕ) (prios : List Prio) (ts : List Task) (h : ℕ) (xs : List ℕ) (l : Lists) → ((x : ℕ) → count_of x xs ≤ 1) → ((x : ℕ) → 0 < count_of x xs → CanWake ts x l) → AreFit n prios (wakes_links ts h xs) l
all_wakes_fit n prios ts h xs l once can = wakes-fit n prios ts h xs l (can_wake_all ts h xs l once can)
