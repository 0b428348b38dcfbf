-- The links of a task that is woken fit.
use Rattle.std.proofs.Common.{◌≡◌, ◌≢◌, ℕ, zero, suc, ◌+◌, ◌*◌, ◌<◌, ◌≤◌, List, [], ◌∷◌, ◌++◌, length, refl, sym, subst, arith, inl, inr}
use Rattle.std.specs.Prelude.{◌==◌}
use Rattle.std.proofs.lemmas.List.{get_or-set_other}
use Rattle.std.proofs.lemmas.Bool.Decides.{eqb_tells}
use Rattle.std.proofs.Math.Nat.{not-suc-le-zero}
use Rattle.kern_base.specs.declared.numbers.Prio.{Prio}
use Rattle.kern_model.specs.State.{count_of, Task, task_in}
use Rattle.kern_model.specs.Micro.{Lists}
use Rattle.links.specs.Chain.{total, list_at, left, without, inserted}
use Rattle.micro_steps.specs.Blocks.{place_at}
use Rattle.micro_steps.specs.declared.link.Link.{Link}
use Rattle.micro_steps.specs.Whole.{AreFit}
use Rattle.link_plans.specs.Plans.{leave_links, ready_links, wakes_links}
use Rattle.link_plans.specs.Fits.{StandsIn, CanWake}

-- the lists of nodes without these
abbrev pub nodes_left : ℕ → ℕ → List ℕ → List (List ℕ) → List (List ℕ)
nodes_left x i [] pend = pend
nodes_left x i (o ∷ os) pend = nodes_left x (i + 1) os (left pend o (8 * x + i))

pub counted : (p : ℕ) (os : List ℕ) → count_of p (p ∷ os) ≡ 1 + count_of p os
counted p os =
    elim (eqb_tells p p) [
      | inl e ↦ rw e.0 refl
      | inr e ↦ absurd (e.1 refl)
    ]

differs : (o p : ℕ) (os : List ℕ) → o ≡ p → count_of o (p ∷ os) ≡ 0 → ⊥
differs o p os e none =
    let one : count_of p (p ∷ os) ≡ 0 = subst (λ q. count_of q (p ∷ os) ≡ 0) e none in
    not-suc-le-zero {n = 0} (omega (arith, one, counted p os))

less : (o p : ℕ) (os : List ℕ) → count_of o (p ∷ os) ≡ 0 → count_of o os ≡ 0
less o p os none = omega (arith, none)

-- another list changes nothing of this
stands_other : (x i : ℕ) (os : List ℕ) (pend : List (List ℕ)) (o n : ℕ) → count_of o os ≡ 0 → StandsIn x i os pend → StandsIn x i os (left pend o n)
stands_other x i [] pend o n none s = tt
stands_other x i (p ∷ os) pend o n none s =
    let far : o ≢ p = λ e. differs o p os e none in
    let same : list_at (left pend o n) p ≡ list_at pend p = get_or-set_other pend o p (without n (list_at pend o)) [] (λ e. far (sym e)) in
    (s.0, rw same s.1, s.2, stands_other x (i + 1) os pend o n (less o p os none) s.3)

pub leaves-fit : (n : ℕ) (prios : List Prio) (x i : ℕ) (os : List ℕ) (ks : List Link) (l : Lists) → x < 64 → i + length os ≤ 8 → StandsIn x i os l.pend → (let after : Lists = record { ready = l.ready; pend = nodes_left x i os l.pend } in AreFit n prios ks after) → AreFit n prios (leave_links x i os ++ ks) l
leaves-fit n prios x i [] ks l small few s rest = rest
leaves-fit n prios x i (o ∷ os) ks l small few s rest =
    let next : Lists = record { ready = l.ready; pend = left l.pend o (8 * x + i) } in
    ((omega (arith, small, few), s.0, s.1), leaves-fit n prios x (i + 1) os ks next small (omega (arith, few)) (stands_other x (i + 1) os l.pend o (8 * x + i) s.2 s.3) rest)

-- the lists of nodes after a wake
abbrev pub lists_woken : ℕ → ℕ → ℕ → ℕ → List ℕ → Lists → Lists
lists_woken zero x p h os l = record { ready = inserted l.ready p (place_at (p == h) (list_at l.ready p)) x; pend = nodes_left x 0 os l.pend }
lists_woken (suc n) x p h os l = record { ready = l.ready; pend = nodes_left x 0 os l.pend }

ready-fit : (n : ℕ) (prios : List Prio) (s x p h : ℕ) (os : List ℕ) (ks : List Link) (l : Lists) → x < 64 → p < 64 → total x l.ready ≡ 0 → AreFit n prios ks (lists_woken s x p h os l) → (let m : Lists = record { ready = l.ready; pend = nodes_left x 0 os l.pend } in AreFit n prios (ready_links s x p h ++ ks) m)
ready-fit n prios zero x p h os ks l task prio none rest = ((task, prio, none), rest)
ready-fit n prios (suc s) x p h os ks l task prio none rest = rest

-- the blocks of one wake, and those after it
pub wake-fit : (n : ℕ) (prios : List Prio) (ts : List Task) (h x : ℕ) (ks : List Link) (l : Lists) → CanWake ts x l → AreFit n prios ks (lists_woken (task_in ts x).suspended x (task_in ts x).prio h (task_in ts x).objects l) → AreFit n prios (leave_links x 0 (task_in ts x).objects ++ (ready_links (task_in ts x).suspended x (task_in ts x).prio h ++ ks)) l
wake-fit n prios ts h x ks l w rest =
    let t = task_in ts x in
    leaves-fit n prios x 0 t.objects (ready_links t.suspended x t.prio h ++ ks) l w.task (omega (arith, w.few)) w.stands (ready-fit n prios t.suspended x t.prio h t.objects ks l w.task w.prio w.nowhere rest)

-- each of these can be woken, where those before it were
abbrev pub CanWakeAll : List Task → ℕ → List ℕ → Lists → Type 0
CanWakeAll ts h [] l = Unit {0}
CanWakeAll ts h (x ∷ xs) l = CanWake ts x l × CanWakeAll ts h xs (lists_woken (task_in ts x).suspended x (task_in ts x).prio h (task_in ts x).objects l)

-- the blocks of several wakes
pub wakes-fit : (n : ℕ) (prios : List Prio) (ts : List Task) (h : ℕ) (xs : List ℕ) (l : Lists) → CanWakeAll ts h xs l → AreFit n prios (wakes_links ts h xs) l
wakes-fit n prios ts h [] l w = tt
wakes-fit n prios ts h (x ∷ xs) l w = wake-fit n prios ts h x (wakes_links ts h xs) l w.0 (wakes-fit n prios ts h xs _ w.1)
