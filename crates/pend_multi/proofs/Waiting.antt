-- The waiters of several objects, one after another.
use Rattle.std.proofs.Common.{◌≡◌, ◌≢◌, ℕ, suc, ◌+◌, ◌/◌, ◌<◌, ◌≤◌, Bool, true, false, List, [], ◌∷◌, length, drop, insert, set, get_or, get_or-set_other, refl, sym, ap, ◌∙◌, arith, inl, inr, zero-add, drop_of_length-le}
use Rattle.std.specs.Prelude.{if◌then◌else◌, nat_le}
use Rattle.std.proofs.Math.ListN.{get_or-map}
use Rattle.std.proofs.Math.Seq.{drop-cons}
use Rattle.std.proofs.lemmas.List.{map-set}
use Rattle.std.proofs.lemmas.List.Sums.{take_while-cons}
use Rattle.std.proofs.lemmas.Bool.{cases_lt}
use Rattle.kern_base.specs.declared.numbers.Prio.{Prio}
use Rattle.kern_model.specs.State.{update_list}
use Rattle.kern_model.specs.Effect.{stands_in, left_all}
use Rattle.kern_model.specs.Micro.{wait_place}
use Rattle.links.specs.Chain.{times, total, list_at, inserted, left, without}
use Rattle.links.proofs.Times.{times_here, times_other, times-inserted, total-inserted, total_at}
use Rattle.pend_lists.specs.Pending.{waiters, node_for, prio_by, AreOnceEach, AreNodeLists}
use Rattle.pend_lists.specs.Pending as nodes
use Rattle.pend_lists.proofs.Tasks.{map-inserted, waiters-without, times_waits}
use Rattle.pend_multi.specs.Waits.{tasks_in, prio_in, IsNowhere}

-- the task of a node
pub task-node : (task i : ℕ) → i < 8 → node_for task i / 8 ≡ task
task-node task i h = omega arith

-- as many waiters are passed by tasks as by nodes
longer : (b : Bool) (x y : ℕ) (xs ys : List ℕ) → length xs ≡ length ys → length (if b then x ∷ xs else []) ≡ length (if b then y ∷ ys else [])
longer true x y xs ys e = ap suc e
longer false x y xs ys e = refl

place-tasks : (prios : List Prio) (blank : Prio) (p : ℕ) (xs : List ℕ) → nodes.wait_place (prio_by prios blank) p xs ≡ wait_place (prio_in prios blank) p (waiters xs)
place-tasks prios blank p [] = refl
place-tasks prios blank p (x ∷ xs) =
    rw (take_while-cons (λ y. nat_le (prio_by prios blank y) p) x xs, take_while-cons (λ y. nat_le (prio_in prios blank y) p) (x / 8) (waiters xs))
    (longer (nat_le (prio_in prios blank (x / 8)) p) x (x / 8) _ _ (place-tasks prios blank p xs))

-- the waiters of an object after one joined or left
list_at-tasks : (lists : List (List ℕ)) (o : ℕ) → list_at (tasks_in lists) o ≡ waiters (list_at lists o)
list_at-tasks lists o = get_or-map waiters lists o []

pub tasks-joined : (prios : List Prio) (blank : Prio) (p : ℕ) (lists new : List (List ℕ)) (o n task : ℕ) → n / 8 ≡ task → new ≡ inserted lists o (nodes.wait_place (prio_by prios blank) p (list_at lists o)) n
    → tasks_in new ≡ update_list (tasks_in lists) o (λ xs. insert xs (wait_place (prio_in prios blank) p xs) task)
tasks-joined prios blank p lists new o n task is e =
    let xs = list_at lists o in
    let i = nodes.wait_place (prio_by prios blank) p xs in
    let join : List ℕ → List ℕ = λ ys. insert ys (wait_place (prio_in prios blank) p ys) task in
    ap tasks_in e ∙ map-set waiters lists o (insert xs i n)
    ∙ ap (λ ys. set (tasks_in lists) o ys) (map-inserted (λ m. m / 8) xs i n ∙ ap (λ j. insert (waiters xs) j (n / 8)) (place-tasks prios blank p xs)
    ∙ ap (λ t. insert (waiters xs) (wait_place (prio_in prios blank) p (waiters xs)) t) is
    ∙ ap join (sym (list_at-tasks lists o)))

pub tasks-left : (lists new : List (List ℕ)) (o n task : ℕ) → n / 8 ≡ task → ((t : ℕ) → times t (waiters (list_at lists o)) ≤ 1) → 0 < times n (list_at lists o) → new ≡ left lists o n
    → tasks_in new ≡ update_list (tasks_in lists) o (without task)
tasks-left lists new o n task is once stands e =
    let xs = list_at lists o in
    ap tasks_in e ∙ map-set waiters lists o (without n xs)
    ∙ ap (λ ys. set (tasks_in lists) o ys) (waiters-without n xs once stands ∙ ap (λ t. without t (waiters xs)) is ∙ ap (without task) (sym (list_at-tasks lists o)))

-- all other lists are the same
pub other-joined : (lists new : List (List ℕ)) (o i n q : ℕ) → q ≢ o → new ≡ inserted lists o i n → list_at new q ≡ list_at lists q
other-joined lists new o i n q ne e = ap (λ ls. list_at ls q) e ∙ get_or-set_other lists o q (insert (list_at lists o) i n) [] ne

pub other-left : (lists new : List (List ℕ)) (o n q : ℕ) → q ≢ o → new ≡ left lists o n → list_at new q ≡ list_at lists q
other-left lists new o n q ne e = ap (λ ls. list_at ls q) e ∙ get_or-set_other lists o q (without n (list_at lists o)) [] ne

-- the node that joined stands there, and no other is new
pub joined-node : (lists new : List (List ℕ)) (o i n m : ℕ) → o < length lists → n ≢ m → new ≡ inserted lists o i n → total m new ≡ total m lists
joined-node lists new o i n m h ne e = ap (λ ls. total m ls) e ∙ total-inserted lists o i m n h ∙ ap (λ k. k + total m lists) (times_other m n [] ne) ∙ zero-add (total m lists)

pub stands-joined : (lists new : List (List ℕ)) (o i n : ℕ) → o < length lists → new ≡ inserted lists o i n → 0 < times n (list_at new o)
stands-joined lists new o i n h e =
    let at = ap (λ ls. times n (list_at ls o)) e ∙ times-inserted lists o i n n h in
    let here = times_here n (list_at lists o) in
    omega arith

-- one more object of those that are left
pub drop-more : (ids : List ℕ) (i : ℕ) → i < length ids → drop i ids ≡ get_or ids i 0 ∷ drop (i + 1) ids
drop-more ids i h = drop-cons ids i 0 h ∙ ap (λ j. get_or ids i 0 ∷ drop j ids) one
  where
    one : suc i ≡ i + 1
    one = omega arith

pub stands_in-more : (prio : ℕ → ℕ) (task p : ℕ) (ids : List ℕ) (i : ℕ) (lists now whole : List (List ℕ)) → i < length ids → now ≡ update_list lists (get_or ids i 0) (λ xs. insert xs (wait_place prio p xs) task)
    → stands_in prio task p (drop i ids) lists ≡ whole → stands_in prio task p (drop (i + 1) ids) now ≡ whole
stands_in-more prio task p ids i lists now whole h e before =
    ap (stands_in prio task p (drop (i + 1) ids)) e ∙ sym (ap (λ os. stands_in prio task p os lists) (drop-more ids i h)) ∙ before

-- all objects
pub stands_in-all : (prio : ℕ → ℕ) (task : ℕ) (ids : List ℕ) (i : ℕ) (now first : List (List ℕ)) → length ids ≤ i → stands_in prio task (prio task) (drop i ids) now ≡ stands_in prio task (prio task) ids first → now ≡ stands_in prio task (prio task) ids first
stands_in-all prio task ids i now first h e = sym (ap (λ os. stands_in prio task (prio task) os now) (drop_of_length-le ids h)) ∙ e

pub left_all-more : (task : ℕ) (ids : List ℕ) (i : ℕ) (lists now : List (List ℕ)) → i < length ids → now ≡ update_list lists (get_or ids i 0) (without task)
    → left_all task (drop (i + 1) ids) now ≡ left_all task (drop i ids) lists
left_all-more task ids i lists now h e =
    ap (left_all task (drop (i + 1) ids)) e ∙ sym (ap (λ os. left_all task os lists) (drop-more ids i h))

-- a task that waits for nothing has no node in a list
pub no-node : (lists : List (List ℕ)) (task i : ℕ) → length lists ≡ 64 → IsNowhere task lists → i < 8 → total (node_for task i) lists ≡ 0
no-node lists task i count nowhere low =
    elim (cases_lt 0 (total (node_for task i) lists)) [
      | inl some ↦
          let at = total_at (node_for task i) lists some in
          let waits = times_waits (node_for task i) (list_at lists at.0) at.2 in
          let none : times (node_for task i / 8) (waiters (list_at lists at.0)) ≡ 0 = ap (λ t. times t (waiters (list_at lists at.0))) (task-node task i low) ∙ nowhere at.0 (let inside = at.1 in omega arith) in
          absurd (omega arith)
      | inr none ↦ omega arith
    ]
