-- The front of a ready list, out of its chain of nodes.
use Rattle.std.proofs.Common.{◌≡◌, ◌≢◌, ℕ, zero, suc, ◌+◌, ◌<◌, ◌≤◌, List, [], ◌∷◌, length, refl, sym, ap, ◌∙◌, Bool, true, false, arith, Some, None, Option, subst}
use Rattle.std.specs.Prelude.{◌==◌, if◌then◌else◌, slice_get, slice_index}
use Rattle.std.proofs.lemmas.Bool.{ne_eqb}
use Rattle.std.proofs.lemmas.List.FromFn.{get_or-map-range_with_len}
use Rattle.links.specs.Chain.{times, total, list_at, walk, chain, forward_lists}
use Rattle.links.proofs.Times.{times_here, times-le}
use Rattle.kern_base.specs.declared.numbers.TaskId.{TaskId}
use Rattle.ready_list.specs.Lists.{ReadyLists, IsConsistent}
use Rattle.round_robin.specs.Turns.{second_task}

-- the number of a task
abbrev number : Option TaskId → ℕ
number None = 0
number (Some x) = x.0

-- the second task stands in the list
second-stands : (xs : List ℕ) (y : ℕ) → second_task xs ≡ Some (record { 0 = y }) → 0 < times y xs
second-stands [] y e = absurd cc
second-stands (x ∷ []) y e = absurd cc
second-stands (x ∷ z ∷ zs) y e =
    let same : z ≡ y = ap number e in
    subst (λ n. 0 < times n (x ∷ z ∷ zs)) same (omega (arith, times_here z zs, times-le z x (z ∷ zs)))

-- the task of a node, None for the head
abbrev task_of_node : ℕ → ℕ → Option TaskId
task_of_node head node = if node == head then None else Some (record { 0 = node })

started : (b : Bool) (ys : List ℕ) (v x : ℕ) → slice_get (if b then [] else v ∷ ys) 0 ≡ Some x → (b ≡ false) × (v ≡ x)
started true ys v x e = absurd cc
started false ys v x e = (refl, cc)

continued : (a b : Bool) (v s : ℕ) (ys : List ℕ) → a ≡ false → second_task (if a then [] else v ∷ (if b then [] else s ∷ ys)) ≡ (if b then None else Some (record { 0 = s }))
continued true b v s ys e = absurd cc
continued false true v s ys e = refl
continued false false v s ys e = refl

-- behind the first node of a walk comes its successor, or the head
second-walked : (n : List ℕ) (b most v x : ℕ) → 2 ≤ most → slice_get (walk n b most v) 0 ≡ Some x → second_task (walk n b most v) ≡ task_of_node b (slice_index n x)
second-walked n b zero v x h e = absurd (omega arith)
second-walked n b (suc zero) v x h e = absurd (omega arith)
second-walked n b (suc (suc m)) v x h e =
    let s = slice_index n v in
    let here = started (v == b) (if s == b then [] else s ∷ walk n b m (slice_index n s)) v x e in
    continued (v == b) (s == b) v s (walk n b m (slice_index n s)) here.0 ∙ ap (λ w. task_of_node b (slice_index n w)) here.1

-- there are nodes enough, as no task stands twice
two-nodes : (n : List ℕ) → ((x : ℕ) → total x (forward_lists 64 64 n) ≤ 1) → (head x : ℕ) → slice_get (chain n head) 0 ≡ Some x → 2 ≤ length n
two-nodes [] once head x is = absurd cc
two-nodes (v ∷ []) once head x is =
    let all : total 0 (forward_lists 64 64 (v ∷ [])) ≡ 64 = refl in
    absurd (omega (arith, once 0))
two-nodes (v ∷ w ∷ n) once head x is = omega arith

high-if : (b : Bool) (xs : List ℕ) (node : ℕ) → second_task xs ≡ (if b then None else Some (record { 0 = node })) → (0 < times node xs → node < 64) → 64 ≤ node → None ≡ second_task xs
high-if true xs node e below h = sym e
high-if false xs node e below h = let low : node < 64 = below (second-stands xs node e) in absurd (omega arith)

module _ (lists : ReadyLists) (all : IsConsistent lists) (p x node : ℕ) (number : p < 64)
    (first : slice_get (list_at lists.forward p) 0 ≡ Some x) (next : node ≡ slice_index lists.nexts x) where
  second-node : second_task (list_at lists.forward p) ≡ task_of_node (64 + p) node
  second-node =
      let n = lists.nexts in
      let here : list_at lists.forward p ≡ chain n (64 + p) =
      ap (λ ls. list_at ls p) (sym all.forward_chains) ∙ get_or-map-range_with_len (chain n) 64 64 p (64 + p) [] number refl in
      let is : slice_get (chain n (64 + p)) 0 ≡ Some x = subst (λ xs. slice_get xs 0 ≡ Some x) here first in
      let once : (y : ℕ) → total y (forward_lists 64 64 n) ≤ 1 = λ y. subst (λ ls. total y ls ≤ 1) (sym all.forward_chains) (all.forward.once y) in
      ap second_task here
      ∙ second-walked n (64 + p) (length n) (slice_index n (64 + p)) x (two-nodes n once (64 + p) x is) is
      ∙ ap (task_of_node (64 + p)) (sym next)

  pub second-low : node < 64 → Some (record { 0 = node }) ≡ second_task (list_at lists.forward p)
  second-low h =
      sym (second-node ∙ ap (λ (b : Bool). if b then None else Some (record { 0 = node })) (ne_eqb node (64 + p) (omega arith)))

  pub second-none : 64 ≤ node → None ≡ second_task (list_at lists.forward p)
  second-none h = high-if (node == 64 + p) (list_at lists.forward p) node second-node (all.forward.tasks p number node) h
