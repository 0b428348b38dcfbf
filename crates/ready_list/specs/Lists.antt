-- The ready lists of both directions.
use Rattle.std.specs.Prelude.{◌≡◌, ℕ, ◌+◌, ◌<◌, ◌≤◌, Bool, true, false, List, [], ◌∷◌, length, slice_index, slice_set, if◌then◌else◌}
use Rattle.links.specs.Chain.{times, total, list_at, inserted, forward_lists, back_lists}

-- For each priority the forward list and the backward list of its tasks, and whether it is in the set; and the
-- successor of each node in either direction. Node x is task x, and node 64 + p is the head of priority p.
pub record ReadyLists : Type 0 where
  pub forward : List (List ℕ)
  pub back : List (List ℕ)
  pub marked : List Bool
  pub nexts : List ℕ
  pub prevs : List ℕ

-- the place at the tail or at the head
abbrev pub join_place : Bool → List ℕ → ℕ
join_place tail xs = if tail then length xs else 0

-- the task joins the list of a priority
abbrev pub joined : List (List ℕ) → ℕ → Bool → ℕ → List (List ℕ)
joined lists p tail x = inserted lists p (join_place tail (list_at lists p)) x

-- the node behind which a task joins: the last of the list, or its head
abbrev pub join_node : ReadyLists → ℕ → Bool → ℕ
join_node lists p tail = if tail then slice_index lists.prevs (64 + p) else 64 + p

-- whether a list has an entry
abbrev pub is_filled : List ℕ → Bool
is_filled [] = false
is_filled (x ∷ xs) = true

-- a priority leaves the set where its list became empty
abbrev pub unmarked : List (List ℕ) → ℕ → List Bool → List Bool
unmarked lists p marked = if is_filled (list_at lists p) then marked else slice_set marked p false

-- the lists of one direction: 64 lists of tasks, in which each task stands at most once
pub record AreTasks (lists : List (List ℕ)) : Type 0 where
  pub count : length lists ≡ 64
  pub once : (x : ℕ) → total x lists ≤ 1
  pub tasks : (p : ℕ) → p < 64 → (x : ℕ) → 0 < times x (list_at lists p) → x < 64

-- What holds of all ready lists.
pub record IsConsistent (lists : ReadyLists) : Type 0 where
  pub forward : AreTasks lists.forward
  pub back : AreTasks lists.back
  pub forward_chains : forward_lists 64 64 lists.nexts ≡ lists.forward
  pub back_chains : back_lists 64 64 lists.prevs ≡ lists.back
