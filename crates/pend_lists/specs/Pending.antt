-- The lists of waiters, as lists of nodes. A task has eight nodes: node x is one of task x / 8. Node 512 + o is the head of object o.
use Rattle.std.specs.Prelude.{◌≡◌, ℕ, ◌+◌, ◌*◌, ◌/◌, ◌<◌, ◌≤◌, List, length, map, nat_le, slice_index_or, take_while}
use Rattle.kern_base.specs.declared.numbers.Prio.{Prio}
use Rattle.links.specs.Chain.{AreChained, forward_lists, back_lists, list_at, node_before, inserted, left, times, total}

-- For each object the forward list and the backward list of its waiters' nodes; and the successor of each node in either direction.
pub record PendNodes : Type 0 where
  pub forward : List (List ℕ)
  pub back : List (List ℕ)
  pub nexts : List ℕ
  pub prevs : List ℕ

-- the node of a task for the i-th object of its call
abbrev pub node_for : ℕ → ℕ → ℕ
node_for task i = 8 * task + i

-- the tasks of nodes, in order
abbrev pub waiters : List ℕ → List ℕ
waiters xs = map (λ n. n / 8) xs

-- the task of this node does not stand among these nodes
abbrev pub IsAbsent : ℕ → List ℕ → Type 0
IsAbsent node xs = times (node / 8) (waiters xs) ≡ 0

-- the lists of one direction: in none of them a task stands twice
abbrev pub AreOnceEach : List (List ℕ) → Type 0
AreOnceEach lists = (o : ℕ) → o < 64 → (task : ℕ) → times task (waiters (list_at lists o)) ≤ 1

abbrev pub forward_of : List ℕ → List (List ℕ)
forward_of nexts = forward_lists 512 64 nexts

abbrev pub back_of : List ℕ → List (List ℕ)
back_of prevs = back_lists 512 64 prevs

abbrev pub nodes_of : List ℕ → List ℕ → PendNodes
nodes_of nexts prevs = record { forward = forward_of nexts; back = back_of prevs; nexts = nexts; prevs = prevs }

-- the nodes are linked as lists of waiters
pub record ArePending (nexts prevs : List ℕ) : Type 0 where
  pub chained : AreChained 512 64 nexts prevs
  pub forward_once : AreOnceEach (forward_of nexts)
  pub back_once : AreOnceEach (back_of prevs)

-- the lists of one direction: 64 lists of nodes, in which each node stands at most once, and a task at most once in a list
pub record AreNodeLists (lists : List (List ℕ)) : Type 0 where
  pub count : length lists ≡ 64
  pub once : (node : ℕ) → total node lists ≤ 1
  pub once_each : AreOnceEach lists
  pub nodes : (o : ℕ) → o < 64 → (node : ℕ) → 0 < times node (list_at lists o) → node < 512
  pub few : (o : ℕ) → o < 64 → length (list_at lists o) ≤ 64

-- What holds of all lists of waiters.
pub record IsConsistent (lists : PendNodes) : Type 0 where
  pub forward : AreNodeLists lists.forward
  pub back : AreNodeLists lists.back
  pub forward_chains : forward_of lists.nexts ≡ lists.forward
  pub back_chains : back_of lists.prevs ≡ lists.back

-- the place is the node in front of the i-th entry of the list of o
pub record IsBefore (lists : List (List ℕ)) (place o i : ℕ) : Type 0 where
  pub object : o < 64
  pub entry : i ≤ length (list_at lists o)
  pub node : place ≡ node_before (512 + o) (list_at lists o) i

-- the place is a list's head or a node of a list
abbrev pub IsPlace : List (List ℕ) → ℕ → Type 0
IsPlace lists place = (o : ℕ) × (i : ℕ) × IsBefore lists place o i

-- the place is a list's head or a node of a list, and the node's task does not stand in that list
abbrev pub IsPlaceFor : ℕ → List (List ℕ) → ℕ → Type 0
IsPlaceFor node lists place = (o : ℕ) × (i : ℕ) × IsBefore lists place o i × IsAbsent node (list_at lists o)

-- one node was linked into the forward list alone
abbrev pub IsHalfLinked : PendNodes → ℕ → Type 0
IsHalfLinked lists node = (o : ℕ) × (i : ℕ) × (o < 64) × (lists.forward ≡ inserted lists.back o i node)

-- one node was taken out of the forward list alone
abbrev pub IsHalfUnlinked : PendNodes → ℕ → Type 0
IsHalfUnlinked lists node =
    (o : ℕ) × (o < 64) × (0 < times node (list_at lists.back o)) × (lists.forward ≡ left lists.back o node)

-- the priority number of a node's task, by these present priorities of the tasks
abbrev pub prio_by : List Prio → Prio → ℕ → ℕ
prio_by prios blank node = (slice_index_or prios (node / 8) blank).0

-- the place of a priority in a list of waiters: behind those at its front whose priority number is at most this
abbrev pub wait_place : (ℕ → ℕ) → ℕ → List ℕ → ℕ
wait_place prio p xs = length (take_while (λ y. nat_le (prio y) p) xs)

-- the list rises in priority number
abbrev pub Rises : (ℕ → ℕ) → List ℕ → Type 0
Rises prio xs = (i j : ℕ) → i ≤ j → j < length xs → prio (slice_index_or xs i 0) ≤ prio (slice_index_or xs j 0)
