-- A tree of minima in a list: the leaves are its second half, and node i stands above the nodes 2 i and 2 i + 1.
use Rattle.std.specs.Prelude.{ℕ, ◌≡◌, ◌+◌, ◌*◌, ◌<◌, ◌≤◌, List, drop, length, min, slice_index}
use Rattle.isr_nesting.specs.declared.minima.Minima.TheInside.{Inside}

-- the leaves
abbrev pub leaves : Inside → List ℕ
leaves a = drop a.count a.nodes.items

-- a node is the least of the two below it
abbrev pub IsNode : List ℕ → ℕ → Type 0
IsNode nodes i = slice_index nodes i ≡ min (slice_index nodes (2 * i)) (slice_index nodes (2 * i + 1))

-- what is always true of the fields
pub record IsTree (a : Inside) : Type 0 where
  pub size : length a.nodes.items ≡ 2 * a.count
  pub nodes : (i : ℕ) → 1 ≤ i → i < a.count → IsNode a.nodes.items i
