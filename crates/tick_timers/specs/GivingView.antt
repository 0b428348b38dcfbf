-- A chain of numbers: the nodes 0 to 63 are the numbers, and node 64 is the head.
use Rattle.std.specs.Prelude.{◌≡◌, ℕ, List}
use Rattle.links.specs.Chain.{AreChained, forward_lists, back_lists, list_at}

-- the numbers of the chain, in order
abbrev pub given_by : List ℕ → List ℕ
given_by nexts = list_at (forward_lists 64 1 nexts) 0

-- the nodes are linked as one chain, the same in both directions
pub record IsGiven (nexts prevs : List ℕ) : Type 0 where
  pub chained : AreChained 64 1 nexts prevs
  pub whole : forward_lists 64 1 nexts ≡ back_lists 64 1 prevs
