-- How nodes stand for ready lists: node x is task x, and node 64 + p is the head of priority p.
use Rattle.std.specs.Prelude.{ℕ, Bool, List}
use Rattle.links.specs.Chain.{AreChained, forward_lists, back_lists}
use Rattle.ready_list.specs.Lists.{ReadyLists}

abbrev pub forward_of : List ℕ → List (List ℕ)
forward_of nexts = forward_lists 64 64 nexts

abbrev pub back_of : List ℕ → List (List ℕ)
back_of prevs = back_lists 64 64 prevs

-- the lists that nodes with these links stand for
abbrev pub lists_of : List ℕ → List ℕ → List Bool → ReadyLists
lists_of nexts prevs marked =
    record { forward = forward_of nexts; back = back_of prevs; marked = marked; nexts = nexts; prevs = prevs }

-- the nodes are linked as ready lists
abbrev pub AreReady : List ℕ → List ℕ → Type 0
AreReady nexts prevs = AreChained 64 64 nexts prevs
