-- The chains of all lists, and the lists as a whole step found them.
use Rattle.std.specs.Prelude.{◌≡◌, ℕ, ◌+◌, ◌<◌, ◌≤◌, Bool, true, false, List, [], length, replicate, slice_index, slice_index_or}
use Rattle.kern_model.specs.Micro.{Lists, Halves}
use Rattle.links.specs.Chain.{times, forward_lists}
use Rattle.ready_list.specs.Lists.{ReadyLists, AreTasks}
use Rattle.pend_lists.specs.Pending.{PendNodes, AreNodeLists}

-- The successors of the nodes of ready lists and of pend lists as they were found, and the stale nodes, whose successors may be
-- others now. These are numbered through, the 128 nodes of ready lists first.
pub record StartRecord : Type 0 where
  pub ready : List ℕ
  pub pend : List ℕ
  pub stale : List ℕ

-- of 704 nodes the stale ones, each of which stands once and is marked
pub record AreStale (marks : List Bool) (stale : List ℕ) : Type 0 where
  pub once : (x : ℕ) → times x stale ≤ 1
  pub below : (x : ℕ) → 0 < times x stale → x < 704
  pub count : length marks ≡ 704
  pub marked : (x : ℕ) → x < 704 → slice_index_or marks x false ≡ true → 0 < times x stale
  pub unmarked : (x : ℕ) → x < 704 → slice_index_or marks x false ≡ false → times x stale ≡ 0

-- all nodes but the stale ones have the successors that were found
pub record IsFound (ready pend : List ℕ) (s : StartRecord) : Type 0 where
  pub ready_nodes : length ready ≡ 128
  pub pend_nodes : length pend ≡ 576
  pub ready_found : length s.ready ≡ 128
  pub pend_found : length s.pend ≡ 576
  pub same_ready : (x : ℕ) → x < 128 → times x s.stale ≡ 0 → slice_index s.ready x ≡ slice_index ready x
  pub same_pend : (x : ℕ) → x < 576 → times (128 + x) s.stale ≡ 0 → slice_index s.pend x ≡ slice_index pend x

-- The lists of nodes in both directions with the set of priorities, and the lists as the whole step in hand found them.
pub record ChainsRecord : Type 0 where
  pub halves : Halves
  pub start : Lists

-- the lists for which these successors stand
abbrev pub lists_found : StartRecord → Lists
lists_found s = record { ready = forward_lists 64 64 s.ready; pend = forward_lists 512 64 s.pend }

abbrev pub halves_of : ReadyLists → PendNodes → Halves
halves_of r p = record { forward = record { ready = r.forward; pend = p.forward }; back = record { ready = r.back; pend = p.back }; marked = r.marked }

-- no list has an entry
abbrev pub no_lists : Lists
no_lists = record { ready = replicate 64 []; pend = replicate 64 [] }

-- What holds of all chains, also in the middle of a block.
pub record AreChains (h : Halves) : Type 0 where
  pub ready_forward : AreTasks h.forward.ready
  pub ready_back : AreTasks h.back.ready
  pub pend_forward : AreNodeLists h.forward.pend
  pub pend_back : AreNodeLists h.back.pend
