-- A whole step in hand: the chains, the block that is made, and the blocks that are left.
use Rattle.std.specs.Prelude.{◌≡◌, ◌<◌, ℕ, ◌+◌, ◌/◌, List, [], ◌∷◌, length, take, drop, slice_set}
use Rattle.kern_base.specs.declared.numbers.Prio.{Prio}
use Rattle.kern_model.specs.Micro.{Micro, Block, Lists, Halves, in_order, changed_all, whole, after, unready, readied_at, wait, leave, plain}
use Rattle.links.specs.Chain.{times, total, list_at}
use Rattle.pend_lists.specs.Pending.{IsAbsent}
use Rattle.micro_steps.specs.declared.link.Link.{Link}
use Rattle.micro_steps.specs.declared.link.Link.TheVariants as link
use Rattle.micro_steps.specs.declared.link.Cursor.{Cursor}
use Rattle.micro_steps.specs.Blocks.{IsAt, rest, IsEven, block_of, place_at, prio_in}
use Rattle.micro_steps.specs.Halfway.{seen, to_go}

-- The lists of nodes, as they stand and as the step in hand found them; the block in hand; and the present priorities of all tasks.
pub record StepsRecord : Type 0 where
  pub halves : Halves
  pub start : Lists
  pub cursor : Cursor
  pub prios : List Prio

-- the block of a link on the kernel's lists of tasks
abbrev pub task_block : List Prio → Link → Block
task_block prios (link.Unready x p) = unready x.0 p.0
task_block prios (link.Ready x p tail) = readied_at (place_at tail) x.0 p.0
task_block prios (link.Wait n p o) = wait (prio_in prios) (n / 8) p.0 o.0
task_block prios (link.Leave n o) = leave (n / 8) o.0
task_block prios link.Plain = plain

-- the priorities from a link on: a task that waits has the priority at which it waits
abbrev pub prios_after : Link → List Prio → List Prio
prios_after (link.Wait n p o) prios = slice_set prios (n / 8) p
prios_after _ prios = prios

-- the blocks of links, each with the priorities that those before it leave
abbrev pub task_blocks : List Prio → List Link → List Block
task_blocks prios [] = []
task_blocks prios (k ∷ ks) = task_block (prios_after k prios) k ∷ task_blocks (prios_after k prios) ks

-- a link that fits these lists, where there are so many objects: who leaves a list stands in it, and who joins one stands in none
abbrev pub FitsLink : ℕ → Link → Lists → Type 0
FitsLink objects (link.Unready x p) l = (x.0 < 64) × (p.0 < 64) × (0 < times x.0 (list_at l.ready p.0))
FitsLink objects (link.Ready x p tail) l = (x.0 < 64) × (p.0 < 64) × (total x.0 l.ready ≡ 0)
FitsLink objects (link.Wait n p o) l = (n < 512) × (o.0 < 64) × (o.0 < objects) × (total n l.pend ≡ 0) × IsAbsent n (list_at l.pend o.0)
FitsLink objects (link.Leave n o) l = (n < 512) × (o.0 < 64) × (0 < times n (list_at l.pend o.0))
FitsLink objects link.Plain l = Unit {0}

-- links that fit, one after the other
abbrev pub AreFit : ℕ → List Prio → List Link → Lists → Type 0
AreFit objects prios [] l = Unit {0}
AreFit objects prios (k ∷ ks) l =
    FitsLink objects k l × AreFit objects (prios_after k prios) ks (after (block_of (prios_after k prios) k l) l)

-- the lists of nodes after these links
abbrev pub lists_after : List Prio → List Link → Lists → Lists
lists_after prios [] l = l
lists_after prios (k ∷ ks) l = lists_after (prios_after k prios) ks (after (block_of (prios_after k prios) k l) l)

-- the node at which a block begins: a wait walks from the head of its object's list
abbrev pub start_place : Link → ℕ
start_place (link.Wait n p o) = 512 + o.0
start_place _ = 0

-- the node of a link is one of a task's
abbrev pub HasNode : Link → Type 0
HasNode (link.Wait n p o) = n < 512
HasNode _ = Unit {0}

-- Of the micro-steps ms, which began on the kernel's lists l, the first i are made, and the lists in both directions and the set
-- of priorities are what these make of l. The others are those of the block in hand and of these links, which fit, and which end
-- with these lists of nodes.
pub record IsMidway (ms : List Micro) (l : Lists) (i : ℕ) (ks : List Link) (end : Lists) (s : StepsRecord) : Type 0 where
  pub at : IsAt s.prios s.cursor s.halves
  pub fits : AreFit (length l.pend) s.prios ks (changed_all (rest s.prios s.cursor s.halves) s.halves).forward
  pub ends : lists_after s.prios ks (changed_all (rest s.prios s.cursor s.halves) s.halves).forward ≡ end
  pub left : to_go (length l.pend) s.prios s.cursor (task_blocks s.prios ks) s.halves ≡ drop i ms
  pub chains : seen (length l.pend) s.halves ≡ changed_all (take i ms) (whole l)

-- The same where no block is in hand: both directions are the same.
pub record IsPaused (ms : List Micro) (l : Lists) (i : ℕ) (ks : List Link) (end : Lists) (s : StepsRecord) : Type 0 where
  pub even : IsEven s.halves
  pub fits : AreFit (length l.pend) s.prios ks s.halves.forward
  pub ends : lists_after s.prios ks s.halves.forward ≡ end
  pub left : in_order (task_blocks s.prios ks) (seen (length l.pend) s.halves).forward ≡ drop i ms
  pub chains : seen (length l.pend) s.halves ≡ changed_all (take i ms) (whole l)
