-- A block of micro-steps as data, and how far it is made.
use Rattle.std.specs.Prelude.{◌≡◌, ◌<◌, ◌≤◌, ℕ, ◌+◌, ◌/◌, Bool, List, length, take, drop, if◌then◌else◌, slice_index_or}
use Rattle.kern_base.specs.declared.numbers.Prio.{Prio}
use Rattle.kern_model.specs.Micro.{Micro, Block, Halves, unready, readied_at, wait, leave, plain, wait_place, changed_all}
use Rattle.links.specs.Chain.{times, total, list_at, inserted, left, node_before}
use Rattle.pend_lists.specs.Pending.{IsAbsent}
use Rattle.micro_steps.specs.declared.link.Link.{Link}
use Rattle.micro_steps.specs.declared.link.Link.TheVariants as link
use Rattle.micro_steps.specs.declared.link.Stage.{Stage}
use Rattle.micro_steps.specs.declared.link.Stage.TheVariants as stage
use Rattle.micro_steps.specs.declared.link.Cursor.{Cursor}

-- what stands past the end of a table of priorities
abbrev pub no_prio : Prio
no_prio = record { 0 = 63 }

-- the present priority of a task, and of a node as its task
abbrev pub prio_in : List Prio → ℕ → ℕ
prio_in prios x = (slice_index_or prios x no_prio).0

abbrev pub prio_by : List Prio → ℕ → ℕ
prio_by prios n = prio_in prios (n / 8)

-- the place at the tail or at the head
abbrev pub place_at : Bool → List ℕ → ℕ
place_at tail xs = if tail then length xs else 0

-- the block of a link on lists of nodes, by these present priorities
abbrev pub block_of : List Prio → Link → Block
block_of prios (link.Unready x p) = unready x.0 p.0
block_of prios (link.Ready x p tail) = readied_at (place_at tail) x.0 p.0
block_of prios (link.Wait n p o) = wait (prio_by prios) n p.0 o.0
block_of prios (link.Leave n o) = leave n o.0
block_of prios link.Plain = plain

-- how many links of a block are made, by what its next micro-step makes
abbrev pub made : Stage → ℕ
made stage.Forward = 0
made stage.Back = 1
made stage.Mark = 2

-- what is left of the block in hand: the backward lists are the old ones until its second link
abbrev pub rest : List Prio → Cursor → Halves → List Micro
rest prios c h = drop (c.passed + made c.stage) (block_of prios c.link h.back)

-- the lists after one micro-step more
abbrev pub one_made : List Prio → Cursor → Halves → Halves
one_made prios c h = changed_all (take 1 (rest prios c h)) h

-- this is left after one micro-step more
abbrev pub IsNext : List Prio → Cursor → Halves → List Micro → Type 0
IsNext prios c h ms = drop 1 (rest prios c h) ≡ ms

-- both directions have the same lists
pub record IsEven (h : Halves) : Type 0 where
  pub ready : h.forward.ready ≡ h.back.ready
  pub pend : h.forward.pend ≡ h.back.pend

-- a task leaves a ready list
pub record LeavesReady (x p : ℕ) (h : Halves) : Type 0 where
  pub task : x < 64
  pub prio : p < 64
  pub stands : 0 < times x (list_at h.back.ready p)
  pub pend : h.forward.pend ≡ h.back.pend

-- a task joins a ready list
pub record JoinsReady (x p : ℕ) (h : Halves) : Type 0 where
  pub task : x < 64
  pub prio : p < 64
  pub pend : h.forward.pend ≡ h.back.pend

-- a node joins the waiters of an object
pub record JoinsPend (n o : ℕ) (h : Halves) : Type 0 where
  pub node : n < 512
  pub object : o < 64
  pub nowhere : total n h.back.pend ≡ 0
  pub absent : IsAbsent n (list_at h.back.pend o)
  pub few : length (list_at h.back.pend o) ≤ 64
  pub ready : h.forward.ready ≡ h.back.ready

-- a node leaves the waiters of an object; no other node of its task stands among them
pub record LeavesPend (n o : ℕ) (h : Halves) : Type 0 where
  pub node : n < 512
  pub object : o < 64
  pub stands : 0 < times n (list_at h.back.pend o)
  pub alone : (m : ℕ) → 0 < times m (list_at h.back.pend o) → m / 8 ≡ n / 8 → m ≡ n
  pub ready : h.forward.ready ≡ h.back.ready

-- how many waiters a new one of this priority passes
abbrev pub to_pass : List Prio → Prio → ℕ → Halves → ℕ
to_pass prios p o h = wait_place (prio_by prios) p.0 (list_at h.back.pend o)

-- where a wait has come to, of so many waiters to pass
pub record HasPassed (o passed place most : ℕ) (h : Halves) : Type 0 where
  pub few : passed ≤ most
  pub reached : place ≡ node_before (512 + o) (list_at h.back.pend o) passed

-- how far a block is made, by its link, what its next micro-step makes, and the waiters that were passed
abbrev pub IsAtStage : List Prio → Link → Stage → ℕ → ℕ → Halves → Type 0
IsAtStage prios (link.Unready x p) stage.Forward passed place h = LeavesReady x.0 p.0 h × (passed ≡ 0) × (h.forward.ready ≡ h.back.ready)
IsAtStage prios (link.Unready x p) stage.Back passed place h = LeavesReady x.0 p.0 h × (passed ≡ 0) × (h.forward.ready ≡ left h.back.ready p.0 x.0)
IsAtStage prios (link.Unready x p) stage.Mark passed place h = ⊥
IsAtStage prios (link.Ready x p tail) stage.Forward passed place h = JoinsReady x.0 p.0 h × (passed ≡ 0) × (total x.0 h.back.ready ≡ 0) × (h.forward.ready ≡ h.back.ready)
IsAtStage prios (link.Ready x p tail) stage.Back passed place h = JoinsReady x.0 p.0 h × (passed ≡ 0) × (total x.0 h.back.ready ≡ 0) × (h.forward.ready ≡ inserted h.back.ready p.0 (place_at tail (list_at h.back.ready p.0)) x.0)
IsAtStage prios (link.Ready x p tail) stage.Mark passed place h = JoinsReady x.0 p.0 h × (passed ≡ 0) × (h.forward.ready ≡ h.back.ready)
IsAtStage prios (link.Wait n p o) stage.Forward passed place h = JoinsPend n o.0 h × HasPassed o.0 passed place (to_pass prios p o.0 h) h × (h.forward.pend ≡ h.back.pend)
IsAtStage prios (link.Wait n p o) stage.Back passed place h = JoinsPend n o.0 h × (passed ≡ to_pass prios p o.0 h) × (h.forward.pend ≡ inserted h.back.pend o.0 passed n)
IsAtStage prios (link.Wait n p o) stage.Mark passed place h = ⊥
IsAtStage prios (link.Leave n o) stage.Forward passed place h = LeavesPend n o.0 h × (passed ≡ 0) × (h.forward.pend ≡ h.back.pend)
IsAtStage prios (link.Leave n o) stage.Back passed place h = LeavesPend n o.0 h × (passed ≡ 0) × (h.forward.pend ≡ left h.back.pend o.0 n)
IsAtStage prios (link.Leave n o) stage.Mark passed place h = ⊥
IsAtStage prios link.Plain stage.Forward passed place h = (passed ≡ 0) × IsEven h
IsAtStage prios link.Plain _ passed place h = ⊥

-- the block in hand is made so far
abbrev pub IsAt : List Prio → Cursor → Halves → Type 0
IsAt prios c h = IsAtStage prios c.link c.stage c.passed c.place h
