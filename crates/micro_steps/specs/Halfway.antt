-- How far a whole step is made, by what is left of it. The definition of the micro-steps speaks of tasks, the chains are of nodes.
use Rattle.std.specs.Prelude.{◌≡◌, ℕ, ◌/◌, List, ◌++◌, take, drop, map}
use Rattle.kern_base.specs.declared.numbers.Prio.{Prio}
use Rattle.kern_model.specs.Micro.{Chain, Ready, Pend, Micro, Plain, JoinForward, JoinBack, LeaveForward, LeaveBack, Mark, Block, Lists, Halves, in_order, changed_all, whole}
use Rattle.micro_steps.specs.declared.link.Link.{Link}
use Rattle.micro_steps.specs.declared.link.Stage.TheVariants as stage
use Rattle.micro_steps.specs.declared.link.Cursor.{Cursor}
use Rattle.micro_steps.specs.Blocks.{IsAt, rest, IsEven}

-- a node of a chain as its task: a task has eight nodes in pend lists, and one in ready lists
abbrev pub entry_of : Chain → ℕ → ℕ
entry_of (Ready p) x = x
entry_of (Pend o) n = n / 8

-- a micro-step of nodes as one of tasks
abbrev pub on_tasks : Micro → Micro
on_tasks Plain = Plain
on_tasks (JoinForward c x i) = JoinForward c (entry_of c x) i
on_tasks (JoinBack c x i) = JoinBack c (entry_of c x) i
on_tasks (LeaveForward c x) = LeaveForward c (entry_of c x)
on_tasks (LeaveBack c x) = LeaveBack c (entry_of c x)
on_tasks (Mark p) = Mark p

-- lists of nodes as lists of tasks
abbrev pub tasks_in : List (List ℕ) → List (List ℕ)
tasks_in lists = map (map (λ n. n / 8)) lists

-- lists of nodes as the kernel's lists of tasks, where there are so many objects
abbrev pub seen_lists : ℕ → Lists → Lists
seen_lists objects l = record { ready = l.ready; pend = take objects (tasks_in l.pend) }

-- the same in both directions
abbrev pub seen : ℕ → Halves → Halves
seen objects h = record { forward = seen_lists objects h.forward; back = seen_lists objects h.back; marked = h.marked }

-- what is left of the block in hand, on tasks
abbrev pub left_of : List Prio → Cursor → Halves → List Micro
left_of prios c h = map on_tasks (rest prios c h)

-- what is left of a whole step where these blocks come after the one in hand
abbrev pub to_go : ℕ → List Prio → Cursor → List Block → Halves → List Micro
to_go objects prios c bs h = left_of prios c h ++ in_order bs (changed_all (left_of prios c h) (seen objects h)).forward

-- The first i of these micro-steps from these lists are made, and the others are left: a block is in hand.
pub record IsHalfway (ms : List Micro) (l : Lists) (i objects : ℕ) (prios : List Prio) (c : Cursor) (bs : List Block) (h : Halves) : Type 0 where
  pub at : IsAt prios c h
  pub left : to_go objects prios c bs h ≡ drop i ms
  pub chains : seen objects h ≡ changed_all (take i ms) (whole l)

-- the same between two blocks
pub record IsBetween (ms : List Micro) (l : Lists) (i objects : ℕ) (bs : List Block) (h : Halves) : Type 0 where
  pub even : IsEven h
  pub left : in_order bs (seen objects h).forward ≡ drop i ms
  pub chains : seen objects h ≡ changed_all (take i ms) (whole l)

-- a block that begins, at this node
abbrev pub fresh : Link → ℕ → Cursor
fresh link place = record { link = link; stage = stage.Forward; passed = 0; place = place }
