-- The micro-steps of a whole step, and what the links are in the middle of one.
use Rattle.std.specs.Prelude.{ℕ, Bool, true, false, List, [], ◌∷◌, ◌++◌, map, length, if◌then◌else◌, ◌==◌, nat_le, take_while, insert, slice_set, replicate}
use Rattle.kern_model.specs.State.{Kernel, update_list, list_at, without}

-- A list of the kernel: the ready list of a priority, or the waiters of an object.
pub data Chain : Type 0 where
  Ready : ℕ → Chain
  Pend : ℕ → Chain

-- One micro-step. `Plain` changes no link; the others name the chain, the task, and for a join the place.
pub data Micro : Type 0 where
  Plain : Micro
  JoinForward : Chain → ℕ → ℕ → Micro
  JoinBack : Chain → ℕ → ℕ → Micro
  LeaveForward : Chain → ℕ → Micro
  LeaveBack : Chain → ℕ → Micro
  Mark : ℕ → Micro

-- The lists of one direction.
pub record Lists : Type 0 where
  pub ready : List (List ℕ)
  pub pend : List (List ℕ)

-- The lists of both directions, and for each priority whether it is in the set.
pub record Halves : Type 0 where
  pub forward : Lists
  pub back : Lists
  pub marked : List Bool

-- whether a list has an entry
abbrev pub is_filled : List ℕ → Bool
is_filled [] = false
is_filled (x ∷ xs) = true

-- the lists of the kernel
abbrev pub lists_of : Kernel → Lists
lists_of k = record { ready = k.ready; pend = k.pend }

-- both directions have the same lists
abbrev pub whole : Lists → Halves
whole l = record { forward = l; back = l; marked = map is_filled l.ready }

-- the lists with f of one list in its place
abbrev pub at_chain : Chain → (List ℕ → List ℕ) → Lists → Lists
at_chain (Ready p) f l = record { ready = update_list l.ready p f; pend = l.pend }
at_chain (Pend o) f l = record { ready = l.ready; pend = update_list l.pend o f }

-- a priority leaves the set where its list became empty
abbrev pub unmarked : Chain → Lists → List Bool → List Bool
unmarked (Ready p) l marked = if is_filled (list_at l.ready p) then marked else slice_set marked p false
unmarked (Pend o) l marked = marked

-- what a micro-step changes
abbrev pub changed : Micro → Halves → Halves
changed Plain h = h
changed (JoinForward c x i) h = record { forward = at_chain c (λ xs. insert xs i x) h.forward; back = h.back; marked = h.marked }
changed (JoinBack c x i) h = record { forward = h.forward; back = at_chain c (λ xs. insert xs i x) h.back; marked = h.marked }
changed (LeaveForward c x) h = record { forward = at_chain c (without x) h.forward; back = h.back; marked = h.marked }
changed (LeaveBack c x) h =
    let back = at_chain c (without x) h.back in
    record { forward = h.forward; back = back; marked = unmarked c back h.marked }
changed (Mark p) h = record { forward = h.forward; back = h.back; marked = slice_set h.marked p true }

-- what micro-steps change, in order
abbrev pub changed_all : List Micro → Halves → Halves
changed_all [] h = h
changed_all (m ∷ ms) h = changed_all ms (changed m h)

-- The blocks, each as its micro-steps on the lists before it.
abbrev pub Block : Type 0
Block = Lists → List Micro

-- the lists after micro-steps
abbrev pub after : List Micro → Lists → Lists
after ms l = (changed_all ms (whole l)).forward

-- blocks in order, each reckoned on the lists that the ones before it leave
abbrev pub in_order : List Block → Block
in_order [] l = []
in_order (b ∷ bs) l = let ms = b l in ms ++ in_order bs (after ms l)

-- the task leaves the ready list of this priority
abbrev pub unready : ℕ → ℕ → Block
unready x p l = LeaveForward (Ready p) x ∷ LeaveBack (Ready p) x ∷ []

-- the place of a task that joins a ready list: the tail where its priority is the compared one, else the head
abbrev pub join_place : ℕ → ℕ → List ℕ → ℕ
join_place p compared xs = if p == compared then length xs else 0

-- the place at the tail
abbrev pub at_tail : List ℕ → ℕ
at_tail xs = length xs

-- the place at the head
abbrev pub at_head : List ℕ → ℕ
at_head xs = 0

-- the task joins the ready list of this priority, at this place
abbrev pub readied_at : (List ℕ → ℕ) → ℕ → ℕ → Block
readied_at place x p l =
    let i = place (list_at l.ready p) in
    JoinForward (Ready p) x i ∷ JoinBack (Ready p) x i ∷ Mark p ∷ []

-- the task joins its ready list, where the compared priority says
abbrev pub readied : ℕ → ℕ → ℕ → Block
readied x p compared = readied_at (join_place p compared) x p

-- how many waiters stand before a new one of this priority
abbrev pub wait_place : (ℕ → ℕ) → ℕ → List ℕ → ℕ
wait_place prio p xs = length (take_while (λ y. nat_le (prio y) p) xs)

-- the task joins an object's waiters: an entry passed takes one micro-step
abbrev pub wait : (ℕ → ℕ) → ℕ → ℕ → ℕ → Block
wait prio x p o l =
    let i = wait_place prio p (list_at l.pend o) in
    replicate i Plain ++ JoinForward (Pend o) x i ∷ JoinBack (Pend o) x i ∷ []

-- the task leaves an object's waiters
abbrev pub leave : ℕ → ℕ → Block
leave x o l = LeaveForward (Pend o) x ∷ LeaveBack (Pend o) x ∷ []

-- nothing but a micro-step
abbrev pub plain : Block
plain l = Plain ∷ []

-- a whole step: begin, its blocks, end
abbrev pub whole_step : List Block → Block
whole_step bs = in_order (plain ∷ bs ++ plain ∷ [])
