-- What a micro-step of nodes does to the kernel's lists of tasks.
use Rattle.std.proofs.Common.{◌≡◌, ℕ, zero, suc, ◌+◌, ◌/◌, ◌<◌, List, [], ◌∷◌, length, take, drop, map, insert, refl, sym, ap, ◌∙◌, arith, inl, inr}
use Rattle.std.proofs.Math.Nat.{not-suc-le-zero}
use Rattle.std.specs.Prelude.{slice_set}
use Rattle.std.proofs.lemmas.List.{map-set}
use Rattle.std.proofs.lemmas.Bool.Decides.{leb_tells}
use Rattle.kern_base.specs.declared.numbers.Prio.{Prio}
use Rattle.kern_model.specs.Micro.{Micro, JoinForward, JoinBack, LeaveForward, LeaveBack, Pend, Halves, changed_all}
use Rattle.links.specs.Chain.{times, list_at, inserted, left, without}
use Rattle.pend_lists.proofs.Tasks.{map-inserted, map-without}
use Rattle.micro_steps.specs.declared.link.Link.{Link}
use Rattle.micro_steps.specs.declared.link.Link.TheVariants as link
use Rattle.micro_steps.specs.declared.link.Stage.{Stage}
use Rattle.micro_steps.specs.declared.link.Stage.TheVariants as stage
use Rattle.micro_steps.specs.Blocks.{IsAtStage, made, block_of, to_pass}
use Rattle.micro_steps.specs.Halfway.{on_tasks, tasks_in, seen}
use Rattle.micro_steps.proofs.Waits.{plain_next, plain_end, plain_after}

pub list_at-tasks : (lists : List (List ℕ)) (o : ℕ) → list_at (tasks_in lists) o ≡ map (λ n. n / 8) (list_at lists o)
list_at-tasks [] o = refl
list_at-tasks (xs ∷ lists) zero = refl
list_at-tasks (xs ∷ lists) (suc o) = list_at-tasks lists o

tasks-inserted : (lists : List (List ℕ)) (o i n : ℕ) → tasks_in (inserted lists o i n) ≡ inserted (tasks_in lists) o i (n / 8)
tasks-inserted lists o i n =
    map-set (map (λ m. m / 8)) lists o (insert (list_at lists o) i n)
    ∙ ap (λ xs. slice_set (tasks_in lists) o xs) (map-inserted (λ m. m / 8) (list_at lists o) i n ∙ ap (λ xs. insert xs i (n / 8)) (sym (list_at-tasks lists o)))

tasks-left : (lists : List (List ℕ)) (o n : ℕ) → ((m : ℕ) → 0 < times m (list_at lists o) → m / 8 ≡ n / 8 → m ≡ n) → tasks_in (left lists o n) ≡ left (tasks_in lists) o (n / 8)
tasks-left lists o n alone =
    map-set (map (λ m. m / 8)) lists o (without n (list_at lists o))
    ∙ ap (λ xs. slice_set (tasks_in lists) o xs) (map-without (λ m. m / 8) n (list_at lists o) alone ∙ ap (without (n / 8)) (sym (list_at-tasks lists o)))

-- of the first lists alone
pub take-update : (k : ℕ) (lists : List (List ℕ)) (o : ℕ) (f : List ℕ → List ℕ) → take k (slice_set lists o (f (list_at lists o))) ≡ slice_set (take k lists) o (f (list_at (take k lists) o))
take-update zero [] o f = refl
take-update (suc k) [] o f = refl
take-update zero (xs ∷ lists) zero f = refl
take-update zero (xs ∷ lists) (suc o) f = refl
take-update (suc k) (xs ∷ lists) zero f = refl
take-update (suc k) (xs ∷ lists) (suc o) f = ap (λ ys. xs ∷ ys) (take-update k lists o f)

pub list_at-take : (k : ℕ) (lists : List (List ℕ)) (o : ℕ) → o < k → list_at (take k lists) o ≡ list_at lists o
list_at-take zero lists o h = absurd (not-suc-le-zero {n = o} h)
list_at-take (suc k) [] o h = refl
list_at-take (suc k) (xs ∷ lists) zero h = refl
list_at-take (suc k) (xs ∷ lists) (suc o) h = list_at-take k lists o (omega (arith, h))

-- the halves with other pend lists in one direction
abbrev forward_pend : Halves → List (List ℕ) → Halves
forward_pend h ls = record { forward = record { ready = h.forward.ready; pend = ls }; back = h.back; marked = h.marked }

abbrev back_pend : Halves → List (List ℕ) → Halves
back_pend h ls = record { forward = h.forward; back = record { ready = h.back.ready; pend = ls }; marked = h.marked }

-- at what these micro-steps find, they do to the kernel's lists of tasks what they do to those of nodes
abbrev pub Sees : ℕ → List Micro → Halves → Type 0
Sees k ms h = seen k (changed_all ms h) ≡ changed_all (map on_tasks ms) (seen k h)

module _ (k : ℕ) where
  first-inserted : (lists : List (List ℕ)) (o i n : ℕ) → take k (tasks_in (inserted lists o i n)) ≡ inserted (take k (tasks_in lists)) o i (n / 8)
  first-inserted lists o i n = ap (take k) (tasks-inserted lists o i n) ∙ take-update k (tasks_in lists) o (λ xs. insert xs i (n / 8))

  first-left : (lists : List (List ℕ)) (o n : ℕ) → ((m : ℕ) → 0 < times m (list_at lists o) → m / 8 ≡ n / 8 → m ≡ n) → take k (tasks_in (left lists o n)) ≡ left (take k (tasks_in lists)) o (n / 8)
  first-left lists o n alone = ap (take k) (tasks-left lists o n alone) ∙ take-update k (tasks_in lists) o (without (n / 8))

  sees_join_forward : (o n i : ℕ) (h : Halves) → Sees k (JoinForward (Pend o) n i ∷ []) h
  sees_join_forward o n i h = ap (forward_pend (seen k h)) (first-inserted h.forward.pend o i n)

  sees_join_back : (o n i : ℕ) (h : Halves) → Sees k (JoinBack (Pend o) n i ∷ []) h
  sees_join_back o n i h = ap (back_pend (seen k h)) (first-inserted h.back.pend o i n)

  sees_leave_forward : (o n : ℕ) (h : Halves) → h.forward.pend ≡ h.back.pend → ((m : ℕ) → 0 < times m (list_at h.back.pend o) → m / 8 ≡ n / 8 → m ≡ n) → Sees k (LeaveForward (Pend o) n ∷ []) h
  sees_leave_forward o n h same alone = ap (forward_pend (seen k h)) (first-left h.forward.pend o n (rw same alone))

  sees_leave_back : (o n : ℕ) (h : Halves) → ((m : ℕ) → 0 < times m (list_at h.back.pend o) → m / 8 ≡ n / 8 → m ≡ n) → Sees k (LeaveBack (Pend o) n ∷ []) h
  sees_leave_back o n h alone = ap (back_pend (seen k h)) (first-left h.back.pend o n alone)

-- The next micro-step of the block in hand.
pub sees_next : (k : ℕ) (prios : List Prio) (l : Link) (s : Stage) (i place : ℕ) (h : Halves) → IsAtStage prios l s i place h → Sees k (take 1 (drop (i + made s) (block_of prios l h.back))) h
sees_next k prios (link.Unready x p) stage.Forward i place h at = rw at.1 refl
sees_next k prios (link.Unready x p) stage.Back i place h at = rw at.1 refl
sees_next k prios (link.Unready x p) stage.Mark i place h at = absurd at
sees_next k prios (link.Ready x p tail) stage.Forward i place h at = rw at.1 refl
sees_next k prios (link.Ready x p tail) stage.Back i place h at = rw at.1 refl
sees_next k prios (link.Ready x p tail) stage.Mark i place h at = rw at.1 refl
sees_next k prios (link.Leave n o) stage.Forward i place h at = rw at.1 (sees_leave_forward k o.0 n h at.2 at.0.alone)
sees_next k prios (link.Leave n o) stage.Back i place h at = rw at.1 (sees_leave_back k o.0 n h at.0.alone)
sees_next k prios (link.Leave n o) stage.Mark i place h at = absurd at
sees_next k prios (link.Wait n p o) stage.Forward i place h at =
    let w = to_pass prios p o.0 h in
    let zero_more : i + 0 ≡ i = omega arith in
    elim (leb_tells (i + 1) w) [
      | inl e ↦ rw (zero_more, plain_next w i (JoinForward (Pend o.0) n w ∷ JoinBack (Pend o.0) n w ∷ []) (omega (arith, e.1))) refl
      | inr e ↦
          let is : i ≡ w = omega (arith, e.1, at.1.few) in
          rw (zero_more, is, plain_end w (JoinForward (Pend o.0) n w ∷ JoinBack (Pend o.0) n w ∷ [])) (sees_join_forward k o.0 n w h)
    ]
sees_next k prios (link.Wait n p o) stage.Back i place h at =
    let w = to_pass prios p o.0 h in
    rw (at.1, plain_after w (JoinForward (Pend o.0) n w) (JoinBack (Pend o.0) n w ∷ [])) (sees_join_back k o.0 n w h)
sees_next k prios (link.Wait n p o) stage.Mark i place h at = absurd at
sees_next k prios link.Plain stage.Forward i place h at = rw at.0 refl
sees_next k prios link.Plain stage.Back i place h at = absurd at
sees_next k prios link.Plain stage.Mark i place h at = absurd at

-- There is one.
pub some_left : (prios : List Prio) (l : Link) (s : Stage) (i place : ℕ) (h : Halves) → IsAtStage prios l s i place h → 0 < length (drop (i + made s) (block_of prios l h.back))
some_left prios (link.Unready x p) stage.Forward i place h at = rw at.1 (omega arith)
some_left prios (link.Unready x p) stage.Back i place h at = rw at.1 (omega arith)
some_left prios (link.Unready x p) stage.Mark i place h at = absurd at
some_left prios (link.Ready x p tail) stage.Forward i place h at = rw at.1 (omega arith)
some_left prios (link.Ready x p tail) stage.Back i place h at = rw at.1 (omega arith)
some_left prios (link.Ready x p tail) stage.Mark i place h at = rw at.1 (omega arith)
some_left prios (link.Leave n o) stage.Forward i place h at = rw at.1 (omega arith)
some_left prios (link.Leave n o) stage.Back i place h at = rw at.1 (omega arith)
some_left prios (link.Leave n o) stage.Mark i place h at = absurd at
some_left prios (link.Wait n p o) stage.Forward i place h at =
    let w = to_pass prios p o.0 h in
    let zero_more : i + 0 ≡ i = omega arith in
    elim (leb_tells (i + 1) w) [
      | inl e ↦ rw (zero_more, plain_next w i (JoinForward (Pend o.0) n w ∷ JoinBack (Pend o.0) n w ∷ []) (omega (arith, e.1))) (omega arith)
      | inr e ↦
          let is : i ≡ w = omega (arith, e.1, at.1.few) in
          rw (zero_more, is, plain_end w (JoinForward (Pend o.0) n w ∷ JoinBack (Pend o.0) n w ∷ [])) (omega arith)
    ]
some_left prios (link.Wait n p o) stage.Back i place h at =
    let w = to_pass prios p o.0 h in
    rw (at.1, plain_after w (JoinForward (Pend o.0) n w) (JoinBack (Pend o.0) n w ∷ [])) (omega arith)
some_left prios (link.Wait n p o) stage.Mark i place h at = absurd at
some_left prios link.Plain stage.Forward i place h at = rw at.0 (omega arith)
some_left prios link.Plain stage.Back i place h at = absurd at
some_left prios link.Plain stage.Mark i place h at = absurd at
