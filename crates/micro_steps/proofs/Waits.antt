-- The micro-steps of a wait.
use Rattle.std.proofs.Common.{◌≡◌, ℕ, zero, suc, ◌+◌, ◌<◌, ◌≤◌, List, [], ◌∷◌, ◌++◌, length, take, drop, get_or, refl, sym, ap, ◌∙◌, subst, inl, inr, arith, add-one}
use Rattle.std.proofs.Math.Nat.{not-suc-le-zero}
use Rattle.std.proofs.lemmas.Bool.Decides.{eqb_tells}
use Rattle.std.proofs.lemmas.List.{take-append-drop}
use Rattle.std.specs.Prelude.{replicate}
use Rattle.kern_base.specs.declared.numbers.Prio.{Prio}
use Rattle.kern_base.specs.declared.numbers.ObjId.{ObjId}
use Rattle.kern_model.specs.Micro.{Micro, Plain, JoinForward, JoinBack, Pend, Halves, changed_all, wait}
use Rattle.links.specs.Chain.{times, node_before, last_of, list_at, inserted}
use Rattle.links.proofs.Runs.{last_in}
use Rattle.links.proofs.Times.{times_other, times-append}
use Rattle.pend_lists.proofs.Places.{passes, stops, reached_next}
use Rattle.micro_steps.specs.declared.link.Link.TheVariants as link
use Rattle.micro_steps.specs.declared.link.Stage.{Stage}
use Rattle.micro_steps.specs.declared.link.Stage.TheVariants as stage
use Rattle.micro_steps.specs.Blocks.{prio_by, to_pass, JoinsPend, HasPassed, IsAtStage}

-- what is left after i micro-steps without a link
next_of : (w i : ℕ) (ms : List Micro) → i < w → drop i (replicate w Plain ++ ms) ≡ Plain ∷ drop (suc i) (replicate w Plain ++ ms)
next_of zero i ms h = absurd (not-suc-le-zero {n = i} (omega (arith, h)))
next_of (suc w) zero ms h = refl
next_of (suc w) (suc i) ms h = next_of w i ms (omega (arith, h))

pub plain_next : (w i : ℕ) (ms : List Micro) → i < w → drop i (replicate w Plain ++ ms) ≡ Plain ∷ drop (i + 1) (replicate w Plain ++ ms)
plain_next w i ms h = rw add-one (next_of w i ms h)

pub plain_end : (w : ℕ) (ms : List Micro) → drop w (replicate w Plain ++ ms) ≡ ms
plain_end zero ms = refl
plain_end (suc w) ms = plain_end w ms

after_of : (w : ℕ) (m : Micro) (ms : List Micro) → drop (suc w) (replicate w Plain ++ m ∷ ms) ≡ ms
after_of zero m ms = refl
after_of (suc w) m ms = after_of w m ms

pub plain_after : (w : ℕ) (m : Micro) (ms : List Micro) → drop (w + 1) (replicate w Plain ++ m ∷ ms) ≡ ms
plain_after w m ms = rw add-one (after_of w m ms)

-- a place in a list of waiters is a node
pub place_below : (xs : List ℕ) (o i : ℕ) → o < 64 → ((x : ℕ) → 0 < times x xs → x < 512) → node_before (512 + o) xs i < 576
place_below xs o i h nodes =
    let us = take i xs in let c = last_of (512 + o) us in
    let some = last_in (512 + o) us in
    elim (eqb_tells (512 + o) c) [
      | inl e ↦ omega (arith, e.1, h)
      | inr e ↦
          let mine = times_other c (512 + o) us e.1 in
          let parts : times c us + times c (drop i xs) ≡ times c xs = sym (times-append c us (drop i xs)) ∙ ap (times c) (take-append-drop i xs) in
          let low = nodes c (omega (arith, some, mine, parts)) in omega (arith, low)
    ]

-- the micro-steps of a wait, where so many entries are passed
abbrev pub steps_of : ℕ → ℕ → ℕ → List Micro
steps_of w n o = replicate w Plain ++ JoinForward (Pend o) n w ∷ JoinBack (Pend o) n w ∷ []

-- an entry is passed
pub walk_made : (w i n o : ℕ) (h : Halves) → i < w → h ≡ changed_all (take 1 (drop (i + 0) (steps_of w n o))) h
walk_made w i n o h few =
    let zero_more : i + 0 ≡ i = omega arith in
    rw (zero_more, plain_next w i (JoinForward (Pend o) n w ∷ JoinBack (Pend o) n w ∷ []) few) refl

pub walk_rest : (w i n o : ℕ) → i < w → drop 1 (drop (i + 0) (steps_of w n o)) ≡ drop (i + 1 + 0) (steps_of w n o)
walk_rest w i n o few =
    let zero_more : i + 0 ≡ i = omega arith in
    let one_more : i + 1 + 0 ≡ i + 1 = omega arith in
    rw (zero_more, one_more, plain_next w i (JoinForward (Pend o) n w ∷ JoinBack (Pend o) n w ∷ []) few) refl

-- all are passed, and the node is linked forward
pub join_made : (w n o : ℕ) (h : Halves) → changed_all (take 1 (drop (w + 0) (steps_of w n o))) h ≡ record { forward = record { ready = h.forward.ready; pend = inserted h.forward.pend o w n }; back = h.back; marked = h.marked }
join_made w n o h =
    let zero_more : w + 0 ≡ w = omega arith in
    rw (zero_more, plain_end w (JoinForward (Pend o) n w ∷ JoinBack (Pend o) n w ∷ [])) refl

pub join_rest : (w n o : ℕ) → drop 1 (drop (w + 0) (steps_of w n o)) ≡ drop (w + 1) (steps_of w n o)
join_rest w n o =
    let zero_more : w + 0 ≡ w = omega arith in
    rw (zero_more, plain_end w (JoinForward (Pend o) n w ∷ JoinBack (Pend o) n w ∷ []), plain_after w (JoinForward (Pend o) n w) (JoinBack (Pend o) n w ∷ [])) refl

-- and linked back
pub back_made : (w n o : ℕ) (h : Halves) → changed_all (take 1 (drop (w + 1) (steps_of w n o))) h ≡ record { forward = h.forward; back = record { ready = h.back.ready; pend = inserted h.back.pend o w n }; marked = h.marked }
back_made w n o h = rw (plain_after w (JoinForward (Pend o) n w) (JoinBack (Pend o) n w ∷ [])) refl

pub back_rest : (w n o : ℕ) → drop 1 (drop (w + 1) (steps_of w n o)) ≡ []
back_rest w n o = rw (plain_after w (JoinForward (Pend o) n w) (JoinBack (Pend o) n w ∷ [])) refl

-- where a wait has come to after an entry more
pub walked_on : (prios : List Prio) (p : Prio) (o i place next : ℕ) (h : Halves) → HasPassed o i place (to_pass prios p o h) h → i < length (list_at h.back.pend o) → next ≡ get_or (list_at h.back.pend o) i 0 → prio_by prios next ≤ p.0 → (i < to_pass prios p o h) × HasPassed o (i + 1) next (to_pass prios p o h) h
walked_on prios p o i place next h at inside is small =
    let xs = list_at h.back.pend o in
    let low : prio_by prios (get_or xs i 0) ≤ p.0 = subst (λ n. prio_by prios n ≤ p.0) is small in
    let few : i + 1 ≤ to_pass prios p o h = passes (prio_by prios) p.0 xs i at.few inside low in
    (omega (arith, few), record { few = few; reached = is ∙ sym (reached_next (512 + o) xs i inside) })

-- all are passed, and the node is linked forward
pub stopped_at : (prios : List Prio) (p : Prio) (o i place : ℕ) (h : Halves) → HasPassed o i place (to_pass prios p o h) h → (i < length (list_at h.back.pend o) → p.0 < prio_by prios (get_or (list_at h.back.pend o) i 0)) → i ≡ to_pass prios p o h
stopped_at prios p o i place h at next = stops (prio_by prios) p.0 (list_at h.back.pend o) i at.few next

pub joined_made : (w i n o : ℕ) (h : Halves) → i ≡ w → changed_all (take 1 (drop (i + 0) (steps_of w n o))) h ≡ record { forward = record { ready = h.forward.ready; pend = inserted h.forward.pend o i n }; back = h.back; marked = h.marked }
joined_made w i n o h e = rw e (join_made w n o h)

pub joined_rest : (w i n o : ℕ) → i ≡ w → drop 1 (drop (i + 0) (steps_of w n o)) ≡ drop (i + 1) (steps_of w n o)
joined_rest w i n o e = rw e (join_rest w n o)

pub joined_at : (prios : List Prio) (p : Prio) (n o i : ℕ) (h j : Halves) → JoinsPend n o h → h.forward.pend ≡ h.back.pend → i ≡ to_pass prios p o h → j ≡ record { forward = record { ready = h.forward.ready; pend = inserted h.forward.pend o i n }; back = h.back; marked = h.marked } → (JoinsPend n o j × (i ≡ to_pass prios p o j) × (j.forward.pend ≡ inserted j.back.pend o i n)) × (drop 1 (drop (i + 0) (wait (prio_by prios) n p.0 o h.back)) ≡ drop (i + 1) (wait (prio_by prios) n p.0 o j.back))
joined_at prios p n o i h j at same e made =
    rw made ((record { node = at.node; object = at.object; nowhere = at.nowhere; absent = at.absent; few = at.few; ready = at.ready }, e, ap (λ ls. inserted ls o i n) same), joined_rest (to_pass prios p o h) i n o e)

-- and linked back
pub backed_made : (w i n o : ℕ) (h : Halves) → i ≡ w → changed_all (take 1 (drop (i + 1) (steps_of w n o))) h ≡ record { forward = h.forward; back = record { ready = h.back.ready; pend = inserted h.back.pend o i n }; marked = h.marked }
backed_made w i n o h e = rw e (back_made w n o h)

pub backed_rest : (w i n o : ℕ) → i ≡ w → drop 1 (drop (i + 1) (steps_of w n o)) ≡ []
backed_rest w i n o e = rw e (back_rest w n o)

-- a wait that is not at its first link is at its second
pub is_back : (prios : List Prio) (n : ℕ) (p : Prio) (o : ObjId) (s : Stage) (passed place : ℕ) (h : Halves) → (s ≡ stage.Forward → ⊥) → IsAtStage prios (link.Wait n p o) s passed place h → s ≡ stage.Back
is_back prios n p o stage.Forward passed place h not_it at = absurd (not_it refl)
is_back prios n p o stage.Back passed place h not_it at = refl
is_back prios n p o stage.Mark passed place h not_it at = absurd at
