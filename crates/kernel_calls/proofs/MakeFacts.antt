-- One whole link: all its micro-steps, from lists that are the same in both directions to such lists.
use Rattle.std.proofs.Common.{Bool, ◌≡◌, ◌<◌, ℕ, zero, suc, ◌+◌, ◌/◌, List, [], ◌∷◌, length, take, drop, map, refl, sym, ap, ◌∙◌, subst, arith}
use Rattle.std.proofs.lemmas.List.{append-nil, length-append, length-map, length-take, length-drop}
use Rattle.kern_base.specs.declared.numbers.Prio.{Prio}
use Rattle.kern_model.specs.Micro.{Block, Halves, Lists, Micro, after, changed_all, in_order, is_filled, leave, plain, readied_at, unready, wait, whole}
use Rattle.kern_model.proofs.Lemmas.{Does, does_leave, does_plain, does_readied_at, does_unready, does_wait}
use Rattle.micro_steps.specs.declared.link.Link.{Link}
use Rattle.micro_steps.specs.declared.link.Link.TheVariants as link
use Rattle.micro_steps.specs.Blocks.{block_of, place_at, prio_in, rest}
use Rattle.micro_steps.specs.Halfway.{on_tasks, seen, seen_lists, tasks_in}
use Rattle.micro_steps.specs.Starts.{AreChains}
use Rattle.micro_steps.specs.Whole.{FitsLink, IsMidway, IsPaused, StepsRecord, prios_after, task_block, task_blocks}
use Rattle.micro_steps.proofs.Seen.{some_left}

-- a block leads to lists that are the same in both directions
whole_after : (b : Block) (f : Lists → Lists) → Does b f → (l : Lists) → changed_all (b l) (whole l) ≡ whole (after (b l) l)
whole_after b f d l = d l ∙ ap whole (sym (ap (λ (h : Halves). h.forward) (d l)))

link_whole : (prios : List Prio) (k : Link) (l : Lists) → changed_all (task_block prios k l) (whole l) ≡ whole (after (task_block prios k l) l)
link_whole prios (link.Unready x p) l = whole_after (unready x.0 p.0) _ (does_unready x.0 p.0) l
link_whole prios (link.Ready x p tail) l = whole_after (readied_at (place_at tail) x.0 p.0) _ (does_readied_at (place_at tail) x.0 p.0) l
link_whole prios (link.Wait n p o) l = whole_after (wait (prio_in prios) (n / 8) p.0 o.0) _ (does_wait (prio_in prios) (n / 8) p.0 o.0) l
link_whole prios (link.Leave n o) l = whole_after (leave (n / 8) o.0) _ (does_leave (n / 8) o.0) l
link_whole prios link.Plain l = whole_after plain _ does_plain l

-- the kernel's lists of tasks, all of them
abbrev pub all_seen : Lists → Lists
all_seen l = seen_lists (length l.pend) l

-- the micro-steps of one link, and the lists of nodes after it
abbrev pub steps_of : List Prio → Link → Lists → List Micro
steps_of prios k l = in_order (task_blocks prios (k ∷ [])) (all_seen l)

abbrev pub lists_made : List Prio → Link → Lists → Lists
lists_made prios k l = after (block_of (prios_after k prios) k l) l

-- of the micro-steps of this link some are made, from these priorities and lists on
pub record IsMaking (k : Link) (prios : List Prio) (l : Lists) (s : StepsRecord) : Type 0 where
  pub made : ℕ
  pub midway : IsMidway (steps_of prios k l) (all_seen l) made [] (lists_made prios k l) s
  pub prios_are : s.prios ≡ prios_after k prios

count-seen : (l : Lists) → length (all_seen l).pend ≡ length l.pend
count-seen l =
    let a = length-map l.pend (map (λ (n : ℕ). n / 8)) in
    let b = length-take (length l.pend) (tasks_in l.pend) in
    omega (arith, a, b)

-- before the first of them
pub making_paused : (k : Link) (s : StepsRecord) → s.halves ≡ whole s.halves.forward → AreChains s.halves → FitsLink 64 k s.halves.forward → IsPaused (steps_of s.prios k s.halves.forward) (all_seen s.halves.forward) 0 (k ∷ []) (lists_made s.prios k s.halves.forward) s
making_paused k s even chains fits =
    let f = s.halves.forward in
    let n = length (all_seen f).pend in
    let same : n ≡ length f.pend = count-seen f in
    let all : 64 ≡ n = sym (same ∙ chains.pend_forward.count) in
    record {
      even = record { ready = sym (ap (λ (h : Halves). h.back.ready) even); pend = sym (ap (λ (h : Halves). h.back.pend) even) };
      fits = (subst (λ m. FitsLink m k f) all fits, tt);
      ends = refl;
      left = ap (λ m. in_order (task_blocks s.prios (k ∷ [])) (seen_lists m f)) same;
      chains = ap (seen n) even ∙ ap (λ m. seen m (whole f)) same;
    }

-- how many of them are left
abbrev pub left_to_make : StepsRecord → ℕ
left_to_make s = length (rest s.prios s.cursor s.halves)

length-left : (ms : List Micro) (l : Lists) (i : ℕ) (end : Lists) (s : StepsRecord) → IsMidway ms l i [] end s → left_to_make s ≡ length (drop i ms)
length-left ms l i end s m =
    let r = rest s.prios s.cursor s.halves in
    let a = length-append (map on_tasks r) [] in
    let b = length-map r on_tasks in
    let c = ap (λ (ns : List Micro). length ns) m.left in
    omega (arith, a, b, c)

pub fewer_left : (ms : List Micro) (l : Lists) (i : ℕ) (end : Lists) (s t : StepsRecord) → IsMidway ms l i [] end s → IsMidway ms l (i + 1) [] end t → left_to_make t < left_to_make s
fewer_left ms l i end s t m n =
    let some = some_left s.prios s.cursor.link s.cursor.stage s.cursor.passed s.cursor.place s.halves m.at in
    let a = length-left ms l i end s m in
    let b = length-left ms l (i + 1) end t n in
    omega (arith, some, a, b, length-drop i ms, length-drop (i + 1) ms)

none_left : (ms : List Micro) (i : ℕ) → drop i ms ≡ [] → take i ms ≡ ms
none_left [] i e = take-none i
  where
    take-none : (j : ℕ) → take {A = Micro} j [] ≡ []
    take-none zero = refl
    take-none (suc j) = refl
none_left (m ∷ ms) zero e = cc
none_left (m ∷ ms) (suc i) e = ap (λ ns. m ∷ ns) (none_left ms i e)

-- after the last
pub all_made : (k : Link) (prios : List Prio) (l : Lists) (i : ℕ) (s : StepsRecord) → IsPaused (steps_of prios k l) (all_seen l) i [] (lists_made prios k l) s → s.halves ≡ whole (lists_made prios k l)
all_made k prios l i s p =
    let ms = steps_of prios k l in
    let b = task_block (prios_after k prios) k (all_seen l) in
    let seen_all : seen (length (all_seen l).pend) s.halves ≡ whole (after b (all_seen l)) =
    p.chains ∙ ap (λ ns. changed_all ns (whole (all_seen l))) (none_left ms i (sym p.left) ∙ append-nil b) ∙ link_whole (prios_after k prios) k (all_seen l) in
    let marks : s.halves.marked ≡ map is_filled s.halves.forward.ready =
    ap (λ (h : Halves). h.marked) seen_all ∙ sym (ap (λ (h : Halves). map is_filled h.forward.ready) seen_all) in
    let whole_now : s.halves ≡ whole s.halves.forward =
    ap (λ (r : List (List ℕ)). let h : Halves = record { forward = s.halves.forward; back = record { ready = r; pend = s.halves.back.pend }; marked = s.halves.marked } in h) (sym p.even.ready)
    ∙ ap (λ (q : List (List ℕ)). let h : Halves = record { forward = s.halves.forward; back = record { ready = s.halves.forward.ready; pend = q }; marked = s.halves.marked } in h) (sym p.even.pend)
    ∙ ap (λ (m : List Bool). let h : Halves = record { forward = s.halves.forward; back = s.halves.forward; marked = m } in h) marks in
    whole_now ∙ ap whole p.ends
