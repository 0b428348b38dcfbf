-- The next block of a whole step begins.
use Rattle.std.proofs.Common.{◌≡◌, ℕ, zero, suc, ◌/◌, List, [], ◌∷◌, ◌++◌, length, take, drop, map, refl, sym, ap, ◌∙◌, subst, Bool, true, false, arith}
use Rattle.std.specs.Prelude.{replicate, nat_le, if◌then◌else◌}
use Rattle.std.proofs.lemmas.List.Sums.{take_while-cons}
use Rattle.kern_base.specs.declared.numbers.Prio.{Prio}
use Rattle.kern_model.specs.Micro.{Micro, Plain, JoinForward, JoinBack, Pend, Halves, Lists, changed_all, whole, wait_place}
use Rattle.kern_model.proofs.Lemmas.{same_forward}
use Rattle.links.specs.Chain.{list_at}
use Rattle.pend_lists.proofs.Tasks.{one_node}
use Rattle.micro_steps.specs.declared.link.Link.{Link}
use Rattle.micro_steps.specs.declared.link.Link.TheVariants as link
use Rattle.micro_steps.specs.declared.link.Cursor.{Cursor}
use Rattle.micro_steps.specs.Blocks.{IsAt, rest, one_made, block_of, IsEven, prio_in, prio_by}
use Rattle.micro_steps.specs.Starts.{AreChains}
use Rattle.micro_steps.specs.Halfway.{on_tasks, tasks_in, seen_lists, fresh}
use Rattle.micro_steps.specs.Whole.{task_block, FitsLink, start_place}
use Rattle.micro_steps.proofs.Seen.{list_at-tasks, list_at-take}

pub longer : (b : Bool) (x y : ℕ) (xs ys : List ℕ) → length xs ≡ length ys → length (if b then x ∷ xs else []) ≡ length (if b then y ∷ ys else [])
longer true x y xs ys e = ap suc e
longer false x y xs ys e = refl

-- as many entries are passed by tasks as by nodes
pub place-tasks : (prio : ℕ → ℕ) (p : ℕ) (xs : List ℕ) → wait_place (λ n. prio (n / 8)) p xs ≡ wait_place prio p (map (λ n. n / 8) xs)
place-tasks prio p [] = refl
place-tasks prio p (x ∷ xs) =
    rw (take_while-cons (λ y. nat_le (prio (y / 8)) p) x xs, take_while-cons (λ y. nat_le (prio y) p) (x / 8) (map (λ n. n / 8) xs)) (longer (nat_le (prio (x / 8)) p) x (x / 8) _ _ (place-tasks prio p xs))

map-plain : (w : ℕ) (ms : List Micro) → map on_tasks (replicate w Plain ++ ms) ≡ replicate w Plain ++ map on_tasks ms
map-plain zero ms = refl
map-plain (suc w) ms = ap (λ ns. Plain ∷ ns) (map-plain w ms)

-- a block of nodes is the block of its tasks
pub block-tasks : (objects : ℕ) (prios : List Prio) (k : Link) (l : Lists) (m : Lists) → FitsLink objects k m → map on_tasks (block_of prios k l) ≡ task_block prios k (seen_lists objects l)
block-tasks objects prios (link.Unready x p) l m fit = refl
block-tasks objects prios (link.Ready x p tail) l m fit = refl
block-tasks objects prios (link.Leave n o) l m fit = refl
block-tasks objects prios link.Plain l m fit = refl
block-tasks objects prios (link.Wait n p o) l m fit =
    let w = wait_place (prio_by prios) p.0 (list_at l.pend o.0) in
    let same : w ≡ wait_place (prio_in prios) p.0 (list_at (take objects (tasks_in l.pend)) o.0) =
    place-tasks (prio_in prios) p.0 (list_at l.pend o.0) ∙ ap (λ xs. wait_place (prio_in prios) p.0 xs) (sym (list_at-take objects (tasks_in l.pend) o.0 fit.2 ∙ list_at-tasks l.pend o.0)) in
    map-plain w (JoinForward (Pend o.0) n w ∷ JoinBack (Pend o.0) n w ∷ [])
    ∙ ap (λ i. replicate i Plain ++ JoinForward (Pend o.0) (n / 8) i ∷ JoinBack (Pend o.0) (n / 8) i ∷ []) same

-- a block that fits is at its beginning
begins_at : (objects : ℕ) (prios : List Prio) (k : Link) (place : ℕ) (h : Halves) → IsEven h → AreChains h → FitsLink objects k h.back → place ≡ start_place k → IsAt prios (fresh k place) h
begins_at objects prios (link.Unready x p) place h even chains fit is = (record { task = fit.0; prio = fit.1; stands = fit.2; pend = even.pend }, refl, even.ready)
begins_at objects prios (link.Ready x p tail) place h even chains fit is = (record { task = fit.0; prio = fit.1; pend = even.pend }, refl, fit.2, even.ready)
begins_at objects prios (link.Wait n p o) place h even chains fit is =
    (record { node = fit.0; object = fit.1; nowhere = fit.3; absent = fit.4; few = chains.pend_back.few o.0 fit.1; ready = even.ready }, record { few = omega arith; reached = is }, even.pend)
begins_at objects prios (link.Leave n o) place h even chains fit is =
    (record { node = fit.0; object = fit.1; stands = fit.2; alone = λ m some e. one_node (list_at h.back.pend o.0) (chains.pend_back.once_each o.0 fit.1) m n some fit.2 e; ready = even.ready }, refl, even.pend)
begins_at objects prios link.Plain place h even chains fit is = (refl, even)

-- the first micro-step and the others
split : (ns : List Micro) (h : Halves) → changed_all ns h ≡ changed_all (drop 1 ns) (changed_all (take 1 ns) h)
split [] h = refl
split (m ∷ ns) h = refl

-- the lists after the block in hand stay the same with each of its micro-steps
pub lists_more : (prios : List Prio) (c d : Cursor) (h j : Halves) → j ≡ one_made prios c h → drop 1 (rest prios c h) ≡ rest prios d j → (changed_all (rest prios c h) h).forward ≡ (changed_all (rest prios d j) j).forward
lists_more prios c d h j made left =
    ap (λ (g : Halves). g.forward) (split (rest prios c h) h ∙ ap (λ ns. changed_all ns (one_made prios c h)) left ∙ ap (changed_all (rest prios d j)) (sym made))

pub lists_last : (prios : List Prio) (c : Cursor) (h j : Halves) → j ≡ one_made prios c h → drop 1 (rest prios c h) ≡ [] → (changed_all (rest prios c h) h).forward ≡ j.forward
lists_last prios c h j made left =
    ap (λ (g : Halves). g.forward) (split (rest prios c h) h ∙ ap (λ ns. changed_all ns (one_made prios c h)) left ∙ sym made)

-- both directions at once
pub even_lists : (h : Halves) → IsEven h → h.forward ≡ h.back
even_lists h even = ap (λ (r : List (List ℕ)). let l : Lists = record { ready = r; pend = h.forward.pend } in l) even.ready ∙ ap (λ (p : List (List ℕ)). let l : Lists = record { ready = h.back.ready; pend = p } in l) even.pend

-- the lists after the next block
pub lists_next : (prios : List Prio) (k : Link) (h : Halves) → IsEven h → (changed_all (block_of prios k h.forward) (whole h.forward)).forward ≡ (changed_all (rest prios (fresh k (start_place k)) h) h).forward
lists_next prios k h even =
    ap (λ l. (changed_all (block_of prios k l) (whole h.forward)).forward) (even_lists h even) ∙ sym (same_forward (block_of prios k h.back) h (whole h.forward) refl)

pub begins_next : (objects : ℕ) (prios : List Prio) (k : Link) (h : Halves) → IsEven h → AreChains h → FitsLink objects k h.forward → IsAt prios (fresh k (start_place k)) h
begins_next objects prios k h even chains fit = begins_at objects prios k (start_place k) h even chains (subst (FitsLink objects k) (even_lists h even) fit) refl
