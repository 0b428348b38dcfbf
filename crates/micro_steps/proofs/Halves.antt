-- One micro-step more of a whole step. Proved once, for every list of blocks.
use Rattle.std.proofs.Common.{◌≡◌, ℕ, zero, suc, ◌+◌, ◌<◌, ◌≤◌, List, [], ◌∷◌, ◌++◌, length, take, drop, map, refl, sym, ap, ◌∙◌, subst, arith, add-one}
use Rattle.std.proofs.Math.Nat.{not-suc-le-zero}
use Rattle.kern_base.specs.declared.numbers.Prio.{Prio}
use Rattle.kern_model.specs.Micro.{Micro, Block, Halves, Lists, changed, changed_all, whole, in_order, after}
use Rattle.kern_model.proofs.Lemmas.{same_forward}
use Rattle.micro_steps.specs.declared.link.Link.{Link}
use Rattle.micro_steps.specs.declared.link.Cursor.{Cursor}
use Rattle.micro_steps.specs.Blocks.{IsAt, rest, block_of, IsEven, one_made}
use Rattle.micro_steps.specs.Halfway.{on_tasks, seen, to_go, IsHalfway, IsBetween, fresh}
use Rattle.micro_steps.proofs.Seen.{sees_next, some_left}

-- the first i + 1 micro-steps are the first i and the next
next_of : (ms : List Micro) (i : ℕ) (m : Micro) (rest : List Micro) (h : Halves) → drop i ms ≡ m ∷ rest → (drop (suc i) ms ≡ rest) × (changed_all (take (suc i) ms) h ≡ changed m (changed_all (take i ms) h))
next_of [] zero m rest h e = absurd (not-suc-le-zero {n = 0} (let n = ap length e in omega (arith, n)))
next_of [] (suc i) m rest h e = absurd (not-suc-le-zero {n = 0} (let n = ap length e in omega (arith, n)))
next_of (n ∷ ms) zero m rest h e = (ap (drop 1) e, ap (λ ns. changed_all (take 1 ns) h) e)
next_of (n ∷ ms) (suc i) m rest h e = next_of ms i m rest (changed n h) e

-- what is left, where the next micro-step is known
first_left : (ns : List Micro) (bs : List Block) (h : Halves) (m : Micro) (rest : List Micro) → ns ≡ m ∷ rest → ns ++ in_order bs (changed_all ns h).forward ≡ m ∷ (rest ++ in_order bs (changed_all rest (changed m h)).forward)
first_left ns bs h m rest e = rw e refl

-- a list that is not empty
parts : (ns : List Micro) → 0 < length ns → (m : Micro) × (rest : List Micro) × (ns ≡ m ∷ rest)
parts [] h = absurd (not-suc-le-zero {n = 0} h)
parts (m ∷ rest) h = (m, rest, refl)

-- One micro-step of a block.
pub one_more : (ms : List Micro) (l : Lists) (i n : ℕ) (prios : List Prio) (c : Cursor) (bs : List Block) (h j : Halves) → IsHalfway ms l i n prios c bs h → j ≡ one_made prios c h → (map on_tasks (drop 1 (rest prios c h)) ++ in_order bs (changed_all (map on_tasks (drop 1 (rest prios c h))) (seen n j)).forward ≡ drop (i + 1) ms) × (seen n j ≡ changed_all (take (i + 1) ms) (whole l))
one_more ms l i n prios c bs h j at e =
    let ns = rest prios c h in
    let p = parts ns (some_left prios c.link c.stage c.passed c.place h at.at) in
    let sees : seen n j ≡ changed (on_tasks p.0) (seen n h) =
    ap (seen n) e ∙ subst (λ (ks : List Micro). seen n (changed_all (take 1 ks) h) ≡ changed_all (map on_tasks (take 1 ks)) (seen n h)) refl (sees_next n prios c.link c.stage c.passed c.place h at.at) ∙ ap (λ (ks : List Micro). changed_all (map on_tasks (take 1 ks)) (seen n h)) p.2 in
    let next = next_of ms i (on_tasks p.0) (map on_tasks p.1 ++ in_order bs (changed_all (map on_tasks p.1) (changed (on_tasks p.0) (seen n h))).forward) (whole l) (sym at.left ∙ first_left (map on_tasks ns) bs (seen n h) (on_tasks p.0) (map on_tasks p.1) (ap (map on_tasks) p.2)) in
    let now : drop 1 ns ≡ p.1 = ap (drop 1) p.2 in
    rw (add-one, now, sees) (sym next.0, ap (changed (on_tasks p.0)) at.chains ∙ sym next.1)

pub halfway-more : (ms : List Micro) (l : Lists) (i n : ℕ) (prios : List Prio) (c d : Cursor) (bs : List Block) (h j : Halves) → IsHalfway ms l i n prios c bs h → IsAt prios d j → j ≡ one_made prios c h → drop 1 (rest prios c h) ≡ rest prios d j → IsHalfway ms l (i + 1) n prios d bs j
halfway-more ms l i n prios c d bs h j at now e r =
    let step = one_more ms l i n prios c bs h j at e in
    record { at = now; left = rw r at step.0; chains = step.1 }

pub halfway-last : (ms : List Micro) (l : Lists) (i n : ℕ) (prios : List Prio) (c : Cursor) (bs : List Block) (h j : Halves) → IsHalfway ms l i n prios c bs h → IsEven j → j ≡ one_made prios c h → drop 1 (rest prios c h) ≡ [] → IsBetween ms l (i + 1) n bs j
halfway-last ms l i n prios c bs h j at even e r =
    let step = one_more ms l i n prios c bs h j at e in
    record { even = even; left = rw r at step.0; chains = step.1 }

-- The next block begins.
pub between-next : (ms : List Micro) (l : Lists) (i n : ℕ) (prios : List Prio) (k : Link) (place : ℕ) (b : Block) (bs : List Block) (h : Halves) → IsBetween ms l i n (b ∷ bs) h → IsAt prios (fresh k place) h → map on_tasks (block_of prios k h.back) ≡ b (seen n h).forward → IsHalfway ms l i n prios (fresh k place) bs h
between-next ms l i n prios k place b bs h at now same =
    let f = (seen n h).forward in
    let left : to_go n prios (fresh k place) bs h ≡ b f ++ in_order bs (after (b f) f) =
    ap (λ ns. ns ++ in_order bs (changed_all ns (seen n h)).forward) same ∙ ap (λ (g : Lists). b f ++ in_order bs g) (same_forward (b f) (seen n h) (whole f) refl) in
    record { at = now; left = left ∙ at.left; chains = at.chains }

few_left : (ms : List Micro) (i : ℕ) → drop i ms ≡ [] → length ms ≤ i
few_left [] i e = omega arith
few_left (m ∷ ms) zero e = absurd (not-suc-le-zero {n = 0} (let n = ap length e in omega (arith, n)))
few_left (m ∷ ms) (suc i) e = let r = few_left ms i e in omega (arith, r)

-- All blocks are made.
pub between-end : (ms : List Micro) (l : Lists) (i n : ℕ) (h : Halves) → IsBetween ms l i n [] h → (length ms ≤ i) × (seen n h ≡ changed_all (take i ms) (whole l))
between-end ms l i n h at = (few_left ms i (sym at.left), at.chains)
