-- How many micro-steps blocks and whole steps take.
use Rattle.kern_model.proofs.Common.{◌≡◌, ℕ, zero, suc, ◌+◌, ◌*◌, ◌≤◌, length, List, [], ◌∷◌, ◌++◌, refl, sym, ap, ◌∙◌, subst, Bool, arith, length-append, take, drop, if◌then◌else◌, insert, nat_le, take_while, replicate, Kernel, list_at, update_list, task_at, prio_of, is_zero, Block, Micro, Plain, Lists, Halves, after, in_order, leave, plain, JoinForward, JoinBack, Pend, wait, wait_place, unready, lists_of, Effect, leave_blocks, ready_blocks, wake_blocks, wakes_blocks, wait_blocks, block_blocks, wake_cost, wakes_cost, cost}
use Rattle.std.specs.List.{prefix_len}
use Rattle.std.proofs.lemmas.List.{length-take, take-append-drop}
use Rattle.kern_model.proofs.Halves.Blocks.{in_order-append, does_wait}

abbrev pub Takes : Block → ℕ → Type 0
Takes b n = (l : Lists) → length (b l) ≡ n

pub length-in_order-append : (bs cs : List Block) (l : Lists) → length (in_order (bs ++ cs) l) ≡ length (in_order bs l) + length (in_order cs (after (in_order bs l) l))
length-in_order-append bs cs l = ap (λ ms. length ms) (in_order-append bs cs l) ∙ length-append (in_order bs l) (in_order cs (after (in_order bs l) l))

pub takes_append : (bs cs : List Block) (n m : ℕ) → Takes (in_order bs) n → Takes (in_order cs) m → Takes (in_order (bs ++ cs)) (n + m)
takes_append bs cs n m h i l = omega (arith, length-in_order-append bs cs l, h l, i (after (in_order bs l) l))

pub takes_more : (b : Block) (bs : List Block) (n m : ℕ) → Takes b n → Takes (in_order bs) m → Takes (in_order (b ∷ bs)) (n + m)
takes_more b bs n m h i l = omega (arith, length-append (b l) (in_order bs (after (b l) l)), h l, i (after (b l) l))

pub takes_leaves : (x : ℕ) (os : List ℕ) → Takes (in_order (leave_blocks x os)) (2 * length os)
takes_leaves x [] l = refl
takes_leaves x (o ∷ os) l = omega (arith, takes_more (leave x o) (leave_blocks x os) 2 (2 * length os) (λ a. refl) (takes_leaves x os) l)

pub takes_ready : (n x p h : ℕ) → Takes (in_order (ready_blocks n x p h)) (if is_zero n then 3 else 0)
takes_ready zero x p h l = refl
takes_ready (suc n) x p h l = refl

pub takes_wake : (k : Kernel) (h x : ℕ) → Takes (in_order (wake_blocks k h x)) (wake_cost (task_at k x))
takes_wake k h x =
    let t = task_at k x in
    takes_append (leave_blocks x t.objects) (ready_blocks t.suspended x t.prio h) (2 * length t.objects) (if is_zero t.suspended then 3 else 0) (takes_leaves x t.objects) (takes_ready t.suspended x t.prio h)

pub takes_wakes : (k : Kernel) (h : ℕ) (xs : List ℕ) → Takes (in_order (wakes_blocks k h xs)) (wakes_cost k xs)
takes_wakes k h [] l = refl
takes_wakes k h (x ∷ xs) l =
    takes_append (wake_blocks k h x) (wakes_blocks k h xs) (wake_cost (task_at k x)) (wakes_cost k xs) (takes_wake k h x) (takes_wakes k h xs) l

-- a whole step takes two micro-steps more than its blocks
pub cost-blocks : (e : Effect) (k : Kernel) → cost e k ≡ 2 + length (in_order e.blocks (lists_of k))
unfolding cost
cost-blocks e k = omega (arith, length-in_order-append e.blocks (plain ∷ []) (lists_of k))

pub cost-woken : (e : Effect) (k : Kernel) (h : ℕ) (xs : List ℕ) → e.blocks ≡ wakes_blocks k h xs → cost e k ≡ 2 + wakes_cost k xs
cost-woken e k h xs same = omega (arith, cost-blocks e k, ap (λ bs. length (in_order bs (lists_of k))) same, takes_wakes k h xs (lists_of k))

pub cost-none : (e : Effect) (k : Kernel) → e.blocks ≡ [] → cost e k ≡ 2
cost-none e k same = omega (arith, cost-blocks e k, ap (λ bs. length (in_order bs (lists_of k))) same)

pub wakes_cost-le : (k : Kernel) (xs : List ℕ) (n : ℕ) → ((x : ℕ) → wake_cost (task_at k x) ≤ n) → wakes_cost k xs ≤ n * length xs
wakes_cost-le k [] n h = omega arith
wakes_cost-le k (x ∷ xs) n h = let more = wakes_cost-le k xs n h in let this = h x in grind arith

-- no list of these is longer
abbrev pub AtMost : ℕ → List (List ℕ) → Type 0
AtMost n lists = (o : ℕ) → length (list_at lists o) ≤ n

pub take_while-le : (f : ℕ → Bool) (xs : List ℕ) → length (take_while f xs) ≤ length xs
take_while-le f xs = omega (arith, length-take (prefix_len f xs) xs)

grown-at_most : (n : ℕ) (f : List ℕ → List ℕ) → ((xs : List ℕ) → length (f xs) ≡ length xs + 1) → (lists : List (List ℕ)) (o : ℕ) → AtMost n lists → AtMost (n + 1) (update_list lists o f)
grown-at_most n f grows [] o h q = omega arith
grown-at_most n f grows (xs ∷ lists) zero h zero = omega (arith, grows xs, h 0)
grown-at_most n f grows (xs ∷ lists) zero h (suc q) = omega (arith, h (suc q))
grown-at_most n f grows (xs ∷ lists) (suc o) h zero = omega (arith, h 0)
grown-at_most n f grows (xs ∷ lists) (suc o) h (suc q) = grown-at_most n f grows lists o (λ i. h (suc i)) q

pub length-inserted : (xs : List ℕ) (i x : ℕ) → length (insert xs i x) ≡ length xs + 1
length-inserted xs i x =
    omega (arith, length-append (take i xs) (x ∷ drop i xs), length-append (take i xs) (drop i xs), ap (λ l. length l) (take-append-drop i xs))

insert-at_most : (n : ℕ) (place : List ℕ → ℕ) (lists : List (List ℕ)) (o x : ℕ) → AtMost n lists → AtMost (n + 1) (update_list lists o (λ xs. insert xs (place xs) x))
insert-at_most n place lists o x h =
    grown-at_most n (λ xs. insert xs (place xs) x) (λ xs. length-inserted xs (place xs) x) lists o h

pub length-passed : (n : ℕ) (ms : List Micro) → length (replicate n Plain ++ ms) ≡ n + length ms
length-passed zero ms = omega arith
length-passed (suc n) ms = omega (arith, length-passed n ms)

more_waits : (n m i a b : ℕ) → i ≤ n → a ≡ i + 2 → b ≤ m * (n + 1 + m + 2) → a + b ≤ suc m * (n + suc m + 2)
more_waits n m i a b h e l = grind arith

-- how long the blocks of a wait are: each list is at most n long, and grows by one
pub waits-le : (prio : ℕ → ℕ) (x p n : ℕ) (os : List ℕ) (l : Lists) → AtMost n l.pend → length (in_order (wait_blocks prio x p os) l) ≤ length os * (n + length os + 2)
waits-le prio x p n [] l h = omega arith
waits-le prio x p n (o ∷ os) l h =
    let i = wait_place prio p (list_at l.pend o) in
    let next = after (wait prio x p o l) l in
    let there : next ≡ record { ready = l.ready; pend = update_list l.pend o (λ xs. insert xs (wait_place prio p xs) x) } = ap (λ (a : Halves). a.forward) (does_wait prio x p o l) in
    let most : AtMost (n + 1) next.pend = subst (λ (a : Lists). AtMost (n + 1) a.pend) (sym there) (insert-at_most n (wait_place prio p) l.pend o x h) in
    let rest = waits-le prio x p (n + 1) os next most in
    subst (λ m. m ≤ suc (length os) * (n + suc (length os) + 2)) (sym (length-append (wait prio x p o l) (in_order (wait_blocks prio x p os) next)))
    (more_waits n (length os) i (length (wait prio x p o l)) (length (in_order (wait_blocks prio x p os) next))
    (omega (arith, h o, take_while-le (λ y. nat_le (prio y) p) (list_at l.pend o)))
    (length-passed i (JoinForward (Pend o) x i ∷ JoinBack (Pend o) x i ∷ []))
    rest)

-- a block: the caller leaves its ready list, and joins the lists of its objects
pub block-le : (k : Kernel) (x n : ℕ) (os : List ℕ) (l : Lists) → AtMost n l.pend → length (in_order (block_blocks k x os) l) ≤ 2 + length os * (n + length os + 2)
block-le k x n os l h =
    let p = prio_of k x in
    let next = after (unready x p l) l in
    omega (arith, length-append (unready x p l) (in_order (wait_blocks (prio_of k) x p os) next), waits-le (prio_of k) x p n os next h)
