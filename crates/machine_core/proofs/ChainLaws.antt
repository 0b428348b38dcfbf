-- What the chains of nodes are read as are the lists that a look tells, and their tasks have room in a line.
use Rattle.std.specs.Prelude.{All, length, take, drop, replicate, reverse, ◌-◌}
use Rattle.std.proofs.Common.{◌≡◌, ◌≢◌, ℕ, ◌<◌, ◌≤◌, List, [], ◌∷◌, refl, sym, ap, ◌∙◌, subst, inl, inr, arith}
use Rattle.std.proofs.Math.Nat.{not-suc-le-zero}
use Rattle.std.proofs.lemmas.Bool.Decides.{eqb_tells}
use Rattle.std.proofs.Math.Seq.{take-append_seam}
use Rattle.std.proofs.lemmas.List.{drop-replicate, length-reverse}
use Rattle.std.proofs.lemmas.List.Elements.{All-nil, All-cons, All-head, All-tail}
use Rattle.kern_model.specs.State.{count_of}
use Rattle.kern_model.specs.Micro.{Lists}
use Rattle.inject_list.specs.declared.lists.Seen.{Seen}
use Rattle.inject_list.specs.declared.lists.Seen.TheVariants.{Obj, Ready}
use Rattle.links.specs.Chain.{times, list_at}
use Rattle.links.proofs.Times.{times_here, times_other, times-le, times-le-total, times-reverse}
use Rattle.links.proofs.Chained.{length-le_once}
use Rattle.ready_list.specs.Lists.{AreTasks}
use Rattle.pend_lists.specs.Pending.{AreNodeLists, waiters}
use Rattle.pend_lists.proofs.Tasks.{times_waited}
use Rattle.micro_steps.specs.Halfway.{seen_lists, tasks_in}
use Rattle.micro_steps.proofs.Seen.{list_at-tasks, list_at-take}
use Rattle.machine_model.specs.Looks.{places, seen_in}
use Rattle.machine_model.specs.Text.{IsChain}
use Rattle.machine_core.specs.LookView.{AreWithoutHandler, IsList, IsShown, read_of}

pub shown-list : (objects : ℕ) (seen : Seen) → IsShown objects seen → IsList seen
shown-list objects (Obj o) h = h.1
shown-list objects (Ready p) h = h

-- what is read of the nodes is the list of the kernel
pub read-is : (objects : ℕ) (seen : Seen) (l : Lists) → IsShown objects seen → seen_in seen (seen_lists objects l) ≡ read_of seen l
read-is objects (Obj o) l h = list_at-take objects (tasks_in l.pend) o.0 h.0 ∙ list_at-tasks l.pend o.0
read-is objects (Ready p) l h = refl

-- A list of tasks below 64, none twice, and without the handler, is a chain that can be printed.

times-count : (x : ℕ) (xs : List ℕ) → times x xs ≡ count_of x xs
times-count x [] = refl
times-count x (y ∷ xs) = rw (times-count x xs) refl

all-below : (xs : List ℕ) → ((x : ℕ) → 0 < times x xs → x < 64) → All (λ x. x < 64) xs
all-below [] low = All-nil (λ x. x < 64)
all-below (y ∷ xs) low =
    let here = times_here y xs in
    All-cons (λ x. x < 64) y xs (low y (omega (arith, here))) (all-below xs (λ x some. let more = times-le x y xs in low x (omega (arith, some, more))))

not-handler : (xs : List ℕ) (x : ℕ) → times 63 xs ≡ 0 → 0 < times x xs → x ≢ 63
not-handler xs x none some e = let here : 0 < times 63 xs = subst (λ y. 0 < times y xs) e some in absurd (not-suc-le-zero {n = 0} (omega (arith, here, none)))

chain-of : (xs : List ℕ) → ((x : ℕ) → times x xs ≤ 1) → ((x : ℕ) → 0 < times x xs → x < 64) → times 63 xs ≡ 0 → IsChain xs
chain-of xs once low none =
    (length-le_once xs 63 once (λ x some. let below = low x some in let other = not-handler xs x none some in omega (arith, below, other)), all-below xs low)

ready-chain : (lists : List (List ℕ)) (p : ℕ) → AreTasks lists → p < 64 → count_of 63 (list_at lists p) ≡ 0 → IsChain (list_at lists p)
ready-chain lists p h inside none =
    let xs = list_at lists p in
    chain-of xs
    (λ x. let all = h.once x in let here = times-le-total x lists p (let count = h.count in omega (arith, count, inside)) in omega (arith, all, here))
    (h.tasks p inside)
    (times-count 63 xs ∙ none)

pend-chain : (lists : List (List ℕ)) (o : ℕ) → AreNodeLists lists → o < 64 → count_of 63 (waiters (list_at lists o)) ≡ 0 → IsChain (waiters (list_at lists o))
pend-chain lists o h inside none =
    let xs = list_at lists o in
    chain-of (waiters xs) (h.once_each o inside)
    (λ task some. let at = times_waited task xs some in let below = h.nodes o inside at.0 at.1 in let is = at.2 in omega (arith, below, is))
    (times-count 63 (waiters xs) ∙ none)

-- what is read of the nodes of one direction
pub read-chain : (objects : ℕ) (seen : Seen) (l : Lists) → IsShown objects seen → AreTasks l.ready → AreNodeLists l.pend → AreWithoutHandler (seen_lists objects l) → IsChain (read_of seen l)
read-chain objects (Obj o) l h tasks nodes none =
    let same : seen_in (Obj o) (seen_lists objects l) ≡ waiters (list_at l.pend o.0) = read-is objects (Obj o) l h in
    pend-chain l.pend o.0 nodes h.1 (ap (count_of 63) (sym same) ∙ none.pend o.0)
read-chain objects (Ready p) l h tasks nodes none = ready-chain l.ready p.0 tasks h (none.ready p.0)

-- from its end

below-all : (xs : List ℕ) → All (λ x. x < 64) xs → (x : ℕ) → 0 < times x xs → x < 64
below-all [] h x some = absurd (not-suc-le-zero {n = 0} some)
below-all (y ∷ xs) h x some =
    elim (eqb_tells y x) [
      | inl e ↦ subst (λ z. z < 64) e.1 (All-head (λ x. x < 64) y xs h)
      | inr e ↦ let other = times_other x y xs e.1 in below-all xs (All-tail (λ x. x < 64) y xs h) x (omega (arith, some, other))
    ]

pub chain-reverse : (xs : List ℕ) → IsChain xs → IsChain (reverse xs)
chain-reverse xs h =
    let long : length (reverse xs) ≡ length xs = length-reverse xs in
    let few = h.0 in
    (omega (arith, long, few), all-below (reverse xs) (λ x some. let turned = times-reverse x xs in below-all xs h.1 x (omega (arith, some, turned))))

-- The first of 64 places are the tasks of a chain, and the others are empty.

pub left-places : (n : ℕ) → drop {A = ℕ} n (replicate 64 0) ≡ replicate (64 - n) 0
left-places n = drop-replicate n 64 0

pub printed-chain : (xs shown : List ℕ) (n : ℕ) → shown ≡ places xs → n ≡ length xs → IsChain xs → IsChain (take n shown)
printed-chain xs shown n e is h = rw (e, is, take-append_seam xs (replicate (64 - length xs) 0)) h
