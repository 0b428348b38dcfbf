-- To renew priorities keeps the kernel linked, and takes at most 30,744 micro-steps.
use Rattle.kern_model.proofs.Common.{◌≡◌, ◌⊎◌, ℕ, zero, suc, ◌<◌, ◌≤◌, ◌+◌, ◌*◌, List, [], ◌∷◌, ◌++◌, length, refl, sym, ap, ◌∙◌, subst, Bool, true, false, ◌&&◌, ◌||◌, not, arith, inl, inr, length-append, All, ◌==◌, if◌then◌else◌, insert, min, nat_le, Kernel, list_at, update_list, task_at, prio_of, count_of, without, is_ready, is_zero, waits_for_nothing, Lists, Halves, after, in_order, lists_of, wait, wait_place, JoinForward, JoinBack, Pend, Effect, reaches, reaches_by, waits_on, numbers, least_of, inherited, with_prio, moved, moved_all, moves_of, renewed_tasks, renewing, rewait_blocks, ready_move_blocks, move_blocks, moves_blocks, renew_blocks, IsLinked, IsAboveIdle, one_if}
use Rattle.std.proofs.lemmas.List.{length-set}
use Rattle.std.proofs.lemmas.List.Elements.{All-head, All-tail}
use Rattle.std.proofs.lemmas.Bool.{true≢false}
use Rattle.std.proofs.lemmas.Bool.Decides.{eqb_tells}
use Rattle.kern_model.proofs.Basics.Updates.{update_task_same}
use Rattle.kern_model.proofs.Lists.Counts.{length-without}
use Rattle.kern_model.proofs.Lists.Members.{list-same, list-inside, list-other}
use Rattle.kern_model.proofs.Halves.Blocks.{does_wait}
use Rattle.kern_model.proofs.Halves.Effects.{does_move}
use Rattle.kern_model.proofs.Linked.Wakes.{alive-declared, self_equal, ready_free, waits-count}
use Rattle.kern_model.proofs.Linked.Contents.{length-pend}
use Rattle.kern_model.proofs.Linked.Moves.{linked-moved, again, length-again, count-again_own}
use Rattle.kern_model.proofs.Cost.Blocks.{AtMost, length-inserted, length-in_order-append, take_while-le, length-passed}

-- a number stands among these
pub numbers-has : (a n x : ℕ) → a ≤ x → x < a + n → 0 < count_of x (numbers a n)
numbers-has a zero x h l = absurd (omega arith)
numbers-has a (suc n) x h l =
    elim (eqb_tells a x) [
      | inl e ↦ omega (arith, ap one_if e.0)
      | inr e ↦ omega (arith, numbers-has (a + 1) n x (omega (arith, e.1)) (omega arith))
    ]

-- what is least is at least 1, and at most the task's own base priority
choose_from : (b : Bool) (n : ℕ) → 1 ≤ n → 1 ≤ (if b then n else 63)
choose_from true n h = h
choose_from false n h = omega arith

least-from : (k : Kernel) → IsLinked k → (x : ℕ) (us : List ℕ) → 1 ≤ least_of x us k
least-from k v x [] = omega arith
least-from k v x (u ∷ us) = omega (arith, choose_from (reaches k u x) (task_at k u).base (v.tasks.each_task u).base_from, least-from k v x us)

reaches-self : (k : Kernel) (x : ℕ) → reaches k x x ≡ true
reaches-self k x = ap (λ b. b || reaches_by 63 k x (waits_on k x)) (self_equal x)

least-own : (k : Kernel) (x : ℕ) (us : List ℕ) → 0 < count_of x us → least_of x us k ≤ (task_at k x).base
least-own k x [] h = absurd (omega arith)
least-own k x (u ∷ us) h =
    elim (eqb_tells u x) [
      | inl e ↦ subst (λ z. min (if reaches k z x then (task_at k z).base else 63) (least_of x us k) ≤ (task_at k x).base) (sym e.1)
          (omega (arith, ap (λ b. if b then (task_at k x).base else 63) (reaches-self k x)))
      | inr e ↦ omega (arith, least-own k x us (omega (arith, h, ap one_if e.0)))
    ]

pub inherited-from : (k : Kernel) → IsLinked k → (x : ℕ) → 1 ≤ inherited k x
inherited-from k v x = least-from k v x (numbers 0 64)

pub inherited-own : (k : Kernel) (x : ℕ) → x < 64 → inherited k x ≤ (task_at k x).base
inherited-own k x h = least-own k x (numbers 0 64) (numbers-has 0 64 x (omega arith) (omega (arith, h)))

-- each of these is a living application task, or the timer task, that goes to a priority of 1 to 62
abbrev pub AllMovable : Kernel → List (ℕ × ℕ) → Type 0
AllMovable k [] = Unit {0}
AllMovable k (m ∷ ms) = ((m.0 < 60) ⊎ (m.0 ≡ 61)) × ((task_at k m.0).alive ≡ true) × (1 ≤ m.1) × (m.1 ≤ 62) × AllMovable k ms

pub movable-moved : (place : List ℕ → ℕ) (x p : ℕ) (k : Kernel) (ms : List (ℕ × ℕ)) → AllMovable k ms → AllMovable (moved place x p k) ms
movable-moved place x p k [] h = tt
movable-moved place x p k (m ∷ ms) h =
    (h.0, update_task_same (λ t. t.alive) (with_prio p) (λ t. refl) k.tasks x m.0 ∙ h.1, h.2, h.3, movable-moved place x p k ms h.4)

pub linked-moved_all : (place : List ℕ → ℕ) (ms : List (ℕ × ℕ)) (k : Kernel) → IsLinked k → AllMovable k ms → IsLinked (moved_all place ms k)
linked-moved_all place [] k v h = v
linked-moved_all place (m ∷ ms) k v h =
    linked-moved_all place ms (moved place m.0 m.1 k) (linked-moved k v m.0 h.0 h.1 place m.1 h.2 h.3) (movable-moved place m.0 m.1 k ms h.4)

abbrev Renewable : List ℕ → Type 0
Renewable [] = Unit {0}
Renewable (x ∷ xs) = ((x < 60) ⊎ (x ≡ 61)) × Renewable xs

renewable-numbers : (a n : ℕ) → a + n ≤ 60 → Renewable (numbers a n ++ 61 ∷ [])
renewable-numbers a zero h = (inr refl, tt)
renewable-numbers a (suc n) h = (inl (omega arith), renewable-numbers (a + 1) n (omega arith))

first_true : (a b : Bool) → a && b ≡ true → a ≡ true
first_true true b h = refl
first_true false b h = h

-- a living application task or the timer task is above the idle task
pub above-living : (k : Kernel) → IsLinked k → (x : ℕ) → (x < 60) ⊎ (x ≡ 61) → (task_at k x).alive ≡ true → IsAboveIdle k.settings.tasks x
above-living k v x (inl l) a = inl (alive-declared k v x l a)
above-living k v x (inr e) a = inr (inr e)

moves-movable : (k : Kernel) → IsLinked k → (xs : List ℕ) → Renewable xs → AllMovable k (moves_of xs k)
moves-movable k v [] h = tt
moves-movable k v (x ∷ xs) h = by_case ((task_at k x).alive && not (inherited k x == prio_of k x)) refl (moves-movable k v xs h.1)
  where
    under : ((x < 60) ⊎ (x ≡ 61)) → x < 62
    under (inl l) = omega arith
    under (inr e) = omega (arith, e)

    by_case : (b : Bool) → (task_at k x).alive && not (inherited k x == prio_of k x) ≡ b → AllMovable k (moves_of xs k) → AllMovable k (if b then (x, inherited k x) ∷ moves_of xs k else moves_of xs k)
    by_case false e rest = rest
    by_case true e rest =
        let a = first_true (task_at k x).alive (not (inherited k x == prio_of k x)) e in
        let l = under h.0 in
        let base : (task_at k x).base ≤ 62 = v.tasks.bases x (above-living k v x h.0 a) in
        (h.0, a, inherited-from k v x, omega (arith, inherited-own k x (omega (arith, l)), base), rest)

pub movable-renewed : (k : Kernel) → IsLinked k → AllMovable k (moves_of renewed_tasks k)
movable-renewed k v = moves-movable k v renewed_tasks (renewable-numbers 0 60 (omega arith))

pub linked-renewing : (place : List ℕ → ℕ) (e : Effect) → IsLinked e.kernel → IsLinked (renewing place e).kernel
linked-renewing place e v = linked-moved_all place (moves_of renewed_tasks e.kernel) e.kernel v (movable-renewed e.kernel v)

-- costs

-- a list that x leaves and joins again is as long as it was
at_most-again : (prio : ℕ → ℕ) (x p n o : ℕ) (lists : List (List ℕ)) → o < length lists → count_of x (list_at lists o) ≡ 1 → AtMost n lists → AtMost n (again prio x p o lists)
at_most-again prio x p n o lists inside one h q =
    let left = update_list lists o (without x) in
    let f : List ℕ → List ℕ = λ xs. insert xs (wait_place prio p xs) x in
    let in_left : o < length left = subst (λ m. o < m) (sym (length-set lists o (without x (list_at lists o)))) inside in
    let here : length (list_at (again prio x p o lists) o) ≡ length (without x (list_at lists o)) + 1 =
    ap (λ l. length l) (list-inside f left o in_left) ∙ length-inserted (list_at left o) (wait_place prio p (list_at left o)) x ∙ ap (λ l. length l + 1) (list-same (without x) refl lists o) in
    elim (eqb_tells o q) [
      | inl e ↦ subst (λ z. length (list_at (again prio x p o lists) z) ≤ n) e.1 (omega (arith, here, length-without x (list_at lists o), one, h o))
      | inr e ↦ subst (λ l. length l ≤ n) (sym (list-other f left o q e.1 ∙ list-other (without x) lists o q e.1)) (h q)
    ]

more_rewaits : (n m i a b : ℕ) → i ≤ n → a ≡ i + 2 → b ≤ m * (n + 4) → suc (suc (a + b)) ≤ suc m * (n + 4)
more_rewaits n m i a b h e l = grind arith

-- how long the blocks are by which x leaves and joins these lists
rewaits-le : (prio : ℕ → ℕ) (x p n : ℕ) (os : List ℕ) (l : Lists) → AtMost (n + 1) l.pend → All (λ o. o < length l.pend) os → ((o : ℕ) → 0 < count_of o os → count_of x (list_at l.pend o) ≡ 1) → length (in_order (rewait_blocks prio x p os) l) ≤ length os * (n + 4)
rewaits-le prio x p n [] l h i one = omega arith
rewaits-le prio x p n (o ∷ os) l h i one =
    let left : Lists = record { ready = l.ready; pend = update_list l.pend o (without x) } in
    let next = after (wait prio x p o left) left in
    let again_l : Lists = record { ready = l.ready; pend = again prio x p o l.pend } in
    let there : next ≡ again_l = ap (λ (a : Halves). a.forward) (does_wait prio x p o left) in
    let here = All-head (λ z. z < length l.pend) o os i in
    let first : count_of x (list_at l.pend o) ≡ 1 = one o (omega (arith, ap one_if (self_equal o))) in
    let rest : length (in_order (rewait_blocks prio x p os) again_l) ≤ length os * (n + 4) =
    rewaits-le prio x p n os again_l (at_most-again prio x p (n + 1) o l.pend here first h)
    (subst (λ m. All (λ z. z < m) os) (sym (length-again prio x p o l.pend)) (All-tail (λ z. z < length l.pend) o os i))
    (λ z m. count-again_own prio x p o z l.pend here first ∙ one z (omega arith)) in
    let rest_next : length (in_order (rewait_blocks prio x p os) next) ≤ length os * (n + 4) = subst (λ (a : Lists). length (in_order (rewait_blocks prio x p os) a) ≤ length os * (n + 4)) (sym there) rest in
    let place = wait_place prio p (list_at left.pend o) in
    let shorter : length (list_at left.pend o) + 1 ≤ n + 1 = omega (arith, ap (λ xs. length xs) (list-same (without x) refl l.pend o), length-without x (list_at l.pend o), first, h o) in
    subst (λ m. suc (suc m) ≤ suc (length os) * (n + 4)) (sym (length-append (wait prio x p o left) (in_order (rewait_blocks prio x p os) next)))
    (more_rewaits n (length os) place (length (wait prio x p o left)) (length (in_order (rewait_blocks prio x p os) next))
    (omega (arith, shorter, take_while-le (λ y. nat_le (prio y) p) (list_at left.pend o)))
    (length-passed place (JoinForward (Pend o) x place ∷ JoinBack (Pend o) x place ∷ []))
    rest_next)

eight_lists : (n : ℕ) → n ≤ 8 → n * (59 + 4) ≤ 504
eight_lists n h = omega (arith, h)

move_by-le : (place : List ℕ → ℕ) (x p : ℕ) (k : Kernel) → IsLinked k → (b c : Bool) → is_ready (task_at k x) ≡ b → waits_for_nothing (task_at k x).waiting ≡ c → length (in_order (ready_move_blocks b place x (prio_of k x) p ++ rewait_blocks (prio_of k) x p (if c then [] else (task_at k x).objects)) (lists_of k)) ≤ 504
move_by-le place x p k v true true e w = omega arith
move_by-le place x p k v true false e w =
    absurd (true≢false (sym (ready_free (task_at k x).alive (waits_for_nothing (task_at k x).waiting) (is_zero (task_at k x).suspended) e) ∙ w))
move_by-le place x p k v false true e w = omega arith
move_by-le place x p k v false false e w =
    let os = (task_at k x).objects in
    let most : AtMost (59 + 1) k.pend = length-pend k v in
    omega (arith, rewaits-le (prio_of k) x p 59 os (lists_of k) most (subst (λ n. All (λ o. o < n) os) (sym v.sizes.pend) (v.tasks.each_task x).objects) (once w), eight_lists (length os) (v.tasks.each_task x).few)
  where
    once : waits_for_nothing (task_at k x).waiting ≡ false → (o : ℕ) → 0 < count_of o (task_at k x).objects → count_of x (list_at k.pend o) ≡ 1
    once w o l = omega (arith, waits-count k v x w o, (v.tasks.each_task x).different o)

move-le : (place : List ℕ → ℕ) (x p : ℕ) (k : Kernel) → IsLinked k → length (in_order (move_blocks place x p k) (lists_of k)) ≤ 504
move-le place x p k v = move_by-le place x p k v (is_ready (task_at k x)) (waits_for_nothing (task_at k x).waiting) refl refl

moves-le : (place : List ℕ → ℕ) (ms : List (ℕ × ℕ)) (k : Kernel) → IsLinked k → AllMovable k ms → length (in_order (moves_blocks place ms k) (lists_of k)) ≤ 504 * length ms
moves-le place [] k v h = omega arith
moves-le place (m ∷ ms) k v h =
    let j = moved place m.0 m.1 k in
    let bs = move_blocks place m.0 m.1 k in
    let there : after (in_order bs (lists_of k)) (lists_of k) ≡ lists_of j = ap (λ (a : Halves). a.forward) (does_move place m.0 m.1 k) in
    let rest = moves-le place ms j (linked-moved k v m.0 h.0 h.1 place m.1 h.2 h.3) (movable-moved place m.0 m.1 k ms h.4) in
    let rest_next : length (in_order (moves_blocks place ms j) (after (in_order bs (lists_of k)) (lists_of k))) ≤ 504 * length ms = subst (λ (a : Lists). length (in_order (moves_blocks place ms j) a) ≤ 504 * length ms) (sym there) rest in
    omega (arith, length-in_order-append bs (moves_blocks place ms j) (lists_of k), move-le place m.0 m.1 k v, rest_next)

moves-few : (k : Kernel) (xs : List ℕ) → length (moves_of xs k) ≤ length xs
moves-few k [] = omega arith
moves-few k (x ∷ xs) = by_case ((task_at k x).alive && not (inherited k x == prio_of k x)) (moves-few k xs)
  where
    by_case : (b : Bool) → length (moves_of xs k) ≤ length xs → length (if b then (x, inherited k x) ∷ moves_of xs k else moves_of xs k) ≤ suc (length xs)
    by_case true h = omega (arith, h)
    by_case false h = omega (arith, h)

-- at most 61 moves
pub renew-le : (place : List ℕ → ℕ) (k : Kernel) → IsLinked k → length (in_order (renew_blocks place k) (lists_of k)) ≤ 30744
renew-le place k v =
    omega (arith, moves-le place (moves_of renewed_tasks k) k v (movable-renewed k v), moves-few k renewed_tasks)
