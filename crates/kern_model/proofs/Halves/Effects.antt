-- Blocks lead from the lists of a kernel to those of the effect, in both directions.
use Rattle.kern_model.proofs.Common.{◌≡◌, ℕ, List, [], ◌∷◌, ◌++◌, refl, sym, ap, ◌∙◌, subst, Bool, true, false, if◌then◌else◌, ◌==◌, insert, OsErr, SchedLocked, Answer, Finished, Outcome, Kernel, Task, update_list, task_at, prio_of, is_ready, Block, Lists, Halves, changed_all, whole, after, in_order, plain, leave, wait, wait_place, unready, readied_at, lists_of, whole_step, Effect, Wait, refused, woken, blocks_on, waits_unless, and_then, joined, moved, moved_all, moved_ready, rewaited, waited_objects, move_blocks, moves_blocks, moves_of, renewed_tasks, rewait_blocks, ready_move_blocks, renewing}
use Rattle.kern_model.proofs.Halves.Blocks.{Does, does_none, does_more, does_append, does_leave, does_wait, does_unready, does_readied_at, does_wakes, does_block, changed_all-append, in_order-append, lists-wakes_all, same_shape-refl}

-- of a choice, what holds of both sides
pub choice : {A : Type 0} (P : A → Type 0) (b : Bool) (x y : A) → P x → P y → P (if b then x else y)
choice P true x y p q = p
choice P false x y p q = q

-- these blocks take the first whole lists to the second
abbrev pub Takes_to : List Block → Lists → Lists → Type 0
Takes_to bs l m = changed_all (in_order bs l) (whole l) ≡ whole m

pub takes_to-append : (bs cs : List Block) (l m n : Lists) → Takes_to bs l m → Takes_to cs m n → Takes_to (bs ++ cs) l n
takes_to-append bs cs l m n first rest =
    let there : after (in_order bs l) l ≡ m = ap (λ (h : Halves). h.forward) first in
    ap (λ ms. changed_all ms (whole l)) (in_order-append bs cs l)
    ∙ changed_all-append (in_order bs l) (in_order cs (after (in_order bs l) l)) (whole l)
    ∙ ap (λ h. changed_all (in_order cs (after (in_order bs l) l)) h) first
    ∙ subst (λ (a : Lists). changed_all (in_order cs a) (whole m) ≡ whole n) (sym there) rest

-- the blocks of an effect lead to the lists of its kernel
pub record Leads (k : Kernel) (e : Effect) : Type 0 where
  pub lists : Takes_to e.blocks (lists_of k) (lists_of e.kernel)

-- so does the whole step
pub leads-whole : (k : Kernel) (e : Effect) → Leads k e → changed_all (whole_step e.blocks (lists_of k)) (whole (lists_of k)) ≡ whole (lists_of e.kernel)
leads-whole k e h = takes_to-append e.blocks (plain ∷ []) (lists_of k) (lists_of e.kernel) (lists_of e.kernel) h.lists refl

pub leads-refused : (k : Kernel) (err : OsErr) → Leads k (refused k err)
leads-refused k err = record { lists = refl }

pub leads-woken : (f : Task → Finished) (a : Answer) (h : ℕ) (xs : List ℕ) (k : Kernel) → Leads k (woken f a h xs k)
leads-woken f a h xs k =
    record { lists = does_wakes k h xs (lists_of k) ∙ ap (λ l. whole l) (sym (lists-wakes_all f h xs k k (same_shape-refl k))) }

pub leads-blocks_on : (k : Kernel) (x : ℕ) (w : Wait) → Leads k (blocks_on k x w)
leads-blocks_on k x w = record { lists = does_block k x w.objects (lists_of k) }

pub leads-waits_unless : (k : Kernel) (b : Bool) (e : Effect) → Leads k e → Leads k (waits_unless k b e)
leads-waits_unless k true e h = record { lists = refl }
leads-waits_unless k false e h = choice (Leads k) (k.lock == 0) e (refused k SchedLocked) h (leads-refused k SchedLocked)

pub leads-and_then : (k : Kernel) (e : Effect) (f : Kernel → Effect) → Leads k e → Leads e.kernel (f e.kernel) → Leads k (and_then e f)
leads-and_then k e f first rest =
    let g = f e.kernel in
    record { lists = takes_to-append e.blocks g.blocks (lists_of k) (lists_of e.kernel) (lists_of g.kernel) first.lists rest.lists }

-- other outcomes and other parts of the kernel than its lists do not matter
pub leads-same : (k j : Kernel) (e : Effect) (o : Outcome) → Leads k e → lists_of j ≡ lists_of e.kernel → Leads k (record { kernel = j; outcome = o; blocks = e.blocks })
leads-same k j e o h same = record { lists = h.lists ∙ ap (λ l. whole l) (sym same) }

-- moves

does_rewaits : (prio : ℕ → ℕ) (x p : ℕ) (os : List ℕ) → Does (in_order (rewait_blocks prio x p os)) (λ l. record { ready = l.ready; pend = rewaited prio x p os l.pend })
does_rewaits prio x p [] = does_none
does_rewaits prio x p (o ∷ os) =
    does_more (leave x o) (wait prio x p o ∷ rewait_blocks prio x p os) _ (λ l. record { ready = l.ready; pend = rewaited prio x p os (update_list l.pend o (λ xs. insert xs (wait_place prio p xs) x)) }) (does_leave x o)
    (does_more (wait prio x p o) (rewait_blocks prio x p os) _ (λ l. record { ready = l.ready; pend = rewaited prio x p os l.pend }) (does_wait prio x p o) (does_rewaits prio x p os))

does_ready_move : (b : Bool) (place : List ℕ → ℕ) (x q p : ℕ) → Does (in_order (ready_move_blocks b place x q p)) (λ l. record { ready = moved_ready b place x q p l.ready; pend = l.pend })
does_ready_move false place x q p = does_none
does_ready_move true place x q p =
    does_more (unready x q) (readied_at place x p ∷ []) _ (λ l. record { ready = joined place x p l.ready; pend = l.pend }) (does_unready x q)
    (does_more (readied_at place x p) [] _ (λ l. l) (does_readied_at place x p) does_none)

pub does_move : (place : List ℕ → ℕ) (x p : ℕ) (k : Kernel) → Takes_to (move_blocks place x p k) (lists_of k) (lists_of (moved place x p k))
does_move place x p k =
    let t = task_at k x in
    does_append (ready_move_blocks (is_ready t) place x t.prio p) (rewait_blocks (prio_of k) x p (waited_objects t)) _ (λ l. record { ready = l.ready; pend = rewaited (prio_of k) x p (waited_objects t) l.pend })
    (does_ready_move (is_ready t) place x t.prio p) (does_rewaits (prio_of k) x p (waited_objects t)) (lists_of k)

pub does_moves : (place : List ℕ → ℕ) (ms : List (ℕ × ℕ)) (k : Kernel) → Takes_to (moves_blocks place ms k) (lists_of k) (lists_of (moved_all place ms k))
does_moves place [] k = refl
does_moves place (m ∷ ms) k =
    let j = moved place m.0 m.1 k in
    takes_to-append (move_blocks place m.0 m.1 k) (moves_blocks place ms j) (lists_of k) (lists_of j) (lists_of (moved_all place ms j)) (does_move place m.0 m.1 k) (does_moves place ms j)

pub leads-renewing : (place : List ℕ → ℕ) (k : Kernel) (e : Effect) → Leads k e → Leads k (renewing place e)
leads-renewing place k e h =
    let j = e.kernel in
    let ms = moves_of renewed_tasks j in
    record { lists = takes_to-append e.blocks (moves_blocks place ms j) (lists_of k) (lists_of j) (lists_of (moved_all place ms j)) h.lists (does_moves place ms j) }
