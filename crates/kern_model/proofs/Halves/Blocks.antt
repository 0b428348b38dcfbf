-- What blocks do in all: at the end of each, both directions have the same lists.
use Rattle.kern_model.proofs.Common.{◌≡◌, ℕ, zero, suc, List, [], ◌∷◌, ◌++◌, refl, sym, ap, ◌∙◌, subst, Bool, true, take, drop, map, append_assoc, false, slice_set, insert, if◌then◌else◌, replicate, Finished, Kernel, Task, list_at, update_list, without, task_at, prio_of, Block, Micro, Plain, JoinForward, JoinBack, LeaveForward, LeaveBack, Mark, at_chain, Lists, Halves, changed, changed_all, whole, after, in_order, leave, readied, readied_at, plain, is_filled, join_place, wait, wait_place, unready, lists_of, whole_step, wakes, wakes_all, answered_task, left_all, leave_blocks, woken_ready, joined, ready_blocks, wake_blocks, wakes_blocks, stands_in, wait_blocks, block_blocks}
use Rattle.std.proofs.lemmas.List.{map-set}
use Rattle.kern_model.proofs.Basics.Updates.{update_task_same}

-- the block takes whole lists to these whole lists
abbrev pub Does : Block → (Lists → Lists) → Type 0
Does b f = (l : Lists) → changed_all (b l) (whole l) ≡ whole (f l)

pub changed_all-append : (ms ns : List Micro) (h : Halves) → changed_all (ms ++ ns) h ≡ changed_all ns (changed_all ms h)
changed_all-append [] ns h = refl
changed_all-append (m ∷ ms) ns h = changed_all-append ms ns (changed m h)

pub does_none : Does (in_order []) (λ l. l)
does_none l = refl

pub does_more : (b : Block) (bs : List Block) (f g : Lists → Lists) → Does b f → Does (in_order bs) g → Does (in_order (b ∷ bs)) (λ l. g (f l))
does_more b bs f g first rest l =
    let there : after (b l) l ≡ f l = ap (λ (h : Halves). h.forward) (first l) in
    changed_all-append (b l) (in_order bs (after (b l) l)) (whole l)
    ∙ ap (λ h. changed_all (in_order bs (after (b l) l)) h) (first l)
    ∙ subst (λ (a : Lists). changed_all (in_order bs a) (whole (f l)) ≡ whole (g (f l))) (sym there) (rest (f l))

-- the forward lists after micro-steps come of the forward lists before them
same_step : (m : Micro) (h j : Halves) → h.forward ≡ j.forward → (changed m h).forward ≡ (changed m j).forward
same_step Plain h j e = e
same_step (JoinForward c x i) h j e = ap (λ l. at_chain c (λ xs. insert xs i x) l) e
same_step (JoinBack c x i) h j e = e
same_step (LeaveForward c x) h j e = ap (λ l. at_chain c (without x) l) e
same_step (LeaveBack c x) h j e = e
same_step (Mark p) h j e = e

pub same_forward : (ms : List Micro) (h j : Halves) → h.forward ≡ j.forward → (changed_all ms h).forward ≡ (changed_all ms j).forward
same_forward [] h j e = e
same_forward (m ∷ ms) h j e = same_forward ms (changed m h) (changed m j) (same_step m h j e)

pub after-append : (ms ns : List Micro) (l : Lists) → after (ms ++ ns) l ≡ after ns (after ms l)
after-append ms ns l =
    ap (λ (h : Halves). h.forward) (changed_all-append ms ns (whole l)) ∙ same_forward ns (changed_all ms (whole l)) (whole (after ms l)) refl

-- blocks, and after them more blocks
pub in_order-append : (bs cs : List Block) (l : Lists) → in_order (bs ++ cs) l ≡ in_order bs l ++ in_order cs (after (in_order bs l) l)
in_order-append [] cs l = refl
in_order-append (b ∷ bs) cs l =
    let next = after (b l) l in
    ap (λ ms. b l ++ ms) (in_order-append bs cs next)
    ∙ sym (append_assoc (b l) (in_order bs next) (in_order cs (after (in_order bs next) next)))
    ∙ ap (λ a. (b l ++ in_order bs next) ++ in_order cs a) (sym (after-append (b l) (in_order bs next) l))

pub does_append : (bs cs : List Block) (f g : Lists → Lists) → Does (in_order bs) f → Does (in_order cs) g → Does (in_order (bs ++ cs)) (λ l. g (f l))
does_append bs cs f g first rest l =
    let there : after (in_order bs l) l ≡ f l = ap (λ (h : Halves). h.forward) (first l) in
    ap (λ ms. changed_all ms (whole l)) (in_order-append bs cs l)
    ∙ changed_all-append (in_order bs l) (in_order cs (after (in_order bs l) l)) (whole l)
    ∙ ap (λ h. changed_all (in_order cs (after (in_order bs l) l)) h) (first l)
    ∙ subst (λ (a : Lists). changed_all (in_order cs a) (whole (f l)) ≡ whole (g (f l))) (sym there) (rest (f l))

pub does_plain : Does plain (λ l. l)
does_plain l = refl

pub does_leave : (x o : ℕ) → Does (leave x o) (λ l. record { ready = l.ready; pend = update_list l.pend o (without x) })
does_leave x o l = refl

filled_middle : (front : List ℕ) (x : ℕ) (back : List ℕ) → is_filled (front ++ x ∷ back) ≡ true
filled_middle [] x back = refl
filled_middle (y ∷ ys) x back = refl

pub does_readied_at : (place : List ℕ → ℕ) (x p : ℕ) → Does (readied_at place x p) (λ l. record { ready = joined place x p l.ready; pend = l.pend })
does_readied_at place x p l =
    let i = place (list_at l.ready p) in
    let xs = insert (list_at l.ready p) i x in
    let marks : slice_set (map is_filled l.ready) p true ≡ map is_filled (slice_set l.ready p xs) =
    ap (λ b. slice_set (map is_filled l.ready) p b) (sym (filled_middle (take i (list_at l.ready p)) x (drop i (list_at l.ready p)))) ∙ sym (map-set is_filled l.ready p xs) in
    ap (λ (m : List Bool). let h : Halves = record { forward = record { ready = slice_set l.ready p xs; pend = l.pend }; back = record { ready = slice_set l.ready p xs; pend = l.pend }; marked = m } in h) marks

-- the set of priorities after a list shrank
unmark : (f : List ℕ → List ℕ) → (f [] ≡ []) → ((xs : List ℕ) → is_filled (f xs) ≡ true → is_filled xs ≡ true) → (lists : List (List ℕ)) (p : ℕ) → (if is_filled (list_at (update_list lists p f) p) then map is_filled lists else slice_set (map is_filled lists) p false) ≡ map is_filled (update_list lists p f)
unmark f none h [] p = refl
unmark f none h (xs ∷ lists) zero = by_case (is_filled (f xs)) refl
  where
    by_case : (b : Bool) → is_filled (f xs) ≡ b → (if b then map is_filled (xs ∷ lists) else false ∷ map is_filled lists) ≡ b ∷ map is_filled lists
    by_case true e = ap (λ a. a ∷ map is_filled lists) (h xs e)
    by_case false e = refl
unmark f none h (xs ∷ lists) (suc p) =
    by_case (is_filled (list_at (update_list lists p f) p)) ∙ ap (λ m. is_filled xs ∷ m) (unmark f none h lists p)
  where
    by_case : (b : Bool) → (if b then is_filled xs ∷ map is_filled lists else is_filled xs ∷ slice_set (map is_filled lists) p false) ≡ is_filled xs ∷ (if b then map is_filled lists else slice_set (map is_filled lists) p false)
    by_case true = refl
    by_case false = refl

filled_without : (x : ℕ) (xs : List ℕ) → is_filled (without x xs) ≡ true → is_filled xs ≡ true
filled_without x [] h = h
filled_without x (y ∷ ys) h = refl

pub does_unready : (x p : ℕ) → Does (unready x p) (λ l. record { ready = update_list l.ready p (without x); pend = l.pend })
does_unready x p l =
    let ready = update_list l.ready p (without x) in
    ap (λ (m : List Bool). let h : Halves = record { forward = record { ready = ready; pend = l.pend }; back = record { ready = ready; pend = l.pend }; marked = m } in h)
    (unmark (without x) refl (filled_without x) l.ready p)

-- entries that are passed change no list
pub plains : (n : ℕ) (ms : List Micro) (h : Halves) → changed_all (replicate n Plain ++ ms) h ≡ changed_all ms h
plains zero ms h = refl
plains (suc n) ms h = plains n ms h

pub does_wait : (prio : ℕ → ℕ) (x p o : ℕ) → Does (wait prio x p o) (λ l. record { ready = l.ready; pend = update_list l.pend o (λ xs. insert xs (wait_place prio p xs) x) })
does_wait prio x p o l = plains (wait_place prio p (list_at l.pend o)) _ (whole l)

pub does_waits : (prio : ℕ → ℕ) (x p : ℕ) (os : List ℕ) → Does (in_order (wait_blocks prio x p os)) (λ l. record { ready = l.ready; pend = stands_in prio x p os l.pend })
does_waits prio x p [] = does_none
does_waits prio x p (o ∷ os) = does_more (wait prio x p o) (wait_blocks prio x p os) _ _ (does_wait prio x p o) (does_waits prio x p os)

pub does_leaves : (x : ℕ) (os : List ℕ) → Does (in_order (leave_blocks x os)) (λ l. record { ready = l.ready; pend = left_all x os l.pend })
does_leaves x [] = does_none
does_leaves x (o ∷ os) = does_more (leave x o) (leave_blocks x os) _ _ (does_leave x o) (does_leaves x os)

pub does_ready_blocks : (n x p h : ℕ) → Does (in_order (ready_blocks n x p h)) (λ l. record { ready = woken_ready n p h x l.ready; pend = l.pend })
does_ready_blocks zero x p h = does_more (readied x p h) [] _ (λ l. l) (does_readied_at (join_place p h) x p) does_none
does_ready_blocks (suc n) x p h = does_none

-- a wake, as the tasks of k say
pub does_wake : (k : Kernel) (h x : ℕ) → Does (in_order (wake_blocks k h x)) (λ l. record { ready = woken_ready (task_at k x).suspended (task_at k x).prio h x l.ready; pend = left_all x (task_at k x).objects l.pend })
does_wake k h x =
    let t = task_at k x in
    does_append (leave_blocks x t.objects) (ready_blocks t.suspended x t.prio h) _ _ (does_leaves x t.objects) (does_ready_blocks t.suspended x t.prio h)

-- the lists after these are woken, as the tasks of k say
abbrev pub lists_after : Kernel → ℕ → List ℕ → Lists → Lists
lists_after k h [] l = l
lists_after k h (x ∷ xs) l =
    let t = task_at k x in
    lists_after k h xs (record { ready = woken_ready t.suspended t.prio h x l.ready; pend = left_all x t.objects l.pend })

pub does_wakes : (k : Kernel) (h : ℕ) (xs : List ℕ) → Does (in_order (wakes_blocks k h xs)) (lists_after k h xs)
does_wakes k h [] = does_none
does_wakes k h (x ∷ xs) = does_append (wake_blocks k h x) (wakes_blocks k h xs) _ (lists_after k h xs) (does_wake k h x) (does_wakes k h xs)

-- the tasks of both have the same priority, suspension and objects
pub record SameShape (k j : Kernel) : Type 0 where
  pub prio : (y : ℕ) → (task_at j y).prio ≡ (task_at k y).prio
  pub suspended : (y : ℕ) → (task_at j y).suspended ≡ (task_at k y).suspended
  pub objects : (y : ℕ) → (task_at j y).objects ≡ (task_at k y).objects
  pub mask : (y : ℕ) → (task_at j y).mask ≡ (task_at k y).mask
  pub opt : (y : ℕ) → (task_at j y).opt ≡ (task_at k y).opt

pub same_shape-refl : (k : Kernel) → SameShape k k
same_shape-refl k = record { prio = λ y. refl; suspended = λ y. refl; objects = λ y. refl; mask = λ y. refl; opt = λ y. refl }

pub same_shape-wakes : (f : Finished) (h x : ℕ) (k j : Kernel) → SameShape k j → SameShape k (wakes f h x j)
same_shape-wakes f h x k j s =
    record {
      prio = λ y. update_task_same (λ t. t.prio) (answered_task f) (λ t. refl) j.tasks x y ∙ s.prio y;
      suspended = λ y. update_task_same (λ t. t.suspended) (answered_task f) (λ t. refl) j.tasks x y ∙ s.suspended y;
      objects = λ y. update_task_same (λ t. t.objects) (answered_task f) (λ t. refl) j.tasks x y ∙ s.objects y;
      mask = λ y. update_task_same (λ t. t.mask) (answered_task f) (λ t. refl) j.tasks x y ∙ s.mask y;
      opt = λ y. update_task_same (λ t. t.opt) (answered_task f) (λ t. refl) j.tasks x y ∙ s.opt y;
    }

-- the lists after a wake from j, as the tasks of k say
pub lists-wakes : (f : Finished) (h x : ℕ) (k j : Kernel) → SameShape k j → lists_of (wakes f h x j) ≡ record { ready = woken_ready (task_at k x).suspended (task_at k x).prio h x j.ready; pend = left_all x (task_at k x).objects j.pend }
lists-wakes f h x k j s =
    ap (λ n. let l : Lists = record { ready = woken_ready n (task_at j x).prio h x j.ready; pend = left_all x (task_at j x).objects j.pend } in l) (s.suspended x)
    ∙ ap (λ n. let l : Lists = record { ready = woken_ready (task_at k x).suspended n h x j.ready; pend = left_all x (task_at j x).objects j.pend } in l) (s.prio x)
    ∙ ap (λ os. let l : Lists = record { ready = woken_ready (task_at k x).suspended (task_at k x).prio h x j.ready; pend = left_all x os j.pend } in l) (s.objects x)

pub lists-wakes_all : (f : Task → Finished) (h : ℕ) (xs : List ℕ) (k j : Kernel) → SameShape k j → lists_of (wakes_all f h xs j) ≡ lists_after k h xs (lists_of j)
lists-wakes_all f h [] k j s = refl
lists-wakes_all f h (x ∷ xs) k j s =
    let g = f (task_at j x) in
    lists-wakes_all f h xs k (wakes g h x j) (same_shape-wakes g h x k j s) ∙ ap (λ l. lists_after k h xs l) (lists-wakes g h x k j s)

pub does_block : (k : Kernel) (x : ℕ) (os : List ℕ) → Does (in_order (block_blocks k x os)) (λ l. record { ready = update_list l.ready (prio_of k x) (without x); pend = stands_in (prio_of k) x (prio_of k x) os l.pend })
does_block k x os =
    does_more (unready x (prio_of k x)) (wait_blocks (prio_of k) x (prio_of k x) os) _ _ (does_unready x (prio_of k x)) (does_waits (prio_of k) x (prio_of k x) os)

-- a whole step: after all its micro-steps both directions have the lists to which its blocks lead
pub does_whole : (bs : List Block) (f : Lists → Lists) → Does (in_order bs) f → Does (whole_step bs) f
does_whole bs f h =
    does_more plain (bs ++ plain ∷ []) (λ l. l) f does_plain
    (does_append bs (plain ∷ []) f (λ l. l) h (does_more plain [] (λ l. l) (λ l. l) does_plain does_none))
