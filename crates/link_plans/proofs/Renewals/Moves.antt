-- The links of moves fit, are the blocks of their definition, and end with the lists of the kernel after the moves.
use Rattle.std.proofs.Common.{◌≡◌, ◌≢◌, ℕ, ◌+◌, ◌*◌, ◌/◌, ◌<◌, ◌≤◌, Bool, true, false, List, [], ◌∷◌, ◌++◌, length, map, take, refl, sym, ap, ◌∙◌, subst, arith, inl, inr, get_or-set_other}
use Rattle.std.specs.Prelude.{◌==◌, ◌&&◌, if◌then◌else◌}
use Rattle.std.proofs.Math.Nat.{not-suc-le-zero}
use Rattle.std.proofs.lemmas.Bool.{true≢false}
use Rattle.std.proofs.lemmas.Bool.Decides.{eqb_tells}
use Rattle.kern_base.specs.declared.numbers.Prio.{Prio}
use Rattle.kern_model.specs.State.{Kernel, Task, task_at, task_in, prio_of, place_of, count_of, is_ready, is_zero, waits_for_nothing}
use Rattle.kern_model.specs.Micro.{Block, Halves, Lists, after, in_order, lists_of}
use Rattle.kern_model.specs.Inherit.{moved, moved_all, moved_ready, rewaited, ready_move_blocks, rewait_blocks, move_blocks, moves_blocks, with_prio}
use Rattle.kern_model.specs.Valid.{IsLinked, one_if}
use Rattle.kern_model.proofs.Lemmas.{update_task_same, task-updated, task-other, list-same, in_order-append, does_move, linked-moved, AllMovable, movable-moved, self_equal}
use Rattle.links.specs.Chain.{times, total, list_at, left, without}
use Rattle.links.proofs.Steps.{times-without}
use Rattle.micro_steps.specs.declared.link.Link.{Link}
use Rattle.micro_steps.specs.Blocks.{prio_in, place_at}
use Rattle.micro_steps.specs.Halfway.{tasks_in, seen_lists}
use Rattle.micro_steps.specs.Whole.{AreFit, lists_after, prios_after, task_block, task_blocks}
use Rattle.micro_steps.proofs.Seen.{list_at-tasks, list_at-take}
use Rattle.link_plans.specs.declared.moves.Move.{Move}
use Rattle.link_plans.specs.declared.moves.Standing.TheVariants.{Ready, Waits, Nowhere}
use Rattle.link_plans.specs.Moves.{standing_links, standing_of, move_links, moves_links, move_in}
use Rattle.link_plans.specs.Renewals.{TellWaiters, prios_past}
use Rattle.link_plans.specs.Fits.{AreKernels, IsNoded}
use Rattle.link_plans.proofs.Fits.Waits.{no_wait}
use Rattle.link_plans.proofs.Fits.Wakes.{counted}
use Rattle.link_plans.proofs.Nodes.Waiters.{times-count, total-none, node_of, object_below}
use Rattle.link_plans.proofs.Nodes.Past.{links_keep}
use Rattle.link_plans.proofs.Renewals.Rewaits.{StandsFrom, rewaits}

-- links one after the other

pub fits-append : (n : ℕ) (prios : List Prio) (ks js : List Link) (l : Lists) → AreFit n prios ks l → AreFit n (prios_past prios ks) js (lists_after prios ks l) → AreFit n prios (ks ++ js) l
fits-append n prios [] js l first rest = rest
fits-append n prios (k ∷ ks) js l first rest = (first.0, fits-append n (prios_after k prios) ks js _ first.1 rest)

pub lists-append : (prios : List Prio) (ks js : List Link) (l : Lists) → lists_after prios (ks ++ js) l ≡ lists_after (prios_past prios ks) js (lists_after prios ks l)
lists-append prios [] js l = refl
lists-append prios (k ∷ ks) js l = lists-append (prios_after k prios) ks js _

pub blocks-append : (prios : List Prio) (ks js : List Link) → task_blocks prios (ks ++ js) ≡ task_blocks prios ks ++ task_blocks (prios_past prios ks) js
blocks-append prios [] js = refl
blocks-append prios (k ∷ ks) js = ap (λ bs. task_block (prios_after k prios) k ∷ bs) (blocks-append (prios_after k prios) ks js)

-- One task x goes to priority p.
module _ (tail : Bool) (x p : ℕ) (k : Kernel) (l : Lists) (prios : List Prio) (v : IsLinked k) (same : AreKernels k l) (tells : TellWaiters prios k) (small : x < 62) (to : p ≤ 62) (long : x < length prios) where
  abbrev t : Task
  t = task_at k x

  abbrev n : ℕ
  n = length k.objects

  abbrev move : Move
  move = move_in k (x, p)

  -- the lists and the blocks, where the task is ready or not, and waits or not
  abbrev lists_moved : Bool → Bool → Lists
  lists_moved b c = record { ready = moved_ready b (place_at tail) x t.prio p k.ready; pend = rewaited (prio_of k) x p (if c then [] else t.objects) k.pend }

  abbrev blocks_moved : Bool → Bool → List Block
  blocks_moved b c = ready_move_blocks b (place_at tail) x t.prio p ++ rewait_blocks (prio_of k) x p (if c then [] else t.objects)

  abbrev links_moved : Bool → Bool → List ℕ → List Link
  links_moved b c os = standing_links (if b then Ready else (if c then Nowhere else Waits)) tail os move

  pub record MoveHolds (b c : Bool) (os : List ℕ) : Type 0 where
    pub fits : AreFit n prios (links_moved b c os) l
    pub blocks : in_order (task_blocks prios (links_moved b c os)) (lists_of k) ≡ in_order (blocks_moved b c) (lists_of k)
    pub seen : seen_lists n (lists_after prios (links_moved b c os) l) ≡ lists_moved b c
    pub noded : IsNoded k.tasks (lists_after prios (links_moved b c os) l).pend
    pub others : (y : ℕ) → (y ≡ x → ⊥) → prio_in (prios_past prios (links_moved b c os)) y ≡ prio_in prios y
    pub mine : 0 < length (if c then [] else t.objects) → prio_in (prios_past prios (links_moved b c os)) x ≡ p
    pub size : length (prios_past prios (links_moved b c os)) ≡ length prios

  ready_is : l.ready ≡ k.ready
  ready_is = ap (λ (a : Lists). a.ready) same.lists

  stands_ready : is_ready t ≡ true → 0 < times x (list_at l.ready t.prio)
  stands_ready b =
      let one = times-count x (list_at l.ready t.prio) ∙ ap (λ ls. count_of x (list_at ls t.prio)) ready_is ∙ v.lists.stands t.prio x ∙ ap (λ c. if c && (t.prio == t.prio) then 1 else 0) b ∙ ap (λ c. if c then 1 else 0) (self_equal t.prio) in
      omega (arith, one)

  left_ready : is_ready t ≡ true → total x (left l.ready t.prio x) ≡ 0
  left_ready b =
      total-none x (left l.ready t.prio x) (λ r.
      elim (eqb_tells t.prio r) [
        | inl e ↦ subst (λ q. times x (list_at (left l.ready t.prio x) q) ≡ 0) e.1 (ap (times x) (list-same (without x) refl l.ready t.prio) ∙ times-without x (list_at l.ready t.prio))
        | inr e ↦ ap (times x) (get_or-set_other l.ready t.prio r (without x (list_at l.ready t.prio)) [] (λ d. e.1 (sym d))) ∙ elsewhere r e.0
      ])
    where
      elsewhere : (r : ℕ) → (t.prio == r) ≡ false → times x (list_at l.ready r) ≡ 0
      elsewhere r e =
          times-count x (list_at l.ready r) ∙ ap (λ ls. count_of x (list_at ls r)) ready_is ∙ v.lists.stands r x ∙ ap (λ c. one_if (is_ready t && c)) e ∙ ap (λ a. one_if (a && false)) b

  most : n ≤ 64
  most = v.sizes.objects

  there : waits_for_nothing t.waiting ≡ false → (o : ℕ) → 0 < count_of o t.objects → 0 < times (8 * x + place_of o t.objects) (list_at l.pend o)
  there c o some =
      let inside = object_below n o t.objects (v.tasks.each_task x).objects some in
      let pend : take n (tasks_in l.pend) ≡ k.pend = ap (λ (a : Lists). a.pend) same.lists in
      let is : count_of x (map (λ m. m / 8) (list_at l.pend o)) ≡ count_of o t.objects =
      ap (count_of x) (sym (list_at-tasks l.pend o) ∙ sym (list_at-take n (tasks_in l.pend) o inside) ∙ ap (λ ls. list_at ls o) pend) ∙ v.lists.waiters o x ∙ ap (λ b. if b then 0 else count_of o t.objects) c in
      let m = node_of x (list_at l.pend o) (omega (arith, is, some)) in
      let node : m.0 ≡ 8 * x + place_of o t.objects = same.noded o m.0 m.1 ∙ ap (λ y. 8 * y + place_of o (task_at k y).objects) m.2 in
      subst (λ z. 0 < times z (list_at l.pend o)) node m.1

  pub move_holds : (b c : Bool) (os : List ℕ) → is_ready t ≡ b → waits_for_nothing t.waiting ≡ c → (c ≡ false → os ≡ t.objects) → MoveHolds b c os
  move_holds true true os b c known =
      let f : Lists → Lists = λ a. record { ready = moved_ready true (place_at tail) x t.prio p a.ready; pend = a.pend } in
      let from = (v.tasks.each_task x).prio_to in
      record {
        fits = ((omega (arith, small), omega (arith, from), stands_ready b), ((omega (arith, small), omega (arith, to), left_ready b), tt));
        blocks = refl;
        seen = ap f same.lists;
        noded = same.noded;
        others = λ y far. refl;
        mine = λ h. absurd (not-suc-le-zero {n = 0} h);
        size = refl;
      }
  move_holds true false os b c known = absurd (true≢false (sym (no_wait t.alive (waits_for_nothing t.waiting) (is_zero t.suspended) b) ∙ c))
  move_holds false true os b c known =
      record {
        fits = tt;
        blocks = refl;
        seen = same.lists;
        noded = same.noded;
        others = λ y far. refl;
        mine = λ h. absurd (not-suc-le-zero {n = 0} h);
        size = refl;
      }
  move_holds false false os b c known =
      let i = v.tasks.each_task x in
      let stands : StandsFrom n k.tasks x p (prio_of k) most (omega (arith, small)) i.few i.objects i.different prios t.objects l (lists_of k) =
      record { seen = same.lists; size = v.sizes.pend; noded = same.noded; there = there c; tells = λ o y here far. tells o y here; long = long } in
      let r = rewaits n k.tasks x p (prio_of k) most (omega (arith, small)) i.few i.objects i.different prios 0 [] t.objects l (lists_of k) refl refl stands in
      subst (MoveHolds false false) (sym (known refl))
      (record { fits = r.fits; blocks = r.blocks; seen = r.seen; noded = r.noded; others = r.others; mine = λ h. r.mine (inr h); size = r.long })

-- the tasks of moves
abbrev pub movers : List (ℕ × ℕ) → List ℕ
movers ms = map (λ m. m.0) ms

-- These moves can be made, one after another; of the tasks that wait the records tell the objects.
pub record MayMove (ts : List Task) (prios : List Prio) (ms : List (ℕ × ℕ)) (k : Kernel) (l : Lists) : Type 0 where
  pub linked : IsLinked k
  pub same : AreKernels k l
  pub tells : TellWaiters prios k
  pub size : length prios ≡ 64
  pub movable : AllMovable k ms
  pub once : (x : ℕ) → count_of x (movers ms) ≤ 1
  pub known : (x : ℕ) → 0 < count_of x (movers ms) → waits_for_nothing (task_at k x).waiting ≡ false → (task_in ts x).objects ≡ (task_at k x).objects

-- what comes of their links
pub record MovesHold (ts : List Task) (prios : List Prio) (tail : Bool) (ms : List (ℕ × ℕ)) (k : Kernel) (l : Lists) : Type 0 where
  pub fits : AreFit (length k.objects) prios (moves_links ts tail (map (move_in k) ms)) l
  pub blocks : in_order (task_blocks prios (moves_links ts tail (map (move_in k) ms))) (lists_of k) ≡ in_order (moves_blocks (place_at tail) ms k) (lists_of k)
  pub after : AreKernels (moved_all (place_at tail) ms k) (lists_after prios (moves_links ts tail (map (move_in k) ms)) l)

some_objects : (c : Bool) (o : ℕ) (os : List ℕ) → 0 < (if c then 0 else count_of o os) → 0 < length (if c then [] else os)
some_objects true o os h = h
some_objects false o [] h = h
some_objects false o (q ∷ os) h = omega arith

-- a move leaves the moves of other tasks
same_moves : (x p : ℕ) (place : List ℕ → ℕ) (k : Kernel) (ms : List (ℕ × ℕ)) → count_of x (movers ms) ≡ 0 → map (move_in (moved place x p k)) ms ≡ map (move_in k) ms
same_moves x p place k [] none = refl
same_moves x p place k (m ∷ ms) none =
    let far : x ≢ m.0 = λ e. not-suc-le-zero {n = 0} (let here = counted x (movers ms) in let zero_more = subst (λ z. count_of x (z ∷ movers ms) ≡ 0) (sym e) none in omega (arith, here, zero_more)) in
    let task : task_at (moved place x p k) m.0 ≡ task_at k m.0 = task-other k.tasks x (with_prio p) m.0 far in
    let now : Task → Move = λ t. record { task = record { 0 = m.0 }; from = record { 0 = t.prio }; to = record { 0 = m.1 }; standing = standing_of t } in
    ap (λ t. now t ∷ map (move_in (moved place x p k)) ms) task ∙ ap (λ ns. move_in k m ∷ ns) (same_moves x p place k ms (omega (arith, none)))

-- The first of the moves.
module _ (ts : List Task) (prios : List Prio) (tail : Bool) (m : ℕ × ℕ) (ms : List (ℕ × ℕ)) (k : Kernel) (l : Lists) (h : MayMove ts prios (m ∷ ms) k l) where
  abbrev x : ℕ
  x = m.0

  abbrev p : ℕ
  p = m.1

  abbrev j : Kernel
  j = moved (place_at tail) x p k

  abbrev first : List Link
  first = move_links ts tail (move_in k m)

  abbrev l_first : Lists
  l_first = lists_after prios first l

  abbrev prios_first : List Prio
  prios_first = prios_past prios first

  is_low : x < 62
  is_low = elim h.movable.0 [ inl e ↦ omega arith | inr e ↦ omega (arith, e) ]

  stands_first : 0 < count_of x (movers (m ∷ ms))
  stands_first = let here = counted x (movers ms) in omega (arith, here)

  not_again : count_of x (movers ms) ≡ 0
  not_again = let here = counted x (movers ms) in let most = h.once x in omega (arith, here, most)

  holds : MoveHolds tail x p k l prios h.linked h.same h.tells is_low h.movable.3 (let size = h.size in let low = is_low in omega (arith, size, low)) (is_ready (task_at k x)) (waits_for_nothing (task_at k x).waiting) (task_in ts x).objects
  holds = move_holds tail x p k l prios h.linked h.same h.tells is_low h.movable.3 (let size = h.size in let low = is_low in omega (arith, size, low)) (is_ready (task_at k x)) (waits_for_nothing (task_at k x).waiting) (task_in ts x).objects refl refl (h.known x stands_first)

  linked_first : IsLinked j
  linked_first = linked-moved k h.linked x h.movable.0 h.movable.1 (place_at tail) p h.movable.2 h.movable.3

  objects_first : (y : ℕ) → (task_at j y).objects ≡ (task_at k y).objects
  objects_first y = update_task_same (λ t. t.objects) (with_prio p) (λ t. refl) k.tasks x y

  waits_first : (y : ℕ) → (task_at j y).waiting ≡ (task_at k y).waiting
  waits_first y = update_task_same (λ t. t.waiting) (with_prio p) (λ t. refl) k.tasks x y

  same_first : AreKernels j l_first
  same_first =
      record {
        lists = holds.seen;
        past = links_keep (length k.objects) prios first l holds.fits h.same.past;
        noded = λ o n some. holds.noded o n some ∙ ap (λ os. 8 * (n / 8) + place_of o os) (sym (objects_first (n / 8)));
      }

  -- a task waits as often as before
  count_first : (o y : ℕ) → count_of y (list_at j.pend o) ≡ (if waits_for_nothing (task_at k y).waiting then 0 else count_of o (task_at k y).objects)
  count_first o y =
      linked_first.lists.waiters o y
      ∙ ap (λ w. if waits_for_nothing w then 0 else count_of o (task_at j y).objects) (waits_first y)
      ∙ ap (λ os. if waits_for_nothing (task_at k y).waiting then 0 else count_of o os) (objects_first y)

  tells_first : TellWaiters prios_first j
  tells_first o y some =
      let here : 0 < (if waits_for_nothing (task_at k y).waiting then 0 else count_of o (task_at k y).objects) = let is = count_first o y in omega (arith, some, is) in
      elim (eqb_tells y x) [
        | inl e ↦ subst (λ z. prio_in prios_first z ≡ prio_of j z) (sym e.1) (mine (subst (λ z. 0 < (if waits_for_nothing (task_at k z).waiting then 0 else count_of o (task_at k z).objects)) e.1 here))
        | inr e ↦
            holds.others y e.1
            ∙ h.tells o y (let was = h.linked.lists.waiters o y in omega (arith, here, was))
            ∙ ap (λ (t : Task). t.prio) (sym (task-other k.tasks x (with_prio p) y (λ d. e.1 (sym d))))
      ]
    where
      mine : 0 < (if waits_for_nothing (task_at k x).waiting then 0 else count_of o (task_at k x).objects) → prio_in prios_first x ≡ prio_of j x
      mine more =
          holds.mine (some_objects (waits_for_nothing (task_at k x).waiting) o (task_at k x).objects more)
          ∙ ap (λ (t : Task). t.prio) (sym (task-updated k.tasks x (with_prio p) (let size = h.linked.sizes.tasks in let low = is_low in omega (arith, size, low))))

  pub may_first : MayMove ts prios_first ms j l_first
  may_first =
      record {
        linked = linked_first;
        same = same_first;
        tells = tells_first;
        size = holds.size ∙ h.size;
        movable = movable-moved (place_at tail) x p k ms h.movable.4;
        once = λ y. let most = h.once y in omega (arith, most);
        known = λ y some waits. h.known y (omega (arith, some)) (ap waits_for_nothing (sym (waits_first y)) ∙ waits) ∙ sym (objects_first y);
      }

  -- and those after it
  pub moves_next : MovesHold ts prios_first tail ms j l_first → MovesHold ts prios tail (m ∷ ms) k l
  moves_next rest =
      let same = same_moves x p (place_at tail) k ms not_again in
      let others = moves_links ts tail (map (move_in k) ms) in
      let n = length k.objects in
      let fits : AreFit n prios_first others l_first = subst (λ ns. AreFit n prios_first (moves_links ts tail ns) l_first) same rest.fits in
      let later : in_order (task_blocks prios_first others) (lists_of j) ≡ in_order (moves_blocks (place_at tail) ms j) (lists_of j) =
      ap (λ ns. in_order (task_blocks prios_first (moves_links ts tail ns)) (lists_of j)) (sym same) ∙ rest.blocks in
      let moved_blocks = move_blocks (place_at tail) x p k in
      let there : after (in_order moved_blocks (lists_of k)) (lists_of k) ≡ lists_of j = ap (λ (a : Halves). a.forward) (does_move (place_at tail) x p k) in
      record {
        fits = fits-append n prios first others l holds.fits fits;
        blocks = ap (λ bs. in_order bs (lists_of k)) (blocks-append prios first others)
            ∙ in_order-append (task_blocks prios first) (task_blocks prios_first others) (lists_of k)
            ∙ ap (λ ns. ns ++ in_order (task_blocks prios_first others) (after ns (lists_of k))) holds.blocks
            ∙ ap (λ a. in_order moved_blocks (lists_of k) ++ in_order (task_blocks prios_first others) a) there
            ∙ ap (λ ns. in_order moved_blocks (lists_of k) ++ ns) later
            ∙ ap (λ a. in_order moved_blocks (lists_of k) ++ in_order (moves_blocks (place_at tail) ms j) a) (sym there)
            ∙ sym (in_order-append moved_blocks (moves_blocks (place_at tail) ms j) (lists_of k));
        after = subst (λ ns. AreKernels (moved_all (place_at tail) ms j) ns)
            (ap (λ ns. lists_after prios_first (moves_links ts tail ns) l_first) same ∙ sym (lists-append prios first others l))
            rest.after;
      }

pub moves_hold : (ts : List Task) (prios : List Prio) (tail : Bool) (ms : List (ℕ × ℕ)) (k : Kernel) (l : Lists) → MayMove ts prios ms k l → MovesHold ts prios tail ms k l
moves_hold ts prios tail [] k l h = record { fits = tt; blocks = refl; after = h.same }
moves_hold ts prios tail (m ∷ ms) k l h =
    moves_next ts prios tail m ms k l h (moves_hold ts (prios_first ts prios tail m ms k l h) tail ms (j ts prios tail m ms k l h) (l_first ts prios tail m ms k l h) (may_first ts prios tail m ms k l h))
