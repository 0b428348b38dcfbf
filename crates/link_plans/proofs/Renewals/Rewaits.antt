-- A task that waits leaves each of its objects and joins it again at another priority.
use Rattle.std.proofs.Common.{◌≡◌, ◌≢◌, ℕ, suc, ◌+◌, ◌*◌, ◌/◌, ◌<◌, ◌≤◌, Bool, true, false, ◌⊎◌, List, [], ◌∷◌, ◌++◌, length, map, take, insert, refl, sym, ap, ◌∙◌, subst, arith, inl, inr, append_assoc, length-set, get_or-set_same, get_or-set_other}
use Rattle.std.specs.Prelude.{slice_set, replicate, All, ◌==◌, if◌then◌else◌}
use Rattle.std.proofs.Math.Nat.{not-suc-le-zero}
use Rattle.std.proofs.lemmas.Bool.Decides.{eqb_tells, leb_tells}
use Rattle.std.proofs.lemmas.List.{length-append}
use Rattle.kern_base.specs.declared.numbers.Prio.{Prio}
use Rattle.kern_model.specs.State.{Task, task_in, place_of, count_of, update_list}
use Rattle.kern_model.specs.Micro.{Halves, JoinBack, JoinForward, Lists, Pend, Plain, after, in_order, leave, wait, wait_place}
use Rattle.kern_model.specs.Inherit.{rewait_blocks, rewaited}
use Rattle.kern_model.proofs.Lemmas.{equal, list-same, count-without_other, count-without_same, does_wait, again, length-again, count-again_other, count-append}
use Rattle.links.specs.Chain.{times, total, list_at, inserted, left, without}
use Rattle.links.proofs.Times.{times_other}
use Rattle.links.proofs.Steps.{times-without, times-without-le}
use Rattle.pend_lists.specs.Pending.{IsAbsent, waiters}
use Rattle.pend_lists.proofs.Tasks.{times_waited}
use Rattle.micro_steps.specs.Blocks.{prio_in, prio_by, no_prio}
use Rattle.micro_steps.specs.Halfway.{tasks_in, seen_lists}
use Rattle.micro_steps.specs.Whole.{AreFit, lists_after, task_blocks}
use Rattle.micro_steps.proofs.Seen.{list_at-tasks, list_at-take}
use Rattle.micro_steps.proofs.Wholes.{place-tasks}
use Rattle.link_plans.specs.Moves.{rewait_links}
use Rattle.link_plans.specs.Renewals.{prios_past}
use Rattle.link_plans.specs.Fits.{IsNoded}
use Rattle.link_plans.proofs.Fits.Waits.{waited}
use Rattle.link_plans.proofs.Fits.Wakes.{counted}
use Rattle.link_plans.proofs.Nodes.Waiters.{place_after, total-none, object_below}
use Rattle.link_plans.proofs.Nodes.Served.{times-left-le, times-inserted-le}
use Rattle.link_plans.proofs.Renewals.Seen.{seen-left, seen-inserted, place-same}

-- only one object stands at a place
both : (b c : Bool) (m n : ℕ) → (if b then 0 else 1 + m) ≡ (if c then 0 else 1 + n) → ((b ≡ true) × (c ≡ true)) ⊎ ((b ≡ false) × (c ≡ false) × (m ≡ n))
both true true m n e = inl (refl, refl)
both true false m n e = absurd (not-suc-le-zero {n = n} (omega (arith, e)))
both false true m n e = absurd (not-suc-le-zero {n = m} (omega (arith, e)))
both false false m n e = inr (refl, refl, omega (arith, e))

same_place : (r o : ℕ) (os : List ℕ) → place_of r os ≡ place_of o os → place_of o os < length os → r ≡ o
same_place r o [] e h = absurd (not-suc-le-zero {n = 0} (omega (arith, h)))
same_place r o (y ∷ os) e h =
    elim (both (y == r) (y == o) (place_of r os) (place_of o os) e) [
      | inl t ↦ sym (equal y r t.0) ∙ equal y o t.1
      | inr f ↦ same_place r o os f.2 (let low : (if false then 0 else 1 + place_of o os) < suc (length os) = subst (λ b. (if b then 0 else 1 + place_of o os) < suc (length os)) f.1 h in omega (arith, low))
    ]

-- A task x with these objects, of which each node stands for its object; so many lists are the kernel's. To which priority p it goes, and by which
-- priorities waiters are passed.
module _ (n : ℕ) (ts : List Task) (x p : ℕ) (prio : ℕ → ℕ) (most : n ≤ 64) (small : x < 64) (few : length (task_in ts x).objects ≤ 8) (inside : All (λ o. o < n) (task_in ts x).objects) (once : (o : ℕ) → count_of o (task_in ts x).objects ≤ 1) where
  abbrev all : List ℕ
  all = (task_in ts x).objects

  -- the nodes of x from one object on stand where they should, and t are the kernel's lists
  pub record StandsFrom (prios : List Prio) (os : List ℕ) (l t : Lists) : Type 0 where
    pub seen : seen_lists n l ≡ t
    pub size : length t.pend ≡ n
    pub noded : IsNoded ts l.pend
    pub there : (o : ℕ) → 0 < count_of o os → 0 < times (8 * x + place_of o all) (list_at l.pend o)
    pub tells : (o y : ℕ) → 0 < count_of y (list_at t.pend o) → (y ≡ x → ⊥) → prio_in prios y ≡ prio y
    pub long : x < length prios

  -- x leaves one object
  module _ (prios : List Prio) (i o : ℕ) (front os : List ℕ) (l t : Lists) (parts : front ++ o ∷ os ≡ all) (at : length front ≡ i) (s : StandsFrom prios (o ∷ os) l t) where
    abbrev node : ℕ
    node = 8 * x + i

    eight : i + (1 + length os) ≤ 8
    eight = let long = ap length parts in let sum = length-append front (o ∷ os) in omega (arith, long, sum, at, few)

    own : node / 8 ≡ x
    own = let e = eight in omega (arith, e)

    some : 0 < count_of o all
    some = let total = ap (count_of o) (sym parts) ∙ count-append o front (o ∷ os) in let here = counted o os in omega (arith, total, here)

    low : o < n
    low = object_below n o all inside some

    place : place_of o all ≡ i
    place =
        let total : count_of o all ≡ count_of o front + count_of o (o ∷ os) = ap (count_of o) (sym parts) ∙ count-append o front (o ∷ os) in
        let here = counted o os in let most = once o in
        ap (place_of o) (sym parts) ∙ place_after o front os (omega (arith, total, here, most)) ∙ at

    stood : 0 < times node (list_at l.pend o)
    stood = subst (λ j. 0 < times (8 * x + j) (list_at l.pend o)) place (s.there o (let here = counted o os in omega (arith, here)))

    alone : (m : ℕ) → 0 < times m (list_at l.pend o) → m / 8 ≡ node / 8 → m ≡ node
    alone m here e = s.noded o m here ∙ ap (λ y. 8 * y + place_of o (task_in ts y).objects) (e ∙ own) ∙ ap (λ j. 8 * x + j) place

    abbrev gone : Lists
    gone = record { ready = l.ready; pend = left l.pend o node }

    gone_at : list_at gone.pend o ≡ without node (list_at l.pend o)
    gone_at = list-same (without node) refl l.pend o

    nowhere : total node gone.pend ≡ 0
    nowhere =
        total-none node gone.pend (λ r.
        elim (eqb_tells r o) [
          | inl e ↦ subst (λ q. times node (list_at gone.pend q) ≡ 0) (sym e.1) (ap (times node) gone_at ∙ times-without node (list_at l.pend o))
          | inr e ↦ ap (times node) (get_or-set_other l.pend o r (without node (list_at l.pend o)) [] e.1) ∙ elsewhere r e.1
        ])
      where
        elsewhere : (r : ℕ) → (r ≡ o → ⊥) → times node (list_at l.pend r) ≡ 0
        elsewhere r far =
            elim (leb_tells 1 (times node (list_at l.pend r))) [
              | inl e ↦
                  let is = s.noded r node (omega (arith, e.1)) ∙ ap (λ y. 8 * y + place_of r (task_in ts y).objects) own in
                  let same : place_of r all ≡ place_of o all = omega (arith, is, place) in
                  absurd (far (same_place r o all same (let long = ap length parts in let sum = length-append front (o ∷ os) in omega (arith, place, long, sum, at))))
              | inr e ↦ omega (arith, e.1)
            ]

    absent : IsAbsent node (list_at gone.pend o)
    absent =
        subst (IsAbsent node) (sym gone_at)
        (elim (leb_tells 1 (times (node / 8) (waiters (without node (list_at l.pend o))))) [
          | inl e ↦
              let m = times_waited (node / 8) (without node (list_at l.pend o)) (omega (arith, e.1)) in
              let less = times-without-le m.0 node (list_at l.pend o) in
              let is : m.0 ≡ node = let there = m.1 in alone m.0 (omega (arith, there, less)) m.2 in
              let none : times m.0 (without node (list_at l.pend o)) ≡ 0 = ap (λ z. times z (without node (list_at l.pend o))) is ∙ times-without node (list_at l.pend o) in
              absurd (not-suc-le-zero {n = 0} (let there = m.1 in omega (arith, none, there)))
          | inr e ↦ omega (arith, e.1)
        ])

    -- the kernel's lists then
    abbrev task_gone : Lists
    task_gone = record { ready = t.ready; pend = update_list t.pend o (without x) }

    ready_is : l.ready ≡ t.ready
    ready_is = ap (λ (a : Lists). a.ready) s.seen

    seen_gone : seen_lists n gone ≡ task_gone
    seen_gone =
        let pend_is : take n (tasks_in gone.pend) ≡ left t.pend o x =
        seen-left n l.pend o node alone ∙ ap (λ ps. left ps o (node / 8)) (ap (λ (a : Lists). a.pend) s.seen) ∙ ap (left t.pend o) own in
        ap (λ (r : List (List ℕ)). let a : Lists = record { ready = r; pend = take n (tasks_in gone.pend) } in a) ready_is
        ∙ ap (λ (ps : List (List ℕ)). let a : Lists = record { ready = t.ready; pend = ps } in a) pend_is

    out : count_of x (list_at task_gone.pend o) ≡ 0
    out = ap (count_of x) (list-same (without x) refl t.pend o) ∙ count-without_same x (list_at t.pend o)

    -- its priority is then the new one
    abbrev new_prio : Prio
    new_prio = record { 0 = p }

    abbrev now : List Prio
    now = slice_set prios (node / 8) new_prio

    pub now_other : (y : ℕ) → (y ≡ x → ⊥) → prio_in now y ≡ prio_in prios y
    now_other y far = ap (λ (q : Prio). q.0) (get_or-set_other prios (node / 8) y new_prio no_prio (λ e. far (e ∙ own)))

    pub now_own : prio_in now x ≡ p
    now_own =
        ap (prio_in now) (sym own) ∙ ap (λ (q : Prio). q.0) (get_or-set_same prios (node / 8) new_prio no_prio (let long = s.long in omega (arith, own, long)))

    agree : (y : ℕ) → 0 < count_of y (list_at task_gone.pend o) → prio_in now y ≡ prio y
    agree y here =
        let far : y ≢ x = λ e. not-suc-le-zero {n = 0} (let none = ap (λ z. count_of z (list_at task_gone.pend o)) e ∙ out in omega (arith, here, none)) in
        let same = ap (count_of y) (list-same (without x) refl t.pend o) ∙ count-without_other y x (list_at t.pend o) far in
        now_other y far ∙ s.tells o y (omega (arith, here, same)) far

    block_same : wait (prio_in now) x p o task_gone ≡ wait prio x p o task_gone
    block_same =
        ap (λ i. replicate i Plain ++ JoinForward (Pend o) x i ∷ JoinBack (Pend o) x i ∷ []) (place-same (prio_in now) prio p (list_at task_gone.pend o) agree)

    abbrev passed : ℕ
    passed = wait_place (prio_by now) p (list_at gone.pend o)

    passed_is : passed ≡ wait_place prio p (list_at task_gone.pend o)
    passed_is =
        let tasks : map (λ m. m / 8) (list_at gone.pend o) ≡ list_at task_gone.pend o =
        sym (list_at-tasks gone.pend o) ∙ sym (list_at-take n (tasks_in gone.pend) o low) ∙ ap (λ (a : Lists). list_at a.pend o) seen_gone in
        place-tasks (prio_in now) p (list_at gone.pend o) ∙ ap (wait_place (prio_in now) p) tasks ∙ place-same (prio_in now) prio p (list_at task_gone.pend o) agree

    -- and after it has joined again
    abbrev back : Lists
    back = record { ready = l.ready; pend = inserted gone.pend o passed node }

    abbrev task_back : Lists
    task_back = record { ready = t.ready; pend = again prio x p o t.pend }

    seen_back : seen_lists n back ≡ task_back
    seen_back =
        let pend_is : take n (tasks_in back.pend) ≡ again prio x p o t.pend =
        seen-inserted n gone.pend o passed node
        ∙ ap (λ ps. inserted ps o passed (node / 8)) (ap (λ (a : Lists). a.pend) seen_gone)
        ∙ ap (inserted task_gone.pend o passed) own
        ∙ ap (λ i. inserted task_gone.pend o i x) passed_is in
        ap (λ (r : List (List ℕ)). let a : Lists = record { ready = r; pend = take n (tasks_in back.pend) } in a) ready_is
        ∙ ap (λ (ps : List (List ℕ)). let a : Lists = record { ready = t.ready; pend = ps } in a) pend_is

    noded_back : IsNoded ts back.pend
    noded_back =
        λ r m here.
        let less = times-left-le m node l.pend o r in
        elim (eqb_tells node m) [
          | inl e ↦ subst (λ z. z ≡ 8 * (z / 8) + place_of r (task_in ts (z / 8)).objects) e.1 (at_node r (subst (λ z. 0 < times z (list_at back.pend r)) (sym e.1) here))
          | inr e ↦
              let more = times-inserted-le m node gone.pend o passed r in let other = times_other m node (list_at gone.pend r) e.1 in
              s.noded r m (omega (arith, here, more, other, less))
        ]
      where
        at_node : (r : ℕ) → 0 < times node (list_at back.pend r) → node ≡ 8 * (node / 8) + place_of r (task_in ts (node / 8)).objects
        at_node r here =
            elim (eqb_tells r o) [
              | inl e ↦
                  sym (ap (λ y. 8 * y + place_of r (task_in ts y).objects) own ∙ ap (λ q. 8 * x + place_of q all) e.1 ∙ ap (λ j. 8 * x + j) place)
              | inr e ↦
                  let same : list_at back.pend r ≡ list_at gone.pend r = get_or-set_other gone.pend o r (insert (list_at gone.pend o) passed node) [] e.1 in
                  let less = times-left-le node node l.pend o r in let is = ap (times node) same in
                  s.noded r node (omega (arith, here, is, less))
            ]

    there_back : (q : ℕ) → 0 < count_of q os → 0 < times (8 * x + place_of q all) (list_at back.pend q)
    there_back q more =
        let total = ap (count_of o) (sym parts) ∙ count-append o front (o ∷ os) in
        let here = counted o os in let most = once o in
        let far : q ≢ o = λ e. let two = subst (λ z. 0 < count_of z os) e more in not-suc-le-zero {n = 0} (omega (arith, total, here, most, two)) in
        let same : list_at back.pend q ≡ list_at l.pend q =
        get_or-set_other gone.pend o q (insert (list_at gone.pend o) passed node) [] far ∙ get_or-set_other l.pend o q (without node (list_at l.pend o)) [] far in
        subst (λ (ys : List ℕ). 0 < times (8 * x + place_of q all) ys) (sym same) (s.there q (omega (arith, more)))

    tells_back : (q y : ℕ) → 0 < count_of y (list_at task_back.pend q) → (y ≡ x → ⊥) → prio_in now y ≡ prio y
    tells_back q y here far =
        let same = count-again_other prio x p o q y t.pend (λ e. far (sym e)) (let size = s.size in let in_range = low in omega (arith, size, in_range)) in
        now_other y far ∙ s.tells q y (omega (arith, here, same)) far

    pub next : StandsFrom now os back task_back
    next =
        record {
          seen = seen_back;
          size = length-again prio x p o t.pend ∙ s.size;
          noded = noded_back;
          there = there_back;
          tells = tells_back;
          long = let same = length-set prios (node / 8) new_prio in let long = s.long in omega (arith, same, long);
        }

  -- the kernel's lists after x left each of these and joined it again
  abbrev pub lists_rewaited : List ℕ → Lists → Lists
  lists_rewaited os t = record { ready = t.ready; pend = rewaited prio x p os t.pend }

  -- what comes of the links from one object on
  pub record Rewaited (prios : List Prio) (i : ℕ) (os : List ℕ) (l t : Lists) : Type 0 where
    pub fits : AreFit n prios (rewait_links x p i os) l
    pub blocks : in_order (task_blocks prios (rewait_links x p i os)) t ≡ in_order (rewait_blocks prio x p os) t
    pub seen : seen_lists n (lists_after prios (rewait_links x p i os) l) ≡ lists_rewaited os t
    pub noded : IsNoded ts (lists_after prios (rewait_links x p i os) l).pend
    pub others : (y : ℕ) → (y ≡ x → ⊥) → prio_in (prios_past prios (rewait_links x p i os)) y ≡ prio_in prios y
    pub mine : (prio_in prios x ≡ p) ⊎ (0 < length os) → prio_in (prios_past prios (rewait_links x p i os)) x ≡ p
    pub long : length (prios_past prios (rewait_links x p i os)) ≡ length prios

  pub rewaits : (prios : List Prio) (i : ℕ) (front os : List ℕ) (l t : Lists) → front ++ os ≡ all → length front ≡ i → StandsFrom prios os l t → Rewaited prios i os l t
  rewaits prios i front [] l t parts at s =
      record { fits = tt; blocks = refl; seen = s.seen; noded = s.noded; others = λ y far. refl; mine = λ e. elim e [ inl h ↦ h | inr h ↦ absurd (not-suc-le-zero {n = 0} h) ]; long = refl }
  rewaits prios i front (o ∷ os) l t parts at s =
      let m = 8 * x + i in
      let q : Prio = record { 0 = p } in
      let now = slice_set prios (m / 8) q in
      let left_out = gone prios i o front os l t parts at s in
      let joined = back prios i o front os l t parts at s in
      let w = wait prio x p o (task_gone prios i o front os l t parts at s) in
      let r = task_blocks now (rewait_links x p (i + 1) os) in
      let rest = rewaits now (i + 1) (front ++ o ∷ []) os joined (task_back prios i o front os l t parts at s) (append_assoc front (o ∷ []) os ∙ parts) (length-append front (o ∷ []) ∙ ap (λ j. j + 1) at) (next prios i o front os l t parts at s) in
      let here : after (wait (prio_by now) m p o left_out) left_out ≡ joined = waited (prio_by now) m p o left_out in
      let there : after w (task_gone prios i o front os l t parts at s) ≡ task_back prios i o front os l t parts at s = ap (λ (h : Halves). h.forward) (does_wait prio x p o (task_gone prios i o front os l t parts at s)) in
      let e = eight prios i o front os l t parts at s in
      let is_low = low prios i o front os l t parts at s in
      let node_low : m < 512 = omega (arith, e, small) in
      let object_low : o < 64 = omega (arith, is_low, most) in
      record {
        fits = ((node_low, object_low, stood prios i o front os l t parts at s), ((node_low, object_low, is_low, nowhere prios i o front os l t parts at s, absent prios i o front os l t parts at s), subst (AreFit n now (rewait_links x p (i + 1) os)) (sym here) rest.fits));
        blocks = ap (λ y. in_order (leave y o ∷ wait (prio_in now) y p o ∷ r) t) (own prios i o front os l t parts at s)
            ∙ ap (λ ms. leave x o t ++ (ms ++ in_order r (after ms (task_gone prios i o front os l t parts at s)))) (block_same prios i o front os l t parts at s)
            ∙ ap (λ ns. leave x o t ++ (w ++ ns)) (ap (in_order r) there ∙ rest.blocks ∙ ap (in_order (rewait_blocks prio x p os)) (sym there));
        seen = ap (λ a. seen_lists n (lists_after now (rewait_links x p (i + 1) os) a)) here ∙ rest.seen;
        noded = subst (λ (a : Lists). IsNoded ts (lists_after now (rewait_links x p (i + 1) os) a).pend) (sym here) rest.noded;
        others = λ y far. rest.others y far ∙ now_other prios i o front os l t parts at s y far;
        mine = λ either. rest.mine (inl (now_own prios i o front os l t parts at s));
        long = rest.long ∙ length-set prios (m / 8) q;
      }
