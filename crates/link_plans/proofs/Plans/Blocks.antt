-- The blocks of a plan, one after another.
use Rattle.std.proofs.Common.{◌≡◌, ℕ, zero, suc, ◌+◌, ◌-◌, ◌*◌, ◌<◌, ◌≤◌, Bool, Option, Some, None, List, [], ◌∷◌, ◌++◌, length, drop, get_or, refl, sym, ap, ◌∙◌, arith, add-one, append_assoc}
use Rattle.std.proofs.Math.Nat.{not-suc-le-zero}
use Rattle.std.proofs.Math.Seq.{drop-cons}
use Rattle.std.specs.Prelude.{◌==◌, slice_get}
use Rattle.kern_base.specs.declared.outcomes.Who.{Who}
use Rattle.kern_base.specs.declared.outcomes.Who.TheVariants.{First, All as Every, Matching}
use Rattle.kern_model.specs.State.{Task, task_in}
use Rattle.micro_steps.specs.declared.link.Link.{Link}
use Rattle.micro_steps.specs.declared.link.Link.TheVariants as link
use Rattle.link_plans.specs.declared.plan.Plan.{Plan}
use Rattle.link_plans.specs.Plans.{leave_links, ready_links, wake_links, wakes_links, wakes_left, look_links, matching_links, matching_left, woken_left, woken_links, wait_links, block_links}
use Rattle.link_plans.proofs.Renewals.Links.{next_of_some, next_of_none}

-- the links of a wake

leave_in : (x i made : ℕ) (os : List ℕ) (ks : List Link) → made < length os → slice_get (leave_links x i os ++ ks) made ≡ Some (link.Leave (8 * x + (i + made)) (record { 0 = get_or os made 0 }))
leave_in x i made [] ks h = absurd (not-suc-le-zero {n = made} (omega (arith, h)))
leave_in x i zero (o ∷ os) ks h = let e : i + 0 ≡ i = omega arith in rw e refl
leave_in x i (suc made) (o ∷ os) ks h = let e : i + suc made ≡ (i + 1) + made = omega arith in rw e (leave_in x (i + 1) made os ks (omega (arith, h)))

-- the next object is left
pub leave_at : (x made node o h : ℕ) (t : Task) (os : List ℕ) → t.objects ≡ os → made < length os → node ≡ 8 * x + made → o ≡ get_or os made 0 → Some (link.Leave node (record { 0 = o })) ≡ slice_get (wake_links x h t) made
leave_at x made node o h t os these some number is =
    let ready = ready_links t.suspended x t.prio h in
    let same : 8 * x + (0 + made) ≡ node = omega (arith, number) in
    sym (ap (λ ids. slice_get (leave_links x 0 ids ++ ready) made) these
    ∙ leave_in x 0 made os ready some
    ∙ ap (λ m. Some (link.Leave m (record { 0 = get_or os made 0 }))) same
    ∙ ap (λ q. Some (link.Leave node (record { 0 = q }))) (sym is))

past_leaves : (x i more : ℕ) (os : List ℕ) (ks : List Link) → slice_get (leave_links x i os ++ ks) (length os + more) ≡ slice_get ks more
past_leaves x i more [] ks = let e : 0 + more ≡ more = omega arith in ap (slice_get ks) e
past_leaves x i more (o ∷ os) ks =
    let e : suc (length os) + more ≡ suc (length os + more) = omega arith in
    ap (slice_get (leave_links x i (o ∷ os) ++ ks)) e ∙ past_leaves x (i + 1) more os ks

past : (x h : ℕ) (t : Task) (os : List ℕ) (made more : ℕ) → t.objects ≡ os → made ≡ length os + more → slice_get (wake_links x h t) made ≡ slice_get (ready_links t.suspended x t.prio h) more
past x h t os made more these e =
    let ready = ready_links t.suspended x t.prio h in
    ap (λ ids. slice_get (leave_links x 0 ids ++ ready) made) these ∙ ap (slice_get (leave_links x 0 os ++ ready)) e ∙ past_leaves x 0 more os ready

-- its objects are all left, and it is not suspended
pub ready_at : (x made h : ℕ) (b : Bool) (t : Task) (os : List ℕ) → t.objects ≡ os → made ≡ length os → t.suspended ≡ 0 → b ≡ (t.prio == h) → Some (link.Ready (record { 0 = x }) (record { 0 = t.prio }) b) ≡ slice_get (wake_links x h t) made
ready_at x made h b t os these all free is =
    sym (past x h t os made 0 these (omega (arith, all))
    ∙ ap (λ n. slice_get (ready_links n x t.prio h) 0) free
    ∙ ap (λ c. Some (link.Ready (record { 0 = x }) (record { 0 = t.prio }) c)) (sym is))

no_ready : (n x p h more : ℕ) → (n ≡ 0 → more ≡ 0 → ⊥) → None ≡ slice_get (ready_links n x p h) more
no_ready zero x p h zero never = absurd (never refl refl)
no_ready zero x p h (suc more) never = refl
no_ready (suc n) x p h more never = refl

-- no link of the wake is left
pub wake_none : (x made h : ℕ) (t : Task) (os : List ℕ) → t.objects ≡ os → length os ≤ made → (t.suspended ≡ 0 → made ≡ length os → ⊥) → None ≡ slice_get (wake_links x h t) made
wake_none x made h t os these few never =
    let more = made - length os in
    no_ready t.suspended x t.prio h more (λ free none. never free (omega (arith, few, none))) ∙ sym (past x h t os made more these (omega (arith, few)))

-- the links of looking at a waiter

pub look_first : (r : Option ℕ) (x h made : ℕ) (t : Task) → made ≡ 0 → Some link.Plain ≡ slice_get (look_links r x h t) made
look_first None x h made t e = rw e refl
look_first (Some ready) x h made t e = rw e refl

pub look_none : (r : Option ℕ) (x h made : ℕ) (t : Task) → r ≡ None → (made ≡ 0 → ⊥) → None ≡ slice_get (look_links r x h t) made
look_none r x h zero t e some = absurd (some refl)
look_none r x h (suc made) t e some = rw e refl

pub look_next : (r : Option ℕ) (ready x h made : ℕ) (t : Task) (link : Option Link) → r ≡ Some ready → (made ≡ 0 → ⊥) → link ≡ slice_get (wake_links x h t) (made - 1) → link ≡ slice_get (look_links r x h t) made
look_next r ready x h zero t link e some is = absurd (some refl)
look_next r ready x h (suc made) t link e some is = let one : suc made - 1 ≡ made = omega arith in rw e (is ∙ ap (slice_get (wake_links x h t)) one)

-- What is left of links that are made task after task: `one` has those of a task, `all` those of several, and `left` what is left
-- where so many of the first are made.
module _ (one : ℕ → List Link) (all : List ℕ → List Link) (left : ℕ → List ℕ → List Link) (first : (made x : ℕ) (xs : List ℕ) → left made (x ∷ xs) ≡ drop made (one x) ++ all xs) (begun : (xs : List ℕ) → left 0 xs ≡ all xs) where
  in_hand : (i : ℕ) (xs ds : List ℕ) → ds ≡ xs → i < length xs → drop i xs ≡ get_or ds i 0 ∷ drop (i + 1) xs
  in_hand i xs ds same inside = rw (add-one, same) (drop-cons xs i 0 inside)

  each_next : (made i : ℕ) (xs ds : List ℕ) (link : Link) → ds ≡ xs → i < length xs → Some link ≡ slice_get (one (get_or ds i 0)) made → left made (drop i xs) ≡ link ∷ left (made + 1) (drop i xs)
  each_next made i xs ds link same inside e =
      let x = get_or ds i 0 in let rest = drop (i + 1) xs in
      rw (in_hand i xs ds same inside)
      (first made x rest ∙ ap (λ ks. ks ++ all rest) (next_of_some (one x) made link e) ∙ ap (λ ks. link ∷ ks) (sym (first (made + 1) x rest)))

  each_skip : (made i : ℕ) (xs ds : List ℕ) → ds ≡ xs → i < length xs → None ≡ slice_get (one (get_or ds i 0)) made → left 0 (drop (i + 1) xs) ≡ left made (drop i xs)
  each_skip made i xs ds same inside e =
      let x = get_or ds i 0 in let rest = drop (i + 1) xs in
      rw (in_hand i xs ds same inside) (begun rest ∙ sym (first made x rest ∙ ap (λ ks. ks ++ all rest) (next_of_none (one x) made e)))

-- none of their links are made
pub wakes_begun : (ts : List Task) (h : ℕ) (xs : List ℕ) → wakes_left ts h 0 xs ≡ wakes_links ts h xs
wakes_begun ts h [] = refl
wakes_begun ts h (x ∷ xs) = let t = task_in ts x in append_assoc (leave_links x 0 t.objects) (ready_links t.suspended x t.prio h) (wakes_links ts h xs)

pub matching_begun : (ts : List Task) (bits h : ℕ) (xs : List ℕ) → matching_left ts bits h 0 xs ≡ matching_links ts bits h xs
matching_begun ts bits h [] = refl
matching_begun ts bits h (x ∷ xs) = refl

-- of tasks that are woken or looked at
module _ (ts : List Task) (q : Plan) where
  abbrev in_ts : Who → ℕ → List Link
  in_ts w x = woken_links w q.bits q.compared.0 x (task_in ts x)

  abbrev wakes_of : ℕ → List ℕ → List Link
  wakes_of made xs = wakes_left ts q.compared.0 made xs

  abbrev looks_of : ℕ → List ℕ → List Link
  looks_of made xs = matching_left ts q.bits q.compared.0 made xs

  -- the plan with so many links made of its i-th task
  abbrev pub plan_at : ℕ → ℕ → Plan
  plan_at i made = record q { task = i; made = made }

  pub woken_next : (w : Who) (i made : ℕ) (ds : List ℕ) (t : Task) (link : Link) → ds ≡ q.woken.items → i < length q.woken.items → t ≡ task_in ts (get_or ds i 0) → Some link ≡ slice_get (woken_links w q.bits q.compared.0 (get_or ds i 0) t) made → woken_left w ts (plan_at i made) ≡ link ∷ woken_left w ts (plan_at i (made + 1))
  woken_next w i made ds t link same inside is e = by_who w (e ∙ ap (λ u. slice_get (woken_links w q.bits q.compared.0 (get_or ds i 0) u) made) is)
    where
      by_who : (w : Who) → Some link ≡ slice_get (in_ts w (get_or ds i 0)) made → woken_left w ts (plan_at i made) ≡ link ∷ woken_left w ts (plan_at i (made + 1))
      by_who First = each_next (in_ts First) (wakes_links ts q.compared.0) wakes_of (λ m x xs. refl) (wakes_begun ts q.compared.0) made i q.woken.items ds link same inside
      by_who Every = each_next (in_ts Every) (wakes_links ts q.compared.0) wakes_of (λ m x xs. refl) (wakes_begun ts q.compared.0) made i q.woken.items ds link same inside
      by_who Matching = each_next (in_ts Matching) (matching_links ts q.bits q.compared.0) looks_of (λ m x xs. refl) (matching_begun ts q.bits q.compared.0) made i q.woken.items ds link same inside

  pub woken_skip : (w : Who) (i made : ℕ) (ds : List ℕ) (t : Task) → ds ≡ q.woken.items → i < length q.woken.items → t ≡ task_in ts (get_or ds i 0) → None ≡ slice_get (woken_links w q.bits q.compared.0 (get_or ds i 0) t) made → woken_left w ts (plan_at (i + 1) 0) ≡ woken_left w ts (plan_at i made)
  woken_skip w i made ds t same inside is e = by_who w (e ∙ ap (λ u. slice_get (woken_links w q.bits q.compared.0 (get_or ds i 0) u) made) is)
    where
      by_who : (w : Who) → None ≡ slice_get (in_ts w (get_or ds i 0)) made → woken_left w ts (plan_at (i + 1) 0) ≡ woken_left w ts (plan_at i made)
      by_who First = each_skip (in_ts First) (wakes_links ts q.compared.0) wakes_of (λ m x xs. refl) (wakes_begun ts q.compared.0) made i q.woken.items ds same inside
      by_who Every = each_skip (in_ts Every) (wakes_links ts q.compared.0) wakes_of (λ m x xs. refl) (wakes_begun ts q.compared.0) made i q.woken.items ds same inside
      by_who Matching = each_skip (in_ts Matching) (matching_links ts q.bits q.compared.0) looks_of (λ m x xs. refl) (matching_begun ts q.bits q.compared.0) made i q.woken.items ds same inside

-- the caller waits for its next object
waits_of : (x p i made : ℕ) (os : List ℕ) → made < length os → drop made (wait_links x p i os) ≡ link.Wait (8 * x + (i + made)) (record { 0 = p }) (record { 0 = get_or os made 0 }) ∷ drop (suc made) (wait_links x p i os)
waits_of x p i made [] h = absurd (not-suc-le-zero {n = made} (omega (arith, h)))
waits_of x p i zero (o ∷ os) h = let e : i + 0 ≡ i = omega arith in rw e refl
waits_of x p i (suc made) (o ∷ os) h = let e : i + suc made ≡ (i + 1) + made = omega arith in rw e (waits_of x p (i + 1) made os (omega (arith, h)))

no_waits_of : (x p i made : ℕ) (os : List ℕ) → length os ≤ made → drop made (wait_links x p i os) ≡ []
no_waits_of x p i zero [] h = refl
no_waits_of x p i (suc made) [] h = refl
no_waits_of x p i zero (o ∷ os) h = absurd (not-suc-le-zero {n = 0} (omega (arith, h)))
no_waits_of x p i (suc made) (o ∷ os) h = no_waits_of x p (i + 1) made os (omega (arith, h))

pub wait_next : (ts : List Task) (x p made node : ℕ) (os : List ℕ) → p ≡ (task_in ts x).prio → (made ≡ 0 → ⊥) → made - 1 < length os → node ≡ 8 * x + (made - 1) → drop made (block_links ts x os) ≡ link.Wait node (record { 0 = p }) (record { 0 = get_or os (made - 1) 0 }) ∷ drop (made + 1) (block_links ts x os)
wait_next ts x p zero node os is some h e = absurd (some refl)
wait_next ts x p (suc made) node os is some h e =
    let one : suc made - 1 ≡ made = omega arith in
    let zero_more : 0 + made ≡ made = omega arith in
    let h' : made < length os = omega (arith, h) in
    let e' : 8 * x + (0 + made) ≡ node = omega (arith, e) in
    rw (one, add-one, is)
    (waits_of x (task_in ts x).prio 0 made os h' ∙ ap (λ n. link.Wait n (record { 0 = (task_in ts x).prio }) (record { 0 = get_or os made 0 }) ∷ drop (suc made) (wait_links x (task_in ts x).prio 0 os)) e')

pub wait_none : (ts : List Task) (x made : ℕ) (os : List ℕ) → (made ≡ 0 → ⊥) → length os ≤ made - 1 → drop made (block_links ts x os) ≡ []
wait_none ts x zero os some h = absurd (some refl)
wait_none ts x (suc made) os some h = no_waits_of x (task_in ts x).prio 0 made os (omega (arith, h))
