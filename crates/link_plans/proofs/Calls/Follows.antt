-- Links lead from the kernel's lists to those that their blocks lead to; so a renewal can follow them.
use Rattle.std.proofs.Common.{◌≡◌, ℕ, zero, suc, ◌+◌, ◌*◌, ◌/◌, ◌<◌, ◌≤◌, Bool, true, false, List, [], ◌∷◌, ◌++◌, length, map, take, insert, refl, sym, ap, ◌∙◌, subst, arith, inl, inr, length-set, append_assoc, get_or-set_same, get_or-set_other}
use Rattle.std.specs.Prelude.{slice_set, if◌then◌else◌}
use Rattle.std.proofs.lemmas.Bool.Decides.{eqb_tells, leb_tells}
use Rattle.std.proofs.lemmas.List.{length-map, length-take}
use Rattle.kern_base.specs.declared.numbers.Prio.{Prio}
use Rattle.kern_model.specs.State.{Kernel, Task, task_at, task_in, count_of, waits_for_nothing}
use Rattle.kern_model.specs.Micro.{Block, Halves, Lists, after, in_order, lists_of, plain, wait_place}
use Rattle.kern_model.specs.Inherit.{renew_blocks}
use Rattle.kern_model.specs.Valid.{IsLinked}
use Rattle.kern_model.proofs.Lemmas.{list-same, does_wait, in_order-append, after-append}
use Rattle.links.specs.Chain.{times, list_at, inserted, left, without}
use Rattle.pend_lists.specs.Pending.{waiters}
use Rattle.pend_lists.proofs.Tasks.{inserted_once, left_once, one_node}
use Rattle.micro_steps.specs.declared.link.Link.{Link}
use Rattle.micro_steps.specs.declared.link.Link.TheVariants as link
use Rattle.micro_steps.specs.Blocks.{block_of, no_prio, place_at, prio_by, prio_in}
use Rattle.micro_steps.specs.Halfway.{seen_lists, tasks_in}
use Rattle.micro_steps.specs.Whole.{AreFit, FitsLink, lists_after, prios_after, task_block, task_blocks}
use Rattle.micro_steps.proofs.Seen.{list_at-tasks, list_at-take}
use Rattle.micro_steps.proofs.Wholes.{place-tasks}
use Rattle.link_plans.specs.Plans.{block_links, leave_links, ready_links, wait_links, wakes_links}
use Rattle.link_plans.specs.Fits.{AreKernels}
use Rattle.link_plans.specs.Renewals.{IsRenewalAfter, MayRenew, MayRenewAfter, prios_past, renewal_links}
use Rattle.link_plans.proofs.Fits.Waits.{waited}
use Rattle.link_plans.proofs.Nodes.Waiters.{times-count}
use Rattle.link_plans.proofs.Renewals.Seen.{seen-inserted, seen-left}
use Rattle.link_plans.proofs.Renewals.Moves.{blocks-append, fits-append, lists-append}
use Rattle.link_plans.proofs.Nodes.Past.{links_keep}
use Rattle.link_plans.proofs.Renewals.Fits.{renewals_hold}

-- no task stands twice in a list of waiters, and there are at least so many lists
record AreSingle (n : ℕ) (l : Lists) : Type 0 where
  once : (o x : ℕ) → times x (waiters (list_at l.pend o)) ≤ 1
  size : n ≤ length l.pend

at_most : (b : Bool) (m : ℕ) → m ≤ 1 → (if b then 0 else m) ≤ 1
at_most true m h = omega arith
at_most false m h = h

-- the lists of a kernel are such
single : (k : Kernel) (l : Lists) → IsLinked k → AreKernels k l → AreSingle (length k.objects) l
single k l v same =
    let n = length k.objects in
    let pend : take n (tasks_in l.pend) ≡ k.pend = ap (λ (a : Lists). a.pend) same.lists in
    let long = ap length pend in
    let there = length-take n (tasks_in l.pend) in
    let mapped = length-map l.pend (map (λ m. m / 8)) in
    record {
      once = λ o x.
          elim (leb_tells (o + 1) n) [
            | inl e ↦
                let tasks : waiters (list_at l.pend o) ≡ list_at k.pend o =
                sym (list_at-tasks l.pend o) ∙ sym (list_at-take n (tasks_in l.pend) o (omega (arith, e.1))) ∙ ap (λ ls. list_at ls o) pend in
                let is = ap (times x) tasks ∙ times-count x (list_at k.pend o) ∙ v.lists.waiters o x in
                let most = at_most (waits_for_nothing (task_at k x).waiting) (count_of o (task_at k x).objects) ((v.tasks.each_task x).different o) in
                omega (arith, is, most)
            | inr e ↦ let none = ap (λ xs. times x (waiters xs)) (same.past o (omega (arith, e.1))) in omega (arith, none)
          ];
      size = let lists = v.sizes.pend in omega (arith, long, there, mapped, lists);
    }

-- a link keeps this
single_after : (n : ℕ) (prios : List Prio) (k : Link) (l : Lists) → FitsLink n k l → AreSingle n l → AreSingle n (after (block_of prios k l) l)
single_after n prios (link.Unready x p) l fit s = record { once = s.once; size = s.size }
single_after n prios (link.Ready x p tail) l fit s = record { once = s.once; size = s.size }
single_after n prios link.Plain l fit s = s
single_after n prios (link.Leave m o) l fit s =
    record {
      once = λ q x.
          elim (eqb_tells q o.0) [
            | inl e ↦ subst (λ (xs : List ℕ). times x (waiters xs) ≤ 1) (sym (ap (list_at (left l.pend o.0 m)) e.1 ∙ list-same (without m) refl l.pend o.0)) (left_once (list_at l.pend o.0) m (s.once o.0) x)
            | inr e ↦ subst (λ (xs : List ℕ). times x (waiters xs) ≤ 1) (sym (get_or-set_other l.pend o.0 q (without m (list_at l.pend o.0)) [] e.1)) (s.once q x)
          ];
      size = let same = length-set l.pend o.0 (without m (list_at l.pend o.0)) in let size = s.size in omega (arith, same, size);
    }
single_after n prios (link.Wait m p o) l fit s =
    let w = wait_place (prio_by prios) p.0 (list_at l.pend o.0) in
    let joined = insert (list_at l.pend o.0) w m in
    subst (AreSingle n) (sym (waited (prio_by prios) m p.0 o.0 l))
    (record {
      once = λ q x.
          elim (eqb_tells q o.0) [
            | inl e ↦
                let at = get_or-set_same l.pend o.0 joined [] (let size = s.size in omega (arith, size, fit.2)) in
                subst (λ (xs : List ℕ). times x (waiters xs) ≤ 1) (sym (ap (list_at (inserted l.pend o.0 w m)) e.1 ∙ at)) (inserted_once (list_at l.pend o.0) w m (s.once o.0) fit.4 x)
            | inr e ↦ subst (λ (xs : List ℕ). times x (waiters xs) ≤ 1) (sym (get_or-set_other l.pend o.0 q joined [] e.1)) (s.once q x)
          ];
      size = let same = length-set l.pend o.0 joined in let size = s.size in omega (arith, same, size);
    })

-- a link does to the kernel's lists of tasks what its block does
leads_one : (n : ℕ) (prios : List Prio) (k : Link) (l : Lists) → FitsLink n k l → AreSingle n l → seen_lists n (after (block_of prios k l) l) ≡ after (task_block prios k (seen_lists n l)) (seen_lists n l)
leads_one n prios (link.Unready x p) l fit s = refl
leads_one n prios (link.Ready x p tail) l fit s = refl
leads_one n prios link.Plain l fit s = refl
leads_one n prios (link.Leave m o) l fit s =
    ap (λ (ps : List (List ℕ)). let a : Lists = record { ready = l.ready; pend = ps } in a) (seen-left n l.pend o.0 m (λ y some e. one_node (list_at l.pend o.0) (s.once o.0) y m some fit.2 e))
leads_one n prios (link.Wait m p o) l fit s =
    let f = seen_lists n l in
    let w = wait_place (prio_by prios) p.0 (list_at l.pend o.0) in
    let tasks : map (λ y. y / 8) (list_at l.pend o.0) ≡ list_at f.pend o.0 = sym (list_at-tasks l.pend o.0) ∙ sym (list_at-take n (tasks_in l.pend) o.0 fit.2) in
    let passed : w ≡ wait_place (prio_in prios) p.0 (list_at f.pend o.0) = place-tasks (prio_in prios) p.0 (list_at l.pend o.0) ∙ ap (wait_place (prio_in prios) p.0) tasks in
    ap (seen_lists n) (waited (prio_by prios) m p.0 o.0 l)
    ∙ ap (λ (ps : List (List ℕ)). let a : Lists = record { ready = l.ready; pend = ps } in a) (seen-inserted n l.pend o.0 w m ∙ ap (λ i. inserted f.pend o.0 i (m / 8)) passed)
    ∙ sym (ap (λ (h : Halves). h.forward) (does_wait (prio_in prios) (m / 8) p.0 o.0 f))

links_lead : (n : ℕ) (prios : List Prio) (ks : List Link) (l : Lists) → AreFit n prios ks l → AreSingle n l → seen_lists n (lists_after prios ks l) ≡ after (in_order (task_blocks prios ks) (seen_lists n l)) (seen_lists n l)
links_lead n prios [] l fit s = refl
links_lead n prios (k ∷ ks) l fit s =
    let now = prios_after k prios in
    let next = after (block_of now k l) l in
    let b = task_block now k (seen_lists n l) in
    links_lead n now ks next fit.1 (single_after n now k l fit.0 s)
    ∙ ap (λ a. after (in_order (task_blocks now ks) a) a) (leads_one n now k l fit.0 s)
    ∙ sym (after-append b (in_order (task_blocks now ks) (after b (seen_lists n l))) (seen_lists n l))

pub size-past : (prios : List Prio) (ks : List Link) → length (prios_past prios ks) ≡ length prios
size-past prios [] = refl
size-past prios (link.Unready x p ∷ ks) = size-past prios ks
size-past prios (link.Ready x p tail ∷ ks) = size-past prios ks
size-past prios (link.Plain ∷ ks) = size-past prios ks
size-past prios (link.Leave m o ∷ ks) = size-past prios ks
size-past prios (link.Wait m p o ∷ ks) = size-past (slice_set prios (m / 8) p) ks ∙ length-set prios (m / 8) p

pub renewals_follow : (ts : List Task) (prios : List Prio) (tail : Bool) (links : List Link) (bs : List Block) (k j : Kernel) (l : Lists) → MayRenewAfter ts prios links bs k j l → IsRenewalAfter ts prios tail links bs k j l
renewals_follow ts prios tail links bs k j l h =
    let n = length k.objects in
    let next = lists_after prios links l in
    let now = prios_past prios links in
    let there : after (in_order bs (lists_of k)) (lists_of k) ≡ lists_of j = ap (λ (a : Halves). a.forward) h.leads in
    let seen : seen_lists n next ≡ lists_of j =
    links_lead n prios links l h.fits (single k l h.linked h.lists)
    ∙ ap (λ cs. after (in_order cs (seen_lists n l)) (seen_lists n l)) h.blocks
    ∙ ap (λ a. after (in_order bs a) a) h.lists.lists
    ∙ there in
    let lists : AreKernels j next =
    record {
      lists = ap (λ m. seen_lists m next) h.objects ∙ seen;
      past = λ o past. links_keep n prios links l h.fits h.lists.past o (let same = h.objects in omega (arith, same, past));
      noded = h.noded;
    } in
    let may : MayRenew ts now j next = record { linked = h.linked_after; lists = lists; tells = h.tells; size = size-past prios links ∙ h.size; known = h.known } in
    let r = renewals_hold ts now tail j next may in
    let ks = renewal_links ts tail j in
    let end = link.Plain ∷ [] in
    let rs = renew_blocks (place_at tail) j in
    let made = task_blocks now ks in
    let rest : in_order (made ++ plain ∷ []) (lists_of j) ≡ in_order (rs ++ plain ∷ []) (lists_of j) =
    in_order-append made (plain ∷ []) (lists_of j)
    ∙ ap (λ ms. ms ++ in_order (plain ∷ []) (after ms (lists_of j))) r.blocks
    ∙ sym (in_order-append rs (plain ∷ []) (lists_of j)) in
    record {
      fits = fits-append n prios links (ks ++ end) l h.fits (fits-append n now ks end next (subst (λ m. AreFit m now ks next) h.objects r.fits) (tt, tt));
      blocks = ap (λ cs. in_order cs (lists_of k)) (blocks-append prios links (ks ++ end) ∙ ap (λ cs. cs ++ task_blocks now (ks ++ end)) h.blocks ∙ ap (λ cs. bs ++ cs) (blocks-append now ks end))
          ∙ in_order-append bs (made ++ plain ∷ []) (lists_of k)
          ∙ ap (λ a. in_order bs (lists_of k) ++ in_order (made ++ plain ∷ []) a) there
          ∙ ap (λ ms. in_order bs (lists_of k) ++ ms) rest
          ∙ ap (λ a. in_order bs (lists_of k) ++ in_order (rs ++ plain ∷ []) a) (sym there)
          ∙ sym (in_order-append bs (rs ++ plain ∷ []) (lists_of k))
          ∙ ap (λ cs. in_order cs (lists_of k)) (sym (append_assoc bs rs (plain ∷ [])));
      lists = subst (AreKernels _) (sym (lists-append prios links (ks ++ end) l ∙ lists-append now ks end next)) r.lists;
    }

pub links_lead_on : (prios : List Prio) (ks : List Link) (k : Kernel) (l : Lists) → IsLinked k → AreKernels k l → AreFit (length k.objects) prios ks l → seen_lists (length k.objects) (lists_after prios ks l) ≡ after (in_order (task_blocks prios ks) (lists_of k)) (lists_of k)
links_lead_on prios ks k l v same fit =
    links_lead (length k.objects) prios ks l fit (single k l v same) ∙ ap (λ a. after (in_order (task_blocks prios ks) a) a) same.lists

-- The priorities after the links of a call.

leaves_keep : (prios : List Prio) (x i : ℕ) (os : List ℕ) (ks : List Link) → prios_past prios (leave_links x i os ++ ks) ≡ prios_past prios ks
leaves_keep prios x i [] ks = refl
leaves_keep prios x i (o ∷ os) ks = leaves_keep prios x (i + 1) os ks

ready_keep : (prios : List Prio) (s x p h : ℕ) (ks : List Link) → prios_past prios (ready_links s x p h ++ ks) ≡ prios_past prios ks
ready_keep prios zero x p h ks = refl
ready_keep prios (suc s) x p h ks = refl

pub wakes_keep_prios : (prios : List Prio) (ts : List Task) (h : ℕ) (xs : List ℕ) → prios_past prios (wakes_links ts h xs) ≡ prios
wakes_keep_prios prios ts h [] = refl
wakes_keep_prios prios ts h (x ∷ xs) =
    let t = task_in ts x in
    leaves_keep prios x 0 t.objects (ready_links t.suspended x t.prio h ++ wakes_links ts h xs)
    ∙ ready_keep prios t.suspended x t.prio h (wakes_links ts h xs)
    ∙ wakes_keep_prios prios ts h xs

waits_keep_prios : (prios : List Prio) (x p i : ℕ) (os : List ℕ) → x < length prios → i + length os ≤ 8 → prio_in prios x ≡ p → (y : ℕ) → prio_in (prios_past prios (wait_links x p i os)) y ≡ prio_in prios y
waits_keep_prios prios x p i [] inside few is y = refl
waits_keep_prios prios x p i (o ∷ os) inside few is y =
    let node = 8 * x + i in
    let own : node / 8 ≡ x = omega (arith, few) in
    let q : Prio = record { 0 = p } in
    let now = slice_set prios (node / 8) q in
    let long = length-set prios (node / 8) q in
    let mine : prio_in now x ≡ p = ap (prio_in now) (sym own) ∙ ap (λ (r : Prio). r.0) (get_or-set_same prios (node / 8) q no_prio (omega (arith, own, inside))) in
    waits_keep_prios now x p (i + 1) os (omega (arith, long, inside)) (omega (arith, few)) mine y
    ∙ elim (eqb_tells y x) [
      | inl e ↦ ap (prio_in now) e.1 ∙ mine ∙ sym is ∙ ap (prio_in prios) (sym e.1)
      | inr e ↦ ap (λ (r : Prio). r.0) (get_or-set_other prios (node / 8) y q no_prio (λ d. e.1 (d ∙ own)))
    ]

pub block_keeps_prios : (prios : List Prio) (ts : List Task) (x : ℕ) (os : List ℕ) → x < length prios → length os ≤ 8 → prio_in prios x ≡ (task_in ts x).prio → (y : ℕ) → prio_in (prios_past prios (block_links ts x os)) y ≡ prio_in prios y
block_keeps_prios prios ts x os inside few is y = waits_keep_prios prios x (task_in ts x).prio 0 os inside (omega (arith, few)) is y
