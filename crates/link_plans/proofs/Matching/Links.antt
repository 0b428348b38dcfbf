-- The links of waiters that are looked at do to lists what the wakes do of those whose condition holds.
use Rattle.std.proofs.Common.{◌≡◌, ℕ, ◌<◌, ◌≤◌, List, [], ◌∷◌, ◌++◌, Option, Some, None, is_some, length, refl, sym, ap, ◌∙◌, subst, arith, append_assoc}
use Rattle.std.specs.Prelude.{cond}
use Rattle.kern_base.specs.declared.numbers.Prio.{Prio}
use Rattle.kern_model.specs.State.{Kernel, Task, task_at, task_in, count_of, prio_of}
use Rattle.kern_model.specs.Effect.{leave_blocks, ready_blocks, wake_blocks}
use Rattle.kern_model.specs.FlagBits.{ready_bits}
use Rattle.kern_model.specs.Flags.{flag_blocks, flag_blocks_all, flag_wakes_all}
use Rattle.kern_model.specs.Micro.{Lists, after, plain}
use Rattle.micro_steps.specs.declared.link.Link.{Link}
use Rattle.micro_steps.specs.declared.link.Link.TheVariants as link
use Rattle.micro_steps.specs.Blocks.{block_of}
use Rattle.micro_steps.specs.Whole.{AreFit, lists_after, prios_after, task_blocks}
use Rattle.link_plans.specs.Fits.{CanWake, IsNoded}
use Rattle.link_plans.specs.Matching.{flag_result, matching}
use Rattle.link_plans.specs.Plans.{leave_links, look_links, matching_links, ready_links, wake_links, wakes_links}
use Rattle.link_plans.specs.Renewals.{prios_past}
use Rattle.link_plans.proofs.Calls.Tells.{objects-woken, prio-woken}
use Rattle.link_plans.proofs.Calls.Follows.{wakes_keep_prios}
use Rattle.link_plans.proofs.Matching.Wakes.{are_wakes, matching-count}
use Rattle.link_plans.proofs.Nodes.Served.{wakes_keep}
use Rattle.link_plans.proofs.Plans.Links.{leaves-row, ready-row}
use Rattle.link_plans.proofs.Fits.Woken.{all_wakes_fit}

-- a post of event flags leaves the priorities and the objects of all tasks
pub prio-matching : (bits h : ℕ) (xs : List ℕ) (k : Kernel) (y : ℕ) → prio_of (flag_wakes_all bits h xs k) y ≡ prio_of k y
prio-matching bits h xs k y = ap (λ (j : Kernel). prio_of j y) (are_wakes bits h xs k) ∙ prio-woken (flag_result bits) h (matching k.tasks bits xs) k y

pub objects-matching : (bits h : ℕ) (xs : List ℕ) (k : Kernel) (y : ℕ) → (task_at (flag_wakes_all bits h xs k) y).objects ≡ (task_at k y).objects
objects-matching bits h xs k y = ap (λ (j : Kernel). (task_at j y).objects) (are_wakes bits h xs k) ∙ objects-woken (flag_result bits) h (matching k.tasks bits xs) k y

-- the links are the blocks of the post

wake-row : (prios : List Prio) (k : Kernel) (h x : ℕ) (ks : List Link) → length (task_at k x).objects ≤ 8 → task_blocks prios (wake_links x h (task_at k x) ++ ks) ≡ wake_blocks k h x ++ task_blocks prios ks
wake-row prios k h x ks few =
    let t = task_at k x in
    let leaves = leave_links x 0 t.objects in let ready = ready_links t.suspended x t.prio h in
    ap (task_blocks prios) (append_assoc leaves ready ks)
    ∙ leaves-row prios x 0 t.objects (ready ++ ks) (omega (arith, few))
    ∙ ap (λ bs. leave_blocks x t.objects ++ bs) (ready-row prios t.suspended x t.prio h ks)
    ∙ sym (append_assoc (leave_blocks x t.objects) (ready_blocks t.suspended x t.prio h) (task_blocks prios ks))

pub matching-row : (prios : List Prio) (k : Kernel) (bits h : ℕ) (xs : List ℕ) → ((x : ℕ) → length (task_at k x).objects ≤ 8) → task_blocks prios (matching_links k.tasks bits h xs) ≡ flag_blocks_all bits h xs k
matching-row prios k bits h [] few = refl
matching-row prios k bits h (x ∷ xs) few = by_ready (matching-row prios k bits h xs few) (ready_bits bits (task_at k x).mask (task_at k x).opt)
  where
    by_ready : task_blocks prios (matching_links k.tasks bits h xs) ≡ flag_blocks_all bits h xs k → (r : Option ℕ) → task_blocks prios (look_links r x h (task_at k x) ++ matching_links k.tasks bits h xs) ≡ flag_blocks r h x k ++ flag_blocks_all bits h xs k
    by_ready rest None = ap (λ bs. plain ∷ bs) rest
    by_ready rest (Some ready) =
        ap (λ bs. plain ∷ bs) (wake-row prios k h x (matching_links k.tasks bits h xs) (few x) ∙ ap (λ bs. wake_blocks k h x ++ bs) rest)

-- The links bs do to lists of nodes and to priorities what the links fs do, and they fit where these do.
record AreAlike (n : ℕ) (fs bs : List Link) : Type 0 where
  fits : (prios : List Prio) (l : Lists) → AreFit n prios fs l → AreFit n prios bs l
  lists : (prios : List Prio) (l : Lists) → lists_after prios bs l ≡ lists_after prios fs l
  past : (prios : List Prio) → prios_past prios bs ≡ prios_past prios fs

-- a micro-step more
alike_plain : (n : ℕ) (fs bs : List Link) → AreAlike n fs bs → AreAlike n fs (link.Plain ∷ bs)
alike_plain n fs bs a = record { fits = λ prios l f. (tt, a.fits prios l f); lists = λ prios l. a.lists prios l; past = λ prios. a.past prios }

-- the same links before both
alike_behind : (n : ℕ) (ks fs bs : List Link) → AreAlike n fs bs → AreAlike n (ks ++ fs) (ks ++ bs)
alike_behind n [] fs bs a = a
alike_behind n (k ∷ ks) fs bs a =
    let rest = alike_behind n ks fs bs a in
    record {
      fits = λ prios l f. (f.0, rest.fits (prios_after k prios) (after (block_of (prios_after k prios) k l) l) f.1);
      lists = λ prios l. rest.lists (prios_after k prios) (after (block_of (prios_after k prios) k l) l);
      past = λ prios. rest.past (prios_after k prios);
    }

alike : (n : ℕ) (ts : List Task) (bits h : ℕ) (xs : List ℕ) → AreAlike n (wakes_links ts h (matching ts bits xs)) (matching_links ts bits h xs)
alike n ts bits h [] = record { fits = λ prios l f. f; lists = λ prios l. refl; past = λ prios. refl }
alike n ts bits h (x ∷ xs) = by_ready (alike n ts bits h xs) (ready_bits bits (task_in ts x).mask (task_in ts x).opt)
  where
    by_ready : AreAlike n (wakes_links ts h (matching ts bits xs)) (matching_links ts bits h xs) → (r : Option ℕ) → AreAlike n (wakes_links ts h (cond (is_some r) (x ∷ matching ts bits xs) (matching ts bits xs))) (look_links r x h (task_in ts x) ++ matching_links ts bits h xs)
    by_ready rest None = alike_plain n _ (matching_links ts bits h xs) rest
    by_ready rest (Some ready) =
        let t = task_in ts x in let others = matching_links ts bits h xs in
        let leaves = leave_links x 0 t.objects in let ready = ready_links t.suspended x t.prio h in let wakes = wakes_links ts h (matching ts bits xs) in
        alike_plain n (leaves ++ (ready ++ wakes)) (wake_links x h t ++ others)
        (subst (AreAlike n (leaves ++ (ready ++ wakes))) (sym (append_assoc leaves ready others))
        (alike_behind n leaves (ready ++ wakes) (ready ++ others) (alike_behind n ready wakes others rest)))

-- the lists of nodes after them
pub matching_end : (prios : List Prio) (ts : List Task) (bits h : ℕ) (xs : List ℕ) (l : Lists) → lists_after prios (matching_links ts bits h xs) l ≡ lists_after prios (wakes_links ts h (matching ts bits xs)) l
matching_end prios ts bits h xs l = (alike 0 ts bits h xs).lists prios l

pub matching_fit : (n : ℕ) (prios : List Prio) (ts : List Task) (bits h : ℕ) (xs : List ℕ) (l : Lists) → ((x : ℕ) → count_of x xs ≤ 1) → ((x : ℕ) → 0 < count_of x xs → CanWake ts x l) → AreFit n prios (matching_links ts bits h xs) l
matching_fit n prios ts bits h xs l once can =
    (alike n ts bits h xs).fits prios l
    (all_wakes_fit n prios ts h (matching ts bits xs) l (λ x. let few = matching-count ts bits x xs in let one = once x in omega (arith, few, one)) (λ x some. let few = matching-count ts bits x xs in can x (omega (arith, few, some))))

pub matching_keep : (prios : List Prio) (k : Kernel) (bits h : ℕ) (xs : List ℕ) (l : Lists) → IsNoded k.tasks l.pend → IsNoded (flag_wakes_all bits h xs k).tasks (lists_after prios (matching_links k.tasks bits h xs) l).pend
matching_keep prios k bits h xs l noded =
    let j = flag_wakes_all bits h xs k in
    subst (λ (m : Lists). IsNoded j.tasks m.pend) (sym (matching_end prios k.tasks bits h xs l))
    (wakes_keep prios k.tasks j.tasks h (matching k.tasks bits xs) l (objects-matching bits h xs k) noded)

pub matching_keep_prios : (prios : List Prio) (ts : List Task) (bits h : ℕ) (xs : List ℕ) → prios_past prios (matching_links ts bits h xs) ≡ prios
matching_keep_prios prios ts bits h xs = (alike 0 ts bits h xs).past prios ∙ wakes_keep_prios prios ts h (matching ts bits xs)
