-- The links of a plan are the blocks of its definition.
use Rattle.std.proofs.Common.{◌≡◌, ℕ, zero, suc, ◌+◌, ◌*◌, ◌/◌, ◌<◌, ◌≤◌, List, [], ◌∷◌, ◌++◌, length, refl, sym, ap, ◌∙◌, arith, append_assoc, inl, inr, length-set, get_or-set_same, get_or-set_other}
use Rattle.std.specs.Prelude.{slice_set}
use Rattle.std.proofs.Math.Path.{fun_ext}
use Rattle.std.proofs.lemmas.Bool.Decides.{eqb_tells}
use Rattle.micro_steps.specs.Blocks.{prio_in, no_prio}
use Rattle.kern_base.specs.declared.numbers.Prio.{Prio}
use Rattle.kern_model.specs.State.{Kernel, task_at, prio_of}
use Rattle.kern_model.specs.Micro.{leave, unready, wait}
use Rattle.kern_model.specs.Effect.{leave_blocks, ready_blocks, wakes_blocks, wait_blocks, block_blocks}
use Rattle.micro_steps.specs.declared.link.Link.{Link}
use Rattle.micro_steps.specs.Whole.{task_blocks}
use Rattle.link_plans.specs.Plans.{leave_links, ready_links, wakes_links, wait_links, block_links}

node_task : (x i : ℕ) → i < 8 → (8 * x + i) / 8 ≡ x
node_task x i h = omega (arith, h)

pub leaves-row : (prios : List Prio) (x i : ℕ) (os : List ℕ) (ks : List Link) → i + length os ≤ 8 → task_blocks prios (leave_links x i os ++ ks) ≡ leave_blocks x os ++ task_blocks prios ks
leaves-row prios x i [] ks h = refl
leaves-row prios x i (o ∷ os) ks h = rw (node_task x i (omega (arith, h))) (ap (λ bs. leave x o ∷ bs) (leaves-row prios x (i + 1) os ks (omega (arith, h))))

pub ready-row : (prios : List Prio) (n x p h : ℕ) (ks : List Link) → task_blocks prios (ready_links n x p h ++ ks) ≡ ready_blocks n x p h ++ task_blocks prios ks
ready-row prios zero x p h ks = refl
ready-row prios (suc n) x p h ks = refl

-- tasks are woken
pub wakes-row : (prios : List Prio) (k : Kernel) (h : ℕ) (xs : List ℕ) → ((x : ℕ) → length (task_at k x).objects ≤ 8) → task_blocks prios (wakes_links k.tasks h xs) ≡ wakes_blocks k h xs
wakes-row prios k h [] few = refl
wakes-row prios k h (x ∷ xs) few =
    let t = task_at k x in
    let ready = ready_links t.suspended x t.prio h in let rest = wakes_links k.tasks h xs in
    leaves-row prios x 0 t.objects (ready ++ rest) (omega (arith, few x))
    ∙ ap (λ bs. leave_blocks x t.objects ++ bs) (ready-row prios t.suspended x t.prio h rest ∙ ap (λ bs. ready_blocks t.suspended x t.prio h ++ bs) (wakes-row prios k h xs few))
    ∙ sym (append_assoc (leave_blocks x t.objects) (ready_blocks t.suspended x t.prio h) (wakes_blocks k h xs))

-- the priorities of all tasks, with that of x written again
same_prios : (prios : List Prio) (k : Kernel) (x : ℕ) (p : Prio) → ((y : ℕ) → prio_in prios y ≡ prio_of k y) → x < length prios → p.0 ≡ prio_of k x → (y : ℕ) → prio_in (slice_set prios x p) y ≡ prio_of k y
same_prios prios k x p are inside is y =
    elim (eqb_tells x y) [
      | inl e ↦ ap (λ z. prio_in (slice_set prios x p) z) (sym e.1) ∙ ap (λ (q : Prio). q.0) (get_or-set_same prios x p no_prio inside) ∙ is ∙ ap (prio_of k) e.1
      | inr e ↦ ap (λ (q : Prio). q.0) (get_or-set_other prios x y p no_prio (λ d. e.1 (sym d))) ∙ are y
    ]

waits-row : (prios : List Prio) (k : Kernel) (x p i : ℕ) (os : List ℕ) → ((y : ℕ) → prio_in prios y ≡ prio_of k y) → x < length prios → p ≡ prio_of k x → i + length os ≤ 8 → task_blocks prios (wait_links x p i os) ≡ wait_blocks (prio_of k) x p os
waits-row prios k x p i [] are inside is h = refl
waits-row prios k x p i (o ∷ os) are inside is h =
    let q : Prio = record { 0 = p } in
    let now = same_prios prios k x q are inside is in
    let same : prio_in (slice_set prios x q) ≡ prio_of k = fun_ext now in
    let long = length-set prios x q in
    rw (node_task x i (omega (arith, h)))
    (ap (λ f. wait f x p o ∷ task_blocks (slice_set prios x q) (wait_links x p (i + 1) os)) same
    ∙ ap (λ bs. wait (prio_of k) x p o ∷ bs) (waits-row (slice_set prios x q) k x p (i + 1) os now (omega (arith, long, inside)) is (omega (arith, h))))

-- a caller waits
pub block-row : (prios : List Prio) (k : Kernel) (x : ℕ) (os : List ℕ) → ((y : ℕ) → prio_in prios y ≡ prio_of k y) → x < length prios → length os ≤ 8 → task_blocks prios (block_links k.tasks x os) ≡ block_blocks k x os
block-row prios k x os are inside few = ap (λ bs. unready x (prio_of k x) ∷ bs) (waits-row prios k x (prio_of k x) 0 os are inside refl (omega (arith, few)))
