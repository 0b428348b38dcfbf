-- The links of a plan are told by tasks without their own semaphores and queues.
use Rattle.std.proofs.Common.{◌≡◌, ℕ, zero, suc, List, [], ◌∷◌, ◌++◌, Option, Some, None, drop, map, refl, sym, ap, ◌∙◌, subst}
use Rattle.std.specs.Prelude.{if◌then◌else◌}
use Rattle.kern_base.specs.declared.outcomes.Decision.{Decision}
use Rattle.kern_base.specs.declared.outcomes.Decision.TheVariants.{Done, Block, Wake}
use Rattle.kern_base.specs.declared.outcomes.Who.TheVariants.{First, All, Matching}
use Rattle.kern_model.specs.State.{Task, task_in}
use Rattle.kern_model.specs.FlagBits.{ready_bits}
use Rattle.micro_steps.specs.declared.link.Link.{Link}
use Rattle.micro_steps.specs.declared.link.Link.TheVariants as link
use Rattle.link_plans.specs.Plans.{end_left, block_links, decision_left, leave_links, links_left, look_links, matching_left, matching_links, ready_links, wait_links, wake_links, wakes_left, wakes_links}
use Rattle.link_plans.specs.declared.plan.Plan.{Plan}
use Rattle.tcb_pool.specs.TaskView.{without_own}

task-own : (ts : List Task) (x : ℕ) → task_in (map without_own ts) x ≡ without_own (task_in ts x)
task-own [] x = refl
task-own (t ∷ ts) zero = refl
task-own (t ∷ ts) (suc x) = task-own ts x

wakes-own : (ts : List Task) (h : ℕ) (xs : List ℕ) → wakes_links (map without_own ts) h xs ≡ wakes_links ts h xs
wakes-own ts h [] = refl
wakes-own ts h (x ∷ xs) =
    let t = task_in ts x in
    ap (λ (u : Task). leave_links x 0 u.objects ++ (ready_links u.suspended x u.prio h ++ wakes_links (map without_own ts) h xs)) (task-own ts x)
    ∙ ap (λ (ks : List Link). leave_links x 0 t.objects ++ (ready_links t.suspended x t.prio h ++ ks)) (wakes-own ts h xs)

wakes_left-own : (ts : List Task) (h made : ℕ) (xs : List ℕ) → wakes_left (map without_own ts) h made xs ≡ wakes_left ts h made xs
wakes_left-own ts h made [] = refl
wakes_left-own ts h made (x ∷ xs) =
    ap (λ (u : Task). drop made (wake_links x h u) ++ wakes_links (map without_own ts) h xs) (task-own ts x)
    ∙ ap (λ (ks : List Link). drop made (wake_links x h (task_in ts x)) ++ ks) (wakes-own ts h xs)

look-own : (r : Option ℕ) (x h : ℕ) (t : Task) → look_links r x h (without_own t) ≡ look_links r x h t
look-own None x h t = refl
look-own (Some ready) x h t = refl

-- a task that is looked at
looked-own : (ts : List Task) (bits h x : ℕ) → look_links (ready_bits bits (task_in (map without_own ts) x).mask (task_in (map without_own ts) x).opt) x h (task_in (map without_own ts) x) ≡ look_links (ready_bits bits (task_in ts x).mask (task_in ts x).opt) x h (task_in ts x)
looked-own ts bits h x =
    let t = task_in ts x in
    ap (λ (u : Task). look_links (ready_bits bits u.mask u.opt) x h u) (task-own ts x) ∙ look-own (ready_bits bits t.mask t.opt) x h t

matching-own : (ts : List Task) (bits h : ℕ) (xs : List ℕ) → matching_links (map without_own ts) bits h xs ≡ matching_links ts bits h xs
matching-own ts bits h [] = refl
matching-own ts bits h (x ∷ xs) =
    let t = task_in ts x in
    ap (λ (ks : List Link). ks ++ matching_links (map without_own ts) bits h xs) (looked-own ts bits h x)
    ∙ ap (λ (ks : List Link). look_links (ready_bits bits t.mask t.opt) x h t ++ ks) (matching-own ts bits h xs)

matching_left-own : (ts : List Task) (bits h made : ℕ) (xs : List ℕ) → matching_left (map without_own ts) bits h made xs ≡ matching_left ts bits h made xs
matching_left-own ts bits h made [] = refl
matching_left-own ts bits h made (x ∷ xs) =
    let t = task_in ts x in
    ap (λ (ks : List Link). drop made ks ++ matching_links (map without_own ts) bits h xs) (looked-own ts bits h x)
    ∙ ap (λ (ks : List Link). drop made (look_links (ready_bits bits t.mask t.opt) x h t) ++ ks) (matching-own ts bits h xs)

block-own : (ts : List Task) (x : ℕ) (os : List ℕ) → block_links (map without_own ts) x os ≡ block_links ts x os
block-own ts x os = ap (λ (u : Task). link.Unready (record { 0 = x }) (record { 0 = u.prio }) ∷ wait_links x u.prio 0 os) (task-own ts x)

decision-own : (d : Decision) (ts : List Task) (q : Plan) → decision_left d (map without_own ts) q ≡ decision_left d ts q
decision-own (Done a) ts q = refl
decision-own Block ts q = ap (drop q.made) (block-own ts q.caller.0 q.objects.items)
decision-own (Wake First) ts q = wakes_left-own ts q.compared.0 q.made (drop q.task q.woken.items)
decision-own (Wake All) ts q = wakes_left-own ts q.compared.0 q.made (drop q.task q.woken.items)
decision-own (Wake Matching) ts q = matching_left-own ts q.bits q.compared.0 q.made (drop q.task q.woken.items)

links-own : (ts : List Task) (q : Plan) → links_left (map without_own ts) q ≡ links_left ts q
links-own ts q = ap (λ (ks : List Link). ks ++ end_left q) (decision-own q.decision ts q)

-- the next link, and that none is left, as the records of all tasks tell it
pub next-own : (ts us : List Task) (q p : Plan) (k : Link) → us ≡ map without_own ts → links_left us q ≡ k ∷ links_left us p → links_left ts q ≡ k ∷ links_left ts p
next-own ts us q p k e h =
    sym (links-own ts q) ∙ subst (λ (vs : List Task). links_left vs q ≡ k ∷ links_left vs p) e h ∙ ap (λ (ks : List Link). k ∷ ks) (links-own ts p)

pub last-own : (ts us : List Task) (q : Plan) → us ≡ map without_own ts → links_left us q ≡ [] → links_left ts q ≡ []
last-own ts us q e h = sym (links-own ts q) ∙ subst (λ (vs : List Task). links_left vs q ≡ []) e h
