-- The links of a plan, as the tasks' records say.
use Rattle.std.specs.Prelude.{ℕ, zero, suc, ◌+◌, ◌*◌, List, [], ◌∷◌, ◌++◌, Option, Some, None, drop, if◌then◌else◌, ◌==◌}
use Rattle.kern_base.specs.declared.outcomes.Decision.{Decision}
use Rattle.kern_base.specs.declared.outcomes.Decision.TheVariants.{Done, Block, Wake}
use Rattle.kern_base.specs.declared.outcomes.Who.{Who}
use Rattle.kern_base.specs.declared.outcomes.Who.TheVariants.{Matching}
use Rattle.kern_model.specs.State.{Task, task_in}
use Rattle.kern_model.specs.FlagBits.{ready_bits}
use Rattle.micro_steps.specs.declared.link.Link.{Link}
use Rattle.micro_steps.specs.declared.link.Link.TheVariants as link
use Rattle.link_plans.specs.declared.plan.Plan.{Plan}

-- x leaves these objects: from the i-th on its nodes stand in their lists
abbrev pub leave_links : ℕ → ℕ → List ℕ → List Link
leave_links x i [] = []
leave_links x i (o ∷ os) = link.Leave (8 * x + i) (record { 0 = o }) ∷ leave_links x (i + 1) os

-- x joins its ready list, unless it is suspended: at the tail where its priority is the compared one
abbrev pub ready_links : ℕ → ℕ → ℕ → ℕ → List Link
ready_links zero x p compared = link.Ready (record { 0 = x }) (record { 0 = p }) (p == compared) ∷ []
ready_links (suc n) x p compared = []

-- x is woken: it leaves its objects and joins its ready list
abbrev pub wake_links : ℕ → ℕ → Task → List Link
wake_links x compared t = leave_links x 0 t.objects ++ ready_links t.suspended x t.prio compared

-- these are woken, in order
abbrev pub wakes_links : List Task → ℕ → List ℕ → List Link
wakes_links ts compared [] = []
wakes_links ts compared (x ∷ xs) =
    let t = task_in ts x in
    leave_links x 0 t.objects ++ (ready_links t.suspended x t.prio compared ++ wakes_links ts compared xs)

-- these are left to wake, and so many links of the first of them are made
abbrev pub wakes_left : List Task → ℕ → ℕ → List ℕ → List Link
wakes_left ts compared made [] = []
wakes_left ts compared made (x ∷ xs) =
    drop made (wake_links x compared (task_in ts x)) ++ wakes_links ts compared xs

-- x is looked at, and woken where its wait is ready with bits
abbrev pub look_links : Option ℕ → ℕ → ℕ → Task → List Link
look_links None x compared t = link.Plain ∷ []
look_links (Some ready) x compared t = link.Plain ∷ wake_links x compared t

-- each of these is looked at, in order, on these bits of their event flag group
abbrev pub matching_links : List Task → ℕ → ℕ → List ℕ → List Link
matching_links ts bits compared [] = []
matching_links ts bits compared (x ∷ xs) =
    let t = task_in ts x in
    look_links (ready_bits bits t.mask t.opt) x compared t ++ matching_links ts bits compared xs

-- these are left to look at, and so many links of the first of them are made
abbrev pub matching_left : List Task → ℕ → ℕ → ℕ → List ℕ → List Link
matching_left ts bits compared made [] = []
matching_left ts bits compared made (x ∷ xs) =
    let t = task_in ts x in
    drop made (look_links (ready_bits bits t.mask t.opt) x compared t) ++ matching_links ts bits compared xs

-- the links of one of the tasks that a post, an abort or a deletion wakes or looks at
abbrev pub woken_links : Who → ℕ → ℕ → ℕ → Task → List Link
woken_links Matching bits compared x t = look_links (ready_bits bits t.mask t.opt) x compared t
woken_links w bits compared x t = wake_links x compared t

-- what is left of all of them
abbrev pub woken_left : Who → List Task → Plan → List Link
woken_left Matching ts q = matching_left ts q.bits q.compared.0 q.made (drop q.task q.woken.items)
woken_left w ts q = wakes_left ts q.compared.0 q.made (drop q.task q.woken.items)

-- x, of this priority, waits for these objects: from the i-th node on
abbrev pub wait_links : ℕ → ℕ → ℕ → List ℕ → List Link
wait_links x p i [] = []
wait_links x p i (o ∷ os) = link.Wait (8 * x + i) (record { 0 = p }) (record { 0 = o }) ∷ wait_links x p (i + 1) os

-- the caller x waits for these objects
abbrev pub block_links : List Task → ℕ → List ℕ → List Link
block_links ts x os =
    let p = (task_in ts x).prio in
    link.Unready (record { 0 = x }) (record { 0 = p }) ∷ wait_links x p 0 os

-- what is left of a decision
abbrev pub decision_left : Decision → List Task → Plan → List Link
decision_left (Done a) ts q = drop q.made q.known.items
decision_left Block ts q = drop q.made (block_links ts q.caller.0 q.objects.items)
decision_left (Wake w) ts q = woken_left w ts q

-- the link behind those of the decision, where there is one
abbrev pub last_links : Option Link → List Link
last_links None = []
last_links (Some k) = k ∷ []

-- what is left behind the decision: that link, and the end of the step
abbrev pub end_left : Plan → List Link
end_left q = last_links q.last ++ (if q.ended then [] else link.Plain ∷ [])

-- the links that are left
abbrev pub links_left : List Task → Plan → List Link
links_left ts q = decision_left q.decision ts q ++ end_left q
