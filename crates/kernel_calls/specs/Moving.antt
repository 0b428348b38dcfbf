-- The links of a call that suspends a task, resumes one or yields, which are known when it begins.
use Rattle.std.specs.Prelude.{ℕ, ◌-◌, Bool, true, false, List, [], ◌∷◌, if◌then◌else◌}
use Rattle.kern_base.specs.declared.services.Service.{Service}
use Rattle.kern_base.specs.declared.services.Service.TheVariants.{TaskSuspend, TaskResume, RoundRobinYield}
use Rattle.kern_base.specs.declared.requests.Request.{Request}
use Rattle.kern_base.specs.declared.outcomes.Decision.{Decision}
use Rattle.kern_model.specs.State.{Kernel, Task, is_ready, prio_of, task_at, waits_for_nothing}
use Rattle.kern_model.specs.Checks.{named_task}
use Rattle.micro_steps.specs.declared.link.Link.{Link}
use Rattle.micro_steps.specs.declared.link.Link.TheVariants as link
use Rattle.link_plans.specs.Plans.{ready_links}
use Rattle.kernel_records.specs.Suspension.{moves_task}

-- a task that is suspended leaves its ready list, where it stands in one
abbrev pub unready_links : Bool → ℕ → ℕ → List Link
unready_links true x p = link.Unready (record { 0 = x }) (record { 0 = p }) ∷ []
unready_links false x p = []

-- a task that is resumed, and suspended so often after that, joins its ready list where it waits for nothing
abbrev pub resumed_links : Bool → ℕ → ℕ → ℕ → ℕ → List Link
resumed_links true n x p compared = ready_links n x p compared
resumed_links false n x p compared = []

-- of the task x, by its record
abbrev pub moved_links : Service → ℕ → ℕ → Task → List Link
moved_links TaskSuspend x compared t = unready_links (is_ready t) x t.prio
moved_links TaskResume x compared t =
    resumed_links (waits_for_nothing t.waiting) (t.suspended - 1) x t.prio compared
moved_links s x compared t = []

-- a task goes to the tail of the ready list of this priority
abbrev pub tail_links : ℕ → ℕ → List Link
tail_links x p = link.Unready (record { 0 = x }) (record { 0 = p }) ∷ link.Ready (record { 0 = x }) (record { 0 = p }) true ∷ []

-- of a call of x, which names task y: a yield moves its caller
abbrev pub links_moved : Service → ℕ → ℕ → ℕ → Kernel → List Link
links_moved RoundRobinYield y x compared k = tail_links x (prio_of k x)
links_moved s y x compared k = moved_links s y compared (task_at k y)

-- the links that are known of a call of x when this is decided of it
abbrev pub known_links : Decision → Request → ℕ → ℕ → Kernel → List Link
known_links d r x compared k =
    if moves_task r.service d then links_moved r.service (named_task r x) x compared k else []
