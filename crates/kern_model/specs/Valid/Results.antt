-- The results that wait for tasks in a valid kernel.
use Rattle.std.specs.Prelude.{◌≡◌, ◌<◌, ◌≤◌, ℕ, ◌^◌, List, length, slice_index_or, Option, Some, None}
use Rattle.kern_base.specs.declared.services.Service.{Service}
use Rattle.kern_base.specs.declared.services.Service.TheVariants.{PendMulti}
use Rattle.kern_base.specs.declared.outcomes.Finished.{Finished}
use Rattle.kern_model.specs.State.{Task, task_in}
use Rattle.kern_model.specs.Valid.Waits.{HasTable}

-- The table of a result of OSPendMulti is its task's, with an entry for each of the task's objects; other results have none.
abbrev pub HasItsTable : Service → Finished → Task → Type 0
HasItsTable PendMulti f t = HasTable t × (f.table ≡ t.table) × (f.n_ids ≡ length t.objects)
HasItsTable s f t = (f.table ≡ 0) × (f.n_ids ≡ 0)

-- a result that waits for this task
pub record IsResult (f : Finished) (t : Task) : Type 0 where
  pub table : HasItsTable f.service f t
  -- a bit for each entry that was taken, and a message for each entry; past the entries 0
  pub ready : f.ready < 2 ^ f.n_ids
  pub eight : length f.msgs ≡ 8
  pub past : (i : ℕ) → f.n_ids ≤ i → slice_index_or f.msgs i (0, 0) ≡ (0, 0)

-- where one waits
abbrev pub ReadsFrom : Option Finished → Task → Type 0
ReadsFrom None t = Unit {0}
ReadsFrom (Some f) t = IsResult f t

-- each task
abbrev pub AreResults : List Task → Type 0
AreResults ts = (x : ℕ) → ReadsFrom (task_in ts x).answered (task_in ts x)
