-- The static checks of a call: those that look at the call and at what the application declares alone.
use Rattle.std.specs.Prelude.{ℕ, Bool, true, false, IsTrue, ◌&&◌, ◌||◌, ◌-◌, ◌^◌, List, [], ◌∷◌, Option, Some, None, if◌then◌else◌, ◌==◌, nat_lt, slice_index, slice_get}
use Rattle.std.specs.List.{list_any}
use Rattle.kern_base.specs.Tables.{KindTable}
use Rattle.kern_base.specs.declared.services.Service.{Service}
pub use Rattle.kern_base.specs.Services.{is_post, names_option, kinds_wanted, names_task}
use Rattle.kern_base.specs.declared.kinds.Kind.{Kind}
use Rattle.kern_base.specs.declared.kinds.Kind.TheVariants.{Sem, Queue, Flags, Mutex, OneShot, Periodic}
use Rattle.kern_base.specs.declared.errors.OsErr.{OsErr}
use Rattle.kern_base.specs.declared.errors.OsErr.TheVariants.{OptionInvalid, ObjectType, TaskInvalid}

abbrev pub IsPost : Service → Type 0
IsPost s = IsTrue (is_post s)

-- the number that names the calling application task
abbrev pub caller_number : ℕ
caller_number = 2 ^ 32 - 1

-- a number for each kind, which no two share: that of the binary image
abbrev pub kind_number : Kind → ℕ
kind_number Sem = 1
kind_number Queue = 2
kind_number Flags = 3
kind_number Mutex = 4
kind_number OneShot = 5
kind_number Periodic = 6

abbrev pub is_one_of : List Kind → Kind → Bool
is_one_of wanted kind = list_any (λ w. kind_number w == kind_number kind) wanted

-- the object of this kind, if there is one, is of a wanted kind
abbrev pub object_error : List Kind → Option Kind → Option OsErr
object_error wanted None = Some ObjectType
object_error wanted (Some kind) = if is_one_of wanted kind then None else Some ObjectType

-- the number is that of an application task; `own` says whether the number that names the caller may stand
abbrev pub task_error : ℕ → ℕ → Bool → Option OsErr
task_error number tasks own = if nat_lt number tasks || (own && (number == caller_number)) then None else Some TaskInvalid

-- what the first argument names: an object of these kinds, a task, or neither
abbrev pub target_error : List Kind → Bool → List ℕ → KindTable → Bool → Option OsErr
target_error (k ∷ ks) task args table own = object_error (k ∷ ks) (slice_get table.objects (slice_index args 0))
target_error [] true args table own = task_error (slice_index args 0) table.tasks own
target_error [] false args table own = None

-- the first static check that fails: the option, then the object or the task
abbrev pub static_error : Service → List ℕ → KindTable → Bool → Option OsErr
static_error s args table own = if names_option s args then target_error (kinds_wanted s) (names_task s) args table own else Some OptionInvalid
