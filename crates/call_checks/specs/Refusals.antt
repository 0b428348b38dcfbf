-- The checks of a call that look at no more than the call, the moment at which it is made and what the application declares.
use Rattle.std.specs.Prelude.{◌≡◌, Bool, true, false, Option, Some, None, if◌then◌else◌, nat_lt}
use Rattle.kern_base.specs.Tables.{KindTable}
use Rattle.kern_base.specs.Checks.{static_error}
use Rattle.kern_base.specs.Services.{is_post, interrupt_error}
use Rattle.kern_base.specs.declared.services.Service.{Service}
use Rattle.kern_base.specs.declared.services.Service.TheVariants.{PendMulti}
use Rattle.kern_base.specs.declared.requests.Request.{Request}
use Rattle.kern_base.specs.declared.errors.OsErr.{OsErr}
use Rattle.kern_base.specs.declared.errors.OsErr.TheVariants.{CallUnknown, Table}
use Rattle.kern_model.specs.State.{Kernel, kinds_of, application_limit}
use Rattle.kern_model.specs.Call.{Call}
use Rattle.kern_model.specs.Checks.{existence_error, first_error}
use Rattle.kern_model.specs.Effect.{refused}
use Rattle.kern_model.specs.Several.{table_objects, is_table_fault, kinds_error, deleted_error, multi_error}
use Rattle.kern_model.specs.Services.{effect, after_checks}
use Rattle.call_checks.specs.declared.refusals.Moment.{Moment}
use Rattle.call_checks.specs.declared.refusals.Moment.TheVariants.{Application, Internal, Interrupt}

-- whether the number that names the caller may stand: an application task calls
abbrev pub names_caller : Moment → Bool
names_caller Application = true
names_caller Internal = false
names_caller Interrupt = false

-- interrupt code may use the six posts alone
abbrev pub moment_error : Moment → Service → Option OsErr
moment_error Application s = None
moment_error Internal s = None
moment_error Interrupt s = if is_post s then None else Some (interrupt_error s)

-- a table of OSPendMulti at fault, then a number in it without a semaphore or a queue
abbrev pub table_error : Request → KindTable → Option OsErr
table_error r kinds = if is_table_fault r then Some Table else kinds_error (table_objects r) kinds

-- the same for every service: the others have no table
abbrev pub table_error_for : Service → Request → KindTable → Option OsErr
table_error_for PendMulti r kinds = table_error r kinds
table_error_for _ r kinds = None

-- the first check that a call of a service fails that is served: the moment, its option, its object or task, its table
abbrev pub served_error : Moment → Request → KindTable → Option OsErr
served_error moment r kinds =
    first_error (moment_error moment r.service)
    (first_error (static_error r.service r.args kinds (names_caller moment)) (table_error_for r.service r kinds))

-- a service that is not served counts as an unknown number
abbrev pub refusal_of : Bool → Moment → Request → KindTable → Option OsErr
refusal_of served moment r kinds = if served then served_error moment r kinds else Some CallUnknown

-- What these checks come to in a kernel: a call that fails one changes nothing and is answered so. For one that passes, what is
-- left is whether its object and its task are still there, and of OSPendMulti the objects of its table; then the service itself.
pub record IsChecked (refusal : Option OsErr) (served : Service → Bool) (call : Call) (k : Kernel) : Type 0 where
  pub fails : (err : OsErr) → refusal ≡ Some err → effect served call k ≡ refused k err
  pub passes : refusal ≡ None → effect served call k ≡ after_checks (existence_error call.request call.caller k) call k
  pub table : refusal ≡ None → call.request.service ≡ PendMulti → multi_error call.request k ≡ deleted_error (table_objects call.request) k

-- in every kernel with these declarations, by every caller of this kind
abbrev pub AreChecked : Option OsErr → Bool → Moment → Request → KindTable → Type 0
AreChecked refusal is_served moment r kinds =
    (served : Service → Bool) (call : Call) (k : Kernel) → served r.service ≡ is_served → call.request ≡ r →
    nat_lt call.caller application_limit ≡ names_caller moment → kinds_of k ≡ kinds → moment_error moment r.service ≡ None →
    IsChecked refusal served call k
