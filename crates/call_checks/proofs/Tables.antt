-- OSPendMulti after its option: its table comes next.
use Rattle.std.proofs.Common.{◌≡◌, ℕ, Bool, true, false, not, ◌&&◌, Option, Some, None, refl, sym, ap, ◌∙◌, subst, if◌then◌else◌, nat_lt}
use Rattle.kern_base.specs.Tables.{KindTable}
use Rattle.kern_base.specs.Checks.{static_error, kinds_wanted, names_task}
use Rattle.kern_base.specs.declared.services.Service.{Service}
use Rattle.kern_base.specs.declared.services.Service.TheVariants.{PendMulti}
use Rattle.kern_base.specs.declared.requests.Request.{Request}
use Rattle.kern_base.specs.declared.errors.OsErr.{OsErr}
use Rattle.kern_base.specs.declared.errors.OsErr.TheVariants.{CallUnknown, ObjectType, Table, TaskNotExist}
use Rattle.kern_model.specs.State.{Kernel, kinds_of, application_limit, object_at, task_at}
use Rattle.kern_model.specs.Call.{Call}
use Rattle.kern_model.specs.Checks.{argument, call_error, existence_error, first_error, is_deleted, named_task}
use Rattle.kern_model.specs.Effect.{Effect, refused}
use Rattle.kern_model.specs.Several.{table_objects, is_table_fault, kinds_error, deleted_error, multi_error, multi_checked}
use Rattle.kern_model.specs.Services.{effect, after_checks, perform}
use Rattle.call_checks.specs.Refusals.{table_error, IsChecked}

fails_so : (fault : Bool) (kinds left : Option OsErr) (err : OsErr) → (if fault then Some Table else kinds) ≡ Some err → (if fault then Some Table else first_error kinds left) ≡ Some err
fails_so true kinds left err h = h
fails_so false kinds left err h = ap (λ e. first_error e left) h

goes_on : (fault : Bool) (kinds left : Option OsErr) → (if fault then Some Table else kinds) ≡ None → (if fault then Some Table else first_error kinds left) ≡ left
goes_on true kinds left h = cc
goes_on false kinds left h = ap (λ e. first_error e left) h

-- the effect of a served call whose arguments are right
served-on : (served : Service → Bool) (call : Call) (k : Kernel) → served call.request.service ≡ true → static_error call.request.service call.request.args (kinds_of k) (nat_lt call.caller application_limit) ≡ None → effect served call k ≡ after_checks (existence_error call.request call.caller k) call k
served-on served call k s h =
    ap (λ b. if b then after_checks (call_error call.request call.caller k) call k else refused k CallUnknown) s
    ∙ ap (λ e. after_checks (first_error e (existence_error call.request call.caller k)) call k) h

-- the object and the task that a call of this service names, and what it does where they are there
gone_for : Service → Request → ℕ → Kernel → Option OsErr
gone_for s r x k =
    if is_deleted (kinds_wanted s) (object_at k (argument r 0)) then Some ObjectType
    else (if names_task s && not (task_at k (named_task r x)).alive then Some TaskNotExist else None)

goes_to : Option OsErr → Service → Call → Kernel → Effect
goes_to (Some err) s call k = refused k err
goes_to None s call k = perform s call k

goes-is : (e : Option OsErr) (call : Call) (k : Kernel) → after_checks e call k ≡ goes_to e call.request.service call k
unfolding goes_to
goes-is (Some err) call k = refl
goes-is None call k = refl

-- OSPendMulti names neither
multi-on : (s : Service) (call : Call) (k : Kernel) → call.request.service ≡ s → s ≡ PendMulti → after_checks (existence_error call.request call.caller k) call k ≡ multi_checked (multi_error call.request k) call.request call.caller k
unfolding goes_to gone_for
multi-on s call k f e =
    goes-is (existence_error call.request call.caller k) call k
    ∙ ap (λ s. goes_to (gone_for s call.request call.caller k) s call k) (f ∙ e)

table-row : (served : Service → Bool) (call : Call) (k : Kernel) → served call.request.service ≡ true → call.request.service ≡ PendMulti → static_error call.request.service call.request.args (kinds_of k) (nat_lt call.caller application_limit) ≡ None → IsChecked (table_error call.request (kinds_of k)) served call k
table-row served call k s m h =
    let r = call.request in
    let fault = is_table_fault r in
    let kinds = kinds_error (table_objects r) (kinds_of k) in
    let left = deleted_error (table_objects r) k in
    record {
      fails = λ err e. served-on served call k s h ∙ multi-on r.service call k refl m ∙ ap (λ f. multi_checked f r call.caller k) (fails_so fault kinds left err e);
      passes = λ e. served-on served call k s h;
      table = λ e n. goes_on fault kinds left e;
    }

-- the same for a call that was checked before its kernel is known
pub multi-row : (refusal : Option OsErr) (own : Bool) (r : Request) (kinds : KindTable) (served : Service → Bool) (call : Call) (k : Kernel) → served r.service ≡ true → call.request ≡ r → nat_lt call.caller application_limit ≡ own → kinds_of k ≡ kinds → r.service ≡ PendMulti → static_error r.service r.args kinds own ≡ None → refusal ≡ table_error r kinds → IsChecked refusal served call k
multi-row refusal own r kinds served call k s e o t m h v =
    let serves : served call.request.service ≡ true = ap (λ r. served r.service) e ∙ s in
    let several : call.request.service ≡ PendMulti = ap (λ r. r.service) e ∙ m in
    let right : static_error call.request.service call.request.args (kinds_of k) (nat_lt call.caller application_limit) ≡ None =
    ap (λ b. static_error call.request.service call.request.args (kinds_of k) b) o
    ∙ ap (λ r. static_error r.service r.args (kinds_of k) own) e
    ∙ ap (λ t. static_error r.service r.args t own) t
    ∙ h in
    let same : table_error call.request (kinds_of k) ≡ refusal = ap (λ r. table_error r (kinds_of k)) e ∙ ap (λ t. table_error r t) t ∙ sym v in
    subst (λ e. IsChecked e served call k) same (table-row served call k serves several right)
