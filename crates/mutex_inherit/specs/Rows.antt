-- What is decided of a call on a mutex, and how its owner and nesting change.
use Rattle.std.specs.Prelude.{◌≡◌, ◌≤◌, ℕ, ◌+◌, ◌-◌, Bool, [], ◌∷◌, Option, Some, None, if◌then◌else◌, ◌==◌, nat_lt}
use Rattle.kern_base.specs.Services.{kinds_wanted}
use Rattle.kern_base.specs.declared.kinds.Kind.TheVariants as kind
use Rattle.kern_base.specs.declared.numbers.TaskId.{TaskId}
use Rattle.kern_base.specs.declared.services.Service.{Service}
use Rattle.kern_base.specs.declared.services.Service.TheVariants.{MutexPend, MutexPost, MutexPendAbort}
use Rattle.kern_base.specs.declared.requests.Request.{Request}
use Rattle.kern_base.specs.declared.errors.OsErr.{OsErr}
use Rattle.kern_base.specs.declared.errors.OsErr.TheVariants.{NoError, Depth, MutexOwner, MutexNotOwner, MutexNesting}
use Rattle.kern_base.specs.declared.outcomes.Around.{Around}
use Rattle.kern_base.specs.declared.outcomes.Decision.{Decision}
use Rattle.kern_base.specs.declared.outcomes.Decision.TheVariants.{Done, Wake}
use Rattle.kern_base.specs.declared.outcomes.Who.TheVariants.{First}
use Rattle.kern_model.specs.State.{Content, Held, nesting_limit}
use Rattle.kern_model.specs.Checks.{argument}
use Rattle.kern_model.specs.Effect.{answer, fine}
use Rattle.kern_model.specs.Options.{does_not_wait}
use Rattle.decisions.specs.Rows.{refusal, wait_decision, abort_decision, delete_decision}
use Rattle.mutex_inherit.specs.Chains.{number_of}
use Rattle.mutex_inherit.specs.declared.mutexes.Mutex.{Mutex}

-- a call whose object is a mutex
abbrev pub IsMutexCall : Request → Type 0
IsMutexCall r = kinds_wanted r.service ≡ kind.Mutex ∷ []

-- what an object holds that is this mutex
abbrev pub content_of : Mutex → Content
content_of m = Held (number_of m.owner) m.nesting

-- a mutex that is owned is nested 1 to 250 times
abbrev pub IsNestedBy : Option TaskId → ℕ → Type 0
IsNestedBy None nesting = Unit {0}
IsNestedBy (Some x) nesting = (1 ≤ nesting) × (nesting ≤ nesting_limit)

abbrev pub IsNested : Mutex → Type 0
IsNested m = IsNestedBy m.owner m.nesting

-- the owner nests it once more, up to 250 times
abbrev pub nest_decision : ℕ → Decision
nest_decision nesting = if nesting == nesting_limit then refusal Depth else Done (answer MutexOwner (nesting + 1))

-- a wait by this caller: a free mutex becomes its own, its own it nests, and for another's it waits
abbrev pub pend_decision : Option TaskId → ℕ → ℕ → TaskId → Bool → Decision
pend_decision None nesting option caller locked = Done (fine 1)
pend_decision (Some owner) nesting option caller locked =
    if owner.0 == caller.0 then nest_decision nesting else wait_decision (does_not_wait option) locked

-- the owner's nesting falls; at 0 the mutex goes to the first waiter, or is free
abbrev pub release_decision : ℕ → Decision
release_decision nesting = if nat_lt 1 nesting then Done (answer MutexNesting (nesting - 1)) else Wake First

-- a release by this caller: only the owner may
abbrev pub post_decision : Option TaskId → ℕ → TaskId → Decision
post_decision None nesting caller = refusal MutexNotOwner
post_decision (Some owner) nesting caller = if owner.0 == caller.0 then release_decision nesting else refusal MutexNotOwner

-- the decision on a call on this mutex
abbrev pub decision_for : Service → Mutex → Request → Around → Decision
decision_for MutexPend m r seen = pend_decision m.owner m.nesting (argument r 2) seen.caller seen.locked
decision_for MutexPost m r seen = post_decision m.owner m.nesting seen.caller
decision_for MutexPendAbort m r seen = abort_decision (argument r 1) seen.first
decision_for _ m r seen = delete_decision (argument r 1) seen.first

abbrev pub decision_of : Mutex → Request → Around → Decision
decision_of m r seen = decision_for r.service m r seen

-- the mutex after a wait that is answered so
abbrev pub after_pend : OsErr → TaskId → Mutex → Mutex
after_pend NoError caller m = record { owner = Some caller; nesting = 1 }
after_pend MutexOwner caller m = record m { nesting = m.nesting + 1 }
after_pend _ caller m = m

-- the mutex after a release that is answered so
abbrev pub after_post : OsErr → Mutex → Mutex
after_post MutexNesting m = record m { nesting = m.nesting - 1 }
after_post _ m = m

-- the mutex after its owner has released it: it is the first waiter's, or free
abbrev pub passed_to : Option TaskId → Mutex
passed_to None = record { owner = None; nesting = 0 }
passed_to (Some x) = record { owner = Some x; nesting = 1 }

-- the mutex after a call that was decided so: a wait and a release change it, and nothing else
abbrev pub mutex_after : Service → Decision → Around → Mutex → Mutex
mutex_after MutexPend (Done a) seen m = after_pend a.err seen.caller m
mutex_after MutexPost (Done a) seen m = after_post a.err m
mutex_after MutexPost (Wake who) seen m = passed_to seen.first
mutex_after _ d seen m = m
