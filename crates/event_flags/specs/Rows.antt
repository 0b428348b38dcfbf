-- What is decided of a call on an event flag group, and how its bits change.
use Rattle.std.specs.Prelude.{◌≡◌, ℕ, Bool, [], ◌∷◌, Option, Some, None, if◌then◌else◌}
use Rattle.kern_base.specs.Services.{kinds_wanted}
use Rattle.kern_base.specs.declared.kinds.Kind.TheVariants.{Flags}
use Rattle.kern_base.specs.declared.services.Service.{Service}
use Rattle.kern_base.specs.declared.services.Service.TheVariants.{FlagPost, FlagPend, FlagPendAbort}
use Rattle.kern_base.specs.declared.requests.Request.{Request}
use Rattle.kern_base.specs.declared.outcomes.Around.{Around}
use Rattle.kern_base.specs.declared.outcomes.Decision.{Decision}
use Rattle.kern_base.specs.declared.outcomes.Decision.TheVariants.{Done, Wake}
use Rattle.kern_base.specs.declared.outcomes.Who.TheVariants.{Matching}
use Rattle.kern_model.specs.Checks.{argument}
use Rattle.kern_model.specs.Effect.{fine}
use Rattle.kern_model.specs.FlagBits.{bits_after, ready_bits, consumed}
use Rattle.kern_model.specs.Options.{flags_do_not_wait}
use Rattle.decisions.specs.Rows.{is_no_error, wait_decision, abort_decision, delete_decision}

-- a call whose object is an event flag group
abbrev pub IsFlagCall : Request → Type 0
IsFlagCall r = kinds_wanted r.service ≡ Flags ∷ []

-- a wait is answered with its ready bits, where its condition holds; else it can not go on
abbrev pub pend_decision : Option ℕ → ℕ → Bool → Decision
pend_decision None option locked = wait_decision (flags_do_not_wait option) locked
pend_decision (Some ready) option locked = Done (fine ready)

-- the decision on a call, where the group has these bits; a post looks at every waiter
abbrev pub decision_for : Service → ℕ → Request → Around → Decision
decision_for FlagPost bits r seen = Wake Matching
decision_for FlagPend bits r seen = pend_decision (ready_bits bits (argument r 1) (argument r 3)) (argument r 3) seen.locked
decision_for FlagPendAbort bits r seen = abort_decision (argument r 1) seen.first
decision_for _ bits r seen = delete_decision (argument r 1) seen.first

abbrev pub decision_of : ℕ → Request → Around → Decision
decision_of bits r seen = decision_for r.service bits r seen

-- the bits after a wait that was decided so
abbrev pub bits_after_pend : Decision → ℕ → ℕ → ℕ
bits_after_pend (Done a) option bits = if is_no_error a.err then consumed bits a.value option else bits
bits_after_pend _ option bits = bits

-- A post sets or clears bits, a wait that succeeds at once consumes its ready bits where its option says so, and nothing else
-- changes the bits before a waiter reads its result.
abbrev pub bits_after_call : Service → Decision → Request → ℕ → ℕ
bits_after_call FlagPost d r bits = bits_after bits (argument r 1) (argument r 2)
bits_after_call FlagPend d r bits = bits_after_pend d (argument r 3) bits
bits_after_call _ d r bits = bits
