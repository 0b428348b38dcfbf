-- Each decision on a mutex comes to what its service does.
use Rattle.std.proofs.Common.{◌≡◌, ℕ, ◌+◌, List, [], ◌∷◌, refl, sym, ap, subst, ◌∙◌, Bool, true, false, not, Option, Some, None}
use Rattle.std.specs.Prelude.{if◌then◌else◌, ◌==◌, ◌-◌, nat_lt}
use Rattle.kern_base.specs.Services.{kinds_wanted}
use Rattle.kern_base.specs.declared.kinds.Kind.TheVariants as kind
use Rattle.kern_base.specs.declared.numbers.TaskId.{TaskId}
use Rattle.kern_base.specs.declared.services.Service.{Service}
use Rattle.kern_base.specs.declared.services.Service.TheVariants.{MutexPend, MutexPost, MutexPendAbort, MutexDel}
use Rattle.kern_base.specs.declared.requests.Request.{Request}
use Rattle.kern_base.specs.declared.errors.OsErr.TheVariants.{Depth, MutexOwner, MutexNotOwner, MutexNesting}
use Rattle.kern_base.specs.declared.outcomes.Around.{Around}
use Rattle.kern_base.specs.declared.outcomes.Decision.{Decision}
use Rattle.kern_base.specs.declared.outcomes.Decision.TheVariants.{Done, Wake}
use Rattle.kern_base.specs.declared.outcomes.Waiting.TheVariants.{Obj}
use Rattle.kern_base.specs.declared.outcomes.Who.TheVariants.{First}
use Rattle.kern_model.specs.State.{Kernel, Content, Held, list_at, object_at, with_content, nesting_limit}
use Rattle.kern_model.specs.Call.{call_of}
use Rattle.kern_model.specs.Checks.{argument}
use Rattle.kern_model.specs.Effect.{Effect, answer, done, refused, waits_unless, blocks_on, waits_for}
use Rattle.kern_model.specs.Inherit.{renewing}
use Rattle.kern_model.specs.Micro.{at_head, at_tail}
use Rattle.kern_model.specs.Mutexes.{mutex_pend, mutex_post, mutex_aborts, mutex_deletes, nests, released, passes_to}
use Rattle.kern_model.specs.Options.{does_not_wait}
use Rattle.kern_model.specs.Services.{content_for, perform}
use Rattle.kern_model.proofs.Lemmas.{equal}
use Rattle.decisions.specs.Around.{IsAround, first_waiter}
use Rattle.decisions.specs.Rows.{refusal, wait_decision, abort_decision, delete_decision}
use Rattle.decisions.specs.Decided.{decided, IsDecided}
use Rattle.decisions.proofs.Rows.{with_content-same, wait-row, abort-row, delete-row}
use Rattle.mutex_inherit.specs.declared.mutexes.Mutex.{Mutex}
use Rattle.mutex_inherit.specs.Chains.{number_of}
use Rattle.mutex_inherit.specs.Rows.{IsMutexCall, content_of, nest_decision, pend_decision, release_decision, post_decision, decision_for, decision_of, mutex_after, passed_to}

-- a call that changes nothing leaves the kernel as it is
stays : {A : Type 0} (f : Kernel → A) (k : Kernel) (o : ℕ) (c : Content) → (object_at k o).content ≡ c → f k ≡ f (with_content k o c)
stays f k o c held = ap f (sym (with_content-same k o c held))

-- a wait that can not go on at once leaves the mutex as it is
unchanged : (seen : Around) (m : Mutex) (non_blocking locked : Bool) → mutex_after MutexPend (wait_decision non_blocking locked) seen m ≡ m
unchanged seen m true locked = refl
unchanged seen m false true = refl
unchanged seen m false false = refl

module _ (r : Request) (seen : Around) (h : ℕ) (xs : List ℕ) (k : Kernel) where
  -- what a decision on this mutex comes to
  abbrev comes : Service → Mutex → Decision → Effect
  comes s m d = decided d s r seen.caller.0 h xs (with_content k (argument r 0) (content_of (mutex_after s d seen m)))

  module _ (m : Mutex) (held : (object_at k (argument r 0)).content ≡ content_of m) where
    -- OSMutexPend

    nests-row : (owner : TaskId) → m.owner ≡ Some owner → owner.0 ≡ seen.caller.0 → (b : Bool) → (if b then refused k Depth else done (with_content k (argument r 0) (Held (Some seen.caller.0) (m.nesting + 1))) (answer MutexOwner (m.nesting + 1))) ≡ comes MutexPend m (if b then refusal Depth else Done (answer MutexOwner (m.nesting + 1)))
    nests-row owner owned own true = stays (λ j. refused j Depth) k (argument r 0) (content_of m) held
    nests-row owner owned own false =
        ap (λ v. done (with_content k (argument r 0) (Held v (m.nesting + 1))) (answer MutexOwner (m.nesting + 1))) (sym (ap number_of owned ∙ ap (λ v. Some v) own))

    waits-row : waits_unless k (does_not_wait (argument r 2)) (renewing at_head (blocks_on k seen.caller.0 (waits_for (Obj MutexPend) (argument r 0 ∷ []) (argument r 1)))) ≡ comes MutexPend m (wait_decision (does_not_wait (argument r 2)) (not (k.lock == 0)))
    waits-row =
        let d = wait_decision (does_not_wait (argument r 2)) (not (k.lock == 0)) in
        wait-row k (λ d. decided d MutexPend r seen.caller.0 h xs k) _ refl refl refl (does_not_wait (argument r 2))
        ∙ stays (λ j. decided d MutexPend r seen.caller.0 h xs j) k (argument r 0) (content_of m) held
        ∙ ap (λ n. decided d MutexPend r seen.caller.0 h xs (with_content k (argument r 0) (content_of n))) (sym (unchanged seen m (does_not_wait (argument r 2)) (not (k.lock == 0))))

    owner-row : (owner : TaskId) → m.owner ≡ Some owner → (b : Bool) → (owner.0 == seen.caller.0) ≡ b → (if b then nests (argument r 0) seen.caller.0 m.nesting k else waits_unless k (does_not_wait (argument r 2)) (renewing at_head (blocks_on k seen.caller.0 (waits_for (Obj MutexPend) (argument r 0 ∷ []) (argument r 1))))) ≡ comes MutexPend m (if b then nest_decision m.nesting else wait_decision (does_not_wait (argument r 2)) (not (k.lock == 0)))
    owner-row owner owned true own = nests-row owner owned (equal owner.0 seen.caller.0 own) (m.nesting == nesting_limit)
    owner-row owner owned false other = waits-row

    -- OSMutexPost

    unnests-row : (owner : TaskId) → m.owner ≡ Some owner → owner.0 ≡ seen.caller.0 → seen.first ≡ first_waiter xs → (b : Bool) → (if b then done (with_content k (argument r 0) (Held (Some seen.caller.0) (m.nesting - 1))) (answer MutexNesting (m.nesting - 1)) else renewing at_tail (passes_to xs (argument r 0) h k)) ≡ comes MutexPost m (if b then Done (answer MutexNesting (m.nesting - 1)) else Wake First)
    unnests-row owner owned own first true =
        ap (λ v. done (with_content k (argument r 0) (Held v (m.nesting - 1))) (answer MutexNesting (m.nesting - 1))) (sym (ap number_of owned ∙ ap (λ v. Some v) own))
    unnests-row owner owned own first false =
        passes-row xs ∙ ap (λ f. decided (Wake First) MutexPost r seen.caller.0 h xs (with_content k (argument r 0) (content_of (passed_to f)))) (sym first)
      where
        passes-row : (ys : List ℕ) → renewing at_tail (passes_to ys (argument r 0) h k) ≡ decided (Wake First) MutexPost r seen.caller.0 h ys (with_content k (argument r 0) (content_of (passed_to (first_waiter ys))))
        passes-row [] = refl
        passes-row (y ∷ ys) = refl

    release-row : (owner : TaskId) → m.owner ≡ Some owner → seen.first ≡ first_waiter xs → xs ≡ list_at k.pend (argument r 0) → (b : Bool) → (owner.0 == seen.caller.0) ≡ b → (if b then released m.nesting r seen.caller.0 h k else refused k MutexNotOwner) ≡ comes MutexPost m (if b then release_decision m.nesting else refusal MutexNotOwner)
    release-row owner owned first these true own =
        ap (λ ys. if nat_lt 1 m.nesting then done (with_content k (argument r 0) (Held (Some seen.caller.0) (m.nesting - 1))) (answer MutexNesting (m.nesting - 1)) else renewing at_tail (passes_to ys (argument r 0) h k)) (sym these)
        ∙ unnests-row owner owned (equal owner.0 seen.caller.0 own) first (nat_lt 1 m.nesting)
    release-row owner owned first these false other = stays (λ j. refused j MutexNotOwner) k (argument r 0) (content_of m) held

pend-law : (owner : Option TaskId) (nesting : ℕ) (r : Request) (seen : Around) (h : ℕ) (xs : List ℕ) (k : Kernel) → let m : Mutex = record { owner = owner; nesting = nesting } in (object_at k (argument r 0)).content ≡ content_of m → mutex_pend (content_of m) r seen.caller.0 k ≡ comes r seen h xs k MutexPend m (pend_decision owner nesting (argument r 2) seen.caller (not (k.lock == 0)))
pend-law None nesting r seen h xs k held = refl
pend-law (Some owner) nesting r seen h xs k held =
    owner-row r seen h xs k (record { owner = Some owner; nesting = nesting }) held owner refl (owner.0 == seen.caller.0) refl

post-law : (owner : Option TaskId) (nesting : ℕ) (r : Request) (seen : Around) (h : ℕ) (xs : List ℕ) (k : Kernel) → let m : Mutex = record { owner = owner; nesting = nesting } in (object_at k (argument r 0)).content ≡ content_of m → seen.first ≡ first_waiter xs → xs ≡ list_at k.pend (argument r 0) → mutex_post (content_of m) r seen.caller.0 h k ≡ comes r seen h xs k MutexPost m (post_decision owner nesting seen.caller)
post-law None nesting r seen h xs k held first these = stays (λ j. refused j MutexNotOwner) k (argument r 0) (Held None nesting) held
post-law (Some owner) nesting r seen h xs k held first these =
    release-row r seen h xs k (record { owner = Some owner; nesting = nesting }) held owner refl first these (owner.0 == seen.caller.0) refl

-- all four

pub row : (s : Service) → kinds_wanted s ≡ kind.Mutex ∷ [] → (m : Mutex) (r : Request) (seen : Around) (k : Kernel) (c h : ℕ) → content_for r k ≡ content_of m → IsAround seen (list_at k.pend (argument r 0)) k → perform s (call_of r seen.caller.0 c h) k ≡ decided (decision_for s m r seen) s r seen.caller.0 h (list_at k.pend (argument r 0)) (with_content k (argument r 0) (content_of (mutex_after s (decision_for s m r seen) seen m)))
row MutexPend wanted m r seen k c h held around =
    let xs = list_at k.pend (argument r 0) in
    ap (λ content. mutex_pend content r seen.caller.0 k) held
    ∙ pend-law m.owner m.nesting r seen h xs k held
    ∙ ap (λ locked. comes r seen h xs k MutexPend m (pend_decision m.owner m.nesting (argument r 2) seen.caller locked)) (sym around.locked)
row MutexPost wanted m r seen k c h held around =
    let xs = list_at k.pend (argument r 0) in
    ap (λ content. mutex_post content r seen.caller.0 h k) held
    ∙ post-law m.owner m.nesting r seen h xs k held around.first refl
row MutexPendAbort wanted m r seen k c h held around =
    let xs = list_at k.pend (argument r 0) in
    let d = abort_decision (argument r 1) (first_waiter xs) in
    abort-row (λ ys d. decided d MutexPendAbort r seen.caller.0 h ys k) (λ ys. mutex_aborts ys h k) refl (λ y ys. refl) (λ y ys. refl) (argument r 1) xs
    ∙ stays (λ j. decided d MutexPendAbort r seen.caller.0 h xs j) k (argument r 0) (content_of m) held
    ∙ ap (λ first. decided (abort_decision (argument r 1) first) MutexPendAbort r seen.caller.0 h xs (with_content k (argument r 0) (content_of m))) (sym around.first)
row MutexDel wanted m r seen k c h held around =
    let xs = list_at k.pend (argument r 0) in
    let d = delete_decision (argument r 1) (first_waiter xs) in
    delete-row (λ ys d. decided d MutexDel r seen.caller.0 h ys k) (λ all ys. mutex_deletes all ys (argument r 0) h k) (λ ys. refl) refl (λ y ys. refl) (argument r 1) xs
    ∙ stays (λ j. decided d MutexDel r seen.caller.0 h xs j) k (argument r 0) (content_of m) held
    ∙ ap (λ first. decided (delete_decision (argument r 1) first) MutexDel r seen.caller.0 h xs (with_content k (argument r 0) (content_of m))) (sym around.first)
row s wanted m r seen k c h held around = absurd cc

-- what is decided comes to what the service does
pub decided-row : (d : Decision) (m : Mutex) (r : Request) (seen : Around) → IsMutexCall r → d ≡ decision_of m r seen → IsDecided d (content_of m) (content_of (mutex_after r.service d seen m)) r seen
decided-row d m r seen wanted e =
    subst (λ (d : Decision). IsDecided d (content_of m) (content_of (mutex_after r.service d seen m)) r seen) (sym e) (row r.service wanted m r seen)
