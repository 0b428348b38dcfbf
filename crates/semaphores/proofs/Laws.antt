-- Each decision on a semaphore comes to what its service does.
use Rattle.std.proofs.Common.{◌≡◌, ℕ, zero, suc, ◌+◌, List, [], ◌∷◌, refl, sym, ap, subst, ◌∙◌, Bool, true, false, not, ◌^◌, arith}
use Rattle.std.specs.Prelude.{◌-◌, if◌then◌else◌, ◌==◌}
use Rattle.kern_base.specs.Services.{kinds_wanted}
use Rattle.kern_base.specs.declared.kinds.Kind.TheVariants.{Sem}
use Rattle.kern_base.specs.declared.services.Service.{Service}
use Rattle.kern_base.specs.declared.services.Service.TheVariants.{SemPost, SemPend, SemPendAbort, SemDel}
use Rattle.kern_base.specs.declared.requests.Request.{Request}
use Rattle.kern_base.specs.declared.errors.OsErr.TheVariants.{SemOverflow}
use Rattle.kern_base.specs.declared.outcomes.Around.{Around}
use Rattle.kern_base.specs.declared.outcomes.Decision.{Decision}
use Rattle.kern_base.specs.declared.outcomes.Decision.TheVariants.{Done, Wake}
use Rattle.kern_base.specs.declared.outcomes.Who.TheVariants.{First, All}
use Rattle.kern_model.specs.State.{Kernel, Count, list_at, object_at, with_content}
use Rattle.kern_model.specs.Call.{call_of}
use Rattle.kern_model.specs.Checks.{argument}
use Rattle.kern_model.specs.Effect.{done, fine, refused, woken, chosen, posted_result}
use Rattle.kern_model.specs.Options.{posts_to_all, does_not_wait}
use Rattle.kern_model.specs.Semaphores.{sem_post, sem_post_to, sem_pend}
use Rattle.kern_model.specs.Services.{content_for, perform}
use Rattle.kern_model.specs.Waiters.{aborts, deletes}
use Rattle.decisions.specs.Around.{IsAround, first_waiter}
use Rattle.decisions.specs.Rows.{is_success, refusal, wait_decision, abort_decision, delete_decision}
use Rattle.decisions.specs.Decided.{decided, IsDecided}
use Rattle.decisions.proofs.Rows.{with_content-same, wait-row, abort-row, delete-row}
use Rattle.semaphores.specs.Rows.{IsSemaphoreCall, post_decision, pend_decision, decision_for, decision_of, count_after}

-- a call that changes nothing leaves the kernel as it is
stays : {A : Type 0} (f : Kernel → A) (k : Kernel) (o n : ℕ) → (object_at k o).content ≡ Count n → f k ≡ f (with_content k o (Count n))
stays f k o n held = ap f (sym (with_content-same k o (Count n) held))

-- OSSemPost

abbrev counted : ℕ → Bool → Decision
counted n b = if b then refusal SemOverflow else Done (fine (n + 1))

counts-up : (n : ℕ) (r : Request) (x h : ℕ) (xs : List ℕ) (k : Kernel) → (object_at k (argument r 0)).content ≡ Count n → (b : Bool) → (if b then refused k SemOverflow else done (with_content k (argument r 0) (Count (n + 1))) (fine (n + 1))) ≡ decided (counted n b) SemPost r x h xs (with_content k (argument r 0) (Count (count_after SemPost (counted n b) n)))
counts-up n r x h xs k held true = stays (λ j. refused j SemOverflow) k (argument r 0) n held
counts-up n r x h xs k held false = refl

wakes-some : (n : ℕ) (r : Request) (x h : ℕ) (y : ℕ) (ys : List ℕ) (k : Kernel) → (object_at k (argument r 0)).content ≡ Count n → (b : Bool) → woken (posted_result (argument r 0) (fine 0)) (fine 0) h (chosen b (y ∷ ys)) k ≡ decided (Wake (if b then All else First)) SemPost r x h (y ∷ ys) (with_content k (argument r 0) (Count n))
wakes-some n r x h y ys k held true = stays (λ j. woken (posted_result (argument r 0) (fine 0)) (fine 0) h (y ∷ ys) j) k (argument r 0) n held
wakes-some n r x h y ys k held false = stays (λ j. woken (posted_result (argument r 0) (fine 0)) (fine 0) h (y ∷ []) j) k (argument r 0) n held

post-law : (n : ℕ) (r : Request) (x h : ℕ) (xs : List ℕ) (k : Kernel) → (object_at k (argument r 0)).content ≡ Count n → sem_post_to xs n (argument r 0) (argument r 1) h k ≡ decided (post_decision n (argument r 1) (first_waiter xs)) SemPost r x h xs (with_content k (argument r 0) (Count (count_after SemPost (post_decision n (argument r 1) (first_waiter xs)) n)))
post-law n r x h [] k held = counts-up n r x h [] k held (n == 2 ^ 32 - 1)
post-law n r x h (y ∷ ys) k held = wakes-some n r x h y ys k held (posts_to_all (argument r 1))

-- OSSemPend

stays-zero : (b : Bool) → (if b then 0 - 1 else 0) ≡ 0
stays-zero true = refl
stays-zero false = refl

pend-law : (n : ℕ) (r : Request) (x h : ℕ) (xs : List ℕ) (k : Kernel) → (object_at k (argument r 0)).content ≡ Count n → sem_pend (Count n) r x k ≡ decided (pend_decision n (argument r 2) (not (k.lock == 0))) SemPend r x h xs (with_content k (argument r 0) (Count (count_after SemPend (pend_decision n (argument r 2) (not (k.lock == 0))) n)))
pend-law zero r x h xs k held =
    let d = wait_decision (does_not_wait (argument r 2)) (not (k.lock == 0)) in
    wait-row k (λ d. decided d SemPend r x h xs k) _ refl refl refl (does_not_wait (argument r 2))
    ∙ stays (λ j. decided d SemPend r x h xs j) k (argument r 0) 0 held
    ∙ ap (λ m. decided d SemPend r x h xs (with_content k (argument r 0) (Count m))) (sym (stays-zero (is_success d)))
pend-law (suc n) r x h xs k held =
    let less_one : n ≡ suc n - 1 = omega arith in
    ap (λ m. done (with_content k (argument r 0) (Count m)) (fine n)) less_one

-- all four

pub row : (s : Service) → kinds_wanted s ≡ Sem ∷ [] → (n : ℕ) (r : Request) (seen : Around) (k : Kernel) (c h : ℕ) → content_for r k ≡ Count n → IsAround seen (list_at k.pend (argument r 0)) k → perform s (call_of r seen.caller.0 c h) k ≡ decided (decision_for s n r seen) s r seen.caller.0 h (list_at k.pend (argument r 0)) (with_content k (argument r 0) (Count (count_after s (decision_for s n r seen) n)))
row SemPost kind n r seen k c h held around =
    let xs = list_at k.pend (argument r 0) in
    ap (λ content. sem_post content r h k) held
    ∙ post-law n r seen.caller.0 h xs k held
    ∙ ap (λ first. let d = post_decision n (argument r 1) first in decided d SemPost r seen.caller.0 h xs (with_content k (argument r 0) (Count (count_after SemPost d n)))) (sym around.first)
row SemPend kind n r seen k c h held around =
    let xs = list_at k.pend (argument r 0) in
    ap (λ content. sem_pend content r seen.caller.0 k) held
    ∙ pend-law n r seen.caller.0 h xs k held
    ∙ ap (λ locked. let d = pend_decision n (argument r 2) locked in decided d SemPend r seen.caller.0 h xs (with_content k (argument r 0) (Count (count_after SemPend d n)))) (sym around.locked)
row SemPendAbort kind n r seen k c h held around =
    let xs = list_at k.pend (argument r 0) in
    let d = abort_decision (argument r 1) (first_waiter xs) in
    abort-row (λ ys d. decided d SemPendAbort r seen.caller.0 h ys k) (λ ys. aborts ys h k) refl (λ y ys. refl) (λ y ys. refl) (argument r 1) xs
    ∙ stays (λ j. decided d SemPendAbort r seen.caller.0 h xs j) k (argument r 0) n held
    ∙ ap (λ first. decided (abort_decision (argument r 1) first) SemPendAbort r seen.caller.0 h xs (with_content k (argument r 0) (Count n))) (sym around.first)
row SemDel kind n r seen k c h held around =
    let xs = list_at k.pend (argument r 0) in
    let d = delete_decision (argument r 1) (first_waiter xs) in
    delete-row (λ ys d. decided d SemDel r seen.caller.0 h ys k) (λ all ys. deletes all ys (argument r 0) h k) (λ ys. refl) refl (λ y ys. refl) (argument r 1) xs
    ∙ stays (λ j. decided d SemDel r seen.caller.0 h xs j) k (argument r 0) n held
    ∙ ap (λ first. decided (delete_decision (argument r 1) first) SemDel r seen.caller.0 h xs (with_content k (argument r 0) (Count n))) (sym around.first)
row s kind n r seen k c h held around = absurd cc

-- what is decided comes to what the service does
pub decided-row : (d : Decision) (n : ℕ) (r : Request) (seen : Around) → IsSemaphoreCall r → d ≡ decision_of n r seen → IsDecided d (Count n) (Count (count_after r.service d n)) r seen
decided-row d n r seen kind e =
    subst (λ (d : Decision). IsDecided d (Count n) (Count (count_after r.service d n)) r seen) (sym e) (row r.service kind n r seen)
