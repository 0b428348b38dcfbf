-- Each decision on a message queue comes to what its service does.
use Rattle.std.proofs.Common.{◌≡◌, ℕ, zero, suc, ◌+◌, List, [], ◌∷◌, ◌++◌, length, refl, sym, ap, subst, ◌∙◌, Bool, true, false, not, arith, Some, None}
use Rattle.std.specs.Prelude.{if◌then◌else◌, ◌==◌, nat_le, slice_index_or}
use Rattle.kern_base.specs.Services.{kinds_wanted}
use Rattle.kern_base.specs.declared.kinds.Kind.TheVariants as kind
use Rattle.kern_base.specs.declared.services.Service.{Service}
use Rattle.kern_base.specs.declared.services.Service.TheVariants.{QPost, QPend, QPendAbort, QDel}
use Rattle.kern_base.specs.declared.requests.Request.{Request}
use Rattle.kern_base.specs.declared.errors.OsErr.TheVariants.{ObjectDeleted, PoolEmpty, QueueMax, TaskWaiting}
use Rattle.kern_base.specs.declared.outcomes.Around.{Around}
use Rattle.kern_base.specs.declared.outcomes.Decision.{Decision}
use Rattle.kern_base.specs.declared.outcomes.Decision.TheVariants.{Wake}
use Rattle.kern_base.specs.declared.outcomes.Finished.{Finished}
use Rattle.kern_base.specs.declared.outcomes.Who.TheVariants.{First, All}
use Rattle.kern_model.specs.State.{Kernel, Task, Object, Messages, no_object, list_at, object_at, object_in, task_at, update_object, with_content}
use Rattle.kern_model.specs.Call.{call_of}
use Rattle.kern_model.specs.Checks.{argument}
use Rattle.kern_model.specs.Effect.{Effect, answer, answers, fine, message, refused, result_of, woken, chosen, posted_result, wakes, wakes_all, wake_blocks, wakes_blocks}
use Rattle.kern_model.specs.Options.{stores_first, hands_to_all, does_not_wait}
use Rattle.kern_model.specs.Queues.{stored, store_in, q_post, q_post_to, q_pend}
use Rattle.kern_model.specs.Services.{content_for, perform}
use Rattle.kern_model.specs.Waiters.{aborts, deletes, emptied, messages_in, without_object}
use Rattle.decisions.specs.Around.{IsAround, first_waiter}
use Rattle.decisions.specs.Rows.{wait_decision, abort_decision, delete_decision}
use Rattle.decisions.specs.Decided.{decided}
use Rattle.decisions.proofs.Rows.{with_content-same, wait-row, abort-row, delete-row}
use Rattle.msg_queues.specs.Rows.{IsQueueCall, IsQueueDecided, store_decision, post_decision, pend_decision, decision_for, decision_of, messages_after, free_after}

-- the kernel with these messages in a queue, and so many free
abbrev kept : Kernel → ℕ → ℕ → List (ℕ × ℕ) → ℕ → Kernel
kept k o limit ms free = record (with_content k o (Messages limit ms)) { free = free }

-- a call that changes nothing leaves the kernel as it is
stays : {A : Type 0} (f : Kernel → A) (k : Kernel) (o limit : ℕ) (ms : List (ℕ × ℕ)) → (object_at k o).content ≡ Messages limit ms → f k ≡ f (kept k o limit ms k.free)
stays f k o limit ms held = ap f (sym (with_content-same k o (Messages limit ms) held))

-- a deletion: that the messages go back before the waiters are woken, or after it, is the same

woken-apart : (f : Task → Finished) (h : ℕ) (xs : List ℕ) (os : List Object) (n : ℕ) (k : Kernel) → wakes_all f h xs (record k { objects = os; free = n }) ≡ record (wakes_all f h xs k) { objects = os; free = n }
woken-apart f h [] os n k = refl
woken-apart f h (x ∷ xs) os n k = woken-apart f h xs os n (wakes (f (task_at k x)) h x k)

blocks-apart : (h : ℕ) (xs : List ℕ) (os : List Object) (n : ℕ) (k : Kernel) → wakes_blocks (record k { objects = os; free = n }) h xs ≡ wakes_blocks k h xs
blocks-apart h [] os n k = refl
blocks-apart h (x ∷ xs) os n k = ap (λ bs. wake_blocks k h x ++ bs) (blocks-apart h xs os n k)

abbrev erased : Object → Object
erased b = record { content = emptied b.content; deleted = true }

objects-erased : (bs : List Object) (o limit : ℕ) (ms : List (ℕ × ℕ)) → (slice_index_or bs o no_object).content ≡ Messages limit ms → update_object (update_object bs o (λ b. record b { content = Messages limit [] })) o erased ≡ update_object bs o erased
objects-erased [] o limit ms held = refl
objects-erased (b ∷ bs) zero limit ms held = ap (λ c. record { content = c; deleted = true } ∷ bs) (sym (ap emptied held))
objects-erased (b ∷ bs) (suc o) limit ms held = ap (λ cs. b ∷ cs) (objects-erased bs o limit ms held)

none-left : (bs : List Object) (o limit : ℕ) (ms : List (ℕ × ℕ)) → (slice_index_or bs o no_object).content ≡ Messages limit ms → messages_in (object_in (update_object bs o (λ b. record b { content = Messages limit [] })) o).content ≡ 0
none-left [] o limit ms held = refl
none-left (b ∷ bs) zero limit ms held = refl
none-left (b ∷ bs) (suc o) limit ms held = none-left bs o limit ms held

erased-apart : (w k : Kernel) (o limit : ℕ) (ms : List (ℕ × ℕ)) → (object_at k o).content ≡ Messages limit ms → without_object o (record w { objects = (with_content k o (Messages limit [])).objects; free = k.free + length ms }) ≡ without_object o (record w { objects = k.objects; free = k.free })
erased-apart w k o limit ms held =
    let os = (with_content k o (Messages limit [])).objects in
    let none = none-left k.objects o limit ms held in
    let all : messages_in (object_at k o).content ≡ length ms = ap messages_in held in
    let same : k.free + length ms + messages_in (object_in os o).content ≡ k.free + messages_in (object_at k o).content = omega (arith, none, all) in
    ap (λ n. record w { objects = update_object os o erased; free = n }) same
    ∙ ap (λ bs. record w { objects = bs; free = k.free + messages_in (object_at k o).content }) (objects-erased k.objects o limit ms held)

gone-apart : (f : Task → Finished) (h : ℕ) (xs : List ℕ) (k : Kernel) (o limit : ℕ) (ms : List (ℕ × ℕ)) → (object_at k o).content ≡ Messages limit ms → without_object o (wakes_all f h xs (kept k o limit [] (k.free + length ms))) ≡ without_object o (wakes_all f h xs k)
gone-apart f h xs k o limit ms held =
    let os = (with_content k o (Messages limit [])).objects in
    ap (λ j. without_object o j) (woken-apart f h xs os (k.free + length ms) k)
    ∙ erased-apart (wakes_all f h xs k) k o limit ms held
    ∙ ap (λ j. without_object o j) (sym (woken-apart f h xs k.objects k.free k))

delete-law : (r : Request) (x h : ℕ) (xs : List ℕ) (k : Kernel) (limit : ℕ) (ms : List (ℕ × ℕ)) → (object_at k (argument r 0)).content ≡ Messages limit ms → decided (Wake All) QDel r x h xs (kept k (argument r 0) limit [] (k.free + length ms)) ≡ deletes true xs (argument r 0) h k
delete-law r x h xs k limit ms held =
    let o = argument r 0 in
    let f = result_of (answer ObjectDeleted 0) in
    let j = kept k o limit [] (k.free + length ms) in
    ap (λ w. record { kernel = w; outcome = answers (fine (length xs)); blocks = wakes_blocks j h xs }) (gone-apart f h xs k o limit ms held)
    ∙ ap (λ bs. record { kernel = without_object o (wakes_all f h xs k); outcome = answers (fine (length xs)); blocks = bs }) (blocks-apart h xs (with_content k o (Messages limit [])).objects (k.free + length ms) k)

module _ (r : Request) (x h : ℕ) (k : Kernel) (limit : ℕ) (ms : List (ℕ × ℕ)) (held : (object_at k (argument r 0)).content ≡ Messages limit ms) where
  -- what a decision comes to
  abbrev comes : Service → List ℕ → Decision → Effect
  comes s xs d = decided d s r x h xs (kept k (argument r 0) limit (messages_after s d r ms) (free_after s d (length ms) k.free))

  -- OSQPost

  store-row : (full empty : Bool) → store_in (if full then Some QueueMax else (if empty then Some PoolEmpty else None)) (argument r 0) limit (stored (stores_first (argument r 3)) (argument r 1, argument r 2) ms) k ≡ comes QPost [] (store_decision (if full then Some QueueMax else (if empty then Some PoolEmpty else None)))
  store-row true empty = stays (λ j. refused j QueueMax) k (argument r 0) limit ms held
  store-row false true = stays (λ j. refused j PoolEmpty) k (argument r 0) limit ms held
  store-row false false = refl

  hand-row : (y : ℕ) (ys : List ℕ) (b : Bool) → woken (posted_result (argument r 0) (message (argument r 1) (argument r 2))) (fine 0) h (chosen b (y ∷ ys)) k ≡ comes QPost (y ∷ ys) (Wake (if b then All else First))
  hand-row y ys true = stays (λ j. woken (posted_result (argument r 0) (message (argument r 1) (argument r 2))) (fine 0) h (y ∷ ys) j) k (argument r 0) limit ms held
  hand-row y ys false = stays (λ j. woken (posted_result (argument r 0) (message (argument r 1) (argument r 2))) (fine 0) h (y ∷ []) j) k (argument r 0) limit ms held

  post-law : (xs : List ℕ) → q_post_to xs limit ms r h k ≡ comes QPost xs (post_decision (length ms) limit k.free (argument r 3) (first_waiter xs))
  post-law [] = store-row (nat_le limit (length ms)) (k.free == 0)
  post-law (y ∷ ys) = hand-row y ys (hands_to_all (argument r 3))

  -- OSQPendAbort and OSQDel

  abort-law : (xs : List ℕ) → aborts (chosen (argument r 1 == 1) xs) h k ≡ comes QPendAbort xs (abort_decision (argument r 1) (first_waiter xs))
  abort-law xs =
      abort-row (λ ys d. decided d QPendAbort r x h ys k) (λ ys. aborts ys h k) refl (λ y ys. refl) (λ y ys. refl) (argument r 1) xs
      ∙ stays (λ j. decided (abort_decision (argument r 1) (first_waiter xs)) QPendAbort r x h xs j) k (argument r 0) limit ms held

  del-law : (xs : List ℕ) → deletes (argument r 1 == 1) xs (argument r 0) h k ≡ comes QDel xs (delete_decision (argument r 1) (first_waiter xs))
  del-law xs =
      delete-row (comes QDel) (λ all ys. deletes all ys (argument r 0) h k)
      (λ ys. delete-law r x h ys k limit ms held)
      (delete-law r x h [] k limit ms held)
      (λ y ys. sym (stays (λ j. refused j TaskWaiting) k (argument r 0) limit ms held))
      (argument r 1) xs

-- OSQPend

unchanged : (r : Request) (k : Kernel) (limit : ℕ) (non_blocking locked : Bool) → kept k (argument r 0) limit [] k.free ≡ kept k (argument r 0) limit (messages_after QPend (wait_decision non_blocking locked) r []) (free_after QPend (wait_decision non_blocking locked) 0 k.free)
unchanged r k limit true locked = refl
unchanged r k limit false true = refl
unchanged r k limit false false = refl

pend-law : (r : Request) (x h : ℕ) (xs : List ℕ) (k : Kernel) (limit : ℕ) (ms : List (ℕ × ℕ)) (held : (object_at k (argument r 0)).content ≡ Messages limit ms) → q_pend (Messages limit ms) r x k ≡ comes r x h k limit ms held QPend xs (pend_decision ms (argument r 2) (not (k.lock == 0)))
pend-law r x h xs k limit [] held =
    let d = wait_decision (does_not_wait (argument r 2)) (not (k.lock == 0)) in
    wait-row k (λ d. decided d QPend r x h xs k) _ refl refl refl (does_not_wait (argument r 2))
    ∙ stays (λ j. decided d QPend r x h xs j) k (argument r 0) limit [] held
    ∙ ap (λ j. decided d QPend r x h xs j) (unchanged r k limit (does_not_wait (argument r 2)) (not (k.lock == 0)))
pend-law r x h xs k limit (m ∷ ms) held = refl

-- all four

row : (s : Service) → kinds_wanted s ≡ kind.Queue ∷ [] → (limit : ℕ) (ms : List (ℕ × ℕ)) (r : Request) (seen : Around) (k : Kernel) (c h : ℕ) (held : content_for r k ≡ Messages limit ms) → IsAround seen (list_at k.pend (argument r 0)) k → perform s (call_of r seen.caller.0 c h) k ≡ comes r seen.caller.0 h k limit ms held s (list_at k.pend (argument r 0)) (decision_for s limit ms k.free r seen)
row QPost wanted limit ms r seen k c h held around =
    let xs = list_at k.pend (argument r 0) in
    ap (λ content. q_post content r h k) held
    ∙ post-law r seen.caller.0 h k limit ms held xs
    ∙ ap (λ first. comes r seen.caller.0 h k limit ms held QPost xs (post_decision (length ms) limit k.free (argument r 3) first)) (sym around.first)
row QPend wanted limit ms r seen k c h held around =
    let xs = list_at k.pend (argument r 0) in
    ap (λ content. q_pend content r seen.caller.0 k) held
    ∙ pend-law r seen.caller.0 h xs k limit ms held
    ∙ ap (λ locked. comes r seen.caller.0 h k limit ms held QPend xs (pend_decision ms (argument r 2) locked)) (sym around.locked)
row QPendAbort wanted limit ms r seen k c h held around =
    let xs = list_at k.pend (argument r 0) in
    abort-law r seen.caller.0 h k limit ms held xs
    ∙ ap (λ first. comes r seen.caller.0 h k limit ms held QPendAbort xs (abort_decision (argument r 1) first)) (sym around.first)
row QDel wanted limit ms r seen k c h held around =
    let xs = list_at k.pend (argument r 0) in
    del-law r seen.caller.0 h k limit ms held xs
    ∙ ap (λ first. comes r seen.caller.0 h k limit ms held QDel xs (delete_decision (argument r 1) first)) (sym around.first)
row s wanted limit ms r seen k c h held around = absurd cc

-- what is decided comes to what the service does
pub decided-row : (d : Decision) (limit : ℕ) (ms : List (ℕ × ℕ)) (free : ℕ) (r : Request) (seen : Around) → IsQueueCall r → d ≡ decision_of limit ms free r seen → IsQueueDecided d limit ms free r seen
decided-row d limit ms free r seen wanted e =
    subst (λ (d : Decision). IsQueueDecided d limit ms free r seen) (sym e) (λ k interrupted compared held same around.
    let o = argument r 0 in
    let xs = list_at k.pend o in
    let x = seen.caller.0 in
    subst (λ n. let d = decision_of limit ms n r seen in perform r.service (call_of r x interrupted compared) k ≡ decided d r.service r x compared xs (kept k o limit (messages_after r.service d r ms) (free_after r.service d (length ms) n))) same
    (row r.service wanted limit ms r seen k interrupted compared held around))
