-- Each decision on an event flag group comes to what its service does.
use Rattle.std.proofs.Common.{◌≡◌, ℕ, zero, suc, List, [], ◌∷◌, ◌++◌, refl, sym, ap, subst, ◌∙◌, Bool, true, false, not, Option, Some, None}
use Rattle.std.specs.Prelude.{◌==◌, slice_index_or}
use Rattle.kern_base.specs.Services.{kinds_wanted}
use Rattle.kern_base.specs.declared.kinds.Kind.TheVariants.{Flags}
use Rattle.kern_base.specs.declared.services.Service.{Service}
use Rattle.kern_base.specs.declared.services.Service.TheVariants.{FlagPost, FlagPend, FlagPendAbort, FlagDel}
use Rattle.kern_base.specs.declared.requests.Request.{Request}
use Rattle.kern_base.specs.declared.outcomes.Around.{Around}
use Rattle.kern_base.specs.declared.outcomes.Decision.{Decision}
use Rattle.kern_model.specs.State.{Kernel, Object, Content, Bits, no_object, list_at, object_at, task_at, update_object, with_content}
use Rattle.kern_model.specs.Call.{call_of}
use Rattle.kern_model.specs.Checks.{argument}
use Rattle.kern_model.specs.Effect.{answers, fine}
use Rattle.kern_model.specs.FlagBits.{bits_after, ready_bits}
use Rattle.kern_model.specs.Flags.{flag_wakes_all, flag_blocks, flag_blocks_all, flag_post, flag_pend, flag_pend_on}
use Rattle.kern_model.specs.Options.{flags_do_not_wait}
use Rattle.kern_model.specs.Services.{content_for, perform}
use Rattle.kern_model.specs.Waiters.{aborts, deletes}
use Rattle.decisions.specs.Around.{IsAround, first_waiter}
use Rattle.decisions.specs.Rows.{wait_decision, abort_decision, delete_decision}
use Rattle.decisions.specs.Decided.{decided, wakes_matching, bits_in, IsDecided}
use Rattle.decisions.proofs.Rows.{with_content-same, wait-row, abort-row, delete-row}
use Rattle.event_flags.specs.Rows.{IsFlagCall, pend_decision, decision_for, decision_of, bits_after_pend, bits_after_call}

-- a call that changes nothing leaves the kernel as it is
stays : {A : Type 0} (f : Kernel → A) (k : Kernel) (o bits : ℕ) → (object_at k o).content ≡ Bits bits → f k ≡ f (with_content k o (Bits bits))
stays f k o bits held = ap f (sym (with_content-same k o (Bits bits) held))

-- OSFlagPost

-- the content of a group that is written is read back
content-read : (bs : List Object) (o : ℕ) (c : Content) (bits : ℕ) → (slice_index_or bs o no_object).content ≡ Bits bits → (slice_index_or (update_object bs o (λ b. record b { content = c })) o no_object).content ≡ c
content-read [] o c bits h = absurd cc
content-read (b ∷ bs) zero c bits h = refl
content-read (b ∷ bs) (suc o) c bits h = content-read bs o c bits h

-- the blocks of a post do not depend on what objects hold

looked-objects : (h x : ℕ) (k : Kernel) (bs : List Object) (o : Option ℕ) → flag_blocks o h x (record k { objects = bs }) ≡ flag_blocks o h x k
looked-objects h x k bs None = refl
looked-objects h x k bs (Some ready) = refl

blocks-objects : (bits h : ℕ) (xs : List ℕ) (bs : List Object) (k : Kernel) → flag_blocks_all bits h xs (record k { objects = bs }) ≡ flag_blocks_all bits h xs k
blocks-objects bits h [] bs k = refl
blocks-objects bits h (x ∷ xs) bs k =
    let t = task_at k x in
    let o = ready_bits bits t.mask t.opt in
    ap (λ blocks. blocks ++ flag_blocks_all bits h xs (record k { objects = bs })) (looked-objects h x k bs o)
    ∙ ap (λ blocks. flag_blocks o h x k ++ blocks) (blocks-objects bits h xs bs k)

post-law : (bits new o h : ℕ) (xs : List ℕ) (k : Kernel) → (object_at k o).content ≡ Bits bits → record { kernel = flag_wakes_all new h xs (with_content k o (Bits new)); outcome = answers (fine new); blocks = flag_blocks_all new h xs k } ≡ wakes_matching (bits_in (object_at (with_content k o (Bits new)) o).content) h xs (with_content k o (Bits new))
post-law bits new o h xs k held =
    let j = with_content k o (Bits new) in
    ap (λ blocks. record { kernel = flag_wakes_all new h xs j; outcome = answers (fine new); blocks = blocks }) (sym (blocks-objects new h xs j.objects k))
    ∙ ap (λ c. wakes_matching (bits_in c) h xs j) (sym (content-read k.objects o (Bits new) bits held))

-- OSFlagPend

-- a wait that can not go on at once changes no bit
unchanged : (option bits : ℕ) (non_blocking locked : Bool) → bits_after_pend (wait_decision non_blocking locked) option bits ≡ bits
unchanged option bits true locked = refl
unchanged option bits false true = refl
unchanged option bits false false = refl

pend-law : (ready : Option ℕ) (bits : ℕ) (r : Request) (x h : ℕ) (xs : List ℕ) (k : Kernel) → (object_at k (argument r 0)).content ≡ Bits bits → flag_pend_on ready bits r x k ≡ decided (pend_decision ready (argument r 3) (not (k.lock == 0))) FlagPend r x h xs (with_content k (argument r 0) (Bits (bits_after_pend (pend_decision ready (argument r 3) (not (k.lock == 0))) (argument r 3) bits)))
pend-law None bits r x h xs k held =
    let d = wait_decision (flags_do_not_wait (argument r 3)) (not (k.lock == 0)) in
    wait-row k (λ d. decided d FlagPend r x h xs k) _ refl refl refl (flags_do_not_wait (argument r 3))
    ∙ stays (λ j. decided d FlagPend r x h xs j) k (argument r 0) bits held
    ∙ ap (λ m. decided d FlagPend r x h xs (with_content k (argument r 0) (Bits m))) (sym (unchanged (argument r 3) bits (flags_do_not_wait (argument r 3)) (not (k.lock == 0))))
pend-law (Some ready) bits r x h xs k held = refl

-- all four

pub row : (s : Service) → kinds_wanted s ≡ Flags ∷ [] → (bits : ℕ) (r : Request) (seen : Around) (k : Kernel) (c h : ℕ) → content_for r k ≡ Bits bits → IsAround seen (list_at k.pend (argument r 0)) k → perform s (call_of r seen.caller.0 c h) k ≡ decided (decision_for s bits r seen) s r seen.caller.0 h (list_at k.pend (argument r 0)) (with_content k (argument r 0) (Bits (bits_after_call s (decision_for s bits r seen) r bits)))
row FlagPost kind bits r seen k c h held around =
    ap (λ content. flag_post content r h k) held
    ∙ post-law bits (bits_after bits (argument r 1) (argument r 2)) (argument r 0) h (list_at k.pend (argument r 0)) k held
row FlagPend kind bits r seen k c h held around =
    let xs = list_at k.pend (argument r 0) in
    let ready = ready_bits bits (argument r 1) (argument r 3) in
    ap (λ content. flag_pend content r seen.caller.0 k) held
    ∙ pend-law ready bits r seen.caller.0 h xs k held
    ∙ ap (λ locked. let d = pend_decision ready (argument r 3) locked in decided d FlagPend r seen.caller.0 h xs (with_content k (argument r 0) (Bits (bits_after_pend d (argument r 3) bits)))) (sym around.locked)
row FlagPendAbort kind bits r seen k c h held around =
    let xs = list_at k.pend (argument r 0) in
    let d = abort_decision (argument r 1) (first_waiter xs) in
    abort-row (λ ys d. decided d FlagPendAbort r seen.caller.0 h ys k) (λ ys. aborts ys h k) refl (λ y ys. refl) (λ y ys. refl) (argument r 1) xs
    ∙ stays (λ j. decided d FlagPendAbort r seen.caller.0 h xs j) k (argument r 0) bits held
    ∙ ap (λ first. decided (abort_decision (argument r 1) first) FlagPendAbort r seen.caller.0 h xs (with_content k (argument r 0) (Bits bits))) (sym around.first)
row FlagDel kind bits r seen k c h held around =
    let xs = list_at k.pend (argument r 0) in
    let d = delete_decision (argument r 1) (first_waiter xs) in
    delete-row (λ ys d. decided d FlagDel r seen.caller.0 h ys k) (λ all ys. deletes all ys (argument r 0) h k) (λ ys. refl) refl (λ y ys. refl) (argument r 1) xs
    ∙ stays (λ j. decided d FlagDel r seen.caller.0 h xs j) k (argument r 0) bits held
    ∙ ap (λ first. decided (delete_decision (argument r 1) first) FlagDel r seen.caller.0 h xs (with_content k (argument r 0) (Bits bits))) (sym around.first)
row s kind bits r seen k c h held around = absurd cc

-- what is decided comes to what the service does
pub decided-row : (d : Decision) (bits : ℕ) (r : Request) (seen : Around) → IsFlagCall r → d ≡ decision_of bits r seen → IsDecided d (Bits bits) (Bits (bits_after_call r.service d r bits)) r seen
decided-row d bits r seen kind e =
    subst (λ (d : Decision). IsDecided d (Bits bits) (Bits (bits_after_call r.service d r bits)) r seen) (sym e) (row r.service kind bits r seen)
