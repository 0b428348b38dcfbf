-- Where its service renews no priorities, a call takes at most 1,200 micro-steps.
use Rattle.kern_model.proofs.Common.{Call, ◌≡◌, ℕ, ◌<◌, ◌≤◌, ◌*◌, List, [], ◌∷◌, length, ap, sym, ◌∙◌, refl, Bool, true, false, arith, Option, Some, None, ◌==◌, if◌then◌else◌, Service, Request, OsErr, CallUnknown, Waiting, Obj, Kernel, Task, Content, Bits, list_at, task_at, object_at, count_of, is_zero, waits_for_nothing, Lists, after, in_order, lists_of, refused, wake_cost, argument, call_error, effect, after_checks, content_for, cost, renews, IsValid, IsLinked, AreWaits, one_if, WaitsFor, can_wait}
use Rattle.std.proofs.lemmas.Bool.{false≢true}
use Rattle.kern_model.specs.FlagBits.{ready_bits, bits_after}
use Rattle.kern_model.specs.Flags.{flag_blocks, flag_blocks_all, flag_post}
use Rattle.kern_model.proofs.Linked.Wakes.{self_equal}
use Rattle.kern_model.proofs.Halves.Effects.{choice}
use Rattle.kern_model.proofs.Linked.Contents.{length-pend}
use Rattle.kern_model.proofs.Cost.Blocks.{takes_wake, length-in_order-append}
use Rattle.kern_model.proofs.Cost.Services.{Within, cost-within}
use Rattle.kern_model.proofs.Cost.Calls.{quick-perform}

-- who waits at a group of event flags waits for one object
one_object : (x : ℕ) (w : Waiting) (t : Task) (bits : ℕ) → can_wait w (Bits bits) ≡ true → WaitsFor x w t → length t.objects ≡ 1
one_object x (Obj s) t bits h w = w.1
one_object x _ t bits h w = absurd (false≢true h)

-- a task in the list of an object waits
waits-there : (k : Kernel) → IsLinked k → (o x : ℕ) → 0 < count_of x (list_at k.pend o) → (waits_for_nothing (task_at k x).waiting ≡ false) × (0 < count_of o (task_at k x).objects)
waits-there k v o x h = by_wait (waits_for_nothing (task_at k x).waiting) refl (v.lists.waiters o x)
  where
    by_wait : (b : Bool) → waits_for_nothing (task_at k x).waiting ≡ b → count_of x (list_at k.pend o) ≡ (if b then 0 else count_of o (task_at k x).objects) → (waits_for_nothing (task_at k x).waiting ≡ false) × (0 < count_of o (task_at k x).objects)
    by_wait true e n = absurd (omega (arith, h, n))
    by_wait false e n = (e, omega (arith, h, n))

-- so its wake takes at most 5
flag_waiter-le : (k : Kernel) → IsLinked k → AreWaits k.tasks k.objects → (o bits x : ℕ) → (object_at k o).content ≡ Bits bits → 0 < count_of x (list_at k.pend o) → wake_cost (task_at k x) ≤ 5
flag_waiter-le k v c o bits x holds h =
    let t = task_at k x in
    let w = waits-there k v o x h in
    let fits : can_wait t.waiting (Bits bits) ≡ true = ap (λ a. can_wait t.waiting a) (sym holds) ∙ (c.fits x w.0 o w.1).1 in
    omega (arith, one_object x t.waiting t bits fits (c.forms x), least (is_zero t.suspended))
  where
    least : (b : Bool) → (if b then 3 else 0) ≤ 3
    least true = omega arith
    least false = omega arith

-- each waiter is passed in 1 micro-step
flag_block-le : (o : Option ℕ) (h x : ℕ) (k : Kernel) → wake_cost (task_at k x) ≤ 5 → (l : Lists) → length (in_order (flag_blocks o h x k) l) ≤ 6
flag_block-le None h x k few l = omega arith
flag_block-le (Some ready) h x k few l = omega (arith, takes_wake k h x l, few)

flag_blocks-le : (bits h : ℕ) (xs : List ℕ) (k : Kernel) → ((x : ℕ) → 0 < count_of x xs → wake_cost (task_at k x) ≤ 5) → (l : Lists) → length (in_order (flag_blocks_all bits h xs k) l) ≤ 6 * length xs
flag_blocks-le bits h [] k few l = omega arith
flag_blocks-le bits h (x ∷ xs) k few l =
    let o = ready_bits bits (task_at k x).mask (task_at k x).opt in
    let one : one_if (x == x) ≡ 1 = ap one_if (self_equal x) in
    let first : wake_cost (task_at k x) ≤ 5 = few x (omega (arith, one)) in
    let rest = flag_blocks-le bits h xs k (λ y n. few y (omega (arith, n))) (after (in_order (flag_blocks o h x k) l) l) in
    omega (arith, length-in_order-append (flag_blocks o h x k) (flag_blocks_all bits h xs k) l, flag_block-le o h x k first l, rest)

within-flag_post : (c : Content) (r : Request) (h : ℕ) (k : Kernel) → (object_at k (argument r 0)).content ≡ c → IsLinked k → AreWaits k.tasks k.objects → Within 1198 k (flag_post c r h k)
within-flag_post (Bits bits) r h k holds v c =
    let o = argument r 0 in
    let most = flag_blocks-le (bits_after bits (argument r 1) (argument r 2)) h (list_at k.pend o) k (λ x n. flag_waiter-le k v c o bits x holds n) (lists_of k) in
    record { most = omega (arith, most, length-pend k v o) }
within-flag_post _ r h k holds v c = record { most = omega arith }

within-after_checks : (a : Option OsErr) (call : Call) (k : Kernel) → IsLinked k → AreWaits k.tasks k.objects → renews call.request.service ≡ false → Within 1198 k (after_checks a call k)
within-after_checks (Some err) call k v waits q = record { most = omega arith }
within-after_checks None call k v waits q =
    quick-perform 1198 call.request.service call k (omega arith) v (within-flag_post (content_for call.request k) call.request call.compared k refl v waits) q

-- A whole step of such a call takes at most 1,200 micro-steps.
pub quick-cost : (served : Service → Bool) (call : Call) (k : Kernel) → IsValid k → renews call.request.service ≡ false → cost (effect served call k) k ≤ 1200
quick-cost served call k v q =
    cost-within 1198 k (effect served call k)
    (choice (Within 1198 k) (served call.request.service) (after_checks (call_error call.request call.caller k) call k) (refused k CallUnknown) (within-after_checks (call_error call.request call.caller k) call k v.links v.waits q) (record { most = omega arith }))
