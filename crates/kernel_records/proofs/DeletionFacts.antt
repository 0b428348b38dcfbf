-- The deletion of an object: what is left in it when it goes, and the records then.
use Rattle.std.proofs.Common.{◌≡◌, ℕ, ◌<◌, ◌+◌, List, [], ◌∷◌, length, map, refl, sym, ap, ◌∙◌, subst, true, false, Option, Some, None, arith}
use Rattle.std.specs.Prelude.{slice_index, slice_index_or, slice_set}
use Rattle.std.proofs.lemmas.Bool.{false≢true}
use Rattle.std.proofs.lemmas.List.{length-map}
use Rattle.std.proofs.Math.Seq.{map-set_same}
use Rattle.kern_base.specs.Checks.{kinds_wanted}
use Rattle.kern_base.specs.declared.kinds.Kind.{Kind}
use Rattle.kern_base.specs.declared.kinds.Kind.TheVariants.{Queue}
use Rattle.kern_base.specs.declared.services.Service.{Service}
use Rattle.kern_base.specs.declared.services.Service.TheVariants.{SemDel, QDel, FlagDel, MutexDel, SemPendAbort, QPendAbort, FlagPendAbort, MutexPendAbort, TaskSemPendAbort, TaskQPendAbort}
use Rattle.kern_base.specs.declared.requests.Request.{Request}
use Rattle.kern_base.specs.declared.outcomes.Around.{Around}
use Rattle.kern_base.specs.declared.outcomes.Decision.TheVariants.{Wake}
use Rattle.kern_base.specs.declared.outcomes.Who.{Who}
use Rattle.kern_base.specs.declared.outcomes.Who.TheVariants.{First, All, Matching}
use Rattle.kern_base.specs.Tables.{KindTable}
use Rattle.kern_model.specs.State as state
use Rattle.kern_model.specs.State.{Kernel, kind_of, kinds_of, no_object, object_at, object_in, task_at}
use Rattle.kern_model.specs.Checks.{argument}
use Rattle.kern_model.specs.FlagBits.{ready_bits}
use Rattle.kern_model.specs.Services.{content_for}
use Rattle.kern_model.specs.Waiters.{emptied, messages_in, without_object}
use Rattle.decisions.specs.Decided.{Ending, Posted, Aborted, Deleted, bits_in, ending_of, gone_by}
use Rattle.msg_queues.specs.Rows as queue
use Rattle.task_objects.specs.Rows.{is_task_call}
use Rattle.kernel_records.specs.declared.objects.Object.{Object}
use Rattle.kernel_records.specs.declared.records.Records.TheInside.{Inside}
use Rattle.kernel_records.specs.RecordsRecord.{RecordsRecord}
use Rattle.kernel_records.specs.RecordsView.{IsSound, records_of, state_of}
use Rattle.kernel_records.specs.ObjectView.{objects_in}
use Rattle.kernel_records.specs.SchedulerCalls.{is_scheduler_call}
use Rattle.kernel_records.specs.TimerCalls.{is_timer_call}
use Rattle.kernel_records.specs.Deciding.{IsCallOn, content_after, decision_of, own_change}
use Rattle.kernel_records.specs.Concluding.{awakened, awakened_all, awakens, given_ready, is_deletion, looked_at, looked_at_all}
use Rattle.kernel_records.proofs.BitsFacts.{written}
use Rattle.kernel_records.proofs.DecidingFacts.{acting-objects, changed-object, kinds-own, own-acts, passed-call, passed-inside}
use Rattle.kernel_records.proofs.ObjectCalls.{content-is}
use Rattle.kernel_records.proofs.ObjectFacts.{object-set}

-- what is gone after a call

pub gone-none : (g : Ending) (o : ℕ) (k : Kernel) → is_deletion g ≡ false → gone_by g o k ≡ k
gone-none Posted o k h = refl
gone-none Aborted o k h = refl
gone-none Deleted o k h = absurd (false≢true (sym h))

pub gone-object : (g : Ending) (o : ℕ) (k : Kernel) → is_deletion g ≡ true → gone_by g o k ≡ without_object o k
gone-object Posted o k h = absurd (false≢true h)
gone-object Aborted o k h = absurd (false≢true h)
gone-object Deleted o k h = refl

-- a deletion is of an object
deletion-calls : (s : Service) → is_deletion (ending_of s) ≡ true → (is_scheduler_call s ≡ false) × (is_task_call s ≡ false) × (is_timer_call s ≡ false)
deletion-calls SemDel h = (refl, refl, refl)
deletion-calls QDel h = (refl, refl, refl)
deletion-calls FlagDel h = (refl, refl, refl)
deletion-calls MutexDel h = (refl, refl, refl)
deletion-calls SemPendAbort h = absurd (false≢true h)
deletion-calls QPendAbort h = absurd (false≢true h)
deletion-calls FlagPendAbort h = absurd (false≢true h)
deletion-calls MutexPendAbort h = absurd (false≢true h)
deletion-calls TaskSemPendAbort h = absurd (false≢true h)
deletion-calls TaskQPendAbort h = absurd (false≢true h)
deletion-calls _ h = absurd (false≢true h)

-- of a queue it takes all messages
none-left : (s : Service) (who : Who) (r : Request) (ms : List (ℕ × ℕ)) → is_deletion (ending_of s) ≡ true → kinds_wanted s ≡ Queue ∷ [] → queue.messages_after s (Wake who) r ms ≡ []
none-left QDel who r ms h e = refl
none-left SemDel who r ms h e = absurd cc
none-left FlagDel who r ms h e = absurd cc
none-left MutexDel who r ms h e = absurd cc
none-left SemPendAbort who r ms h e = absurd (false≢true h)
none-left QPendAbort who r ms h e = absurd (false≢true h)
none-left FlagPendAbort who r ms h e = absurd (false≢true h)
none-left MutexPendAbort who r ms h e = absurd (false≢true h)
none-left TaskSemPendAbort who r ms h e = absurd (false≢true h)
none-left TaskQPendAbort who r ms h e = absurd (false≢true h)
none-left _ who r ms h e = absurd (false≢true h)

empty-after : (c : state.Content) (who : Who) (r : Request) → is_deletion (ending_of r.service) ≡ true → IsCallOn c r → messages_in (content_after r (Wake who) c) ≡ 0
empty-after (state.Count n) who r h on = refl
empty-after (state.Messages limit ms) who r h on = ap (λ (xs : List (ℕ × ℕ)). length xs) (none-left r.service who r ms h on)
empty-after (state.Bits bits) who r h on = refl
empty-after (state.Held owner n) who r h on = absurd on
empty-after (state.Timed t) who r h on = absurd on

-- tasks that are woken, or looked at, leave the objects
awakened-objects : (r : Request) (xs : List ℕ) (k : Kernel) → (awakened_all r xs k).objects ≡ k.objects
awakened-objects r [] k = refl
awakened-objects r (x ∷ xs) k = awakened-objects r xs (awakened r x k)

looked-object : (ready : Option ℕ) (x : ℕ) (k : Kernel) → (given_ready ready x k).objects ≡ k.objects
looked-object None x k = refl
looked-object (Some ready) x k = refl

looked-objects : (bits : ℕ) (xs : List ℕ) (k : Kernel) → (looked_at_all bits xs k).objects ≡ k.objects
looked-objects bits [] k = refl
looked-objects bits (x ∷ xs) k = looked-objects bits xs (looked_at bits x k) ∙ looked-object (ready_bits bits (task_at k x).mask (task_at k x).opt) x k

awakens-objects : (who : Who) (r : Request) (xs : List ℕ) (k : Kernel) → (awakens who r xs k).objects ≡ k.objects
awakens-objects First r xs k = awakened-objects r xs k
awakens-objects All r xs k = awakened-objects r xs k
awakens-objects Matching r xs k = looked-objects (bits_in (content_for r k)) xs k

-- the object is there, and holds no message, when the call has made everything else
module _ (r : Request) (seen : Around) (who : Who) (xs : List ℕ) (k : Kernel) (e : Wake who ≡ decision_of r seen k) (h : is_deletion (ending_of r.service) ≡ true) where
  abbrev after : Kernel
  after = awakens who r xs (own_change r seen.caller.0 (Wake who) k)

  there : argument r 0 < length k.objects
  there =
      let it = acting-objects r seen (Wake who) k (deletion-calls r.service h).0 (deletion-calls r.service h).2 e refl in
      passed-inside r seen.caller.0 k it.served (deletion-calls r.service h).1 it.passed

  count : length after.objects ≡ length k.objects
  count =
      let kind : state.Object → Kind = λ b. kind_of b.content in
      let j = own_change r seen.caller.0 (Wake who) k in
      ap (λ (bs : List state.Object). length bs) (awakens-objects who r xs j)
      ∙ sym (length-map j.objects kind)
      ∙ ap (λ (t : KindTable). length t.objects) (kinds-own r seen.caller.0 (Wake who) k)
      ∙ length-map k.objects kind

  pub deleted-there : argument r 0 < length after.objects
  deleted-there = subst (λ n. argument r 0 < n) (sym count) there

  pub deleted-empty : messages_in (object_at after (argument r 0)).content ≡ 0
  deleted-empty =
      let calls = deletion-calls r.service h in
      let it = acting-objects r seen (Wake who) k calls.0 calls.2 e refl in
      let c = content_for r k in
      ap (λ (bs : List state.Object). messages_in (object_in bs (argument r 0)).content) (awakens-objects who r xs (own_change r seen.caller.0 (Wake who) k))
      ∙ ap (λ (j : Kernel). messages_in (object_at j (argument r 0)).content) (own-acts r seen.caller.0 (Wake who) k calls.0 refl ∙ changed-object r seen.caller.0 (Wake who) k calls.2 calls.1)
      ∙ ap messages_in (written k.objects (argument r 0) (content_after r (Wake who) c) there)
      ∙ empty-after c who r h (passed-call r seen.caller.0 k it.served calls.1 it.passed)

-- The fields of the records after the object has gone.

emptied-none : (c : state.Content) → messages_in c ≡ 0 → emptied c ≡ c
emptied-none (state.Count n) h = refl
emptied-none (state.Messages limit []) h = refl
emptied-none (state.Messages limit (m ∷ ms)) h = absurd (omega (arith, h))
emptied-none (state.Bits bits) h = refl
emptied-none (state.Held owner n) h = refl
emptied-none (state.Timed t) h = refl

module _ (a : Inside) (r : Request) (i : IsSound a) (here : slice_index r.args 0 < length (state_of a).objects) (b d : Object) (is : b ≡ slice_index_or a.objects.items (slice_index r.args 0) d) where
  abbrev o : ℕ
  o = slice_index r.args 0

  abbrev gone : Object
  gone = record { content = b.content; deleted = true }

  abbrev objects : List state.Object
  objects = objects_in a.messages.queues a.objects.items

  objects-gone : objects_in a.messages.queues (slice_set a.objects.items o gone) ≡ slice_set objects o (record { content = (object_in objects o).content; deleted = true })
  objects-gone =
      object-set a.messages.queues a.objects.items o gone
      ∙ ap (λ (c : state.Content). slice_set objects o (record { content = c; deleted = true })) (sym (content-is a r i here b d is))

  pub kinds-gone : a.kinds ≡ record { objects = map (λ (x : state.Object). kind_of x.content) (objects_in a.messages.queues (slice_set a.objects.items o gone)); tasks = a.settings.tasks }
  kinds-gone =
      i.kinds
      ∙ ap (λ (ks : List Kind). record { objects = ks; tasks = a.settings.tasks })
      (sym (ap (map (λ (x : state.Object). kind_of x.content)) objects-gone ∙ map-set_same (λ (x : state.Object). kind_of x.content) objects o _ no_object refl))

  pub records-gone : messages_in (object_in objects o).content ≡ 0 → (let new : RecordsRecord = record { state = record (state_of a) { objects = objects_in a.messages.queues (slice_set a.objects.items o gone) }; registers = a.tasks.registers } in new) ≡ record (records_of a) { state = without_object o (state_of a) }
  records-gone none =
      let with_these : List state.Object → ℕ → RecordsRecord = λ os free. record { state = record (state_of a) { objects = os; free = free }; registers = a.tasks.registers } in
      let free : a.messages.free ≡ a.messages.free + messages_in (object_in objects o).content = omega (arith, none) in
      ap (λ os. with_these os a.messages.free) objects-gone
      ∙ ap (λ (c : state.Content). with_these (slice_set objects o (record { content = c; deleted = true })) a.messages.free) (sym (emptied-none (object_in objects o).content none))
      ∙ ap (with_these (slice_set objects o (record { content = emptied (object_in objects o).content; deleted = true }))) free
