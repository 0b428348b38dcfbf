-- One object of the records changes, with the matches of timers.
use Rattle.std.proofs.Common.{◌≡◌, ℕ, ◌<◌, ◌≤◌, List, length, map, refl, sym, ap, ◌∙◌, subst, Bool}
use Rattle.std.specs.Prelude.{slice_index_or, slice_set}
use Rattle.std.proofs.Math.Seq.{map-set_same}
use Rattle.kern_base.specs.declared.kinds.Kind.{Kind}
use Rattle.kern_model.specs.State as state
use Rattle.kern_model.specs.State.{kind_of, kinds_of, no_object, object_at}
use Rattle.kern_model.specs.Timers.{fired}
use Rattle.message_store.specs.Store.{HeldQueue, queue_at}
use Rattle.tick_timers.specs.TimerRecord.{TimerRecord}
use Rattle.kern_base.specs.declared.services.Service.{Service}
use Rattle.kernel_records.specs.declared.objects.Object.{Object}
use Rattle.kernel_records.specs.declared.records.Records.TheInside.{Inside}
use Rattle.kernel_records.specs.RecordsRecord.{RecordsRecord}
use Rattle.kernel_records.specs.RecordsView.{IsSound, records_of, state_of}
use Rattle.kernel_records.specs.ObjectView.{content_seen, object_seen, objects_in}
use Rattle.kernel_records.specs.TimerCalls.{callback_after, changed_timer, counted_in, fired_object, matches_changed, matches_firing, timer_change}
use Rattle.kernel_records.proofs.ObjectFacts.{length-objects, object-at, object-past, object-set}
use Rattle.kernel_records.proofs.TimerChanges.{change-is, changed-kind, fired-is, fired-kind}

-- object n becomes this one, by a change that depends on what it holds
module _ (a : Inside) (i : IsSound a) (n : ℕ) (here : n < length a.objects.items) (b d new : Object) (is : b ≡ slice_index_or a.objects.items n d) (f : state.Content → state.Object → state.Object)
    (becomes : (q : HeldQueue) → object_seen q new ≡ f (content_seen q b.content) (object_seen q b)) where
  abbrev qs : List HeldQueue
  qs = a.messages.queues

  abbrev before : state.Object
  before = object_at (state_of a) n

  seen-at : before ≡ object_seen (queue_at a.messages n) b
  seen-at = object-at qs a.objects.items n d here ∙ ap (object_seen (queue_at a.messages n)) (sym is)

  pub content-at : before.content ≡ content_seen (queue_at a.messages n) b.content
  content-at = ap (λ (x : state.Object). x.content) seen-at

  pub objects-then : objects_in qs (slice_set a.objects.items n new) ≡ slice_set (objects_in qs a.objects.items) n (f before.content before)
  objects-then =
      object-set qs a.objects.items n new
      ∙ ap (slice_set (objects_in qs a.objects.items) n) (becomes (queue_at a.messages n) ∙ ap (λ (x : state.Object). f x.content x) (sym seen-at))

  pub sound-then : kind_of (f before.content before).content ≡ kind_of before.content → a.kinds ≡ record { objects = map (λ (x : state.Object). kind_of x.content) (objects_in qs (slice_set a.objects.items n new)); tasks = a.settings.tasks }
  sound-then kind =
      i.kinds
      ∙ ap (λ (ks : List Kind). record { objects = ks; tasks = a.settings.tasks })
      (sym (ap (map (λ (x : state.Object). kind_of x.content)) objects-then ∙ map-set_same (λ (x : state.Object). kind_of x.content) (objects_in qs a.objects.items) n (f before.content before) no_object kind))

-- the records with these objects, matches and callback
abbrev pub with_fields : Inside → List state.Object → List (ℕ × ℕ) → Bool → RecordsRecord
with_fields a os ms callback = record { state = record (state_of a) { objects = os; timer_matches = ms; in_callback = callback }; registers = a.tasks.registers }

-- a call on a timer
pub records-called : (a : Inside) → IsSound a → (n : ℕ) → n < length a.objects.items → (b d new : Object) → b ≡ slice_index_or a.objects.items n d → (s : Service) → ((q : HeldQueue) → object_seen q new ≡ changed_timer s (content_seen q b.content) (object_seen q b)) → (v : TimerRecord) → ((q : HeldQueue) → v ≡ record a.timers { matches = matches_changed s (content_seen q b.content) n a.timers })
    → (let all : RecordsRecord = record { state = record (state_of a) { objects = objects_in a.messages.queues (slice_set a.objects.items n new); timer_matches = v.matches; timer_count = v.count }; registers = a.tasks.registers } in all) ≡ record (records_of a) { state = timer_change s n (object_at (state_of a) n).content (state_of a) }
records-called a i n here b d new is s becomes v table =
    let qs = a.messages.queues in
    let k = state_of a in
    let inside : n < length k.objects = subst (λ m. n < m) (sym (length-objects qs a.objects.items)) here in
    let content = content-at a i n here b d new is (changed_timer s) becomes in
    ap (λ (w : TimerRecord). let all : RecordsRecord = record { state = record k { objects = objects_in qs (slice_set a.objects.items n new); timer_matches = w.matches; timer_count = w.count }; registers = a.tasks.registers } in all) (table (queue_at a.messages n))
    ∙ ap (λ os. with_fields a os (matches_changed s (content_seen (queue_at a.messages n) b.content) n (counted_in k)) a.in_callback) (objects-then a i n here b d new is (changed_timer s) becomes)
    ∙ ap (λ (c : state.Content). with_fields a (slice_set k.objects n (changed_timer s (object_at k n).content (object_at k n))) (matches_changed s c n (counted_in k)) a.in_callback) (sym content)
    ∙ ap (λ (j : state.Kernel). let all : RecordsRecord = record { state = j; registers = a.tasks.registers } in all) (change-is s n k inside)

-- there is no object of this number, and none fires
pub fired-past : (a : Inside) (n : ℕ) → length a.objects.items ≤ n → records_of a ≡ record (records_of a) { state = fired n (object_at (state_of a) n).content (state_of a) }
fired-past a n h =
    ap (λ (b : state.Object). let r : RecordsRecord = record (records_of a) { state = fired n b.content (state_of a) } in r)
    (sym (object-past a.messages.queues a.objects.items n h))

-- a timer that fires
pub records-fired : (a : Inside) → IsSound a → (n : ℕ) → n < length a.objects.items → (b d new : Object) → b ≡ slice_index_or a.objects.items n d → ((q : HeldQueue) → object_seen q new ≡ fired_object (content_seen q b.content) (object_seen q b)) → (v : TimerRecord) → ((q : HeldQueue) → v ≡ record a.timers { matches = matches_firing (content_seen q b.content) n a.timers }) → (callback : Bool) → ((q : HeldQueue) → callback ≡ callback_after (content_seen q b.content) a.in_callback)
    → (let all : RecordsRecord = record { state = record (state_of a) { objects = objects_in a.messages.queues (slice_set a.objects.items n new); timer_matches = v.matches; timer_count = v.count; in_callback = callback }; registers = a.tasks.registers } in all) ≡ record (records_of a) { state = fired n (object_at (state_of a) n).content (state_of a) }
records-fired a i n here b d new is becomes v table callback calls =
    let qs = a.messages.queues in
    let k = state_of a in
    let q = queue_at a.messages n in
    let content = content-at a i n here b d new is fired_object becomes in
    ap (λ (w : TimerRecord). let all : RecordsRecord = record { state = record k { objects = objects_in qs (slice_set a.objects.items n new); timer_matches = w.matches; timer_count = w.count; in_callback = callback }; registers = a.tasks.registers } in all) (table q)
    ∙ ap (λ os. with_fields a os (matches_firing (content_seen q b.content) n (counted_in k)) callback) (objects-then a i n here b d new is fired_object becomes)
    ∙ ap (with_fields a (slice_set k.objects n (fired_object (object_at k n).content (object_at k n))) (matches_firing (content_seen q b.content) n (counted_in k))) (calls q)
    ∙ ap (λ (c : state.Content). with_fields a (slice_set k.objects n (fired_object (object_at k n).content (object_at k n))) (matches_firing c n (counted_in k)) (callback_after c a.in_callback)) (sym content)
    ∙ ap (λ (j : state.Kernel). let all : RecordsRecord = record { state = j; registers = a.tasks.registers } in all) (fired-is n k)

pub kinds-called : (a : Inside) → IsSound a → (n : ℕ) → n < length a.objects.items → (b d new : Object) → b ≡ slice_index_or a.objects.items n d → (s : Service) → ((q : HeldQueue) → object_seen q new ≡ changed_timer s (content_seen q b.content) (object_seen q b)) → a.kinds ≡ record { objects = map (λ (x : state.Object). kind_of x.content) (objects_in a.messages.queues (slice_set a.objects.items n new)); tasks = a.settings.tasks }
kinds-called a i n here b d new is s becomes =
    sound-then a i n here b d new is (changed_timer s) becomes (changed-kind s (object_at (state_of a) n).content (object_at (state_of a) n) refl)

pub kinds-fired : (a : Inside) → IsSound a → (n : ℕ) → n < length a.objects.items → (b d new : Object) → b ≡ slice_index_or a.objects.items n d → ((q : HeldQueue) → object_seen q new ≡ fired_object (content_seen q b.content) (object_seen q b)) → a.kinds ≡ record { objects = map (λ (x : state.Object). kind_of x.content) (objects_in a.messages.queues (slice_set a.objects.items n new)); tasks = a.settings.tasks }
kinds-fired a i n here b d new is becomes =
    sound-then a i n here b d new is fired_object becomes (fired-kind (object_at (state_of a) n).content (object_at (state_of a) n) refl)
