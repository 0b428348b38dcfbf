-- What is known of the object that a call names, in the fields of the records.
use Rattle.std.proofs.Common.{◌≡◌, ℕ, ◌<◌, List, length, map, sym, ap, ◌∙◌, subst}
use Rattle.std.specs.Prelude.{slice_index, slice_index_or, slice_set}
use Rattle.kern_base.specs.declared.requests.Request.{Request}
use Rattle.kern_base.specs.declared.outcomes.Decision.{Decision}
use Rattle.kern_model.specs.State as state
use Rattle.kern_model.specs.State.{kind_of, kinds_of, object_in, update_object}
use Rattle.kern_model.specs.Services.{content_for}
use Rattle.message_store.specs.Store.{HeldQueue, OwnObjects, Store, queue_at}
use Rattle.kernel_records.specs.declared.objects.Content.{Content}
use Rattle.kernel_records.specs.declared.objects.Object.{Object}
use Rattle.kernel_records.specs.declared.records.Records.TheInside.{Inside}
use Rattle.kernel_records.specs.RecordsRecord.{RecordsRecord}
use Rattle.kernel_records.specs.RecordsView.{IsSound, records_of, state_of}
use Rattle.kernel_records.specs.ObjectView.{content_seen, object_seen, objects_in, tasks_in}
use Rattle.kernel_records.specs.Deciding.{content_after, free_after, object_change}
use Rattle.kernel_records.proofs.CallChanges.{object-changed}
use Rattle.kernel_records.proofs.DecidingFacts.{kinds-object}
use Rattle.kernel_records.proofs.ObjectFacts.{length-objects, object-at}

module _ (a : Inside) (r : Request) (i : IsSound a) (here : slice_index r.args 0 < length (state_of a).objects) where
  abbrev n : ℕ
  n = slice_index r.args 0

  abbrev qs : List HeldQueue
  qs = a.messages.queues

  abbrev bs : List Object
  bs = a.objects.items

  pub inside : n < length bs
  inside = subst (λ m. n < m) (length-objects qs bs) here

  pub queue-inside : n < length qs
  queue-inside = subst (λ m. n < m) (sym i.queues) inside

  module _ (b d : Object) (is : b ≡ slice_index_or bs n d) where
    pub content-is : content_for r (state_of a) ≡ content_seen (queue_at a.messages n) b.content
    content-is = ap (λ (x : state.Object). x.content) (object-at qs bs n d inside ∙ ap (object_seen (queue_at a.messages n)) (sym is))

    -- the object and the store of messages after a call on it
    module _ (t : Decision) (c : Content) (s : Store) (held : content_seen (queue_at s n) c ≡ content_after r t (content_seen (queue_at a.messages n) b.content))
        (store : s ≡ record a.messages { queues = slice_set qs n (queue_at s n); free = free_after r t (content_seen (queue_at a.messages n) b.content) a.messages.free }) where
      abbrev new : Object
      new = record { content = c; deleted = b.deleted }

      changed : objects_in s.queues (slice_set bs n new) ≡ update_object (objects_in qs bs) n (λ x. record x { content = content_after r t x.content })
      changed =
          ap (λ (m : Store). objects_in m.queues (slice_set bs n new)) store
          ∙ object-changed qs bs n (queue_at s n) b c d (content_after r t) i.queues inside is held

      -- the fields of the records then
      abbrev with_these : List state.Object → List OwnObjects → ℕ → RecordsRecord
      with_these os own free = record { state = record (state_of a) { objects = os; tasks = tasks_in own a.tasks.tasks; free = free }; registers = a.tasks.registers }

      pub records-changed : with_these (objects_in s.queues (slice_set bs n new)) s.own s.free ≡ record (records_of a) { state = object_change r t (state_of a) }
      records-changed =
          ap (λ os. with_these os s.own s.free) changed
          ∙ ap (λ (m : Store). with_these (update_object (objects_in qs bs) n (λ x. record x { content = content_after r t x.content })) m.own m.free) store
          ∙ ap (λ x. with_these (update_object (objects_in qs bs) n (λ y. record y { content = content_after r t y.content })) a.messages.own (free_after r t x a.messages.free)) (sym content-is)

      pub kinds-changed : a.kinds ≡ record { objects = map (λ (x : state.Object). kind_of x.content) (objects_in s.queues (slice_set bs n new)); tasks = a.settings.tasks }
      kinds-changed =
          i.kinds ∙ sym (kinds-object r t (state_of a))
          ∙ ap (λ (os : List state.Object). record { objects = map (λ (x : state.Object). kind_of x.content) os; tasks = a.settings.tasks }) (sym changed)
