-- What contracts see of a store after a call.
use Rattle.std.proofs.Common.{◌≡◌, ℕ, ◌+◌, ◌<◌, List, [], length, map, set, get_or, sym, ap, subst, ◌∙◌, arith}
use Rattle.std.proofs.lemmas.List.{get_or-map, length-map}
use Rattle.kern_base.specs.declared.requests.Request.{Request}
use Rattle.kern_base.specs.declared.outcomes.Decision.{Decision}
use Rattle.msg_queues.specs.Rows as queue_rows
use Rattle.msg_queues.specs.Stored.{Pool, Queue, messages_under, message_or_none, message_at, AreStored, Exchanges}
use Rattle.task_objects.specs.Rows as task_rows
use Rattle.task_objects.specs.Box.{TaskObjects}
use Rattle.message_store.specs.Store.{HeldQueue, OwnObjects, Store, no_queue, no_own, queue_after, own_after, after_call, after_own_call, without_messages}
use Rattle.message_store.specs.StoreView.{AreApart, key_lists, queue_in, own_in, empty_queue, empty_own}
use Rattle.message_store.proofs.Changes as changes

abbrev store : ℕ → List HeldQueue → List OwnObjects → Store
store free queues own = record { free = free; queues = queues; own = own }

-- what contracts see
abbrev pub seen_of : Pool → List Queue → List TaskObjects → Store
seen_of p queues own = store p.free (map (queue_in p) queues) (map (own_in p) own)

pub same-store : (m n : ℕ) (qs ps : List HeldQueue) (os ns : List OwnObjects) → m ≡ n → qs ≡ ps → os ≡ ns → store m qs os ≡ store n ps ns
same-store m n qs ps os ns e f g = ap (λ k. store k qs os) e ∙ ap (λ k. store n k os) f ∙ ap (λ k. store n ps k) g

-- a number of a queue that contracts see
pub queue-inside : (p : Pool) (queues : List Queue) (own : List TaskObjects) (old : Store) (o : ℕ) → seen_of p queues own ≡ old → o < length old.queues → o < length queues
queue-inside p queues own old o view h = omega (arith, h, ap (λ (s : Store). length s.queues) view, length-map queues (queue_in p))

module _ (p q : Pool) (queues : List Queue) (own : List TaskObjects) (old : Store) (view : seen_of p queues own ≡ old) (apart : AreApart (key_lists queues own) p) where
  -- a call on a queue
  module _ (o : ℕ) (d v : Queue) (r : Request) (decision : Decision) (inside : o < length queues) (is : d ≡ get_or queues o d) where
    at-queue : get_or (map (queue_in p) queues) o no_queue ≡ queue_in p d
    at-queue = get_or-map (queue_in p) queues o d no_queue inside ∙ ap (queue_in p) (sym is)

    pub after-call : v.limit ≡ d.limit → messages_under v.keys q ≡ queue_rows.messages_after r.service decision r (messages_under d.keys p) → q.free ≡ queue_rows.free_after r.service decision (length d.keys) p.free → AreStored v.keys q → Exchanges d.keys v.keys p q → seen_of q (set queues o v) own ≡ after_call old o r decision
    after-call limit messages free s e =
        let exchanged : Exchanges (get_or queues o d).keys v.keys p q = subst (λ (x : Queue). Exchanges x.keys v.keys p q) is e in
        let held : queue_in q v ≡ queue_after r decision (queue_in p d)
        = ap (λ n. let h : HeldQueue = record { limit = n; messages = messages_under v.keys q } in h) limit
        ∙ ap (λ ms. let h : HeldQueue = record { limit = d.limit; messages = ms } in h) messages in
        let count : length d.keys ≡ length (messages_under d.keys p) = sym (length-map d.keys (λ key. message_or_none (message_at p key))) in
        subst (λ s. seen_of q (set queues o v) own ≡ after_call s o r decision) view
        (same-store q.free _ (map (queue_in q) (set queues o v)) _ (map (own_in q) own) _
        (free ∙ ap (λ n. queue_rows.free_after r.service decision n p.free) count ∙ ap (λ (h : HeldQueue). queue_rows.free_after r.service decision (length h.messages) p.free) (sym at-queue))
        (changes.queues-after queues own p q apart o d v inside exchanged s ∙ ap (λ h. set (map (queue_in p) queues) o h) (held ∙ ap (queue_after r decision) (sym at-queue)))
        (changes.own-kept queues own p q apart o d v inside exchanged s (empty_own 0)))

    pub queue-apart : AreStored v.keys q → Exchanges d.keys v.keys p q → AreApart (key_lists (set queues o v) own) q
    queue-apart s e = changes.queue-apart queues own p q apart o d v inside (subst (λ (x : Queue). Exchanges x.keys v.keys p q) is e) s

  -- a call on a task's own objects
  module _ (x : ℕ) (d v : TaskObjects) (inside : x < length own) (is : d ≡ get_or own x d) where
    at-own : get_or (map (own_in p) own) x no_own ≡ own_in p d
    at-own = get_or-map (own_in p) own x d no_own inside ∙ ap (own_in p) (sym is)

    own-exchanged : Exchanges d.keys v.keys p q → Exchanges (get_or own x d).keys v.keys p q
    own-exchanged e = subst (λ (y : TaskObjects). Exchanges y.keys v.keys p q) is e

    pub after-own_call : (r : Request) (decision : Decision) → v.limit ≡ d.limit → v.count ≡ task_rows.count_after r.service decision d.count → messages_under v.keys q ≡ task_rows.messages_after r.service decision r (messages_under d.keys p) → q.free ≡ task_rows.free_after r.service decision p.free → AreStored v.keys q → Exchanges d.keys v.keys p q → seen_of q queues (set own x v) ≡ after_own_call old x r decision
    after-own_call r decision limit count messages free s e =
        let held : own_in q v ≡ own_after r decision (own_in p d)
        = ap (λ n. let h : OwnObjects = record { count = v.count; limit = n; messages = messages_under v.keys q } in h) limit
        ∙ ap (λ n. let h : OwnObjects = record { count = n; limit = d.limit; messages = messages_under v.keys q } in h) count
        ∙ ap (λ ms. let h : OwnObjects = record { count = task_rows.count_after r.service decision d.count; limit = d.limit; messages = ms } in h) messages in
        subst (λ s. seen_of q queues (set own x v) ≡ after_own_call s x r decision) view
        (same-store q.free _ (map (queue_in q) queues) _ (map (own_in q) (set own x v)) _
        free
        (changes.queues-kept queues own p q apart x d v inside (own-exchanged e) s (empty_queue 0))
        (changes.own-after queues own p q apart x d v inside (own-exchanged e) s ∙ ap (λ h. set (map (own_in p) own) x h) (held ∙ ap (own_after r decision) (sym at-own))))

    pub after-clear : v ≡ record d { keys = [] } → q.free ≡ p.free + length d.keys → AreStored v.keys q → Exchanges d.keys v.keys p q → seen_of q queues (set own x v) ≡ without_messages old x
    after-clear empty free s e =
        let held : own_in q v ≡ record (own_in p d) { messages = [] } = ap (own_in q) empty in
        let count : length d.keys ≡ length (messages_under d.keys p) = sym (length-map d.keys (λ key. message_or_none (message_at p key))) in
        subst (λ s. seen_of q queues (set own x v) ≡ without_messages s x) view
        (same-store q.free _ (map (queue_in q) queues) _ (map (own_in q) (set own x v)) _
        (free ∙ ap (λ n. p.free + n) count ∙ ap (λ (h : OwnObjects). p.free + length h.messages) (sym at-own))
        (changes.queues-kept queues own p q apart x d v inside (own-exchanged e) s (empty_queue 0))
        (changes.own-after queues own p q apart x d v inside (own-exchanged e) s ∙ ap (λ h. set (map (own_in p) own) x h) (held ∙ ap (λ (h : OwnObjects). record h { messages = [] }) (sym at-own))))

    pub own-apart : AreStored v.keys q → Exchanges d.keys v.keys p q → AreApart (key_lists queues (set own x v)) q
    own-apart s e = changes.own-apart queues own p q apart x d v inside (own-exchanged e) s

-- no key is stored
pub nothing-stored : (q : Pool) → AreStored [] q
nothing-stored q = record { present = λ key l. absurd (omega (arith, l)); once = λ key. omega arith }
