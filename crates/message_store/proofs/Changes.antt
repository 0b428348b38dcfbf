-- A store of which one queue changes, or one task's own objects.
use Rattle.std.proofs.Common.{◌≡◌, ◌≢◌, ℕ, ◌+◌, ◌-◌, ◌<◌, List, [], ◌++◌, length, map, set, get_or, sym, ap, subst, ◌∙◌, arith, length-append}
use Rattle.std.proofs.lemmas.List.{map-set, get_or-map, length-map, get_or_append_left, get_or-append-add, set-append_left, set-append_right}
use Rattle.kern_model.specs.State.{list_at}
use Rattle.msg_queues.specs.Stored.{Pool, Queue, messages_under, AreStored, Exchanges}
use Rattle.task_objects.specs.Box.{TaskObjects}
use Rattle.message_store.specs.Store.{HeldQueue, OwnObjects}
use Rattle.message_store.specs.StoreView.{AreApart, key_lists, queue_in, own_in}
use Rattle.message_store.proofs.Alike.{map-alike, map-set_alike}
use Rattle.message_store.proofs.Apart.{stored-in, others-same, apart-again}

-- the keys of a queue, and of a task
pub queue-keys : (queues : List Queue) (own : List TaskObjects) (o : ℕ) (d : Queue) → o < length queues → list_at (key_lists queues own) o ≡ (get_or queues o d).keys
queue-keys queues own o d h =
    get_or_append_left (map (λ (q : Queue). q.keys) queues) (map (λ (t : TaskObjects). t.keys) own) [] o (omega (arith, h, length-map queues (λ (q : Queue). q.keys)))
    ∙ get_or-map (λ (q : Queue). q.keys) queues o d [] h

pub own-keys : (queues : List Queue) (own : List TaskObjects) (x : ℕ) (d : TaskObjects) → x < length own → list_at (key_lists queues own) (length queues + x) ≡ (get_or own x d).keys
own-keys queues own x d h =
    ap (λ n. list_at (key_lists queues own) (n + x)) (sym (length-map queues (λ (q : Queue). q.keys)))
    ∙ get_or-append-add (map (λ (q : Queue). q.keys) queues) (map (λ (t : TaskObjects). t.keys) own) x []
    ∙ get_or-map (λ (t : TaskObjects). t.keys) own x d [] h

length-lists : (queues : List Queue) (own : List TaskObjects) → length (key_lists queues own) ≡ length queues + length own
length-lists queues own =
    omega (arith, length-append (map (λ (q : Queue). q.keys) queues) (map (λ (t : TaskObjects). t.keys) own), length-map queues (λ (q : Queue). q.keys), length-map own (λ (t : TaskObjects). t.keys))

set-queue_keys : (queues : List Queue) (own : List TaskObjects) (o : ℕ) (v : Queue) → o < length queues → key_lists (set queues o v) own ≡ set (key_lists queues own) o v.keys
set-queue_keys queues own o v h =
    ap (λ lists. lists ++ map (λ (t : TaskObjects). t.keys) own) (map-set (λ (q : Queue). q.keys) queues o v)
    ∙ sym (set-append_left (map (λ (q : Queue). q.keys) queues) (map (λ (t : TaskObjects). t.keys) own) o v.keys (omega (arith, h, length-map queues (λ (q : Queue). q.keys))))

set-own_keys : (queues : List Queue) (own : List TaskObjects) (x : ℕ) (v : TaskObjects) → key_lists queues (set own x v) ≡ set (key_lists queues own) (length queues + x) v.keys
set-own_keys queues own x v =
    let at : length queues + x - length queues ≡ x = omega arith in
    ap (λ lists. map (λ (q : Queue). q.keys) queues ++ lists) (map-set (λ (t : TaskObjects). t.keys) own x v)
    ∙ ap (λ n. map (λ (q : Queue). q.keys) queues ++ set (map (λ (t : TaskObjects). t.keys) own) n v.keys) (sym at)
    ∙ sym (set-append_right (map (λ (q : Queue). q.keys) queues) (map (λ (t : TaskObjects). t.keys) own) (length queues) (length queues + x) v.keys (length-map queues (λ (q : Queue). q.keys)) (omega arith))

module _ (queues : List Queue) (own : List TaskObjects) (p q : Pool) (apart : AreApart (key_lists queues own) p) where
  pub queue-stored : (o : ℕ) (d : Queue) → o < length queues → AreStored (get_or queues o d).keys p
  queue-stored o d h = subst (λ keys. AreStored keys p) (queue-keys queues own o d h) (stored-in (key_lists queues own) p o apart)

  pub own-stored : (x : ℕ) (d : TaskObjects) → x < length own → AreStored (get_or own x d).keys p
  own-stored x d h = subst (λ keys. AreStored keys p) (own-keys queues own x d h) (stored-in (key_lists queues own) p (length queues + x) apart)

  -- the list of keys at i changes
  module _ (i : ℕ) (after : List ℕ) (e : Exchanges (list_at (key_lists queues own) i) after p q) (s : AreStored after q) where
    queue-same : (j : ℕ) (d : Queue) → j < length queues → j ≢ i → queue_in q (get_or queues j d) ≡ queue_in p (get_or queues j d)
    queue-same j d h ne =
        let these = get_or queues j d in
        let same : messages_under these.keys q ≡ messages_under these.keys p
        = subst (λ keys. messages_under keys q ≡ messages_under keys p) (queue-keys queues own j d h) (others-same (key_lists queues own) i after p q apart e s j ne) in
        ap (λ ms. let held : HeldQueue = record { limit = these.limit; messages = ms } in held) same

    own-same : (x : ℕ) (d : TaskObjects) → x < length own → length queues + x ≢ i → own_in q (get_or own x d) ≡ own_in p (get_or own x d)
    own-same x d h ne =
        let these = get_or own x d in
        let same : messages_under these.keys q ≡ messages_under these.keys p
        = subst (λ keys. messages_under keys q ≡ messages_under keys p) (own-keys queues own x d h) (others-same (key_lists queues own) i after p q apart e s (length queues + x) ne) in
        ap (λ ms. let held : OwnObjects = record { count = these.count; limit = these.limit; messages = ms } in held) same

  -- a queue changes
  module _ (o : ℕ) (d v : Queue) (inside : o < length queues) (e : Exchanges (get_or queues o d).keys v.keys p q) (s : AreStored v.keys q) where
    queue-exchanges : Exchanges (list_at (key_lists queues own) o) v.keys p q
    queue-exchanges = subst (λ keys. Exchanges keys v.keys p q) (sym (queue-keys queues own o d inside)) e

    pub queues-after : map (queue_in q) (set queues o v) ≡ set (map (queue_in p) queues) o (queue_in q v)
    queues-after = map-set_alike (queue_in q) (queue_in p) queues o v d (λ j h ne. queue-same o v.keys queue-exchanges s j d h ne)

    pub own-kept : (b : TaskObjects) → map (own_in q) own ≡ map (own_in p) own
    own-kept b = map-alike (own_in q) (own_in p) own b (λ x h. own-same o v.keys queue-exchanges s x b h (λ f. absurd (omega (arith, f, inside))))

    pub queue-apart : AreApart (key_lists (set queues o v) own) q
    queue-apart =
        subst (λ lists. AreApart lists q) (sym (set-queue_keys queues own o v inside))
        (apart-again (key_lists queues own) o v.keys p q apart queue-exchanges s (omega (arith, inside, length-lists queues own)))

  -- a task's own objects change
  module _ (x : ℕ) (d v : TaskObjects) (inside : x < length own) (e : Exchanges (get_or own x d).keys v.keys p q) (s : AreStored v.keys q) where
    own-exchanges : Exchanges (list_at (key_lists queues own) (length queues + x)) v.keys p q
    own-exchanges = subst (λ keys. Exchanges keys v.keys p q) (sym (own-keys queues own x d inside)) e

    pub own-after : map (own_in q) (set own x v) ≡ set (map (own_in p) own) x (own_in q v)
    own-after = map-set_alike (own_in q) (own_in p) own x v d (λ j h ne. own-same (length queues + x) v.keys own-exchanges s j d h (λ f. ne (omega (arith, f))))

    pub queues-kept : (b : Queue) → map (queue_in q) queues ≡ map (queue_in p) queues
    queues-kept b = map-alike (queue_in q) (queue_in p) queues b (λ j h. queue-same (length queues + x) v.keys own-exchanges s j b h (λ f. absurd (omega (arith, f, h))))

    pub own-apart : AreApart (key_lists queues (set own x v)) q
    own-apart =
        subst (λ lists. AreApart lists q) (sym (set-own_keys queues own x v))
        (apart-again (key_lists queues own) (length queues + x) v.keys p q apart own-exchanges s (omega (arith, inside, length-lists queues own)))
