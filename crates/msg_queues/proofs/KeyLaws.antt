-- What keys name after a message is stored or taken.
use Rattle.std.proofs.Common.{◌≡◌, ◌≢◌, ℕ, ◌<◌, ◌≤◌, ◌+◌, List, [], ◌∷◌, refl, sym, ap, subst, ◌∙◌, Bool, true, false, arith, inl, inr, Option, Some, None, drop}
use Rattle.std.specs.Prelude.{if◌then◌else◌, IsSome, is_some, slice_get}
use Rattle.std.proofs.lemmas.Bool.{cases_lt, false≢true}
use Rattle.std.proofs.lemmas.Bool.Decides.{eqb_tells}
use Rattle.kern_model.specs.State.{count_of}
use Rattle.kern_model.specs.Queues.{stored}
use Rattle.kern_model.proofs.Lemmas.{count-append}
use Rattle.msg_queues.specs.Stored.{Pool, message_at, message_or_none, messages_under, AreStored, Exchanges, with_key}

-- keys with one more

counts-itself : (n : ℕ) (keys : List ℕ) → count_of n (n ∷ keys) ≡ 1 + count_of n keys
counts-itself n keys = elim (eqb_tells n n) [ inl e ↦ ap (λ b. (if b then 1 else 0) + count_of n keys) e.0 | inr e ↦ absurd (e.1 refl) ]

counts-other : (n key : ℕ) (keys : List ℕ) → n ≢ key → count_of key (n ∷ keys) ≡ count_of key keys
counts-other n key keys ne =
    elim (eqb_tells n key) [
      | inl e ↦ absurd (ne e.1)
      | inr e ↦ ap (λ b. (if b then 1 else 0) + count_of key keys) e.0 ∙ none (count_of key keys)
    ]
  where
    none : (m : ℕ) → 0 + m ≡ m
    none m = omega arith

count-with : (first : Bool) (n key : ℕ) (keys : List ℕ) → count_of key (with_key first n keys) ≡ count_of key (n ∷ keys)
count-with true n key keys = refl
count-with false n key keys = let e = count-append key keys (n ∷ []) in omega (arith, e)

messages-with : (first : Bool) (n : ℕ) (keys : List ℕ) (q : Pool) → messages_under (with_key first n keys) q ≡ stored first (message_or_none (message_at q n)) (messages_under keys q)
messages-with true n keys q = refl
messages-with false n [] q = refl
messages-with false n (y ∷ ys) q = ap (λ ms. message_or_none (message_at q y) ∷ ms) (messages-with false n ys q)

-- messages under keys where nothing changed

pub messages-same : (keys : List ℕ) (p q : Pool) → ((key : ℕ) → 0 < count_of key keys → message_at q key ≡ message_at p key) → messages_under keys q ≡ messages_under keys p
messages-same [] p q h = refl
messages-same (y ∷ ys) p q h =
    ap (λ m. message_or_none m ∷ messages_under ys q) (h y (omega (arith, counts-itself y ys)))
    ∙ ap (λ ms. message_or_none (message_at p y) ∷ ms) (messages-same ys p q (λ key l. h key (omega (arith, l))))

-- a key under which nothing stands is none of those that are stored
absent : (n : ℕ) (keys : List ℕ) (p : Pool) → AreStored keys p → message_at p n ≡ None → count_of n keys ≡ 0
absent n keys p s none =
    elim (cases_lt 0 (count_of n keys)) [
      | inl l ↦ absurd (false≢true (sym (ap is_some none) ∙ s.present n l))
      | inr l ↦ omega (arith, l)
    ]

-- a message is stored under a new key
module _ (first : Bool) (n : ℕ) (m : ℕ × ℕ) (keys : List ℕ) (p q : Pool) (s : AreStored keys p) (vacant : message_at p n ≡ None) (now : message_at q n ≡ Some m) (others : (key : ℕ) → key ≢ n → message_at q key ≡ message_at p key) where
  among : (key : ℕ) → 0 < count_of key keys → key ≢ n
  among key l e = let none = absent n keys p s vacant in let same = ap (λ z. count_of z keys) e in omega (arith, none, same, l)

  pub pushed-messages : messages_under (with_key first n keys) q ≡ stored first m (messages_under keys p)
  pushed-messages =
      messages-with first n keys q
      ∙ ap (λ o. stored first (message_or_none o) (messages_under keys q)) now
      ∙ ap (λ ms. stored first m ms) (messages-same keys p q (λ key l. others key (among key l)))

  pub pushed-stored : AreStored (with_key first n keys) q
  pushed-stored = record { present = present; once = once }
    where
      present : (key : ℕ) → 0 < count_of key (with_key first n keys) → IsSome (message_at q key)
      present key l =
          elim (eqb_tells n key) [
            | inl e ↦ subst (λ z. IsSome (message_at q z)) e.1 (ap is_some now)
            | inr e ↦ ap is_some (others key (λ d. e.1 (sym d))) ∙ s.present key (omega (arith, l, count-with first n key keys, counts-other n key keys e.1))
          ]

      once : (key : ℕ) → count_of key (with_key first n keys) ≤ 1
      once key =
          elim (eqb_tells n key) [
            | inl e ↦ let same = ap (λ z. count_of z keys) e.1 in let own = ap (λ z. count_of z (n ∷ keys)) e.1 in omega (arith, count-with first n key keys, counts-itself n keys, absent n keys p s vacant, same, own)
            | inr e ↦ omega (arith, count-with first n key keys, counts-other n key keys e.1, s.once key)
          ]

  pub pushed-exchanges : Exchanges keys (with_key first n keys) p q
  pushed-exchanges = record { others = kept; fresh = fresh; freed = freed }
    where
      other : (key : ℕ) → count_of key (with_key first n keys) ≡ 0 → key ≢ n
      other key none e = let own = ap (λ z. count_of z (n ∷ keys)) e in omega (arith, count-with first n key keys, counts-itself n keys, own, none)

      kept : (key : ℕ) → count_of key keys ≡ 0 → count_of key (with_key first n keys) ≡ 0 → message_at q key ≡ message_at p key
      kept key a b = others key (other key b)

      fresh : (key : ℕ) → count_of key keys ≡ 0 → 0 < count_of key (with_key first n keys) → message_at p key ≡ None
      fresh key a b =
          elim (eqb_tells n key) [
            | inl e ↦ subst (λ z. message_at p z ≡ None) e.1 vacant
            | inr e ↦ absurd (omega (arith, count-with first n key keys, counts-other n key keys e.1, a, b))
          ]

      freed : (key : ℕ) → 0 < count_of key keys → count_of key (with_key first n keys) ≡ 0 → message_at q key ≡ None
      freed key a b = absurd (omega (arith, count-with first n key keys, counted key, a, b))
        where
          counted : (key : ℕ) → count_of key keys ≤ count_of key (n ∷ keys)
          counted key = omega arith

-- the first message is taken
module _ (n : ℕ) (keys : List ℕ) (p q : Pool) (s : AreStored (n ∷ keys) p) (gone : message_at q n ≡ None) (others : (key : ℕ) → key ≢ n → message_at q key ≡ message_at p key) where
  left : (key : ℕ) → 0 < count_of key keys → key ≢ n
  left key l e = let same = ap (λ z. count_of z keys) e in omega (arith, counts-itself n keys, s.once n, same, l)

  pub popped-messages : messages_under keys q ≡ messages_under keys p
  popped-messages = messages-same keys p q (λ key l. others key (left key l))

  pub popped-stored : AreStored keys q
  popped-stored =
      record {
        present = λ key l. ap is_some (others key (left key l)) ∙ s.present key (omega (arith, l));
        once = λ key. omega (arith, s.once key);
      }

  pub popped-exchanges : Exchanges (n ∷ keys) keys p q
  popped-exchanges = record { others = kept; fresh = fresh; freed = freed }
    where
      kept : (key : ℕ) → count_of key (n ∷ keys) ≡ 0 → count_of key keys ≡ 0 → message_at q key ≡ message_at p key
      kept key a b = others key (λ e. let own = ap (λ z. count_of z (n ∷ keys)) e in omega (arith, counts-itself n keys, own, a))

      fresh : (key : ℕ) → count_of key (n ∷ keys) ≡ 0 → 0 < count_of key keys → message_at p key ≡ None
      fresh key a b = absurd (omega (arith, a, b))

      freed : (key : ℕ) → 0 < count_of key (n ∷ keys) → count_of key keys ≡ 0 → message_at q key ≡ None
      freed key a b =
          elim (eqb_tells n key) [
            | inl e ↦ subst (λ z. message_at q z ≡ None) e.1 gone
            | inr e ↦ absurd (omega (arith, counts-other n key keys e.1, a, b))
          ]

-- the first message is that under the first key
pub first-message : (keys : List ℕ) (p : Pool) (key : ℕ) → AreStored keys p → slice_get keys 0 ≡ Some key → message_at p key ≡ slice_get (messages_under keys p) 0
first-message [] p key s e = absurd cc
first-message (y ∷ ys) p key s e =
    let same : y ≡ key = cc in
    subst (λ z. message_at p z ≡ slice_get (messages_under (y ∷ ys) p) 0) same (whole (message_at p y) (s.present y (omega (arith, counts-itself y ys))))
  where
    whole : (o : Option (ℕ × ℕ)) → is_some o ≡ true → o ≡ Some (message_or_none o)
    whole None h = absurd (false≢true h)
    whole (Some m) h = refl

-- the first of some keys and the others

pub first-present : (keys : List ℕ) (p : Pool) (key : ℕ) → AreStored keys p → slice_get keys 0 ≡ Some key → IsSome (message_at p key)
first-present [] p key s e = absurd cc
first-present (y ∷ ys) p key s e =
    let same : y ≡ key = cc in subst (λ z. IsSome (message_at p z)) same (s.present y (omega (arith, counts-itself y ys)))

pub taken-messages : (keys : List ℕ) (p q : Pool) (key : ℕ) → AreStored keys p → slice_get keys 0 ≡ Some key → message_at q key ≡ None → ((other : ℕ) → other ≢ key → message_at q other ≡ message_at p other) → messages_under (drop 1 keys) q ≡ drop 1 (messages_under keys p)
taken-messages [] p q key s e gone others = absurd cc
taken-messages (y ∷ ys) p q key s e gone others =
    let same : y ≡ key = cc in
    popped-messages y ys p q s (subst (λ z. message_at q z ≡ None) (sym same) gone) (λ other ne. others other (λ d. ne (d ∙ sym same)))

pub taken-stored : (keys : List ℕ) (p q : Pool) (key : ℕ) → AreStored keys p → slice_get keys 0 ≡ Some key → message_at q key ≡ None → ((other : ℕ) → other ≢ key → message_at q other ≡ message_at p other) → AreStored (drop 1 keys) q
taken-stored [] p q key s e gone others = absurd cc
taken-stored (y ∷ ys) p q key s e gone others =
    let same : y ≡ key = cc in
    popped-stored y ys p q s (subst (λ z. message_at q z ≡ None) (sym same) gone) (λ other ne. others other (λ d. ne (d ∙ sym same)))

pub taken-exchanges : (keys : List ℕ) (p q : Pool) (key : ℕ) → AreStored keys p → slice_get keys 0 ≡ Some key → message_at q key ≡ None → ((other : ℕ) → other ≢ key → message_at q other ≡ message_at p other) → Exchanges keys (drop 1 keys) p q
taken-exchanges [] p q key s e gone others = absurd cc
taken-exchanges (y ∷ ys) p q key s e gone others =
    let same : y ≡ key = cc in
    popped-exchanges y ys p q s (subst (λ z. message_at q z ≡ None) (sym same) gone) (λ other ne. others other (λ d. ne (d ∙ sym same)))

-- without a key there is no message
pub no-message : (keys : List ℕ) (p : Pool) → slice_get keys 0 ≡ None → None ≡ slice_get (messages_under keys p) 0
no-message [] p e = refl
no-message (y ∷ ys) p e = absurd cc
