-- Lists of keys that are apart, of which one list changes.
use Rattle.std.proofs.Common.{◌≡◌, ◌≢◌, ℕ, ◌<◌, ◌≤◌, List, [], length, set, get_or-set_same, get_or-set_other, sym, ap, ◌∙◌, arith, inl, inr}
use Rattle.std.specs.Prelude.{is_some, IsSome}
use Rattle.std.proofs.lemmas.Bool.{cases_lt, false≢true}
use Rattle.std.proofs.lemmas.Bool.Decides.{eqb_tells}
use Rattle.kern_model.specs.State.{list_at, count_of}
use Rattle.msg_queues.specs.Stored.{Pool, message_at, messages_under, AreStored, Exchanges}
use Rattle.msg_queues.proofs.KeyLaws.{messages-same}
use Rattle.message_store.specs.StoreView.{AreApart}

-- one of them alone
pub stored-in : (lists : List (List ℕ)) (p : Pool) (i : ℕ) → AreApart lists p → AreStored (list_at lists i) p
stored-in lists p i apart = record { present = λ key l. apart.present i key l; once = λ key. apart.once i key }

module _ (lists : List (List ℕ)) (i : ℕ) (after : List ℕ) (p q : Pool) (apart : AreApart lists p) (e : Exchanges (list_at lists i) after p q) (s : AreStored after q) where
  -- a key of another list is none of the new ones: under each of these stood nothing before
  away : (j key : ℕ) → j ≢ i → 0 < count_of key (list_at lists j) → count_of key after ≡ 0
  away j key ne l =
      elim (cases_lt 0 (count_of key after)) [
        | inl m ↦ absurd (false≢true (sym (ap is_some (e.fresh key (apart.alone j i key ne l) m)) ∙ apart.present j key l))
        | inr m ↦ omega (arith, m)
      ]

  kept : (j key : ℕ) → j ≢ i → 0 < count_of key (list_at lists j) → message_at q key ≡ message_at p key
  kept j key ne l = e.others key (apart.alone j i key ne l) (away j key ne l)

  -- all other lists have the same messages
  pub others-same : (j : ℕ) → j ≢ i → messages_under (list_at lists j) q ≡ messages_under (list_at lists j) p
  others-same j ne = messages-same (list_at lists j) p q (λ key l. kept j key ne l)

  -- the lists are apart again
  module _ (inside : i < length lists) where
    abbrev news : List (List ℕ)
    news = set lists i after

    here : (j : ℕ) → j ≡ i → list_at news j ≡ after
    here j same = ap (λ n. list_at news n) same ∙ get_or-set_same lists i after [] inside

    there : (j : ℕ) → j ≢ i → list_at news j ≡ list_at lists j
    there j ne = get_or-set_other lists i j after [] ne

    present : (j key : ℕ) → 0 < count_of key (list_at news j) → IsSome (message_at q key)
    present j key l =
        elim (eqb_tells j i) [
          | inl c ↦ s.present key (omega (arith, l, ap (λ keys. count_of key keys) (here j c.1)))
          | inr c ↦
              let before : 0 < count_of key (list_at lists j) = omega (arith, l, ap (λ keys. count_of key keys) (there j c.1)) in
              ap is_some (kept j key c.1 before) ∙ apart.present j key before
        ]

    once : (j key : ℕ) → count_of key (list_at news j) ≤ 1
    once j key =
        elim (eqb_tells j i) [
          | inl c ↦ omega (arith, s.once key, ap (λ keys. count_of key keys) (here j c.1))
          | inr c ↦ omega (arith, apart.once j key, ap (λ keys. count_of key keys) (there j c.1))
        ]

    -- a key of the changed list is in no other one
    mine : (j key : ℕ) → j ≢ i → 0 < count_of key after → count_of key (list_at lists j) ≡ 0
    mine j key ne l =
        elim (cases_lt 0 (count_of key (list_at lists j))) [
          | inl m ↦ absurd (omega (arith, away j key ne m, l))
          | inr m ↦ omega (arith, m)
        ]

    alone : (j k key : ℕ) → j ≢ k → 0 < count_of key (list_at news j) → count_of key (list_at news k) ≡ 0
    alone j k key ne l =
        elim (eqb_tells j i) [
          | inl c ↦
              let other : k ≢ i = λ d. ne (c.1 ∙ sym d) in
              let now : 0 < count_of key after = omega (arith, l, ap (λ keys. count_of key keys) (here j c.1)) in
              ap (λ keys. count_of key keys) (there k other) ∙ mine k key other now
          | inr c ↦
              let before : 0 < count_of key (list_at lists j) = omega (arith, l, ap (λ keys. count_of key keys) (there j c.1)) in
              elim (eqb_tells k i) [
                | inl d ↦ ap (λ keys. count_of key keys) (here k d.1) ∙ away j key c.1 before
                | inr d ↦ ap (λ keys. count_of key keys) (there k d.1) ∙ apart.alone j k key ne before
              ]
        ]

    pub apart-again : AreApart (set lists i after) q
    apart-again = record { present = present; once = once; alone = alone }
