-- The order of the interrupts whose moment is in raw steps: a sort keeps each of them, once.
use Rattle.std.proofs.Common.{◌≡◌, ℕ, zero, suc, ◌+◌, ◌<◌, ◌≤◌, List, [], ◌∷◌, length, get_or, refl, sym, ap, ◌∙◌, subst, arith, inl, inr}
use Rattle.std.specs.Prelude.{slice_index_or, slice_set, All}
use Rattle.std.specs.List.{swap, Contains}
use Rattle.std.specs.List.Sorted.{IsPermutation, IsNonDecreasingBy}
use Rattle.std.proofs.lemmas.Bool.Decides.{eqb_tells}
use Rattle.std.proofs.lemmas.List.{get_or-set_same, get_or-set_other, get_or_default, length-set}
use Rattle.std.proofs.lemmas.List.Sorted.{All-permutation, Contains-permutation, IsPermutation-keeps, length_permutation}
use Rattle.inject_list.specs.declared.lists.Moment.{Moment}
use Rattle.inject_list.specs.declared.lists.Moment.TheVariants.{Task, Step}
use Rattle.isr_nesting.specs.declared.records.Recorded.{Recorded}
use Rattle.isr_nesting.specs.declared.orders.Timed.{Timed}
use Rattle.isr_nesting.specs.RecordView.{record_at}
use Rattle.isr_nesting.specs.Order.{no_moment, timed_at, timed_in, timed_first, IsOrder}

-- no two entries have one number
pub record AreApart (order : List Timed) : Type 0 where
  pub once : (i j : ℕ) → i < length order → j < length order → (timed_at order i).number ≡ (timed_at order j).number → i ≡ j

-- an entry of the list from a number n on: the record at k
pub record IsEntry (n : ℕ) (rs : List Recorded) (x : Timed) (k : ℕ) : Type 0 where
  pub number : x.number ≡ n + k
  pub inside : k < length rs
  pub moment : (record_at rs k).moment ≡ Step x.moment

entry_later : (n : ℕ) (r : Recorded) (rs : List Recorded) (x : Timed) → (k : ℕ) × IsEntry (n + 1) rs x k → (k : ℕ) × IsEntry n (r ∷ rs) x k
entry_later n r rs x f = (suc f.0, record { number = omega (arith, f.1.number); inside = omega (arith, f.1.inside); moment = f.1.moment })

pub timed-entry : (n : ℕ) (rs : List Recorded) (j : ℕ) → j < length (timed_in n rs) → (k : ℕ) × IsEntry n rs (timed_at (timed_in n rs) j) k
timed-entry n [] j h = absurd (omega arith)
timed-entry n (r ∷ rs) j h = by_moment r.moment refl j h (timed-entry (n + 1) rs)
  where
    by_moment : (m : Moment) → r.moment ≡ m → (j : ℕ) → j < length (timed_first n m (timed_in (n + 1) rs)) → ((j : ℕ) → j < length (timed_in (n + 1) rs) → (k : ℕ) × IsEntry (n + 1) rs (timed_at (timed_in (n + 1) rs) j) k) → (k : ℕ) × IsEntry n (r ∷ rs) (timed_at (timed_first n m (timed_in (n + 1) rs)) j) k
    by_moment (Task t) e j h rest = entry_later n r rs (timed_at (timed_in (n + 1) rs) j) (rest j h)
    by_moment (Step s) e zero h rest = (0, record { number = omega arith; inside = omega arith; moment = e })
    by_moment (Step s) e (suc j) h rest = entry_later n r rs (timed_at (timed_in (n + 1) rs) j) (rest j (omega arith))

pub timed-few : (n : ℕ) (rs : List Recorded) → length (timed_in n rs) ≤ length rs
timed-few n [] = omega arith
timed-few n (r ∷ rs) = by_moment r.moment (timed-few (n + 1) rs)
  where
    by_moment : (m : Moment) → length (timed_in (n + 1) rs) ≤ length rs → length (timed_first n m (timed_in (n + 1) rs)) ≤ suc (length rs)
    by_moment (Task t) h = omega arith
    by_moment (Step s) h = omega arith

-- each of them is there
there : (n : ℕ) (v : Moment) (rest : List Timed) (x : Timed) → Contains rest x → Contains (timed_first n v rest) x
there n (Task t) rest x f = f
there n (Step s) rest x (k, inside, same) = (suc k, omega arith, same)

pub timed-all : (n : ℕ) (rs : List Recorded) (k m : ℕ) → k < length rs → (record_at rs k).moment ≡ Step m → Contains (timed_in n rs) (record { moment = m; number = n + k })
timed-all n [] k m h e = absurd (omega arith)
timed-all n (r ∷ rs) zero m h e =
    let place : n ≡ n + 0 = omega arith in
    subst (λ i. Contains (timed_first n r.moment (timed_in (n + 1) rs)) (record { moment = m; number = i })) place
    (subst (λ v. Contains (timed_first n v (timed_in (n + 1) rs)) (record { moment = m; number = n })) (sym e) (0, omega arith, refl))
timed-all n (r ∷ rs) (suc k) m h e =
    let place : n + 1 + k ≡ n + suc k = omega arith in
    subst (λ i. Contains (timed_first n r.moment (timed_in (n + 1) rs)) (record { moment = m; number = i })) place
    (there n r.moment (timed_in (n + 1) rs) (record { moment = m; number = n + 1 + k }) (timed-all (n + 1) rs k m (omega arith) e))

apart_first : (x : Timed) (rest : List Timed) → AreApart rest → ((j : ℕ) → j < length rest → x.number < (timed_at rest j).number) → (i j : ℕ) → i < length (x ∷ rest) → j < length (x ∷ rest) → (timed_at (x ∷ rest) i).number ≡ (timed_at (x ∷ rest) j).number → i ≡ j
apart_first x rest a above zero zero hi hj e = refl
apart_first x rest a above zero (suc j) hi hj e = absurd (omega (arith, e, above j (omega arith)))
apart_first x rest a above (suc i) zero hi hj e = absurd (omega (arith, e, above i (omega arith)))
apart_first x rest a above (suc i) (suc j) hi hj e = ap (λ n. suc n) (a.once i j (omega arith) (omega arith) e)

apart_by : (n : ℕ) (v : Moment) (rest : List Timed) → AreApart rest → ((j : ℕ) → j < length rest → n < (timed_at rest j).number) → AreApart (timed_first n v rest)
apart_by n (Task t) rest a above = a
apart_by n (Step s) rest a above = record { once = apart_first (record { moment = s; number = n }) rest a above }

pub timed-apart : (n : ℕ) (rs : List Recorded) → AreApart (timed_in n rs)
timed-apart n [] = record { once = λ i j hi hj e. absurd (omega arith) }
timed-apart n (r ∷ rs) =
    apart_by n r.moment (timed_in (n + 1) rs) (timed-apart (n + 1) rs)
    (λ j h. let f = timed-entry (n + 1) rs j h in omega (arith, f.1.number))

-- where an exchange takes the entry at a place from
record IsMoved (i j a b : ℕ) : Type 0 where
  second : a ≡ j → b ≡ i
  first : (a ≡ j → ⊥) → a ≡ i → b ≡ j
  other : (a ≡ j → ⊥) → (a ≡ i → ⊥) → b ≡ a

moved_once : (i j a b x y : ℕ) → IsMoved i j a x → IsMoved i j b y → x ≡ y → a ≡ b
moved_once i j a b x y f g e =
    elim (eqb_tells a j) [
      | inl p ↦ elim (eqb_tells b j) [
        | inl q ↦ p.1 ∙ sym q.1
        | inr q ↦ elim (eqb_tells b i) [ inl r ↦ omega (arith, f.second p.1, g.first q.1 r.1, e, p.1, r.1) | inr r ↦ absurd (r.1 (omega (arith, f.second p.1, g.other q.1 r.1, e))) ]
      ]
      | inr p ↦ elim (eqb_tells a i) [
        | inl s ↦ elim (eqb_tells b j) [
          | inl q ↦ omega (arith, f.first p.1 s.1, g.second q.1, e, s.1, q.1)
          | inr q ↦ elim (eqb_tells b i) [ inl r ↦ s.1 ∙ sym r.1 | inr r ↦ absurd (q.1 (omega (arith, f.first p.1 s.1, g.other q.1 r.1, e))) ]
        ]
        | inr s ↦ elim (eqb_tells b j) [
          | inl q ↦ absurd (s.1 (omega (arith, f.other p.1 s.1, g.second q.1, e)))
          | inr q ↦ elim (eqb_tells b i) [ inl r ↦ absurd (p.1 (omega (arith, f.other p.1 s.1, g.first q.1 r.1, e))) | inr r ↦ omega (arith, f.other p.1 s.1, g.other q.1 r.1, e) ]
        ]
      ]
    ]

swap_at : (l : List Timed) (i j a : ℕ) → i < length l → j < length l → a < length l → (b : ℕ) × (IsMoved i j a b × ((b < length l) × (timed_at (swap l i j) a ≡ timed_at l b)))
swap_at [] i j a hi hj ha = absurd (omega arith)
swap_at (d ∷ ys) i j a hi hj ha =
    let l = d ∷ ys in
    let one = slice_set l i (slice_index_or l j d) in
    let long : length one ≡ length l = length-set l i (slice_index_or l j d) in
    elim (eqb_tells a j) [
      | inl q ↦
          let same : timed_at (swap l i j) a ≡ slice_index_or l i d = ap (timed_at (swap l i j)) q.1 ∙ get_or-set_same one j (slice_index_or l i d) no_moment (omega (arith, hj, long)) in
          (i, (record { second = λ e. refl; first = λ n e. absurd (n q.1); other = λ n m. absurd (n q.1) }, (hi, same ∙ get_or_default l i d no_moment hi)))
      | inr q ↦
          let past : timed_at (swap l i j) a ≡ timed_at one a = get_or-set_other one j a (slice_index_or l i d) no_moment q.1 in
          elim (eqb_tells a i) [
            | inl r ↦
                let same : timed_at one a ≡ slice_index_or l j d = ap (timed_at one) r.1 ∙ get_or-set_same l i (slice_index_or l j d) no_moment hi in
                (j, (record { second = λ e. absurd (q.1 e); first = λ n e. refl; other = λ n m. absurd (m r.1) }, (hj, past ∙ same ∙ get_or_default l j d no_moment hj)))
            | inr r ↦
                (a, (record { second = λ e. absurd (q.1 e); first = λ n e. absurd (r.1 e); other = λ n m. refl }, (ha, past ∙ get_or-set_other l i a (slice_index_or l j d) no_moment r.1)))
          ]
    ]

swap_long : (l : List Timed) (i j : ℕ) → length (swap l i j) ≡ length l
swap_long [] i j = refl
swap_long (d ∷ ys) i j = length-set (slice_set (d ∷ ys) i (slice_index_or (d ∷ ys) j d)) j (slice_index_or (d ∷ ys) i d) ∙ length-set (d ∷ ys) i (slice_index_or (d ∷ ys) j d)

-- an exchange keeps entries apart
pub apart-swap : (l : List Timed) (i j : ℕ) → i < length l → j < length l → AreApart l → AreApart (swap l i j)
apart-swap l i j hi hj a =
    record {
      once = λ x y hx hy e.
          let f = swap_at l i j x hi hj (omega (arith, swap_long l i j)) in
          let g = swap_at l i j y hi hj (omega (arith, swap_long l i j)) in
          let same : (timed_at l f.0).number ≡ (timed_at l g.0).number = sym (ap (λ (t : Timed). t.number) f.1.1.1) ∙ e ∙ ap (λ (t : Timed). t.number) g.1.1.1 in
          moved_once i j x y f.0 g.0 f.1.0 g.1.0 (a.once f.0 g.0 f.1.1.0 g.1.1.0 same);
    }

-- what an entry of the order says of the records
abbrev pub IsOf : List Recorded → Timed → Type 0
IsOf rs x = (x.number < length rs) × ((record_at rs x.number).moment ≡ Step x.moment)

timed_of : (rs : List Recorded) → All (IsOf rs) (timed_in 0 rs)
timed_of rs = λ j d h.
    let f = timed-entry 0 rs j h in
    let same : get_or (timed_in 0 rs) j d ≡ timed_at (timed_in 0 rs) j = get_or_default (timed_in 0 rs) j d no_moment h in
    let place : (timed_at (timed_in 0 rs) j).number ≡ f.0 = f.1.number ∙ omega arith in
    subst (IsOf rs) (sym same) (omega (arith, place, f.1.inside), ap (λ i. (record_at rs i).moment) place ∙ f.1.moment)

-- the list in the order of its moments
pub order-of : (rs : List Recorded) (order : List Timed) → IsPermutation (timed_in 0 rs) order → IsNonDecreasingBy (λ (x : Timed). x.moment) order → IsOrder rs order
order-of rs order permutation sorted =
    let each = All-permutation (IsOf rs) (timed_in 0 rs) order permutation (timed_of rs) in
    let apart : AreApart order = IsPermutation-keeps (timed_in 0 rs) AreApart (timed-apart 0 rs) apart-swap order permutation in
    record {
      few = omega (arith, length_permutation (timed_in 0 rs) order permutation, timed-few 0 rs);
      sorted = sorted;
      inside = λ j h. (each j no_moment h).0;
      moment = λ j h. (each j no_moment h).1;
      all = λ i m h e.
          let x : Timed = record { moment = m; number = i } in
          let place : 0 + i ≡ i = omega arith in
          let here : Contains (timed_in 0 rs) x = subst (λ n. Contains (timed_in 0 rs) (record { moment = m; number = n })) place (timed-all 0 rs i m h e) in
          let f = Contains-permutation (timed_in 0 rs) order x permutation here in
          (f.0, f.1, get_or_default order f.0 no_moment x f.1 ∙ f.2);
      once = apart.once;
    }
