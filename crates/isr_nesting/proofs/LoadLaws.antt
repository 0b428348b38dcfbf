-- The interrupts of a list before any has entered.
use Rattle.std.proofs.Common.{◌≡◌, ℕ, zero, suc, ◌+◌, ◌%◌, ◌<◌, ◌≤◌, Bool, false, List, [], ◌∷◌, length, map, refl, sym, ap, ◌∙◌, subst, arith, inr}
use Rattle.std.specs.Prelude.{replicate, slice_index}
use Rattle.std.proofs.lemmas.List.{length-map}
use Rattle.isr_nesting.specs.declared.records.Recorded.{Recorded}
use Rattle.isr_nesting.specs.declared.orders.Timed.{Timed}
use Rattle.isr_nesting.specs.Nest.{numbered}
use Rattle.isr_nesting.specs.Keys.{key}
use Rattle.isr_nesting.specs.Kept.{WaitsAt, HasPlaces, IsPassed}
use Rattle.isr_nesting.specs.Order.{IsOrder, timed_at}
use Rattle.isr_nesting.specs.RecordView.{interrupt_in, record_at, has_entered, waiting_from, task_numbers}
use Rattle.isr_nesting.proofs.KeyLaws.{key-number}
use Rattle.isr_nesting.proofs.WaitLaws.{waits-first}
use Rattle.isr_nesting.proofs.PlaceLaws.{task-number}

-- none has entered
pub none-entered : (n i : ℕ) → i < n → has_entered (replicate n false) i ≡ false
none-entered zero i h = absurd (omega arith)
none-entered (suc n) zero h = refl
none-entered (suc n) (suc i) h = none-entered n i (omega arith)

pub all-wait : (size n : ℕ) (rs : List Recorded) → n + length rs ≤ size → waiting_from (replicate size false) n rs ≡ numbered n (map interrupt_in rs)
all-wait size n [] h = refl
all-wait size n (r ∷ rs) h =
    waits-first (replicate size false) n r rs (none-entered size n (omega arith))
    ∙ ap (λ ws. (n, interrupt_in r) ∷ ws) (all-wait size (n + 1) rs (omega arith))

map_at : (f : Timed → ℕ) (xs : List Timed) (j : ℕ) → j < length xs → slice_index (map f xs) j ≡ f (timed_at xs j)
map_at f [] j h = absurd (omega arith)
map_at f (x ∷ xs) zero h = refl
map_at f (x ∷ xs) (suc j) h = map_at f xs j (omega arith)

module _ (rs : List Recorded) (order : List Timed) where
  -- the moments and the keys in the order
  abbrev pub moments_of : List ℕ
  moments_of = map (λ (x : Timed). x.moment) order

  abbrev pub keys_of : List ℕ
  keys_of = map (λ (x : Timed). key (record_at rs x.number).level x.number) order

  module _ (es : List Bool) (ps : List ℕ) (few : length rs ≤ 16384) (waits : (i : ℕ) → i < length rs → has_entered es i ≡ false) (ordered : IsOrder rs order) (places : (j : ℕ) → j < length order → slice_index ps (timed_at order j).number ≡ j) where
    stands_at : (j : ℕ) → j < length order → WaitsAt rs es ps moments_of keys_of (timed_at order j).number (timed_at order j).moment j
    stands_at j h =
        let inside = ordered.inside j h in
        record {
          number = inside;
          waits = waits (timed_at order j).number inside;
          step = ordered.moment j h;
          place = places j h;
          inside = omega (arith, h, length-map order (λ (x : Timed). x.moment));
          moment = map_at (λ (x : Timed). x.moment) order j h;
          key_here = map_at (λ (x : Timed). key (record_at rs x.number).level x.number) order j h;
        }

    pub places-loaded : HasPlaces rs es ps moments_of keys_of
    places-loaded =
        record {
          stands = λ i m h open_yet step.
              let f = ordered.all i m h step in
              let j = f.0 in
              let st = stands_at j f.1 in
              let number : (timed_at order j).number ≡ i = ap (λ (x : Timed). x.number) f.2 in
              let moment : (timed_at order j).moment ≡ m = ap (λ (x : Timed). x.moment) f.2 in
              let place : j ≡ slice_index ps i = sym (places j f.1) ∙ ap (slice_index ps) number in
              subst (λ k. WaitsAt rs es ps moments_of keys_of i m k) place
              (subst (λ n. WaitsAt rs es ps moments_of keys_of i n j) moment
              (subst (λ n. WaitsAt rs es ps moments_of keys_of n (timed_at order j).moment j) number st));
          only = λ j h.
              let inside : j < length order = omega (arith, h, length-map order (λ (x : Timed). key (record_at rs x.number).level x.number)) in
              let st = stands_at j inside in
              let i = (timed_at order j).number in
              let number : i ≡ slice_index keys_of j % 16384 = sym (ap (λ k. k % 16384) st.key_here ∙ key-number (record_at rs i).level i (omega (arith, st.number))) in
              inr (subst (λ m. WaitsAt rs es ps moments_of keys_of (slice_index keys_of j % 16384) m j) (sym st.moment)
              (subst (λ n. WaitsAt rs es ps moments_of keys_of n (timed_at order j).moment j) number st));
        }

    pub moments-rise : (i j : ℕ) → i ≤ j → j < length moments_of → slice_index moments_of i ≤ slice_index moments_of j
    moments-rise i j h inside =
        let long = length-map order (λ (x : Timed). x.moment) in
        let one = map_at (λ (x : Timed). x.moment) order i (omega (arith, long)) in
        let two = map_at (λ (x : Timed). x.moment) order j (omega (arith, long)) in
        omega (arith, one, two, ordered.sorted i j (record { moment = 0; number = 0 }) h (omega (arith, long)))

pub passed-none : (rs : List Recorded) (es : List Bool) → ((i : ℕ) → i < length rs → has_entered es i ≡ false) → IsPassed es (task_numbers 0 rs) 0
passed-none rs es waits = record { passed = λ j h. absurd (omega arith); open_yet = λ h. waits (slice_index (task_numbers 0 rs) 0) (task-number rs 0 h).0 }
