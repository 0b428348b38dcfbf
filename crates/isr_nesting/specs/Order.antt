-- The interrupts whose moment is in raw steps, in the order of their moments.
use Rattle.std.specs.Prelude.{ℕ, ◌≡◌, ◌+◌, ◌<◌, ◌≤◌, List, [], ◌∷◌, length, slice_index_or}
use Rattle.std.specs.List.Sorted.{IsNonDecreasingBy}
use Rattle.inject_list.specs.declared.lists.Moment.{Moment}
use Rattle.inject_list.specs.declared.lists.Moment.TheVariants.{Task, Step}
use Rattle.isr_nesting.specs.declared.records.Recorded.{Recorded}
use Rattle.isr_nesting.specs.declared.orders.Timed.{Timed}
use Rattle.isr_nesting.specs.RecordView.{record_at}

abbrev pub no_moment : Timed
no_moment = record { moment = 0; number = 0 }

abbrev pub timed_at : List Timed → ℕ → Timed
timed_at order j = slice_index_or order j no_moment

-- an interrupt of number n before those behind it
abbrev pub timed_first : ℕ → Moment → List Timed → List Timed
timed_first n (Task t) rest = rest
timed_first n (Step s) rest = record { moment = s; number = n } ∷ rest

-- in the order of the list
abbrev pub timed_in : ℕ → List Recorded → List Timed
timed_in n [] = []
timed_in n (r ∷ rs) = timed_first n r.moment (timed_in (n + 1) rs)

-- each such interrupt stands in the order once, the earliest first
pub record IsOrder (rs : List Recorded) (order : List Timed) : Type 0 where
  pub few : length order ≤ length rs
  pub sorted : IsNonDecreasingBy (λ x. x.moment) order
  pub inside : (j : ℕ) → j < length order → (timed_at order j).number < length rs
  pub moment : (j : ℕ) → j < length order → (record_at rs (timed_at order j).number).moment ≡ Step (timed_at order j).moment
  pub all : (i m : ℕ) → i < length rs → (record_at rs i).moment ≡ Step m → (j : ℕ) × (j < length order) × (timed_at order j ≡ record { moment = m; number = i })
  pub once : (i j : ℕ) → i < length order → j < length order → (timed_at order i).number ≡ (timed_at order j).number → i ≡ j
