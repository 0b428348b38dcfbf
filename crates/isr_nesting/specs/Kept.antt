-- What is always true of the interrupts that wait.
use Rattle.std.specs.Prelude.{ℕ, ◌≡◌, ◌<◌, ◌≤◌, ◌%◌, ◌⊎◌, Bool, true, false, List, length, slice_index}
use Rattle.inject_list.specs.declared.lists.Moment.TheVariants.{Task, Step}
use Rattle.isr_nesting.specs.declared.records.Recorded.{Recorded}
use Rattle.isr_nesting.specs.declared.waits.Waiting.TheInside.{Inside}
use Rattle.isr_nesting.specs.Least.{nothing}
use Rattle.isr_nesting.specs.Keys.{key}
use Rattle.isr_nesting.specs.RecordView.{record_at, has_entered, task_numbers}

-- `records`: the interrupts of the list by number; `entered`: which have entered; `places`: where those whose moment is in raw
-- steps stand among `moments`; `keys`: the keys of those that have not entered, nothing for the others.
module _ (records : List Recorded) (entered : List Bool) (places moments keys : List ℕ) where
  -- interrupt i waits for the raw step m, and has the place j
  pub record WaitsAt (i m j : ℕ) : Type 0 where
    pub number : i < length records
    pub waits : has_entered entered i ≡ false
    pub step : (record_at records i).moment ≡ Step m
    pub place : slice_index places i ≡ j
    pub inside : j < length moments
    pub moment : slice_index moments j ≡ m
    pub key_here : slice_index keys j ≡ key (record_at records i).level i

  -- each interrupt that waits for a raw step stands at its place, and each place has such an interrupt or none
  pub record HasPlaces : Type 0 where
    pub stands : (i m : ℕ) → i < length records → has_entered entered i ≡ false → (record_at records i).moment ≡ Step m → WaitsAt i m (slice_index places i)
    pub only : (j : ℕ) → j < length keys → (slice_index keys j ≡ nothing) ⊎ WaitsAt (slice_index keys j % 16384) (slice_index moments j) j

-- the first `next` of the numbers of those whose moment is in task steps have entered, and the one behind them has not
pub record IsPassed (entered : List Bool) (tasks : List ℕ) (next : ℕ) : Type 0 where
  pub passed : (j : ℕ) → j < next → has_entered entered (slice_index tasks j) ≡ true
  pub open_yet : next < length tasks → has_entered entered (slice_index tasks next) ≡ false

pub record IsKept (a : Inside) : Type 0 where
  pub few : length a.recorded.items ≤ 16384
  pub entered : length a.entered.items ≡ length a.recorded.items
  pub places : length a.places.items ≡ length a.recorded.items
  pub moments : length a.moments.items ≡ length a.keys
  pub levels : (i : ℕ) → i < length a.recorded.items → (record_at a.recorded.items i).level ≤ 7
  pub sorted : (i j : ℕ) → i ≤ j → j < length a.moments.items → slice_index a.moments.items i ≤ slice_index a.moments.items j
  pub steps : HasPlaces a.recorded.items a.entered.items a.places.items a.moments.items a.keys
  pub gone : (j : ℕ) → j < a.first → slice_index a.keys j ≡ nothing
  pub tasks : a.tasks.items ≡ task_numbers 0 a.recorded.items
  pub passed : IsPassed a.entered.items a.tasks.items a.next
  pub next_step : a.first < length a.moments.items → a.next_step ≤ slice_index a.moments.items a.first
  pub next_task : (m : ℕ) → a.next < length a.tasks.items → (record_at a.recorded.items (slice_index a.tasks.items a.next)).moment ≡ Task m → a.next_task ≤ m
