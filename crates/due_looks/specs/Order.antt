-- The numbers of the looks in the order of their moments.
use Rattle.std.specs.Prelude.{ℕ, ◌≡◌, ◌+◌, ◌<◌, ◌-◌, ◌^◌, List, [], ◌∷◌, length, map, take, All, slice_index_or}
use Rattle.inject_list.specs.declared.lists.Look.{Look}
use Rattle.inject_list.specs.declared.lists.Seen.TheVariants.{Ready}
use Rattle.due_looks.specs.declared.queue.Timed.{Timed}
use Rattle.due_looks.specs.Rest.{IsInOrder, without_all}

-- the look of a number; past the last one that is in no list
abbrev pub look_of : List Look → ℕ → Look
look_of lines number = slice_index_or lines number (record { at = 0; what = Ready (record { 0 = 0 }) })

-- the looks of these numbers
abbrev pub looks_of : List Look → List Timed → List Look
looks_of lines order = map (λ x. look_of lines x.number) order

-- the moments and the numbers of looks, from a number on
abbrev pub timed_from : ℕ → List Look → List Timed
timed_from n [] = []
timed_from n (l ∷ ls) = record { moment = l.at; number = n } ∷ timed_from (n + 1) ls

-- a number of the list, with its moment
abbrev pub IsOf : List Look → Timed → Type 0
IsOf lines x = (x.number < length lines) × ((look_of lines x.number).at ≡ x.moment)

-- the numbers of the looks in the order of their moments
pub record IsOrder (lines : List Look) (order : List Timed) : Type 0 where
  pub numbers : All (IsOf lines) order
  pub in_order : IsInOrder lines (looks_of lines order)

-- the moment at a place of an order, or the last moment where the order ends before it
abbrev pub moment_in : List Timed → ℕ → ℕ
moment_in order place = (slice_index_or order place (record { moment = 2 ^ 64 - 1; number = 0 })).moment

-- the looks that are left when the first `next` of an order have been taken
abbrev pub left : List Look → List Timed → ℕ → List Look
left lines order next = without_all (take next (looks_of lines order)) lines
