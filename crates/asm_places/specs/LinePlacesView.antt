-- How the places of lines are kept: the places that differ from the one before, and for each line which of them is its own.
use Rattle.std.specs.Prelude.{ℕ, List, map, length, ◌≡◌, ◌<◌, ◌≤◌, ◌+◌, ◌-◌, All}
use Rattle.asm_places.specs.Operands.{place_at}
use Rattle.asm_places.specs.Place.{Place}

-- the places of lines that have these numbers among some places
abbrev pub places_by : List Place → List ℕ → List Place
places_by distinct indices = map (place_at distinct) indices

-- each line has one of the places, and there are no more places than lines
pub record IsShared (distinct : List Place) (indices : List ℕ) : Type 0 where
  pub inside : All (λ i. i < length distinct) indices
  pub few : length distinct ≤ length indices

-- the same places, and at their end this one
pub record IsEndedWith (old : List Place) (place : Place) (new : List Place) : Type 0 where
  pub same : (k : ℕ) → k < length old → place_at new k ≡ place_at old k
  pub last : place_at new (length new - 1) ≡ place
  pub some : 0 < length new
  pub least : length old ≤ length new
  pub few : length new ≤ length old + 1
