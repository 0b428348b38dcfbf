-- The looks by their moments, and those that are left.
use Rattle.std.specs.Prelude.{ℕ, ◌≡◌, List, [], ◌∷◌, ◌==◌}
use Rattle.std.specs.List.{filter}
use Rattle.std.specs.List.Sorted.{IsNonDecreasingBy}
use Rattle.inject_list.specs.declared.lists.Look.{Look}
use Rattle.machine_model.specs.Looks.{without_look}

-- the looks of one moment
abbrev pub of_moment : ℕ → List Look → List Look
of_moment t looks = filter (λ l. l.at == t) looks

-- the looks in the order of their moments, those of one moment in the order of their lines
pub record IsInOrder (lines order : List Look) : Type 0 where
  pub sorted : IsNonDecreasingBy (λ l. l.at) order
  pub same : (t : ℕ) → of_moment t order ≡ of_moment t lines

-- without the first of each of these moments
abbrev pub without_all : List Look → List Look → List Look
without_all [] lines = lines
without_all (p ∷ ps) lines = without_all ps (without_look p.at lines)
