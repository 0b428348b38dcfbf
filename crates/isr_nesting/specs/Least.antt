-- The least of a list of words.
use Rattle.std.specs.Prelude.{ℕ, ◌-◌, ◌^◌, List, [], ◌∷◌, min}

-- the greatest word, which stands for nothing
abbrev pub nothing : ℕ
nothing = 2 ^ 32 - 1

-- the least of them; nothing where there is none
abbrev pub least : List ℕ → ℕ
least [] = nothing
least (x ∷ xs) = min x (least xs)
