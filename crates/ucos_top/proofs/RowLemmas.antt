-- The lines of the rows that are left.
use Rattle.std.proofs.Common.{◌≡◌, ℕ, ◌+◌, ◌<◌, List, ◌++◌, length, drop, ap}
use Rattle.std.proofs.Math.ListN.{get_or}
use Rattle.std.proofs.lemmas.List.{drop_more}
use Rattle.program_model.specs.Listing.{numbered}

-- the next row's line, and the lines behind it
pub rows_more : {T : Type 0} (f : ℕ → T → List ℕ) (xs : List T) (i : ℕ) (d : T) → i < length xs
    → numbered f i (drop i xs) ≡ f i (get_or xs i d) ++ numbered f (i + 1) (drop (i + 1) xs)
rows_more f xs i d p = ap (numbered f i) (drop_more xs i d p)
