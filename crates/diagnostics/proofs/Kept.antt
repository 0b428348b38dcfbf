-- The first bytes of what a sink was given.
use Rattle.std.proofs.Common.{◌≡◌, ℕ, ◌+◌, List, ◌++◌, length, take, min, sym, ap, ◌∙◌, arith}
use Rattle.std.proofs.Math.Seq.{take-append-add, take-append_seam}
use Rattle.std.proofs.lemmas.List.{take_min}

-- a piece cut to the room that is left
pub kept_more : (kept piece : List ℕ) (room : ℕ) → room + length kept ≡ 32 → kept ++ take (min room (length piece)) piece ≡ take 32 (kept ++ piece)
kept_more kept piece room full =
    let whole : length kept + room ≡ 32 = omega (arith, full) in
    ap (λ l. kept ++ l) (take_min room piece) ∙ sym (take-append-add kept piece room) ∙ ap (λ n. take n (kept ++ piece)) whole

-- once there is no room nothing more is kept
pub kept_full : (kept piece : List ℕ) → length kept ≡ 32 → kept ≡ take 32 (kept ++ piece)
kept_full kept piece full = sym (take-append_seam kept piece) ∙ ap (λ n. take n (kept ++ piece)) full
