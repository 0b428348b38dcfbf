-- Lemmas on lists of bytes that are taken in parts.
use Rattle.std.proofs.Common.{◌≡◌, ℕ, ◌+◌, List, ◌++◌, take, drop, sym, ap, ◌∙◌, take-append-drop}
use Rattle.std.proofs.lemmas.List.{drop-drop}

-- the front that was given, and the bytes behind it
pub given_rest : (bytes buf : List ℕ) (at n : ℕ) → take n buf ≡ take n (drop at bytes) → drop at bytes ≡ take n buf ++ drop (at + n) bytes
given_rest bytes buf at n e = sym (take-append-drop n (drop at bytes)) ∙ ap (λ l. l ++ drop n (drop at bytes)) (sym e) ∙ ap (λ l. take n buf ++ l) (drop-drop n at bytes)
