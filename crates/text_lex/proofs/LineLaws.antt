-- Where a line ends, as the search for a line feed finds it.
use Rattle.std.proofs.Common.{◌≡◌, sym, ap, refl, ℕ, List, Bool, true, false, arith, length, get_or}
use Rattle.std.specs.Prelude.{not, None, Some}
use Rattle.std.specs.List.{prefix_len}
use Rattle.std.proofs.lemmas.List.Sums.{prefix_len_is}
use Rattle.memchr.specs.Find.{IsFirstByte, is_byte}
use Rattle.text_lex.specs.Bytes.{is_not_line_feed}

fails : (b : Bool) → (b ≡ true → ⊥) → not b ≡ true
fails true h = absurd (h refl)
fails false h = refl

pub no_line_feed : (bytes : List ℕ) → IsFirstByte (is_byte 10) bytes None → length bytes ≡ prefix_len is_not_line_feed bytes
no_line_feed bytes h =
    sym (prefix_len_is is_not_line_feed bytes (length bytes) 0 (omega arith) (λ k l. fails (is_byte 10 (get_or bytes k 0)) (h k (omega arith) l)) (λ l. absurd (omega (arith, l))))

pub first_line_feed : (bytes : List ℕ) (at : ℕ) → IsFirstByte (is_byte 10) bytes (Some at) → at ≡ prefix_len is_not_line_feed bytes
first_line_feed bytes at h =
    sym (prefix_len_is is_not_line_feed bytes at 0 (omega (arith, h.0.high)) (λ k l. fails (is_byte 10 (get_or bytes k 0)) (h.0.before k (omega arith) l)) (λ l. ap not h.1))
