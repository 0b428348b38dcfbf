-- A word as eight hexadecimal digits is read as that word.
use Rattle.std.proofs.Common.{◌≡◌, ℕ, ◌+◌, ◌*◌, ◌/◌, ◌%◌, ◌^◌, ◌<◌, List, [], ◌∷◌, ◌++◌, true, false, cond, arith, refl, ap, ◌∙◌, pos}
use Rattle.std.specs.Prelude.{◌&&◌, ◌==◌}
use Rattle.std.specs.List.{list_all, take_while}
use Rattle.std.proofs.lemmas.Bool.{and_parts, and_from, eqb-true}
use Rattle.std.proofs.lemmas.Bool.Decides.{nat_tests}
use Rattle.text_lex.specs.Bytes.{is_digit, is_hex_digit, is_name_byte}
use Rattle.text_lex.specs.Numbers.{digit_value, value_of, hex_numeral, decimal_numeral}
use Rattle.text_lex.specs.Pieces.{positive}
use Rattle.text_lex.specs.Division.{BeginsNoName}
use Rattle.text_lex.specs.declared.TokenKind.TheVariants.{Number}
use Rattle.rv32_listing.specs.Texts.{hex_digit, hex_word, hexadecimal}
use Rattle.listing_law.proofs.Tokens.Numerals.{below_at, BeginsNot, while_whole}
use Rattle.listing_law.proofs.Tokens.Parts.{IsRead}
use Rattle.listing_law.proofs.Tokens.Read.{positive_read}

pub record IsHexDigit (k : ℕ) : Type 0 where
  pub digit : is_hex_digit (hex_digit k) ≡ true
  pub worth : digit_value (hex_digit k) ≡ k

hex_is : (k : ℕ) → k < 16 → IsHexDigit k
hex_is k lt =
    let parts = and_parts (is_hex_digit (hex_digit k)) (digit_value (hex_digit k) == k) (below_at 16 (λ k. is_hex_digit (hex_digit k) && digit_value (hex_digit k) == k) k refl lt) in
    record { digit = parts.0; worth = eqb-true (digit_value (hex_digit k)) k parts.1 }

no_hex_byte : (byte : ℕ) → is_name_byte byte ≡ false → is_hex_digit byte ≡ false
no_hex_byte byte h = grind (arith, nat_tests)

no_hex : (bytes : List ℕ) → BeginsNoName bytes → BeginsNot is_hex_digit bytes
no_hex [] h = tt
no_hex (byte ∷ bytes) h = no_hex_byte byte h

step : (a b d e : ℕ) → a ≡ b → digit_value d ≡ e → a * 16 + digit_value d ≡ b * 16 + e
step a b d e p q = rw (p, q) refl

module _ (w : ℕ) (lt : w < 2 ^ 32) where
  at : (k : ℕ) → IsHexDigit (w / 16 ^ k % 16)
  at k = let small : w / 16 ^ k % 16 < 16 = omega arith in hex_is (w / 16 ^ k % 16) small

  all_digits : list_all is_hex_digit (hex_word w) ≡ true
  all_digits =
      and_from _ _ (at 7).digit (and_from _ _ (at 6).digit (and_from _ _ (at 5).digit (and_from _ _ (at 4).digit
      (and_from _ _ (at 3).digit (and_from _ _ (at 2).digit (and_from _ _ (at 1).digit (and_from _ _ (at 0).digit refl)))))))

  worth : value_of 16 0 (hex_word w) ≡ w
  worth =
      let v7 : 0 * 16 + digit_value (hex_digit (w / 16 ^ 7 % 16)) ≡ w / 16 ^ 7 = omega (arith, (at 7).worth) in
      let v6 : (0 * 16 + digit_value (hex_digit (w / 16 ^ 7 % 16))) * 16 + digit_value (hex_digit (w / 16 ^ 6 % 16)) ≡ w / 16 ^ 6 =
      step _ _ (hex_digit (w / 16 ^ 6 % 16)) _ v7 (at 6).worth ∙ (omega arith) in
      let v5 = step _ _ (hex_digit (w / 16 ^ 5 % 16)) _ v6 (at 5).worth ∙ five in
      let v4 = step _ _ (hex_digit (w / 16 ^ 4 % 16)) _ v5 (at 4).worth ∙ four in
      let v3 = step _ _ (hex_digit (w / 16 ^ 3 % 16)) _ v4 (at 3).worth ∙ three in
      let v2 = step _ _ (hex_digit (w / 16 ^ 2 % 16)) _ v3 (at 2).worth ∙ two in
      let v1 = step _ _ (hex_digit (w / 16 ^ 1 % 16)) _ v2 (at 1).worth ∙ one in
      step _ _ (hex_digit (w / 16 ^ 0 % 16)) _ v1 (at 0).worth ∙ none
    where
      five : w / 16 ^ 6 * 16 + w / 16 ^ 5 % 16 ≡ w / 16 ^ 5
      five = omega arith

      four : w / 16 ^ 5 * 16 + w / 16 ^ 4 % 16 ≡ w / 16 ^ 4
      four = omega arith

      three : w / 16 ^ 4 * 16 + w / 16 ^ 3 % 16 ≡ w / 16 ^ 3
      three = omega arith

      two : w / 16 ^ 3 * 16 + w / 16 ^ 2 % 16 ≡ w / 16 ^ 2
      two = omega arith

      one : w / 16 ^ 2 * 16 + w / 16 ^ 1 % 16 ≡ w / 16 ^ 1
      one = omega arith

      none : w / 16 ^ 1 * 16 + w / 16 ^ 0 % 16 ≡ w
      none = omega arith

  pub hexadecimal_read : (rest : List ℕ) → BeginsNoName rest → IsRead (Number (pos w)) (hexadecimal w) rest
  hexadecimal_read rest b =
      let digits : take_while is_hex_digit (hex_word w ++ rest) ≡ hex_word w = while_whole is_hex_digit (hex_word w) rest all_digits (no_hex rest b) in
      ap (λ t. positive (cond t (hex_numeral (take_while is_hex_digit (hex_word w ++ rest))) (decimal_numeral 48 (take_while is_digit (120 ∷ (hex_word w ++ rest))))) (120 ∷ (hex_word w ++ rest))) (at 7).digit
      ∙ (ap (λ l. positive (hex_numeral l) (120 ∷ (hex_word w ++ rest))) digits
      ∙ (ap (λ v. positive (record { value = v; further = 9 }) (120 ∷ (hex_word w ++ rest))) worth ∙ positive_read w 9 (120 ∷ (hex_word w ++ rest)) rest lt refl b))
