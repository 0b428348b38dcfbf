-- A piece lies inside the text that it is the front of.
use Rattle.std.proofs.Common.{◌≡◌, ℕ, ◌+◌, ◌≤◌, ◌<◌, ◌∷◌, List, [], length, drop, true, arith, ℤ, pos, suc}
use Rattle.std.specs.Prelude.{nat_lt, neg_ℤ}
use Rattle.std.specs.List.{prefix_len, take_while}
use Rattle.std.proofs.lemmas.Bool.{cond_both}
use Rattle.std.proofs.lemmas.List.{length-drop}
use Rattle.std.proofs.lemmas.List.Folds.{length-prefix_len}
use Rattle.std.proofs.lemmas.List.Sums.{prefix_len-le-length}
use Rattle.text_lex.specs.Bytes.{class_of, is_name_byte, is_letter, is_digit, is_hex_digit, is_not_line_feed}
use Rattle.text_lex.specs.Numbers.{Numeral, numeral, begins_hex, hex_numeral, decimal_numeral}
use Rattle.text_lex.specs.Pieces.{PieceFits, closed, positive, negative, after_minus, after_dot, piece_of, piece_at}
use Rattle.text_lex.specs.declared.TokenKind.TheVariants.{Directive, Number}
use Rattle.text_lex.specs.declared.bytes.ByteClass.{ByteClass}
use Rattle.text_lex.specs.declared.bytes.ByteClass.TheVariants.{Blank, Hash, LineFeed, Letter, Dot, Minus, Digit, Sign, Other}
use Rattle.text_lex.specs.declared.pieces.Piece.TheVariants.{Gives, Bad, TooLarge}

-- a hexadecimal number ends within the text
hex_within : (byte : ℕ) (rest : List ℕ) → (begins_hex byte rest ≡ true) → 1 + length (take_while is_hex_digit (drop 1 rest)) ≤ length rest
hex_within byte [] h = cc
hex_within byte (next ∷ []) h = cc
hex_within byte (next ∷ (digit ∷ rest)) h =
    omega (arith, prefix_len-le-length is_hex_digit (digit ∷ rest), length-prefix_len is_hex_digit (digit ∷ rest))

decimal_within : (rest : List ℕ) → length (take_while is_digit rest) ≤ length rest
decimal_within rest = omega (arith, prefix_len-le-length is_digit rest, length-prefix_len is_digit rest)

-- a number without a sign ends within the text
pub numeral_within : (byte : ℕ) (rest : List ℕ) → (numeral byte rest).further ≤ length rest
numeral_within byte rest =
    cond_both (begins_hex byte rest) (hex_numeral (take_while is_hex_digit (drop 1 rest))) (decimal_numeral byte (take_while is_digit rest))
    (λ (n : Numeral). n.further ≤ length rest) (hex_within byte rest) (λ e. decimal_within rest)

closed_within : (value : ℤ) (further room : ℕ) (behind : List ℕ) → further + length behind ≤ room → PieceFits (closed value further behind) room
closed_within value further room [] h = omega arith
closed_within value further room (byte ∷ bytes) h =
    cond_both (is_name_byte byte) (Bad (further + 1)) (Gives (Number value) further) (λ p. PieceFits p room) (λ e. omega (arith, h)) (λ e. omega (arith, h))

pub positive_within : (n : Numeral) (rest : List ℕ) → n.further ≤ length rest → PieceFits (positive n rest) (length rest)
positive_within n rest h =
    let behind : n.further + length (drop n.further rest) ≤ length rest = omega (arith, length-drop n.further rest) in
    cond_both (nat_lt 4294967295 n.value) TooLarge (closed (pos n.value) n.further (drop n.further rest)) (λ p. PieceFits p (length rest))
    (λ e. tt) (λ e. closed_within (pos n.value) n.further (length rest) (drop n.further rest) behind)

negative_within : (n : Numeral) (rest : List ℕ) (room : ℕ) → n.further ≤ length rest → length rest < room → PieceFits (negative n rest) room
negative_within n rest room h k =
    let behind : n.further + 1 + length (drop n.further rest) ≤ room = omega (arith, length-drop n.further rest) in
    cond_both (nat_lt 2147483648 n.value) TooLarge (closed (neg_ℤ (pos n.value)) (n.further + 1) (drop n.further rest)) (λ p. PieceFits p room)
    (λ e. tt) (λ e. closed_within (neg_ℤ (pos n.value)) (n.further + 1) room (drop n.further rest) behind)

pub minus_within : (rest : List ℕ) → PieceFits (after_minus rest) (length rest)
minus_within [] = omega arith
minus_within (byte ∷ rest) =
    cond_both (is_digit byte) (negative (numeral byte rest) rest) (Bad 0) (λ p. PieceFits p (suc (length rest)))
    (λ e. negative_within (numeral byte rest) rest (suc (length rest)) (numeral_within byte rest) (omega arith)) (λ e. omega arith)

pub dot_within : (rest : List ℕ) → PieceFits (after_dot rest) (length rest)
dot_within [] = omega arith
dot_within (byte ∷ rest) =
    cond_both (is_letter byte) (Gives Directive (1 + prefix_len is_name_byte rest)) (Bad 0) (λ p. PieceFits p (suc (length rest)))
    (λ e. omega (arith, prefix_len-le-length is_name_byte rest)) (λ e. omega arith)

class_within : (class : ByteClass) (byte : ℕ) (rest : List ℕ) → PieceFits (piece_of class byte rest) (length rest)
class_within Blank byte rest = omega arith
class_within Hash byte rest = prefix_len-le-length is_not_line_feed rest
class_within LineFeed byte rest = tt
class_within Letter byte rest = prefix_len-le-length is_name_byte rest
class_within Dot byte rest = dot_within rest
class_within Minus byte rest = minus_within rest
class_within Digit byte rest = positive_within (numeral byte rest) rest (numeral_within byte rest)
class_within (Sign kind) byte rest = omega arith
class_within Other byte rest = omega arith

-- each piece ends within the text
pub piece_within : (byte : ℕ) (rest : List ℕ) → PieceFits (piece_at byte rest) (length rest)
piece_within byte rest = class_within (class_of byte) byte rest
