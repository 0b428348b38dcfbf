-- How many tokens a text has.
use Rattle.std.proofs.Common.{◌≡◌, ℕ, zero, suc, ◌+◌, ◌≤◌, List, [], ◌∷◌, length, Bool, true, false, arith, sym, ◌∙◌, ap, refl}
use Rattle.text_lex.specs.Pieces.{piece_at}
use Rattle.text_lex.specs.Tokens.{Lexed, Tokens, BadByteAt, TooLargeAt, before, token, lexed_from, lexed, last_end}
use Rattle.text_lex.specs.declared.Token.{Token}
use Rattle.text_lex.specs.declared.TokenKind.TheVariants.{End}
use Rattle.text_lex.specs.declared.pieces.Piece.{Piece}
use Rattle.text_lex.specs.declared.pieces.Piece.TheVariants.{Skips, Ends, Gives, Bad, TooLarge}
use Rattle.text_lex.proofs.Reading.{piece_read, lexed_from-cons}

-- a reading has at most so many tokens
pub FewTokens : Lexed → ℕ → Type 0
FewTokens reading n = (tokens : List Token) → reading ≡ Tokens tokens → length tokens ≤ n

few_before : (t : Token) (reading : Lexed) (n : ℕ) → FewTokens reading n → FewTokens (before t reading) (n + 1)
unfolding FewTokens
few_before t (Tokens rest) n h tokens e = let k : length rest ≤ n = h rest refl in let same : t ∷ rest ≡ tokens = cc in let l : length (t ∷ rest) ≡ length tokens = ap length same in omega (arith, k, l)
few_before t (BadByteAt place line) n h tokens e = absurd cc
few_before t (TooLargeAt place line) n h tokens e = absurd cc

few_last : (begun : Bool) (place line : ℕ) → FewTokens (Tokens (last_end begun place line)) 1
unfolding FewTokens
few_last true place line tokens e = let same : token End line place 0 ∷ [] ≡ tokens = cc in let l : length (token End line place 0 ∷ []) ≡ length tokens = ap length same in omega (arith, l)
few_last false place line tokens e = let same : [] ≡ tokens = cc in let l : length {A = Token} [] ≡ length tokens = ap length same in omega (arith, l)

few_piece : (p : Piece) (place line : ℕ) (rest : List ℕ) → ((left place line : ℕ) (begun : Bool) → FewTokens (lexed_from left place line begun rest) (length rest + 1)) → FewTokens (piece_read p place line rest) (length rest + 1 + 1)
unfolding FewTokens
few_piece (Skips further) place line rest h tokens e = let k : length tokens ≤ length rest + 1 = h further (place + 1) line true tokens e in omega (arith, k)
few_piece Ends place line rest h tokens e = few_before (token End line place 1) (lexed_from 0 (place + 1) (line + 1) false rest) (length rest + 1) (h 0 (place + 1) (line + 1) false) tokens e
few_piece (Gives kind further) place line rest h tokens e = few_before (token kind line place (further + 1)) (lexed_from further (place + 1) line true rest) (length rest + 1) (h further (place + 1) line true) tokens e
few_piece (Bad further) place line rest h tokens e = absurd cc
few_piece TooLarge place line rest h tokens e = absurd cc

few_from : (rest : List ℕ) (left place line : ℕ) (begun : Bool) → FewTokens (lexed_from left place line begun rest) (length rest + 1)
unfolding FewTokens
few_from [] left place line begun tokens e = few_last begun place line tokens e
few_from (byte ∷ rest) zero place line begun tokens e = let k : length tokens ≤ length rest + 1 + 1 = few_piece (piece_at byte rest) place line rest (few_from rest) tokens (sym (lexed_from-cons place line byte begun rest) ∙ e) in omega (arith, k)
few_from (byte ∷ rest) (suc left) place line begun tokens e = let k : length tokens ≤ length rest + 1 = few_from rest left (place + 1) line true tokens e in omega (arith, k)

-- a text has at most one token more than bytes
pub token_count : (text : List ℕ) (tokens : List Token) → lexed text ≡ Tokens tokens → length tokens ≤ length text + 1
unfolding FewTokens lexed
token_count text tokens e = few_from text 0 0 1 false tokens e
