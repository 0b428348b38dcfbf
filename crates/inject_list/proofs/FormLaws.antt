-- The forms of a line, by its first pieces.
use Rattle.std.proofs.Common.{◌≡◌, ℕ, suc, ◌-◌, ◌≤◌, ◌<◌, List, [], ◌∷◌, length, take, drop, get_or, refl, sym, ap, ◌∙◌, arith}
use Rattle.std.specs.Prelude.{pos, negsuc, Option, Some, None}
use Rattle.std.specs.Option.{option_map}
use Rattle.std.proofs.lemmas.List.{take_all}
use Rattle.text_lex.specs.Tokens.{bytes_of}
use Rattle.text_lex.specs.declared.Token.{Token}
use Rattle.text_lex.specs.declared.TokenKind.TheVariants.{Name, Comma as CommaSign}
use Rattle.inject_list.specs.Pieces.{Piece, Word, Number, Comma, Other, piece_with, piece_of, pieces}
use Rattle.inject_list.specs.Entries.{Interrupt, Looks, AtPriority, words_of, interrupt_form, look_form, form, entry_of}
use Rattle.inject_list.specs.Parts.{kept, natural_in}
use Rattle.inject_list.specs.declared.lists.Moment.{Moment}
use Rattle.inject_list.specs.declared.words.Words.{Words}

-- The pieces of tokens.

taken : (n : ℕ) (ts : List Token) → n ≡ length ts → take n ts ≡ ts
taken n ts e = take_all n ts (omega (arith, e))

-- a first token and those behind it
pub one_piece : (text : List ℕ) (ts : List Token) (d : Token) → 1 ≤ length ts → pieces text ts ≡ piece_of text (get_or ts 0 d) ∷ pieces text (take (length ts - 1) (drop 1 ts))
one_piece text [] d h = absurd (omega (arith, h))
one_piece text (a ∷ ts) d h = ap (λ (xs : List Token). piece_of text a ∷ pieces text xs) (sym (taken (suc (length ts) - 1) ts (omega arith)))

-- one token alone
pub lone_piece : (text : List ℕ) (ts : List Token) (d : Token) → 1 ≤ length ts → length ts < 2 → pieces text ts ≡ piece_of text (get_or ts 0 d) ∷ []
lone_piece text [] d h k = absurd (omega (arith, h))
lone_piece text (a ∷ []) d h k = refl
lone_piece text (a ∷ b ∷ ts) d h k = absurd (omega (arith, k))

-- three tokens and those behind them
pub three_pieces : (text : List ℕ) (ts : List Token) (d : Token) → 3 ≤ length ts → pieces text ts ≡ piece_of text (get_or ts 0 d) ∷ piece_of text (get_or ts 1 d) ∷ piece_of text (get_or ts 2 d) ∷ pieces text (take (length ts - 3) (drop 3 ts))
three_pieces text [] d h = absurd (omega (arith, h))
three_pieces text (a ∷ []) d h = absurd (omega (arith, h))
three_pieces text (a ∷ b ∷ []) d h = absurd (omega (arith, h))
three_pieces text (a ∷ b ∷ c ∷ ts) d h = ap (λ (xs : List Token). piece_of text a ∷ piece_of text b ∷ piece_of text c ∷ pieces text xs) (sym (taken (suc (suc (suc (length ts))) - 3) ts (omega arith)))

-- Forms.

-- a look at a priority
pub look_prio : (at prio : ℕ) (p : Piece) → Some prio ≡ natural_in p → look_form at (p ∷ []) ≡ Some (Looks at (AtPriority prio))
look_prio at prio (Number (pos n)) e = cc
look_prio at prio (Number (negsuc n)) e = cc
look_prio at prio (Word name) e = cc
look_prio at prio Comma e = cc
look_prio at prio Other e = cc

-- an interrupt with a vector and words
pub interrupt_some : (moment : Moment) (vector : ℕ) (words : List ℕ) (p : Piece) (ps : List Piece) → Some vector ≡ natural_in p → words_of ps ≡ Some words → interrupt_form moment (p ∷ ps) ≡ Some (Interrupt moment vector words)
interrupt_some moment vector words (Number (pos n)) ps e f =
    let same : n ≡ vector = cc in
    ap (option_map (Interrupt moment n)) f ∙ ap (λ (v : ℕ). Some (Interrupt moment v words)) same
interrupt_some moment vector words (Number (negsuc n)) ps e f = cc
interrupt_some moment vector words (Word name) ps e f = cc
interrupt_some moment vector words Comma ps e f = cc
interrupt_some moment vector words Other ps e f = cc

-- without a vector
pub interrupt_no_vector : (moment : Moment) (p : Piece) (ps : List Piece) → None ≡ natural_in p → interrupt_form moment (p ∷ ps) ≡ None
interrupt_no_vector moment (Number (pos n)) ps e = cc
interrupt_no_vector moment (Number (negsuc n)) ps e = refl
interrupt_no_vector moment (Word name) ps e = refl
interrupt_no_vector moment Comma ps e = refl
interrupt_no_vector moment Other ps e = refl

-- without words
pub interrupt_no_words : (moment : Moment) (p : Piece) (ps : List Piece) → words_of ps ≡ None → interrupt_form moment (p ∷ ps) ≡ None
interrupt_no_words moment (Number (pos n)) ps f = ap (option_map (Interrupt moment n)) f
interrupt_no_words moment (Number (negsuc n)) ps f = refl
interrupt_no_words moment (Word name) ps f = refl
interrupt_no_words moment Comma ps f = refl
interrupt_no_words moment Other ps f = refl

-- the words that are kept
pub words_from : (o : Option (List ℕ)) (w : Words) → Some w ≡ option_map kept o → (all : List ℕ) × (o ≡ Some all) × (w ≡ kept all)
words_from None w e = absurd cc
words_from (Some all) w e = (all, refl, cc)

pub no_words_from : (o : Option (List ℕ)) → None ≡ option_map kept o → o ≡ None
no_words_from None e = refl
no_words_from (Some all) e = cc

-- a line with a first word, a moment and a comma
pub entry_with : (name : List ℕ) (at : ℕ) (p : Piece) (ps : List Piece) → Some at ≡ natural_in p → entry_of (Word name ∷ p ∷ Comma ∷ ps) ≡ form name at ps
entry_with name at (Number (pos n)) ps e = let same : n ≡ at = cc in ap (λ (m : ℕ). form name m ps) same
entry_with name at (Number (negsuc n)) ps e = cc
entry_with name at (Word other) ps e = cc
entry_with name at Comma ps e = cc
entry_with name at Other ps e = cc

-- a line without a moment
pub entry_without : (w p : Piece) (ps : List Piece) → None ≡ natural_in p → entry_of (w ∷ p ∷ ps) ≡ None
entry_without (Word name) (Number (pos n)) ps e = cc
entry_without (Word name) (Number (negsuc n)) ps e = refl
entry_without (Word name) (Word other) ps e = refl
entry_without (Word name) Comma ps e = refl
entry_without (Word name) Other ps e = refl
entry_without (Number value) p ps e = refl
entry_without Comma p ps e = refl
entry_without Other p ps e = refl

module _ (text : List ℕ) (ts : List Token) (d : Token) (some : 3 ≤ length ts) where
  -- a line of tokens with a first word, a moment and a comma
  pub entry_line : (at : ℕ) → (get_or ts 0 d).kind ≡ Name → (get_or ts 2 d).kind ≡ CommaSign → Some at ≡ natural_in (piece_of text (get_or ts 1 d)) → entry_of (pieces text ts) ≡ form (bytes_of text (get_or ts 0 d)) at (pieces text (take (length ts - 3) (drop 3 ts)))
  entry_line at word comma moment =
      let rest = pieces text (take (length ts - 3) (drop 3 ts)) in
      let name = bytes_of text (get_or ts 0 d) in
      let first : piece_of text (get_or ts 0 d) ≡ Word name = ap (piece_with name) word in
      let third : piece_of text (get_or ts 2 d) ≡ Comma = ap (piece_with (bytes_of text (get_or ts 2 d))) comma in
      ap entry_of (three_pieces text ts d some)
      ∙ (ap (λ (p : Piece). entry_of (p ∷ piece_of text (get_or ts 1 d) ∷ piece_of text (get_or ts 2 d) ∷ rest)) first
      ∙ (ap (λ (p : Piece). entry_of (Word name ∷ piece_of text (get_or ts 1 d) ∷ p ∷ rest)) third ∙ entry_with name at (piece_of text (get_or ts 1 d)) rest moment))

  pub entry_line_without : None ≡ natural_in (piece_of text (get_or ts 1 d)) → entry_of (pieces text ts) ≡ None
  entry_line_without moment =
      ap entry_of (three_pieces text ts d some)
      ∙ entry_without (piece_of text (get_or ts 0 d)) (piece_of text (get_or ts 1 d)) (piece_of text (get_or ts 2 d) ∷ pieces text (take (length ts - 3) (drop 3 ts))) moment
