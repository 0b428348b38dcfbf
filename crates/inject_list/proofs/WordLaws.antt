-- The words of an interrupt, one after the other.
use Rattle.std.proofs.Common.{◌≡◌, ℕ, suc, ◌+◌, ◌≤◌, ◌<◌, List, [], ◌∷◌, ◌++◌, length, take, drop, get_or, ◌-◌, false, refl, sym, ap, ◌∙◌, arith, append_assoc, append-nil, length-append}
use Rattle.std.proofs.lemmas.Bool.Decides.{nat_tests}
use Rattle.std.proofs.lemmas.List.{take_all}
use Rattle.std.specs.Prelude.{Option, Some, None, nat_lt}
use Rattle.std.specs.Option.{option_map}
use Rattle.text_lex.specs.declared.Token.{Token}
use Rattle.inject_list.specs.Pieces.{Piece, Word, Number, Comma, Other, piece_of, pieces}
use Rattle.inject_list.specs.Entries.{word_of, words_of}
use Rattle.inject_list.specs.Parts.{kept, with_word, word_behind}
use Rattle.inject_list.specs.declared.words.Words.{Words}

-- the words that are kept once those of more pieces have come
abbrev pub kept_after : Words → List Piece → Option Words
kept_after w [] = Some w
kept_after w (Comma ∷ Number value ∷ ps) = kept_after (with_word w (word_of value)) ps
kept_after w _ = None

-- what is kept once a first comma and a first number have come, if they are these
abbrev pub kept_more : Words → Option ℕ → List Piece → Option Words
kept_more w None ps = None
kept_more w (Some word) ps = kept_after (with_word w word) ps

-- one more of few words is written in its place, and one more of many is not kept
with_word-kept : (words : List ℕ) (word : ℕ) → with_word (kept words) word ≡ kept (words ++ word ∷ [])
with_word-kept [] word = refl
with_word-kept (a ∷ []) word = refl
with_word-kept (a ∷ b ∷ []) word = refl
with_word-kept (a ∷ b ∷ c ∷ []) word = refl
with_word-kept (a ∷ b ∷ c ∷ d ∷ words) word =
    let many : nat_lt (suc (suc (suc (suc (length words))))) 4 ≡ false = grind (arith, nat_tests) in
    let count : suc (suc (suc (suc (length words)))) + 1 ≡ suc (suc (suc (suc (length (words ++ word ∷ []))))) = omega (arith, length-append words (word ∷ [])) in
    rw (many, count) refl

-- a word in front of more, or behind those before
behind : (words : List ℕ) (word : ℕ) (o : Option (List ℕ)) → option_map (λ (more : List ℕ). kept ((words ++ word ∷ []) ++ more)) o ≡ option_map (λ (more : List ℕ). kept (words ++ more)) (option_map (λ (more : List ℕ). word ∷ more) o)
behind words word None = refl
behind words word (Some more) = ap (λ (ws : List ℕ). Some (kept ws)) (append_assoc words (word ∷ []) more)

-- words that are kept, and then those of more pieces
kept_after-kept : (words : List ℕ) (ps : List Piece) → kept_after (kept words) ps ≡ option_map (λ more. kept (words ++ more)) (words_of ps)
kept_after-kept words [] = ap (λ (ws : List ℕ). Some (kept ws)) (sym (append-nil words))
kept_after-kept words (Comma ∷ Number value ∷ ps) =
    ap (λ (w : Words). kept_after w ps) (with_word-kept words (word_of value))
    ∙ (kept_after-kept (words ++ word_of value ∷ []) ps ∙ behind words (word_of value) (words_of ps))
kept_after-kept words _ = refl

-- two pieces more
pub kept_after-pair : (w : Words) (p q : Piece) (ps : List Piece) → kept_after w (p ∷ q ∷ ps) ≡ kept_more w (word_behind p q) ps
kept_after-pair w Comma (Number value) ps = refl
kept_after-pair w Comma (Word name) ps = refl
kept_after-pair w Comma Comma ps = refl
kept_after-pair w Comma Other ps = refl
kept_after-pair w (Word name) q ps = refl
kept_after-pair w (Number value) q ps = refl
kept_after-pair w Other q ps = refl

-- all the words of a line
pub words_kept : (ps : List Piece) → kept_after (record { first = 0 ∷ 0 ∷ 0 ∷ 0 ∷ []; count = 0 }) ps ≡ option_map kept (words_of ps)
words_kept ps = kept_after-kept [] ps

-- the first two tokens and those behind them
pub two_pieces : (text : List ℕ) (ts : List Token) (d : Token) → 2 ≤ length ts → pieces text ts ≡ piece_of text (get_or ts 0 d) ∷ piece_of text (get_or ts 1 d) ∷ pieces text (take (length ts - 2) (drop 2 ts))
two_pieces text [] d h = absurd (omega (arith, h))
two_pieces text (a ∷ []) d h = absurd (omega (arith, h))
two_pieces text (a ∷ b ∷ ts) d h =
    let count : suc (suc (length ts)) - 2 ≡ length ts = omega arith in
    let all : take (suc (suc (length ts)) - 2) ts ≡ ts = ap (λ (n : ℕ). take n ts) count ∙ take_all (length ts) ts (omega arith) in
    ap (λ (xs : List Token). piece_of text a ∷ piece_of text b ∷ pieces text xs) (sym all)

module _ (text : List ℕ) (ts : List Token) (d : Token) (w : Words) (word : Option ℕ) (some : 2 ≤ length ts) (reads : word ≡ word_behind (piece_of text (get_or ts 0 d)) (piece_of text (get_or ts 1 d))) where
  -- the first two tokens of more
  pub kept_step : kept_more w word (pieces text (take (length ts - 2) (drop 2 ts))) ≡ kept_after w (pieces text ts)
  kept_step =
      let rest = pieces text (take (length ts - 2) (drop 2 ts)) in
      ap (λ (o : Option ℕ). kept_more w o rest) reads
      ∙ (sym (kept_after-pair w (piece_of text (get_or ts 0 d)) (piece_of text (get_or ts 1 d)) rest) ∙ ap (kept_after w) (sym (two_pieces text ts d some)))

alone : (w : Words) (p : Piece) → kept_after w (p ∷ []) ≡ None
alone w (Word name) = refl
alone w (Number value) = refl
alone w Comma = refl
alone w Other = refl

-- one token alone
pub kept_none : (text : List ℕ) (ts : List Token) (w : Words) → 1 ≤ length ts → length ts < 2 → kept_after w (pieces text ts) ≡ None
kept_none text [] w h k = absurd (omega (arith, h))
kept_none text (t ∷ []) w h k = alone w (piece_of text t)
kept_none text (t ∷ u ∷ ts) w h k = absurd (omega (arith, k))

-- no token
pub kept_all : (text : List ℕ) (ts : List Token) (w : Words) → length ts ≤ 0 → kept_after w (pieces text ts) ≡ Some w
kept_all text [] w h = refl
kept_all text (t ∷ ts) w h = absurd (omega (arith, h))
