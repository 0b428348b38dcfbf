-- What is kept of the parts of a line.
use Rattle.std.specs.Prelude.{ℕ, pos, ◌+◌, nat_lt, List, ◌++◌, length, take, replicate, set, Bool, not, Option, Some, None, if◌then◌else◌}
use Rattle.text_lex.specs.declared.Token.{Token}
use Rattle.inject_list.specs.Pieces.{Piece, Number, Comma, is_end}
use Rattle.inject_list.specs.Entries.{word_of}
use Rattle.inject_list.specs.declared.words.Words.{Words}

-- the number that a piece is, if it is one that is not negative
abbrev pub natural_in : Piece → Option ℕ
natural_in (Number (pos n)) = Some n
natural_in _ = None

-- the first four words, with 0 where there are fewer, and how many there are
abbrev pub kept : List ℕ → Words
kept words = record { first = take 4 (words ++ replicate 4 0); count = length words }

-- the words with one more
abbrev pub with_word : Words → ℕ → Words
with_word w word = record { first = if nat_lt w.count 4 then set w.first w.count word else w.first; count = w.count + 1 }

-- the word that a number behind a comma is
abbrev pub word_behind : Piece → Piece → Option ℕ
word_behind Comma (Number value) = Some (word_of value)
word_behind _ _ = None

-- a token of a line, and not the one that ends it
abbrev pub is_before_end : Token → Bool
is_before_end t = not (is_end t.kind)
