-- the bytes of the words that were passed
use Rattle.std.proofs.Common.{◌≡◌, ◌+◌, ◌*◌, ◌++◌, take}
use Rattle.arrayvec.specs.ArrayVec.{array_vec_len}
use Rattle.app_image.specs.Layout.{words_bytes}
use Rattle.app_image.proofs.writing.push_words.Given as goal

abbrev pub invariant-loop-word : goal.invariant-loop-word
invariant-loop-word l = record {
  items : l.piece.items ≡ l.initial.piece.items ++ words_bytes (take l.word-index l.words);
  len : array_vec_len l.piece ≡ array_vec_len l.initial.piece + 4 * l.word-index;
}
