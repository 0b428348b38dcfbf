-- The line that refuses a case, read again.
use Rattle.std.proofs.Common.{◌≡◌, ℕ, ◌+◌, ◌^◌, ◌<◌, ◌≤◌, nat_le, List, [], ◌∷◌, ◌++◌, length, get_or, take, drop, append_assoc, append-nil, false, codes, decimal, refl, sym, ap, ◌∙◌, arith}
use Rattle.std.proofs.Math.Seq.{drop-append-add}
use Rattle.std.proofs.lemmas.Bool.{le-leb, lt-leb}
use Rattle.std.proofs.lemmas.List.{drop_more, take_more}
use Rattle.std.proofs.lemmas.Fmt.{decimal_is_IsNumeral}
use Rattle.std.proofs.lemmas.Str.Parse.{digit_from_value}
use Rattle.std.specs.Fmt.{digits}
use Rattle.std.specs.Str.Parse.{AllDigits}
use Rattle.program_model.specs.declared.causes.CaseCause.{CaseCause}
use Rattle.program_model.specs.declared.causes.CaseCause.TheVariants.{OfExecutable, BadByte, NumberTooLarge, OfText, OfImage, OfInjection}
use Rattle.elf_reader.specs.declared.causes.ElfCause.TheVariants as executable
use Rattle.asm_causes.specs.declared.causes.AsmCause.TheVariants as asm
use Rattle.app_image.specs.declared.causes.ImageCause.TheVariants as image
use Rattle.inject_list.specs.declared.causes.InjectCause.TheVariants as inject
use Rattle.program_model.specs.Refusals.{letter, number, refusal_line}
use Rattle.diagnostics.specs.Messages.{cause_name, message, refusal_message, word}

-- digits before a blank are a word
digits_word : (ds rest : List ℕ) → AllDigits 10 ds → word (ds ++ 32 ∷ rest) ≡ ds
digits_word [] rest all = refl
digits_word (d ∷ ds) rest all =
    let range = digit_from_value d all.0 in
    let above : nat_le d 32 ≡ false = lt-leb d 32 (omega (arith, range.0)) in
    rw above (ap (λ l. d ∷ l) (digits_word ds rest all.1))

-- one byte more of a word, and its end
pub word_more : (bytes : List ℕ) (k : ℕ) → k < length bytes → 32 < get_or bytes k 0
    → word bytes ≡ take k bytes ++ word (drop k bytes) → word bytes ≡ take (k + 1) bytes ++ word (drop (k + 1) bytes)
word_more bytes k within above e =
    let at = drop_more bytes k 0 within in
    let byte = get_or bytes k 0 in
    let stays : word (byte ∷ drop (k + 1) bytes) ≡ byte ∷ word (drop (k + 1) bytes) = rw (lt-leb byte 32 above) refl in
    e ∙ ap (λ l. take k bytes ++ word l) at ∙ ap (λ l. take k bytes ++ l) stays
    ∙ sym (append_assoc (take k bytes) (byte ∷ []) (word (drop (k + 1) bytes)))
    ∙ ap (λ l. l ++ word (drop (k + 1) bytes)) (sym (take_more bytes k 0 within))

pub word_ends : (bytes : List ℕ) (k : ℕ) → k < length bytes → get_or bytes k 0 ≤ 32
    → word bytes ≡ take k bytes ++ word (drop k bytes) → take k bytes ≡ word bytes
word_ends bytes k within below e =
    let at = drop_more bytes k 0 within in
    let byte = get_or bytes k 0 in
    let ends : word (byte ∷ drop (k + 1) bytes) ≡ [] = rw (le-leb byte 32 below) refl in
    sym (e ∙ ap (λ l. take k bytes ++ word l) at ∙ ap (λ l. take k bytes ++ l) ends ∙ append-nil (take k bytes))

-- the name of a cause before a line feed is a word
name_word : (cause : CaseCause) → word (letter cause ++ (decimal (number cause) ++ codes "\n")) ≡ cause_name cause
unfolding digits
name_word (OfExecutable executable.Header) = refl
name_word (OfExecutable executable.Range) = refl
name_word (OfExecutable executable.Place) = refl
name_word (OfExecutable executable.Overlap) = refl
name_word (OfExecutable executable.SymbolTable) = refl
name_word BadByte = refl
name_word NumberTooLarge = refl
name_word (OfText asm.UnknownStatement) = refl
name_word (OfText asm.WrongForm) = refl
name_word (OfText asm.NoRegister) = refl
name_word (OfText asm.ConstantRange) = refl
name_word (OfText asm.DefinedTwice) = refl
name_word (OfText asm.Undefined) = refl
name_word (OfText asm.WrongKind) = refl
name_word (OfText asm.WrongSection) = refl
name_word (OfText asm.TargetRange) = refl
name_word (OfText asm.CodeFull) = refl
name_word (OfText asm.RamFull) = refl
name_word (OfText asm.LongName) = refl
name_word (OfText asm.UnknownSetting) = refl
name_word (OfText asm.TooMany) = refl
name_word (OfImage image.NoTask) = refl
name_word (OfImage image.TaskPriority) = refl
name_word (OfImage image.CodeAddress) = refl
name_word (OfImage image.StackPointer) = refl
name_word (OfImage image.Quantum) = refl
name_word (OfImage image.TaskQueueSize) = refl
name_word (OfImage image.QueueSize) = refl
name_word (OfImage image.VectorNumber) = refl
name_word (OfImage image.VectorTwice) = refl
name_word (OfImage image.VectorLevel) = refl
name_word (OfImage image.TimerTime) = refl
name_word (OfImage image.SettingRange) = refl
name_word (OfImage image.SettingTwice) = refl
name_word (OfImage image.NoCode) = refl
name_word (OfImage image.BadName) = refl
name_word (OfImage image.Layout) = refl
name_word (OfInjection inject.WrongForm) = refl
name_word (OfInjection inject.NoVector) = refl
name_word (OfInjection inject.TooManyWords) = refl
name_word (OfInjection inject.TooMany) = refl
name_word (OfInjection inject.NoList) = refl
name_word (OfInjection inject.LateMoment) = refl

-- what stands behind the number of the line
abbrev behind_line : CaseCause → List ℕ
behind_line cause = codes " " ++ (letter cause ++ (decimal (number cause) ++ codes "\n"))

line_word : (line : ℕ) (cause : CaseCause) → line < 2 ^ 32 → word (drop 8 (refusal_line line cause)) ≡ decimal line
unfolding refusal_line
line_word line cause small = digits_word (decimal line) (letter cause ++ (decimal (number cause) ++ codes "\n")) (decimal_is_IsNumeral line (omega (arith, small))).0.1

cause_word : (line : ℕ) (cause : CaseCause) (front : ℕ) → front ≡ 8 + (length (decimal line) + 1) → word (drop front (refusal_line line cause)) ≡ cause_name cause
unfolding refusal_line
cause_word line cause front at =
    ap (λ n. word (drop n (refusal_line line cause))) at
    ∙ ap word (drop-append-add (codes "refused ") (decimal line ++ behind_line cause) (length (decimal line) + 1))
    ∙ ap word (drop-append-add (decimal line) (behind_line cause) 1)
    ∙ name_word cause

-- the message of the two words of a refusal is that of its line and its cause
pub told : (refusal : List ℕ) (line : ℕ) (cause : CaseCause) → line < 2 ^ 32 → refusal ≡ refusal_line line cause
    → message (word (drop 8 refusal)) (word (drop (8 + length (word (drop 8 refusal)) + 1) refusal)) ≡ refusal_message line cause
told refusal line cause small e =
    let front = 8 + length (word (drop 8 refusal)) + 1 in
    let first : word (drop 8 refusal) ≡ decimal line = ap (λ r. word (drop 8 r)) e ∙ line_word line cause small in
    let len : length (word (drop 8 refusal)) ≡ length (decimal line) = ap length first in
    let at : front ≡ 8 + (length (decimal line) + 1) = omega (arith, len) in
    let second : word (drop front refusal) ≡ cause_name cause = ap (λ r. word (drop front r)) e ∙ cause_word line cause front at in
    ap (λ w. message w (word (drop front refusal))) first ∙ ap (message (decimal line)) second
