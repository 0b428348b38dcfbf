-- How long the text of a generated case is at most.
use Rattle.std.specs.Prelude.{if◌then◌else◌, ◌==◌, codes, decimal}
use Rattle.std.proofs.Common.{◌≡◌, ◌≤◌, ◌<◌, ◌+◌, ◌*◌, ◌^◌, ℕ, zero, suc, Bool, true, false, List, [], ◌∷◌, ◌++◌, length, refl, sym, arith, ap, ◌∙◌, append_assoc, length-append}
use Rattle.std.proofs.lemmas.Fmt.{length-decimal-le}
use Rattle.program_model.specs.Application.{application}
use Rattle.program_model.specs.Draws.{after, drawn}
use Rattle.program_model.specs.Generated.{Drawing, generated, interrupt_line, interrupt_lines, reading_line, text_of, tick_line}
use Rattle.program_model.specs.Limits.{longest_input, most_lines}

short_tick : (moment : ℕ) → moment < 10 ^ 10 → length (tick_line moment) ≤ 39
short_tick moment p =
    let digits = length-decimal-le 10 moment (omega arith) p (omega (arith, p)) in
    omega (arith, length-append (codes "task ") (decimal moment ++ codes ", 1"), length-append (decimal moment) (codes ", 1"), digits)

short_reading : (moment reading : ℕ) → moment < 10 ^ 10 → reading < 10 ^ 10 → length (reading_line moment reading) ≤ 39
short_reading moment reading p q =
    let digits = length-decimal-le 10 moment (omega arith) p (omega (arith, p)) in
    let more = length-decimal-le 10 reading (omega arith) q (omega (arith, q)) in
    omega (
      arith,
      length-append (decimal moment) (codes ", 2, 0, " ++ (decimal reading ++ codes ", 4, 0")),
      length-append (decimal reading) (codes ", 4, 0"),
      digits,
      more,
    )

either_short : (b : Bool) (tick reading : Drawing) → length tick.line ≤ 39 → length reading.line ≤ 39 → length (if◌then◌else◌ {A = Drawing} b tick reading).line ≤ 39
either_short true tick reading p q = p
either_short false tick reading p q = q

-- a line of interrupts
short_line : (number x : ℕ) → number ≤ 40000 → length (interrupt_line number x).line ≤ 39
short_line number x p =
    let first = after x in
    let second = after first in
    let third = after second in
    let moment = 40 * number + drawn first 20 in
    let low : drawn first 20 < 20 = omega arith in
    let reads : drawn third 1000 < 1000 = omega arith in
    either_short (drawn second 4 == 0) (record { line = tick_line moment; last = second }) (record { line = reading_line moment (drawn third 1000); last = third }) (short_tick moment (omega (arith, low, p)))
    (short_reading moment (drawn third 1000) (omega (arith, low, p)) (omega (arith, reads)))

short_lines : (count number x : ℕ) → count + number ≤ 40000 → length (text_of (interrupt_lines count number x)) ≤ 40 * count
short_lines zero number x p = omega arith
short_lines (suc count) number x p =
    let d = interrupt_line number x in
    let rest = short_lines count (number + 1) d.last (omega (arith, p)) in
    omega (
      arith,
      length-append (d.line ++ 10 ∷ []) (text_of (interrupt_lines count (number + 1) d.last)),
      length-append d.line (10 ∷ []),
      short_line number x (omega (arith, p)),
      rest,
    )

text_more : (lines more : List (List ℕ)) → text_of (lines ++ more) ≡ text_of lines ++ text_of more
text_more [] more = refl
text_more (line ∷ lines) more =
    ap (λ l. (line ++ 10 ∷ []) ++ l) (text_more lines more) ∙ sym (append_assoc (line ++ 10 ∷ []) (text_of lines) (text_of more))

-- a generated case is no longer than what is read
pub short_generated : (seed size : ℕ) → size ≤ most_lines → length (generated seed size) ≤ longest_input
unfolding generated
short_generated seed size p =
    let lines = codes ".inject" ∷ interrupt_lines size 1 seed in
    let front : length (text_of application) ≡ 662 = refl in
    let rest = short_lines size 1 seed (omega (arith, p)) in
    omega (
      arith,
      ap length (text_more application lines),
      length-append (text_of application) (text_of lines),
      front,
      rest,
    )
