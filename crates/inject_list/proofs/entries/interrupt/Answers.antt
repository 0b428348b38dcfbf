-- a declared vector is small enough, and an interrupt without a cause gives its four words
use Rattle.std.proofs.Common.{◌≡◌, ◌≤◌, ◌<◌, length, true, ap, refl, sym, ◌∙◌, arith}
use Rattle.std.proofs.lemmas.Bool.Decides.{nat_tests}
use Rattle.inject_list.specs.Lists.{is_declared}
use Rattle.inject_list.specs.Reading.{entries, four_words}
use Rattle.inject_list.specs.Given.{moment_at}
use Rattle.inject_list.specs.declared.words.Words.{Words}
use Rattle.inject_list.proofs.GivenLaws.{declared_small, kept_whole, in_time, interrupt_free}
use Rattle.inject_list.proofs.entries.interrupt.Goals as goal

pub overflow_cast-result : goal.overflow_cast-result
overflow_cast-result c =
    let declared : is_declared c.vectors.result.now c.args.vector ≡ true = grind (arith, nat_tests, c.is_declared.ensures, c.if-not-is_declared.false) in
    let small : c.args.vector ≤ 31 = declared_small (length c.args.image.now.code) c.args.image.now.vectors c.args.vector c.vectors.ensures.valid.vectors (rw c.vectors.ensures.value at declared) in
    omega (arith, small)

pub returns : goal.returns
returns c = λ all kept_so l count.
    let declared : is_declared c.vectors.result.now c.args.vector ≡ true = grind (arith, nat_tests, c.is_declared.ensures, c.if-not-is_declared.false) in
    let many : c.args.words.count ≡ length all = ap (λ (w : Words). w.count) kept_so in
    let few : length all ≤ 4 = omega (arith, many, c.if-words-gt4.false) in
    let whole : c.args.words.first ≡ four_words all = ap (λ (w : Words). w.first) kept_so ∙ kept_whole all few in
    let early = in_time c.args.when c.in-Some.moment c.args.vector all (sym c.in-Some.ensures) in
    let room : entries l < 16384 = omega (arith, count, c.if-before-ge-MOST_ENTRIES.false) in
    (interrupt_free c.args.image.now l (moment_at c.args.when) c.args.vector all (rw c.vectors.ensures.value at declared) few room early.0, rw (early.1, whole, many) refl)
