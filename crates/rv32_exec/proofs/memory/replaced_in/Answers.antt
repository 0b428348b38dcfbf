use Rattle.std.proofs.Common.{rules}
use Rattle.rv32_exec.proofs.Places.{replaces}
use Rattle.rv32_exec.proofs.memory.replaced_in.Goals as goal

pub overflow_cast-result-3 : goal.overflow_cast-result-3
overflow_cast-result-3 c =
    let r = replaces c.args.word c.args.place c.args.width c.args.value c.ranges.word.fits c.requires.width c.requires.inside c.requires.fits in
    rw (c.from-word.ensures, c.from-value.ensures) (search (rules, r.fits))

pub returns : goal.returns
returns c =
    let r = replaces c.args.word c.args.place c.args.width c.args.value c.ranges.word.fits c.requires.width c.requires.inside c.requires.fits in
    rw (c.from-word.ensures, c.from-value.ensures) r.same
