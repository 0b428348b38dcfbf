use Rattle.std.proofs.Common.{◌≡◌, ◌-◌, suc, ◌∙◌, sym, ap, subst, get_or, set, arith}
use Rattle.kern_model.specs.State.{Content, Count}
use Rattle.kern_model.specs.Several.{polled, taken_from}
use Rattle.pend_multi.specs.Polls.{IsSeen}
use Rattle.pend_multi.proofs.Counts.{counts_seen, held, seen-left}
use Rattle.pend_multi.proofs.tests.CountsPollable.poll.Goals as goal

pub returns-then-count-eq0-clause-value : goal.returns-then-count-eq0-clause-value
returns-then-count-eq0-clause-value c = λ k seen.
    sym (ap polled (held k c.args.self.now.counts c.args.obj.0 seen ∙ ap (λ n. Count n) c.if-count-eq0.true))

pub returns-then-count-eq0-clause-left : goal.returns-then-count-eq0-clause-left
returns-then-count-eq0-clause-left c = λ k seen.
    let counts = c.args.self.now.counts in
    let o = c.args.obj.0 in
    subst (λ (b : Content). IsSeen (taken_from o b k) (counts_seen counts)) (sym (held k counts o seen ∙ ap (λ n. Count n) c.if-count-eq0.true)) seen

pub returns-clause-value : goal.returns-clause-value
returns-clause-value c = λ k seen.
    let n = get_or c.args.self.now.counts c.args.obj.0 0 in
    let more : n ≡ suc (n - 1) = omega arith in
    sym (ap polled (held k c.args.self.now.counts c.args.obj.0 seen ∙ ap (λ m. Count m) more))

pub returns-clause-left : goal.returns-clause-left
returns-clause-left c = λ k seen.
    let counts = c.args.self.now.counts in
    let o = c.args.obj.0 in
    let n = get_or counts o 0 in
    let more : n ≡ suc (n - 1) = omega arith in
    subst (λ (b : Content). IsSeen (taken_from o b k) (counts_seen (set counts o (n - 1)))) (sym (held k counts o seen ∙ ap (λ m. Count m) more)) (seen-left k counts o (n - 1) seen)
