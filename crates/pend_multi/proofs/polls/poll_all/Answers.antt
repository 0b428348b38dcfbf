use Rattle.std.proofs.Common.{◌∙◌, ◌++◌, ◌∷◌, [], sym, ap, subst, length-set, take, get_or, get_or-set_other, None, arith}
use Rattle.std.proofs.lemmas.List.{take_more}
use Rattle.kern_model.specs.State.{Kernel}
use Rattle.kern_model.specs.Several.{polled, polls, taken_all}
use Rattle.pend_multi.specs.Polls.{IsSeen}
use Rattle.pend_multi.specs.Takes.{message_of}
use Rattle.pend_multi.proofs.Numbers.{not-before}
use Rattle.pend_multi.proofs.Taking.{others-taken, taken-push, polls-more, messages-more}
use Rattle.pend_multi.proofs.polls.poll_all.Goals as goal

pub loop-index-preserved : goal.loop-index-preserved
loop-index-preserved g c =
    let ids = c.args.ids.now in
    let out = c.loop-index.polled in
    let i = c.loop-index.index in
    let o = get_or ids i 0 in
    let inv = c.loop-index.invariant in
    let h = c.loop-index-test.true in
    let few = c.requires.ids.few in
    let long = inv.2 in (
      c.poll.ensures.valid,
      g.met.P.Pollable.rest_later _ _ _ inv.1 c.poll.ensures.rest,
      length-set out i c.poll.result ∙ long,
      λ j from. get_or-set_other out i j c.poll.result None (λ e. absurd (omega (arith, e))) ∙ inv.3 j (omega arith),
      λ k seen.
          let before = inv.5 k seen in
          let here = c.poll.ensures.value (taken_all (take i ids) k) before in
          let same = others-taken (take i ids) o k (not-before ids i c.requires.ids.different h) in
          messages-more out i c.poll.result (omega arith) ∙ ap (λ xs. xs ++ message_of c.poll.result ∷ []) (inv.4 k seen)
          ∙ ap (λ m. polls (take i ids) k ++ m ∷ []) (here ∙ ap (λ b. polled b.content) same) ∙ sym (polls-more ids i k h),
      λ k seen.
          let left = c.poll.ensures.left (taken_all (take i ids) k) (inv.5 k seen) in
          subst (λ (j : Kernel). IsSeen j (g.P.Pollable.seen c.poll.new.self)) (sym (ap (λ os. taken_all os k) (take_more ids i 0 h) ∙ taken-push (take i ids) o k)) left,
    )
