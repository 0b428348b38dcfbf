use Rattle.std.proofs.Common.{◌≡◌, ℕ, List, Option, Bool, ◌<◌, ◌+◌, sym, ap, ◌∙◌, subst, Some, None, inl, inr, true, false}
use Rattle.kern_base.specs.declared.services.Service.{Service}
use Rattle.kern_base.specs.declared.outcomes.Outcome.{Outcome}
use Rattle.served.specs.Served.{program_serves}
use Rattle.kern_model.specs.Services.{cost, posted}
use Rattle.kernel_calls.specs.KernelRecord.{KernelRecord, ended}
use Rattle.kernel_calls.specs.Works.{IsPlainAnswer, WorkRecord, effect_of, stepped}
use Rattle.kernel_calls.proofs.PostFacts.{plain-posted}
use Rattle.kernel_calls.proofs.PostingFacts.{IsPosting, fewer-left, hand-posting, last-or-not, post_work, posting-next, state-posting}
use Rattle.kernel_calls.proofs.kernels.Kernel.post_now.Goals as goal

pub loop-init : goal.loop-init
loop-init g c = record { done = 0; is = c.begin_take.ensures.begun; open_yet = c.begin_take.ensures.open_yet }

pub advance_into-requires : goal.advance_into-requires
advance_into-requires g c =
    let p = c.loop.invariant in
    record { busy = (post_work c.args.post.service c.args.post.args c.args.compared.0 p.done, ap (λ (k : KernelRecord). k.hand) p.is) }

module _ (last : Bool) (o : Outcome) (start now new : KernelRecord) (s : Service) (args : List ℕ) (h : ℕ) (p : IsPosting start now s args h)
    (more : (w : WorkRecord) → now.hand ≡ Some w → w.done + 1 < cost (effect_of w now.state) now.state → (last ≡ false) × (new ≡ record now { hand = Some (stepped w) }))
    (done : (w : WorkRecord) → now.hand ≡ Some w → w.done + 1 ≡ cost (effect_of w now.state) now.state → (last ≡ true) × (o ≡ (effect_of w now.state).outcome) × (new ≡ ended now w)) where
  -- a micro-step after which others are left
  stepped-post : last ≡ false → (p.done + 1 < cost (posted program_serves s args h h start.state) start.state) × (new ≡ record now { hand = Some (stepped (post_work s args h p.done)) })
  stepped-post is =
      let hand = hand-posting start now new s args h p in
      let state = state-posting start now new s args h p in
      let w = post_work s args h p.done in
      elim (last-or-not p.done (cost (posted program_serves s args h h start.state) start.state) p.open_yet) [
        | inl i ↦ (i, (more w hand (subst (λ k. p.done + 1 < cost (effect_of w k) k) (sym state) i)).1)
        | inr i ↦ absurd (let e = (done w hand (subst (λ k. p.done + 1 ≡ cost (effect_of w k) k) (sym state) i)).0 in cc)
      ]

  -- what was done is the last micro-step
  ended-post : last ≡ true → (o ≡ (posted program_serves s args h h start.state).outcome) × (new ≡ record start { state = (posted program_serves s args h h start.state).kernel; hand = None })
  ended-post is =
      let hand = hand-posting start now new s args h p in
      let state = state-posting start now new s args h p in
      let w = post_work s args h p.done in
      elim (last-or-not p.done (cost (posted program_serves s args h h start.state) start.state) p.open_yet) [
        | inl i ↦ absurd (let e = (more w hand (subst (λ k. p.done + 1 < cost (effect_of w k) k) (sym state) i)).0 in cc)
        | inr i ↦
            let all = done w hand (subst (λ k. p.done + 1 ≡ cost (effect_of w k) k) (sym state) i) in
            (all.1 ∙ ap (λ k. (effect_of w k).outcome) state, all.2 ∙ ap (λ (k : KernelRecord). ended k w) p.is)
      ]

pub loop-preserved : goal.loop-preserved
loop-preserved g c =
    let s = c.args.post.service in
    let on = stepped-post c.advance_into.result c.advance_into.new.outcome c.args.self.now c.loop.self c.advance_into.new.self s c.args.post.args c.args.compared.0 c.loop.invariant c.advance_into.ensures.more c.advance_into.ensures.done c.loop-test.true in
    posting-next c.args.self.now c.loop.self c.advance_into.new.self s c.args.post.args c.args.compared.0 c.loop.invariant on.0 on.1

pub loop-smaller : goal.loop-smaller
loop-smaller g c =
    let s = c.args.post.service in
    let on = stepped-post c.advance_into.result c.advance_into.new.outcome c.args.self.now c.loop.self c.advance_into.new.self s c.args.post.args c.args.compared.0 c.loop.invariant c.advance_into.ensures.more c.advance_into.ensures.done c.loop-test.true in
    fewer-left c.args.self.now c.loop.self c.advance_into.new.self s c.args.post.args c.args.compared.0 c.loop.invariant on.0 on.1

pub answer_of-requires : goal.answer_of-requires
answer_of-requires g c =
    let s = c.args.post.service in
    let args = c.args.post.args in
    let h = c.args.compared.0 in
    let made = ended-post c.advance_into.result c.advance_into.new.outcome c.args.self.now c.loop.self c.advance_into.new.self s args h c.loop.invariant c.advance_into.ensures.more c.advance_into.ensures.done c.loop-test.false in
    subst IsPlainAnswer (sym made.0) (plain-posted s args h h c.args.self.now.state c.args.post.posts)

pub returns-clause-answer : goal.returns-clause-answer
returns-clause-answer g c =
    let made = ended-post c.advance_into.result c.advance_into.new.outcome c.args.self.now c.loop.self c.advance_into.new.self c.args.post.service c.args.post.args c.args.compared.0 c.loop.invariant c.advance_into.ensures.more c.advance_into.ensures.done c.loop-test.false in
    sym made.0 ∙ c.answer_of.ensures

pub returns-clause-kernel : goal.returns-clause-kernel
returns-clause-kernel g c =
    let made = ended-post c.advance_into.result c.advance_into.new.outcome c.args.self.now c.loop.self c.advance_into.new.self c.args.post.service c.args.post.args c.args.compared.0 c.loop.invariant c.advance_into.ensures.more c.advance_into.ensures.done c.loop-test.false in
    made.1 ∙ ap (λ (o : Option WorkRecord). record c.args.self.now { state = (posted program_serves c.args.post.service c.args.post.args c.args.compared.0 c.args.compared.0 c.args.self.now.state).kernel; hand = o }) (sym c.requires.free)
