use Rattle.std.proofs.Common.{Bool, ℕ, true, false, refl, None, ◌≡◌, ◌∙◌, ◌-◌, ◌*◌, ◌%◌, ◌<◌, ◌≤◌, ap, sym, subst, arith}
use Rattle.machine_model.specs.Frames.{level_of, none_stands}
use Rattle.isr_nesting.specs.Nest.{Nest, IsRising}
use Rattle.std.specs.Prelude.{◌&&◌, min, if◌then◌else◌}
use Rattle.isr_nesting.specs.Least.{nothing}
use Rattle.isr_nesting.specs.Keys.{above, number_of, step_key, task_key}
use Rattle.isr_nesting.proofs.SplitLaws.{due-found, number-below, number-past}
use Rattle.isr_nesting.proofs.EnterLaws.{due-number_enters}
use Rattle.isr_nesting.proofs.nests.Frames.due.Goals as goal

pub returns-then-best-from-clause-number : goal.returns-then-best-from-clause-number
returns-then-best-from-clause-number c =
    let n : Nest = c.args.self.now in
    let top : c.from.result ≡ level_of n.frames = c.from.ensures ∙ c.level.ensures.value ∙ ap (λ (m : Nest). level_of m.frames) c.self.view_is in
    let rising : IsRising 0 n.waiting = subst (λ (m : Nest). IsRising 0 m.waiting) c.self.view_is c.rising.ensures in
    let found = due-found c.args.masked c.args.quiet c.args.s c.args.t n.frames n.waiting c.by_steps.result c.by_tasks.result rising c.by_steps.ensures c.by_tasks.ensures in
    let low : c.min-best.result < (7 - level_of n.frames) * 16384 = omega (arith, c.if-best-from.true, top) in
    sym (number-below (level_of n.frames) c.min-best.result low)
    ∙ ap (λ k. number_of (above (level_of n.frames) k)) c.min-best.ensures
    ∙ found

pub returns-else-best-from-clause-number : goal.returns-else-best-from-clause-number
returns-else-best-from-clause-number c =
    let n : Nest = c.args.self.now in
    let top : c.from.result ≡ level_of n.frames = c.from.ensures ∙ c.level.ensures.value ∙ ap (λ (m : Nest). level_of m.frames) c.self.view_is in
    let rising : IsRising 0 n.waiting = subst (λ (m : Nest). IsRising 0 m.waiting) c.self.view_is c.rising.ensures in
    let found = due-found c.args.masked c.args.quiet c.args.s c.args.t n.frames n.waiting c.by_steps.result c.by_tasks.result rising c.by_steps.ensures c.by_tasks.ensures in
    let past : (7 - level_of n.frames) * 16384 ≤ c.min-best.result = omega (arith, c.if-best-from.false, top) in
    sym (number-past (level_of n.frames) c.min-best.result past)
    ∙ ap (λ k. number_of (above (level_of n.frames) k)) c.min-best.ensures
    ∙ found

pub returns-then-best-from-clause-enters : goal.returns-then-best-from-clause-enters
returns-then-best-from-clause-enters c =
    let n : Nest = c.args.self.now in
    due-number_enters c.args.masked c.args.quiet c.args.s c.args.t n.frames n.waiting (c.min-best.result % 16384)
    (subst (λ (m : Nest). IsRising 0 m.waiting) c.self.view_is c.rising.ensures) (returns-then-best-from-clause-number c)

-- what is nothing counts as nothing, asked or not
unless : (b : Bool) (k : ℕ) → k ≡ nothing → nothing ≡ (if b then nothing else k)
unless true k e = refl
unless false k e = sym e

where_asked : (b : Bool) (k : ℕ) → k ≡ nothing → nothing ≡ (if b then k else nothing)
where_asked true k e = sym e
where_asked false k e = refl

pub returns-then-is_early-clause-number : goal.returns-then-is_early-clause-number
returns-then-is_early-clause-number c =
    let n : Nest = c.args.self.now in
    let rising : IsRising 0 n.waiting = subst (λ (m : Nest). IsRising 0 m.waiting) c.self.view_is c.rising.ensures in
    let steps : step_key c.args.s n.waiting ≡ nothing = ap (λ (m : Nest). step_key c.args.s m.waiting) (sym c.self.view_is) ∙ c.is_early.ensures.steps c.if-is_early.true in
    let tasks : task_key c.args.t n.waiting ≡ nothing = ap (λ (m : Nest). task_key c.args.t m.waiting) (sym c.self.view_is) ∙ c.is_early.ensures.tasks c.if-is_early.true in
    let found = due-found c.args.masked c.args.quiet c.args.s c.args.t n.frames n.waiting nothing nothing rising
    (unless c.args.masked (step_key c.args.s n.waiting) steps) (where_asked (c.args.quiet && none_stands n.frames) (task_key c.args.t n.waiting) tasks) in
    sym (number-past (level_of n.frames) (min nothing nothing) (omega arith)) ∙ found
