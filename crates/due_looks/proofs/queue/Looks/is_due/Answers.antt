use Rattle.std.proofs.Common.{rules, drop, sym, ap, ◌∙◌, subst, ne_eqb}
use Rattle.std.specs.Prelude.{is_some, nat_lt}
use Rattle.machine_model.specs.Looks.{look_at}
use Rattle.due_looks.specs.Rest.{IsInOrder}
use Rattle.due_looks.specs.Order.{looks_of}
use Rattle.due_looks.proofs.DueLaws.{due-told, not-due, none-told}
use Rattle.due_looks.proofs.LookLaws.{none-due}
use Rattle.due_looks.proofs.queue.Looks.is_due.Goals as goal

pub returns-then-s-self-clause-due : goal.returns-then-s-self-clause-due
returns-then-s-self-clause-due c =
    let f = c.self.inside in
    let looks = looks_of f.lines.items f.order.items in
    let o : IsInOrder c.args.self.now (drop f.next looks) = subst (λ v. IsInOrder v (drop f.next looks)) c.self.view_is c.self.invariant.rest in
    ap (nat_lt f.next) (search rules) ∙ due-told f.lines.items f.order.items f.next c.args.s c.args.self.now c.self.invariant.numbers o c.requires (c.if-s-self.true ∙ c.self.invariant.moment)

pub returns-then-s-self-clause-later : goal.returns-then-s-self-clause-later
returns-then-s-self-clause-later c = λ e. none-due c.args.s c.args.self.now c.requires (none-told (look_at c.args.s c.args.self.now) (sym (returns-then-s-self-clause-due c) ∙ e))

pub returns-else-s-self-clause-due : goal.returns-else-s-self-clause-due
returns-else-s-self-clause-due c =
    let f = c.self.inside in
    let looks = looks_of f.lines.items f.order.items in
    let o : IsInOrder c.args.self.now (drop f.next looks) = subst (λ v. IsInOrder v (drop f.next looks)) c.self.view_is c.self.invariant.rest in
    let none = not-due f.lines.items f.order.items f.next c.args.s c.args.self.now c.self.invariant.numbers o c.requires (λ e. c.if-s-self.false (e ∙ sym c.self.invariant.moment)) in
    ne_eqb c.args.s f.moment c.if-s-self.false ∙ sym (ap (λ l. is_some l) none)

pub returns-else-s-self-clause-later : goal.returns-else-s-self-clause-later
returns-else-s-self-clause-later c = λ e. none-due c.args.s c.args.self.now c.requires (none-told (look_at c.args.s c.args.self.now) (sym (returns-else-s-self-clause-due c) ∙ e))
