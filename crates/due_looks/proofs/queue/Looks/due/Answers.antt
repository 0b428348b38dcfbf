use Rattle.std.proofs.Common.{◌≡◌, ◌<◌, ◌≤◌, length, get_or, drop, Some, sym, ap, ◌∙◌, subst, arith}
use Rattle.due_looks.specs.Rest.{IsInOrder}
use Rattle.due_looks.specs.Order.{look_of, looks_of}
use Rattle.due_looks.proofs.LookLaws.{due-here, due-later, due-past, none-due}
use Rattle.due_looks.proofs.OrderLaws.{look-found, moment-at, looks-long}
use Rattle.due_looks.proofs.queue.Looks.due.Goals as goal

pub returns-in-Some-clause-due : goal.returns-in-Some-clause-due
returns-in-Some-clause-due c =
    let f = c.self.inside in
    let x = c.in-Some.timed.now in
    let looks = looks_of f.lines.items f.order.items in
    let l = c.index.result.now in
    let o : IsInOrder c.args.self.now (drop f.next looks) = subst (λ v. IsInOrder v (drop f.next looks)) c.self.view_is c.self.invariant.rest in
    let place : f.next < length f.order.items = subst (λ v. f.next < length v) c.deref.ensures.value c.in-Some.ensures.lookup.3.0 in
    let same : x ≡ get_or f.order.items f.next x = c.in-Some.ensures.lookup.1 ∙ ap (λ v. get_or v f.next x) c.deref.ensures.value in
    let inside : f.next < length looks = omega (arith, looks-long f.lines.items f.order.items) in
    let moment : (get_or looks f.next l).at ≡ c.args.s = moment-at f.lines.items f.order.items f.next c.self.invariant.numbers place l x ∙ sym (ap (λ y. y.moment) same) ∙ c.if-timed-s.true in
    let found : l ≡ get_or looks f.next l = look-found f.lines.items f.order.items f.next c.self.invariant.numbers place x same l c.index.ensures in
    ap Some found ∙ sym (due-here c.args.s f.next looks c.args.self.now o c.requires inside l moment)

pub returns-in_default-clause-due : goal.returns-in_default-clause-due
returns-in_default-clause-due c =
    let f = c.self.inside in
    let x = c.in-Some.timed.now in
    let looks = looks_of f.lines.items f.order.items in
    let l = look_of f.lines.items x.number in
    let o : IsInOrder c.args.self.now (drop f.next looks) = subst (λ v. IsInOrder v (drop f.next looks)) c.self.view_is c.self.invariant.rest in
    let place : f.next < length f.order.items = subst (λ v. f.next < length v) c.deref.ensures.value c.in-Some.ensures.lookup.3.0 in
    let same : x ≡ get_or f.order.items f.next x = c.in-Some.ensures.lookup.1 ∙ ap (λ v. get_or v f.next x) c.deref.ensures.value in
    let inside : f.next < length looks = omega (arith, looks-long f.lines.items f.order.items) in
    let moment : (get_or looks f.next l).at ≡ x.moment = moment-at f.lines.items f.order.items f.next c.self.invariant.numbers place l x ∙ sym (ap (λ y. y.moment) same) in
    sym (due-later c.args.s f.next looks c.args.self.now o c.requires inside l (λ e. c.if-timed-s.false (sym moment ∙ e)))

pub returns-in_default-clause-later : goal.returns-in_default-clause-later
returns-in_default-clause-later c = λ _. none-due c.args.s c.args.self.now c.requires (sym (returns-in_default-clause-due c))

pub returns-in_default-2-clause-due : goal.returns-in_default-2-clause-due
returns-in_default-2-clause-due c =
    let f = c.self.inside in
    let looks = looks_of f.lines.items f.order.items in
    let o : IsInOrder c.args.self.now (drop f.next looks) = subst (λ v. IsInOrder v (drop f.next looks)) c.self.view_is c.self.invariant.rest in
    let past : length c.deref.result.now ≤ f.next = grind (arith, c.get.ensures.lookup, c.in_default.is) in
    let end : length f.order.items ≤ f.next = subst (λ v. length v ≤ f.next) c.deref.ensures.value past in
    sym (due-past c.args.s f.next looks c.args.self.now o c.requires (omega (arith, looks-long f.lines.items f.order.items)))

pub returns-in_default-2-clause-later : goal.returns-in_default-2-clause-later
returns-in_default-2-clause-later c = λ _. none-due c.args.s c.args.self.now c.requires (sym (returns-in_default-2-clause-due c))
