use Rattle.std.proofs.Common.{◌≡◌, ◌<◌, ◌≤◌, ◌+◌, length, get_or, drop, sym, ap, ◌∙◌, subst, arith}
use Rattle.std.specs.Prelude.{All}
use Rattle.inject_list.specs.declared.lists.Look.{Look}
use Rattle.machine_model.specs.Looks.{without_look}
use Rattle.due_looks.specs.Rest.{IsInOrder}
use Rattle.due_looks.specs.Order.{looks_of, left, moment_in}
use Rattle.due_looks.proofs.LookLaws.{due-place, due-moment, without-none, without-keeps, taken-more, order-at, order-behind}
use Rattle.due_looks.proofs.OrderLaws.{looks-long}
use Rattle.due_looks.proofs.queue.Looks.take.Goals as goal

pub returns-in_err-look-clause-rest : goal.returns-in_err-look-clause-rest
returns-in_err-look-clause-rest c = sym (without-none c.args.s c.args.self.now (sym c.in_err-look.ensures.due))

pub invariant_of-self : goal.invariant_of-self
invariant_of-self c =
    let f = c.self.inside in
    let l = c.in_ok-look.look in
    let looks = looks_of f.lines.items f.order.items in
    let before = left f.lines.items f.order.items f.next in
    let o : IsInOrder c.args.self.now (drop f.next looks) = subst (λ v. IsInOrder v (drop f.next looks)) c.self.view_is c.self.invariant.rest in
    let place : f.next < length looks = due-place c.args.s f.next looks c.args.self.now o c.requires l (sym c.in_ok-look.ensures.due) in
    record {
      few = omega (arith, looks-long f.lines.items f.order.items);
      moment = c.moment_at-self-inside.ensures ∙ ap (λ v. moment_in v (f.next + 1)) c.deref.ensures.value;
      numbers = c.self.invariant.numbers;
      rest = subst (λ v. IsInOrder v (drop (f.next + 1) looks)) (sym (taken-more looks f.lines.items f.next l place)) (order-behind before (get_or looks f.next l) (drop (f.next + 1) looks) (order-at before looks f.next c.self.invariant.rest place l));
    }

pub returns-clause-rest : goal.returns-clause-rest
returns-clause-rest c =
    let f = c.self.inside in
    let l = c.in_ok-look.look in
    let looks = looks_of f.lines.items f.order.items in
    let o : IsInOrder c.args.self.now (drop f.next looks) = subst (λ v. IsInOrder v (drop f.next looks)) c.self.view_is c.self.invariant.rest in
    let place : f.next < length looks = due-place c.args.s f.next looks c.args.self.now o c.requires l (sym c.in_ok-look.ensures.due) in
    let moment : (get_or looks f.next l).at ≡ c.args.s = due-moment c.args.s f.next looks c.args.self.now o c.requires l (sym c.in_ok-look.ensures.due) l in
    taken-more looks f.lines.items f.next l place ∙ ap (λ t. without_look t (left f.lines.items f.order.items f.next)) moment ∙ ap (without_look c.args.s) c.self.view_is

pub returns-clause-left : goal.returns-clause-left
returns-clause-left c = subst (All (λ (l : Look). c.args.s ≤ l.at)) (sym (returns-clause-rest c)) (without-keeps (λ l. c.args.s ≤ l.at) c.args.s c.args.self.now c.requires)
