use Rattle.std.proofs.Common.{rules, subst}
use Rattle.std.specs.List.Sorted.{IsPermutation}
use Rattle.std.proofs.lemmas.List.Sorted.{IsNonDecreasingBy-from_sort_by_key}
use Rattle.isr_nesting.specs.declared.orders.Timed.{Timed}
use Rattle.isr_nesting.proofs.OrderLaws.{order-of}
use Rattle.isr_nesting.proofs.orders.in_order.Goals as goal

pub returns : goal.returns
returns c =
    let after = c.sort_unstable_by_key.new.self.items in
    order-of c.args.records.now after
    (subst (λ xs. IsPermutation xs after) c.in_ok-order.ensures c.sort_unstable_by_key.ensures.permutation)
    (IsNonDecreasingBy-from_sort_by_key (λ (x : Timed). x.moment) after c.sort_unstable_by_key.ensures.sorted (λ a r q k. search rules))
