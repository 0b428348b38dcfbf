use Rattle.std.proofs.Common.{rules, subst}
use Rattle.std.specs.List.Sorted.{IsPermutation, IsStableByKey}
use Rattle.std.specs.Ordering.{nat_cmp}
use Rattle.std.proofs.lemmas.List.Sorted.{IsNonDecreasingBy-from_sort_by_key, answers_always}
use Rattle.due_looks.specs.declared.queue.Timed.{Timed}
use Rattle.due_looks.proofs.OrderLaws.{order-of}
use Rattle.due_looks.proofs.queue.in_order.Goals as goal

pub returns : goal.returns
returns c =
    let after = c.sort_by_key.new.self.items in
    let stable : IsStableByKey (λ (x : Timed). x.moment) nat_cmp c.in_ok-order.order.items after = c.sort_by_key.ensures.stable (λ x. x.moment) (answers_always _ _ _ (λ f a r g h. search rules)) in
    order-of c.args.looks.now after
    (subst (λ xs. IsPermutation xs after) c.in_ok-order.ensures c.sort_by_key.ensures.permutation)
    (IsNonDecreasingBy-from_sort_by_key (λ (x : Timed). x.moment) after c.in-Ok.ensures.sorted (λ a r q k. search rules))
    (subst (λ xs. IsStableByKey (λ (x : Timed). x.moment) nat_cmp xs after) c.in_ok-order.ensures stable)
