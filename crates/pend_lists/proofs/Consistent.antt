-- What holds of all lists of waiters.
use Rattle.std.proofs.Common.{◌≡◌, ℕ, ◌≤◌, ◌<◌, ◌∙◌, List, length, refl, ap, arith}
use Rattle.std.proofs.lemmas.List.{length-reverse}
use Rattle.links.specs.Chain.{chains, list_at}
use Rattle.links.proofs.Both.{forward_count, back_count, chain_count, forward_low, back_low, list_at-reverse, total-reverse}
use Rattle.pend_lists.specs.Pending.{IsConsistent, ArePending, nodes_of, forward_of, back_of}
use Rattle.pend_lists.proofs.Tasks.{few_wait}

module _ (n m : List ℕ) (r : ArePending n m) (o : ℕ) (h : o < 64) where
  pub few_forward : length (list_at (forward_of n) o) ≤ 64
  few_forward = few_wait (list_at (forward_of n) o) (r.forward_once o h) (λ x some. forward_low 512 64 n m r.chained o x h some)

  few_in_back : length (list_at (back_of m) o) ≤ 64
  few_in_back = few_wait (list_at (back_of m) o) (r.back_once o h) (λ x some. back_low 512 64 n m r.chained o x h some)

  -- the chain of the other direction is as long as its list
  pub few_back : length (list_at (chains m 512 64) o) ≤ 64
  few_back =
      let many = chain_count 512 64 n m r.chained in
      let long : length (list_at (back_of m) o) ≡ length (list_at (chains m 512 64) o) = ap length (list_at-reverse (chains m 512 64) o (omega (arith, many, h))) ∙ length-reverse (list_at (chains m 512 64) o) in
      let few = few_in_back in omega (arith, long, few)

pub consistent : (n m : List ℕ) → ArePending n m → IsConsistent (nodes_of n m)
consistent n m r =
    let low = forward_low 512 64 n m r.chained in let low' = back_low 512 64 n m r.chained in
    record {
      forward = record {
        count = forward_count 512 64 n m r.chained;
        once = r.chained.forward_chains.once;
        once_each = r.forward_once;
        nodes = λ o h x some. low o x h some;
        few = λ o h. few_forward n m r o h;
      };
      back = record {
        count = back_count 512 64 n m r.chained;
        once = λ x. let turned = total-reverse x (chains m 512 64) in let all = r.chained.back_chains.once x in omega (arith, turned, all);
        once_each = r.back_once;
        nodes = λ o h x some. low' o x h some;
        few = λ o h. few_in_back n m r o h;
      };
      forward_chains = refl;
      back_chains = refl;
    }
