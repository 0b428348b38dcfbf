-- What holds of all ready lists.
use Rattle.std.proofs.Common.{◌≡◌, ℕ, Bool, true, false, List, set, refl, arith, if◌then◌else◌}
use Rattle.std.proofs.lemmas.List.{set-set}
use Rattle.links.specs.Chain.{list_at, chains}
use Rattle.links.proofs.Both.{forward_count, back_count, forward_low, back_low, total-reverse}
use Rattle.ready_list.specs.Lists.{IsConsistent, unmarked, is_filled}
use Rattle.ready_list.specs.Ready.{AreReady, lists_of}

pub consistent : (n m : List ℕ) (marked : List Bool) → AreReady n m → IsConsistent (lists_of n m marked)
consistent n m marked r = record {
  forward = record { count = forward_count 64 64 n m r; once = r.forward_chains.once; tasks = λ p h x some. forward_low 64 64 n m r p x h some };
  back = record {
    count = back_count 64 64 n m r;
    once = λ x. let turned = total-reverse x (chains m 64 64) in let all = r.back_chains.once x in omega (arith, turned, all);
    tasks = λ p h x some. back_low 64 64 n m r p x h some;
  };
  forward_chains = refl;
  back_chains = refl;
}

-- a priority whose task left and joined again
pub marked_again : (lists : List (List ℕ)) (p : ℕ) (marked : List Bool) → set (unmarked lists p marked) p true ≡ set marked p true
marked_again lists p marked = again (is_filled (list_at lists p))
  where
    again : (b : Bool) → set (if b then marked else set marked p false) p true ≡ set marked p true
    again true = refl
    again false = set-set marked p false true
