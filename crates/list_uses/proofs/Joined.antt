-- What is known of the lists of waiters after some joins to the first of them.
use Rattle.std.proofs.Common.{◌≡◌, ℕ, ◌<◌, List, [], ◌∷◌, length, replicate, refl, sym, ◌∙◌, subst, arith, length-set}
use Rattle.links.specs.Chain.{times, total, list_at, inserted}
use Rattle.links.proofs.Times.{times_here, total-inserted}
use Rattle.links.proofs.Both.{total_none}
use Rattle.pend_lists.specs.Pending.{waiters}
use Rattle.pend_lists.proofs.Tasks.{waits-inserted}

-- the first list has these nodes, in any order, and no other list has any
pub record HasNodes (ys : List ℕ) (lists : List (List ℕ)) : Type 0 where
  pub count : length lists ≡ 64
  pub nodes : (x : ℕ) → total x lists ≡ times x ys
  pub tasks : (task : ℕ) → times task (waiters (list_at lists 0)) ≡ times task (waiters ys)

pub none_joined : (lists : List (List ℕ)) → lists ≡ replicate 64 [] → HasNodes [] lists
none_joined lists e = subst (HasNodes []) (sym e) (record { count = refl; nodes = λ x. total_none x 64; tasks = λ task. refl })

pub one_joined : (ys : List ℕ) (lists new : List (List ℕ)) (i y : ℕ) → HasNodes ys lists → new ≡ inserted lists 0 i y → HasNodes (y ∷ ys) new
one_joined ys lists new i y has e =
    let inside : 0 < length lists = let n = has.count in omega (arith, n) in
    subst (HasNodes (y ∷ ys)) (sym e)
    (record {
      count = length-set lists 0 _ ∙ has.count;
      nodes = λ x. let at = total-inserted lists 0 i x y inside in let was = has.nodes x in omega (arith, at, was);
      tasks = λ task. let at = waits-inserted lists 0 i y task inside in let was = has.tasks task in omega (arith, at, was);
    })

-- a node that joined stands in a list
pub stands_joined : (lists new : List (List ℕ)) (p i y : ℕ) → length lists ≡ 64 → p < 64 → new ≡ inserted lists p i y → (length new ≡ 64) × (0 < total y new)
stands_joined lists new p i y count low e =
    let at = total-inserted lists p i y y (omega (arith, count, low)) in let here = times_here y [] in
    subst (λ ls. (length ls ≡ 64) × (0 < total y ls)) (sym e) (length-set lists p _ ∙ count, omega (arith, at, here))
