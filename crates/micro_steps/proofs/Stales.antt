-- The stale nodes.
use Rattle.std.proofs.Common.{◌≡◌, ◌≢◌, ◌<◌, ◌≤◌, ◌++◌, ℕ, [], ◌∷◌, length, ◌+◌, ◌-◌, ◌∙◌, ap, sym, refl, arith, inl, inr, List, Bool, true, false, get_or, set, get_or-set_other, get_or-set_same, length-set}
use Rattle.std.proofs.Math.Nat.{not-suc-le-zero}
use Rattle.std.proofs.lemmas.Bool.{false≢true}
use Rattle.std.proofs.lemmas.Bool.Decides.{eqb_tells}
use Rattle.std.specs.Prelude.{replicate}
use Rattle.std.proofs.lemmas.List.{ext_get_or, get_or-replicate, length-replicate}
use Rattle.links.specs.Chain.{times}
use Rattle.links.proofs.Times.{times-append, times_same, times_other}
use Rattle.links.proofs.Chained.{length-le_once}
use Rattle.micro_steps.specs.Starts.{AreStale, IsFound, StartRecord}

-- one more stands at the end
times-last : (x y : ℕ) (xs : List ℕ) → times x (xs ++ y ∷ []) ≡ times x (y ∷ xs)
times-last x y xs =
    let parts = times-append x xs (y ∷ []) in
    elim (eqb_tells y x) [
      | inl e ↦ let one = times_same x y xs (sym e.1) in let two = times_same x y [] (sym e.1) in omega (arith, parts, one, two)
      | inr e ↦ let one = times_other x y xs e.1 in let two = times_other x y [] e.1 in omega (arith, parts, one, two)
    ]

-- ---- one more node is stale
module _ (marks : List Bool) (stale : List ℕ) (node : ℕ) (s : AreStale marks stale) (low : node < 704) (free : get_or marks node false ≡ false) where
  none : times node stale ≡ 0
  none = s.unmarked node low free

  once_more : (x : ℕ) → times x (node ∷ stale) ≤ 1
  once_more x =
      let here = none in let all = s.once x in
      elim (eqb_tells node x) [
        | inl e ↦ let one = times_same x node stale (sym e.1) in let same : times x stale ≡ times node stale = ap (λ y. times y stale) (sym e.1) in omega (arith, one, same, here)
        | inr e ↦ let one = times_other x node stale e.1 in omega (arith, one, all)
      ]

  below_more : (x : ℕ) → 0 < times x (node ∷ stale) → x < 704
  below_more x h =
      elim (eqb_tells node x) [
        | inl e ↦ omega (arith, e.1, low)
        | inr e ↦ let one = times_other x node stale e.1 in s.below x (omega (arith, one, h))
      ]

  -- there is room for it
  pub room : length stale < 704
  room = let few = length-le_once (node ∷ stale) 704 once_more below_more in omega (arith, few)

  -- it is marked and stale
  pub marked_more : AreStale (set marks node true) (stale ++ node ∷ [])
  marked_more =
      record {
        once = λ x. let at = times-last x node stale in let one = once_more x in omega (arith, at, one);
        below = λ x h. let at = times-last x node stale in below_more x (omega (arith, at, h));
        count = length-set marks node true ∙ s.count;
        marked = λ x h is.
            let at = times-last x node stale in
            elim (eqb_tells node x) [
              | inl e ↦ let one = times_same x node stale (sym e.1) in omega (arith, at, one)
              | inr e ↦ let one = times_other x node stale e.1 in let old = s.marked x h (sym (get_or-set_other marks node x true false (λ d. e.1 (sym d))) ∙ is) in omega (arith, at, one, old)
            ];
        unmarked = λ x h clear.
            let at = times-last x node stale in
            elim (eqb_tells node x) [
              | inl e ↦ absurd (false≢true (sym clear ∙ ap (λ y. get_or (set marks node true) y false) (sym e.1) ∙ get_or-set_same marks node true false (let long = s.count in omega (arith, long, low))))
              | inr e ↦ let one = times_other x node stale e.1 in let old = s.unmarked x h (sym (get_or-set_other marks node x true false (λ d. e.1 (sym d))) ∙ clear) in omega (arith, at, one, old)
            ];
      }

-- what is not stale then was not before, and is not this node
pub stale_before : (stale : List ℕ) (node x : ℕ) → times x (stale ++ node ∷ []) ≡ 0 → (times x stale ≡ 0) × (x ≢ node)
stale_before stale node x h =
    let at = times-last x node stale in
    elim (eqb_tells node x) [
      | inl e ↦ let one = times_same x node stale (sym e.1) in absurd (not-suc-le-zero {n = 0} (omega (arith, at, one, h)))
      | inr e ↦ let one = times_other x node stale e.1 in (omega (arith, at, one, h), λ d. e.1 (sym d))
    ]

-- what is not stale is no marked node
pub not_marked : (marks : List Bool) (stale : List ℕ) (node : ℕ) → AreStale marks stale → node < 704 → get_or marks node false ≡ true → (x : ℕ) → times x stale ≡ 0 → (times x stale ≡ 0) × (x ≢ node)
not_marked marks stale node s low is x h =
    let some = s.marked node low is in
    (h, λ e. let same : times x stale ≡ times node stale = ap (λ y. times y stale) e in absurd (not-suc-le-zero {n = 0} (omega (arith, some, same, h))))

-- ---- a stale node is mended
module _ (old new : List ℕ) (node : ℕ) (is : old ≡ new ++ node ∷ []) where
  -- how often another stands
  others : (x : ℕ) → node ≢ x → times x old ≡ times x new
  others x ne = ap (times x) is ∙ times-last x node new ∙ times_other x node new ne

  here : (x : ℕ) → node ≡ x → times x old ≡ 1 + times x new
  here x e = ap (times x) is ∙ times-last x node new ∙ times_same x node new (sym e)

  fewer : (x : ℕ) → times x new ≤ times x old
  fewer x =
      elim (eqb_tells node x) [
        | inl e ↦ let one = here x e.1 in omega (arith, one)
        | inr e ↦ let one = others x e.1 in omega (arith, one)
      ]

  module _ (marks : List Bool) (s : AreStale marks old) where
    pub taken_below : node < 704
    taken_below = s.below node (let one = here node refl in omega (arith, one))

    pub taken : AreStale (set marks node false) new
    taken =
        record {
          once = λ x. let less = fewer x in let all = s.once x in omega (arith, less, all);
          below = λ x h. s.below x (let less = fewer x in omega (arith, less, h));
          count = length-set marks node false ∙ s.count;
          marked = λ x h is.
              elim (eqb_tells node x) [
                | inl e ↦ let low = taken_below in absurd (false≢true (sym (get_or-set_same marks node false false (let long = s.count in omega (arith, long, low))) ∙ ap (λ y. get_or (set marks node false) y false) e.1 ∙ is))
                | inr e ↦ let same = others x e.1 in let was = s.marked x h (sym (get_or-set_other marks node x false false (λ d. e.1 (sym d))) ∙ is) in omega (arith, same, was)
              ];
          unmarked = λ x h clear.
              elim (eqb_tells node x) [
                | inl e ↦ let one = here x e.1 in let all = s.once x in omega (arith, one, all)
                | inr e ↦ let same = others x e.1 in let was = s.unmarked x h (sym (get_or-set_other marks node x false false (λ d. e.1 (sym d))) ∙ clear) in omega (arith, same, was)
              ];
        }

  module _ (ready pend found other : List ℕ) (to : ℕ) where
    -- the successor of a node of ready lists is found
    pub mended_ready : IsFound ready pend (record { ready = found; pend = other; stale = old }) → node < 128 → to ≡ get_or ready node 0 → IsFound ready pend (record { ready = set found node to; pend = other; stale = new })
    mended_ready f low now =
        record {
          ready_nodes = f.ready_nodes;
          pend_nodes = f.pend_nodes;
          ready_found = length-set found node to ∙ f.ready_found;
          pend_found = f.pend_found;
          same_ready = λ x h none.
              elim (eqb_tells node x) [
                | inl e ↦ ap (λ y. get_or (set found node to) y 0) (sym e.1) ∙ get_or-set_same found node to 0 (let long = f.ready_found in omega (arith, long, low)) ∙ now ∙ ap (λ y. get_or ready y 0) e.1
                | inr e ↦ let same = others x e.1 in get_or-set_other found node x to 0 (λ d. e.1 (sym d)) ∙ f.same_ready x h (omega (arith, same, none))
              ];
          same_pend = λ x h none. let same = others (128 + x) (λ e. absurd (not-suc-le-zero {n = 0} (omega (arith, e, low)))) in f.same_pend x h (omega (arith, same, none));
        }

    -- the successor of a node of pend lists is found
    pub mended_pend : IsFound ready pend (record { ready = other; pend = found; stale = old }) → node < 704 → 128 ≤ node → to ≡ get_or pend (node - 128) 0 → IsFound ready pend (record { ready = other; pend = set found (node - 128) to; stale = new })
    mended_pend f low high now =
        record {
          ready_nodes = f.ready_nodes;
          pend_nodes = f.pend_nodes;
          ready_found = f.ready_found;
          pend_found = length-set found (node - 128) to ∙ f.pend_found;
          same_ready = λ x h none. let same = others x (λ e. absurd (not-suc-le-zero {n = 0} (omega (arith, e, high, h)))) in f.same_ready x h (omega (arith, same, none));
          same_pend = λ x h none.
              elim (eqb_tells (node - 128) x) [
                | inl e ↦ ap (λ y. get_or (set found (node - 128) to) y 0) (sym e.1) ∙ get_or-set_same found (node - 128) to 0 (let long = f.pend_found in omega (arith, long, low, high)) ∙ now ∙ ap (λ y. get_or pend y 0) e.1
                | inr e ↦ let same = others (128 + x) (λ d. e.1 (omega (arith, d))) in get_or-set_other found (node - 128) x to 0 (λ d. e.1 (sym d)) ∙ f.same_pend x h (omega (arith, same, none))
              ];
        }

-- where none is stale all successors are those that were found
pub all_found : (ready pend : List ℕ) (s : StartRecord) → IsFound ready pend s → s.stale ≡ [] → (s.ready ≡ ready) × (s.pend ≡ pend)
all_found ready pend s f none =
    let clear : (x : ℕ) → times x s.stale ≡ 0 = λ x. ap (times x) none in
    let long = f.ready_found in let nodes = f.ready_nodes in let long' = f.pend_found in let nodes' = f.pend_nodes in (
      ext_get_or 0 s.ready ready (omega (arith, long, nodes)) (λ x h. f.same_ready x (omega (arith, h, long)) (clear x)),
      ext_get_or 0 s.pend pend (omega (arith, long', nodes')) (λ x h. f.same_pend x (omega (arith, h, long')) (clear (128 + x))),
    )

-- none is stale
pub none_stale : AreStale (replicate 704 false) []
none_stale =
    record {
      once = λ x. omega arith;
      below = λ x h. absurd (not-suc-le-zero {n = 0} h);
      count = length-replicate 704 false;
      marked = λ x h is. absurd (false≢true (sym (get_or-replicate 704 x false false h) ∙ is));
      unmarked = λ x h clear. refl;
    }

pub none_left : (xs : List ℕ) → (0 < length xs → ⊥) → xs ≡ []
none_left [] h = refl
none_left (x ∷ xs) h = absurd (h (omega arith))
