-- What links of the forward chains leave of the successors that were found.
use Rattle.std.proofs.Common.{◌≡◌, ◌≢◌, ℕ, ◌+◌, ◌<◌, List, length, get_or, refl, sym, ap, ◌∙◌, length-set, get_or-set_other, arith}
use Rattle.std.specs.Prelude.{slice_index, slice_set}
use Rattle.std.specs.Prelude.{Bool, false, replicate, if◌then◌else◌, [], ◌∷◌}
use Rattle.std.proofs.lemmas.List.{ext_get_or}
use Rattle.kern_model.specs.Micro.{LeaveBack, Ready, changed, is_filled}
use Rattle.links.specs.Nodes.{AreOwn}
use Rattle.links.specs.Chain.{times, list_at, left, forward_lists, linked_after, unlinked_after}
use Rattle.ready_list.specs.Lists.{ReadyLists, unmarked, is_filled as has_entry}
use Rattle.pend_lists.specs.Pending.{PendNodes}
use Rattle.micro_steps.specs.Starts.{IsFound, StartRecord, halves_of, lists_found, no_lists}

module _ (r p : List ℕ) (s t : StartRecord) (f : IsFound r p s) (ready : t.ready ≡ s.ready) (pend : t.pend ≡ s.pend) where
  -- a task leaves a ready list behind this node
  pub unlinked_ready : (c y : ℕ) → ((x : ℕ) → times x t.stale ≡ 0 → (times x s.stale ≡ 0) × (x ≢ c)) → IsFound (unlinked_after r c y) p t
  unlinked_ready c y stale =
      record {
        ready_nodes = length-set r c (slice_index r y) ∙ f.ready_nodes;
        pend_nodes = f.pend_nodes;
        ready_found = ap length ready ∙ f.ready_found;
        pend_found = ap length pend ∙ f.pend_found;
        same_ready = λ x h none. let old = stale x none in ap (λ xs. get_or xs x 0) ready ∙ f.same_ready x h old.0 ∙ sym (get_or-set_other r c x (slice_index r y) 0 old.1);
        same_pend = λ x h none. ap (λ xs. get_or xs x 0) pend ∙ f.same_pend x h (stale (128 + x) none).0;
      }

  -- a task joins a ready list behind this node
  pub linked_ready : (c y : ℕ) → ((x : ℕ) → times x t.stale ≡ 0 → (times x s.stale ≡ 0) × (x ≢ c) × (x ≢ y)) → IsFound (linked_after r c y) p t
  linked_ready c y stale =
      let first = slice_set r y (slice_index r c) in
      record {
        ready_nodes = length-set first c y ∙ length-set r y (slice_index r c) ∙ f.ready_nodes;
        pend_nodes = f.pend_nodes;
        ready_found = ap length ready ∙ f.ready_found;
        pend_found = ap length pend ∙ f.pend_found;
        same_ready = λ x h none.
            let old = stale x none in
            ap (λ xs. get_or xs x 0) ready ∙ f.same_ready x h old.0 ∙ sym (get_or-set_other first c x y 0 old.1 ∙ get_or-set_other r y x (slice_index r c) 0 old.2);
        same_pend = λ x h none. ap (λ xs. get_or xs x 0) pend ∙ f.same_pend x h (stale (128 + x) none).0;
      }

  -- a node leaves a list of waiters behind this node
  pub unlinked_pend : (c y : ℕ) → ((x : ℕ) → times x t.stale ≡ 0 → (times x s.stale ≡ 0) × (x ≢ 128 + c)) → IsFound r (unlinked_after p c y) t
  unlinked_pend c y stale =
      record {
        ready_nodes = f.ready_nodes;
        pend_nodes = length-set p c (slice_index p y) ∙ f.pend_nodes;
        ready_found = ap length ready ∙ f.ready_found;
        pend_found = ap length pend ∙ f.pend_found;
        same_ready = λ x h none. ap (λ xs. get_or xs x 0) ready ∙ f.same_ready x h (stale x none).0;
        same_pend = λ x h none.
            let old = stale (128 + x) none in
            ap (λ xs. get_or xs x 0) pend ∙ f.same_pend x h old.0 ∙ sym (get_or-set_other p c x (slice_index p y) 0 (λ e. old.1 (ap (λ z. 128 + z) e)));
      }

  -- a node joins a list of waiters behind this node
  pub linked_pend : (c y : ℕ) → ((x : ℕ) → times x t.stale ≡ 0 → (times x s.stale ≡ 0) × (x ≢ 128 + c) × (x ≢ 128 + y)) → IsFound r (linked_after p c y) t
  linked_pend c y stale =
      let first = slice_set p y (slice_index p c) in
      record {
        ready_nodes = f.ready_nodes;
        pend_nodes = length-set first c y ∙ length-set p y (slice_index p c) ∙ f.pend_nodes;
        ready_found = ap length ready ∙ f.ready_found;
        pend_found = ap length pend ∙ f.pend_found;
        same_ready = λ x h none. ap (λ xs. get_or xs x 0) ready ∙ f.same_ready x h (stale x none).0;
        same_pend = λ x h none.
            let old = stale (128 + x) none in
            ap (λ xs. get_or xs x 0) pend ∙ f.same_pend x h old.0
            ∙ sym (get_or-set_other first c x y 0 (λ e. old.1 (ap (λ z. 128 + z) e)) ∙ get_or-set_other p y x (slice_index p c) 0 (λ e. old.2 (ap (λ z. 128 + z) e)));
      }

-- the halves with other forward lists
pub other_ready : (r r' : ReadyLists) (p : PendNodes) (ls : List (List ℕ)) → r'.forward ≡ ls → r'.back ≡ r.back → r'.marked ≡ r.marked → halves_of r' p ≡ record { forward = record { ready = ls; pend = p.forward }; back = record { ready = r.back; pend = p.back }; marked = r.marked }
other_ready r r' p ls f b m = rw (f, b, m) refl

pub other_pend : (r : ReadyLists) (p p' : PendNodes) (ls : List (List ℕ)) → p'.forward ≡ ls → p'.back ≡ p.back → halves_of r p' ≡ record { forward = record { ready = r.forward; pend = ls }; back = record { ready = r.back; pend = p.back }; marked = r.marked }
other_pend r p p' ls f b = rw (f, b) refl

-- the halves with other backward lists
pub back_ready : (r r' : ReadyLists) (p : PendNodes) (ls : List (List ℕ)) (m : List Bool) → r'.forward ≡ r.forward → r'.back ≡ ls → r'.marked ≡ m → halves_of r' p ≡ record { forward = record { ready = r.forward; pend = p.forward }; back = record { ready = ls; pend = p.back }; marked = m }
back_ready r r' p ls m f b e = rw (f, b, e) refl

pub back_pend : (r : ReadyLists) (p p' : PendNodes) (ls : List (List ℕ)) → p'.forward ≡ p.forward → p'.back ≡ ls → halves_of r p' ≡ record { forward = record { ready = r.forward; pend = p.forward }; back = record { ready = r.back; pend = ls }; marked = r.marked }
back_pend r p p' ls f b = rw (f, b) refl

same_filled : (xs : List ℕ) → has_entry xs ≡ is_filled xs
same_filled [] = refl
same_filled (x ∷ xs) = refl

-- a priority leaves the set where its list became empty
pub back_unready : (r r' : ReadyLists) (q : PendNodes) (p x : ℕ) → r'.forward ≡ r.forward → r'.back ≡ left r.back p x → r'.marked ≡ unmarked r'.back p r.marked → halves_of r' q ≡ changed (LeaveBack (Ready p) x) (halves_of r q)
back_unready r r' q p x f b m =
    back_ready r r' q (left r.back p x) (if is_filled (list_at (left r.back p x) p) then r.marked else slice_set r.marked p false) f b
    (m ∙ ap (λ ls. unmarked ls p r.marked) b ∙ ap (λ e. if e then r.marked else slice_set r.marked p false) (same_filled (list_at (left r.back p x) p)))

-- the links of fresh nodes are the successors that were found
pub own_same : (n : ℕ) (xs ys : List ℕ) → AreOwn n xs → AreOwn n ys → xs ≡ ys
own_same n xs ys a b =
    let long = a.count in let long' = b.count in
    ext_get_or 0 xs ys (omega (arith, long, long')) (λ k h. let inside : k < n = omega (arith, h, long) in a.own k inside ∙ sym (b.own k inside))

pub no_lists_found : (s : StartRecord) → forward_lists 64 64 s.ready ≡ replicate 64 [] → forward_lists 512 64 s.pend ≡ replicate 64 [] → lists_found s ≡ no_lists
no_lists_found s a b = rw (a, b) refl
