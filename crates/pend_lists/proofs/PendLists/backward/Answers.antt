use Rattle.std.proofs.Common.{◌≡◌, ◌≢◌, ◌<◌, ◌+◌, ◌/◌, ◌∙◌, ◌++◌, ◌∷◌, [], refl, sym, ap, length, get_or, take, reverse, arith}
use Rattle.std.proofs.lemmas.List.{map-append}
use Rattle.std.proofs.lemmas.List.FromFn.{length-map-range_with_len}
use Rattle.links.specs.Chain.{chain, chains, list_at}
use Rattle.links.proofs.Both.{list_at-reverse}
use Rattle.links.proofs.Walking.{begins, more, done, refill-whole}
use Rattle.pend_lists.specs.Pending.{waiters}
use Rattle.pend_lists.proofs.Consistent.{few_back}
use Rattle.pend_lists.proofs.Tasks.{waiters-reverse}
use Rattle.pend_lists.proofs.PendLists.backward.Goals as goal

pub loop-node-init : goal.loop-node-init
loop-node-init g c =
    let n = g.L.Links.prevs c.self.inside.links in let p = c.args.obj.0 in
    let long = length-map-range_with_len (chain n) 512 64 in
    let inside : p < length (chains n 512 64) = omega (arith, long, c.requires.number) in
    rw c.requires.empty (record { read = refl; at = c.prev-node.ensures ∙ ap (λ k. get_or n k 0) c.head_node-head.ensures ∙ begins n 512 (chains n 512 64) c.self.invariant.chained.back_chains p inside })

pub overflow_cast-node : goal.overflow_cast-node
overflow_cast-node g c =
    let n = g.L.Links.prevs c.self.inside.links in let p = c.args.obj.0 in
    let long = length-map-range_with_len (chain n) 512 64 in
    let inside : p < length (chains n 512 64) = omega (arith, long, c.requires.number) in
    let k = length c.loop-node.out.items in
    let ne : c.loop-node.node ≢ 512 + p = λ e. c.loop-node-test.true (e ∙ sym c.head_node-head.ensures) in
    let now = more n 512 (chains n 512 64) c.self.invariant.chained.back_chains p inside k c.loop-node.node c.loop-node.invariant.at ne in
    omega (arith, now.1)

pub push-requires : goal.push-requires
push-requires g c =
    let n = g.L.Links.prevs c.self.inside.links in let p = c.args.obj.0 in
    let long = length-map-range_with_len (chain n) 512 64 in
    let inside : p < length (chains n 512 64) = omega (arith, long, c.requires.number) in
    let k = length c.loop-node.out.items in
    let ne : c.loop-node.node ≢ 512 + p = λ e. c.loop-node-test.true (e ∙ sym c.head_node-head.ensures) in
    let now = more n 512 (chains n 512 64) c.self.invariant.chained.back_chains p inside k c.loop-node.node c.loop-node.invariant.at ne in
    let few = few_back (g.L.Links.nexts c.self.inside.links) (g.L.Links.prevs c.self.inside.links) c.self.invariant p c.requires.number in
    (omega arith, omega (arith, now.0, few))

pub prev-node-requires-in-loop-node : goal.prev-node-requires-in-loop-node
prev-node-requires-in-loop-node g c =
    let n = g.L.Links.prevs c.self.inside.links in let p = c.args.obj.0 in
    let long = length-map-range_with_len (chain n) 512 64 in
    let inside : p < length (chains n 512 64) = omega (arith, long, c.requires.number) in
    let k = length c.loop-node.out.items in
    let ne : c.loop-node.node ≢ 512 + p = λ e. c.loop-node-test.true (e ∙ sym c.head_node-head.ensures) in
    let now = more n 512 (chains n 512 64) c.self.invariant.chained.back_chains p inside k c.loop-node.node c.loop-node.invariant.at ne in
    let nodes = c.self.invariant.chained.forward_nodes in let others = c.self.invariant.chained.back_nodes in
    omega (arith, now.1, nodes, others)

pub loop-node-smaller : goal.loop-node-smaller
loop-node-smaller g c =
    let n = g.L.Links.prevs c.self.inside.links in let p = c.args.obj.0 in
    let long = length-map-range_with_len (chain n) 512 64 in
    let inside : p < length (chains n 512 64) = omega (arith, long, c.requires.number) in
    let k = length c.loop-node.out.items in
    let ne : c.loop-node.node ≢ 512 + p = λ e. c.loop-node-test.true (e ∙ sym c.head_node-head.ensures) in
    let now = more n 512 (chains n 512 64) c.self.invariant.chained.back_chains p inside k c.loop-node.node c.loop-node.invariant.at ne in
    let few = few_back (g.L.Links.nexts c.self.inside.links) (g.L.Links.prevs c.self.inside.links) c.self.invariant p c.requires.number in
    omega (arith, now.0, few, c.push.ensures.len)

pub loop-node-preserved : goal.loop-node-preserved
loop-node-preserved g c =
    let n = g.L.Links.prevs c.self.inside.links in let p = c.args.obj.0 in
    let long = length-map-range_with_len (chain n) 512 64 in
    let inside : p < length (chains n 512 64) = omega (arith, long, c.requires.number) in
    let k = length c.loop-node.out.items in
    let ne : c.loop-node.node ≢ 512 + p = λ e. c.loop-node-test.true (e ∙ sym c.head_node-head.ensures) in
    let now = more n 512 (chains n 512 64) c.self.invariant.chained.back_chains p inside k c.loop-node.node c.loop-node.invariant.at ne in
    let xs = list_at (chains n 512 64) p in let node = c.loop-node.node in
    let one_more : length c.push.new.self.items ≡ k + 1 = c.push.ensures.len in
    let tasks : waiters (take (k + 1) xs) ≡ waiters (take k xs) ++ node / 8 ∷ [] = ap waiters now.2 ∙ map-append (λ x. x / 8) (take k xs) (node ∷ []) in
    rw one_more (record {
      read = c.push.ensures.items ∙ ap (λ zs. zs ++ node / 8 ∷ []) c.loop-node.invariant.read ∙ sym tasks;
      at = c.prev-node-in-loop-node.ensures ∙ now.3;
    })

pub returns : goal.returns
returns g c =
    let n = g.L.Links.prevs c.self.inside.links in let p = c.args.obj.0 in
    let long = length-map-range_with_len (chain n) 512 64 in
    let inside : p < length (chains n 512 64) = omega (arith, long, c.requires.number) in
    let e : c.loop-node.node ≡ 512 + p = c.loop-node-test.false ∙ c.head_node-head.ensures in
    let all = c.loop-node.invariant.read ∙ ap waiters (done n 512 (chains n 512 64) c.self.invariant.chained.back_chains p inside (length c.loop-node.out.items) c.loop-node.node c.loop-node.invariant.at e) in
    let turned : c.reverse.new.self ≡ reverse c.loop-node.out.items = c.reverse.ensures.after ∙ ap reverse c.as_mut_slice.ensures.value in
    let same : length c.reverse.new.self ≡ length c.loop-node.out.items = c.reverse.ensures.len ∙ ap length c.as_mut_slice.ensures.value in
    let xs = list_at (chains n 512 64) p in
    rw (← c.self.view_is)
    (refill-whole c.loop-node.out.items c.reverse.new.self same ∙ turned ∙ ap reverse all ∙ sym (waiters-reverse xs) ∙ ap waiters (sym (list_at-reverse (chains n 512 64) p inside)))
