use Rattle.std.proofs.Common.{◌≡◌, ◌≢◌, ◌<◌, ◌+◌, ◌∙◌, ◌++◌, ◌∷◌, [], refl, sym, ap, length, get_or, reverse, arith}
use Rattle.std.proofs.lemmas.List.FromFn.{length-map-range_with_len}
use Rattle.links.specs.Chain.{chain, chains}
use Rattle.links.proofs.Both.{list_at-reverse}
use Rattle.links.proofs.Walking.{begins, few, more, done, refill-whole}
use Rattle.ready_list.proofs.ReadyList.backward.Goals as goal

pub loop-node-init : goal.loop-node-init
loop-node-init g c =
    let n = g.L.Links.prevs c.self.inside.links in let p = c.args.prio.0 in
    let long = length-map-range_with_len (chain n) 64 64 in
    let inside : p < length (chains n 64 64) = omega (arith, long, c.requires.number) in
    rw c.requires.empty (record { read = refl; at = c.prev-node.ensures ∙ ap (λ k. get_or n k 0) c.head_node-head.ensures ∙ begins n 64 (chains n 64 64) c.self.invariant.back_chains p inside })

pub overflow_cast-node : goal.overflow_cast-node
overflow_cast-node g c =
    let n = g.L.Links.prevs c.self.inside.links in let p = c.args.prio.0 in
    let long = length-map-range_with_len (chain n) 64 64 in
    let inside : p < length (chains n 64 64) = omega (arith, long, c.requires.number) in
    let k = length c.loop-node.out.items in
    let ne : c.loop-node.node ≢ 64 + p = λ e. c.loop-node-test.true (e ∙ sym c.head_node-head.ensures) in
    let now = more n 64 (chains n 64 64) c.self.invariant.back_chains p inside k c.loop-node.node c.loop-node.invariant.at ne in
    let few = few n 64 (chains n 64 64) c.self.invariant.back_chains p inside in
    omega (arith, now.1)

pub push-requires : goal.push-requires
push-requires g c =
    let n = g.L.Links.prevs c.self.inside.links in let p = c.args.prio.0 in
    let long = length-map-range_with_len (chain n) 64 64 in
    let inside : p < length (chains n 64 64) = omega (arith, long, c.requires.number) in
    let k = length c.loop-node.out.items in
    let ne : c.loop-node.node ≢ 64 + p = λ e. c.loop-node-test.true (e ∙ sym c.head_node-head.ensures) in
    let now = more n 64 (chains n 64 64) c.self.invariant.back_chains p inside k c.loop-node.node c.loop-node.invariant.at ne in
    let few = few n 64 (chains n 64 64) c.self.invariant.back_chains p inside in
    (omega arith, omega (arith, now.0, few))

pub prev-node-requires-in-loop-node : goal.prev-node-requires-in-loop-node
prev-node-requires-in-loop-node g c =
    let n = g.L.Links.prevs c.self.inside.links in let p = c.args.prio.0 in
    let long = length-map-range_with_len (chain n) 64 64 in
    let inside : p < length (chains n 64 64) = omega (arith, long, c.requires.number) in
    let k = length c.loop-node.out.items in
    let ne : c.loop-node.node ≢ 64 + p = λ e. c.loop-node-test.true (e ∙ sym c.head_node-head.ensures) in
    let now = more n 64 (chains n 64 64) c.self.invariant.back_chains p inside k c.loop-node.node c.loop-node.invariant.at ne in
    let few = few n 64 (chains n 64 64) c.self.invariant.back_chains p inside in
    let nodes = c.self.invariant.forward_nodes in let others = c.self.invariant.back_nodes in
    omega (arith, now.1, nodes, others)

pub loop-node-smaller : goal.loop-node-smaller
loop-node-smaller g c =
    let n = g.L.Links.prevs c.self.inside.links in let p = c.args.prio.0 in
    let long = length-map-range_with_len (chain n) 64 64 in
    let inside : p < length (chains n 64 64) = omega (arith, long, c.requires.number) in
    let k = length c.loop-node.out.items in
    let ne : c.loop-node.node ≢ 64 + p = λ e. c.loop-node-test.true (e ∙ sym c.head_node-head.ensures) in
    let now = more n 64 (chains n 64 64) c.self.invariant.back_chains p inside k c.loop-node.node c.loop-node.invariant.at ne in
    let few = few n 64 (chains n 64 64) c.self.invariant.back_chains p inside in
    omega (arith, now.0, few, c.push.ensures.len)

pub loop-node-preserved : goal.loop-node-preserved
loop-node-preserved g c =
    let n = g.L.Links.prevs c.self.inside.links in let p = c.args.prio.0 in
    let long = length-map-range_with_len (chain n) 64 64 in
    let inside : p < length (chains n 64 64) = omega (arith, long, c.requires.number) in
    let k = length c.loop-node.out.items in
    let ne : c.loop-node.node ≢ 64 + p = λ e. c.loop-node-test.true (e ∙ sym c.head_node-head.ensures) in
    let now = more n 64 (chains n 64 64) c.self.invariant.back_chains p inside k c.loop-node.node c.loop-node.invariant.at ne in
    let few = few n 64 (chains n 64 64) c.self.invariant.back_chains p inside in
    let long : length c.push.new.self.items ≡ k + 1 = c.push.ensures.len in
    rw long (record {
      read = c.push.ensures.items ∙ ap (λ zs. zs ++ c.loop-node.node ∷ []) c.loop-node.invariant.read ∙ sym now.2;
      at = c.prev-node-in-loop-node.ensures ∙ now.3;
    })

pub returns : goal.returns
returns g c =
    let n = g.L.Links.prevs c.self.inside.links in let p = c.args.prio.0 in
    let long = length-map-range_with_len (chain n) 64 64 in
    let inside : p < length (chains n 64 64) = omega (arith, long, c.requires.number) in
    let e : c.loop-node.node ≡ 64 + p = c.loop-node-test.false ∙ c.head_node-head.ensures in
    let all = c.loop-node.invariant.read ∙ done n 64 (chains n 64 64) c.self.invariant.back_chains p inside (length c.loop-node.out.items) c.loop-node.node c.loop-node.invariant.at e in
    let turned : c.reverse.new.self ≡ reverse c.loop-node.out.items = c.reverse.ensures.after ∙ ap reverse c.as_mut_slice.ensures.value in
    let same : length c.reverse.new.self ≡ length c.loop-node.out.items = c.reverse.ensures.len ∙ ap length c.as_mut_slice.ensures.value in
    rw (← c.self.view_is) (refill-whole c.loop-node.out.items c.reverse.new.self same ∙ turned ∙ ap reverse all ∙ sym (list_at-reverse (chains n 64 64) p inside))
