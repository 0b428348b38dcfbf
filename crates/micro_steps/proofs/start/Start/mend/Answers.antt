use Rattle.std.proofs.Common.{rules, ◌≡◌, [], arith}
use Rattle.micro_steps.proofs.Stales.{taken_below, taken, mended_ready, mended_pend, all_found}
use Rattle.micro_steps.proofs.start.Start.mend.Goals as goal

pub bounds-self-inside-node : goal.bounds-self-inside-node
bounds-self-inside-node g c = taken_below c.loop-node.self-inside.stale.items c.pop.new.self.items c.in-Some.node c.in-Some.ensures.items c.loop-node.self-inside.marks c.loop-node.invariant.stale

pub loop-node-preserved-then-node-lt128 : goal.loop-node-preserved-then-node-lt128
loop-node-preserved-then-node-lt128 g c =
    let s = c.loop-node.self-inside in let old = s.stale.items in let new = c.pop.new.self.items in let x = c.in-Some.node in
    record {
      stale = taken old new x c.in-Some.ensures.items s.marks c.loop-node.invariant.stale;
      found = mended_ready old new x c.in-Some.ensures.items c.args.ready.now.nexts c.args.pend.now.nexts s.ready s.pend c.successor.result c.loop-node.invariant.found c.if-node-lt128.true c.successor.ensures.node;
    }

pub successor-requires-else-node-lt128 : goal.successor-requires-else-node-lt128
successor-requires-else-node-lt128 g c =
    let low = taken_below c.loop-node.self-inside.stale.items c.pop.new.self.items c.in-Some.node c.in-Some.ensures.items c.loop-node.self-inside.marks c.loop-node.invariant.stale in
    omega (arith, low, c.if-node-lt128.false)

pub bounds-self-inside-node-else-node-lt128 : goal.bounds-self-inside-node-else-node-lt128
bounds-self-inside-node-else-node-lt128 g c =
    let low = taken_below c.loop-node.self-inside.stale.items c.pop.new.self.items c.in-Some.node c.in-Some.ensures.items c.loop-node.self-inside.marks c.loop-node.invariant.stale in
    omega (arith, low, c.if-node-lt128.false)

pub loop-node-preserved : goal.loop-node-preserved
loop-node-preserved g c =
    let s = c.loop-node.self-inside in let old = s.stale.items in let new = c.pop.new.self.items in let x = c.in-Some.node in
    let low = taken_below old new x c.in-Some.ensures.items s.marks c.loop-node.invariant.stale in
    record {
      stale = taken old new x c.in-Some.ensures.items s.marks c.loop-node.invariant.stale;
      found = mended_pend old new x c.in-Some.ensures.items c.args.ready.now.nexts c.args.pend.now.nexts s.pend s.ready c.successor-else-node-lt128.result c.loop-node.invariant.found low c.if-node-lt128.false c.successor-else-node-lt128.ensures.node;
    }

pub returns-clause-found : goal.returns-clause-found
returns-clause-found g c =
    let s = c.loop-node.self-inside in
    let gone : s.stale.items ≡ [] = search rules in
    all_found c.args.ready.now.nexts c.args.pend.now.nexts (record { ready = s.ready; pend = s.pend; stale = s.stale.items }) c.loop-node.invariant.found gone
