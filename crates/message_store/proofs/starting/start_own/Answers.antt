use Rattle.std.proofs.Common.{◌++◌, [], ◌∷◌, ap, ◌∙◌, not, arith}
use Rattle.std.specs.Prelude.{if◌then◌else◌}
use Rattle.message_store.proofs.StartFacts.{one-more}
use Rattle.message_store.proofs.starting.start_own.Goals as goal

pub loop-preserved : goal.loop-preserved
loop-preserved c =
    let own = c.loop.own.items in
    one-more own c.push.new.self.items c.in_ok-task.task c.args.defs.now c.loop.counter c.loop.invariant c.in_ok-task.ensures (omega arith)
    (c.push.ensures.items ∙ ap (λ b. if b then own ++ c.in_ok-task.task ∷ [] else own) (c.is_err.ensures.negation ∙ ap not c.if-is_err.false))
