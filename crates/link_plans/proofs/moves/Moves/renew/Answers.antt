use Rattle.std.proofs.Common.{arith, ap, ◌∙◌, ◌≡◌}
use Rattle.kern_model.specs.Inherit.{numbers}
use Rattle.link_plans.specs.Told.{moves_told}
use Rattle.link_plans.proofs.Renewals.Told.{told-next, told-room, all-told, all-moves, all-low}
use Rattle.link_plans.proofs.moves.Moves.renew.Goals as goal

pub add-requires-clause-room : goal.add-requires-clause-room
add-requires-clause-room c =
    let few = told-room c.args.tasks.now.tasks c.args.inherited.now c.args.standings.now c.loop-task.task c.loop-task.self.moves.items c.loop-task.invariant.moves in
    omega (arith, few)

pub loop-task-preserved : goal.loop-task-preserved
loop-task-preserved c =
    record {
      moves = told-next c.args.tasks.now.tasks c.args.inherited.now c.args.standings.now c.loop-task.task c.loop-task.self.moves.items c.add.new.self.moves.items c.loop-task.invariant.moves c.add.ensures.moves;
      tail = c.add.ensures.kept.0 ∙ c.loop-task.invariant.tail;
      task = c.add.ensures.kept.1 ∙ c.loop-task.invariant.task;
      made = c.add.ensures.kept.2 ∙ c.loop-task.invariant.made;
    }

pub add-requires-2-clause-room : goal.add-requires-2-clause-room
add-requires-2-clause-room c =
    let few = told-room c.args.tasks.now.tasks c.args.inherited.now c.args.standings.now c.loop-task.task c.loop-task.self.moves.items c.loop-task.invariant.moves in
    omega (arith, few)

pub returns : goal.returns
returns c =
    let ts = c.args.tasks.now.tasks in let ps = c.args.inherited.now in let ss = c.args.standings.now in let ms = c.loop-task.self.moves.items in
    let sixty : c.loop-task.task ≡ 60 = omega arith in
    let first : ms ≡ moves_told ts ps ss (numbers 0 60) = c.loop-task.invariant.moves ∙ ap (λ n. moves_told ts ps ss (numbers 0 n)) sixty in
    let all = all-told ts ps ss ms c.add-2.new.self.moves.items first c.add-2.ensures.moves in
    record {
      moves = λ k told. all-moves ts ps ss c.add-2.new.self.moves.items k all told;
      movers = all-low ts ps ss c.add-2.new.self.moves.items all;
      fresh = (c.add-2.ensures.kept.0 ∙ c.loop-task.invariant.tail, c.add-2.ensures.kept.1 ∙ c.loop-task.invariant.task, c.add-2.ensures.kept.2 ∙ c.loop-task.invariant.made);
    }
