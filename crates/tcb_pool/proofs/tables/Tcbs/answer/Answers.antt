use Rattle.std.proofs.Common.{rules, refl, length, ◌<◌}
use Rattle.machine_model.specs.Answers.{with_answer}
use Rattle.tcb_pool.proofs.TableFacts.{table-registers}
use Rattle.tcb_pool.proofs.tables.Tcbs.answer.Goals as goal

pub returns-clause-registers : goal.returns-clause-registers
returns-clause-registers c =
    let inside : c.args.task.0 < length c.self.inside.records = search rules in
    table-registers c.self.inside.records c.args.task.0 _ c.index-self-task.result c.args.self.now (with_answer c.args.service c.args.answer) c.self.view_is inside refl c.write_answer.ensures.registers
