use Rattle.std.proofs.Common.{◌≤◌, arith}
use Rattle.program_model.specs.Words.{command_of, texts}
use Rattle.ucos_mem.proofs.AnswerLaws.{is_answer, answered}
use Rattle.ucos_mem.proofs.run_in_memory.Goals as goal

-- the answer over memory is the defined one
pub returns-in-Done : goal.returns-in-Done
returns-in-Done c =
    let page = c.new-page.result in
    let top = c.ucos_main-status in
    let source = c.new-source.ensures in
    let none : top.new.sink.faults ≤ 0 = grind (arith, c.if-has_failed.ensures) in
    rw c.into_bytes.ensures
    (answered (command_of (texts c.args.words.now)) c.args.input.items top.new.sink.held.items page.held.items top.result page.faults top.new.sink.faults c.new-page.ensures.held c.new-page.ensures.faults none (is_answer top.result c.in-Done.is)
    (rw source at top.ensures.whole) (rw source at top.ensures.whole_text) (rw source at top.ensures.refused) (rw source at top.ensures.refused_text))
