use Rattle.std.proofs.Common.{sym, ap}
use Rattle.served.specs.Served.{program_serves}
use Rattle.machine_model.specs.Frames.{FrameRecord}
use Rattle.machine_model.specs.Marks.{marks_after, next_instruction, reads_result}
use Rattle.isr_nesting.specs.FrameView.{frame_record, mark_list}
use Rattle.machine_core.specs.FrameCalls.{top_of}
use Rattle.machine_core.proofs.ComingLaws.{top-is}
use Rattle.machine_core.proofs.TopLaws.{of-top}
use Rattle.machine_core.proofs.frame_steps.frame_step.Goals as goal

pub run_top-requires-clause-vector : goal.run_top-requires-clause-vector
run_top-requires-clause-vector g c = ap (λ (f : FrameRecord). f.vector) (ap top_of (top-is c.args.frames.now.frames (frame_record c.in-Some.frame.now) (sym c.in-Some.ensures)))

pub run_top-requires-clause-marks : goal.run_top-requires-clause-marks
run_top-requires-clause-marks g c = of-top (λ f. marks_after (next_instruction c.args.program.now f.registers) f.marks) c.args.frames.now.frames (mark_list c.marks_ahead-marked.result.1) c.requires.stands c.marks_ahead-marked.ensures.after

pub returns-clause-marked : goal.returns-clause-marked
returns-clause-marked g c = of-top (reads_result program_serves c.args.program.now) c.args.frames.now.frames c.marks_ahead-marked.result.0 c.requires.stands c.marks_ahead-marked.ensures.reads
