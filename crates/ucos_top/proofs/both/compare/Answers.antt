use Rattle.std.proofs.Common.{◌≡◌, false, true, ◌∙◌, sym, inr}
use Rattle.kern_base.specs.declared.kinds.Method.TheVariants.{Direct, Deferred}
use Rattle.machine_model.specs.Premises.{is_broken}
use Rattle.program_model.specs.Both.{run_of}
use Rattle.program_model.specs.Answer.{compared}
use Rattle.ucos_top.proofs.CompareLaws.{compared_ends}
use Rattle.ucos_top.proofs.HeldLaws.{one_history}
use Rattle.ucos_top.proofs.both.compare.Goals as goal

-- a premise is broken in the deferred run
pub returns-in-Ok-true-clause-status : goal.returns-in-Ok-true-clause-status
returns-in-Ok-true-clause-status g c =
    let broken : true ≡ is_broken (run_of Deferred c.args.image.now c.args.list.now c.args.count) =
    sym c.in-Ok-true.field-0-test ∙ c.in-Ok-true.ensures.broken c.args.list.now c.in-Ok-load.ensures.start in
    inr (inr (compared_ends true c.args.image.now c.args.list.now c.args.count broken))

-- both histories are written, the premises and the raw steps
pub returns-in-Ok-true-clause-broken_text : goal.returns-in-Ok-true-clause-broken_text
unfolding compared
returns-in-Ok-true-clause-broken_text g c = λ done. c.in-Ok-true.ensures.bytes c.args.list.now c.in-Ok.ensures.start c.in-Ok-load.ensures.start

-- no premise is broken
pub returns-in-Ok-false-clause-status : goal.returns-in-Ok-false-clause-status
returns-in-Ok-false-clause-status g c =
    let held : false ≡ is_broken (run_of Deferred c.args.image.now c.args.list.now c.args.count) =
    sym c.in-Ok-false.field-0-test ∙ c.in-Ok-false.ensures.broken c.args.list.now c.in-Ok-load.ensures.start in
    inr (inr (compared_ends false c.args.image.now c.args.list.now c.args.count held))

pub returns-in-Ok-false-clause-whole_text : goal.returns-in-Ok-false-clause-whole_text
unfolding compared
returns-in-Ok-false-clause-whole_text g c = λ done. c.in-Ok-false.ensures.bytes c.args.list.now c.in-Ok.ensures.start c.in-Ok-load.ensures.start

-- by the law of the two methods the two histories are one
pub returns-in-Ok-false-clause-one_history : goal.returns-in-Ok-false-clause-one_history
returns-in-Ok-false-clause-one_history g c =
    let image = c.args.image.now in
    let list = c.args.list.now in
    let held : is_broken (run_of Deferred image list c.args.count) ≡ false =
    sym (c.in-Ok-false.ensures.broken list c.in-Ok-load.ensures.start) ∙ c.in-Ok-false.field-0-test in
    λ done. one_history image (run_of Direct image list c.args.count) (run_of Deferred image list c.args.count) (g.K.Sink.held c.args.sink.now) (g.K.Sink.held c.write_both.new.sink) held
    (c.histories_agree.ensures held).one_history (c.in-Ok-false.ensures.bytes list c.in-Ok.ensures.start c.in-Ok-load.ensures.start)

-- a prefix of them is written
pub returns-in-Err-clause-write_fault_text : goal.returns-in-Err-clause-write_fault_text
unfolding compared
returns-in-Err-clause-write_fault_text g c = λ fault. c.in-Err.ensures.bytes c.args.list.now c.in-Ok.ensures.start c.in-Ok-load.ensures.start
