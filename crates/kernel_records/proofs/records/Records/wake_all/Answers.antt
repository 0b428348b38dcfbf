use Rattle.std.proofs.Common.{rules, ◌≡◌, ◌+◌, ◌∷◌, ◌<◌, length, ap, sym, ◌∙◌, drop, get_or, add-one, subst}
use Rattle.std.proofs.Math.Seq.{drop-cons}
use Rattle.kernel_records.specs.Concluding.{AreSingle, awakened, awakened_all, handing}
use Rattle.kernel_records.specs.RecordsRecord.{RecordsRecord}
use Rattle.kernel_records.proofs.ConcludingFacts.{given-handing, single-given}
use Rattle.kernel_records.proofs.records.Records.wake_all.Goals as goal

pub loop-task-preserved : goal.loop-task-preserved
loop-task-preserved c =
    let i = c.loop-task.task-index in
    let xs = c.args.woken.now in
    let x = get_or xs i 0 in
    let r = c.args.request.now in
    let k = c.loop-task.self.state in
    let inside : i < length xs = c.loop-task-test.true in
    let low : x < 64 = search rules in
    let next : drop i xs ≡ x ∷ drop (i + 1) xs = rw (add-one, drop-cons xs i 0) in
    let state : c.give.new.self.state ≡ awakened r x k = ap (λ (a : RecordsRecord). a.state) c.give.ensures ∙ given-handing r x k c.handed-answer.result (c.loop-task.invariant.single x low) c.handed-answer.ensures in
    record {
      rest = ap (awakened_all r (drop (i + 1) xs)) state ∙ ap (λ ys. awakened_all r ys k) (sym next) ∙ c.loop-task.invariant.rest;
      registers = ap (λ (a : RecordsRecord). a.registers) c.give.ensures ∙ c.loop-task.invariant.registers;
      single = subst AreSingle (sym state) (single-given x (handing r) k c.loop-task.invariant.single);
    }
