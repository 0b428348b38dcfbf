use Rattle.std.proofs.Common.{◌≡◌, ◌+◌, ◌∷◌, ◌<◌, length, ap, sym, ◌∙◌, drop, get_or, add-one, subst}
use Rattle.std.proofs.Math.Seq.{drop-cons}
use Rattle.kernel_records.specs.Concluding.{AreSingle, looked_at, looked_at_all}
use Rattle.kernel_records.specs.RecordsRecord.{RecordsRecord}
use Rattle.kernel_records.proofs.ConcludingFacts.{single-looked}
use Rattle.kernel_records.proofs.records.Records.look_at_all.Goals as goal

pub loop-task-preserved : goal.loop-task-preserved
loop-task-preserved c =
    let i = c.loop-task.task-index in
    let xs = c.args.woken.now in
    let x = get_or xs i 0 in
    let bits = c.args.bits in
    let k = c.loop-task.self.state in
    let inside : i < length xs = c.loop-task-test.true in
    let next : drop i xs ≡ x ∷ drop (i + 1) xs = rw (add-one, drop-cons xs i 0) in
    let state : c.look_at.new.self.state ≡ looked_at bits x k = ap (λ (a : RecordsRecord). a.state) c.look_at.ensures in
    record {
      rest = ap (looked_at_all bits (drop (i + 1) xs)) state ∙ ap (λ ys. looked_at_all bits ys k) (sym next) ∙ c.loop-task.invariant.rest;
      registers = ap (λ (a : RecordsRecord). a.registers) c.look_at.ensures ∙ c.loop-task.invariant.registers;
      single = subst AreSingle (sym state) (single-looked bits x k c.loop-task.invariant.single);
    }
