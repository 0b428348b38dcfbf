use Rattle.std.proofs.Common.{rules, ◌≡◌, ◌+◌, ◌∷◌, ◌<◌, ap, sym, ◌∙◌, length, drop, get_or, add-one, subst}
use Rattle.std.proofs.Math.Seq.{drop-cons}
use Rattle.kern_model.specs.Time.{timed_out}
use Rattle.kernel_records.specs.Concluding.{AreSingle, given}
use Rattle.kernel_records.specs.RecordsRecord.{RecordsRecord}
use Rattle.kernel_records.specs.Ticks.{timed_out_all}
use Rattle.kernel_records.proofs.ConcludingFacts.{single-given}
use Rattle.kernel_records.proofs.records.Records.end_waits.Goals as goal

pub loop-task-preserved : goal.loop-task-preserved
loop-task-preserved c =
    let i = c.loop-task.task-index in
    let xs = c.args.woken.now in
    let x = get_or xs i 0 in
    let k = c.loop-task.self.state in
    let inside : i < length xs = c.loop-task-test.true in
    let low : x < 64 = search rules in
    let next : drop i xs ≡ x ∷ drop (i + 1) xs = rw (add-one, drop-cons xs i 0) in
    let state : c.end_wait.new.self.state ≡ given x (λ t. timed_out t.waiting t) k = ap (λ (a : RecordsRecord). a.state) c.end_wait.ensures in
    record {
      rest = ap (timed_out_all (drop (i + 1) xs)) state ∙ ap (λ ys. timed_out_all ys k) (sym next) ∙ c.loop-task.invariant.rest;
      registers = ap (λ (a : RecordsRecord). a.registers) c.end_wait.ensures ∙ c.loop-task.invariant.registers;
      single = subst AreSingle (sym state) (single-given x (λ t. timed_out t.waiting t) k c.loop-task.invariant.single);
    }
