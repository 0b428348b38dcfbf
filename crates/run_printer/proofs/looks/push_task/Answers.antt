use Rattle.std.proofs.Common.{◌≡◌, ◌≤◌, length, decimal, ap, arith, length-append}
use Rattle.std.proofs.lemmas.Fmt.{length-decimal-le}
use Rattle.run_printer.proofs.looks.push_task.Goals as goal

-- a blank, and at most two digits
pub returns-clause-len : goal.returns-clause-len
returns-clause-len c =
    let digits : length (decimal c.args.task) ≤ 2 = length-decimal-le 2 c.args.task (omega arith) (omega arith) (omega arith) in
    let same : c.from.result ≡ c.args.task = cc in
    omega (arith, digits, rw same at (simp length-append at (ap length c.push_number.ensures.items)))
