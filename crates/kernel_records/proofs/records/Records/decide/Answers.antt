use Rattle.std.proofs.Common.{sym, ◌≡◌, false, refl, true, Some}
use Rattle.kern_base.specs.declared.errors.OsErr.TheVariants.{CallUnknown}
use Rattle.kern_model.specs.Checks.{call_error}
use Rattle.served.specs.Served.{program_serves}
use Rattle.kernel_records.specs.RecordsRecord.{with_lists}
use Rattle.kernel_records.specs.Deciding.{waiters_of}
use Rattle.kernel_records.proofs.DecidingFacts.{fails-call, row-refused}
use Rattle.kernel_records.proofs.records.Records.decide.Goals as goal

pub returns-then-not-is_served-clause-row : goal.returns-then-not-is_served-clause-row
returns-then-not-is_served-clause-row c =
    let r = c.args.request.now in
    let x = c.args.seen.now.caller.0 in
    let e : program_serves r.service ≡ false = cc in
    λ l i h a. rw (c.refuse.ensures, e) (row-refused r x h (waiters_of r x (with_lists c.args.self.now.state l)) (with_lists c.args.self.now.state l) CallUnknown refl)

pub returns-in-Some-clause-row : goal.returns-in-Some-clause-row
returns-in-Some-clause-row c =
    let r = c.args.request.now in
    let x = c.args.seen.now.caller.0 in
    let k = c.args.self.now.state in
    let s : program_serves r.service ≡ true = cc in
    let e : call_error r x k ≡ Some c.in-Some.err = sym c.in-Some.ensures in
    λ l i h a. rw (c.refuse-in-Some.ensures, s, e) (row-refused r x h (waiters_of r x (with_lists k l)) (with_lists k l) c.in-Some.err (fails-call r x k c.in-Some.err e))
