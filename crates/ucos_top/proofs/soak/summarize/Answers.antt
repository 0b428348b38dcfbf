use Rattle.std.proofs.Common.{◌≡◌, ℕ, true, false, sym, inr}
use Rattle.kern_base.specs.declared.kinds.Method.TheVariants.{Direct, Deferred}
use Rattle.machine_model.specs.Premises.{is_broken}
use Rattle.program_model.specs.Answer.{summed}
use Rattle.program_model.specs.Both.{Runs, run_of}
use Rattle.program_model.specs.Generated.{steps_for}
use Rattle.ucos_top.specs.Counted.{IsCountOf}
use Rattle.ucos_top.specs.Told.{AreToldAlike}
use Rattle.ucos_top.proofs.CompareLaws.{compared_ends}
use Rattle.ucos_top.proofs.soak.summarize.Goals as goal

-- a prefix of the summary is written
pub returns-in-Err-clause-write_fault_text : goal.returns-in-Err-clause-write_fault_text
unfolding summed
returns-in-Err-clause-write_fault_text g c =
    let image = c.args.image.now in
    let list = c.args.list.now in
    let count : ℕ = steps_for c.args.size in
    let d : IsCountOf c.count_run-direct.result (run_of Direct image list count) = rw (c.in-Ok.ensures.method, c.steps_for-count.ensures.value) at (c.count_run-direct.ensures.counted image list c.in-Ok.ensures.start) in
    let f : IsCountOf c.count_run-deferred.result (run_of Deferred image list count) = rw (c.in-Ok-load.ensures.method, c.steps_for-count.ensures.value) at (c.count_run-deferred.ensures.counted image list c.in-Ok-load.ensures.start) in
    let runs : Runs = record { direct = run_of Direct image list count; deferred = run_of Deferred image list count } in
    λ status. c.in-Err.ensures.bytes runs d f

-- a premise is broken in the deferred run
pub returns-in-Ok-write_summary-clause-status : goal.returns-in-Ok-write_summary-clause-status
returns-in-Ok-write_summary-clause-status g c =
    let image = c.args.image.now in
    let list = c.args.list.now in
    let count : ℕ = steps_for c.args.size in
    let f : IsCountOf c.count_run-deferred.result (run_of Deferred image list count) = rw (c.in-Ok-load.ensures.method, c.steps_for-count.ensures.value) at (c.count_run-deferred.ensures.counted image list c.in-Ok-load.ensures.start) in
    let told : true ≡ is_broken (run_of Deferred image list count) = c.if-is_broken.ensures (run_of Deferred image list count) f.premises in
    inr (inr (compared_ends true image list count told))

-- the summary is written
pub returns-in-Ok-write_summary-clause-broken_text : goal.returns-in-Ok-write_summary-clause-broken_text
unfolding summed
returns-in-Ok-write_summary-clause-broken_text g c =
    let image = c.args.image.now in
    let list = c.args.list.now in
    let count : ℕ = steps_for c.args.size in
    let d : IsCountOf c.count_run-direct.result (run_of Direct image list count) = rw (c.in-Ok.ensures.method, c.steps_for-count.ensures.value) at (c.count_run-direct.ensures.counted image list c.in-Ok.ensures.start) in
    let f : IsCountOf c.count_run-deferred.result (run_of Deferred image list count) = rw (c.in-Ok-load.ensures.method, c.steps_for-count.ensures.value) at (c.count_run-deferred.ensures.counted image list c.in-Ok-load.ensures.start) in
    let runs : Runs = record { direct = run_of Direct image list count; deferred = run_of Deferred image list count } in
    λ status. c.in-Ok-write_summary.ensures.bytes runs d f

-- no premise is broken
pub returns-in-Ok-2-clause-status : goal.returns-in-Ok-2-clause-status
returns-in-Ok-2-clause-status g c =
    let image = c.args.image.now in
    let list = c.args.list.now in
    let count : ℕ = steps_for c.args.size in
    let f : IsCountOf c.count_run-deferred.result (run_of Deferred image list count) = rw (c.in-Ok-load.ensures.method, c.steps_for-count.ensures.value) at (c.count_run-deferred.ensures.counted image list c.in-Ok-load.ensures.start) in
    let told : false ≡ is_broken (run_of Deferred image list count) = c.if-is_broken.ensures (run_of Deferred image list count) f.premises in
    inr (inr (compared_ends false image list count told))

-- the summary is written
pub returns-in-Ok-2-clause-whole_text : goal.returns-in-Ok-2-clause-whole_text
unfolding summed
returns-in-Ok-2-clause-whole_text g c =
    let image = c.args.image.now in
    let list = c.args.list.now in
    let count : ℕ = steps_for c.args.size in
    let d : IsCountOf c.count_run-direct.result (run_of Direct image list count) = rw (c.in-Ok.ensures.method, c.steps_for-count.ensures.value) at (c.count_run-direct.ensures.counted image list c.in-Ok.ensures.start) in
    let f : IsCountOf c.count_run-deferred.result (run_of Deferred image list count) = rw (c.in-Ok-load.ensures.method, c.steps_for-count.ensures.value) at (c.count_run-deferred.ensures.counted image list c.in-Ok-load.ensures.start) in
    let runs : Runs = record { direct = run_of Direct image list count; deferred = run_of Deferred image list count } in
    λ status. c.in-Ok-2.ensures.bytes runs d f

-- by the law of the two methods the two histories are one, and so are their counts
pub returns-in-Ok-2-clause-one_history : goal.returns-in-Ok-2-clause-one_history
returns-in-Ok-2-clause-one_history g c =
    let image = c.args.image.now in
    let list = c.args.list.now in
    let count : ℕ = steps_for c.args.size in
    let f : IsCountOf c.count_run-deferred.result (run_of Deferred image list count) = rw (c.in-Ok-load.ensures.method, c.steps_for-count.ensures.value) at (c.count_run-deferred.ensures.counted image list c.in-Ok-load.ensures.start) in
    let held : false ≡ is_broken (run_of Deferred image list count) = c.if-is_broken.ensures (run_of Deferred image list count) f.premises in
    let agree : is_broken (run_of Deferred image list count) ≡ false → AreToldAlike image (run_of Deferred image list count) (run_of Direct image list count) =
    rw c.steps_for-count.ensures.value at c.histories_agree.ensures in
    λ done. agree (sym held)
