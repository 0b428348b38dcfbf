use Rattle.std.proofs.Common.{ap, sym, ◌∙◌, arith}
use Rattle.std.specs.Prelude.{slice_index}
use Rattle.std.proofs.lemmas.Grind.{common_steps}
use Rattle.kern_model.specs.State.{Content}
use Rattle.message_store.specs.Store.{queue_at}
use Rattle.kernel_records.specs.TimerCalls.{counted_in, timer_decision}
use Rattle.kernel_records.specs.RecordsView.{state_of}
use Rattle.kernel_records.proofs.ObjectCalls.{content-is, inside}
use Rattle.kernel_records.proofs.records.Records.decide_on_timer.Goals as goal

pub index-object-requires : goal.index-object-requires
index-object-requires c =
    let here = inside c.self.inside c.args.request.now c.self.invariant (rw (← c.self.view_is) at c.requires.object) in
    grind (arith, common_steps)

pub overflow_cast-number-2 : goal.overflow_cast-number-2
overflow_cast-number-2 c =
    let here = inside c.self.inside c.args.request.now c.self.invariant (rw (← c.self.view_is) at c.requires.object) in
    omega (arith, here, c.self.invariant.few)

pub decide_by-requires-clause-number : goal.decide_by-requires-clause-number
decide_by-requires-clause-number c =
    let here = inside c.self.inside c.args.request.now c.self.invariant (rw (← c.self.view_is) at c.requires.object) in
    omega (arith, here, c.self.invariant.few)

pub returns : goal.returns
returns c =
    let a = c.self.inside in
    let r = c.args.request.now in
    let n = slice_index r.args 0 in
    rw (← c.self.view_is)
    (c.decide_by.ensures (queue_at a.messages n)
    ∙ ap (λ (x : Content). timer_decision r.service x n (counted_in (state_of a)))
    (sym (content-is a r c.self.invariant (rw (← c.self.view_is) at c.requires.object) c.index-object.result.now _ c.index-object.ensures)))
