use Rattle.std.proofs.Common.{◌≡◌, ◌∙◌}
use Rattle.machine_model.specs.Premises.{enters_by_step, enters_locked, loses_post, readies_interrupted}
use Rattle.method_premises.specs.PremisesView.{first_broken, premises_of}
use Rattle.method_premises.proofs.WatchLaws.{watched}
use Rattle.method_premises.proofs.watch.Premises.watch.Goals as goal

-- each premise is kept over one more event
pub returns : goal.returns
returns c events h =
    let e = c.args.event.now in
    let old = premises_of c.self.inside in
    let q1 : c.keep.new.first ≡ first_broken c.self.inside.step_interrupt (enters_by_step e.what) e.s = cc in
    let q2 : c.keep-2.new.first ≡ first_broken c.self.inside.locked_entry (enters_locked e.what) e.s = cc in
    let q3 : c.keep-3.new.first ≡ first_broken c.self.inside.answer_read e.marked e.s = cc in
    let q4 : c.keep-4.new.first ≡ first_broken c.self.inside.post_lost (loses_post e.what) e.s = cc in
    let q5 : c.keep-5.new.first ≡ first_broken c.self.inside.interrupted_readied (readies_interrupted e.what) e.s = cc in
    watched events e old c.keep.new.first c.keep-2.new.first c.keep-3.new.first c.keep-4.new.first c.keep-5.new.first (c.self.view_is ∙ h) q1 q2 q3 q4 q5
