use Rattle.std.proofs.Common.{not, ◌==◌, rules, ap, ◌∙◌, arith}
use Rattle.arrayvec.proofs.ArrayVecLemmas.{filter-from_retain}
use Rattle.kern_model.specs.Effect.{unmatched}
use Rattle.tick_timers.specs.Matches.{pairs}
use Rattle.tick_timers.proofs.Slots.{slots_in-set, pairs-filter}
use Rattle.tick_timers.proofs.wheels.take_out.Goals as goal

pub returns-clause-lists : goal.returns-clause-lists
returns-clause-lists c =
    let left = filter-from_retain _ (λ m. not (m.number == c.args.number)) _ (λ x b f' y r. search rules) _ _ c.retain.ensures.filtered in
    slots_in-set c.args.slots.now c.args.index c.retain.new.self _ (unmatched c.args.number) (omega arith) (ap pairs left ∙ pairs-filter _ c.args.number)
