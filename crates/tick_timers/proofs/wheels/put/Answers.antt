use Rattle.std.proofs.Common.{◌++◌, ◌∷◌, [], ap, ◌∙◌, arith}
use Rattle.std.proofs.lemmas.List.{map-append}
use Rattle.tick_timers.specs.Matches.{pairs}
use Rattle.tick_timers.proofs.Slots.{slots_in-set}
use Rattle.tick_timers.proofs.wheels.put.Goals as goal

pub returns-clause-lists : goal.returns-clause-lists
returns-clause-lists c =
    slots_in-set c.args.slots.now c.args.index c.push.new.self _ (λ ms. ms ++ (c.args.entry.number, c.args.entry.at) ∷ []) (omega arith) (ap pairs c.push.ensures.items ∙ map-append _ _ _)
