use Rattle.ucos_top.proofs.CountLaws.{few_events}
use Rattle.ucos_top.proofs.soak.events_are_few.Goals as goal

-- an image is valid
pub returns : goal.returns
returns c = few_events c.args.image.now c.args.list.now c.args.count c.code-code.ensures.valid c.requires.list c.requires.count
