use Rattle.std.proofs.Common.{◌≡◌, map, take}
use Rattle.message_store.specs.StoreView.{declared_limit, empty_queue}
use Rattle.message_store.proofs.starting.start_queues.Given as goal

abbrev pub invariant-loop-def : goal.invariant-loop-def
invariant-loop-def l = l.queues.items ≡ map (λ d. empty_queue (declared_limit d.kind d.f)) (take l.def-index l.defs)
