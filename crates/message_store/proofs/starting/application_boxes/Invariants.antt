use Rattle.std.proofs.Common.{◌≡◌, map, take}
use Rattle.message_store.specs.StoreView.{empty_own}
use Rattle.message_store.proofs.starting.application_boxes.Given as goal

abbrev pub invariant-loop-def : goal.invariant-loop-def
invariant-loop-def l = l.own.items ≡ map (λ d. empty_own d.qsize) (take l.def-index l.defs)
