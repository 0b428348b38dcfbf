use Rattle.std.proofs.Common.{◌≡◌, ◌-◌, ◌++◌, length, map}
use Rattle.std.specs.Prelude.{replicate}
use Rattle.message_store.specs.StoreView.{empty_own}
use Rattle.message_store.proofs.starting.start_own.Given as goal

abbrev pub invariant-loop : goal.invariant-loop
invariant-loop l = l.own.items ≡ map (λ d. empty_own d.qsize) l.defs ++ replicate (l.counter - length l.defs) (empty_own 0)
