use Rattle.pend_multi.proofs.Entries.{Made}
use Rattle.pend_multi.proofs.results.taken_result.Given as goal

abbrev pub invariant-loop-index : goal.invariant-loop-index
invariant-loop-index l = Made l.entries l.index l.count l.ready l.msgs
