use Rattle.std.proofs.Common.{◌≡◌, [], refl, replicate}
use Rattle.std.proofs.lemmas.List.{get_or-replicate}
use Rattle.links.specs.Chain.{list_at}
use Rattle.pend_multi.proofs.tests.a_task_waits_for_two_objects_and_leaves_both.Goals as goal

pub wait_on-requires-clause-nowhere : goal.wait_on-requires-clause-nowhere
wait_on-requires-clause-nowhere g c = λ o low.
    let empty : list_at (replicate 64 []) o ≡ [] = get_or-replicate 64 o [] [] low in
    rw (c.new-lists.ensures.lists.0, empty) refl
