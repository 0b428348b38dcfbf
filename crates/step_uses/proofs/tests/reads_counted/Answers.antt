use Rattle.std.proofs.Common.{ℕ, [], ◌∷◌}
use Rattle.micro_steps.specs.declared.link.Link.TheVariants.{Plain}
use Rattle.micro_steps.specs.Starts.{no_lists}
use Rattle.step_uses.proofs.Tables.{counted, all_of, end_of, counted_paused, still_paused, waits}
use Rattle.step_uses.proofs.tests.reads_counted.Goals as goal

pub whole-requires-clause-paused : goal.whole-requires-clause-paused
whole-requires-clause-paused g c =
    let ms = all_of counted in let end = end_of counted in
    let p1 = counted_paused c.new-steps.result c.new-steps.ensures.halves c.new-steps.ensures.prios in
    (ms, no_lists, 0, (waits 15 10 ∷ waits 16 30 ∷ Plain ∷ []), end, p1)

pub whole-requires-2-clause-paused : goal.whole-requires-2-clause-paused
whole-requires-2-clause-paused g c =
    let ms = all_of counted in let end = end_of counted in
    let p1 = counted_paused c.new-steps.result c.new-steps.ensures.halves c.new-steps.ensures.prios in
    let n2 = c.whole.ensures ms no_lists 0 (waits 15 10 ∷ waits 16 30 ∷ Plain ∷ []) end p1 in
    let p2 = still_paused ms n2.0 (waits 15 10 ∷ waits 16 30 ∷ Plain ∷ []) end c.whole.new.steps c.close.new.self c.close.ensures.kept.0 c.close.ensures.kept.1 n2.1 in
    (ms, no_lists, n2.0, (waits 16 30 ∷ Plain ∷ []), end, p2)

pub whole-requires-3-clause-paused : goal.whole-requires-3-clause-paused
whole-requires-3-clause-paused g c =
    let ms = all_of counted in let end = end_of counted in
    let p1 = counted_paused c.new-steps.result c.new-steps.ensures.halves c.new-steps.ensures.prios in
    let n2 = c.whole.ensures ms no_lists 0 (waits 15 10 ∷ waits 16 30 ∷ Plain ∷ []) end p1 in
    let p2 = still_paused ms n2.0 (waits 15 10 ∷ waits 16 30 ∷ Plain ∷ []) end c.whole.new.steps c.close.new.self c.close.ensures.kept.0 c.close.ensures.kept.1 n2.1 in
    let n3 = c.whole-2.ensures ms no_lists n2.0 (waits 16 30 ∷ Plain ∷ []) end p2 in
    let p3 = still_paused ms n3.0 (waits 16 30 ∷ Plain ∷ []) end c.whole-2.new.steps c.close-2.new.self c.close-2.ensures.kept.0 c.close-2.ensures.kept.1 n3.1 in
    (ms, no_lists, n3.0, (Plain ∷ []), end, p3)

pub whole-requires-4-clause-paused : goal.whole-requires-4-clause-paused
whole-requires-4-clause-paused g c =
    let ms = all_of counted in let end = end_of counted in
    let p1 = counted_paused c.new-steps.result c.new-steps.ensures.halves c.new-steps.ensures.prios in
    let n2 = c.whole.ensures ms no_lists 0 (waits 15 10 ∷ waits 16 30 ∷ Plain ∷ []) end p1 in
    let p2 = still_paused ms n2.0 (waits 15 10 ∷ waits 16 30 ∷ Plain ∷ []) end c.whole.new.steps c.close.new.self c.close.ensures.kept.0 c.close.ensures.kept.1 n2.1 in
    let n3 = c.whole-2.ensures ms no_lists n2.0 (waits 16 30 ∷ Plain ∷ []) end p2 in
    let p3 = still_paused ms n3.0 (waits 16 30 ∷ Plain ∷ []) end c.whole-2.new.steps c.close-2.new.self c.close-2.ensures.kept.0 c.close-2.ensures.kept.1 n3.1 in
    let n4 = c.whole-3.ensures ms no_lists n3.0 (Plain ∷ []) end p3 in
    let p4 = still_paused ms n4.0 (Plain ∷ []) end c.whole-3.new.steps c.close-3.new.self c.close-3.ensures.kept.0 c.close-3.ensures.kept.1 n4.1 in
    (ms, no_lists, n4.0, [], end, p4)
