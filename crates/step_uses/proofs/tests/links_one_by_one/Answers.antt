use Rattle.std.proofs.Common.{ℕ, [], ◌∷◌}
use Rattle.micro_steps.specs.declared.link.Link.TheVariants.{Plain}
use Rattle.micro_steps.specs.Starts.{no_lists}
use Rattle.step_uses.proofs.Tables.{links, all_of, end_of, links_paused, after_1, after_2, after_3, after_4, after_5, after_6, after_7}
use Rattle.step_uses.proofs.tests.links_one_by_one.Goals as goal

pub made-requires-clause-paused : goal.made-requires-clause-paused
made-requires-clause-paused g c =
    let ms = all_of links in let end = end_of links in
    let p1 = links_paused c.new-steps.result c.new-steps.ensures.halves c.new-steps.ensures.prios in
    (ms, no_lists, 0, after_1, end, p1)

pub made-requires-2-clause-paused : goal.made-requires-2-clause-paused
made-requires-2-clause-paused g c =
    let ms = all_of links in let end = end_of links in
    let p1 = links_paused c.new-steps.result c.new-steps.ensures.halves c.new-steps.ensures.prios in
    let n2 = c.made.ensures ms no_lists 0 after_1 end p1 in
    (ms, no_lists, n2.0, after_2, end, n2.1)

pub made-requires-3-clause-paused : goal.made-requires-3-clause-paused
made-requires-3-clause-paused g c =
    let ms = all_of links in let end = end_of links in
    let p1 = links_paused c.new-steps.result c.new-steps.ensures.halves c.new-steps.ensures.prios in
    let n2 = c.made.ensures ms no_lists 0 after_1 end p1 in
    let n3 = c.made-2.ensures ms no_lists n2.0 after_2 end n2.1 in
    (ms, no_lists, n3.0, after_3, end, n3.1)

pub made-requires-4-clause-paused : goal.made-requires-4-clause-paused
made-requires-4-clause-paused g c =
    let ms = all_of links in let end = end_of links in
    let p1 = links_paused c.new-steps.result c.new-steps.ensures.halves c.new-steps.ensures.prios in
    let n2 = c.made.ensures ms no_lists 0 after_1 end p1 in
    let n3 = c.made-2.ensures ms no_lists n2.0 after_2 end n2.1 in
    let n4 = c.made-3.ensures ms no_lists n3.0 after_3 end n3.1 in
    (ms, no_lists, n4.0, after_4, end, n4.1)

pub made-requires-5-clause-paused : goal.made-requires-5-clause-paused
made-requires-5-clause-paused g c =
    let ms = all_of links in let end = end_of links in
    let p1 = links_paused c.new-steps.result c.new-steps.ensures.halves c.new-steps.ensures.prios in
    let n2 = c.made.ensures ms no_lists 0 after_1 end p1 in
    let n3 = c.made-2.ensures ms no_lists n2.0 after_2 end n2.1 in
    let n4 = c.made-3.ensures ms no_lists n3.0 after_3 end n3.1 in
    let n5 = c.made-4.ensures ms no_lists n4.0 after_4 end n4.1 in
    (ms, no_lists, n5.0, after_5, end, n5.1)

pub made-requires-6-clause-paused : goal.made-requires-6-clause-paused
made-requires-6-clause-paused g c =
    let ms = all_of links in let end = end_of links in
    let p1 = links_paused c.new-steps.result c.new-steps.ensures.halves c.new-steps.ensures.prios in
    let n2 = c.made.ensures ms no_lists 0 after_1 end p1 in
    let n3 = c.made-2.ensures ms no_lists n2.0 after_2 end n2.1 in
    let n4 = c.made-3.ensures ms no_lists n3.0 after_3 end n3.1 in
    let n5 = c.made-4.ensures ms no_lists n4.0 after_4 end n4.1 in
    let n6 = c.made-5.ensures ms no_lists n5.0 after_5 end n5.1 in
    (ms, no_lists, n6.0, after_6, end, n6.1)

pub made-requires-7-clause-paused : goal.made-requires-7-clause-paused
made-requires-7-clause-paused g c =
    let ms = all_of links in let end = end_of links in
    let p1 = links_paused c.new-steps.result c.new-steps.ensures.halves c.new-steps.ensures.prios in
    let n2 = c.made.ensures ms no_lists 0 after_1 end p1 in
    let n3 = c.made-2.ensures ms no_lists n2.0 after_2 end n2.1 in
    let n4 = c.made-3.ensures ms no_lists n3.0 after_3 end n3.1 in
    let n5 = c.made-4.ensures ms no_lists n4.0 after_4 end n4.1 in
    let n6 = c.made-5.ensures ms no_lists n5.0 after_5 end n5.1 in
    let n7 = c.made-6.ensures ms no_lists n6.0 after_6 end n6.1 in
    (ms, no_lists, n7.0, after_7, end, n7.1)

pub made-requires-8-clause-paused : goal.made-requires-8-clause-paused
made-requires-8-clause-paused g c =
    let ms = all_of links in let end = end_of links in
    let p1 = links_paused c.new-steps.result c.new-steps.ensures.halves c.new-steps.ensures.prios in
    let n2 = c.made.ensures ms no_lists 0 after_1 end p1 in
    let n3 = c.made-2.ensures ms no_lists n2.0 after_2 end n2.1 in
    let n4 = c.made-3.ensures ms no_lists n3.0 after_3 end n3.1 in
    let n5 = c.made-4.ensures ms no_lists n4.0 after_4 end n4.1 in
    let n6 = c.made-5.ensures ms no_lists n5.0 after_5 end n5.1 in
    let n7 = c.made-6.ensures ms no_lists n6.0 after_6 end n6.1 in
    let n8 = c.made-7.ensures ms no_lists n7.0 after_7 end n7.1 in
    (ms, no_lists, n8.0, (Plain ∷ []), end, n8.1)

pub made-requires-9-clause-paused : goal.made-requires-9-clause-paused
made-requires-9-clause-paused g c =
    let ms = all_of links in let end = end_of links in
    let p1 = links_paused c.new-steps.result c.new-steps.ensures.halves c.new-steps.ensures.prios in
    let n2 = c.made.ensures ms no_lists 0 after_1 end p1 in
    let n3 = c.made-2.ensures ms no_lists n2.0 after_2 end n2.1 in
    let n4 = c.made-3.ensures ms no_lists n3.0 after_3 end n3.1 in
    let n5 = c.made-4.ensures ms no_lists n4.0 after_4 end n4.1 in
    let n6 = c.made-5.ensures ms no_lists n5.0 after_5 end n5.1 in
    let n7 = c.made-6.ensures ms no_lists n6.0 after_6 end n6.1 in
    let n8 = c.made-7.ensures ms no_lists n7.0 after_7 end n7.1 in
    let n9 = c.made-8.ensures ms no_lists n8.0 (Plain ∷ []) end n8.1 in
    (ms, no_lists, n9.0, [], end, n9.1)
