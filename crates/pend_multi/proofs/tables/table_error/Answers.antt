use Rattle.std.proofs.Common.{◌≤◌, ◌∙◌, sym, length, take, length-take, arith}
use Rattle.kern_model.specs.Several.{table_objects}
use Rattle.pend_multi.proofs.TableLaws.{ids-from}
use Rattle.pend_multi.proofs.tables.table_error.Goals as goal

pub returns-clause-ids : goal.returns-clause-ids
returns-clause-ids c = λ none room.
    let r = c.args.request.now in
    let few : length (take r.n_ids r.ids) ≤ 8 = simp length-take (omega arith) in
    ids-from (table_objects r) c.args.kinds.now few room (sym c.repeats.ensures ∙ c.if-repeats.false) (sym c.kind_error.ensures ∙ none)
