use Rattle.std.proofs.Common.{◌≡◌, ◌∙◌, ap, sym, arith, Some}
use Rattle.std.proofs.lemmas.List.{get_or_default}
use Rattle.isr_nesting.specs.declared.records.Recorded.{Recorded}
use Rattle.isr_nesting.specs.Nest.{waiting_at}
use Rattle.isr_nesting.specs.RecordView.{interrupt_in, record_at, no_record}
use Rattle.isr_nesting.proofs.WaitLaws.{waiting-here}
use Rattle.isr_nesting.proofs.waits.Waiting.at.Goals as goal

pub index-requires : goal.index-requires
index-requires c =
    let w = waiting-here c.self.inside.entered.items c.self.inside.recorded.items c.args.number c.args.self.now c.self.view_is c.requires in
    omega (arith, w.inside)

pub returns-clause-value : goal.returns-clause-value
returns-clause-value c =
    let rs = c.self.inside.recorded.items in
    let w = waiting-here c.self.inside.entered.items rs c.args.number c.args.self.now c.self.view_is c.requires in
    let same : c.index.result.now ≡ record_at rs c.args.number = c.index.ensures ∙ get_or_default rs c.args.number c.index.result.now no_record w.inside in
    ap (waiting_at c.args.number) (sym c.self.view_is) ∙ w.value ∙ ap (λ (r : Recorded). Some (interrupt_in r)) (sym same)

pub returns-clause-low : goal.returns-clause-low
returns-clause-low c =
    let rs = c.self.inside.recorded.items in
    let w = waiting-here c.self.inside.entered.items rs c.args.number c.args.self.now c.self.view_is c.requires in
    let same : c.index.result.now ≡ record_at rs c.args.number = c.index.ensures ∙ get_or_default rs c.args.number c.index.result.now no_record w.inside in
    omega (arith, ap (λ (r : Recorded). r.level) same, c.self.invariant.levels c.args.number w.inside)
