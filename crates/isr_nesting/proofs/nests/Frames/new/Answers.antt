use Rattle.std.proofs.Common.{◌≡◌, ◌∙◌, ◌+◌, ◌≤◌, [], List, length, map, ap, sym, subst, arith, IfOk}
use Rattle.std.proofs.lemmas.List.{length-map}
use Rattle.app_image.specs.declared.records.VectorDef.{VectorDef}
use Rattle.inject_list.specs.Lists.{ListRecord}
use Rattle.inject_list.specs.declared.lists.Injection.{Injection}
use Rattle.isr_nesting.specs.declared.records.Recorded.{Recorded}
use Rattle.machine_model.specs.Frames.{Interrupt, interrupt_of, interrupts_of}
use Rattle.isr_nesting.specs.Nest.{Nest, numbered}
use Rattle.isr_nesting.specs.RecordView.{interrupt_in}
use Rattle.isr_nesting.proofs.nests.Frames.new.Goals as goal

-- as many records as interrupts of the list
few_of : (rs : List Recorded) (vs : List VectorDef) (is js : List Injection) (l : ListRecord) → map interrupt_in rs ≡ map (interrupt_of vs) is → is ≡ js → js ≡ l.injections → length l.injections + length l.looks ≤ 16384 → length rs ≤ 16384
few_of rs vs is js l e f g h =
    let long : length rs ≡ length is = sym (length-map rs interrupt_in) ∙ ap length e ∙ length-map is (interrupt_of vs) in
    omega (arith, long, ap length f, ap length g)

pub of_records-requires-clause-few : goal.of_records-requires-clause-few
of_records-requires-clause-few c =
    few_of c.in_ok-recorded.recorded.items c.vectors.result.now c.deref.result.now c.list.inside.injections.items c.args.list.now c.in_ok-recorded.ensures.interrupts c.deref.ensures.value (ap (λ (l : ListRecord). l.injections) c.list.view_is) c.requires.few

pub returns : goal.returns
returns c =
    let image = c.args.image.now in
    let same : map interrupt_in c.in_ok-recorded.recorded.items ≡ interrupts_of image c.args.list.now =
    c.in_ok-recorded.ensures.interrupts
    ∙ ap (λ vs. map (interrupt_of vs) c.deref.result.now) c.vectors.ensures.value
    ∙ ap (map (interrupt_of image.vectors)) (c.deref.ensures.value ∙ ap (λ (l : ListRecord). l.injections) c.list.view_is) in
    subst (λ (is : List Interrupt). IfOk c.of_records.result (λ (f : Nest). f ≡ record { frames = []; waiting = numbered 0 is })) same c.of_records.ensures
