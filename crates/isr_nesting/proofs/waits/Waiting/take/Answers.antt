use Rattle.std.proofs.Common.{◌≡◌, ◌∙◌, ◌<◌, true, ap, sym, subst, length, get_or, arith}
use Rattle.std.specs.Prelude.{slice_index, slice_set}
use Rattle.std.proofs.lemmas.List.{get_or_default, length-set}
use Rattle.inject_list.specs.declared.lists.Moment.TheVariants.{Step}
use Rattle.isr_nesting.specs.declared.records.Recorded.{Recorded}
use Rattle.machine_model.specs.Due.{is_step}
use Rattle.isr_nesting.specs.Least.{nothing}
use Rattle.isr_nesting.specs.Nest.{without_number}
use Rattle.isr_nesting.specs.Kept.{HasPlaces, IsPassed}
use Rattle.isr_nesting.specs.RecordView.{record_at, no_record, task_numbers}
use Rattle.isr_nesting.proofs.WaitLaws.{waiting-here, waiting-taken}
use Rattle.isr_nesting.proofs.PlaceLaws.{places-step, passed-step, task-number}
use Rattle.isr_nesting.proofs.TaskLaws.{kept-step, kept-task}
use Rattle.isr_nesting.proofs.waits.Waiting.take.Goals as goal

pub index_mut-requires : goal.index_mut-requires
index_mut-requires c =
    let w = waiting-here c.self.inside.entered.items c.self.inside.recorded.items c.args.number c.args.self.now c.self.view_is c.requires in
    omega (arith, w.inside, c.self.invariant.entered)

pub index-requires : goal.index-requires
index-requires c =
    let w = waiting-here c.self.inside.entered.items c.self.inside.recorded.items c.args.number c.args.self.now c.self.view_is c.requires in
    omega (arith, w.inside)

pub index-requires-in-Step : goal.index-requires-in-Step
index-requires-in-Step c =
    let w = waiting-here c.self.inside.entered.items c.self.inside.recorded.items c.args.number c.args.self.now c.self.view_is c.requires in
    omega (arith, w.inside, c.self.invariant.places)

pub set-requires : goal.set-requires
set-requires c =
    let a = c.self.inside in
    let k = c.self.invariant in
    let w = waiting-here a.entered.items a.recorded.items c.args.number c.args.self.now c.self.view_is c.requires in
    let read : c.index.result.now ≡ record_at a.recorded.items c.args.number = c.index.ensures ∙ get_or_default a.recorded.items c.args.number c.index.result.now no_record w.inside in
    let step : (record_at a.recorded.items c.args.number).moment ≡ Step c.in-Step.field-0 = ap (λ (r : Recorded). r.moment) (sym read) ∙ c.in-Step.is in
    let st = k.steps.stands c.args.number c.in-Step.field-0 w.inside w.open_yet step in
    let place : c.index-in-Step.result.now ≡ slice_index a.places.items c.args.number = c.index-in-Step.ensures ∙ get_or_default a.places.items c.args.number c.index-in-Step.result.now 0 (omega (arith, w.inside, k.places)) in
    omega (arith, place, st.inside, k.moments)

pub invariant_of-self : goal.invariant_of-self
invariant_of-self c =
    let a = c.self.inside in
    let k = c.self.invariant in
    let w = waiting-here a.entered.items a.recorded.items c.args.number c.args.self.now c.self.view_is c.requires in
    let read : c.index.result.now ≡ record_at a.recorded.items c.args.number = c.index.ensures ∙ get_or_default a.recorded.items c.args.number c.index.result.now no_record w.inside in
    let step : (record_at a.recorded.items c.args.number).moment ≡ Step c.in-Step.field-0 = ap (λ (r : Recorded). r.moment) (sym read) ∙ c.in-Step.is in
    let place : c.index-in-Step.result.now ≡ slice_index a.places.items c.args.number = c.index-in-Step.ensures ∙ get_or_default a.places.items c.args.number c.index-in-Step.result.now 0 (omega (arith, w.inside, k.places)) in
    let room : c.args.number < length a.entered.items = omega (arith, w.inside, k.entered) in
    let keys : c.set.new.self ≡ slice_set a.keys (slice_index a.places.items c.args.number) nothing = c.set.ensures ∙ ap (λ n. slice_set a.keys n nothing) place in
    record {
      few = k.few;
      entered = length-set a.entered.items c.args.number true ∙ k.entered;
      places = k.places;
      moments = k.moments ∙ sym (ap length keys ∙ length-set a.keys (slice_index a.places.items c.args.number) nothing);
      levels = k.levels;
      sorted = k.sorted;
      steps = subst (λ ks. HasPlaces a.recorded.items (slice_set a.entered.items c.args.number true) a.places.items a.moments.items ks) (sym keys)
          (places-step a.recorded.items a.entered.items a.places.items a.moments.items a.keys c.args.number c.in-Step.field-0 k.few k.moments w.inside room w.open_yet step k.steps);
      gone = c.first_key-self-inside.ensures.gone;
      tasks = k.tasks;
      passed = subst (λ ts. IsPassed (slice_set a.entered.items c.args.number true) ts a.next) (sym k.tasks)
          (passed-step a.recorded.items a.entered.items a.next c.args.number room (ap is_step step) (subst (λ ts. IsPassed a.entered.items ts a.next) k.tasks k.passed));
      next_step = kept-step c.deref.result.now a.moments.items c.first_key-self-inside.result c.step_at-self-inside.result c.deref.ensures.value c.step_at-self-inside.ensures;
      next_task = k.next_task;
    }

pub first_waiting-self-inside-requires-clause-inside : goal.first_waiting-self-inside-requires-clause-inside
first_waiting-self-inside-requires-clause-inside c = λ j d h.
    let a = c.self.inside in
    let k = c.self.invariant in
    let tasks : c.deref-in-Task.result.now ≡ task_numbers 0 a.recorded.items = c.deref-in-Task.ensures.value ∙ k.tasks in
    let size : length c.deref-in-Task-2.result.now ≡ length a.entered.items = ap length c.deref-in-Task-2.ensures.value ∙ length-set a.entered.items c.args.number true in
    let inside = (task-number a.recorded.items j (omega (arith, h, ap length tasks))).0 in
    let read : get_or c.deref-in-Task.result.now j d ≡ slice_index (task_numbers 0 a.recorded.items) j = get_or_default c.deref-in-Task.result.now j d 0 h ∙ ap (λ l. slice_index l j) tasks in
    omega (arith, read, inside, size, k.entered)

pub returns-in-Step : goal.returns-in-Step
returns-in-Step c =
    let a = c.self.inside in
    let w = waiting-here a.entered.items a.recorded.items c.args.number c.args.self.now c.self.view_is c.requires in
    waiting-taken a.entered.items 0 a.recorded.items c.args.number (omega (arith, w.inside, c.self.invariant.entered)) ∙ ap (without_number c.args.number) c.self.view_is

pub returns-in-Task : goal.returns-in-Task
returns-in-Task c =
    let a = c.self.inside in
    let w = waiting-here a.entered.items a.recorded.items c.args.number c.args.self.now c.self.view_is c.requires in
    waiting-taken a.entered.items 0 a.recorded.items c.args.number (omega (arith, w.inside, c.self.invariant.entered)) ∙ ap (without_number c.args.number) c.self.view_is
