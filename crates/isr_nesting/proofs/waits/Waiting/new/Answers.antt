use Rattle.std.proofs.Common.{◌≡◌, ◌∙◌, ℕ, ◌<◌, ◌≤◌, false, List, length, ap, sym, subst, arith}
use Rattle.std.specs.Prelude.{replicate, slice_index}
use Rattle.std.specs.Vec.{vec_len}
use Rattle.std.proofs.lemmas.List.{length-map, length-replicate}
use Rattle.isr_nesting.specs.declared.records.Recorded.{Recorded}
use Rattle.isr_nesting.specs.declared.orders.Timed.{Timed}
use Rattle.isr_nesting.specs.Keys.{key}
use Rattle.isr_nesting.specs.Kept.{HasPlaces, IsPassed}
use Rattle.isr_nesting.specs.Order.{IsOrder, timed_at}
use Rattle.isr_nesting.specs.RecordView.{record_at, no_record, has_entered, waiting_from, task_numbers}
use Rattle.isr_nesting.proofs.LoadLaws.{none-entered, all-wait, moments_of, keys_of, places-loaded, moments-rise, passed-none}
use Rattle.isr_nesting.proofs.TaskLaws.{kept-step, kept-task}
use Rattle.isr_nesting.proofs.waits.Waiting.new.Goals as goal

pub invariant_of-result : goal.invariant_of-result
invariant_of-result c =
    let rs = c.args.recorded.items in
    let order = c.in_ok-order.order.items in
    let ps = c.in_ok-places.places.items in
    let es = c.in-Ok.entered.items in
    let few : length rs ≤ 16384 = c.requires.few in
    let none : es ≡ replicate c.len-2.result false = c.in-Ok.ensures.items_if_clones_equal (λ y h. h) in
    let long : vec_len c.args.recorded ≡ length rs = sym c.deref.ensures.len ∙ ap (λ (l : List Recorded). length l) c.deref.ensures.value in
    let size : c.len-2.result ≡ length rs = c.len-2.ensures ∙ long in
    let waits : (i : ℕ) → i < length rs → has_entered es i ≡ false = λ i h. ap (λ l. has_entered l i) none ∙ none-entered c.len-2.result i (omega (arith, h, size)) in
    let ordered : IsOrder rs order = subst (λ l. IsOrder l order) c.deref.ensures.value c.in_ok-order.ensures in
    let places : (j : ℕ) → j < length order → slice_index ps (timed_at order j).number ≡ j = subst (λ (l : List Timed). (j : ℕ) → j < length l → slice_index ps (timed_at l j).number ≡ j) c.deref-2.ensures.value c.in_ok-places.ensures.places in
    let moments : c.in_ok-moments.moments.items ≡ moments_of rs order = c.in_ok-moments.ensures ∙ ap (λ l. moments_of rs l) c.deref-3.ensures.value in
    let keys : c.in_ok-keys-2.keys ≡ keys_of rs order =
    c.in_ok-keys-2.ensures ∙ c.deref-6.ensures.value ∙ c.in_ok-keys.ensures
    ∙ ap (λ l. keys_of l c.deref-5.result.now) c.deref-4.ensures.value ∙ ap (λ l. keys_of rs l) c.deref-5.ensures.value in
    let tasks : c.in_ok-tasks.tasks.items ≡ task_numbers 0 rs = c.in_ok-tasks.ensures ∙ ap (task_numbers 0) c.deref-7.ensures.value in
    let loaded : HasPlaces rs es ps (moments_of rs order) (keys_of rs order) = places-loaded rs order es ps few waits ordered places in
    record {
      few = few;
      entered = ap length none ∙ length-replicate c.len-2.result false ∙ size;
      places = c.in_ok-places.ensures.size ∙ c.len.ensures ∙ long;
      moments = ap length moments ∙ length-map order (λ (x : Timed). x.moment) ∙ sym (ap length keys ∙ length-map order (λ (x : Timed). key (record_at rs x.number).level x.number));
      levels = λ i h. c.requires.low i no_record h;
      sorted = subst (λ ms. (i j : ℕ) → i ≤ j → j < length ms → slice_index ms i ≤ slice_index ms j) (sym moments) (moments-rise rs order es ps few waits ordered places);
      steps = subst (λ ms. HasPlaces rs es ps ms c.in_ok-keys-2.keys) (sym moments) (subst (λ ks. HasPlaces rs es ps (moments_of rs order) ks) (sym keys) loaded);
      gone = λ j h. absurd (omega arith);
      tasks = tasks;
      passed = subst (λ ts. IsPassed es ts 0) (sym tasks) (passed-none rs es waits);
      next_step = kept-step c.deref-8.result.now c.in_ok-moments.moments.items 0 c.step_at-next_step.result c.deref-8.ensures.value c.step_at-next_step.ensures;
      next_task = kept-task c.deref-9.result.now rs c.deref-10.result.now c.in_ok-tasks.tasks.items 0 c.task_at-next_task.result c.deref-9.ensures.value c.deref-10.ensures.value c.task_at-next_task.ensures;
    }

pub returns : goal.returns
returns c =
    let rs = c.args.recorded.items in
    let none : c.in-Ok.entered.items ≡ replicate c.len-2.result false = c.in-Ok.ensures.items_if_clones_equal (λ y h. h) in
    ap (λ es. waiting_from es 0 rs) none
    ∙ all-wait c.len-2.result 0 rs (omega (arith, c.len-2.ensures, c.deref.ensures.len, ap (λ (l : List Recorded). length l) c.deref.ensures.value))
