use Rattle.std.proofs.Common.{◌≡◌, ◌≤◌, ◌<◌, ℕ, true, None, get_or, length, refl, sym, ap, subst, ◌∙◌, arith}
use Rattle.app_image.specs.declared.records.TaskDef.{TaskDef}
use Rattle.kern_model.specs.Micro.{Halves, whole}
use Rattle.kern_model.specs.Start.{start_state}
use Rattle.micro_steps.specs.declared.link.Link.TheVariants as link
use Rattle.micro_steps.specs.Whole.{FitsLink}
use Rattle.kernel_records.specs.RecordsRecord.{RecordsRecord}
use Rattle.kernel_calls.specs.KernelRecord.{KernelRecord}
use Rattle.kernel_calls.specs.Stepping.{HasPrios}
use Rattle.kernel_calls.proofs.StartFacts.{all_joined, count-tasks, joined_by-fits, joins_last, start_lists, started-sound, started-state}
use Rattle.kernel_calls.proofs.kernels.Kernel.new.Given.{Over}
use Rattle.kernel_calls.proofs.kernels.Kernel.new.Goals as goal

pub prios_of-requires : goal.prios_of-requires
prios_of-requires g c =
    ap (λ (r : RecordsRecord). length r.state.tasks) c.in_ok-records.ensures ∙ count-tasks c.args.image.now c.tasks-tasks.ensures.valid c.are_words.ensures

pub join_ready-requires : goal.join_ready-requires
join_ready-requires g c =
    let v = c.tasks-tasks.ensures.valid in
    let same = sym c.tasks-tasks.ensures.value in
    record {
      few = subst (λ ds. length ds ≤ 60) same v.tasks_room;
      small = subst (λ ds. (k : ℕ) (d : TaskDef) → k < length ds → (get_or ds k d).prio < 63) same (λ k d h. omega (arith, (v.tasks k d h).prio_high));
      empty = c.new-steps.ensures.halves;
      found = c.new-steps.ensures.start;
    }

pub make-requires : goal.make-requires
make-requires g c =
    let joined = all_joined c.tasks-tasks.result.now c.args.image.now.tasks c.join_ready.new.steps.halves c.join_ready.ensures.halves c.tasks-tasks.ensures.value in
    let lists = ap (λ (h : Halves). h.forward) joined in
    record {
      whole = joined ∙ ap whole (sym lists);
      node = tt;
      fits = subst (FitsLink 64 (link.Ready (record { 0 = 62 }) (record { 0 = 63 }) true)) (sym lists) (joined_by-fits (record { 0 = 62 }) (record { 0 = 63 }) true c.args.image.now.tasks (omega (arith, c.tasks-tasks.ensures.valid.tasks_room)) (omega arith) (omega arith));
    }

-- the application tasks and the idle task have joined
started : (g : Over) (c : goal.After-none g) → c.make.new.steps.halves ≡ whole (start_lists c.args.image.now.tasks)
started g c =
    let joined = all_joined c.tasks-tasks.result.now c.args.image.now.tasks c.join_ready.new.steps.halves c.join_ready.ensures.halves c.tasks-tasks.ensures.value in
    joins_last c.join_ready.new.steps.prios (record { 0 = 62 }) (record { 0 = 63 }) c.args.image.now.tasks c.join_ready.new.steps.halves c.make.new.steps.halves joined c.make.ensures.halves refl refl

has_prios : (g : Over) (c : goal.After-none g) → HasPrios c.in_ok-records.records.state c.make.new.steps.prios
has_prios g c =
    subst (HasPrios c.in_ok-records.records.state) (sym (c.make.ensures.prios ∙ c.join_ready.ensures.prios ∙ c.new-steps.ensures.prios)) c.prios_of.ensures

pub invariant_of-result : goal.invariant_of-result
invariant_of-result g c =
    started-sound c.args.image.now c.tasks-tasks.ensures.valid c.are_words.ensures c.in_ok-records.records c.make.new.steps c.in_ok-records.ensures (started g c) c.make.ensures.start (has_prios g c) c.no_plan.result _ c.none.result

pub returns : goal.returns
returns g c =
    let state = started-state c.args.image.now c.tasks-tasks.ensures.valid c.are_words.ensures c.in_ok-records.records c.make.new.steps c.in_ok-records.ensures (started g c) c.make.ensures.start (has_prios g c) in
    record {
      start =
          ap (λ k. let all : KernelRecord = record { state = k; registers = c.in_ok-records.records.registers; hand = None } in all) state
          ∙ ap (λ (r : RecordsRecord). let all : KernelRecord = record { state = start_state c.args.image.now; registers = r.registers; hand = None } in all) c.in_ok-records.ensures;
      valid = (invariant_of-result g c).valid;
    }
