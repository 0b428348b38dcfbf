use Rattle.std.proofs.Common.{◌≡◌, ap, sym, ◌∙◌, arith, inl, inr, rules, below_more}
use Rattle.std.proofs.Math.ListN.{set}
use Rattle.std.proofs.lemmas.List.{length-set, get_or-set_same, get_or-set_other, get_or_past}
use Rattle.std.proofs.lemmas.Bool.{cases_lt}
use Rattle.kern_base.specs.declared.numbers.Prio.{Prio}
use Rattle.kern_model.specs.State.{Task, no_task, prio_of}
use Rattle.micro_steps.specs.Blocks.{no_prio, prio_in}
use Rattle.kernel_calls.proofs.starting.prios_of.Goals as goal

pub loop-task-init : goal.loop-task-init
loop-task-init c = record { count = search rules; below = λ x h. absurd (omega arith) }

pub loop-task-preserved : goal.loop-task-preserved
loop-task-preserved c =
    let i = c.loop-task.task in
    let ps = c.loop-task.prios in
    let p = c.tcb.result.now.prio in
    record {
      count = length-set ps i p ∙ c.loop-task.invariant.count;
      below = below_more (λ x. prio_in (set ps i p) x ≡ prio_of c.args.records.now.state x) i
          (λ x h. ap (λ (q : Prio). q.0) (get_or-set_other ps i x p no_prio (λ e. absurd (omega (arith, e, h)))) ∙ c.loop-task.invariant.below x h)
          (ap (λ (q : Prio). q.0) (get_or-set_same ps i p no_prio (omega (arith, c.loop-task.invariant.count))) ∙ ap (λ (t : Task). t.prio) c.tcb.ensures.task);
    }

pub returns : goal.returns
returns c x =
    elim (cases_lt x 64) [
      | inl h ↦ c.loop-task.invariant.below x (omega arith)
      | inr h ↦
          ap (λ (p : Prio). p.0) (get_or_past c.loop-task.prios x no_prio (omega (arith, c.loop-task.invariant.count, h)))
          ∙ sym (ap (λ (t : Task). t.prio) (get_or_past c.args.records.now.state.tasks x no_task (omega (arith, c.requires, h))))
    ]
