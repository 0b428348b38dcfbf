-- What was planned of a work can be made in the records at its last micro-step.
use Rattle.std.proofs.Common.{◌≡◌, ℕ, ◌<◌, List, refl, sym, ap, ◌∙◌, subst, Bool, true, false}
use Rattle.std.specs.Prelude.{All as AllOf, if◌then◌else◌}
use Rattle.kern_base.specs.declared.requests.Request.{Request}
use Rattle.kern_base.specs.declared.outcomes.Decision.{Decision}
use Rattle.kern_base.specs.declared.outcomes.Decision.TheVariants.{Block}
use Rattle.kern_model.specs.State.{Kernel}
use Rattle.kern_model.specs.Micro.{Lists, lists_of}
use Rattle.kern_model.specs.Valid.{IsLinked}
use Rattle.link_plans.specs.declared.plan.Plan.{Plan}
use Rattle.tick_timers.specs.Matches.{IsUnmatched}
use Rattle.kernel_records.specs.Ticks.{is_tick}
use Rattle.kernel_records.specs.Served.{IsServed}
use Rattle.kernel_records.proofs.WaitFacts.{decision-lists}
use Rattle.kernel_calls.specs.Works.{MayBegin, WorkRecord, stepped}
use Rattle.kernel_calls.specs.Ending.{Course, OfCall, OfTick, OfUnit, MayEnd, course_for, course_of}
use Rattle.kernel_calls.specs.Stepping.{IsPlannedAs, MayWork}
use Rattle.kernel_calls.specs.KernelView.{state_with}
use Rattle.kernel_calls.specs.declared.seen.Seen.{Seen}
use Rattle.kernel_calls.proofs.BeginFacts.{caller-unmatched}
use Rattle.kernel_calls.proofs.CourseFacts.{a-call}
use Rattle.kernel_calls.proofs.ServedFacts.{all-single}
use Rattle.kernel_calls.proofs.StepFacts.{IsSamePlan}

pub may-end : (c : Course) (w : WorkRecord) (q : Plan) (seen : Seen) (rs : Kernel) (start : Lists) → c ≡ course_of w → IsLinked (state_with rs start) → IsServed (state_with rs start) → w.caller < 64 → MayWork w.unit w (state_with rs start) → IsPlannedAs c w q seen (state_with rs start) → MayEnd c w q seen rs
may-end OfCall w q seen rs start e v s low m h =
    let k = state_with rs start in
    let is = a-call w.unit (is_tick w.request.service) e in
    let may : MayBegin w.caller w.request k = subst (λ b. MayWork b w k) is.0 m in
    record {
      call = is.1;
      caller = subst (λ x. x < 64) (sym h.who) low;
      decided = h.decision ∙ sym (decision-lists w.request seen.around rs (lists_of k));
      served = h.served;
      nesting = λ x. (v.tasks.each_task x).suspended;
      woken = h.woken_below;
      single = all-single k v s;
      fresh = λ d. subst (λ x. IsUnmatched x k.matches) (sym h.who) (caller-unmatched w q seen.around k v may h d);
      objects = subst (AllOf (λ o. o < 64)) h.objects h.objects_below;
    }
may-end OfTick w q seen rs start e v s low m h = (record { tick = h.room.tick; timer = h.room.timer }, h.inside)
may-end OfUnit w q seen rs start e v s low m h = (h.woken_below, all-single (state_with rs start) v s)

-- so it is with the same plan a micro-step later
pub may-end-same : (w v : WorkRecord) (q p : Plan) (seen : Seen) (rs : Kernel) → v ≡ stepped w → IsSamePlan q p → MayEnd (course_of w) w q seen rs → MayEnd (course_of v) v p seen rs
may-end-same w v q p seen rs e same m = subst (λ u. MayEnd (course_of u) u p seen rs) (sym e) (by (course_of w) m)
  where
    by : (c : Course) → MayEnd c w q seen rs → MayEnd c (stepped w) p seen rs
    by OfCall h =
        record {
          call = h.call;
          caller = h.caller;
          decided = rw same.decision h.decided;
          served = rw same.decision h.served;
          nesting = h.nesting;
          woken = rw same.woken h.woken;
          single = h.single;
          fresh = rw same.decision h.fresh;
          objects = rw same.decision h.objects;
        }
    by OfTick h = h
    by OfUnit h = (rw same.woken h.0, h.1)
