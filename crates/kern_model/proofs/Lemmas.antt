-- The lemmas of the kernel that the crates above cite.
pub use Rattle.kern_model.proofs.Basics.Choices.{above, and_first, and_second, at_most, choice_by, equal, less, not_false, not_less, not_true, or_either, or_first, or_second, passed_if, second_passed, unequal}
pub use Rattle.kern_model.proofs.Basics.Updates.{objects-wakes, prio_of-wakes, task-other, task-updated, update_task_at, update_task_same}
pub use Rattle.kern_model.proofs.Lists.Counts.{count-append, count-insert, count-without_other, count-without_same, length-le_by_counts}
pub use Rattle.kern_model.proofs.Lists.Members.{count-unmatched_own, list-inside, list-other, list-same}
pub use Rattle.kern_model.proofs.Halves.Blocks.{Does, after-append, changed_all-append, does_leave, does_plain, does_readied_at, does_unready, does_wait, in_order-append, plains, same_forward}
pub use Rattle.kern_model.proofs.Halves.Effects.{Leads, choice, does_move, leads-and_then, leads-blocks_on, leads-woken}
pub use Rattle.kern_model.proofs.Halves.Services.{half-effect, half-unit, leads-round_robin, leads-signals_tick}
pub use Rattle.kern_model.proofs.Linked.Calls.{NamedTask, checked_object, checked_task, linked-effect, linked-unit}
pub use Rattle.kern_model.proofs.Linked.Contents.{AllWait-pend, application-pend, inside-ready, length-matches, length-pend, length-ready, linked-finished, linked-stopped, linked-with_content}
pub use Rattle.kern_model.proofs.Linked.Moves.{again, count-again_other, length-again, linked-moved}
pub use Rattle.kern_model.proofs.Linked.ObjectServices.{AllWait-chosen, LinkedAfter, caller_ready, linked-no_object, linked-one_object, linked-waits_unless}
pub use Rattle.kern_model.proofs.Linked.Renewals.{AllMovable, above-living, inherited-own, linked-renewing, movable-moved, movable-renewed}
pub use Rattle.kern_model.proofs.Linked.TaskServices.{AllWait-due, in_ready, linked-callback_ended, linked-round_robin, linked-tick_signalled, linked-tick_wakes, tick_wakes}
pub use Rattle.kern_model.proofs.Linked.Ticks.{renew_blocks-signals, renewed-signals, signals, wakes_all-signals}
pub use Rattle.kern_model.proofs.Linked.Wakes.{AllWait-wakes, alive-declared, linked-blocked, linked-wakes, linked-wakes_all, self_equal}
pub use Rattle.kern_model.proofs.Inherit.Reached.{least-above, least-present, least-renewed}
pub use Rattle.kern_model.proofs.Cost.Blocks.{cost-blocks, cost-none, cost-woken}
pub use Rattle.kern_model.proofs.Cost.Calls.{cost-effect-le, cost-unit-le}
pub use Rattle.kern_model.proofs.Cost.Services.{chosen-le, wake_cost-le}
pub use Rattle.kern_model.proofs.Posts.Kept.{keeps-flag_wakes, keeps-posted, keeps-refl, keeps-trans, keeps-wakes, keeps-with_content}
