-- The lemmas of links and of what they keep that the kernel cites.
pub use Rattle.link_plans.proofs.Plans.Blocks.{matching_begun, wakes_begun}
pub use Rattle.link_plans.proofs.Plans.Links.{block-row, wakes-row}
pub use Rattle.link_plans.proofs.Fits.Waits.{block_fits}
pub use Rattle.link_plans.proofs.Nodes.Waiters.{ready_nowhere, waiter_can_wake}
pub use Rattle.link_plans.proofs.Nodes.Served.{block_keeps, wakes_keep}
pub use Rattle.link_plans.proofs.Fits.Woken.{all_wakes_fit}
pub use Rattle.link_plans.proofs.Nodes.Past.{links_keep}
pub use Rattle.link_plans.proofs.Calls.Follows.{block_keeps_prios, wakes_keep_prios}
pub use Rattle.link_plans.proofs.Matching.Links.{matching-row, matching_fit, matching_keep, matching_keep_prios, prio-matching}
