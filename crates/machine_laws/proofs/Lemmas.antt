-- The lemmas of the machine that the crates above cite.
pub use Rattle.machine_laws.proofs.Rules.Chosen.{applies}
pub use Rattle.machine_laws.proofs.Rules.Due.{all-taken_at, due-is}
pub use Rattle.machine_laws.proofs.Ready.Pick.{ready-below, ready-pick}
pub use Rattle.machine_laws.proofs.Valid.Settling.{IsActing}
pub use Rattle.machine_laws.proofs.Valid.Tasks.{act}
pub use Rattle.machine_laws.proofs.Valid.Events.{valid-done, valid-next, valid-start_machine}
pub use Rattle.machine_laws.proofs.Runs.Falling.{events_left-next}
pub use Rattle.machine_laws.proofs.Runs.Ends.{run-ends}
pub use Rattle.machine_laws.proofs.Counts.Steps.{entries-le}
