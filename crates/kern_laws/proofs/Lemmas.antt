-- The lemmas of the kernel's changes and of its start that the crates above cite.
pub use Rattle.kern_laws.proofs.ObjectKinds.Calls.{kinds-effect, kinds-finished, kinds-unit}
pub use Rattle.kern_laws.proofs.Services.Checks.{named_object}
pub use Rattle.kern_laws.proofs.Start.Linked.{contents-each, each, linked-start}
pub use Rattle.kern_laws.proofs.Start.Valid.{valid-start}
