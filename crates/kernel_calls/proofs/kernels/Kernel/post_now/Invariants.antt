use Rattle.kernel_calls.proofs.PostingFacts.{IsPosting, left_in}
use Rattle.kernel_calls.proofs.kernels.Kernel.post_now.Given as goal

abbrev pub invariant-loop : goal.invariant-loop
invariant-loop g l = IsPosting l.fn.self l.self l.fn.post.service l.fn.post.args l.fn.compared.0

abbrev pub decreases-loop : goal.decreases-loop
decreases-loop g l = left_in l.self
