use Rattle.std.proofs.Common.{length}
use Rattle.call_checks.proofs.refusals.+are_pollable.Given as goal

abbrev pub decreases-are_pollable : goal.decreases-are_pollable
decreases-are_pollable l = length l.objects.now
