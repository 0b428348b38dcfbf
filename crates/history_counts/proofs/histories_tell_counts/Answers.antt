use Rattle.history_counts.proofs.Counts as counts
use Rattle.history_counts.proofs.histories_tell_counts.Goals as goal

-- the law, whole
pub returns : goal.returns
returns c = counts.histories_tell_counts
