use Rattle.std.proofs.Common.{rules}
use Rattle.diagnostics.proofs.Kept.{kept_more}
use Rattle.diagnostics.proofs.keeping.KeepingSink.keep.Goals as goal

-- what was appended is what there was room for
pub returns-clause-kept : goal.returns-clause-kept
returns-clause-kept g c = search (rules, kept_more)
