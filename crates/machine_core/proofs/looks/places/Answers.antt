use Rattle.std.proofs.Common.{ℕ, drop, replicate, ◌++◌, length, ap, ◌∙◌}
use Rattle.machine_core.proofs.ChainLaws.{left-places}
use Rattle.machine_core.proofs.looks.places.Goals as goal

pub returns : goal.returns
returns c = ap (λ xs. xs ++ drop {A = ℕ} (length c.args.tasks.now) (replicate 64 0)) c.copy_from_slice.ensures.after ∙ ap (λ ys. c.args.tasks.now ++ ys) (left-places (length c.args.tasks.now))
