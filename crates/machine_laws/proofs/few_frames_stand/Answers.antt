-- At most seven frames stand.
use Rattle.machine_laws.proofs.Runs.Ends.{few-frames}
use Rattle.machine_laws.proofs.few_frames_stand.Goals as goal

pub returns : goal.returns
returns c = few-frames
