use Rattle.std.proofs.Common.{refl, ◌≡◌, ◌<◌, ◌∙◌, ◌∷◌, false, sym, ap}
use Rattle.std.specs.Prelude.{drop, is_none}
use Rattle.kern_model.specs.State.{Task, prio_of}
use Rattle.machine_model.specs.Frames.{FrameRecord, none_stands}
use Rattle.machine_model.specs.Answers.{Change}
use Rattle.machine_model.specs.Rules.{rule, FrameRuns}
use Rattle.machine_core.specs.FrameCalls.{top_of}
use Rattle.machine_core.specs.IsrStep.{HasParts}
use Rattle.machine_core.specs.MachineView.{machine_of, parts}
use Rattle.machine_core.proofs.TopLaws.{stands-top}
use Rattle.machine_core.proofs.FrameFacts.{runs-change, runs-machine, runs-kept, vector-top}
use Rattle.machine_core.proofs.machine.Machine.run_frame.Goals as goal

pub tcb-requires : goal.tcb-requires
tcb-requires g c = c.self.invariant.current

pub frame_step_by-marked-requires-clause-low : goal.frame_step_by-marked-requires-clause-low
frame_step_by-marked-requires-clause-low g c =
    let fs = c.self.inside.frames.frames in
    let stands : none_stands fs ≡ false = rw (← c.self.view_is) at c.requires.stands in
    vector-top (parts c.self.inside.method c.self.inside.kernel c.self.inside.kinds c.self.inside.ram c.self.inside.program c.self.inside.config c.self.inside.current c.self.inside.frames c.self.inside.later c.self.inside.looks c.self.inside.begun c.self.inside.s c.self.inside.t) (top_of fs) (drop 1 fs) (stands-top fs stands) c.self.invariant.parts.vectors

pub invariant_of-self : goal.invariant_of-self
invariant_of-self g c =
    let a = parts c.self.inside.method c.self.inside.kernel c.self.inside.kinds c.self.inside.ram c.self.inside.program c.self.inside.config c.self.inside.current c.self.inside.frames c.self.inside.later c.self.inside.looks c.self.inside.begun c.self.inside.s c.self.inside.t in
    let fs = a.frames.frames in
    let f : FrameRecord = top_of fs in
    let below = drop 1 fs in
    let stands : none_stands fs ≡ false = rw (← c.self.view_is) at c.requires.stands in
    let top : fs ≡ f ∷ below = stands-top fs stands in
    let r : rule a.method (machine_of a) ≡ FrameRuns f below = rw (← c.self.view_is) at c.requires.rule in
    let prio : c.tcb.result.now.prio.0 ≡ prio_of a.kernel.state a.current.0 = ap (λ (t : Task). t.prio) c.tcb.ensures.task in
    let parts : HasParts (machine_of a) a.program a.kinds c.tcb.result.now.prio.0 a.frames a.ram a.later = record { code = refl; kinds = c.self.invariant.parts.kinds; saved = sym prio; frames = refl; memory = refl; posts = refl; size = sym c.self.invariant.parts.size } in
    let by = c.frame_step_by-marked.ensures.rule (machine_of a) parts refl in
    let free : c.is_free-free.result ≡ is_none a.kernel.hand = c.is_free-free.ensures in
    let open_yet : a.t < 1000000 = rw (← c.self.view_is) at c.requires.open_yet in
    runs-kept a f below c.self.invariant top r c.frame_step_by-marked.new.kernel c.frame_step_by-marked.new.later c.frame_step_by-marked.new.frames c.frame_step_by-marked.new.ram c.below-self-inside.result c.is_free-free.result by.kernel by.posts by.frames by.memory free c.below-self-inside.ensures open_yet c.frame_step_by-marked.ensures.size

pub returns-clause-line : goal.returns-clause-line
returns-clause-line g c =
    let a = parts c.self.inside.method c.self.inside.kernel c.self.inside.kinds c.self.inside.ram c.self.inside.program c.self.inside.config c.self.inside.current c.self.inside.frames c.self.inside.later c.self.inside.looks c.self.inside.begun c.self.inside.s c.self.inside.t in
    let fs = a.frames.frames in
    let f : FrameRecord = top_of fs in
    let below = drop 1 fs in
    let stands : none_stands fs ≡ false = rw (← c.self.view_is) at c.requires.stands in
    let top : fs ≡ f ∷ below = stands-top fs stands in
    let r : rule a.method (machine_of a) ≡ FrameRuns f below = rw (← c.self.view_is) at c.requires.rule in
    let prio : c.tcb.result.now.prio.0 ≡ prio_of a.kernel.state a.current.0 = ap (λ (t : Task). t.prio) c.tcb.ensures.task in
    let parts : HasParts (machine_of a) a.program a.kinds c.tcb.result.now.prio.0 a.frames a.ram a.later = record { code = refl; kinds = c.self.invariant.parts.kinds; saved = sym prio; frames = refl; memory = refl; posts = refl; size = sym c.self.invariant.parts.size } in
    let by = c.frame_step_by-marked.ensures.rule (machine_of a) parts refl in
    let free : c.is_free-free.result ≡ is_none a.kernel.hand = c.is_free-free.ensures in
    rw (← c.self.view_is) (by.line ∙ ap (λ (d : Change). d.what) (sym (runs-change a f below c.self.invariant top r)))

pub returns-clause-machine : goal.returns-clause-machine
returns-clause-machine g c =
    let a = parts c.self.inside.method c.self.inside.kernel c.self.inside.kinds c.self.inside.ram c.self.inside.program c.self.inside.config c.self.inside.current c.self.inside.frames c.self.inside.later c.self.inside.looks c.self.inside.begun c.self.inside.s c.self.inside.t in
    let fs = a.frames.frames in
    let f : FrameRecord = top_of fs in
    let below = drop 1 fs in
    let stands : none_stands fs ≡ false = rw (← c.self.view_is) at c.requires.stands in
    let top : fs ≡ f ∷ below = stands-top fs stands in
    let r : rule a.method (machine_of a) ≡ FrameRuns f below = rw (← c.self.view_is) at c.requires.rule in
    let prio : c.tcb.result.now.prio.0 ≡ prio_of a.kernel.state a.current.0 = ap (λ (t : Task). t.prio) c.tcb.ensures.task in
    let parts : HasParts (machine_of a) a.program a.kinds c.tcb.result.now.prio.0 a.frames a.ram a.later = record { code = refl; kinds = c.self.invariant.parts.kinds; saved = sym prio; frames = refl; memory = refl; posts = refl; size = sym c.self.invariant.parts.size } in
    let by = c.frame_step_by-marked.ensures.rule (machine_of a) parts refl in
    let free : c.is_free-free.result ≡ is_none a.kernel.hand = c.is_free-free.ensures in
    rw (← c.self.view_is) (runs-machine a f below c.self.invariant top r c.frame_step_by-marked.new.kernel c.frame_step_by-marked.new.later c.frame_step_by-marked.new.frames c.frame_step_by-marked.new.ram c.below-self-inside.result c.is_free-free.result by.kernel by.posts by.frames by.memory free c.below-self-inside.ensures)
