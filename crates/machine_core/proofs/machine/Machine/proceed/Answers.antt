use Rattle.std.proofs.Common.{refl, ◌≡◌, ◌<◌, ◌∙◌, ◌∷◌, sym, ap, subst, arith}
use Rattle.std.specs.Prelude.{drop}
use Rattle.served.specs.Served.{program_serves}
use Rattle.machine_model.specs.Frames.{FrameRecord}
use Rattle.machine_model.specs.Marks.{reads_result}
use Rattle.isr_nesting.specs.FrameView.{frame_record}
use Rattle.machine_core.specs.FrameCalls.{top_of}
use Rattle.machine_model.specs.Rules.{Rule, FrameLimit, FrameRuns, rule, rule_of_frames, raw, marks}
use Rattle.machine_core.specs.MethodMachine.{MethodMachine}
use Rattle.machine_core.specs.Valid.{changed}
use Rattle.machine_core.specs.MachineView.{machine_of, method_machine_of, parts}
use Rattle.machine_core.proofs.ComingLaws.{top-is, leaves-at-limit, runs-another}
use Rattle.machine_core.proofs.KeptLaws.{kept-step, next-same, next-more}
use Rattle.machine_core.proofs.FrameFacts.{limit-machine, limit-line, limit-kept}
use Rattle.machine_core.proofs.machine.Machine.proceed.Goals as goal

-- the frame leaves at its limit

pub invariant_of-self : goal.invariant_of-self
invariant_of-self g c =
    let a = parts c.self.inside.method c.self.inside.kernel c.self.inside.kinds c.self.inside.ram c.self.inside.program c.self.inside.config c.self.inside.current c.self.inside.frames c.self.inside.later c.self.inside.looks c.self.inside.begun c.self.inside.s c.self.inside.t in
    let f : FrameRecord = frame_record c.in-Some.frame.now in
    let below = drop 1 a.frames.frames in
    let comes : rule a.method (machine_of a) ≡ rule_of_frames a.frames.frames (machine_of a) = rw (← c.self.view_is) at c.requires.rule in
    let top : a.frames.frames ≡ f ∷ below = top-is a.frames.frames f (sym c.in-Some.ensures) in
    let limit : rule a.method (machine_of a) ≡ FrameLimit f below = leaves-at-limit a.method (machine_of a) f below comes top (omega (arith, c.if-frame-self.true)) in
    let nest : c.leave.new.self ≡ record { frames = below; waiting = a.frames.waiting } = c.leave.ensures in
    let free = c.is_free-free.ensures in
    let open_yet : a.t < 1000000 = rw (← c.self.view_is) at c.requires.open_yet in
    limit-kept a f below c.self.invariant top limit c.leave.new.self c.below-self-inside.result c.is_free-free.result nest free c.below-self-inside.ensures open_yet

pub returns-then-frame-self-clause-line : goal.returns-then-frame-self-clause-line
returns-then-frame-self-clause-line g c =
    let a = parts c.self.inside.method c.self.inside.kernel c.self.inside.kinds c.self.inside.ram c.self.inside.program c.self.inside.config c.self.inside.current c.self.inside.frames c.self.inside.later c.self.inside.looks c.self.inside.begun c.self.inside.s c.self.inside.t in
    let f : FrameRecord = frame_record c.in-Some.frame.now in
    let below = drop 1 a.frames.frames in
    let comes : rule a.method (machine_of a) ≡ rule_of_frames a.frames.frames (machine_of a) = rw (← c.self.view_is) at c.requires.rule in
    let top : a.frames.frames ≡ f ∷ below = top-is a.frames.frames f (sym c.in-Some.ensures) in
    let limit : rule a.method (machine_of a) ≡ FrameLimit f below = leaves-at-limit a.method (machine_of a) f below comes top (omega (arith, c.if-frame-self.true)) in
    let nest : c.leave.new.self ≡ record { frames = below; waiting = a.frames.waiting } = c.leave.ensures in
    let free = c.is_free-free.ensures in
    rw (← c.self.view_is) (limit-line a f below c.self.invariant top limit c.leave.new.self c.below-self-inside.result c.is_free-free.result nest free c.below-self-inside.ensures)

pub returns-then-frame-self-clause-marked : goal.returns-then-frame-self-clause-marked
returns-then-frame-self-clause-marked g c =
    let a = parts c.self.inside.method c.self.inside.kernel c.self.inside.kinds c.self.inside.ram c.self.inside.program c.self.inside.config c.self.inside.current c.self.inside.frames c.self.inside.later c.self.inside.looks c.self.inside.begun c.self.inside.s c.self.inside.t in
    let f : FrameRecord = frame_record c.in-Some.frame.now in
    let below = drop 1 a.frames.frames in
    let comes : rule a.method (machine_of a) ≡ rule_of_frames a.frames.frames (machine_of a) = rw (← c.self.view_is) at c.requires.rule in
    let top : a.frames.frames ≡ f ∷ below = top-is a.frames.frames f (sym c.in-Some.ensures) in
    let limit : rule a.method (machine_of a) ≡ FrameLimit f below = leaves-at-limit a.method (machine_of a) f below comes top (omega (arith, c.if-frame-self.true)) in
    let nest : c.leave.new.self ≡ record { frames = below; waiting = a.frames.waiting } = c.leave.ensures in
    let free = c.is_free-free.ensures in
    rw (← c.self.view_is) (sym (ap (λ (r : Rule). marks program_serves r (machine_of a)) limit))

pub returns-then-frame-self-clause-machine : goal.returns-then-frame-self-clause-machine
returns-then-frame-self-clause-machine g c =
    let a = parts c.self.inside.method c.self.inside.kernel c.self.inside.kinds c.self.inside.ram c.self.inside.program c.self.inside.config c.self.inside.current c.self.inside.frames c.self.inside.later c.self.inside.looks c.self.inside.begun c.self.inside.s c.self.inside.t in
    let f : FrameRecord = frame_record c.in-Some.frame.now in
    let below = drop 1 a.frames.frames in
    let comes : rule a.method (machine_of a) ≡ rule_of_frames a.frames.frames (machine_of a) = rw (← c.self.view_is) at c.requires.rule in
    let top : a.frames.frames ≡ f ∷ below = top-is a.frames.frames f (sym c.in-Some.ensures) in
    let limit : rule a.method (machine_of a) ≡ FrameLimit f below = leaves-at-limit a.method (machine_of a) f below comes top (omega (arith, c.if-frame-self.true)) in
    let nest : c.leave.new.self ≡ record { frames = below; waiting = a.frames.waiting } = c.leave.ensures in
    let free = c.is_free-free.ensures in
    rw (← c.self.view_is) (next-same a (record a { frames = c.leave.new.self; current = c.below-self-inside.result }) (limit-machine a f below c.self.invariant top limit c.leave.new.self c.below-self-inside.result c.is_free-free.result nest free c.below-self-inside.ensures) (ap raw limit))

-- the frame runs an instruction

pub run_frame-marked-requires-clause-rule : goal.run_frame-marked-requires-clause-rule
run_frame-marked-requires-clause-rule g c =
    let a = parts c.self.inside.method c.self.inside.kernel c.self.inside.kinds c.self.inside.ram c.self.inside.program c.self.inside.config c.self.inside.current c.self.inside.frames c.self.inside.later c.self.inside.looks c.self.inside.begun c.self.inside.s c.self.inside.t in
    let f : FrameRecord = frame_record c.in-Some.frame.now in
    let below = drop 1 a.frames.frames in
    let comes : rule a.method (machine_of a) ≡ rule_of_frames a.frames.frames (machine_of a) = rw (← c.self.view_is) at c.requires.rule in
    let top : a.frames.frames ≡ f ∷ below = top-is a.frames.frames f (sym c.in-Some.ensures) in
    let runs : rule a.method (machine_of a) ≡ FrameRuns f below = runs-another a.method (machine_of a) f below comes top (omega (arith, c.if-frame-self.false)) in
    let here : top_of a.frames.frames ≡ f = ap top_of top in
    rw (← c.self.view_is, here) runs

pub run_frame-marked-requires-clause-stands : goal.run_frame-marked-requires-clause-stands
run_frame-marked-requires-clause-stands g c =
    let fs = c.self.inside.frames.frames in
    let f : FrameRecord = frame_record c.in-Some.frame.now in
    rw (← c.self.view_is, top-is fs f (sym c.in-Some.ensures)) refl

pub run_frame-marked-requires-clause-room : goal.run_frame-marked-requires-clause-room
run_frame-marked-requires-clause-room g c =
    let a = parts c.self.inside.method c.self.inside.kernel c.self.inside.kinds c.self.inside.ram c.self.inside.program c.self.inside.config c.self.inside.current c.self.inside.frames c.self.inside.later c.self.inside.looks c.self.inside.begun c.self.inside.s c.self.inside.t in
    let f : FrameRecord = frame_record c.in-Some.frame.now in
    let here : top_of a.frames.frames ≡ f = ap top_of (top-is a.frames.frames f (sym c.in-Some.ensures)) in
    rw (← c.self.view_is, here) (omega (arith, c.if-frame-self.false))

pub invariant_of-self-2 : goal.invariant_of-self-2
invariant_of-self-2 g c =
    let b = parts c.self-2.inside.method c.self-2.inside.kernel c.self-2.inside.kinds c.self-2.inside.ram c.self-2.inside.program c.self-2.inside.config c.self-2.inside.current c.self-2.inside.frames c.self-2.inside.later c.self-2.inside.looks c.self-2.inside.begun c.self-2.inside.s c.self-2.inside.t in
    let a = parts c.self.inside.method c.self.inside.kernel c.self.inside.kinds c.self.inside.ram c.self.inside.program c.self.inside.config c.self.inside.current c.self.inside.frames c.self.inside.later c.self.inside.looks c.self.inside.begun c.self.inside.s c.self.inside.t in
    let open_yet : a.t < 1000000 = rw (← c.self.view_is) at c.requires.open_yet in
    let happened : method_machine_of b ≡ changed (method_machine_of a) = subst (λ (m : MethodMachine). method_machine_of b ≡ changed m) (sym c.self.view_is) (c.self-2.view_is ∙ c.run_frame-marked.ensures.machine) in
    let f : FrameRecord = frame_record c.in-Some.frame.now in
    let comes : rule a.method (machine_of a) ≡ rule_of_frames a.frames.frames (machine_of a) = rw (← c.self.view_is) at c.requires.rule in
    let top : a.frames.frames ≡ f ∷ drop 1 a.frames.frames = top-is a.frames.frames f (sym c.in-Some.ensures) in
    let runs : rule a.method (machine_of a) ≡ FrameRuns f (drop 1 a.frames.frames) = runs-another a.method (machine_of a) f (drop 1 a.frames.frames) comes top (omega (arith, c.if-frame-self.false)) in
    kept-step a b c.self.invariant open_yet happened c.self-2.invariant.parts (ap raw runs)

pub returns-clause-marked : goal.returns-clause-marked
returns-clause-marked g c =
    let a = parts c.self.inside.method c.self.inside.kernel c.self.inside.kinds c.self.inside.ram c.self.inside.program c.self.inside.config c.self.inside.current c.self.inside.frames c.self.inside.later c.self.inside.looks c.self.inside.begun c.self.inside.s c.self.inside.t in
    let f : FrameRecord = frame_record c.in-Some.frame.now in
    let below = drop 1 a.frames.frames in
    let comes : rule a.method (machine_of a) ≡ rule_of_frames a.frames.frames (machine_of a) = rw (← c.self.view_is) at c.requires.rule in
    let top : a.frames.frames ≡ f ∷ below = top-is a.frames.frames f (sym c.in-Some.ensures) in
    let runs : rule a.method (machine_of a) ≡ FrameRuns f below = runs-another a.method (machine_of a) f below comes top (omega (arith, c.if-frame-self.false)) in
    let told : c.run_frame-marked.result ≡ reads_result program_serves a.program (top_of a.frames.frames) = rw (← c.self.view_is) at c.run_frame-marked.ensures.marked in
    rw (← c.self.view_is) (told ∙ ap (reads_result program_serves a.program) (ap top_of top) ∙ ap (λ (r : Rule). marks program_serves r (machine_of a)) (sym runs))

pub returns-clause-machine : goal.returns-clause-machine
returns-clause-machine g c =
    let b = parts c.self-2.inside.method c.self-2.inside.kernel c.self-2.inside.kinds c.self-2.inside.ram c.self-2.inside.program c.self-2.inside.config c.self-2.inside.current c.self-2.inside.frames c.self-2.inside.later c.self-2.inside.looks c.self-2.inside.begun c.self-2.inside.s c.self-2.inside.t in
    let a = parts c.self.inside.method c.self.inside.kernel c.self.inside.kinds c.self.inside.ram c.self.inside.program c.self.inside.config c.self.inside.current c.self.inside.frames c.self.inside.later c.self.inside.looks c.self.inside.begun c.self.inside.s c.self.inside.t in
    let f : FrameRecord = frame_record c.in-Some.frame.now in
    let below = drop 1 a.frames.frames in
    let comes : rule a.method (machine_of a) ≡ rule_of_frames a.frames.frames (machine_of a) = rw (← c.self.view_is) at c.requires.rule in
    let top : a.frames.frames ≡ f ∷ below = top-is a.frames.frames f (sym c.in-Some.ensures) in
    let runs : rule a.method (machine_of a) ≡ FrameRuns f below = runs-another a.method (machine_of a) f below comes top (omega (arith, c.if-frame-self.false)) in
    let happened : method_machine_of b ≡ changed (method_machine_of a) = subst (λ (m : MethodMachine). method_machine_of b ≡ changed m) (sym c.self.view_is) (c.self-2.view_is ∙ c.run_frame-marked.ensures.machine) in
    rw (← c.self.view_is) (next-more a b happened (ap raw runs))
