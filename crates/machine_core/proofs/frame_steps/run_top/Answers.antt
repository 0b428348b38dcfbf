use Rattle.std.proofs.Common.{refl, ℕ, ◌≡◌, ◌∙◌, false, true, sym, ap}
use Rattle.std.specs.Prelude.{◌==◌, drop}
use Rattle.kern_base.specs.Numbers.{leave}
use Rattle.rv32_exec.specs.Registers.{Registers}
use Rattle.rv32_exec.specs.Exec.{Execution, exec}
use Rattle.rv32_exec.specs.declared.Stepped.{Stepped}
use Rattle.rv32_exec.specs.declared.Stepped.TheVariants.{Next, Call, Trap, Stored}
use Rattle.machine_model.specs.Frames.{FrameRecord, none_stands}
use Rattle.machine_model.specs.Marks.{marks_after, next_instruction}
use Rattle.machine_model.specs.declared.events.How.TheVariants as how
use Rattle.machine_model.specs.declared.events.What.TheVariants.{Exit}
use Rattle.isr_nesting.specs.FrameView.{mark_list}
use Rattle.machine_core.specs.FrameCalls.{FrameCall, top_of, step_by, frame_stepped}
use Rattle.machine_core.proofs.QuietExec.{quiet-next, quiet-call, quiet-trap}
use Rattle.machine_core.proofs.TopLaws.{of-top, ran-nest, ran-registers, counted, left, called-is, called-nest}
use Rattle.machine_core.proofs.frame_steps.run_top.Goals as goal

-- the frame has returned

pub returns-in-Next-clause-line : goal.returns-in-Next-clause-line
returns-in-Next-clause-line g c =
    let fs = c.args.frames.now.frames in
    let f : FrameRecord = top_of fs in
    let below = drop 1 fs in
    let e : Execution = exec c.args.program.now f.registers c.args.ram.now in
    let stands : none_stands fs ≡ false = c.requires.stands in
    let ran = ran-nest c.args.program.now c.args.ram.now c.args.frames.now c.run_top.new.self stands c.run_top.ensures.frames in
    let memory : c.run_top.new.ram ≡ e.memory = of-top (λ g. (exec c.args.program.now g.registers c.args.ram.now).memory) fs c.run_top.new.ram stands c.run_top.ensures.memory in
    let told : c.run_top.result ≡ e.did = of-top (λ g. (exec c.args.program.now g.registers c.args.ram.now).did) fs c.run_top.result stands c.run_top.ensures.did in
    let way = g.P.Posts.posted c.args.prio.0 in
    let x = c.args.posts.now in
    let did : e.did ≡ Next = sym told ∙ c.in-Next.is in
    let step : frame_stepped way c.args.kinds.now c.args.program.now fs c.args.ram.now x ≡ step_by way c.args.kinds.now (Next) e f below (marks_after (next_instruction c.args.program.now f.registers) f.marks) c.args.ram.now x
    = ap (λ (d : Stepped). step_by way c.args.kinds.now d e f below (marks_after (next_instruction c.args.program.now f.registers) f.marks) c.args.ram.now x) did in
    let here : c.has_returned.result ≡ (e.registers.pc == leave) = c.has_returned.ensures ∙ ap (λ (r : Registers). r.pc == leave) (ran-registers f e.registers below c.args.frames.now.waiting c.run_top.new.self ran) in
    let pc : (e.registers.pc == leave) ≡ true = sym here ∙ c.if-has_returned.true in
    rw (step, pc) (c.exit.ensures.line ∙ ap (λ (v : ℕ). Exit v how.Ret) (sym c.requires.vector))

pub returns-in-Next-clause-frames : goal.returns-in-Next-clause-frames
returns-in-Next-clause-frames g c =
    let fs = c.args.frames.now.frames in
    let f : FrameRecord = top_of fs in
    let below = drop 1 fs in
    let e : Execution = exec c.args.program.now f.registers c.args.ram.now in
    let stands : none_stands fs ≡ false = c.requires.stands in
    let ran = ran-nest c.args.program.now c.args.ram.now c.args.frames.now c.run_top.new.self stands c.run_top.ensures.frames in
    let memory : c.run_top.new.ram ≡ e.memory = of-top (λ g. (exec c.args.program.now g.registers c.args.ram.now).memory) fs c.run_top.new.ram stands c.run_top.ensures.memory in
    let told : c.run_top.result ≡ e.did = of-top (λ g. (exec c.args.program.now g.registers c.args.ram.now).did) fs c.run_top.result stands c.run_top.ensures.did in
    let way = g.P.Posts.posted c.args.prio.0 in
    let x = c.args.posts.now in
    let did : e.did ≡ Next = sym told ∙ c.in-Next.is in
    let step : frame_stepped way c.args.kinds.now c.args.program.now fs c.args.ram.now x ≡ step_by way c.args.kinds.now (Next) e f below (marks_after (next_instruction c.args.program.now f.registers) f.marks) c.args.ram.now x
    = ap (λ (d : Stepped). step_by way c.args.kinds.now d e f below (marks_after (next_instruction c.args.program.now f.registers) f.marks) c.args.ram.now x) did in
    let here : c.has_returned.result ≡ (e.registers.pc == leave) = c.has_returned.ensures ∙ ap (λ (r : Registers). r.pc == leave) (ran-registers f e.registers below c.args.frames.now.waiting c.run_top.new.self ran) in
    let pc : (e.registers.pc == leave) ≡ true = sym here ∙ c.if-has_returned.true in
    rw (step, pc) (left f e.registers below c.args.frames.now.waiting c.run_top.new.self ran c.exit.new.frames c.exit.ensures.frames)

pub returns-in-Next-clause-memory : goal.returns-in-Next-clause-memory
returns-in-Next-clause-memory g c =
    let fs = c.args.frames.now.frames in
    let f : FrameRecord = top_of fs in
    let below = drop 1 fs in
    let e : Execution = exec c.args.program.now f.registers c.args.ram.now in
    let stands : none_stands fs ≡ false = c.requires.stands in
    let ran = ran-nest c.args.program.now c.args.ram.now c.args.frames.now c.run_top.new.self stands c.run_top.ensures.frames in
    let memory : c.run_top.new.ram ≡ e.memory = of-top (λ g. (exec c.args.program.now g.registers c.args.ram.now).memory) fs c.run_top.new.ram stands c.run_top.ensures.memory in
    let told : c.run_top.result ≡ e.did = of-top (λ g. (exec c.args.program.now g.registers c.args.ram.now).did) fs c.run_top.result stands c.run_top.ensures.did in
    let way = g.P.Posts.posted c.args.prio.0 in
    let x = c.args.posts.now in
    let did : e.did ≡ Next = sym told ∙ c.in-Next.is in
    let step : frame_stepped way c.args.kinds.now c.args.program.now fs c.args.ram.now x ≡ step_by way c.args.kinds.now (Next) e f below (marks_after (next_instruction c.args.program.now f.registers) f.marks) c.args.ram.now x
    = ap (λ (d : Stepped). step_by way c.args.kinds.now d e f below (marks_after (next_instruction c.args.program.now f.registers) f.marks) c.args.ram.now x) did in
    let here : c.has_returned.result ≡ (e.registers.pc == leave) = c.has_returned.ensures ∙ ap (λ (r : Registers). r.pc == leave) (ran-registers f e.registers below c.args.frames.now.waiting c.run_top.new.self ran) in
    let pc : (e.registers.pc == leave) ≡ true = sym here ∙ c.if-has_returned.true in
    rw (step, pc) (memory ∙ quiet-next c.args.program.now f.registers c.args.ram.now did)

pub returns-in-Next-clause-posts : goal.returns-in-Next-clause-posts
returns-in-Next-clause-posts g c =
    let fs = c.args.frames.now.frames in
    let f : FrameRecord = top_of fs in
    let below = drop 1 fs in
    let e : Execution = exec c.args.program.now f.registers c.args.ram.now in
    let stands : none_stands fs ≡ false = c.requires.stands in
    let ran = ran-nest c.args.program.now c.args.ram.now c.args.frames.now c.run_top.new.self stands c.run_top.ensures.frames in
    let memory : c.run_top.new.ram ≡ e.memory = of-top (λ g. (exec c.args.program.now g.registers c.args.ram.now).memory) fs c.run_top.new.ram stands c.run_top.ensures.memory in
    let told : c.run_top.result ≡ e.did = of-top (λ g. (exec c.args.program.now g.registers c.args.ram.now).did) fs c.run_top.result stands c.run_top.ensures.did in
    let way = g.P.Posts.posted c.args.prio.0 in
    let x = c.args.posts.now in
    let did : e.did ≡ Next = sym told ∙ c.in-Next.is in
    let step : frame_stepped way c.args.kinds.now c.args.program.now fs c.args.ram.now x ≡ step_by way c.args.kinds.now (Next) e f below (marks_after (next_instruction c.args.program.now f.registers) f.marks) c.args.ram.now x
    = ap (λ (d : Stepped). step_by way c.args.kinds.now d e f below (marks_after (next_instruction c.args.program.now f.registers) f.marks) c.args.ram.now x) did in
    let here : c.has_returned.result ≡ (e.registers.pc == leave) = c.has_returned.ensures ∙ ap (λ (r : Registers). r.pc == leave) (ran-registers f e.registers below c.args.frames.now.waiting c.run_top.new.self ran) in
    let pc : (e.registers.pc == leave) ≡ true = sym here ∙ c.if-has_returned.true in
    rw (step, pc) refl

-- it goes on

pub returns-in-Next-2-clause-line : goal.returns-in-Next-2-clause-line
returns-in-Next-2-clause-line g c =
    let fs = c.args.frames.now.frames in
    let f : FrameRecord = top_of fs in
    let below = drop 1 fs in
    let e : Execution = exec c.args.program.now f.registers c.args.ram.now in
    let stands : none_stands fs ≡ false = c.requires.stands in
    let ran = ran-nest c.args.program.now c.args.ram.now c.args.frames.now c.run_top.new.self stands c.run_top.ensures.frames in
    let memory : c.run_top.new.ram ≡ e.memory = of-top (λ g. (exec c.args.program.now g.registers c.args.ram.now).memory) fs c.run_top.new.ram stands c.run_top.ensures.memory in
    let told : c.run_top.result ≡ e.did = of-top (λ g. (exec c.args.program.now g.registers c.args.ram.now).did) fs c.run_top.result stands c.run_top.ensures.did in
    let way = g.P.Posts.posted c.args.prio.0 in
    let x = c.args.posts.now in
    let did : e.did ≡ Next = sym told ∙ c.in-Next-2.is in
    let step : frame_stepped way c.args.kinds.now c.args.program.now fs c.args.ram.now x ≡ step_by way c.args.kinds.now (Next) e f below (marks_after (next_instruction c.args.program.now f.registers) f.marks) c.args.ram.now x
    = ap (λ (d : Stepped). step_by way c.args.kinds.now d e f below (marks_after (next_instruction c.args.program.now f.registers) f.marks) c.args.ram.now x) did in
    let here : c.has_returned.result ≡ (e.registers.pc == leave) = c.has_returned.ensures ∙ ap (λ (r : Registers). r.pc == leave) (ran-registers f e.registers below c.args.frames.now.waiting c.run_top.new.self ran) in
    let pc : (e.registers.pc == leave) ≡ false = sym here ∙ c.if-has_returned.false in
    rw (step, pc) c.requires.blank

pub returns-in-Next-2-clause-frames : goal.returns-in-Next-2-clause-frames
returns-in-Next-2-clause-frames g c =
    let fs = c.args.frames.now.frames in
    let f : FrameRecord = top_of fs in
    let below = drop 1 fs in
    let e : Execution = exec c.args.program.now f.registers c.args.ram.now in
    let stands : none_stands fs ≡ false = c.requires.stands in
    let ran = ran-nest c.args.program.now c.args.ram.now c.args.frames.now c.run_top.new.self stands c.run_top.ensures.frames in
    let memory : c.run_top.new.ram ≡ e.memory = of-top (λ g. (exec c.args.program.now g.registers c.args.ram.now).memory) fs c.run_top.new.ram stands c.run_top.ensures.memory in
    let told : c.run_top.result ≡ e.did = of-top (λ g. (exec c.args.program.now g.registers c.args.ram.now).did) fs c.run_top.result stands c.run_top.ensures.did in
    let way = g.P.Posts.posted c.args.prio.0 in
    let x = c.args.posts.now in
    let did : e.did ≡ Next = sym told ∙ c.in-Next-2.is in
    let step : frame_stepped way c.args.kinds.now c.args.program.now fs c.args.ram.now x ≡ step_by way c.args.kinds.now (Next) e f below (marks_after (next_instruction c.args.program.now f.registers) f.marks) c.args.ram.now x
    = ap (λ (d : Stepped). step_by way c.args.kinds.now d e f below (marks_after (next_instruction c.args.program.now f.registers) f.marks) c.args.ram.now x) did in
    let here : c.has_returned.result ≡ (e.registers.pc == leave) = c.has_returned.ensures ∙ ap (λ (r : Registers). r.pc == leave) (ran-registers f e.registers below c.args.frames.now.waiting c.run_top.new.self ran) in
    let pc : (e.registers.pc == leave) ≡ false = sym here ∙ c.if-has_returned.false in
    rw (step, pc, ← c.requires.marks) (counted f e.registers below c.args.frames.now.waiting c.run_top.new.self ran c.count_top.new.self (mark_list c.args.marks) c.count_top.ensures)

pub returns-in-Next-2-clause-memory : goal.returns-in-Next-2-clause-memory
returns-in-Next-2-clause-memory g c =
    let fs = c.args.frames.now.frames in
    let f : FrameRecord = top_of fs in
    let below = drop 1 fs in
    let e : Execution = exec c.args.program.now f.registers c.args.ram.now in
    let stands : none_stands fs ≡ false = c.requires.stands in
    let ran = ran-nest c.args.program.now c.args.ram.now c.args.frames.now c.run_top.new.self stands c.run_top.ensures.frames in
    let memory : c.run_top.new.ram ≡ e.memory = of-top (λ g. (exec c.args.program.now g.registers c.args.ram.now).memory) fs c.run_top.new.ram stands c.run_top.ensures.memory in
    let told : c.run_top.result ≡ e.did = of-top (λ g. (exec c.args.program.now g.registers c.args.ram.now).did) fs c.run_top.result stands c.run_top.ensures.did in
    let way = g.P.Posts.posted c.args.prio.0 in
    let x = c.args.posts.now in
    let did : e.did ≡ Next = sym told ∙ c.in-Next-2.is in
    let step : frame_stepped way c.args.kinds.now c.args.program.now fs c.args.ram.now x ≡ step_by way c.args.kinds.now (Next) e f below (marks_after (next_instruction c.args.program.now f.registers) f.marks) c.args.ram.now x
    = ap (λ (d : Stepped). step_by way c.args.kinds.now d e f below (marks_after (next_instruction c.args.program.now f.registers) f.marks) c.args.ram.now x) did in
    let here : c.has_returned.result ≡ (e.registers.pc == leave) = c.has_returned.ensures ∙ ap (λ (r : Registers). r.pc == leave) (ran-registers f e.registers below c.args.frames.now.waiting c.run_top.new.self ran) in
    let pc : (e.registers.pc == leave) ≡ false = sym here ∙ c.if-has_returned.false in
    rw (step, pc) (memory ∙ quiet-next c.args.program.now f.registers c.args.ram.now did)

pub returns-in-Next-2-clause-posts : goal.returns-in-Next-2-clause-posts
returns-in-Next-2-clause-posts g c =
    let fs = c.args.frames.now.frames in
    let f : FrameRecord = top_of fs in
    let below = drop 1 fs in
    let e : Execution = exec c.args.program.now f.registers c.args.ram.now in
    let stands : none_stands fs ≡ false = c.requires.stands in
    let ran = ran-nest c.args.program.now c.args.ram.now c.args.frames.now c.run_top.new.self stands c.run_top.ensures.frames in
    let memory : c.run_top.new.ram ≡ e.memory = of-top (λ g. (exec c.args.program.now g.registers c.args.ram.now).memory) fs c.run_top.new.ram stands c.run_top.ensures.memory in
    let told : c.run_top.result ≡ e.did = of-top (λ g. (exec c.args.program.now g.registers c.args.ram.now).did) fs c.run_top.result stands c.run_top.ensures.did in
    let way = g.P.Posts.posted c.args.prio.0 in
    let x = c.args.posts.now in
    let did : e.did ≡ Next = sym told ∙ c.in-Next-2.is in
    let step : frame_stepped way c.args.kinds.now c.args.program.now fs c.args.ram.now x ≡ step_by way c.args.kinds.now (Next) e f below (marks_after (next_instruction c.args.program.now f.registers) f.marks) c.args.ram.now x
    = ap (λ (d : Stepped). step_by way c.args.kinds.now d e f below (marks_after (next_instruction c.args.program.now f.registers) f.marks) c.args.ram.now x) did in
    let here : c.has_returned.result ≡ (e.registers.pc == leave) = c.has_returned.ensures ∙ ap (λ (r : Registers). r.pc == leave) (ran-registers f e.registers below c.args.frames.now.waiting c.run_top.new.self ran) in
    let pc : (e.registers.pc == leave) ≡ false = sym here ∙ c.if-has_returned.false in
    rw (step, pc) refl

-- it has stored

pub returns-in-Stored-clause-line : goal.returns-in-Stored-clause-line
returns-in-Stored-clause-line g c =
    let fs = c.args.frames.now.frames in
    let f : FrameRecord = top_of fs in
    let below = drop 1 fs in
    let e : Execution = exec c.args.program.now f.registers c.args.ram.now in
    let stands : none_stands fs ≡ false = c.requires.stands in
    let ran = ran-nest c.args.program.now c.args.ram.now c.args.frames.now c.run_top.new.self stands c.run_top.ensures.frames in
    let memory : c.run_top.new.ram ≡ e.memory = of-top (λ g. (exec c.args.program.now g.registers c.args.ram.now).memory) fs c.run_top.new.ram stands c.run_top.ensures.memory in
    let told : c.run_top.result ≡ e.did = of-top (λ g. (exec c.args.program.now g.registers c.args.ram.now).did) fs c.run_top.result stands c.run_top.ensures.did in
    let way = g.P.Posts.posted c.args.prio.0 in
    let x = c.args.posts.now in
    let did : e.did ≡ Stored c.in-Stored.addr c.in-Stored.width c.in-Stored.value = sym told ∙ c.in-Stored.is in
    let step : frame_stepped way c.args.kinds.now c.args.program.now fs c.args.ram.now x ≡ step_by way c.args.kinds.now (Stored c.in-Stored.addr c.in-Stored.width c.in-Stored.value) e f below (marks_after (next_instruction c.args.program.now f.registers) f.marks) c.args.ram.now x
    = ap (λ (d : Stepped). step_by way c.args.kinds.now d e f below (marks_after (next_instruction c.args.program.now f.registers) f.marks) c.args.ram.now x) did in
    rw (step, c.requires.vector) refl

pub returns-in-Stored-clause-frames : goal.returns-in-Stored-clause-frames
returns-in-Stored-clause-frames g c =
    let fs = c.args.frames.now.frames in
    let f : FrameRecord = top_of fs in
    let below = drop 1 fs in
    let e : Execution = exec c.args.program.now f.registers c.args.ram.now in
    let stands : none_stands fs ≡ false = c.requires.stands in
    let ran = ran-nest c.args.program.now c.args.ram.now c.args.frames.now c.run_top.new.self stands c.run_top.ensures.frames in
    let memory : c.run_top.new.ram ≡ e.memory = of-top (λ g. (exec c.args.program.now g.registers c.args.ram.now).memory) fs c.run_top.new.ram stands c.run_top.ensures.memory in
    let told : c.run_top.result ≡ e.did = of-top (λ g. (exec c.args.program.now g.registers c.args.ram.now).did) fs c.run_top.result stands c.run_top.ensures.did in
    let way = g.P.Posts.posted c.args.prio.0 in
    let x = c.args.posts.now in
    let did : e.did ≡ Stored c.in-Stored.addr c.in-Stored.width c.in-Stored.value = sym told ∙ c.in-Stored.is in
    let step : frame_stepped way c.args.kinds.now c.args.program.now fs c.args.ram.now x ≡ step_by way c.args.kinds.now (Stored c.in-Stored.addr c.in-Stored.width c.in-Stored.value) e f below (marks_after (next_instruction c.args.program.now f.registers) f.marks) c.args.ram.now x
    = ap (λ (d : Stepped). step_by way c.args.kinds.now d e f below (marks_after (next_instruction c.args.program.now f.registers) f.marks) c.args.ram.now x) did in
    rw (step, ← c.requires.marks) (counted f e.registers below c.args.frames.now.waiting c.run_top.new.self ran c.count_top-in-Stored.new.self (mark_list c.args.marks) c.count_top-in-Stored.ensures)

pub returns-in-Stored-clause-memory : goal.returns-in-Stored-clause-memory
returns-in-Stored-clause-memory g c =
    let fs = c.args.frames.now.frames in
    let f : FrameRecord = top_of fs in
    let below = drop 1 fs in
    let e : Execution = exec c.args.program.now f.registers c.args.ram.now in
    let stands : none_stands fs ≡ false = c.requires.stands in
    let ran = ran-nest c.args.program.now c.args.ram.now c.args.frames.now c.run_top.new.self stands c.run_top.ensures.frames in
    let memory : c.run_top.new.ram ≡ e.memory = of-top (λ g. (exec c.args.program.now g.registers c.args.ram.now).memory) fs c.run_top.new.ram stands c.run_top.ensures.memory in
    let told : c.run_top.result ≡ e.did = of-top (λ g. (exec c.args.program.now g.registers c.args.ram.now).did) fs c.run_top.result stands c.run_top.ensures.did in
    let way = g.P.Posts.posted c.args.prio.0 in
    let x = c.args.posts.now in
    let did : e.did ≡ Stored c.in-Stored.addr c.in-Stored.width c.in-Stored.value = sym told ∙ c.in-Stored.is in
    let step : frame_stepped way c.args.kinds.now c.args.program.now fs c.args.ram.now x ≡ step_by way c.args.kinds.now (Stored c.in-Stored.addr c.in-Stored.width c.in-Stored.value) e f below (marks_after (next_instruction c.args.program.now f.registers) f.marks) c.args.ram.now x
    = ap (λ (d : Stepped). step_by way c.args.kinds.now d e f below (marks_after (next_instruction c.args.program.now f.registers) f.marks) c.args.ram.now x) did in
    rw step memory

pub returns-in-Stored-clause-posts : goal.returns-in-Stored-clause-posts
returns-in-Stored-clause-posts g c =
    let fs = c.args.frames.now.frames in
    let f : FrameRecord = top_of fs in
    let below = drop 1 fs in
    let e : Execution = exec c.args.program.now f.registers c.args.ram.now in
    let stands : none_stands fs ≡ false = c.requires.stands in
    let ran = ran-nest c.args.program.now c.args.ram.now c.args.frames.now c.run_top.new.self stands c.run_top.ensures.frames in
    let memory : c.run_top.new.ram ≡ e.memory = of-top (λ g. (exec c.args.program.now g.registers c.args.ram.now).memory) fs c.run_top.new.ram stands c.run_top.ensures.memory in
    let told : c.run_top.result ≡ e.did = of-top (λ g. (exec c.args.program.now g.registers c.args.ram.now).did) fs c.run_top.result stands c.run_top.ensures.did in
    let way = g.P.Posts.posted c.args.prio.0 in
    let x = c.args.posts.now in
    let did : e.did ≡ Stored c.in-Stored.addr c.in-Stored.width c.in-Stored.value = sym told ∙ c.in-Stored.is in
    let step : frame_stepped way c.args.kinds.now c.args.program.now fs c.args.ram.now x ≡ step_by way c.args.kinds.now (Stored c.in-Stored.addr c.in-Stored.width c.in-Stored.value) e f below (marks_after (next_instruction c.args.program.now f.registers) f.marks) c.args.ram.now x
    = ap (λ (d : Stepped). step_by way c.args.kinds.now d e f below (marks_after (next_instruction c.args.program.now f.registers) f.marks) c.args.ram.now x) did in
    rw step refl

-- it has called

pub returns-in-Call-clause-line : goal.returns-in-Call-clause-line
returns-in-Call-clause-line g c =
    let fs = c.args.frames.now.frames in
    let f : FrameRecord = top_of fs in
    let below = drop 1 fs in
    let e : Execution = exec c.args.program.now f.registers c.args.ram.now in
    let stands : none_stands fs ≡ false = c.requires.stands in
    let ran = ran-nest c.args.program.now c.args.ram.now c.args.frames.now c.run_top.new.self stands c.run_top.ensures.frames in
    let memory : c.run_top.new.ram ≡ e.memory = of-top (λ g. (exec c.args.program.now g.registers c.args.ram.now).memory) fs c.run_top.new.ram stands c.run_top.ensures.memory in
    let told : c.run_top.result ≡ e.did = of-top (λ g. (exec c.args.program.now g.registers c.args.ram.now).did) fs c.run_top.result stands c.run_top.ensures.did in
    let way = g.P.Posts.posted c.args.prio.0 in
    let x = c.args.posts.now in
    let did : e.did ≡ Call = sym told ∙ c.in-Call.is in
    let step : frame_stepped way c.args.kinds.now c.args.program.now fs c.args.ram.now x ≡ step_by way c.args.kinds.now (Call) e f below (marks_after (next_instruction c.args.program.now f.registers) f.marks) c.args.ram.now x
    = ap (λ (d : Stepped). step_by way c.args.kinds.now d e f below (marks_after (next_instruction c.args.program.now f.registers) f.marks) c.args.ram.now x) did in
    rw step (c.call.ensures.line ∙ ap (λ (d : FrameCall _). d.what) (called-is f e.registers below c.args.frames.now.waiting c.run_top.new.self ran way c.args.kinds.now x))

pub returns-in-Call-clause-frames : goal.returns-in-Call-clause-frames
returns-in-Call-clause-frames g c =
    let fs = c.args.frames.now.frames in
    let f : FrameRecord = top_of fs in
    let below = drop 1 fs in
    let e : Execution = exec c.args.program.now f.registers c.args.ram.now in
    let stands : none_stands fs ≡ false = c.requires.stands in
    let ran = ran-nest c.args.program.now c.args.ram.now c.args.frames.now c.run_top.new.self stands c.run_top.ensures.frames in
    let memory : c.run_top.new.ram ≡ e.memory = of-top (λ g. (exec c.args.program.now g.registers c.args.ram.now).memory) fs c.run_top.new.ram stands c.run_top.ensures.memory in
    let told : c.run_top.result ≡ e.did = of-top (λ g. (exec c.args.program.now g.registers c.args.ram.now).did) fs c.run_top.result stands c.run_top.ensures.did in
    let way = g.P.Posts.posted c.args.prio.0 in
    let x = c.args.posts.now in
    let did : e.did ≡ Call = sym told ∙ c.in-Call.is in
    let step : frame_stepped way c.args.kinds.now c.args.program.now fs c.args.ram.now x ≡ step_by way c.args.kinds.now (Call) e f below (marks_after (next_instruction c.args.program.now f.registers) f.marks) c.args.ram.now x
    = ap (λ (d : Stepped). step_by way c.args.kinds.now d e f below (marks_after (next_instruction c.args.program.now f.registers) f.marks) c.args.ram.now x) did in
    rw step (called-nest f e.registers below c.args.frames.now.waiting c.run_top.new.self ran way c.args.kinds.now x c.call.new.frames c.call.ensures.frames)

pub returns-in-Call-clause-memory : goal.returns-in-Call-clause-memory
returns-in-Call-clause-memory g c =
    let fs = c.args.frames.now.frames in
    let f : FrameRecord = top_of fs in
    let below = drop 1 fs in
    let e : Execution = exec c.args.program.now f.registers c.args.ram.now in
    let stands : none_stands fs ≡ false = c.requires.stands in
    let ran = ran-nest c.args.program.now c.args.ram.now c.args.frames.now c.run_top.new.self stands c.run_top.ensures.frames in
    let memory : c.run_top.new.ram ≡ e.memory = of-top (λ g. (exec c.args.program.now g.registers c.args.ram.now).memory) fs c.run_top.new.ram stands c.run_top.ensures.memory in
    let told : c.run_top.result ≡ e.did = of-top (λ g. (exec c.args.program.now g.registers c.args.ram.now).did) fs c.run_top.result stands c.run_top.ensures.did in
    let way = g.P.Posts.posted c.args.prio.0 in
    let x = c.args.posts.now in
    let did : e.did ≡ Call = sym told ∙ c.in-Call.is in
    let step : frame_stepped way c.args.kinds.now c.args.program.now fs c.args.ram.now x ≡ step_by way c.args.kinds.now (Call) e f below (marks_after (next_instruction c.args.program.now f.registers) f.marks) c.args.ram.now x
    = ap (λ (d : Stepped). step_by way c.args.kinds.now d e f below (marks_after (next_instruction c.args.program.now f.registers) f.marks) c.args.ram.now x) did in
    rw step (memory ∙ quiet-call c.args.program.now f.registers c.args.ram.now did)

pub returns-in-Call-clause-posts : goal.returns-in-Call-clause-posts
returns-in-Call-clause-posts g c =
    let fs = c.args.frames.now.frames in
    let f : FrameRecord = top_of fs in
    let below = drop 1 fs in
    let e : Execution = exec c.args.program.now f.registers c.args.ram.now in
    let stands : none_stands fs ≡ false = c.requires.stands in
    let ran = ran-nest c.args.program.now c.args.ram.now c.args.frames.now c.run_top.new.self stands c.run_top.ensures.frames in
    let memory : c.run_top.new.ram ≡ e.memory = of-top (λ g. (exec c.args.program.now g.registers c.args.ram.now).memory) fs c.run_top.new.ram stands c.run_top.ensures.memory in
    let told : c.run_top.result ≡ e.did = of-top (λ g. (exec c.args.program.now g.registers c.args.ram.now).did) fs c.run_top.result stands c.run_top.ensures.did in
    let way = g.P.Posts.posted c.args.prio.0 in
    let x = c.args.posts.now in
    let did : e.did ≡ Call = sym told ∙ c.in-Call.is in
    let step : frame_stepped way c.args.kinds.now c.args.program.now fs c.args.ram.now x ≡ step_by way c.args.kinds.now (Call) e f below (marks_after (next_instruction c.args.program.now f.registers) f.marks) c.args.ram.now x
    = ap (λ (d : Stepped). step_by way c.args.kinds.now d e f below (marks_after (next_instruction c.args.program.now f.registers) f.marks) c.args.ram.now x) did in
    rw step (c.call.ensures.posts ∙ ap (λ (d : FrameCall _). d.after) (called-is f e.registers below c.args.frames.now.waiting c.run_top.new.self ran way c.args.kinds.now x))

-- it has trapped

pub returns-in-Trap-clause-line : goal.returns-in-Trap-clause-line
returns-in-Trap-clause-line g c =
    let fs = c.args.frames.now.frames in
    let f : FrameRecord = top_of fs in
    let below = drop 1 fs in
    let e : Execution = exec c.args.program.now f.registers c.args.ram.now in
    let stands : none_stands fs ≡ false = c.requires.stands in
    let ran = ran-nest c.args.program.now c.args.ram.now c.args.frames.now c.run_top.new.self stands c.run_top.ensures.frames in
    let memory : c.run_top.new.ram ≡ e.memory = of-top (λ g. (exec c.args.program.now g.registers c.args.ram.now).memory) fs c.run_top.new.ram stands c.run_top.ensures.memory in
    let told : c.run_top.result ≡ e.did = of-top (λ g. (exec c.args.program.now g.registers c.args.ram.now).did) fs c.run_top.result stands c.run_top.ensures.did in
    let way = g.P.Posts.posted c.args.prio.0 in
    let x = c.args.posts.now in
    let did : e.did ≡ Trap c.in-Trap.kind c.in-Trap.pc = sym told ∙ c.in-Trap.is in
    let step : frame_stepped way c.args.kinds.now c.args.program.now fs c.args.ram.now x ≡ step_by way c.args.kinds.now (Trap c.in-Trap.kind c.in-Trap.pc) e f below (marks_after (next_instruction c.args.program.now f.registers) f.marks) c.args.ram.now x
    = ap (λ (d : Stepped). step_by way c.args.kinds.now d e f below (marks_after (next_instruction c.args.program.now f.registers) f.marks) c.args.ram.now x) did in
    rw step (c.exit-in-Trap.ensures.line ∙ ap (λ (v : ℕ). Exit v (how.Trap c.in-Trap.kind c.in-Trap.pc)) (sym c.requires.vector))

pub returns-in-Trap-clause-frames : goal.returns-in-Trap-clause-frames
returns-in-Trap-clause-frames g c =
    let fs = c.args.frames.now.frames in
    let f : FrameRecord = top_of fs in
    let below = drop 1 fs in
    let e : Execution = exec c.args.program.now f.registers c.args.ram.now in
    let stands : none_stands fs ≡ false = c.requires.stands in
    let ran = ran-nest c.args.program.now c.args.ram.now c.args.frames.now c.run_top.new.self stands c.run_top.ensures.frames in
    let memory : c.run_top.new.ram ≡ e.memory = of-top (λ g. (exec c.args.program.now g.registers c.args.ram.now).memory) fs c.run_top.new.ram stands c.run_top.ensures.memory in
    let told : c.run_top.result ≡ e.did = of-top (λ g. (exec c.args.program.now g.registers c.args.ram.now).did) fs c.run_top.result stands c.run_top.ensures.did in
    let way = g.P.Posts.posted c.args.prio.0 in
    let x = c.args.posts.now in
    let did : e.did ≡ Trap c.in-Trap.kind c.in-Trap.pc = sym told ∙ c.in-Trap.is in
    let step : frame_stepped way c.args.kinds.now c.args.program.now fs c.args.ram.now x ≡ step_by way c.args.kinds.now (Trap c.in-Trap.kind c.in-Trap.pc) e f below (marks_after (next_instruction c.args.program.now f.registers) f.marks) c.args.ram.now x
    = ap (λ (d : Stepped). step_by way c.args.kinds.now d e f below (marks_after (next_instruction c.args.program.now f.registers) f.marks) c.args.ram.now x) did in
    rw step (left f e.registers below c.args.frames.now.waiting c.run_top.new.self ran c.exit-in-Trap.new.frames c.exit-in-Trap.ensures.frames)

pub returns-in-Trap-clause-memory : goal.returns-in-Trap-clause-memory
returns-in-Trap-clause-memory g c =
    let fs = c.args.frames.now.frames in
    let f : FrameRecord = top_of fs in
    let below = drop 1 fs in
    let e : Execution = exec c.args.program.now f.registers c.args.ram.now in
    let stands : none_stands fs ≡ false = c.requires.stands in
    let ran = ran-nest c.args.program.now c.args.ram.now c.args.frames.now c.run_top.new.self stands c.run_top.ensures.frames in
    let memory : c.run_top.new.ram ≡ e.memory = of-top (λ g. (exec c.args.program.now g.registers c.args.ram.now).memory) fs c.run_top.new.ram stands c.run_top.ensures.memory in
    let told : c.run_top.result ≡ e.did = of-top (λ g. (exec c.args.program.now g.registers c.args.ram.now).did) fs c.run_top.result stands c.run_top.ensures.did in
    let way = g.P.Posts.posted c.args.prio.0 in
    let x = c.args.posts.now in
    let did : e.did ≡ Trap c.in-Trap.kind c.in-Trap.pc = sym told ∙ c.in-Trap.is in
    let step : frame_stepped way c.args.kinds.now c.args.program.now fs c.args.ram.now x ≡ step_by way c.args.kinds.now (Trap c.in-Trap.kind c.in-Trap.pc) e f below (marks_after (next_instruction c.args.program.now f.registers) f.marks) c.args.ram.now x
    = ap (λ (d : Stepped). step_by way c.args.kinds.now d e f below (marks_after (next_instruction c.args.program.now f.registers) f.marks) c.args.ram.now x) did in
    rw step (memory ∙ quiet-trap c.args.program.now f.registers c.args.ram.now c.in-Trap.kind c.in-Trap.pc did)

pub returns-in-Trap-clause-posts : goal.returns-in-Trap-clause-posts
returns-in-Trap-clause-posts g c =
    let fs = c.args.frames.now.frames in
    let f : FrameRecord = top_of fs in
    let below = drop 1 fs in
    let e : Execution = exec c.args.program.now f.registers c.args.ram.now in
    let stands : none_stands fs ≡ false = c.requires.stands in
    let ran = ran-nest c.args.program.now c.args.ram.now c.args.frames.now c.run_top.new.self stands c.run_top.ensures.frames in
    let memory : c.run_top.new.ram ≡ e.memory = of-top (λ g. (exec c.args.program.now g.registers c.args.ram.now).memory) fs c.run_top.new.ram stands c.run_top.ensures.memory in
    let told : c.run_top.result ≡ e.did = of-top (λ g. (exec c.args.program.now g.registers c.args.ram.now).did) fs c.run_top.result stands c.run_top.ensures.did in
    let way = g.P.Posts.posted c.args.prio.0 in
    let x = c.args.posts.now in
    let did : e.did ≡ Trap c.in-Trap.kind c.in-Trap.pc = sym told ∙ c.in-Trap.is in
    let step : frame_stepped way c.args.kinds.now c.args.program.now fs c.args.ram.now x ≡ step_by way c.args.kinds.now (Trap c.in-Trap.kind c.in-Trap.pc) e f below (marks_after (next_instruction c.args.program.now f.registers) f.marks) c.args.ram.now x
    = ap (λ (d : Stepped). step_by way c.args.kinds.now d e f below (marks_after (next_instruction c.args.program.now f.registers) f.marks) c.args.ram.now x) did in
    rw step refl
