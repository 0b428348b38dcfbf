use Rattle.std.proofs.Common.{◌≡◌, ◌<◌, ◌∙◌, sym, ap}
use Rattle.served.specs.Served.{program_serves}
use Rattle.machine_model.specs.Rules.{Rule, marks}
use Rattle.machine_core.specs.MachineView.{machine_of, parts}
use Rattle.machine_core.specs.Valid.{change}
use Rattle.machine_core.proofs.ComingLaws.{Comes, asked, it-comes, none-comes, may-enter}
use Rattle.machine_core.proofs.FrameFacts.{enters-kept, enters-next, enters-line, locked-is}
use Rattle.machine_core.proofs.PrintLaws.{printable-next}
use Rattle.machine_core.proofs.machine.Machine.pass.Goals as goal

-- an interrupt enters

pub enter-requires : goal.enter-requires
enter-requires g c =
    let a = parts c.self.inside.method c.self.inside.kernel c.self.inside.kinds c.self.inside.ram c.self.inside.program c.self.inside.config c.self.inside.current c.self.inside.frames c.self.inside.later c.self.inside.looks c.self.inside.begun c.self.inside.s c.self.inside.t in
    let asks = asked c.args.self.now a c.is_free-free.result c.is_masked-masked.result c.is_quiet-quiet.result c.self.view_is c.requires.begun c.requires.no_look c.is_free-free.ensures c.is_masked-masked.ensures c.is_quiet-quiet.ensures in
    let comes : Comes a c.in-Some.number = it-comes a c.is_free-free.result c.is_masked-masked.result c.is_quiet-quiet.result c.in-Some.number asks c.due.ensures.rising (sym c.due.ensures.number ∙ c.in-Some.is) in
    may-enter a c.in-Some.number comes

pub invariant_of-self : goal.invariant_of-self
invariant_of-self g c =
    let a = parts c.self.inside.method c.self.inside.kernel c.self.inside.kinds c.self.inside.ram c.self.inside.program c.self.inside.config c.self.inside.current c.self.inside.frames c.self.inside.later c.self.inside.looks c.self.inside.begun c.self.inside.s c.self.inside.t in
    let asks = asked c.args.self.now a c.is_free-free.result c.is_masked-masked.result c.is_quiet-quiet.result c.self.view_is c.requires.begun c.requires.no_look c.is_free-free.ensures c.is_masked-masked.ensures c.is_quiet-quiet.ensures in
    let comes : Comes a c.in-Some.number = it-comes a c.is_free-free.result c.is_masked-masked.result c.is_quiet-quiet.result c.in-Some.number asks c.due.ensures.rising (sym c.due.ensures.number ∙ c.in-Some.is) in
    let open_yet : a.t < 1000000 = rw (← c.self.view_is) at c.requires.open_yet in
    enters-kept a c.in-Some.number comes c.enter.new.frames c.enter.ensures.frames c.enter.ensures.waiting c.self.invariant open_yet

pub returns-in-Some-clause-line : goal.returns-in-Some-clause-line
returns-in-Some-clause-line g c =
    let a = parts c.self.inside.method c.self.inside.kernel c.self.inside.kinds c.self.inside.ram c.self.inside.program c.self.inside.config c.self.inside.current c.self.inside.frames c.self.inside.later c.self.inside.looks c.self.inside.begun c.self.inside.s c.self.inside.t in
    let asks = asked c.args.self.now a c.is_free-free.result c.is_masked-masked.result c.is_quiet-quiet.result c.self.view_is c.requires.begun c.requires.no_look c.is_free-free.ensures c.is_masked-masked.ensures c.is_quiet-quiet.ensures in
    let comes : Comes a c.in-Some.number = it-comes a c.is_free-free.result c.is_masked-masked.result c.is_quiet-quiet.result c.in-Some.number asks c.due.ensures.rising (sym c.due.ensures.number ∙ c.in-Some.is) in
    rw (← c.self.view_is) (enters-line a c.in-Some.number comes _ c.enter.new.line c.enter.ensures.line (rw c.lock-locked.ensures.value (locked-is a.kernel.state.lock)))

pub returns-in-Some-clause-marked : goal.returns-in-Some-clause-marked
returns-in-Some-clause-marked g c =
    let a = parts c.self.inside.method c.self.inside.kernel c.self.inside.kinds c.self.inside.ram c.self.inside.program c.self.inside.config c.self.inside.current c.self.inside.frames c.self.inside.later c.self.inside.looks c.self.inside.begun c.self.inside.s c.self.inside.t in
    let asks = asked c.args.self.now a c.is_free-free.result c.is_masked-masked.result c.is_quiet-quiet.result c.self.view_is c.requires.begun c.requires.no_look c.is_free-free.ensures c.is_masked-masked.ensures c.is_quiet-quiet.ensures in
    let comes : Comes a c.in-Some.number = it-comes a c.is_free-free.result c.is_masked-masked.result c.is_quiet-quiet.result c.in-Some.number asks c.due.ensures.rising (sym c.due.ensures.number ∙ c.in-Some.is) in
    rw (← c.self.view_is) (sym (ap (λ (r : Rule). marks program_serves r (machine_of a)) comes.rule_is))

pub returns-in-Some-clause-machine : goal.returns-in-Some-clause-machine
returns-in-Some-clause-machine g c =
    let a = parts c.self.inside.method c.self.inside.kernel c.self.inside.kinds c.self.inside.ram c.self.inside.program c.self.inside.config c.self.inside.current c.self.inside.frames c.self.inside.later c.self.inside.looks c.self.inside.begun c.self.inside.s c.self.inside.t in
    let asks = asked c.args.self.now a c.is_free-free.result c.is_masked-masked.result c.is_quiet-quiet.result c.self.view_is c.requires.begun c.requires.no_look c.is_free-free.ensures c.is_masked-masked.ensures c.is_quiet-quiet.ensures in
    let comes : Comes a c.in-Some.number = it-comes a c.is_free-free.result c.is_masked-masked.result c.is_quiet-quiet.result c.in-Some.number asks c.due.ensures.rising (sym c.due.ensures.number ∙ c.in-Some.is) in
    rw (← c.self.view_is) (enters-next a c.in-Some.number comes c.enter.new.frames c.enter.ensures.frames c.enter.ensures.waiting)

-- none does

pub proceed-requires-clause-rule : goal.proceed-requires-clause-rule
proceed-requires-clause-rule g c =
    let a = parts c.self.inside.method c.self.inside.kernel c.self.inside.kinds c.self.inside.ram c.self.inside.program c.self.inside.config c.self.inside.current c.self.inside.frames c.self.inside.later c.self.inside.looks c.self.inside.begun c.self.inside.s c.self.inside.t in
    let asks = asked c.args.self.now a c.is_free-free.result c.is_masked-masked.result c.is_quiet-quiet.result c.self.view_is c.requires.begun c.requires.no_look c.is_free-free.ensures c.is_masked-masked.ensures c.is_quiet-quiet.ensures in
    rw (← c.self.view_is) (none-comes a c.is_free-free.result c.is_masked-masked.result c.is_quiet-quiet.result asks (sym c.due.ensures.number ∙ c.in-None.is))

pub returns-in-None-clause-printable : goal.returns-in-None-clause-printable
returns-in-None-clause-printable g c =
    let told : c.proceed.new.line ≡ (change c.args.self.now.method c.args.self.now.state).what = c.proceed.ensures.line in
    rw told (printable-next program_serves c.args.self.now.method c.args.self.now.state c.requires.no_look)
