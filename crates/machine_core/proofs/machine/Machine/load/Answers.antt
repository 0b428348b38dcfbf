use Rattle.machine_core.specs.MachineView.{parts}
use Rattle.std.proofs.Common.{rules, refl, false}
use Rattle.machine_core.proofs.StartFacts.{loaded, loaded-kept}
use Rattle.machine_core.proofs.machine.Machine.load.Goals as goal

pub invariant_of-result : goal.invariant_of-result
invariant_of-result g c =
    loaded-kept c.args.image.now c.args.list.now _ c.in_ok-kernel.ensures.start (search rules) c.pick-current.ensures.value c.in_ok-frames.ensures (search rules) c.kinds_of.ensures (search rules) c.config-config.ensures.value c.in_ok-looks.ensures refl refl refl c.config-config.ensures.valid c.ram.ensures.words c.requires.list

pub returns-clause-valid : goal.returns-clause-valid
returns-clause-valid g c = (invariant_of-result g c).valid

pub returns-clause-start : goal.returns-clause-start
returns-clause-start g c =
    loaded c.args.image.now c.args.list.now (parts c.args.method c.in_ok-kernel.kernel c.kinds_of.result c.in-Ok.ram c.in-Ok-new.program c.config-config.result c.pick-current.result c.in_ok-frames.frames c.in_ok-later.later c.in_ok-looks.looks false 0 0)
    c.in_ok-kernel.ensures.start (search rules) c.pick-current.ensures.value c.in_ok-frames.ensures (search rules) c.kinds_of.ensures (search rules) c.config-config.ensures.value c.in_ok-looks.ensures refl refl refl
