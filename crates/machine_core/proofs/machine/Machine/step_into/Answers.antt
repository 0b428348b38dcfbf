use Rattle.std.proofs.Common.{rules, ◌≡◌, subst}
use Rattle.served.specs.Served.{program_serves}
use Rattle.machine_core.specs.MethodMachine.{MethodMachine, next_machine}
use Rattle.machine_laws.specs.Valid.{IsValidMachine}
use Rattle.machine_laws.proofs.Lemmas.{events_left-next}
use Rattle.machine_core.proofs.machine.Machine.step_into.Goals as goal
use Rattle.machine_core.proofs.machine.Machine.step_into.Goals.{then-self, else-self}

-- the machine is the next one, and every event leaves fewer
pub returns-clause-fewer : goal.returns-clause-fewer
returns-clause-fewer g c = λ n p.
    let happened : c.if-self.self ≡ next_machine c.args.self.now = search rules in
    let valid : IsValidMachine program_serves c.args.self.now.method c.args.self.now.state = subst (λ (m : MethodMachine). IsValidMachine program_serves m.method m.state) c.self.view_is c.self.invariant.valid in
    rw happened (events_left-next program_serves c.args.self.now.method n c.args.self.now.state valid p)
