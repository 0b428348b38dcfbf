-- What the rules of a service's arguments mean.
use Rattle.std.specs.Prelude.{ℕ, Bool, true, false, List, [], ◌∷◌}
use Rattle.kern_base.specs.Services.{any_option, zero_at, below_at, zero_or_two_at}
use Rattle.kern_base.specs.declared.kinds.Kind.{Kind}
use Rattle.kern_base.specs.declared.kinds.Kind.TheVariants.{OneShot, Periodic}
use Rattle.call_checks.specs.declared.rules.Options.{Options}
use Rattle.call_checks.specs.declared.rules.Options.TheVariants.{Any, Zero, ZeroOrTwo, Below}
use Rattle.call_checks.specs.declared.rules.Target.{Target}
use Rattle.call_checks.specs.declared.rules.Target.TheVariants.{Nothing, Object, Timer, Task}

-- the kinds that the named object may have; none where no object is named
abbrev pub kinds_named : Target → List Kind
kinds_named Nothing = []
kinds_named (Object kind) = kind ∷ []
kinds_named Timer = OneShot ∷ Periodic ∷ []
kinds_named Task = []

-- whether a task is named
abbrev pub task_named : Target → Bool
task_named Nothing = false
task_named (Object kind) = false
task_named Timer = false
task_named Task = true

-- whether these arguments have an option that the rule allows
abbrev pub allows : Options → List ℕ → Bool
allows Any args = any_option args
allows (Zero place) args = zero_at place args
allows (ZeroOrTwo place) args = zero_or_two_at place args
allows (Below place limit) args = below_at place limit args

-- the place of the option among four arguments
abbrev pub option_place : Options → ℕ
option_place Any = 0
option_place (Zero place) = place
option_place (ZeroOrTwo place) = place
option_place (Below place limit) = place
