use Rattle.ucos_top.proofs.CaseLaws.{loaded_within}
use Rattle.ucos_top.proofs.case.read_executable.Goals as goal

-- the executable is a front of the input
pub read_declarations-requires-clause-within : goal.read_declarations-requires-clause-within
read_declarations-requires-clause-within c = loaded_within c.args.input.now c.in-Ok.app c.in-Ok.ensures
