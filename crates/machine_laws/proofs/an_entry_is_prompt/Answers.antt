-- An interrupt whose moment in raw steps is there enters at once, unless one that goes before it does.
use Rattle.machine_laws.proofs.Rules.Prompt.{prompt-entry}
use Rattle.machine_laws.proofs.an_entry_is_prompt.Goals as goal

pub returns : goal.returns
returns c = prompt-entry
