-- An answer over memory.
use Rattle.std.specs.Prelude.{◌≡◌, ℕ, List}
use Rattle.program_model.specs.declared.statuses.Status.{Status}
use Rattle.program_model.specs.Answer.{Answer}

-- this status and these bytes are those of the defined answer
pub record IsAnswer (status : Status) (text : List ℕ) (a : Answer) : Type 0 where
  pub status_is : status ≡ a.status
  pub text_is : text ≡ a.text
