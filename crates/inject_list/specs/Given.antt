-- What a line gives: an interrupt or a look, or the cause of a refusal.
use Rattle.std.specs.Prelude.{◌≡◌, ℕ, nat_lt, ◌++◌, [], ◌∷◌, Option, Some, None, Result, Ok, Err, if◌then◌else◌}
use Rattle.app_image.specs.Image.{ImageRecord}
use Rattle.inject_list.specs.Lists.{ListRecord, last_moment}
use Rattle.inject_list.specs.Entries.{Entry}
use Rattle.inject_list.specs.Reading.{cause_of, entries, with_line}
use Rattle.inject_list.specs.declared.causes.InjectCause.{InjectCause}
use Rattle.inject_list.specs.declared.entries.Given.{Given}
use Rattle.inject_list.specs.declared.entries.Given.TheVariants as given
use Rattle.inject_list.specs.declared.entries.When.{When}
use Rattle.inject_list.specs.declared.entries.When.TheVariants as when
use Rattle.inject_list.specs.declared.lists.Moment.{Moment}
use Rattle.inject_list.specs.declared.lists.Moment.TheVariants.{Task, Step}

-- a moment of whatever size
abbrev pub moment_at : When → Moment
moment_at (when.Task t) = Task t
moment_at (when.Step s) = Step s

-- the moment that an interrupt may have
abbrev pub moment_of : When → Option Moment
moment_of (when.Task t) = if nat_lt last_moment t then None else Some (Task t)
moment_of (when.Step s) = Some (Step s)

-- a list with one interrupt or one look more
abbrev pub with_given : Given → ListRecord → ListRecord
with_given (given.Interrupt i) l = record l { injections = l.injections ++ i ∷ [] }
with_given (given.Look k) l = record l { looks = l.looks ++ k ∷ [] }

-- what a line gives behind so many entries, or the cause that it is refused with
abbrev pub IsGiven : Result Given InjectCause → ImageRecord → ℕ → Option Entry → Type 0
IsGiven (Ok g) image before e = (l : ListRecord) → entries l ≡ before → (cause_of image l e ≡ None) × (with_line image l e ≡ with_given g l)
IsGiven (Err cause) image before e = (l : ListRecord) → entries l ≡ before → cause_of image l e ≡ Some cause
