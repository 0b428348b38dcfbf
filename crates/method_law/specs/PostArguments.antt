-- What a post looks at of the words in the registers.
use Rattle.std.specs.Prelude.{◌≡◌, ℕ, Bool, true}
use Rattle.kern_base.specs.Services.{is_post}
use Rattle.kern_base.specs.Checks.{static_error}
use Rattle.kern_base.specs.Tables.{KindTable}
use Rattle.kern_base.specs.declared.services.Service.{Service}
use Rattle.kern_model.specs.State.{Kernel}
use Rattle.kern_model.specs.Services.{posted}
use Rattle.rv32_exec.specs.Registers.{Registers}
use Rattle.machine_model.specs.Answers.{arguments}
use Rattle.machine_model.specs.Interrupts.{argument_words}

-- A post looks at the arguments of its service alone.
abbrev pub PostsReadTheirArguments : Type 0
PostsReadTheirArguments =
    (served : Service → Bool) (s : Service) (a b : Registers) (c h : ℕ) (k : Kernel) → is_post s ≡ true
    → arguments s (argument_words a) ≡ arguments s (argument_words b)
    → posted served s (argument_words a) c h k ≡ posted served s (argument_words b) c h k

-- So do its static checks.
abbrev pub ChecksReadTheirArguments : Type 0
ChecksReadTheirArguments =
    (s : Service) (a b : Registers) (table : KindTable) (own : Bool) → is_post s ≡ true
    → arguments s (argument_words a) ≡ arguments s (argument_words b)
    → static_error s (argument_words a) table own ≡ static_error s (argument_words b) table own
