-- The numbers of a valid kernel that programs gave or read are words: flag bits, arguments, messages, results.
use Rattle.std.specs.Prelude.{All, ℕ, List, Option, Some, None}
use Rattle.kern_base.specs.declared.outcomes.Answer.{Answer}
use Rattle.kern_base.specs.declared.outcomes.Finished.{Finished}
use Rattle.kern_model.specs.State.{Task, Object, Content, Count, Messages, Bits, Held, Timed, task_in, object_in}
use Rattle.kern_model.specs.Valid.Numbers.{IsWord}

-- a message's address and size
abbrev pub AreMessageWords : List (ℕ × ℕ) → Type 0
AreMessageWords ms = All (λ m. IsWord m.0 × IsWord m.1) ms

-- the address of a callback, where there is one
abbrev pub IsOptionalWord : Option ℕ → Type 0
IsOptionalWord None = Unit {0}
IsOptionalWord (Some n) = IsWord n

-- the words that an object holds beside its numbers in `IsContent`
abbrev pub HoldsWords : Content → Type 0
HoldsWords (Count n) = Unit {0}
HoldsWords (Messages limit ms) = AreMessageWords ms
HoldsWords (Bits bits) = IsWord bits
HoldsWords (Held owner nesting) = Unit {0}
HoldsWords (Timed t) = IsOptionalWord t.callback × IsWord t.argument

-- the words of an answer
abbrev pub AnswersWords : Answer → Type 0
AnswersWords a = IsWord a.value × IsWord a.extra

-- the words of a result
abbrev pub HasResultWords : Option Finished → Type 0
HasResultWords None = Unit {0}
HasResultWords (Some f) = AnswersWords f.answer × AreMessageWords f.msgs

-- the words of a task
pub record HasTaskWords (t : Task) : Type 0 where
  pub mask : IsWord t.mask
  pub opt : IsWord t.opt
  pub table : IsWord t.table
  pub messages : AreMessageWords t.messages
  pub answered : HasResultWords t.answered

-- each task and each object
pub record AreWords (ts : List Task) (os : List Object) : Type 0 where
  pub tasks : (x : ℕ) → HasTaskWords (task_in ts x)
  pub objects : (o : ℕ) → HoldsWords (object_in os o).content
