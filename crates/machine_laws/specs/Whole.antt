-- The whole of what a machine keeps true of itself: it is valid, and its kernel's state is whole.
use Rattle.std.specs.Prelude.{All, Bool, List, Option, Some, None}
use Rattle.kern_base.specs.declared.kinds.Method.{Method}
use Rattle.kern_base.specs.declared.services.Service.{Service}
use Rattle.kern_model.specs.Valid.{IsRequest, IsValid, IsWord}
use Rattle.app_image.specs.Image.{ImageRecord, IsValidImage}
use Rattle.app_image.specs.Layout.{HasWords}
use Rattle.inject_list.specs.Lists.{ListRecord, IsValidList}
use Rattle.machine_model.specs.Queue.{Queued}
use Rattle.machine_model.specs.Machine.{Machine, WholeStep, Work, CallOf, UnitOf, TakeOf, start}
use Rattle.machine_model.specs.Rules.{next}
use Rattle.machine_laws.specs.Valid.{IsValidMachine}

-- a call in hand has words for arguments and its table, where one was read, in RAM
abbrev pub IsWorkOfWords : Work → Type 0
IsWorkOfWords (CallOf x r p) = IsRequest r
IsWorkOfWords (UnitOf x) = Unit {0}
IsWorkOfWords (TakeOf q) = Unit {0}

abbrev pub HandsWords : Option WholeStep → Type 0
HandsWords None = Unit {0}
HandsWords (Some w) = IsWorkOfWords w.work

-- the arguments of queued posts are words
abbrev pub AreWordPosts : List Queued → Type 0
AreWordPosts later = All (λ q. All IsWord q.args) later

-- A machine that is valid, and whose kernel's state is whole.
pub record IsWholeMachine (served : Service → Bool) (method : Method) (m : Machine) : Type 0 where
  pub valid : IsValidMachine served method m
  pub kernel : IsValid m.kernel
  pub hand : HandsWords m.in_hand
  pub later : AreWordPosts m.later

-- Every event keeps it so.
abbrev pub NextKeepsWhole : Type 0
NextKeepsWhole = (served : Service → Bool) (method : Method) (m : Machine) → IsWholeMachine served method m → IsWholeMachine served method (next served method m).1

-- The start of a valid image with a valid list is so.
abbrev pub StartIsWhole : Type 0
StartIsWhole = (served : Service → Bool) (method : Method) (image : ImageRecord) (list : ListRecord) → IsValidImage image → HasWords image → IsValidList image list → IsWholeMachine served method (start image list)
