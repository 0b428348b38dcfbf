-- The words of an event, from which its lines are made.
use Rattle.std.specs.Prelude.{ℕ, ◌-◌, if◌then◌else◌, ◌==◌, nat_lt, List, [], ◌∷◌, ◌++◌, Option, Some, None, take, map, codes, decimal, slice_get}
use Rattle.kern_base.specs.declared.numbers.TaskId.{TaskId}
use Rattle.kern_base.specs.declared.services.Service.{Service}
use Rattle.kern_base.specs.declared.services.Service.TheVariants.{QPend, TaskQPend, Unknown}
use Rattle.kern_base.specs.Services.{service_name}
use Rattle.kern_base.specs.Errors.{error_name}
use Rattle.kern_model.specs.State.{tick_task, timer_task}
use Rattle.rv32_exec.specs.declared.TrapKind.{TrapKind}
use Rattle.rv32_exec.specs.declared.TrapKind.TheVariants.{Illegal, Break, Jump, Fetch, Load, Store}
use Rattle.app_image.specs.declared.records.TaskDef.{TaskDef}
use Rattle.app_image.specs.declared.records.ObjDef.{ObjDef}
use Rattle.app_image.specs.Image.{ImageRecord}
use Rattle.inject_list.specs.declared.lists.Seen.{Seen}
use Rattle.inject_list.specs.declared.lists.Seen.TheVariants.{Obj, Ready}
use Rattle.machine_model.specs.declared.events.How.{How}
use Rattle.machine_model.specs.declared.events.How.TheVariants as how
use Rattle.machine_model.specs.declared.events.What.{What}
use Rattle.machine_model.specs.declared.events.What.TheVariants.{Quiet, Start, Call, Ret, Wait, Gone, St, Trap, Tick, Tmr, Fire, Irq, Post, ICall, Exit, Take, Look}

-- Names and single words.

-- the name of an internal task
abbrev pub internal_name : ℕ → List ℕ
internal_name x = if x == tick_task then codes "tick" else (if x == timer_task then codes "tmr" else codes "idle")

-- the name of a task that is declared so, or not at all
abbrev pub declared_name : ℕ → Option TaskDef → List ℕ
declared_name x None = internal_name x
declared_name x (Some d) = d.name

-- the name of a task: as it is declared, or that of an internal task
abbrev pub name_of : ImageRecord → ℕ → List ℕ
name_of image x = declared_name x (slice_get image.tasks x)

-- the name of an object that is declared so, or not at all
abbrev pub declared_object_name : Option ObjDef → List ℕ
declared_object_name None = []
declared_object_name (Some d) = d.name

-- the name of an object
abbrev pub object_name : ImageRecord → ℕ → List ℕ
object_name image x = declared_object_name (slice_get image.objects x)

-- a service by its name, and a number that no service has by its digits
abbrev pub service_word : Service → List ℕ
service_word (Unknown number) = decimal number
service_word service = service_name service

-- a trap by its kind
abbrev pub trap_word : TrapKind → List ℕ
trap_word Illegal = codes "illegal"
trap_word Break = codes "break"
trap_word Jump = codes "jump"
trap_word Fetch = codes "fetch"
trap_word Load = codes "load"
trap_word Store = codes "store"

-- a list that was looked at: an object's by the object's name, a ready list by its priority
abbrev pub seen_word : ImageRecord → Seen → List ℕ
seen_word image (Obj object) = object_name image object.0
seen_word image (Ready prio) = decimal prio.0

-- an entry of a table: what was taken there
abbrev pub entry_word : Option (ℕ × ℕ) → List ℕ
entry_word None = codes "0"
entry_word (Some taken) = codes "1:" ++ (decimal taken.0 ++ (codes ":" ++ decimal taken.1))

-- Several words.

-- who stored: a task by its name, and interrupt code by its vector
abbrev pub who_words : ImageRecord → ℕ → List (List ℕ)
who_words image who = if nat_lt who 64 then name_of image who ∷ [] else codes "isr" ∷ decimal (who - 64) ∷ []

-- a message's size, of the calls that take one message
abbrev pub size_words : Service → ℕ → List (List ℕ)
size_words QPend size = decimal size ∷ []
size_words TaskQPend size = decimal size ∷ []
size_words service size = []

-- the entries of a table, where there is one
abbrev pub table_words : List (Option (ℕ × ℕ)) → List (List ℕ)
table_words [] = []
table_words (entry ∷ entries) = codes "tab" ∷ map entry_word (entry ∷ entries)

-- how a frame left
abbrev pub how_words : How → List (List ℕ)
how_words how.Ret = codes "ret" ∷ []
how_words how.Limit = codes "limit" ∷ []
how_words (how.Trap kind pc) = codes "trap" ∷ trap_word kind ∷ decimal pc ∷ []

-- The words of an event.

-- the words of an event's own line; none where it has no line
abbrev pub own_words : ImageRecord → What → List (List ℕ)
own_words image Quiet = []
own_words image (Start task) = codes "start" ∷ name_of image task.0 ∷ []
own_words image (Call task service args n_args) = codes "call" ∷ name_of image task.0 ∷ service_word service ∷ map decimal (take n_args args)
own_words image (Ret task service err value size tab n_tab) =
    codes "ret" ∷ name_of image task.0 ∷ service_word service ∷ error_name err ∷ decimal value ∷ size_words service size ++ table_words (take n_tab tab)
own_words image (Wait task service) = codes "wait" ∷ name_of image task.0 ∷ service_word service ∷ []
own_words image (Gone task) = codes "gone" ∷ name_of image task.0 ∷ []
own_words image (St who addr width value) = codes "st" ∷ who_words image who ++ decimal addr ∷ decimal width ∷ decimal value ∷ []
own_words image (Trap task kind pc) = codes "trap" ∷ name_of image task.0 ∷ trap_word kind ∷ decimal pc ∷ []
own_words image (Tick count) = codes "tick" ∷ decimal count ∷ []
own_words image (Tmr count) = codes "tmr" ∷ decimal count ∷ []
own_words image (Fire object) = codes "fire" ∷ object_name image object.0 ∷ []
own_words image (Irq vector level by_step locked) = codes "irq" ∷ decimal vector ∷ decimal level ∷ []
own_words image (Post vector service args n_args err value) =
    codes "post" ∷ decimal vector ∷ service_word service ∷ map decimal (take n_args args) ++ error_name err ∷ decimal value ∷ []
own_words image (ICall vector service err) = codes "icall" ∷ decimal vector ∷ service_word service ∷ error_name err ∷ []
own_words image (Exit vector how) = codes "exit" ∷ decimal vector ∷ how_words how
own_words image (Take service args n_args err value same) =
    codes "take" ∷ service_word service ∷ map decimal (take n_args args) ++ error_name err ∷ decimal value ∷ []
own_words image (Look seen forward n_forward back n_back) =
    codes "look" ∷ seen_word image seen ∷ codes "fwd" ∷ map decimal (take n_forward forward) ++ codes "back" ∷ map decimal (take n_back back)

-- the words of its switch line; none where the current task stays
abbrev pub switch_words : ImageRecord → Option (TaskId × TaskId) → List (List ℕ)
switch_words image None = []
switch_words image (Some tasks) = codes "sw" ∷ name_of image tasks.0.0 ∷ name_of image tasks.1.0 ∷ []
