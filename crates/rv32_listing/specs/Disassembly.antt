-- The listing of an image that assembles back: a case text without injections.
use Rattle.std.specs.Prelude.{ℕ, ◌+◌, ◌*◌, ◌==◌, if◌then◌else◌, List, [], ◌∷◌, ◌++◌, length, map, codes, decimal, slice_index}
use Rattle.std.specs.List.{flat_map}
use Rattle.kern_base.specs.declared.kinds.Kind.{Kind}
use Rattle.kern_base.specs.declared.kinds.Kind.TheVariants.{Sem, Queue, Flags, Mutex, OneShot, Periodic}
use Rattle.app_image.specs.Image.{ImageRecord, no_callback}
use Rattle.app_image.specs.declared.records.TaskDef.{TaskDef}
use Rattle.app_image.specs.declared.records.ObjDef.{ObjDef}
use Rattle.app_image.specs.declared.records.VectorDef.{VectorDef}
use Rattle.app_image.specs.declared.settings.Config.{Config}
use Rattle.app_image.specs.declared.settings.ConfigKey.{ConfigKey}
use Rattle.app_image.specs.declared.settings.ConfigKey.TheVariants.{IsrLimit, DeferSize, Pool, TmrDiv, RoundRobin, Quanta, TickPrio, TmrPrio, TmrSp, Insert}
use Rattle.asm_lines.specs.Words.{keys}
use Rattle.rv32_listing.specs.Texts.{statement, word_statement}
use Rattle.rv32_listing.specs.WordLines.{code_line}

-- a line that is a statement alone
abbrev pub line : List ℕ → List ℕ
line text = text ++ codes "\n"

-- the lines of code words from a number on, of so many
abbrev pub code_lines : (words number : ℕ) → List ℕ → List ℕ
code_lines words number [] = []
code_lines words number (word ∷ rest) = code_line words (4 * number) word ++ code_lines words (number + 1) rest

-- a word of RAM
abbrev pub ram_line : ℕ → List ℕ
ram_line word = line (word_statement word)

-- the callback of a timer: its address, or that it has none
abbrev pub callback : ℕ → List ℕ
callback address = if address == no_callback then codes "none" else decimal address

-- a timer of a kind: its delay, period, callback and argument
abbrev pub timer_statement : (name kind f : List ℕ) → List ℕ
timer_statement name kind f =
    statement (codes ".timer") (name ∷ kind ∷ decimal (slice_index f 0) ∷ decimal (slice_index f 1) ∷ callback (slice_index f 2) ∷ decimal (slice_index f 3) ∷ [])

-- an object of a kind with these fields
abbrev pub kind_statement : List ℕ → Kind → List ℕ → List ℕ
kind_statement name Sem f = statement (codes ".sem") (name ∷ decimal (slice_index f 0) ∷ [])
kind_statement name Queue f = statement (codes ".queue") (name ∷ decimal (slice_index f 0) ∷ [])
kind_statement name Flags f = statement (codes ".flags") (name ∷ decimal (slice_index f 0) ∷ [])
kind_statement name Mutex f = statement (codes ".mutex") (name ∷ [])
kind_statement name OneShot f = timer_statement name (codes "oneshot") f
kind_statement name Periodic f = timer_statement name (codes "periodic") f

abbrev pub object_line : ObjDef → List ℕ
object_line o = line (kind_statement o.name o.kind o.f)

-- a task: its name, entry, priority, quantum as declared, size of its message queue, and stack pointer
abbrev pub task_line : TaskDef → List ℕ
task_line t = line (statement (codes ".task") (t.name ∷ map decimal (t.entry ∷ t.prio ∷ t.quanta ∷ t.qsize ∷ t.sp ∷ [])))

-- a vector: its number, level, entry and stack pointer
abbrev pub vector_line : VectorDef → List ℕ
vector_line v = line (statement (codes ".vector") (map decimal (v.number ∷ v.level ∷ v.entry ∷ v.sp ∷ [])))

-- the value of a setting
abbrev pub value_of : Config → ConfigKey → ℕ
value_of c IsrLimit = c.isr_limit
value_of c DeferSize = c.defer_size
value_of c Pool = c.pool
value_of c TmrDiv = c.tmr_div
value_of c RoundRobin = c.round_robin
value_of c Quanta = c.quanta
value_of c TickPrio = c.tick_prio
value_of c TmrPrio = c.tmr_prio
value_of c TmrSp = c.tmr_sp
value_of c Insert = c.insert

-- a setting by its name in the assembler's table
abbrev pub setting_line : Config → List ℕ × ConfigKey → List ℕ
setting_line c key = line (statement (codes ".config") (key.0 ∷ decimal (value_of c key.1) ∷ []))

abbrev pub setting_lines : Config → List ℕ
setting_lines c = flat_map (setting_line c) keys

-- the objects, the tasks, the vectors and the ten settings
abbrev pub declarations : ImageRecord → List ℕ
declarations image = flat_map object_line image.objects ++ (flat_map task_line image.tasks ++ (flat_map vector_line image.vectors ++ setting_lines image.config))

-- the whole listing: the code, the RAM, and the declarations
unfoldable pub disassembly : ImageRecord → List ℕ
disassembly image =
    codes ".code\n" ++ (code_lines (length image.code) 0 image.code ++ (codes ".ram\n" ++ (flat_map ram_line image.ram ++ declarations image)))
