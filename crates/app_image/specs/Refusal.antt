-- Why a raw image is refused: the least cause that some record has, with the line of the first such
-- record in the order tasks, objects, vectors, settings.
use Rattle.std.specs.Prelude.{ℕ, ◌==◌, nat_lt, if◌then◌else◌, List, [], ◌∷◌, ◌++◌, length, slice_index, Bool, false, ◌&&◌, not, Option, Some, None, Result, Ok, Err}
use Rattle.std.specs.List.{list_any, find}
use Rattle.std.specs.Option.{option_map, option_or}
use Rattle.kern_base.specs.declared.kinds.Kind.{Kind}
use Rattle.kern_base.specs.declared.kinds.Kind.TheVariants.{Queue, OneShot, Periodic}
use Rattle.app_image.specs.Addresses.{is_between, is_code_address, is_stack_pointer}
use Rattle.app_image.specs.Settings.{key_number, is_in_range}
use Rattle.app_image.specs.Raw.{RawRecord}
use Rattle.app_image.specs.Image.{ImageRecord, image_of, no_callback}
use Rattle.app_image.specs.declared.causes.ImageCause.{ImageCause}
use Rattle.app_image.specs.declared.causes.ImageCause.TheVariants.{NoTask, TaskPriority, CodeAddress, StackPointer, Quantum, TaskQueueSize, QueueSize, VectorNumber, VectorTwice, VectorLevel, TimerTime, SettingRange, SettingTwice, NoCode}
use Rattle.app_image.specs.declared.causes.ImageError.{ImageError}
use Rattle.app_image.specs.declared.causes.ImageError.TheVariants.{At}
use Rattle.app_image.specs.declared.records.TaskDef.{TaskDef}
use Rattle.app_image.specs.declared.records.ObjDef.{ObjDef}
use Rattle.app_image.specs.declared.records.VectorDef.{VectorDef}
use Rattle.app_image.specs.declared.settings.ConfigLine.{ConfigLine}

-- whether a task has a cause, beside so many code words
abbrev pub task_has : ℕ → ImageCause → TaskDef → Bool
task_has words TaskPriority t = not (is_between 1 62 t.prio)
task_has words CodeAddress t = not (is_code_address words t.entry)
task_has words StackPointer t = not (is_stack_pointer t.sp)
task_has words Quantum t = nat_lt 65535 t.quanta
task_has words TaskQueueSize t = nat_lt 1024 t.qsize
task_has words _ t = false

-- the callback of a timer is neither none nor the address of a code word
abbrev pub is_bad_callback : ℕ → Kind → List ℕ → Bool
is_bad_callback words OneShot f = not (slice_index f 2 == no_callback) && not (is_code_address words (slice_index f 2))
is_bad_callback words Periodic f = not (slice_index f 2 == no_callback) && not (is_code_address words (slice_index f 2))
is_bad_callback words _ f = false

-- the size of a queue is outside its range
abbrev pub is_bad_size : Kind → List ℕ → Bool
is_bad_size Queue f = not (is_between 1 1024 (slice_index f 0))
is_bad_size _ f = false

-- the time of a timer is 0
abbrev pub is_bad_time : Kind → List ℕ → Bool
is_bad_time OneShot f = slice_index f 0 == 0
is_bad_time Periodic f = slice_index f 1 == 0
is_bad_time _ f = false

-- whether an object has a cause
abbrev pub object_has : ℕ → ImageCause → ObjDef → Bool
object_has words CodeAddress o = is_bad_callback words o.kind o.f
object_has words QueueSize o = is_bad_size o.kind o.f
object_has words TimerTime o = is_bad_time o.kind o.f
object_has words _ o = false

-- whether a vector has a cause by itself
abbrev pub vector_has : ℕ → ImageCause → VectorDef → Bool
vector_has words CodeAddress v = not (is_code_address words v.entry)
vector_has words StackPointer v = not (is_stack_pointer v.sp)
vector_has words VectorNumber v = nat_lt 31 v.number
vector_has words VectorLevel v = not (is_between 1 7 v.level)
vector_has words _ v = false

-- whether a setting has a cause by itself
abbrev pub setting_has : ImageCause → ConfigLine → Bool
setting_has SettingRange s = not (is_in_range s.key s.value)
setting_has _ s = false

-- the line of the first task with a cause, and so on
abbrev pub task_line : ℕ → ImageCause → List TaskDef → Option ℕ
task_line words cause tasks = option_map (λ t. t.line) (find (task_has words cause) tasks)

abbrev pub object_line : ℕ → ImageCause → List ObjDef → Option ℕ
object_line words cause objects = option_map (λ o. o.line) (find (object_has words cause) objects)

abbrev pub vector_line : ℕ → ImageCause → List VectorDef → Option ℕ
vector_line words cause vectors = option_map (λ v. v.line) (find (vector_has words cause) vectors)

abbrev pub setting_line : ImageCause → List ConfigLine → Option ℕ
setting_line cause lines = option_map (λ s. s.line) (find (setting_has cause) lines)

-- the line of the first vector, of those behind some earlier ones, whose number an earlier one has
abbrev pub vector_twice : List VectorDef → List VectorDef → Option ℕ
vector_twice earlier [] = None
vector_twice earlier (v ∷ vs) = if list_any (λ e. e.number == v.number) earlier then Some v.line else vector_twice (earlier ++ v ∷ []) vs

-- the line of the first setting whose key an earlier one has
abbrev pub setting_twice : List ConfigLine → List ConfigLine → Option ℕ
setting_twice earlier [] = None
setting_twice earlier (s ∷ ss) = if list_any (λ e. key_number e.key == key_number s.key) earlier then Some s.line else setting_twice (earlier ++ s ∷ []) ss

-- line 0 where there is none of something
abbrev pub line_of_none : {T : Type 0} → List T → Option ℕ
line_of_none [] = Some 0
line_of_none (x ∷ xs) = None

-- the line of the first record with a cause, in the order tasks, objects, vectors, settings
abbrev pub first_line : ImageCause → ℕ → List TaskDef → List ObjDef → List VectorDef → List ConfigLine → Option ℕ
first_line cause words tasks objects vectors lines =
    option_or (task_line words cause tasks) (option_or (object_line words cause objects) (option_or (vector_line words cause vectors) (setting_line cause lines)))

abbrev pub first_record : ImageCause → RawRecord → Option ℕ
first_record cause raw = first_line cause (length raw.code) raw.tasks raw.objects raw.vectors raw.config

-- the line that a cause is refused with, if the raw image has it
abbrev pub line_of : ImageCause → RawRecord → Option ℕ
line_of NoTask raw = line_of_none raw.tasks
line_of NoCode raw = line_of_none raw.code
line_of VectorTwice raw = vector_twice [] raw.vectors
line_of SettingTwice raw = setting_twice [] raw.config
line_of cause raw = first_record cause raw

-- the causes that the check looks for, least number first
abbrev pub causes : List ImageCause
causes = NoTask ∷ TaskPriority ∷ CodeAddress ∷ StackPointer ∷ Quantum ∷ TaskQueueSize ∷ QueueSize ∷ VectorNumber ∷ VectorTwice ∷ VectorLevel ∷ TimerTime ∷ SettingRange ∷ SettingTwice ∷ NoCode ∷ []

-- the refusal for a cause, or what comes after it
abbrev pub refused_or : ImageCause → Option ℕ → Option ImageError → Option ImageError
refused_or cause (Some line) later = Some (At line cause)
refused_or cause None later = later

-- the refusal of the first of some causes that the raw image has
abbrev pub refusal_among : List ImageCause → RawRecord → Option ImageError
refusal_among [] raw = None
refusal_among (cause ∷ causes) raw = refused_or cause (line_of cause raw) (refusal_among causes raw)

-- the refusal of a raw image
abbrev pub refusal : RawRecord → Option ImageError
refusal raw = refusal_among causes raw

-- the image, or the refusal where there is one
abbrev pub image_unless : Option ImageError → ImageRecord → Result ImageRecord ImageError
image_unless None image = Ok image
image_unless (Some error) image = Err error

-- what the check of a raw image answers
abbrev pub checked : RawRecord → Result ImageRecord ImageError
checked raw = image_unless (refusal raw) (image_of raw)
