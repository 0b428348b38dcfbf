-- The listing of an image: its tasks, objects, vectors, code words and the initial RAM words that are not 0.
use Rattle.std.specs.Prelude.{ℕ, ◌+◌, ◌*◌, ◌==◌, if◌then◌else◌, List, [], ◌∷◌, ◌++◌, flat_map, codes, decimal, slice_index}
use Rattle.kern_base.specs.declared.kinds.Kind.{Kind}
use Rattle.kern_base.specs.declared.kinds.Kind.TheVariants.{Sem, Queue, Flags, Mutex, OneShot, Periodic}
use Rattle.app_image.specs.declared.records.TaskDef.{TaskDef}
use Rattle.app_image.specs.declared.records.ObjDef.{ObjDef}
use Rattle.app_image.specs.declared.records.VectorDef.{VectorDef}
use Rattle.app_image.specs.Image.{ImageRecord, no_callback}
use Rattle.rv32_listing.specs.Texts.{hex_word}

-- words, each behind a blank
abbrev pub spaced : List (List ℕ) → List ℕ
spaced words = flat_map (λ word. 32 ∷ word) words

-- a line: a first word, and further ones
abbrev pub line : List ℕ → List (List ℕ) → List ℕ
line first words = first ++ (spaced words ++ 10 ∷ [])

-- a task: its number, name, entry, priority, quantum as declared, size of its message queue, and stack pointer
abbrev pub task_line : ℕ → TaskDef → List ℕ
task_line number t =
    line (codes "task") (decimal number ∷ t.name ∷ decimal t.entry ∷ decimal t.prio ∷ decimal t.quanta ∷ decimal t.qsize ∷ decimal t.sp ∷ [])

-- the address of a timer's callback, or that it has none
abbrev pub callback_word : ℕ → List ℕ
callback_word callback = if callback == no_callback then codes "none" else decimal callback

-- what a kind of object declares
abbrev pub timer_words : List ℕ → List (List ℕ)
timer_words f = decimal (slice_index f 0) ∷ decimal (slice_index f 1) ∷ callback_word (slice_index f 2) ∷ decimal (slice_index f 3) ∷ []

abbrev pub kind_words : Kind → List ℕ → List (List ℕ)
kind_words Sem f = codes "sem" ∷ decimal (slice_index f 0) ∷ []
kind_words Queue f = codes "queue" ∷ decimal (slice_index f 0) ∷ []
kind_words Flags f = codes "flags" ∷ decimal (slice_index f 0) ∷ []
kind_words Mutex f = codes "mutex" ∷ []
kind_words OneShot f = codes "oneshot" ∷ timer_words f
kind_words Periodic f = codes "periodic" ∷ timer_words f

-- an object: its number, name, kind, and what the kind declares
abbrev pub object_line : ℕ → ObjDef → List ℕ
object_line number o = line (codes "obj") (decimal number ∷ o.name ∷ kind_words o.kind o.f)

-- a vector: its number, level, entry and stack pointer; its place among the vectors is not shown
abbrev pub vector_line : ℕ → VectorDef → List ℕ
vector_line place v = line (codes "vector") (decimal v.number ∷ decimal v.level ∷ decimal v.entry ∷ decimal v.sp ∷ [])

-- a code word: its address and its hexadecimal digits
abbrev pub code_line : ℕ → ℕ → List ℕ
code_line place word = line (codes "word") (decimal (4 * place) ∷ hex_word word ∷ [])

-- a word of the initial RAM, unless it is 0
abbrev pub ram_line : ℕ → ℕ → List ℕ
ram_line place word = if word == 0 then [] else line (codes "ram") (decimal (0x100000 + 4 * place) ∷ hex_word word ∷ [])

-- the lines of records that are numbered from a number on
abbrev pub numbered : {T : Type 0} → (ℕ → T → List ℕ) → ℕ → List T → List ℕ
numbered f number [] = []
numbered f number (x ∷ xs) = f number x ++ numbered f (number + 1) xs

-- the whole listing
unfoldable pub listing : ImageRecord → List ℕ
listing image =
    numbered task_line 0 image.tasks ++ (numbered object_line 0 image.objects ++ (numbered vector_line 0 image.vectors ++ (numbered code_line 0 image.code ++ numbered ram_line 0 image.ram)))
