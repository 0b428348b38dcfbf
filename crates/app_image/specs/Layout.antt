-- The binary image. Numbers have their lowest byte first.
use Rattle.std.specs.Prelude.{ℕ, ◌≡◌, ◌<◌, ◌^◌, List, [], ◌∷◌, ◌++◌, length, codes, All}
use Rattle.std.specs.List.{flat_map}
use Rattle.byteorder.specs.Endian.{little_bytes}
use Rattle.kern_base.specs.Checks.{kind_number}
use Rattle.app_image.specs.Padding.{name_bytes}
use Rattle.app_image.specs.Image.{ImageRecord}
use Rattle.app_image.specs.declared.records.TaskDef.{TaskDef}
use Rattle.app_image.specs.declared.records.ObjDef.{ObjDef}
use Rattle.app_image.specs.declared.records.VectorDef.{VectorDef}
use Rattle.app_image.specs.declared.settings.Config.{Config}

-- a number in two bytes
abbrev pub half_bytes : ℕ → List ℕ
half_bytes n = little_bytes 2 n

-- a number in four bytes
abbrev pub word_bytes : ℕ → List ℕ
word_bytes n = little_bytes 4 n

-- numbers in four bytes each
abbrev pub words_bytes : List ℕ → List ℕ
words_bytes words = flat_map word_bytes words

-- the first four bytes of an image
abbrev pub magic : List ℕ
magic = codes "UC3I"

-- the version that is written
abbrev pub written_version : ℕ
written_version = 2

-- a task has 36 bytes, as an object: the name and five words
abbrev pub task_bytes : TaskDef → List ℕ
task_bytes t = name_bytes t.name ++ words_bytes (t.entry ∷ t.sp ∷ t.prio ∷ t.quanta ∷ t.qsize ∷ [])

abbrev pub object_bytes : ObjDef → List ℕ
object_bytes o = name_bytes o.name ++ words_bytes (kind_number o.kind ∷ o.f)

-- a vector has 16 bytes
abbrev pub vector_bytes : VectorDef → List ℕ
vector_bytes v = words_bytes (v.number ∷ v.level ∷ v.entry ∷ v.sp ∷ [])

-- the settings in the order of their places
abbrev pub setting_values : Config → List ℕ
setting_values c = c.isr_limit ∷ c.defer_size ∷ c.pool ∷ c.tmr_div ∷ c.round_robin ∷ c.quanta ∷ c.tick_prio ∷ c.tmr_prio ∷ c.tmr_sp ∷ c.insert ∷ []

-- the first 24 bytes: the version, and how many of each part follow
abbrev pub header_bytes : ImageRecord → List ℕ
header_bytes image =
    magic ++ half_bytes written_version ++ half_bytes 0 ++ word_bytes (length image.code) ++ word_bytes (length image.ram)
    ++ half_bytes (length image.tasks) ++ half_bytes (length image.objects) ++ half_bytes (length image.vectors) ++ half_bytes 0

-- the bytes of an image
abbrev pub layout : ImageRecord → List ℕ
layout image =
    header_bytes image ++ (words_bytes (setting_values image.config) ++ (flat_map task_bytes image.tasks ++ (flat_map object_bytes image.objects
    ++ (flat_map vector_bytes image.vectors ++ (words_bytes image.code ++ words_bytes image.ram)))))

-- a number that four bytes hold
abbrev pub IsWord : ℕ → Type 0
IsWord n = n < 2 ^ 32

-- four fields that four bytes hold each
pub record HasWordFields (o : ObjDef) : Type 0 where
  pub four : length o.f ≡ 4
  pub words : All IsWord o.f

-- code, RAM and fields that four bytes hold each, as every image of a program has them
pub record HasWords (image : ImageRecord) : Type 0 where
  pub code : All IsWord image.code
  pub ram : All IsWord image.ram
  pub fields : All HasWordFields image.objects
