-- A valid image.
use Rattle.std.specs.Prelude.{ℕ, ◌≡◌, ◌≢◌, ◌≤◌, ◌-◌, ◌^◌, ◌⊎◌, List, length, map, slice_index, All, AllPairs}
use Rattle.kern_base.specs.declared.kinds.Kind.{Kind}
use Rattle.kern_base.specs.declared.kinds.Kind.TheVariants.{Sem, Queue, Flags, Mutex, OneShot, Periodic}
use Rattle.kern_base.specs.Tables.{KindTable}
use Rattle.app_image.specs.Addresses.{IsCodeAddress, IsStackPointer}
use Rattle.app_image.specs.Names.{IsFreeName, names_of, AreDistinct}
use Rattle.app_image.specs.Raw.{RawRecord, HasZerosUnused}
use Rattle.app_image.specs.Settings.{config_of, IsValidConfig}
use Rattle.app_image.specs.declared.records.TaskDef.{TaskDef}
use Rattle.app_image.specs.declared.records.ObjDef.{ObjDef}
use Rattle.app_image.specs.declared.records.VectorDef.{VectorDef}
use Rattle.app_image.specs.declared.settings.Config.{Config}

-- an image as contracts see it
pub record ImageRecord : Type 0 where
  pub tasks : List TaskDef
  pub objects : List ObjDef
  pub vectors : List VectorDef
  pub code : List ℕ
  pub ram : List ℕ
  pub config : Config

-- the image that a raw image gives, with the default of each setting that it does not give
abbrev pub image_of : RawRecord → ImageRecord
image_of raw = record {
  tasks = raw.tasks;
  objects = raw.objects;
  vectors = raw.vectors;
  code = raw.code;
  ram = raw.ram;
  config = config_of raw.config;
}

-- what the static checks of a call look at
abbrev pub kind_table : ImageRecord → KindTable
kind_table image = record { objects = map (λ o. o.kind) image.objects; tasks = length image.tasks }

-- the number that stands for no callback
abbrev pub no_callback : ℕ
no_callback = 2 ^ 32 - 1

-- a task that may run
pub record IsValidTask (words : ℕ) (t : TaskDef) : Type 0 where
  pub prio_low : 1 ≤ t.prio
  pub prio_high : t.prio ≤ 62
  pub entry : IsCodeAddress words t.entry
  pub sp : IsStackPointer t.sp
  pub quanta : t.quanta ≤ 65535
  pub qsize : t.qsize ≤ 1024

-- no callback, or the address of a code word
abbrev pub IsCallback : ℕ → ℕ → Type 0
IsCallback words callback = (callback ≡ no_callback) ⊎ IsCodeAddress words callback

-- a queue's size, a timer's times and its callback
abbrev pub HasValidFields : ℕ → Kind → List ℕ → Type 0
HasValidFields words Sem f = Unit {0}
HasValidFields words Queue f = (1 ≤ slice_index f 0) × (slice_index f 0 ≤ 1024)
HasValidFields words Flags f = Unit {0}
HasValidFields words Mutex f = Unit {0}
HasValidFields words OneShot f = (1 ≤ slice_index f 0) × IsCallback words (slice_index f 2)
HasValidFields words Periodic f = (1 ≤ slice_index f 1) × IsCallback words (slice_index f 2)

-- an object that may be used
pub record IsValidObject (words : ℕ) (o : ObjDef) : Type 0 where
  pub fields : HasValidFields words o.kind o.f
  pub unused : HasZerosUnused o

-- a vector that may be taken
pub record IsValidVector (words : ℕ) (v : VectorDef) : Type 0 where
  pub number : v.number ≤ 31
  pub level_low : 1 ≤ v.level
  pub level_high : v.level ≤ 7
  pub entry : IsCodeAddress words v.entry
  pub sp : IsStackPointer v.sp

-- an image that may be loaded: it is within the limits, and each of its parts is valid
pub record IsValidImage (image : ImageRecord) : Type 0 where
  pub some_task : 1 ≤ length image.tasks
  pub some_code : 1 ≤ length image.code
  pub tasks_room : length image.tasks ≤ 60
  pub objects_room : length image.objects ≤ 64
  pub vectors_room : length image.vectors ≤ 32
  pub code_room : length image.code ≤ 16384
  pub ram_room : length image.ram ≤ 65536
  pub names : All IsFreeName (names_of image.tasks image.objects)
  pub distinct : AreDistinct (names_of image.tasks image.objects)
  pub tasks : All (IsValidTask (length image.code)) image.tasks
  pub objects : All (IsValidObject (length image.code)) image.objects
  pub vectors : All (IsValidVector (length image.code)) image.vectors
  pub numbers : AllPairs (λ v w. v.number ≢ w.number) image.vectors
  pub config : IsValidConfig image.config
