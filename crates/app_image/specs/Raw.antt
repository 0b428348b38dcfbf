-- A raw image, and what its makers see to.
use Rattle.std.specs.Prelude.{ℕ, ◌≡◌, ◌≤◌, ◌-◌, List, length, drop, replicate, All}
use Rattle.kern_base.specs.declared.kinds.Kind.{Kind}
use Rattle.kern_base.specs.declared.kinds.Kind.TheVariants.{Sem, Queue, Flags, Mutex, OneShot, Periodic}
use Rattle.app_image.specs.Names.{IsFreeName, names_of, AreDistinct}
use Rattle.app_image.specs.declared.records.TaskDef.{TaskDef}
use Rattle.app_image.specs.declared.records.ObjDef.{ObjDef}
use Rattle.app_image.specs.declared.records.VectorDef.{VectorDef}
use Rattle.app_image.specs.declared.settings.ConfigLine.{ConfigLine}

-- what the lines of a case or the bytes of a binary image give
pub record RawRecord : Type 0 where
  pub tasks : List TaskDef
  pub objects : List ObjDef
  pub vectors : List VectorDef
  pub config : List ConfigLine
  pub code : List ℕ
  pub ram : List ℕ

-- how many of its four fields a kind of object uses
abbrev pub fields_used : Kind → ℕ
fields_used Sem = 1
fields_used Queue = 1
fields_used Flags = 1
fields_used Mutex = 0
fields_used OneShot = 4
fields_used Periodic = 4

-- the fields that its kind does not use are 0
abbrev pub HasZerosUnused : ObjDef → Type 0
HasZerosUnused o = drop (fields_used o.kind) o.f ≡ replicate (4 - fields_used o.kind) 0

-- what the makers of a raw image see to: its counts are within the limits, its names are free and
-- distinct, and the unused fields of its objects are 0
pub record IsMade (raw : RawRecord) : Type 0 where
  pub tasks : length raw.tasks ≤ 60
  pub objects : length raw.objects ≤ 64
  pub vectors : length raw.vectors ≤ 32
  pub code : length raw.code ≤ 16384
  pub ram : length raw.ram ≤ 65536
  pub names : All IsFreeName (names_of raw.tasks raw.objects)
  pub distinct : AreDistinct (names_of raw.tasks raw.objects)
  pub unused : All HasZerosUnused raw.objects
