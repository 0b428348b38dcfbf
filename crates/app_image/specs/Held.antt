-- Which raw image the first of some bytes hold.
use Rattle.std.specs.Prelude.{ℕ, ◌≡◌, ◌⊎◌, List, ◌++◌, length, map, take, All}
use Rattle.std.specs.List.{flat_map}
use Rattle.app_image.specs.Layout.{magic, half_bytes, word_bytes, words_bytes, task_bytes, object_bytes, vector_bytes, IsWord, HasWordFields}
use Rattle.app_image.specs.Places.{settings_count}
use Rattle.app_image.specs.Raw.{RawRecord, IsMade}
use Rattle.app_image.specs.Reading.{keys}
use Rattle.app_image.specs.declared.records.TaskDef.{TaskDef}
use Rattle.app_image.specs.declared.records.VectorDef.{VectorDef}

-- the first 24 bytes: the version, and how many of each part follow
abbrev pub raw_header : ℕ → RawRecord → List ℕ
raw_header version raw =
    magic ++ half_bytes version ++ half_bytes 0 ++ word_bytes (length raw.code) ++ word_bytes (length raw.ram)
    ++ half_bytes (length raw.tasks) ++ half_bytes (length raw.objects) ++ half_bytes (length raw.vectors) ++ half_bytes 0

-- the bytes of a raw image in a version: the header, then the settings, tasks, objects, vectors, code and RAM
abbrev pub raw_layout : ℕ → RawRecord → List ℕ
raw_layout version raw =
    raw_header version raw ++ (words_bytes (map (λ s. s.value) raw.config) ++ (flat_map task_bytes raw.tasks ++ (flat_map object_bytes raw.objects
    ++ (flat_map vector_bytes raw.vectors ++ (words_bytes raw.code ++ words_bytes raw.ram)))))

-- the numbers of a task and of a vector are words
pub record HasWordTask (t : TaskDef) : Type 0 where
  pub entry : IsWord t.entry
  pub sp : IsWord t.sp
  pub prio : IsWord t.prio
  pub quanta : IsWord t.quanta
  pub qsize : IsWord t.qsize

pub record HasWordVector (v : VectorDef) : Type 0 where
  pub number : IsWord v.number
  pub level : IsWord v.level
  pub entry : IsWord v.entry
  pub sp : IsWord v.sp

-- no record has a line
pub record HasNoLines (raw : RawRecord) : Type 0 where
  pub tasks : All (λ t. t.line ≡ 0) raw.tasks
  pub objects : All (λ o. o.line ≡ 0) raw.objects
  pub vectors : All (λ v. v.line ≡ 0) raw.vectors
  pub config : All (λ s. s.line ≡ 0) raw.config

-- each number is a word
pub record HasRawWords (raw : RawRecord) : Type 0 where
  pub tasks : All HasWordTask raw.tasks
  pub objects : All HasWordFields raw.objects
  pub vectors : All HasWordVector raw.vectors
  pub config : All (λ s. IsWord s.value) raw.config
  pub code : All IsWord raw.code
  pub ram : All IsWord raw.ram

-- a raw image that a version of the format can hold: version 1 has nine settings, version 2 has ten
pub record FitsVersion (version : ℕ) (raw : RawRecord) : Type 0 where
  pub known : (version ≡ 1) ⊎ (version ≡ 2)
  pub keys : map (λ s. s.key) raw.config ≡ take (settings_count version) keys
  pub made : IsMade raw
  pub words : HasRawWords raw
  pub lines : HasNoLines raw

-- these first bytes, so many, are the layout of this raw image in one of the versions
pub record Holds (bytes : List ℕ) (raw : RawRecord) (size : ℕ) : Type 0 where
  pub version : ℕ
  pub fits : FitsVersion version raw
  pub rest : List ℕ
  pub front : bytes ≡ raw_layout version raw ++ rest
  pub measured : size ≡ length (raw_layout version raw)
