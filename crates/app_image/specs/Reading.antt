-- A binary image, read. `bytes` are all the bytes, of which the image is a front.
use Rattle.std.specs.Prelude.{ℕ, zero, suc, ◌≡◌, ◌+◌, ◌==◌, nat_le, if◌then◌else◌, List, [], ◌∷◌, ◌++◌, length, take, drop, Bool, false, ◌&&◌, ◌||◌, not, Result, Ok, Err, ◌⊎◌}
use Rattle.std.specs.List.{list_any, list_all}
use Rattle.std.specs.Str.{bytes_eq}
use Rattle.kern_base.specs.declared.kinds.Kind.{Kind}
use Rattle.kern_base.specs.declared.kinds.Kind.TheVariants.{Sem, Queue, Flags, Mutex, OneShot, Periodic}
use Rattle.app_image.specs.Fields.{word_at, rows}
use Rattle.app_image.specs.Places.{is_known, has_zeros, header_of, settings_count, tasks_place, objects_place, vectors_place, code_place, ram_place, image_size}
use Rattle.app_image.specs.Names.{is_free_name}
use Rattle.app_image.specs.Raw.{RawRecord, fields_used}
use Rattle.app_image.specs.declared.causes.ImageCause.TheVariants.{BadName, Layout}
use Rattle.app_image.specs.declared.causes.ImageError.{ImageError}
use Rattle.app_image.specs.declared.causes.ImageError.TheVariants.{NoMemory, At}
use Rattle.app_image.specs.declared.header.Header.{Header}
use Rattle.app_image.specs.declared.records.TaskDef.{TaskDef}
use Rattle.app_image.specs.declared.records.ObjDef.{ObjDef}
use Rattle.app_image.specs.declared.records.VectorDef.{VectorDef}
use Rattle.app_image.specs.declared.settings.ConfigKey.{ConfigKey}
use Rattle.app_image.specs.declared.settings.ConfigKey.TheVariants.{IsrLimit, DeferSize, Pool, TmrDiv, RoundRobin, Quanta, TickPrio, TmrPrio, TmrSp, Insert}
use Rattle.app_image.specs.declared.settings.ConfigLine.{ConfigLine}

-- a byte in front, unless it is a zero at the end
abbrev pub unless_zero : ℕ → List ℕ → List ℕ
unless_zero zero [] = []
unless_zero zero (b ∷ bs) = zero ∷ b ∷ bs
unless_zero (suc n) bs = suc n ∷ bs

-- bytes without the zeros at their end
abbrev pub trimmed : List ℕ → List ℕ
trimmed [] = []
trimmed (b ∷ bs) = unless_zero b (trimmed bs)

-- the name in the 16 bytes from a place on
abbrev pub name_at : List ℕ → ℕ → List ℕ
name_at bytes at = trimmed (take 16 (drop at bytes))

-- the kind of a number from 1 to 6
abbrev pub kind_of : ℕ → Kind
kind_of n = if n == 1 then Sem else (if n == 2 then Queue else (if n == 3 then Flags else (if n == 4 then Mutex else (if n == 5 then OneShot else Periodic))))

abbrev pub is_kind : ℕ → Bool
is_kind n = nat_le 1 n && nat_le n 6

abbrev pub task_at : List ℕ → ℕ → TaskDef
task_at bytes at = record {
  name = name_at bytes at;
  entry = word_at bytes (at + 16);
  sp = word_at bytes (at + 20);
  prio = word_at bytes (at + 24);
  quanta = word_at bytes (at + 28);
  qsize = word_at bytes (at + 32);
  line = 0;
}

abbrev pub fields_at : List ℕ → ℕ → List ℕ
fields_at bytes at = word_at bytes (at + 20) ∷ word_at bytes (at + 24) ∷ word_at bytes (at + 28) ∷ word_at bytes (at + 32) ∷ []

abbrev pub object_at : List ℕ → ℕ → ObjDef
object_at bytes at = record {
  name = name_at bytes at;
  kind = kind_of (word_at bytes (at + 16));
  f = fields_at bytes at;
  line = 0;
}

abbrev pub vector_at : List ℕ → ℕ → VectorDef
vector_at bytes at = record {
  number = word_at bytes at;
  level = word_at bytes (at + 4);
  entry = word_at bytes (at + 8);
  sp = word_at bytes (at + 12);
  line = 0;
}

-- an object of a known kind whose unused fields are 0, or one of an unknown kind
abbrev pub is_clear : List ℕ → ℕ → Bool
is_clear bytes at =
    not (is_kind (word_at bytes (at + 16))) || list_all (λ w. w == 0) (drop (fields_used (kind_of (word_at bytes (at + 16)))) (fields_at bytes at))

-- the keys in the order of their places
abbrev pub keys : List ConfigKey
keys = IsrLimit ∷ DeferSize ∷ Pool ∷ TmrDiv ∷ RoundRobin ∷ Quanta ∷ TickPrio ∷ TmrPrio ∷ TmrSp ∷ Insert ∷ []

-- a setting of a key
abbrev pub setting_at : ConfigKey → List ℕ → ℕ → ConfigLine
setting_at key bytes at = record { key = key; value = word_at bytes at; line = 0 }

-- the settings of some keys, one after the other
abbrev pub settings_at : List ConfigKey → List ℕ → ℕ → List ConfigLine
settings_at [] bytes at = []
settings_at (key ∷ keys) bytes at = setting_at key bytes at ∷ settings_at keys bytes (at + 4)

-- the raw image that the bytes hold
abbrev pub raw_at : List ℕ → Header → RawRecord
raw_at bytes h = record {
  tasks = rows (task_at bytes) 36 h.tasks (tasks_place h);
  objects = rows (object_at bytes) 36 h.objects (objects_place h);
  vectors = rows (vector_at bytes) 16 h.vectors (vectors_place h);
  config = settings_at (take (settings_count h.version) keys) bytes 24;
  code = rows (word_at bytes) 4 h.code (code_place h);
  ram = rows (word_at bytes) 4 h.ram (ram_place h);
}

-- the places of the objects
abbrev pub places : ℕ → ℕ → ℕ → List ℕ
places size n at = rows (λ p. p) size n at

-- a front of the bytes is the layout of an image: a known version, counts within their limits, zeros
-- where they must be, and bytes enough
abbrev pub is_layout : List ℕ → Bool
is_layout bytes =
    let h = header_of bytes in
    nat_le 24 (length bytes) && (is_known h && (has_zeros bytes && (nat_le (image_size h) (length bytes) && list_all (is_clear bytes) (places 36 h.objects (objects_place h)))))

-- a name is not free, or is that of an earlier one
abbrev pub is_bad_name : List (List ℕ) → List ℕ → Bool
is_bad_name earlier name = not (is_free_name name) || list_any (bytes_eq name) earlier

-- some name is bad, behind some earlier ones
abbrev pub has_bad_name : List (List ℕ) → List (List ℕ) → Bool
has_bad_name earlier [] = false
has_bad_name earlier (name ∷ names) = is_bad_name earlier name || has_bad_name (earlier ++ name ∷ []) names

-- the names of the tasks and then of the objects, which stand one behind the other
abbrev pub names_at : List ℕ → Header → List (List ℕ)
names_at bytes h = rows (name_at bytes) 36 (h.tasks + h.objects) (tasks_place h)

-- some name is bad, or some kind is unknown
abbrev pub has_fault : List ℕ → Header → Bool
has_fault bytes h =
    has_bad_name [] (names_at bytes h) || not (list_all (λ p. is_kind (word_at bytes (p + 16))) (places 36 h.objects (objects_place h)))

-- what reading the bytes gives: the raw image and its length, or the refusal
abbrev pub image_in : List ℕ → Result (RawRecord × ℕ) ImageError
image_in bytes =
    let h = header_of bytes in
    if not (is_layout bytes) then Err (At 0 Layout) else (if has_fault bytes h then Err (At 0 BadName) else Ok (raw_at bytes h, image_size h))

-- want of memory is free
abbrev pub OrNoMemory : {T : Type 0} → Result T ImageError → Result T ImageError → Type 0
OrNoMemory result answer = (result ≡ Err NoMemory) ⊎ (result ≡ answer)
