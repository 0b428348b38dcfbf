-- What is written reads back.
use Rattle.std.specs.Prelude.{ℕ, ◌≡◌, List, [], ◌∷◌, ◌++◌, length, map, Ok}
use Rattle.app_image.specs.Image.{ImageRecord}
use Rattle.app_image.specs.Layout.{layout}
use Rattle.app_image.specs.Raw.{RawRecord, IsMade}
use Rattle.app_image.specs.Reading.{image_in}
use Rattle.app_image.specs.Refusal.{checked}
use Rattle.app_image.specs.declared.records.TaskDef.{TaskDef}
use Rattle.app_image.specs.declared.records.ObjDef.{ObjDef}
use Rattle.app_image.specs.declared.records.VectorDef.{VectorDef}
use Rattle.app_image.specs.declared.settings.Config.{Config}
use Rattle.app_image.specs.declared.settings.ConfigKey.TheVariants.{IsrLimit, DeferSize, Pool, TmrDiv, RoundRobin, Quanta, TickPrio, TmrPrio, TmrSp, Insert}
use Rattle.app_image.specs.declared.settings.ConfigLine.{ConfigLine}

-- the records without their lines
abbrev pub unlined_task : TaskDef → TaskDef
unlined_task t = record t { line = 0 }

abbrev pub unlined_object : ObjDef → ObjDef
unlined_object o = record o { line = 0 }

abbrev pub unlined_vector : VectorDef → VectorDef
unlined_vector v = record v { line = 0 }

-- the same image with line numbers 0
abbrev pub unlined : ImageRecord → ImageRecord
unlined image = record image {
  tasks = map unlined_task image.tasks;
  objects = map unlined_object image.objects;
  vectors = map unlined_vector image.vectors;
}

-- the ten settings as lines
abbrev pub setting_lines : Config → List ConfigLine
setting_lines c =
    record { key = IsrLimit; value = c.isr_limit; line = 0 } ∷ record { key = DeferSize; value = c.defer_size; line = 0 } ∷ record { key = Pool; value = c.pool; line = 0 }
    ∷ record { key = TmrDiv; value = c.tmr_div; line = 0 } ∷ record { key = RoundRobin; value = c.round_robin; line = 0 } ∷ record { key = Quanta; value = c.quanta; line = 0 }
    ∷ record { key = TickPrio; value = c.tick_prio; line = 0 } ∷ record { key = TmrPrio; value = c.tmr_prio; line = 0 } ∷ record { key = TmrSp; value = c.tmr_sp; line = 0 }
    ∷ record { key = Insert; value = c.insert; line = 0 } ∷ []

-- the raw image that a written image is read as
abbrev pub stored : ImageRecord → RawRecord
stored image = record {
  tasks = map unlined_task image.tasks;
  objects = map unlined_object image.objects;
  vectors = map unlined_vector image.vectors;
  config = setting_lines image.config;
  code = image.code;
  ram = image.ram;
}

-- the bytes of an image, whatever follows them, are read as its raw image, and the check of that
-- gives the same image with line numbers 0
pub record ReadsBack (image : ImageRecord) : Type 0 where
  pub read : (rest : List ℕ) → image_in (layout image ++ rest) ≡ Ok (stored image, length (layout image))
  pub made : IsMade (stored image)
  pub check : checked (stored image) ≡ Ok (unlined image)
