-- How many tasks, objects and vectors an assembled image has.
use Rattle.std.proofs.Common.{◌≡◌, ℕ, ◌<◌, ◌≤◌, List, length, nat_le, false, arith, length-append}
use Rattle.std.specs.Prelude.{Option, Some, None}
use Rattle.std.proofs.lemmas.Bool.Decides.{nat_tests}
use Rattle.app_image.specs.Raw.{RawRecord}
use Rattle.app_image.specs.declared.records.TaskDef.{TaskDef}
use Rattle.app_image.specs.declared.records.ObjDef.{ObjDef}
use Rattle.app_image.specs.declared.records.VectorDef.{VectorDef}
use Rattle.app_image.specs.declared.settings.ConfigKey.{ConfigKey}
use Rattle.asm_places.specs.Names.{Names}
use Rattle.asm_places.specs.NameSteps.{counted}
use Rattle.asm_causes.specs.Causes.{is_too_many}
use Rattle.rv32_asm.specs.Instructions.{words}
use Rattle.asm_places.specs.Operands.{value_of}
use Rattle.rv32_asm.specs.Steps.{with_words, with_setting, with_statement}
use Rattle.asm_lines.specs.declared.mnemonics.Section.{Section}
use Rattle.asm_lines.specs.declared.mnemonics.Section.TheVariants.{Nowhere, Code, Ram}
use Rattle.asm_lines.specs.Language.{Statement, Task, Object, Vector, Setting}
use Rattle.asm_places.specs.Counts.{Counts}
use Rattle.asm_places.specs.Place.{Place}

-- so many of each, and no more than there may be
pub record Fit (t o v : ℕ) (tasks : List TaskDef) (objects : List ObjDef) (vectors : List VectorDef) : Type 0 where
  pub tasks_are : length tasks ≡ t
  pub objects_are : length objects ≡ o
  pub vectors_are : length vectors ≡ v
  pub few_tasks : t ≤ 60
  pub few_objects : o ≤ 64
  pub few_vectors : v ≤ 32

-- an image has what was counted
abbrev pub HasCounts : Counts → RawRecord → Type 0
HasCounts c raw = Fit c.tasks c.objects c.vectors raw.tasks raw.objects raw.vectors

words_keep : (c : Counts) (raw : RawRecord) (section : Section) (ws : List ℕ) → HasCounts c raw → HasCounts c (with_words section ws raw)
words_keep c raw Nowhere ws h = h
words_keep c raw Code ws h = h
words_keep c raw Ram ws h = h

setting_keeps : (c : Counts) (raw : RawRecord) (line : ℕ) (key : Option ConfigKey) (value : ℕ) → HasCounts c raw → HasCounts c (with_setting line key value raw)
setting_keeps c raw line None value h = h
setting_keeps c raw line (Some key) value h = h

below : (limit n : ℕ) → nat_le limit n ≡ false → n < limit
below limit n e = grind (arith, nat_tests)

module _ (names : Names) (places : List Place) where
  -- a statement more
  pub counts_kept : (s : Statement) (c : Counts) (p : Place) (raw : RawRecord) (line : ℕ) → is_too_many c s ≡ false → HasCounts c raw → HasCounts (counted s c) (with_statement names places line p s raw)
  counts_kept (Task n values) c p raw line few h =
      let less = below 60 c.tasks few in
      record { tasks_are = omega (arith, length-append {A = TaskDef}); objects_are = h.objects_are; vectors_are = h.vectors_are; few_tasks = omega arith; few_objects = h.few_objects; few_vectors = h.few_vectors }
  counts_kept (Object n kind values) c p raw line few h =
      let less = below 64 c.objects few in
      record { tasks_are = h.tasks_are; objects_are = omega (arith, length-append {A = ObjDef}); vectors_are = h.vectors_are; few_tasks = h.few_tasks; few_objects = omega arith; few_vectors = h.few_vectors }
  counts_kept (Vector values) c p raw line few h =
      let less = below 32 c.vectors few in
      record { tasks_are = h.tasks_are; objects_are = h.objects_are; vectors_are = omega (arith, length-append {A = VectorDef}); few_tasks = h.few_tasks; few_objects = h.few_objects; few_vectors = omega arith }
  counts_kept (Setting key v) c p raw line few h = setting_keeps c raw line key (value_of names places v) h
  counts_kept s c p raw line few h = words_keep c raw p.section (words names places p s) h
