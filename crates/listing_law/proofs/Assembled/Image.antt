-- What the lines of a listing give: the image, with the numbers of its lines.
use Rattle.std.proofs.Common.{◌≡◌, ℕ, ◌+◌, ◌*◌, ◌≤◌, List, [], ◌∷◌, ◌++◌, length, map, arith, refl, ap, ◌∙◌, append_assoc, append-nil}
use Rattle.std.specs.List.{AllByRecursion}
use Rattle.std.proofs.lemmas.List.Elements.{recursion_from_All}
use Rattle.app_image.specs.Image.{ImageRecord, IsValidImage}
use Rattle.app_image.specs.Layout.{IsWord, HasWords}
use Rattle.app_image.specs.Raw.{RawRecord}
use Rattle.app_image.specs.declared.records.TaskDef.{TaskDef}
use Rattle.app_image.specs.declared.records.ObjDef.{ObjDef}
use Rattle.app_image.specs.declared.records.VectorDef.{VectorDef}
use Rattle.app_image.specs.declared.settings.Config.{Config}
use Rattle.app_image.specs.declared.settings.ConfigKey.{ConfigKey}
use Rattle.app_image.specs.declared.settings.ConfigLine.{ConfigLine}
use Rattle.rv32_asm.specs.Steps.{empty_image}
use Rattle.asm_lines.specs.Words.{keys}
use Rattle.asm_lines.specs.declared.mnemonics.Section.TheVariants as section
use Rattle.rv32_listing.specs.Disassembly.{value_of}
use Rattle.listing_law.proofs.Lines.Items.{Item, Turned, Stored, Declared, Tasked, Vectored}
use Rattle.listing_law.proofs.Statements.Words.{body_of, IsCodeWord, code_word}
use Rattle.listing_law.proofs.Lines.Listed.{code_items, setting_items, items_of}
use Rattle.listing_law.proofs.Assembled.Gives.{body_word, word_same, item_added}
use Rattle.listing_law.proofs.Assembled.Texts.{items_added}

added_append : (n : ℕ) (xs ys : List Item) (raw : RawRecord) → items_added n (xs ++ ys) raw ≡ items_added (n + length xs) ys (items_added n xs raw)
added_append n [] ys raw = ap (λ m. items_added m ys raw) (omega arith)
added_append n (x ∷ xs) ys raw = added_append (n + 1) xs ys (item_added n x raw) ∙ ap (λ m. items_added m ys (items_added (n + 1) xs (item_added n x raw))) (omega arith)

-- records on lines that are numbered from a number on
abbrev pub on_lines : {T : Type 0} → (ℕ → T → T) → ℕ → List T → List T
on_lines put n [] = []
on_lines put n (x ∷ xs) = put n x ∷ on_lines put (n + 1) xs

abbrev pub task_on : ℕ → TaskDef → TaskDef
task_on n t = record t { line = n }

abbrev pub object_on : ℕ → ObjDef → ObjDef
object_on n o = record o { line = n }

abbrev pub vector_on : ℕ → VectorDef → VectorDef
vector_on n v = record v { line = n }

-- without their numbers they are the same
pub off_lines : {T : Type 0} (put : ℕ → T → T) (plain : T → T) → ((n : ℕ) (x : T) → plain (put n x) ≡ plain x) → (n : ℕ) (xs : List T) → map plain (on_lines put n xs) ≡ map plain xs
off_lines put plain e n [] = refl
off_lines put plain e n (x ∷ xs) = ap (λ y. y ∷ map plain (on_lines put (n + 1) xs)) (e n x) ∙ ap (λ l. plain x ∷ l) (off_lines put plain e (n + 1) xs)

abbrev pub settings_on : ℕ → Config → List ConfigLine
settings_on n c = from n keys
  where
    from : ℕ → List (List ℕ × ConfigKey) → List ConfigLine
    from n [] = []
    from n (key ∷ more) = record { key = key.1; value = value_of c key.1; line = n } ∷ from (n + 1) more

code_added : (words n number : ℕ) (ws : List ℕ) (raw : RawRecord) → words ≤ 16384 → AllByRecursion IsWord ws → items_added n (code_items words number ws) raw ≡ record raw { code = raw.code ++ ws }
code_added words n number [] raw few h = rw append-nil refl
code_added words n number (w ∷ ws) raw few h =
    let code : IsCodeWord words (4 * number) w (body_of words (4 * number) w) = code_word words (4 * number) w few h.0 in
    let same = word_same words (4 * number) w (body_of words (4 * number) w) code.gives in
    code_added words (n + 1) (number + 1) ws (record raw { code = raw.code ++ body_word (4 * number) (body_of words (4 * number) w) ∷ [] }) few h.1
    ∙ ap (λ l. record raw { code = l }) (ap (λ x. (raw.code ++ x ∷ []) ++ ws) same ∙ append_assoc raw.code (w ∷ []) ws)

ram_added : (n : ℕ) (ws : List ℕ) (raw : RawRecord) → items_added n (map Stored ws) raw ≡ record raw { ram = raw.ram ++ ws }
ram_added n [] raw = rw append-nil refl
ram_added n (w ∷ ws) raw = ram_added (n + 1) ws (record raw { ram = raw.ram ++ w ∷ [] }) ∙ ap (λ l. record raw { ram = l }) (append_assoc raw.ram (w ∷ []) ws)

objects_added : (n : ℕ) (os : List ObjDef) (raw : RawRecord) → items_added n (map Declared os) raw ≡ record raw { objects = raw.objects ++ on_lines object_on n os }
objects_added n [] raw = rw append-nil refl
objects_added n (o ∷ os) raw =
    objects_added (n + 1) os (record raw { objects = raw.objects ++ object_on n o ∷ [] }) ∙ ap (λ l. record raw { objects = l }) (append_assoc raw.objects (object_on n o ∷ []) (on_lines object_on (n + 1) os))

tasks_added : (n : ℕ) (ts : List TaskDef) (raw : RawRecord) → items_added n (map Tasked ts) raw ≡ record raw { tasks = raw.tasks ++ on_lines task_on n ts }
tasks_added n [] raw = rw append-nil refl
tasks_added n (t ∷ ts) raw =
    tasks_added (n + 1) ts (record raw { tasks = raw.tasks ++ task_on n t ∷ [] }) ∙ ap (λ l. record raw { tasks = l }) (append_assoc raw.tasks (task_on n t ∷ []) (on_lines task_on (n + 1) ts))

vectors_added : (n : ℕ) (vs : List VectorDef) (raw : RawRecord) → items_added n (map Vectored vs) raw ≡ record raw { vectors = raw.vectors ++ on_lines vector_on n vs }
vectors_added n [] raw = rw append-nil refl
vectors_added n (v ∷ vs) raw =
    vectors_added (n + 1) vs (record raw { vectors = raw.vectors ++ vector_on n v ∷ [] }) ∙ ap (λ l. record raw { vectors = l }) (append_assoc raw.vectors (vector_on n v ∷ []) (on_lines vector_on (n + 1) vs))

-- the raw image of an image whose parts begin on these lines
abbrev pub lined_raw : (objects tasks vectors settings : ℕ) → ImageRecord → RawRecord
lined_raw o t v s image = record {
  tasks = on_lines task_on t image.tasks;
  objects = on_lines object_on o image.objects;
  vectors = on_lines vector_on v image.vectors;
  config = settings_on s image.config;
  code = image.code;
  ram = image.ram;
}

pub record IsLined (image : ImageRecord) (raw : RawRecord) : Type 0 where
  pub objects : ℕ
  pub tasks : ℕ
  pub vectors : ℕ
  pub settings : ℕ
  pub same : raw ≡ lined_raw objects tasks vectors settings image

pub listed_added : (image : ImageRecord) → IsValidImage image → HasWords image → IsLined image (items_added 1 (items_of image) empty_image)
listed_added image v w =
    let words = length image.code in
    let code = code_items words 0 image.code in
    let ram : List Item = map Stored image.ram in
    let objects : List Item = map Declared image.objects in
    let tasks : List Item = map Tasked image.tasks in
    let vectors : List Item = map Vectored image.vectors in
    let settings = setting_items image.config in
    let n1 : ℕ = 2 + length code + 1 in
    let n2 : ℕ = n1 + length ram in
    let n3 : ℕ = n2 + length objects in
    let n4 : ℕ = n3 + length tasks in
    let n5 : ℕ = n4 + length vectors in
    let r1 : RawRecord = record empty_image { code = image.code } in
    let r2 : RawRecord = record r1 { ram = image.ram } in
    let r3 : RawRecord = record r2 { objects = on_lines object_on n2 image.objects } in
    let r4 : RawRecord = record r3 { tasks = on_lines task_on n3 image.tasks } in
    let r5 : RawRecord = record r4 { vectors = on_lines vector_on n4 image.vectors } in
    let e1 : items_added 2 (code ++ (Turned section.Ram ∷ (ram ++ (objects ++ (tasks ++ (vectors ++ settings)))))) empty_image ≡ items_added n1 (ram ++ (objects ++ (tasks ++ (vectors ++ settings)))) r1 =
    added_append 2 code (Turned section.Ram ∷ (ram ++ (objects ++ (tasks ++ (vectors ++ settings))))) empty_image
    ∙ ap (items_added n1 (ram ++ (objects ++ (tasks ++ (vectors ++ settings))))) (code_added words 2 0 image.code empty_image v.code_room (recursion_from_All IsWord image.code w.code)) in
    let e2 : items_added n1 (ram ++ (objects ++ (tasks ++ (vectors ++ settings)))) r1 ≡ items_added n2 (objects ++ (tasks ++ (vectors ++ settings))) r2 =
    added_append n1 ram (objects ++ (tasks ++ (vectors ++ settings))) r1 ∙ ap (items_added n2 (objects ++ (tasks ++ (vectors ++ settings)))) (ram_added n1 image.ram r1) in
    let e3 : items_added n2 (objects ++ (tasks ++ (vectors ++ settings))) r2 ≡ items_added n3 (tasks ++ (vectors ++ settings)) r3 =
    added_append n2 objects (tasks ++ (vectors ++ settings)) r2 ∙ ap (items_added n3 (tasks ++ (vectors ++ settings))) (objects_added n2 image.objects r2) in
    let e4 : items_added n3 (tasks ++ (vectors ++ settings)) r3 ≡ items_added n4 (vectors ++ settings) r4 =
    added_append n3 tasks (vectors ++ settings) r3 ∙ ap (items_added n4 (vectors ++ settings)) (tasks_added n3 image.tasks r3) in
    let e5 : items_added n4 (vectors ++ settings) r4 ≡ items_added n5 settings r5 = added_append n4 vectors settings r4 ∙ ap (items_added n5 settings) (vectors_added n4 image.vectors r4) in
    record { objects = n2; tasks = n3; vectors = n4; settings = n5; same = e1 ∙ (e2 ∙ (e3 ∙ (e4 ∙ e5))) }
