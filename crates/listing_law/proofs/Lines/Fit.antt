-- The lines of the listing of a valid image can be read.
use Rattle.std.proofs.Common.{ℕ, zero, suc, ◌+◌, ◌*◌, ◌^◌, ◌<◌, ◌≤◌, List, [], ◌∷◌, ◌++◌, length, map, arith, refl}
use Rattle.std.specs.Prelude.{slice_index}
use Rattle.std.specs.List.{AllByRecursion}
use Rattle.std.proofs.lemmas.List.Elements.{recursion_from_All}
use Rattle.app_image.specs.Image.{ImageRecord, IsValidImage, IsValidTask, IsValidVector}
use Rattle.app_image.specs.Held.{HasWordTask, HasWordVector}
use Rattle.app_image.specs.Layout.{IsWord, HasWordFields, HasWords}
use Rattle.app_image.specs.Names.{IsFreeName, names_of}
use Rattle.app_image.specs.Settings.{IsValidConfig}
use Rattle.app_image.specs.declared.records.TaskDef.{TaskDef}
use Rattle.app_image.specs.declared.records.VectorDef.{VectorDef}
use Rattle.app_image.specs.declared.settings.Config.{Config}
use Rattle.listing_law.proofs.Lines.Items.{Item, Stored, Declared, Tasked, Vectored, IsItem}
use Rattle.listing_law.proofs.Lines.Read.{AreItems}
use Rattle.listing_law.proofs.Statements.Words.{code_word}
use Rattle.listing_law.proofs.Lines.Listed.{code_items, setting_items, items_of}

pub items_append : (xs ys : List Item) → AreItems xs → AreItems ys → AreItems (xs ++ ys)
items_append [] ys h k = k
items_append (x ∷ xs) ys h k = (h.0, items_append xs ys h.1 k)

items_map : {T : Type 0} (f : T → Item) (P : T → Type 0) → ((t : T) → P t → IsItem (f t)) → (ts : List T) → AllByRecursion P ts → AreItems (map f ts)
items_map f P g [] h = tt
items_map f P g (t ∷ ts) h = (g t h.0, items_map f P g ts h.1)

code_fits : (words number : ℕ) (ws : List ℕ) → words ≤ 16384 → number + length ws ≤ words → AllByRecursion IsWord ws → AreItems (code_items words number ws)
code_fits words number [] few room h = tt
code_fits words number (w ∷ ws) few room h =
    let near : 4 * number < 65536 = omega (arith, few, room) in
    let rest : number + 1 + length ws ≤ words = omega (arith, room) in
    ((near, (code_word words (4 * number) w few h.0).fits), code_fits words (number + 1) ws few rest h.1)

-- two facts on each element
pub both : {T : Type 0} (P Q : T → Type 0) (ts : List T) → AllByRecursion P ts → AllByRecursion Q ts → AllByRecursion (λ t. P t × Q t) ts
both P Q [] h k = tt
both P Q (t ∷ ts) h k = ((h.0, k.0), both P Q ts h.1 k.1)

-- the names of tasks and of objects
front : {T : Type 0} (P : T → Type 0) (xs ys : List T) → AllByRecursion P (xs ++ ys) → AllByRecursion P xs
front P [] ys h = tt
front P (x ∷ xs) ys h = (h.0, front P xs ys h.1)

back : {T : Type 0} (P : T → Type 0) (xs ys : List T) → AllByRecursion P (xs ++ ys) → AllByRecursion P ys
back P [] ys h = h
back P (x ∷ xs) ys h = back P xs ys h.1

pub unmapped : {T U : Type 0} (f : T → U) (P : U → Type 0) (ts : List T) → AllByRecursion P (map f ts) → AllByRecursion (λ t. P (f t)) ts
unmapped f P [] h = tt
unmapped f P (t ∷ ts) h = (h.0, unmapped f P ts h.1)

pub task_names : (image : ImageRecord) → IsValidImage image → AllByRecursion (λ t. IsFreeName t.name) image.tasks
task_names image v =
    let all = recursion_from_All IsFreeName (names_of image.tasks image.objects) v.names in
    unmapped (λ t. t.name) IsFreeName image.tasks (front IsFreeName (map (λ t. t.name) image.tasks) (map (λ o. o.name) image.objects) all)

pub object_names : (image : ImageRecord) → IsValidImage image → AllByRecursion (λ o. IsFreeName o.name) image.objects
object_names image v =
    let all = recursion_from_All IsFreeName (names_of image.tasks image.objects) v.names in
    unmapped (λ o. o.name) IsFreeName image.objects (back IsFreeName (map (λ t. t.name) image.tasks) (map (λ o. o.name) image.objects) all)

pub field_fits : (f : List ℕ) → AllByRecursion IsWord f → (i : ℕ) → slice_index f i < 2 ^ 32
field_fits [] h i = omega arith
field_fits (x ∷ f) h zero = h.0
field_fits (x ∷ f) h (suc i) = field_fits f h.1 i

pub task_words : (words : ℕ) → words ≤ 16384 → (t : TaskDef) → IsValidTask words t → HasWordTask t
task_words words few t v = record {
  entry = omega (arith, few, v.entry.inside);
  sp = omega (arith, v.sp.high);
  prio = omega (arith, v.prio_high);
  quanta = omega (arith, v.quanta);
  qsize = omega (arith, v.qsize);
}

pub vector_words : (words : ℕ) → words ≤ 16384 → (w : VectorDef) → IsValidVector words w → HasWordVector w
vector_words words few w v = record {
  number = omega (arith, v.number);
  level = omega (arith, v.level_high);
  entry = omega (arith, few, v.entry.inside);
  sp = omega (arith, v.sp.high);
}

settings_fit : (c : Config) → IsValidConfig c → AreItems (setting_items c)
settings_fit c h = (
  (refl, refl, omega (arith, h.isr_limit_high)),
  (
    (refl, refl, omega (arith, h.defer_size_high)),
    (
      (refl, refl, omega (arith, h.pool_high)),
      (
        (refl, refl, omega (arith, h.tmr_div_high)),
        (
          (refl, refl, omega (arith, h.round_robin_high)),
          (
            (refl, refl, omega (arith, h.quanta_high)),
            (
              (refl, refl, omega (arith, h.tick_prio_high)),
              (
                (refl, refl, omega (arith, h.tmr_prio_high)),
                ((refl, refl, omega (arith, h.tmr_sp_in_ram.high)), ((refl, refl, omega (arith, h.insert_high)), tt)),
              ),
            ),
          ),
        ),
      ),
    ),
  ),
)

-- all lines of a valid image
pub listed_fit : (image : ImageRecord) → IsValidImage image → HasWords image → AreItems (items_of image)
listed_fit image v w =
    let words = length image.code in
    let room : 0 + words ≤ words = omega arith in
    let code = code_fits words 0 image.code v.code_room room (recursion_from_All IsWord image.code w.code) in
    let ram = items_map Stored IsWord (λ x h. h) image.ram (recursion_from_All IsWord image.ram w.ram) in
    let named_objects = both (λ o. IsFreeName o.name) HasWordFields image.objects (object_names image v) (recursion_from_All HasWordFields image.objects w.fields) in
    let objects = items_map Declared (λ o. IsFreeName o.name × HasWordFields o) (λ o h. (h.0.form, λ i. field_fits o.f (recursion_from_All IsWord o.f h.1.words) i)) image.objects named_objects in
    let named_tasks = both (λ t. IsFreeName t.name) (IsValidTask words) image.tasks (task_names image v) (recursion_from_All (IsValidTask words) image.tasks v.tasks) in
    let tasks = items_map Tasked (λ t. IsFreeName t.name × IsValidTask words t) (λ t h. (h.0.form, task_words words v.code_room t h.1)) image.tasks named_tasks in
    let vectors = items_map Vectored (IsValidVector words) (λ x h. vector_words words v.code_room x h) image.vectors (recursion_from_All (IsValidVector words) image.vectors v.vectors) in
    (tt, items_append (code_items words 0 image.code) _ code (tt, items_append (map Stored image.ram) _ ram (items_append (map Declared image.objects) _ objects (items_append (map Tasked image.tasks) _ tasks (items_append (map Vectored image.vectors) _ vectors (settings_fit image.config v.config))))))
