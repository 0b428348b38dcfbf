-- What is laid out is read back: each raw image that fits a version, and so each valid image that was written.
use Rattle.std.proofs.Common.{◌≡◌, ℕ, List, [], ◌∷◌, ◌++◌, length, map, refl, sym, ap, ◌∙◌, arith, inr, Ok}
use Rattle.std.specs.List.{flat_map, AllByRecursion}
use Rattle.std.proofs.lemmas.List.Elements.{recursion_from_All, All-from_recursion}
use Rattle.std.proofs.lemmas.List.{length-map}
use Rattle.app_image.specs.Names.{IsFreeName, names_of}
use Rattle.app_image.specs.Image.{ImageRecord, IsValidTask, IsValidObject, IsValidImage}
use Rattle.app_image.specs.Settings.{IsValidConfig}
use Rattle.app_image.specs.Layout.{task_bytes, object_bytes, vector_bytes, setting_values, layout, IsWord, HasWordFields, HasWords}
use Rattle.app_image.specs.Raw.{RawRecord, HasZerosUnused}
use Rattle.app_image.specs.declared.settings.ConfigLine.{ConfigLine}
use Rattle.app_image.specs.Reading.{image_in}
use Rattle.app_image.specs.Held.{raw_layout, HasNoLines, HasWordTask, FitsVersion, Holds}
use Rattle.app_image.specs.RoundTrip.{unlined_task, unlined_object, unlined_vector, setting_lines, stored, ReadsBack}
use Rattle.app_image.specs.declared.records.TaskDef.{TaskDef}
use Rattle.app_image.specs.declared.records.ObjDef.{ObjDef}
use Rattle.app_image.specs.declared.records.VectorDef.{VectorDef}
use Rattle.app_image.specs.declared.settings.Config.{Config}
use Rattle.app_image.proofs.BackFields.{StoredTask, StoredObject, StoredVector}
use Rattle.app_image.proofs.BackChecks.{IsMade-stored, checked-stored}
use Rattle.app_image.proofs.BackImage.{Parts}
use Rattle.app_image.proofs.BackWhole.{read_back}

both : {T : Type 0} (P Q R : T → Type 0) → ((t : T) → P t → Q t → R t) → (ts : List T) → AllByRecursion P ts → AllByRecursion Q ts → AllByRecursion R ts
both P Q R f [] p q = tt
both P Q R f (t ∷ ts) p q = (f t p.0 q.0, both P Q R f ts p.1 q.1)

-- what holds of the names holds of each record's name
front_names : {T : Type 0} (P : List ℕ → Type 0) (f : T → List ℕ) (ts : List T) (rest : List (List ℕ)) → AllByRecursion P (map f ts ++ rest) → AllByRecursion (λ t. P (f t)) ts
front_names P f [] rest h = tt
front_names P f (t ∷ ts) rest h = (h.0, front_names P f ts rest h.1)

back_names : {T U : Type 0} (P : List ℕ → Type 0) (f : T → List ℕ) (g : U → List ℕ) (ts : List T) (us : List U) → AllByRecursion P (map f ts ++ map g us) → AllByRecursion (λ u. P (g u)) us
back_names P f g [] [] h = tt
back_names P f g [] (u ∷ us) h = (h.0, back_names P f g [] us h.1)
back_names P f g (t ∷ ts) us h = back_names P f g ts us h.1

stored_tasks : (image : ImageRecord) → IsValidImage image → AllByRecursion StoredTask image.tasks
stored_tasks image v =
    let words = length image.code in
    let names = front_names IsFreeName (λ t. t.name) image.tasks (map (λ o. o.name) image.objects) (recursion_from_All IsFreeName (names_of image.tasks image.objects) v.names) in
    both (λ t. IsFreeName t.name) (IsValidTask words) StoredTask (λ t n h. record {
      name = n;
      words =
          (omega (arith, h.entry.inside, v.code_room), (omega (arith, h.sp.high), (omega (arith, h.prio_high), (omega (arith, h.quanta), (omega (arith, h.qsize), tt)))));
    }) image.tasks names (recursion_from_All (IsValidTask words) image.tasks v.tasks)

stored_objects : (image : ImageRecord) → IsValidImage image → HasWords image → AllByRecursion StoredObject image.objects
stored_objects image v w =
    let words = length image.code in
    let names = back_names IsFreeName (λ t. t.name) (λ o. o.name) image.tasks image.objects (recursion_from_All IsFreeName (names_of image.tasks image.objects) v.names) in
    let fields = recursion_from_All HasWordFields image.objects w.fields in
    let valid = recursion_from_All (IsValidObject words) image.objects v.objects in
    both (λ o. HasWordFields o × IsFreeName o.name) (IsValidObject words) StoredObject (λ o n h. record {
      name = n.1;
      four = n.0.four;
      words = recursion_from_All IsWord o.f n.0.words;
      unused = h.unused;
    }) image.objects (both HasWordFields (λ o. IsFreeName o.name) (λ o. HasWordFields o × IsFreeName o.name) (λ o a b. (a, b)) image.objects fields names) valid

stored_vectors : (image : ImageRecord) → IsValidImage image → AllByRecursion StoredVector image.vectors
stored_vectors image v =
    let words = length image.code in
    recursion_from_All StoredVector image.vectors (λ k d l.
    let h = v.vectors k d l in
    record { words = (omega (arith, h.number), (omega (arith, h.level_high), (omega (arith, h.entry.inside, v.code_room), (omega (arith, h.sp.high), tt)))) })

setting_words : (c : Config) → IsValidConfig c → AllByRecursion IsWord (setting_values c)
setting_words c h = (
  omega (arith, h.isr_limit_high),
  (
    omega (arith, h.defer_size_high),
    (
      omega (arith, h.pool_high),
      (
        omega (arith, h.tmr_div_high),
        (
          omega (arith, h.round_robin_high),
          (omega (arith, h.quanta_high), (omega (arith, h.tick_prio_high), (omega (arith, h.tmr_prio_high), (omega (arith, h.tmr_sp_in_ram.high), (omega (arith, h.insert_high), tt))))),
        ),
      ),
    ),
  ),
)

-- the same of the records without their lines
tasks_unlined : (ts : List TaskDef) → AllByRecursion StoredTask ts → AllByRecursion StoredTask (map unlined_task ts)
tasks_unlined [] h = tt
tasks_unlined (t ∷ ts) h = (record { name = h.0.name; words = h.0.words }, tasks_unlined ts h.1)

objects_unlined : (os : List ObjDef) → AllByRecursion StoredObject os → AllByRecursion StoredObject (map unlined_object os)
objects_unlined [] h = tt
objects_unlined (o ∷ os) h = (record { name = h.0.name; four = h.0.four; words = h.0.words; unused = h.0.unused }, objects_unlined os h.1)

vectors_unlined : (vs : List VectorDef) → AllByRecursion StoredVector vs → AllByRecursion StoredVector (map unlined_vector vs)
vectors_unlined [] h = tt
vectors_unlined (v ∷ vs) h = (record { words = h.0.words }, vectors_unlined vs h.1)

no_task_lines : (ts : List TaskDef) → AllByRecursion (λ t. t.line ≡ 0) (map unlined_task ts)
no_task_lines [] = tt
no_task_lines (t ∷ ts) = (refl, no_task_lines ts)

no_object_lines : (os : List ObjDef) → AllByRecursion (λ o. o.line ≡ 0) (map unlined_object os)
no_object_lines [] = tt
no_object_lines (o ∷ os) = (refl, no_object_lines os)

no_vector_lines : (vs : List VectorDef) → AllByRecursion (λ v. v.line ≡ 0) (map unlined_vector vs)
no_vector_lines [] = tt
no_vector_lines (v ∷ vs) = (refl, no_vector_lines vs)

no_lines : (image : ImageRecord) → HasNoLines (stored image)
no_lines image = record {
  tasks = All-from_recursion (λ t. t.line ≡ 0) (map unlined_task image.tasks) (no_task_lines image.tasks);
  objects = All-from_recursion (λ o. o.line ≡ 0) (map unlined_object image.objects) (no_object_lines image.objects);
  vectors = All-from_recursion (λ v. v.line ≡ 0) (map unlined_vector image.vectors) (no_vector_lines image.vectors);
  config = All-from_recursion (λ s. s.line ≡ 0) (setting_lines image.config) (refl, (refl, (refl, (refl, (refl, (refl, (refl, (refl, (refl, (refl, tt))))))))));
}

parts_stored : (image : ImageRecord) → IsValidImage image → HasWords image → Parts 2 (stored image)
parts_stored image v w = record {
  known = inr refl;
  keys = refl;
  made = IsMade-stored image v;
  tasks = tasks_unlined image.tasks (stored_tasks image v);
  objects = objects_unlined image.objects (stored_objects image v w);
  vectors = vectors_unlined image.vectors (stored_vectors image v);
  config = setting_words image.config v.config;
  code = recursion_from_All IsWord image.code w.code;
  ram = recursion_from_All IsWord image.ram w.ram;
  lines = no_lines image;
}

-- the bytes are the same
same_flat : {X : Type 0} (f : X → X) (bytes : X → List ℕ) → ((x : X) → bytes (f x) ≡ bytes x) → (xs : List X) → flat_map bytes (map f xs) ≡ flat_map bytes xs
same_flat f bytes e [] = refl
same_flat f bytes e (x ∷ xs) = ap (λ l. l ++ flat_map bytes (map f xs)) (e x) ∙ ap (λ l. bytes x ++ l) (same_flat f bytes e xs)

layout_stored : (image : ImageRecord) → raw_layout 2 (stored image) ≡ layout image
layout_stored image =
    rw (
      length-map image.tasks unlined_task,
      length-map image.objects unlined_object,
      length-map image.vectors unlined_vector,
      same_flat unlined_task task_bytes (λ t. refl) image.tasks,
      same_flat unlined_object object_bytes (λ o. refl) image.objects,
      same_flat unlined_vector vector_bytes (λ v. refl) image.vectors,
    ) refl

-- every valid image of a program reads back
pub ReadsBack-valid : (image : ImageRecord) → IsValidImage image → HasWords image → ReadsBack image
ReadsBack-valid image valid words =
    let p = parts_stored image valid words in
    record {
      read = λ rest.
          ap (λ l. image_in (l ++ rest)) (sym (layout_stored image)) ∙ (read_back 2 (stored image) rest p ∙ ap (λ l. Ok (stored image, length l)) (layout_stored image));
      made = IsMade-stored image valid;
      check = checked-stored image valid;
    }

-- a raw image that fits a version can be read back
both_words : (ts : List TaskDef) → AllByRecursion (λ t. IsFreeName t.name) ts → AllByRecursion HasWordTask ts → AllByRecursion StoredTask ts
both_words ts names words =
    both (λ t. IsFreeName t.name) HasWordTask StoredTask (λ t n h. record { name = n; words = (h.entry, (h.sp, (h.prio, (h.quanta, (h.qsize, tt))))) }) ts names words

parts_fitting : (version : ℕ) (raw : RawRecord) → FitsVersion version raw → Parts version raw
parts_fitting version raw h =
    let names = recursion_from_All IsFreeName (names_of raw.tasks raw.objects) h.made.names in
    let task_names = front_names IsFreeName (λ t. t.name) raw.tasks (map (λ o. o.name) raw.objects) names in
    let object_names = back_names IsFreeName (λ t. t.name) (λ o. o.name) raw.tasks raw.objects names in
    let fields = recursion_from_All HasWordFields raw.objects h.words.objects in
    let unused = recursion_from_All HasZerosUnused raw.objects h.made.unused in
    record {
      known = h.known;
      keys = h.keys;
      made = h.made;
      tasks = both_words raw.tasks task_names (recursion_from_All HasWordTask raw.tasks h.words.tasks);
      objects =
          both (λ o. HasWordFields o × IsFreeName o.name) HasZerosUnused StoredObject (λ o n z. record { name = n.1; four = n.0.four; words = recursion_from_All IsWord o.f n.0.words; unused = z })
          raw.objects (both HasWordFields (λ o. IsFreeName o.name) (λ o. HasWordFields o × IsFreeName o.name) (λ o a b. (a, b)) raw.objects fields object_names) unused;
      vectors =
          recursion_from_All StoredVector raw.vectors
          (λ k d l. let w = h.words.vectors k d l in record { words = (w.number, (w.level, (w.entry, (w.sp, tt)))) });
      config = values_words raw.config (recursion_from_All (λ s. IsWord s.value) raw.config h.words.config);
      code = recursion_from_All IsWord raw.code h.words.code;
      ram = recursion_from_All IsWord raw.ram h.words.ram;
      lines = h.lines;
    }
  where
    values_words : (ls : List ConfigLine) → AllByRecursion (λ s. IsWord s.value) ls → AllByRecursion IsWord (map (λ s. s.value) ls)
    values_words [] w = tt
    values_words (l ∷ ls) w = (w.0, values_words ls w.1)

-- the raw image that bytes hold is what is read
pub held_is_read : (bytes : List ℕ) (raw : RawRecord) (size : ℕ) → Holds bytes raw size → image_in bytes ≡ Ok (raw, size)
held_is_read bytes raw size h =
    ap image_in h.front ∙ (read_back h.version raw h.rest (parts_fitting h.version raw h.fits) ∙ ap (λ n. Ok (raw, n)) (sym h.measured))
