-- A raw image that is laid out is read back.
use Rattle.std.proofs.Common.{◌≡◌, ℕ, ◌+◌, ◌*◌, ◌≤◌, nat_le, List, [], ◌∷◌, ◌++◌, length, map, Bool, true, false, not, ◌&&◌, Result, Ok, Err, refl, sym, ap, subst, ◌∙◌, arith, length-append, if◌then◌else◌, take, ◌⊎◌, inl, inr, append_assoc}
use Rattle.std.specs.List.{list_all, flat_map, AllByRecursion}
use Rattle.std.proofs.lemmas.Bool.{and_from, or_from, le-leb, not_from_true}
use Rattle.std.proofs.lemmas.List.Elements.{recursion_from_All}
use Rattle.std.proofs.lemmas.List.{length-map}
use Rattle.app_image.specs.declared.header.Header.{Header}
use Rattle.app_image.specs.declared.causes.ImageCause.TheVariants.{BadName, Layout}
use Rattle.app_image.specs.declared.causes.ImageError.{ImageError}
use Rattle.app_image.specs.declared.causes.ImageError.TheVariants.{At}
use Rattle.app_image.specs.declared.settings.ConfigLine.{ConfigLine}
use Rattle.app_image.specs.declared.settings.ConfigKey.{ConfigKey}
use Rattle.app_image.specs.declared.records.TaskDef.{TaskDef}
use Rattle.app_image.specs.declared.records.ObjDef.{ObjDef}
use Rattle.app_image.specs.declared.records.VectorDef.{VectorDef}
use Rattle.app_image.specs.Fields.{word_at, rows}
use Rattle.app_image.specs.Places.{settings_count, is_known, has_zeros, header_of, tasks_place, objects_place, vectors_place, code_place, ram_place, image_size}
use Rattle.app_image.specs.Names.{IsFreeName, names_of}
use Rattle.app_image.specs.Layout.{word_bytes, words_bytes, task_bytes, object_bytes, vector_bytes, IsWord}
use Rattle.app_image.specs.Raw.{RawRecord}
use Rattle.app_image.specs.Held.{raw_header, raw_layout}
use Rattle.app_image.specs.Reading.{is_kind, task_at, object_at, vector_at, is_clear, setting_at, settings_at, keys, raw_at, places, is_layout, has_bad_name, names_at, has_fault, image_in}
use Rattle.app_image.specs.RoundTrip.{unlined_task, unlined_object, unlined_vector}
use Rattle.app_image.proofs.ReadLaws.{names_of-raw_at}
use Rattle.app_image.proofs.BackFields.{word_back, StoredTask, task_back, StoredObject, object_back, known_back, clear_back, StoredVector, vector_back}
use Rattle.app_image.proofs.BackImage.{Parts, head, header_back, zeros_back, known_head, cut_settings, cut_tasks, cut_objects, cut_vectors, cut_code, cut_ram, length_flat, length_task, length_word, length_object, length_vector, all_words, part, map_same, all_true, names_pass}

-- what stands in front of each part
front_tasks : ℕ → RawRecord → List ℕ
front_tasks version raw = raw_header version raw ++ words_bytes (map (λ s. s.value) raw.config)

front_objects : ℕ → RawRecord → List ℕ
front_objects version raw = front_tasks version raw ++ flat_map task_bytes raw.tasks

front_vectors : ℕ → RawRecord → List ℕ
front_vectors version raw = front_objects version raw ++ flat_map object_bytes raw.objects

front_code : ℕ → RawRecord → List ℕ
front_code version raw = front_vectors version raw ++ flat_map vector_bytes raw.vectors

front_ram : ℕ → RawRecord → List ℕ
front_ram version raw = front_code version raw ++ words_bytes raw.code

pub count_settings : (version : ℕ) → (version ≡ 1) ⊎ (version ≡ 2) → length (take (settings_count version) keys) ≡ settings_count version
count_settings version (inl e) = rw e refl
count_settings version (inr e) = rw e refl

settings_length : (version : ℕ) (raw : RawRecord) → Parts version raw → length (words_bytes (map (λ s. s.value) raw.config)) ≡ 4 * settings_count version
settings_length version raw p =
    let n : length (map (λ s. s.value) raw.config) ≡ settings_count version =
    length-map raw.config (λ s. s.value) ∙ (sym (length-map raw.config (λ s. s.key)) ∙ (ap length p.keys ∙ count_settings version p.known)) in
    all_words (map (λ s. s.value) raw.config) p.config ∙ ap (λ k. 4 * k) n

place_tasks : (version : ℕ) (raw : RawRecord) → Parts version raw → tasks_place (head version raw) ≡ length (front_tasks version raw)
unfolding front_tasks
place_tasks version raw p =
    omega (arith, length-append (raw_header version raw) (words_bytes (map (λ s. s.value) raw.config)), settings_length version raw p)

place_objects : (version : ℕ) (raw : RawRecord) → Parts version raw → objects_place (head version raw) ≡ length (front_objects version raw)
unfolding front_objects
place_objects version raw p =
    omega (arith, place_tasks version raw p, length-append (front_tasks version raw) (flat_map task_bytes raw.tasks), length_flat task_bytes 36 StoredTask length_task raw.tasks p.tasks)

place_vectors : (version : ℕ) (raw : RawRecord) → Parts version raw → vectors_place (head version raw) ≡ length (front_vectors version raw)
unfolding front_vectors
place_vectors version raw p =
    omega (arith, place_objects version raw p, length-append (front_objects version raw) (flat_map object_bytes raw.objects), length_flat object_bytes 36 StoredObject length_object raw.objects p.objects)

place_code : (version : ℕ) (raw : RawRecord) → Parts version raw → code_place (head version raw) ≡ length (front_code version raw)
unfolding front_code
place_code version raw p =
    omega (arith, place_vectors version raw p, length-append (front_vectors version raw) (flat_map vector_bytes raw.vectors), length_flat vector_bytes 16 StoredVector length_vector raw.vectors p.vectors)

place_ram : (version : ℕ) (raw : RawRecord) → Parts version raw → ram_place (head version raw) ≡ length (front_ram version raw)
unfolding front_ram
place_ram version raw p =
    omega (arith, place_code version raw p, length-append (front_code version raw) (words_bytes raw.code), all_words raw.code p.code)

-- the lines of settings, of which each has a key of some in order, are read back
lines_back : (ks : List ConfigKey) (front : List ℕ) (ls : List ConfigLine) (rest : List ℕ) → map (λ s. s.key) ls ≡ ks → AllByRecursion (λ s. s.line ≡ 0) ls → AllByRecursion IsWord (map (λ s. s.value) ls)
    → settings_at ks (front ++ (words_bytes (map (λ s. s.value) ls) ++ rest)) (length front) ≡ ls
lines_back [] front [] rest e lines words = refl
lines_back [] front (s ∷ ls) rest e lines words = cc
lines_back (k ∷ ks) front [] rest e lines words = cc
lines_back (k ∷ ks) front (s ∷ ls) rest e lines words =
    let values = words_bytes (map (λ t. t.value) ls) in
    let a = ap (λ l. front ++ l) (append_assoc (word_bytes s.value) values rest) in
    let b = a ∙ sym (append_assoc front (word_bytes s.value) (values ++ rest)) in
    let n : length front + 4 ≡ length (front ++ word_bytes s.value) = omega (arith, length-append front (word_bytes s.value)) in
    let value = ap (λ l. word_at l (length front)) a ∙ word_back front s.value (values ++ rest) words.0 in
    let keys : (k ≡ s.key) × (ks ≡ map (λ t. t.key) ls) = (cc, cc) in
    let one : setting_at k (front ++ ((word_bytes s.value ++ values) ++ rest)) (length front) ≡ s = same_setting k s.key _ s.value 0 s.line keys.0 value (sym lines.0) in
    let more = ap (λ l. settings_at ks l (length front + 4)) b ∙ (ap (settings_at ks ((front ++ word_bytes s.value) ++ (values ++ rest))) n
    ∙ lines_back ks (front ++ word_bytes s.value) ls rest (sym keys.1) lines.1 words.1) in
    ap (λ x. x ∷ settings_at ks (front ++ ((word_bytes s.value ++ values) ++ rest)) (length front + 4)) one ∙ ap (λ l. s ∷ l) more
  where
    same_setting : (j k : ConfigKey) (a b m n : ℕ) → j ≡ k → a ≡ b → m ≡ n → (let x : ConfigLine = record { key = j; value = a; line = m } in let y : ConfigLine = record { key = k; value = b; line = n } in x ≡ y)
    same_setting j k a b m n p q r = rw (p, q, r) refl

settings_back : (version : ℕ) (raw : RawRecord) (rest : List ℕ) → Parts version raw → settings_at (take (settings_count version) keys) (raw_layout version raw ++ rest) 24 ≡ raw.config
settings_back version raw rest p =
    let s = words_bytes (map (λ s. s.value) raw.config) in
    let t = flat_map task_bytes raw.tasks in
    let o = flat_map object_bytes raw.objects in
    let v = flat_map vector_bytes raw.vectors in
    let c = words_bytes raw.code in
    let r = words_bytes raw.ram in
    ap (λ b. settings_at (take (settings_count version) keys) b 24) (cut_settings (raw_header version raw) s t o v c r rest)
    ∙ lines_back (take (settings_count version) keys) (raw_header version raw) raw.config (t ++ (o ++ (v ++ (c ++ (r ++ rest))))) p.keys
    (recursion_from_All (λ s. s.line ≡ 0) raw.config p.lines.config) p.config

-- records without lines are the same without them
unlined_tasks : (ts : List TaskDef) → AllByRecursion (λ t. t.line ≡ 0) ts → map unlined_task ts ≡ ts
unlined_tasks [] h = refl
unlined_tasks (t ∷ ts) h = ap (λ x. x ∷ map unlined_task ts) (ap (λ n. record t { line = n }) (sym h.0)) ∙ ap (λ l. t ∷ l) (unlined_tasks ts h.1)

unlined_objects : (os : List ObjDef) → AllByRecursion (λ o. o.line ≡ 0) os → map unlined_object os ≡ os
unlined_objects [] h = refl
unlined_objects (o ∷ os) h = ap (λ x. x ∷ map unlined_object os) (ap (λ n. record o { line = n }) (sym h.0)) ∙ ap (λ l. o ∷ l) (unlined_objects os h.1)

unlined_vectors : (vs : List VectorDef) → AllByRecursion (λ v. v.line ≡ 0) vs → map unlined_vector vs ≡ vs
unlined_vectors [] h = refl
unlined_vectors (v ∷ vs) h = ap (λ x. x ∷ map unlined_vector vs) (ap (λ n. record v { line = n }) (sym h.0)) ∙ ap (λ l. v ∷ l) (unlined_vectors vs h.1)

tasks_back : (version : ℕ) (raw : RawRecord) (rest : List ℕ) → Parts version raw → rows (task_at (raw_layout version raw ++ rest)) 36 (length raw.tasks) (tasks_place (head version raw)) ≡ map unlined_task raw.tasks
unfolding front_tasks
tasks_back version raw rest p =
    let s = words_bytes (map (λ s. s.value) raw.config) in
    let t = flat_map task_bytes raw.tasks in
    let o = flat_map object_bytes raw.objects in
    let v = flat_map vector_bytes raw.vectors in
    let c = words_bytes raw.code in
    let r = words_bytes raw.ram in
    part task_at task_bytes unlined_task 36 StoredTask task_back length_task (raw_layout version raw ++ rest) (front_tasks version raw) raw.tasks (o ++ (v ++ (c ++ (r ++ rest)))) (tasks_place (head version raw))
    (cut_tasks (raw_header version raw) s t o v c r rest) (place_tasks version raw p) p.tasks

-- a part of the objects: their records, and the tests of their kinds and unused fields
objects_part : {U : Type 0} (f : List ℕ → ℕ → U) (view : ObjDef → U) → ((front : List ℕ) (o : ObjDef) (rest : List ℕ) → StoredObject o → f (front ++ (object_bytes o ++ rest)) (length front) ≡ view o)
    → (version : ℕ) (raw : RawRecord) (rest : List ℕ) → Parts version raw → rows (f (raw_layout version raw ++ rest)) 36 (length raw.objects) (objects_place (head version raw)) ≡ map view raw.objects
unfolding front_tasks front_objects
objects_part f view each version raw rest p =
    let s = words_bytes (map (λ s. s.value) raw.config) in
    let t = flat_map task_bytes raw.tasks in
    let o = flat_map object_bytes raw.objects in
    let v = flat_map vector_bytes raw.vectors in
    let c = words_bytes raw.code in
    let r = words_bytes raw.ram in
    part f object_bytes view 36 StoredObject each length_object (raw_layout version raw ++ rest) (front_objects version raw) raw.objects (v ++ (c ++ (r ++ rest))) (objects_place (head version raw))
    (cut_objects (raw_header version raw) s t o v c r rest) (place_objects version raw p) p.objects

vectors_back : (version : ℕ) (raw : RawRecord) (rest : List ℕ) → Parts version raw → rows (vector_at (raw_layout version raw ++ rest)) 16 (length raw.vectors) (vectors_place (head version raw)) ≡ map unlined_vector raw.vectors
unfolding front_tasks front_objects front_vectors
vectors_back version raw rest p =
    let s = words_bytes (map (λ s. s.value) raw.config) in
    let t = flat_map task_bytes raw.tasks in
    let o = flat_map object_bytes raw.objects in
    let v = flat_map vector_bytes raw.vectors in
    let c = words_bytes raw.code in
    let r = words_bytes raw.ram in
    part vector_at vector_bytes unlined_vector 16 StoredVector vector_back length_vector (raw_layout version raw ++ rest) (front_vectors version raw) raw.vectors (c ++ (r ++ rest)) (vectors_place (head version raw))
    (cut_vectors (raw_header version raw) s t o v c r rest) (place_vectors version raw p) p.vectors

code_back : (version : ℕ) (raw : RawRecord) (rest : List ℕ) → Parts version raw → rows (word_at (raw_layout version raw ++ rest)) 4 (length raw.code) (code_place (head version raw)) ≡ raw.code
unfolding front_tasks front_objects front_vectors front_code
code_back version raw rest p =
    let s = words_bytes (map (λ s. s.value) raw.config) in
    let t = flat_map task_bytes raw.tasks in
    let o = flat_map object_bytes raw.objects in
    let v = flat_map vector_bytes raw.vectors in
    let c = words_bytes raw.code in
    let r = words_bytes raw.ram in
    part word_at word_bytes (λ w. w) 4 IsWord word_back length_word (raw_layout version raw ++ rest) (front_code version raw) raw.code (r ++ rest) (code_place (head version raw))
    (cut_code (raw_header version raw) s t o v c r rest) (place_code version raw p) p.code ∙ map_same raw.code

ram_back : (version : ℕ) (raw : RawRecord) (rest : List ℕ) → Parts version raw → rows (word_at (raw_layout version raw ++ rest)) 4 (length raw.ram) (ram_place (head version raw)) ≡ raw.ram
unfolding front_tasks front_objects front_vectors front_code front_ram
ram_back version raw rest p =
    let s = words_bytes (map (λ s. s.value) raw.config) in
    let t = flat_map task_bytes raw.tasks in
    let o = flat_map object_bytes raw.objects in
    let v = flat_map vector_bytes raw.vectors in
    let c = words_bytes raw.code in
    let r = words_bytes raw.ram in
    part word_at word_bytes (λ w. w) 4 IsWord word_back length_word (raw_layout version raw ++ rest) (front_ram version raw) raw.ram rest (ram_place (head version raw))
    (cut_ram (raw_header version raw) s t o v c r rest) (place_ram version raw p) p.ram ∙ map_same raw.ram

same_raw : (a a' : List TaskDef) (b b' : List ObjDef) (c c' : List VectorDef) (d d' : List ConfigLine) (e e' f f' : List ℕ) → a ≡ a' → b ≡ b' → c ≡ c' → d ≡ d' → e ≡ e' → f ≡ f'
    → (let x : RawRecord = record { tasks = a; objects = b; vectors = c; config = d; code = e; ram = f } in let y : RawRecord = record { tasks = a'; objects = b'; vectors = c'; config = d'; code = e'; ram = f' } in x ≡ y)
same_raw a a' b b' c c' d d' e e' f f' p q r s t u = rw (p, q, r, s, t, u) refl

-- the raw version raw is read back
raw_back : (version : ℕ) (raw : RawRecord) (rest : List ℕ) → Parts version raw → raw_at (raw_layout version raw ++ rest) (head version raw) ≡ raw
raw_back version raw rest p =
    same_raw _ raw.tasks _ raw.objects _ raw.vectors _ raw.config _ raw.code _ raw.ram
    (tasks_back version raw rest p ∙ unlined_tasks raw.tasks (recursion_from_All (λ t. t.line ≡ 0) raw.tasks p.lines.tasks))
    (objects_part object_at unlined_object object_back version raw rest p ∙ unlined_objects raw.objects (recursion_from_All (λ o. o.line ≡ 0) raw.objects p.lines.objects))
    (vectors_back version raw rest p ∙ unlined_vectors raw.vectors (recursion_from_All (λ v. v.line ≡ 0) raw.vectors p.lines.vectors))
    (settings_back version raw rest p) (code_back version raw rest p) (ram_back version raw rest p)

lengths : (h s t o v c r : List ℕ) → length (h ++ (s ++ (t ++ (o ++ (v ++ (c ++ r)))))) ≡ length h + (length s + (length t + (length o + (length v + (length c + length r)))))
lengths h s t o v c r = simp length-append

-- how long an version raw is
size_back : (version : ℕ) (raw : RawRecord) → Parts version raw → image_size (head version raw) ≡ length (raw_layout version raw)
unfolding front_tasks front_objects front_vectors front_code front_ram
size_back version raw p =
    let s = words_bytes (map (λ s. s.value) raw.config) in
    let t = flat_map task_bytes raw.tasks in
    let o = flat_map object_bytes raw.objects in
    let v = flat_map vector_bytes raw.vectors in
    let c = words_bytes raw.code in
    let r = words_bytes raw.ram in
    let e : length (raw_layout version raw) ≡ length (raw_header version raw) + (length s + (length t + (length o + (length v + (length c + length r))))) = lengths (raw_header version raw) s t o v c r in
    omega (
      arith,
      e,
      place_ram version raw p,
      length-append (front_code version raw) c,
      length-append (front_vectors version raw) v,
      length-append (front_objects version raw) o,
      length-append (front_tasks version raw) t,
      length-append (raw_header version raw) s,
      settings_length version raw p,
      all_words raw.ram p.ram,
    )

-- the layout is known, and nothing is wrong with its names and kinds
layout_back : (version : ℕ) (raw : RawRecord) (rest : List ℕ) → Parts version raw → is_layout (raw_layout version raw ++ rest) ≡ true
layout_back version raw rest p =
    let b = raw_layout version raw ++ rest in
    let size = size_back version raw p in
    let total = length-append (raw_layout version raw) rest in
    let low : 24 ≤ image_size (head version raw) = omega arith in
    let clear = all_true (is_clear b) 36 (length raw.objects) (objects_place (head version raw)) raw.objects (objects_part is_clear (λ o. true) clear_back version raw rest p) in
    let P : Header → Type 0 =
    λ h. (nat_le 24 (length b) && (is_known h && (has_zeros b && (nat_le (image_size h) (length b) && list_all (is_clear b) (places 36 h.objects (objects_place h)))))) ≡ true in
    subst P (sym (header_back version raw rest p))
    (and_from (nat_le 24 (length b)) _ (le-leb 24 (length b) (omega (arith, low, size, total)))
    (and_from (is_known (head version raw)) _ (known_head version raw p)
    (and_from (has_zeros b) _ (zeros_back version raw rest)
    (and_from (nat_le (image_size (head version raw)) (length b)) _ (le-leb (image_size (head version raw)) (length b) (omega (arith, size, total))) clear))))

names_back : (version : ℕ) (raw : RawRecord) (rest : List ℕ) → Parts version raw → names_at (raw_layout version raw ++ rest) (head version raw) ≡ names_of raw.tasks raw.objects
names_back version raw rest p =
    sym (names_of-raw_at (raw_layout version raw ++ rest) (head version raw)) ∙ ap (λ r. names_of r.tasks r.objects) (raw_back version raw rest p)

fault_back : (version : ℕ) (raw : RawRecord) (rest : List ℕ) → Parts version raw → has_fault (raw_layout version raw ++ rest) (head version raw) ≡ false
fault_back version raw rest p =
    let b = raw_layout version raw ++ rest in
    let names = names_back version raw rest p in
    let good = names_pass [] (names_of raw.tasks raw.objects) (recursion_from_All IsFreeName (names_of raw.tasks raw.objects) p.made.names) p.made.distinct in
    let kinds = all_true (λ q. is_kind (word_at b (q + 16))) 36 (length raw.objects) (objects_place (head version raw)) raw.objects
    (objects_part (λ l q. is_kind (word_at l (q + 16))) (λ o. true) known_back version raw rest p) in
    or_from (has_bad_name [] (names_at b (head version raw))) _ (ap (has_bad_name []) names ∙ good) (not_from_true _ kinds)

chosen : {T : Type 0} (a b : Bool) (x y z : T) → a ≡ true → b ≡ false → (if not a then x else (if b then y else z)) ≡ z
chosen a b x y z p q = rw (p, q) refl

pub read_from : (bytes : List ℕ) (h : Header) → header_of bytes ≡ h → is_layout bytes ≡ true → has_fault bytes h ≡ false → image_in bytes ≡ Ok (raw_at bytes h, image_size h)
read_from bytes h e layout none =
    let P : Header → Type 0 =
    λ g. (let x : Result (RawRecord × ℕ) ImageError = if not (is_layout bytes) then Err (At 0 Layout) else (if has_fault bytes g then Err (At 0 BadName) else Ok (raw_at bytes g, image_size g)) in
    let y : Result (RawRecord × ℕ) ImageError = Ok (raw_at bytes h, image_size h) in x ≡ y) in
    subst P (sym e) (chosen (is_layout bytes) (has_fault bytes h) (Err (At 0 Layout)) (Err (At 0 BadName)) (Ok (raw_at bytes h, image_size h)) layout none)

-- a raw image that is laid out is read back, whatever follows it
pub read_back : (version : ℕ) (raw : RawRecord) (rest : List ℕ) → Parts version raw → image_in (raw_layout version raw ++ rest) ≡ Ok (raw, length (raw_layout version raw))
read_back version raw rest p =
    read_from (raw_layout version raw ++ rest) (head version raw) (header_back version raw rest p) (layout_back version raw rest p) (fault_back version raw rest p)
    ∙ (ap (λ r. Ok (r, image_size (head version raw))) (raw_back version raw rest p) ∙ ap (λ n. Ok (raw, n)) (size_back version raw p))
