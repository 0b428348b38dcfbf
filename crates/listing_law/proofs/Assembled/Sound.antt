-- The lines of the listing of a valid image are accepted: their names and places are known.
use Rattle.std.proofs.Common.{◌≡◌, ◌≢◌, ℕ, zero, suc, ◌+◌, ◌-◌, ◌*◌, ◌/◌, ◌%◌, ◌<◌, ◌≤◌, List, [], ◌∷◌, ◌++◌, length, map, drop, replicate, arith, refl, sym, ap, subst, ◌∙◌, append_assoc, pos}
use Rattle.std.specs.Prelude.{Some, None, slice_index_or}
use Rattle.std.specs.Option.{option_map}
use Rattle.std.specs.List.{AllByRecursion}
use Rattle.std.proofs.lemmas.List.Elements.{recursion_from_All}
use Rattle.kern_base.specs.declared.kinds.Kind.{Kind}
use Rattle.kern_base.specs.declared.kinds.Kind.TheVariants as k
use Rattle.app_image.specs.Image.{ImageRecord, IsValidImage, IsValidTask, IsValidObject, IsValidVector}
use Rattle.app_image.specs.Layout.{IsWord, HasWordFields, HasWords}
use Rattle.app_image.specs.Names.{IsFreeName, names_of}
use Rattle.app_image.specs.Raw.{fields_used}
use Rattle.app_image.specs.declared.records.TaskDef.{TaskDef}
use Rattle.app_image.specs.declared.records.ObjDef.{ObjDef}
use Rattle.app_image.specs.declared.records.VectorDef.{VectorDef}
use Rattle.asm_places.specs.Names.{Names, Defined, definition, defined_at_start, first_of, meaning}
use Rattle.asm_places.specs.Operands.{no_place, place_at}
use Rattle.asm_places.specs.NameSteps.{no_counts}
use Rattle.asm_lines.specs.declared.mnemonics.Section.TheVariants as section
use Rattle.asm_places.specs.Counts.{Counts}
use Rattle.asm_places.specs.Place.{Place}
use Rattle.asm_places.specs.declared.places.Definition.{Definition}
use Rattle.asm_places.specs.declared.places.Meaning.TheVariants.{Label, Constant}
use Rattle.rv32_listing.specs.Texts.{label}
use Rattle.listing_law.proofs.Statements.Bodies.{Body, OnRegisters, OnImmediate, OnLoad, OnShift, OnStore, OnBranch, OnUpper, OnJump, OnAlone, OnWord}
use Rattle.listing_law.proofs.Lines.Items.{Item, Turned, Stored, Declared, Tasked, Vectored}
use Rattle.listing_law.proofs.Statements.Words.{body_of, IsCode, IsCodeWord, code_word}
use Rattle.listing_law.proofs.Lines.Listed.{code_items, setting_items, items_of}
use Rattle.listing_law.proofs.Lines.Fit.{both, task_names, object_names, field_fits, unmapped, task_words, vector_words, listed_fit}
use Rattle.listing_law.proofs.Assembled.Early.{HasTarget}
use Rattle.listing_law.proofs.Assembled.Steps.{item_counted, item_placed}
use Rattle.listing_law.proofs.Assembled.Gives.{code_place, Reaches, object_words, IsAccepted}
use Rattle.listing_law.proofs.Assembled.Texts.{items_defined, items_places, AreCalm, AreAccepted, item_names, AreSound}
use Rattle.listing_law.proofs.Assembled.Names.{items_counted, defined_append, skip, stop, label_definition, label_found, no_label, free_at_start, label_at_start, apart_pairs, AreApart, apart_parts, AreKnown, none_of, known_of}

-- Code.

-- the labels of the code words, by number
abbrev Labels : Names → ℕ → Type 0
Labels names words = (j : ℕ) → j < words → names (label (4 * j)) ≡ Some (label_definition (suc j))

abbrev LabelPlaces : List Place → ℕ → Type 0
LabelPlaces places words = (j : ℕ) → j < words → place_at places (suc j) ≡ code_place (4 * j)

module _ (names : Names) (words : ℕ) (few : words ≤ 16384) (labels : Labels names words) where
  -- the address of a code word is four times its number
  at_number : (to : ℕ) → to % 4 ≡ 0 → to < 4 * words → (j : ℕ) × (j < words) × (4 * j ≡ to)
  at_number to e lt = (to / 4, omega (arith, lt), omega (arith, e))

  target_meaning : (to : ℕ) → to % 4 ≡ 0 → to < 4 * words → (j : ℕ) × (j < words) × (4 * j ≡ to) × (meaning names (label to) ≡ Some (Label (suc j)))
  target_meaning to e lt =
      let at = at_number to e lt in
      (at.0, at.1, at.2, ap (λ n. meaning names (label n)) (sym at.2) ∙ ap (option_map (λ d. d.meaning)) (labels at.0 at.1))

  has_target : (address w : ℕ) (body : Body) → IsCode words address w body → HasTarget names body
  has_target address w (OnRegisters op rd rs1 rs2) h = tt
  has_target address w (OnImmediate op rd rs1 imm) h = tt
  has_target address w (OnLoad op rd rs1 imm) h = tt
  has_target address w (OnShift op rd rs1 imm) h = tt
  has_target address w (OnStore op rs1 rs2 imm) h = tt
  has_target address w (OnBranch op rs1 rs2 to) h = let m = target_meaning to h.0 h.1 in (suc m.0, m.3)
  has_target address w (OnUpper op rd imm) h = tt
  has_target address w (OnJump rd to) h = let m = target_meaning to h.0 h.1 in (suc m.0, m.3)
  has_target address w (OnAlone op) h = tt
  has_target address w (OnWord v) h = tt

  calm_code : (number at : ℕ) (ws : List ℕ) (c : Counts) (rest : List Item) → c.lines ≡ suc number → number + length ws ≤ words → AllByRecursion IsWord ws
      → ((q : Place) → AreCalm names (items_counted (code_items words number ws) c) q rest) → AreCalm names c (code_place at) (code_items words number ws ++ rest)
  calm_code number at [] c rest e room h k = k (code_place at)
  calm_code number at (w ∷ ws) c rest e room h k =
      let here : number < words = omega (arith, room) in
      let code : IsCodeWord words (4 * number) w (body_of words (4 * number) w) = code_word words (4 * number) w few h.0 in
      let known : names (label (4 * number)) ≡ Some (definition c (Label c.lines)) = labels number here ∙ ap (λ n. Some (label_definition n)) (sym e) in (
        (refl, known, has_target (4 * number) w (body_of words (4 * number) w) code.gives, code.fits),
        calm_code (number + 1) (at + 4) ws (record c { lines = c.lines + 1 }) rest (omega (arith, e)) (omega (arith, room)) h.1 k,
      )

  module _ (places : List Place) (known : LabelPlaces places words) where
    reaches : (address w : ℕ) (body : Body) → IsCode words address w body → Reaches names places address body
    reaches address w (OnRegisters op rd rs1 rs2) h = tt
    reaches address w (OnImmediate op rd rs1 imm) h = tt
    reaches address w (OnLoad op rd rs1 imm) h = tt
    reaches address w (OnShift op rd rs1 imm) h = tt
    reaches address w (OnStore op rs1 rs2 imm) h = tt
    reaches address w (OnBranch op rs1 rs2 to) h = let m = target_meaning to h.0 h.1 in (suc m.0, m.3, known m.0 m.1 ∙ ap code_place m.2, h.2)
    reaches address w (OnUpper op rd imm) h = tt
    reaches address w (OnJump rd to) h = let m = target_meaning to h.0 h.1 in (suc m.0, m.3, known m.0 m.1 ∙ ap code_place m.2, h.2)
    reaches address w (OnAlone op) h = tt
    reaches address w (OnWord v) h = tt

    accepted_code : (number at : ℕ) (ws : List ℕ) (rest : List Item) → at ≡ 4 * number → number + length ws ≤ words → AllByRecursion IsWord ws
        → ((to : ℕ) → AreAccepted names places (code_place to) rest) → AreAccepted names places (code_place at) (code_items words number ws ++ rest)
    accepted_code number at [] rest e room h k = k at
    accepted_code number at (w ∷ ws) rest e room h k =
        let code : IsCodeWord words (4 * number) w (body_of words (4 * number) w) = code_word words (4 * number) w few h.0 in
        let near : 4 * number + 4 ≤ 65536 = omega (arith, room, few) in (
          (ap code_place e, near, reaches (4 * number) w (body_of words (4 * number) w) code.gives, code.fits),
          accepted_code (number + 1) (at + 4) ws rest (omega (arith, e)) (omega (arith, room)) h.1 k,
        )

-- where the lines of code words begin
code_places : (words number at : ℕ) (ws : List ℕ) (rest : List Item) (i : ℕ) → i < length ws
    → slice_index_or (items_places (code_place at) (code_items words number ws ++ rest)) i no_place ≡ code_place (at + 4 * i)
code_places words number at [] rest i lt = absurd (omega arith)
code_places words number at (w ∷ ws) rest zero lt = ap code_place (omega arith)
code_places words number at (w ∷ ws) rest (suc i) lt = code_places words (number + 1) (at + 4) ws rest i (omega (arith, lt)) ∙ ap code_place (omega arith)

-- RAM.

calm_ram : (names : Names) (ws : List ℕ) (c : Counts) (a r : ℕ) (rest : List Item) → ((q : Place) → AreCalm names (items_counted (map Stored ws) c) q rest)
    → (let p : Place = record { section = section.Ram; code = a; ram = r } in AreCalm names c p (map Stored ws ++ rest))
calm_ram names [] c a r rest k = k (record { section = section.Ram; code = a; ram = r })
calm_ram names (w ∷ ws) c a r rest k = (refl, calm_ram names ws (record c { lines = c.lines + 1 }) a (r + 4) rest k)

accepted_ram : (names : Names) (places : List Place) (ws : List ℕ) (a r : ℕ) (rest : List Item) → r + 4 * length ws ≤ 262144 → AllByRecursion IsWord ws → ((q : Place) → AreAccepted names places q rest)
    → (let p : Place = record { section = section.Ram; code = a; ram = r } in AreAccepted names places p (map Stored ws ++ rest))
accepted_ram names places [] a r rest room h k = k (record { section = section.Ram; code = a; ram = r })
accepted_ram names places (w ∷ ws) a r rest room h k =
    ((refl, omega (arith, room), h.0), accepted_ram names places ws a (r + 4) rest (omega (arith, room)) h.1 k)

-- Objects, tasks, vectors.

abbrev object_def : Counts → Definition
object_def c = definition c (Constant (pos c.objects))

abbrev object_count : Counts → Counts
object_count c = record c { lines = c.lines + 1; objects = c.objects + 1 }

abbrev ObjectsKnown : Names → Counts → List ObjDef → Type 0
ObjectsKnown names c os = AreKnown ObjDef (λ o. o.name) Declared object_def object_count (λ c o. refl) (λ c o. refl) names c os

abbrev task_def : Counts → Definition
task_def c = definition c (Constant (pos c.tasks))

abbrev task_count : Counts → Counts
task_count c = record c { lines = c.lines + 1; tasks = c.tasks + 1 }

abbrev TasksKnown : Names → Counts → List TaskDef → Type 0
TasksKnown names c ts = AreKnown TaskDef (λ t. t.name) Tasked task_def task_count (λ c t. refl) (λ c t. refl) names c ts

calm_objects : (names : Names) (os : List ObjDef) (c : Counts) (p : Place) (rest : List Item) → ObjectsKnown names c os → c.objects + length os ≤ 64 → AllByRecursion (λ o. IsFreeName o.name) os
    → ((q : Place) → AreCalm names (items_counted (map Declared os) c) q rest) → AreCalm names c p (map Declared os ++ rest)
calm_objects names [] c p rest h room free k = k p
calm_objects names (o ∷ os) c p rest h room free k =
    ((h.0, omega (arith, room), free.0.some, free.0.short), calm_objects names os (object_count c) (item_placed (Declared o) p) rest h.1 (omega (arith, room)) free.1 k)

calm_tasks : (names : Names) (ts : List TaskDef) (c : Counts) (p : Place) (rest : List Item) → TasksKnown names c ts → c.tasks + length ts ≤ 60 → AllByRecursion (λ t. IsFreeName t.name) ts
    → ((q : Place) → AreCalm names (items_counted (map Tasked ts) c) q rest) → AreCalm names c p (map Tasked ts ++ rest)
calm_tasks names [] c p rest h room free k = k p
calm_tasks names (t ∷ ts) c p rest h room free k =
    ((h.0, omega (arith, room), free.0.some, free.0.short), calm_tasks names ts (task_count c) (item_placed (Tasked t) p) rest h.1 (omega (arith, room)) free.1 k)

calm_vectors : (names : Names) (vs : List VectorDef) (c : Counts) (p : Place) (rest : List Item) → c.vectors + length vs ≤ 32
    → ((d : Counts) (q : Place) → AreCalm names d q rest) → AreCalm names c p (map Vectored vs ++ rest)
calm_vectors names [] c p rest room k = k c p
calm_vectors names (v ∷ vs) c p rest room k =
    (omega (arith, room), calm_vectors names vs (record c { lines = c.lines + 1; vectors = c.vectors + 1 }) (item_placed (Vectored v) p) rest (omega (arith, room)) k)

accepted_map : {T : Type 0} (names : Names) (places : List Place) (f : T → Item) (P : T → Type 0) → ((p : Place) (t : T) → P t → IsAccepted names places p (f t)) → (ts : List T) (p : Place) (rest : List Item)
    → AllByRecursion P ts → ((q : Place) → AreAccepted names places q rest) → AreAccepted names places p (map f ts ++ rest)
accepted_map names places f P g [] p rest h k = k p
accepted_map names places f P g (t ∷ ts) p rest h k = (g p t h.0, accepted_map names places f P g ts (item_placed (f t) p) rest h.1 k)

-- the fields of an object
fields_same : (kind : Kind) (f : List ℕ) → length f ≡ 4 → drop (fields_used kind) f ≡ replicate (4 - fields_used kind) 0 → object_words kind f ≡ f
fields_same k.Sem (a ∷ b ∷ c ∷ d ∷ []) e h = ap (λ l. a ∷ l) (sym h)
fields_same k.Queue (a ∷ b ∷ c ∷ d ∷ []) e h = ap (λ l. a ∷ l) (sym h)
fields_same k.Flags (a ∷ b ∷ c ∷ d ∷ []) e h = ap (λ l. a ∷ l) (sym h)
fields_same k.Mutex (a ∷ b ∷ c ∷ d ∷ []) e h = sym h
fields_same k.OneShot (a ∷ b ∷ c ∷ d ∷ []) e h = refl
fields_same k.Periodic (a ∷ b ∷ c ∷ d ∷ []) e h = refl
fields_same kind _ e h = absurd (omega (arith, e))

-- What stands before later lines.

code_kept : (f : Counts → ℕ) → ((c : Counts) → f (record c { lines = c.lines + 1 }) ≡ f c) → (words number : ℕ) (ws : List ℕ) (c : Counts) → f (items_counted (code_items words number ws) c) ≡ f c
code_kept f e words number [] c = refl
code_kept f e words number (w ∷ ws) c = code_kept f e words (number + 1) ws (record c { lines = c.lines + 1 }) ∙ e c

map_kept : {T : Type 0} (f : Counts → ℕ) (item : T → Item) → ((c : Counts) (t : T) → f (item_counted (item t) c) ≡ f c) → (ts : List T) (c : Counts) → f (items_counted (map item ts) c) ≡ f c
map_kept f item e [] c = refl
map_kept f item e (t ∷ ts) c = map_kept f item e ts (item_counted (item t) c) ∙ e c t

stored_defined : (ws : List ℕ) (c : Counts) → items_defined c (map Stored ws) ≡ []
stored_defined [] c = refl
stored_defined (w ∷ ws) c = stored_defined ws (record c { lines = c.lines + 1 })

each : {T : Type 0} (P Q : T → Type 0) → ((t : T) → P t → Q t) → (ts : List T) → AllByRecursion P ts → AllByRecursion Q ts
each P Q f [] h = tt
each P Q f (t ∷ ts) h = (f t h.0, each P Q f ts h.1)

module _ (image : ImageRecord) (v : IsValidImage image) (w : HasWords image) where
  n : ℕ
  n = length image.code

  -- the parts of the lines
  abbrev code_part : List Item
  code_part = code_items (length image.code) 0 image.code

  abbrev tail_part : List Item
  tail_part = map Vectored image.vectors ++ setting_items image.config

  abbrev task_part : List Item
  task_part = map Tasked image.tasks ++ tail_part

  abbrev object_part : List Item
  object_part = map Declared image.objects ++ task_part

  abbrev ram_part : List Item
  ram_part = map Stored image.ram ++ object_part

  abbrev c1 : Counts
  c1 = record { lines = 1; tasks = 0; objects = 0; vectors = 0 }

  abbrev c2 : Counts
  c2 = item_counted (Turned section.Ram) (items_counted code_part c1)

  abbrev c3 : Counts
  c3 = items_counted (map Stored image.ram) c2

  abbrev c4 : Counts
  c4 = items_counted (map Declared image.objects) c3

  abbrev c5 : Counts
  c5 = items_counted (map Tasked image.tasks) c4

  no_objects : c3.objects ≡ 0
  no_objects = map_kept (λ c. c.objects) Stored (λ c t. refl) image.ram c2 ∙ code_kept (λ c. c.objects) (λ c. refl) (length image.code) 0 image.code c1

  no_tasks : c4.tasks ≡ 0
  no_tasks =
      map_kept (λ c. c.tasks) Declared (λ c t. refl) image.objects c3
      ∙ (map_kept (λ c. c.tasks) Stored (λ c t. refl) image.ram c2 ∙ code_kept (λ c. c.tasks) (λ c. refl) (length image.code) 0 image.code c1)

  no_vectors : c5.vectors ≡ 0
  no_vectors =
      map_kept (λ c. c.vectors) Tasked (λ c t. refl) image.tasks c4
      ∙ (map_kept (λ c. c.vectors) Declared (λ c t. refl) image.objects c3
      ∙ (map_kept (λ c. c.vectors) Stored (λ c t. refl) image.ram c2 ∙ code_kept (λ c. c.vectors) (λ c. refl) (length image.code) 0 image.code c1))

  -- what the parts define
  abbrev d1 : Defined
  d1 = items_defined c1 code_part

  abbrev d2 : Defined
  d2 = items_defined c3 (map Declared image.objects)

  abbrev d3 : Defined
  d3 = items_defined c4 (map Tasked image.tasks)

  abbrev d4 : Defined
  d4 = items_defined c5 tail_part

  defined_parts : items_defined no_counts (items_of image) ≡ d1 ++ (d2 ++ (d3 ++ d4))
  defined_parts =
      defined_append c1 code_part (Turned section.Ram ∷ ram_part)
      ∙ ap (λ l. d1 ++ l) (
      defined_append c2 (map Stored image.ram) object_part
      ∙ (ap (λ l. l ++ items_defined c3 object_part) (stored_defined image.ram c2)
      ∙ (defined_append c3 (map Declared image.objects) task_part ∙ ap (λ l. d2 ++ l) (defined_append c4 (map Tasked image.tasks) tail_part))))

  abbrev names : Names
  names = item_names (items_of image)

  names_are : names ≡ first_of (defined_at_start ++ (d1 ++ (d2 ++ (d3 ++ d4))))
  names_are = ap (λ l. first_of (defined_at_start ++ l)) defined_parts

  labels : Labels names (length image.code)
  labels j lt =
      ap (λ f. f (label (4 * j))) names_are
      ∙ (skip defined_at_start (d1 ++ (d2 ++ (d3 ++ d4))) (label (4 * j)) (label_at_start (4 * j))
      ∙ stop d1 (d2 ++ (d3 ++ d4)) (label (4 * j)) (label_definition (suc j)) (label_found (length image.code) 0 image.code c1 j refl (omega arith) (omega (arith, lt)) (omega (arith, v.code_room))))

  -- a free name is defined neither at the start nor in the code
  free_before : (q : List ℕ) → IsFreeName q → first_of (defined_at_start ++ d1) q ≡ None
  free_before q h = skip defined_at_start d1 q (free_at_start q h.free) ∙ no_label (length image.code) 0 image.code c1 q h.short

  task_apart : AreApart (map (λ t. t.name) image.tasks) (map (λ o. o.name) image.objects)
  task_apart = apart_parts (map (λ t. t.name) image.tasks) (map (λ o. o.name) image.objects) (apart_pairs (names_of image.tasks image.objects) v.distinct)

  objects_known : ObjectsKnown names c3 image.objects
  objects_known =
      subst (λ f. ObjectsKnown f c3 image.objects) (ap first_of (append_assoc defined_at_start d1 (d2 ++ (d3 ++ d4))) ∙ sym names_are)
      (known_of ObjDef (λ o. o.name) Declared object_def object_count (λ c o. refl) (λ c o. refl) (defined_at_start ++ d1) (d3 ++ d4) c3 image.objects
      (each (λ o. IsFreeName o.name) (λ o. first_of (defined_at_start ++ d1) o.name ≡ None) (λ o h. free_before o.name h) image.objects (object_names image v)) task_apart.second)

  tasks_before : AllByRecursion (λ t. first_of ((defined_at_start ++ d1) ++ d2) t.name ≡ None) image.tasks
  tasks_before =
      each (λ t. IsFreeName t.name × AllByRecursion (λ y. t.name ≢ y) (map (λ o. o.name) image.objects)) (λ t. first_of ((defined_at_start ++ d1) ++ d2) t.name ≡ None)
      (λ t h. skip (defined_at_start ++ d1) d2 t.name (free_before t.name h.0)
      ∙ none_of ObjDef (λ o. o.name) Declared object_def object_count (λ c o. refl) (λ c o. refl) c3 image.objects t.name (unmapped (λ o. o.name) (λ y. t.name ≢ y) image.objects h.1))
      image.tasks
      (both (λ t. IsFreeName t.name) (λ t. AllByRecursion (λ y. t.name ≢ y) (map (λ o. o.name) image.objects)) image.tasks (task_names image v)
      (unmapped (λ t. t.name) (λ x. AllByRecursion (λ y. x ≢ y) (map (λ o. o.name) image.objects)) image.tasks task_apart.between))

  tasks_known : TasksKnown names c4 image.tasks
  tasks_known =
      subst (λ f. TasksKnown f c4 image.tasks)
      (ap first_of (append_assoc (defined_at_start ++ d1) d2 (d3 ++ d4) ∙ append_assoc defined_at_start d1 (d2 ++ (d3 ++ d4))) ∙ sym names_are)
      (known_of TaskDef (λ t. t.name) Tasked task_def task_count (λ c t. refl) (λ c t. refl) ((defined_at_start ++ d1) ++ d2) d4 c4 image.tasks tasks_before task_apart.first)

  words_of_code : AllByRecursion IsWord image.code
  words_of_code = recursion_from_All IsWord image.code w.code

  calm : AreCalm names no_counts no_place (items_of image)
  calm = (
    tt,
    calm_code names (length image.code) v.code_room labels 0 0 image.code c1 (Turned section.Ram ∷ ram_part) refl (omega arith) words_of_code
        (λ q. (
          tt,
          calm_ram names image.ram c2 _ _ object_part
              (λ q. calm_objects names image.objects c3 q task_part objects_known (omega (arith, no_objects, v.objects_room)) (object_names image v)
              (λ q. calm_tasks names image.tasks c4 q tail_part tasks_known (omega (arith, no_tasks, v.tasks_room)) (task_names image v)
              (λ q. calm_vectors names image.vectors c5 q (setting_items image.config) (omega (arith, no_vectors, v.vectors_room))
              (λ d q. (tt, (tt, (tt, (tt, (tt, (tt, (tt, (tt, (tt, (tt, tt)))))))))))))),
        )),
  )

  abbrev places : List Place
  places = items_places no_place (items_of image)

  label_places : LabelPlaces places (length image.code)
  label_places j lt = code_places (length image.code) 0 0 image.code (Turned section.Ram ∷ ram_part) j lt ∙ ap code_place (omega arith)

  accepted : AreAccepted names places no_place (items_of image)
  accepted =
      let words = length image.code in
      let h = image.config in
      let c = v.config in (
        tt,
        accepted_code names words v.code_room labels places label_places 0 0 image.code (Turned section.Ram ∷ ram_part) (omega arith) (omega arith) words_of_code
            (λ to. (
              tt,
              accepted_ram names places image.ram (to + 0) 0 object_part (omega (arith, v.ram_room)) (recursion_from_All IsWord image.ram w.ram)
                  (λ q. accepted_map names places Declared (λ o. HasWordFields o × IsValidObject words o)
                  (λ p o h. (fields_same o.kind o.f h.0.four h.1.unused, λ i. field_fits o.f (recursion_from_All IsWord o.f h.0.words) i)) image.objects q task_part
                  (both HasWordFields (IsValidObject words) image.objects (recursion_from_All HasWordFields image.objects w.fields) (recursion_from_All (IsValidObject words) image.objects v.objects))
                  (λ q. accepted_map names places Tasked (IsValidTask words) (λ p t h. task_words words v.code_room t h) image.tasks q tail_part (recursion_from_All (IsValidTask words) image.tasks v.tasks)
                  (λ q. accepted_map names places Vectored (IsValidVector words) (λ p x h. vector_words words v.code_room x h) image.vectors q (setting_items image.config) (recursion_from_All (IsValidVector words) image.vectors v.vectors)
                  (λ q. (
                    omega (arith, c.isr_limit_high),
                    (
                      omega (arith, c.defer_size_high),
                      (
                        omega (arith, c.pool_high),
                        (
                          omega (arith, c.tmr_div_high),
                          (
                            omega (arith, c.round_robin_high),
                            (omega (arith, c.quanta_high), (omega (arith, c.tick_prio_high), (omega (arith, c.tmr_prio_high), (omega (arith, c.tmr_sp_in_ram.high), (omega (arith, c.insert_high), tt))))),
                          ),
                        ),
                      ),
                    ),
                  ))))),
            )),
      )

  pub listed_sound : AreSound (items_of image)
  listed_sound = record { fit = listed_fit image v w; calm = calm; accepted = accepted }
