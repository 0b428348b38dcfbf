-- The check of an image does not look at the numbers of lines, where nothing is refused.
use Rattle.std.proofs.Common.{◌≡◌, ℕ, List, [], ◌∷◌, ◌++◌, length, map, Bool, true, false, cond, refl, sym, ap, ◌∙◌}
use Rattle.std.specs.Prelude.{Option, Some, None, Ok, ◌==◌, ◌||◌, if◌then◌else◌}
use Rattle.std.specs.Option.{option_map, option_or}
use Rattle.std.specs.List.{find, list_any}
use Rattle.app_image.specs.Image.{ImageRecord, IsValidImage, image_of}
use Rattle.app_image.specs.Raw.{RawRecord}
use Rattle.app_image.specs.RoundTrip.{unlined_task, unlined_object, unlined_vector, unlined, stored}
use Rattle.app_image.specs.Settings.{key_number}
use Rattle.app_image.specs.Refusal.{task_has, object_has, vector_has, setting_has, task_line, object_line, vector_line, setting_line, vector_twice, setting_twice, line_of_none, first_record, causes, refusal, image_unless, checked}
use Rattle.app_image.specs.declared.causes.ImageCause.{ImageCause}
use Rattle.app_image.specs.declared.causes.ImageCause.TheVariants.{TaskPriority, CodeAddress, StackPointer, Quantum, TaskQueueSize, QueueSize, VectorNumber, VectorLevel, TimerTime, SettingRange}
use Rattle.app_image.specs.declared.records.TaskDef.{TaskDef}
use Rattle.app_image.specs.declared.records.ObjDef.{ObjDef}
use Rattle.app_image.specs.declared.records.VectorDef.{VectorDef}
use Rattle.app_image.specs.declared.settings.ConfigLine.{ConfigLine}
use Rattle.app_image.proofs.BackChecks.{refusal-stored, all_none, none_among}
use Rattle.app_image.proofs.ValidLemmas.{all_pass}
use Rattle.listing_law.proofs.Assembled.Image.{on_lines, task_on, object_on, vector_on, lined_raw, off_lines}

found_by : {T : Type 0} (line : T → ℕ) (x y : T) (b : Bool) (more rest : Option T) → option_map line (cond b (Some y) more) ≡ None → (option_map line more ≡ None → option_map line rest ≡ None)
    → option_map line (cond b (Some x) rest) ≡ None
found_by line x y true more rest h k = absurd cc
found_by line x y false more rest h k = k h

-- no record has a cause, where none has it without its line
found_none : {T : Type 0} (p : T → Bool) (line : T → ℕ) (plain : T → T) → ((x : T) → p (plain x) ≡ p x) → (xs : List T) → option_map line (find p (map plain xs)) ≡ None → option_map line (find p xs) ≡ None
found_none p line plain e [] h = refl
found_none p line plain e (x ∷ xs) h =
    found_by line x (plain x) (p x) (find p (map plain xs)) (find p xs) (ap (λ b. option_map line (cond b (Some (plain x)) (find p (map plain xs)))) (sym (e x)) ∙ h) (found_none p line plain e xs)

abbrev unlined_setting : ConfigLine → ConfigLine
unlined_setting s = record s { line = 0 }

same_task : (words : ℕ) (cause : ImageCause) (t : TaskDef) → task_has words cause (unlined_task t) ≡ task_has words cause t
same_task words TaskPriority t = refl
same_task words _ t = refl

same_object : (words : ℕ) (cause : ImageCause) (o : ObjDef) → object_has words cause (unlined_object o) ≡ object_has words cause o
same_object words CodeAddress o = refl
same_object words _ o = refl

same_vector : (words : ℕ) (cause : ImageCause) (v : VectorDef) → vector_has words cause (unlined_vector v) ≡ vector_has words cause v
same_vector words CodeAddress v = refl
same_vector words _ v = refl

same_setting : (cause : ImageCause) (s : ConfigLine) → setting_has cause (unlined_setting s) ≡ setting_has cause s
same_setting SettingRange s = refl
same_setting _ s = refl

four : (a b c d : Option ℕ) → option_or a (option_or b (option_or c d)) ≡ None → (a ≡ None) × (b ≡ None) × (c ≡ None) × (d ≡ None)
four None None None None h = (refl, refl, refl, refl)
four None None None (Some d) h = absurd cc
four None None (Some c) d h = absurd cc
four None (Some b) c d h = absurd cc
four (Some a) b c d h = absurd cc

-- the raw image without its lines
abbrev plain_raw : RawRecord → RawRecord
plain_raw raw = record {
  tasks = map unlined_task raw.tasks;
  objects = map unlined_object raw.objects;
  vectors = map unlined_vector raw.vectors;
  config = map unlined_setting raw.config;
  code = raw.code;
  ram = raw.ram;
}

record_none : (cause : ImageCause) (raw : RawRecord) → first_record cause (plain_raw raw) ≡ None → first_record cause raw ≡ None
record_none cause raw h =
    let words = length raw.code in
    let parts = four (task_line words cause (map unlined_task raw.tasks)) (object_line words cause (map unlined_object raw.objects)) (vector_line words cause (map unlined_vector raw.vectors)) (setting_line cause (map unlined_setting raw.config)) h in
    all_none (task_line words cause raw.tasks) (object_line words cause raw.objects) (vector_line words cause raw.vectors) (setting_line cause raw.config)
    (found_none (task_has words cause) (λ t. t.line) unlined_task (same_task words cause) raw.tasks parts.0)
    (found_none (object_has words cause) (λ o. o.line) unlined_object (same_object words cause) raw.objects parts.1)
    (found_none (vector_has words cause) (λ v. v.line) unlined_vector (same_vector words cause) raw.vectors parts.2)
    (found_none (setting_has cause) (λ s. s.line) unlined_setting (same_setting cause) raw.config parts.3)

some_none : {T : Type 0} (plain : T → T) (xs : List T) → line_of_none (map plain xs) ≡ None → line_of_none xs ≡ None
some_none plain [] h = h
some_none plain (x ∷ xs) h = refl

any_same : {T : Type 0} (p : T → Bool) (plain : T → T) → ((x : T) → p (plain x) ≡ p x) → (xs : List T) → list_any p (map plain xs) ≡ list_any p xs
any_same p plain e [] = refl
any_same p plain e (x ∷ xs) = ap (λ b. b || list_any p (map plain xs)) (e x) ∙ ap (λ b. p x || b) (any_same p plain e xs)

map_push : {T : Type 0} (f : T → T) (xs : List T) (y : T) → map f (xs ++ y ∷ []) ≡ map f xs ++ f y ∷ []
map_push f [] y = refl
map_push f (x ∷ xs) y = ap (λ l. f x ∷ l) (map_push f xs y)

twice_by : (m n : ℕ) (b : Bool) (x y : Option ℕ) → (if b then Some m else x) ≡ None → (x ≡ None → y ≡ None) → (if b then Some n else y) ≡ None
twice_by m n true x y h k = absurd cc
twice_by m n false x y h k = k h

vectors_none : (earlier vs : List VectorDef) → vector_twice (map unlined_vector earlier) (map unlined_vector vs) ≡ None → vector_twice earlier vs ≡ None
vectors_none earlier [] h = refl
vectors_none earlier (v ∷ vs) h =
    let p : VectorDef → Bool = λ e. e.number == v.number in
    let same = any_same p unlined_vector (λ x. refl) earlier in
    twice_by 0 v.line (list_any p earlier) (vector_twice (map unlined_vector earlier ++ unlined_vector v ∷ []) (map unlined_vector vs)) (vector_twice (earlier ++ v ∷ []) vs)
    (ap (λ b. if b then Some 0 else vector_twice (map unlined_vector earlier ++ unlined_vector v ∷ []) (map unlined_vector vs)) (sym same) ∙ h)
    (λ e. vectors_none (earlier ++ v ∷ []) vs (ap (λ l. vector_twice l (map unlined_vector vs)) (map_push unlined_vector earlier v) ∙ e))

settings_none : (earlier ss : List ConfigLine) → setting_twice (map unlined_setting earlier) (map unlined_setting ss) ≡ None → setting_twice earlier ss ≡ None
settings_none earlier [] h = refl
settings_none earlier (s ∷ ss) h =
    let p : ConfigLine → Bool = λ e. key_number e.key == key_number s.key in
    let same = any_same p unlined_setting (λ x. refl) earlier in
    twice_by 0 s.line (list_any p earlier) (setting_twice (map unlined_setting earlier ++ unlined_setting s ∷ []) (map unlined_setting ss)) (setting_twice (earlier ++ s ∷ []) ss)
    (ap (λ b. if b then Some 0 else setting_twice (map unlined_setting earlier ++ unlined_setting s ∷ []) (map unlined_setting ss)) (sym same) ∙ h)
    (λ e. settings_none (earlier ++ s ∷ []) ss (ap (λ l. setting_twice l (map unlined_setting ss)) (map_push unlined_setting earlier s) ∙ e))

-- what is not refused without its lines is not refused
pub not_refused : (raw : RawRecord) → refusal (plain_raw raw) ≡ None → refusal raw ≡ None
not_refused raw h =
    let a = all_pass causes (plain_raw raw) h in
    none_among causes raw (
      some_none unlined_task raw.tasks a.0,
      (
        record_none TaskPriority raw a.1.0,
        (
          record_none CodeAddress raw a.1.1.0,
          (
            record_none StackPointer raw a.1.1.1.0,
            (
              record_none Quantum raw a.1.1.1.1.0,
              (
                record_none TaskQueueSize raw a.1.1.1.1.1.0,
                (
                  record_none QueueSize raw a.1.1.1.1.1.1.0,
                  (
                    record_none VectorNumber raw a.1.1.1.1.1.1.1.0,
                    (
                      vectors_none [] raw.vectors a.1.1.1.1.1.1.1.1.0,
                      (
                        record_none VectorLevel raw a.1.1.1.1.1.1.1.1.1.0,
                        (record_none TimerTime raw a.1.1.1.1.1.1.1.1.1.1.0, (record_none SettingRange raw a.1.1.1.1.1.1.1.1.1.1.1.0, (settings_none [] raw.config a.1.1.1.1.1.1.1.1.1.1.1.1.0, (a.1.1.1.1.1.1.1.1.1.1.1.1.1.0, tt)))),
                      ),
                    ),
                  ),
                ),
              ),
            ),
          ),
        ),
      ),
    )

-- an image whose parts stand on these lines
abbrev pub lined_image : (objects tasks vectors : ℕ) → ImageRecord → ImageRecord
lined_image o t v image = record image { tasks = on_lines task_on t image.tasks; objects = on_lines object_on o image.objects; vectors = on_lines vector_on v image.vectors }

same_raw : (o t v s : ℕ) (image : ImageRecord) → plain_raw (lined_raw o t v s image) ≡ stored image
same_raw o t v s image =
    rw (off_lines task_on unlined_task (λ n x. refl) t image.tasks, off_lines object_on unlined_object (λ n x. refl) o image.objects, off_lines vector_on unlined_vector (λ n x. refl) v image.vectors) refl

pub lined_checked : (o t v s : ℕ) (image : ImageRecord) → IsValidImage image → checked (lined_raw o t v s image) ≡ Ok (lined_image o t v image)
lined_checked o t v s image h =
    let raw = lined_raw o t v s image in
    ap (λ r. image_unless r (image_of raw)) (not_refused raw (ap refusal (same_raw o t v s image) ∙ refusal-stored image h))

pub lined_same : (o t v : ℕ) (image : ImageRecord) → unlined (lined_image o t v image) ≡ unlined image
lined_same o t v image =
    rw (off_lines task_on unlined_task (λ n x. refl) t image.tasks, off_lines object_on unlined_object (λ n x. refl) o image.objects, off_lines vector_on unlined_vector (λ n x. refl) v image.vectors) refl
