-- A raw image that is not refused gives a valid image.
use Rattle.std.proofs.Common.{◌≡◌, ◌≢◌, ℕ, ◌≤◌, ◌==◌, List, [], ◌∷◌, ◌++◌, length, true, false, not, ◌&&◌, Option, None, Some, inl, inr, slice_index, get_or, refl, sym, ap, subst, ◌∙◌, arith, append_assoc, append-nil}
use Rattle.std.specs.List.{list_any, All, AllPairs, AllByRecursion}
use Rattle.std.proofs.lemmas.Bool.{ltb-false, eqb-true, eqb-false, not-false, and_cases, cond_both}
use Rattle.std.proofs.lemmas.List.Elements.{All-head, All-tail}
use Rattle.std.proofs.lemmas.List.Quantifiers.{all_pairs_push}
use Rattle.kern_base.specs.declared.kinds.Kind.{Kind}
use Rattle.kern_base.specs.declared.kinds.Kind.TheVariants.{Sem, Queue, Flags, Mutex, OneShot, Periodic}
use Rattle.app_image.specs.Addresses.{is_code_address}
use Rattle.app_image.specs.Settings.{key_number, default_of, is_in_range, setting, config_of, IsValidConfig}
use Rattle.app_image.specs.Raw.{RawRecord, IsMade}
use Rattle.app_image.specs.Image.{image_of, no_callback, IsCallback, HasValidFields, IsValidImage}
use Rattle.app_image.specs.Refusal.{task_has, is_bad_callback, is_bad_size, is_bad_time, object_has, vector_has, setting_has, task_line, object_line, vector_line, vector_twice, line_of_none, first_record, line_of, causes, refused_or, refusal_among, refusal}
use Rattle.app_image.specs.declared.causes.ImageCause.{ImageCause}
use Rattle.app_image.specs.declared.causes.ImageCause.TheVariants.{TaskPriority, CodeAddress, StackPointer, Quantum, TaskQueueSize, QueueSize, VectorNumber, VectorLevel, TimerTime, SettingRange}
use Rattle.app_image.specs.declared.causes.ImageError.{ImageError}
use Rattle.app_image.specs.declared.records.VectorDef.{VectorDef}
use Rattle.app_image.specs.declared.settings.ConfigKey.{ConfigKey}
use Rattle.app_image.specs.declared.settings.ConfigKey.TheVariants.{IsrLimit, DeferSize, Pool, TmrDiv, RoundRobin, Quanta, TickPrio, TmrPrio, TmrSp, Insert}
use Rattle.app_image.specs.declared.settings.ConfigLine.{ConfigLine}
use Rattle.app_image.proofs.RangeTests.{between_parts, stack_pointer_parts, between_unless, code_address_unless, stack_pointer_unless}
use Rattle.app_image.proofs.Searches.{cond_none, or_none, map_none, find_none, list_any_false}

-- where nothing is refused, the first cause has no line and the later ones refuse nothing
pub passes : (cause : ImageCause) (line : Option ℕ) (later : Option ImageError) → refused_or cause line later ≡ None → (line ≡ None) × (later ≡ None)
passes cause None later h = (refl, h)
passes cause (Some line) later h = cc

-- where nothing is refused, no cause has a line
pub all_pass : (cs : List ImageCause) (raw : RawRecord) → refusal_among cs raw ≡ None → AllByRecursion (λ c. line_of c raw ≡ None) cs
all_pass [] raw h = tt
all_pass (c ∷ cs) raw h =
    let p = passes c (line_of c raw) (refusal_among cs raw) h in (p.0, all_pass cs raw p.1)

-- a cause that no record has
pub record NoneHas (cause : ImageCause) (raw : RawRecord) : Type 0 where
  pub tasks : All (λ t. task_has (length raw.code) cause t ≡ false) raw.tasks
  pub objects : All (λ o. object_has (length raw.code) cause o ≡ false) raw.objects
  pub vectors : All (λ v. vector_has (length raw.code) cause v ≡ false) raw.vectors
  pub settings : All (λ s. setting_has cause s ≡ false) raw.config

pub none_has : (cause : ImageCause) (raw : RawRecord) → first_record cause raw ≡ None → NoneHas cause raw
none_has cause raw h =
    let words = length raw.code in
    let a = or_none (task_line words cause raw.tasks) _ h in
    let b = or_none (object_line words cause raw.objects) _ a.1 in
    let c = or_none (vector_line words cause raw.vectors) _ b.1 in
    record {
      tasks = find_none (task_has words cause) raw.tasks (map_none (λ t. t.line) _ a.0);
      objects = find_none (object_has words cause) raw.objects (map_none (λ o. o.line) _ b.0);
      vectors = find_none (vector_has words cause) raw.vectors (map_none (λ v. v.line) _ c.0);
      settings = find_none (setting_has cause) raw.config (map_none (λ s. s.line) _ c.1);
    }

callback_unless : (words callback : ℕ) → (not (callback == no_callback) && not (is_code_address words callback)) ≡ false → IsCallback words callback
callback_unless words callback h =
    elim (and_cases (not (callback == no_callback)) (not (is_code_address words callback)) h) [
      | inl e ↦ inl (eqb-true callback no_callback (not-false (callback == no_callback) e))
      | inr e ↦ inr (code_address_unless words callback e)
    ]

not_zero : (n : ℕ) → (n == 0) ≡ false → 1 ≤ n
not_zero n h = omega (arith, eqb-false n 0 h)

-- an object without a cause has valid fields
valid_fields : (words : ℕ) (kind : Kind) (f : List ℕ) → is_bad_callback words kind f ≡ false → is_bad_size kind f ≡ false → is_bad_time kind f ≡ false → HasValidFields words kind f
valid_fields words Sem f a b c = tt
valid_fields words Queue f a b c = between_unless 1 1024 (slice_index f 0) b
valid_fields words Flags f a b c = tt
valid_fields words Mutex f a b c = tt
valid_fields words OneShot f a b c = (not_zero (slice_index f 0) c, callback_unless words (slice_index f 2) a)
valid_fields words Periodic f a b c = (not_zero (slice_index f 1) c, callback_unless words (slice_index f 2) a)

-- no two vectors have one number
distinct_numbers : (earlier vs : List VectorDef) → AllPairs (λ v w. v.number ≢ w.number) earlier → vector_twice earlier vs ≡ None → AllPairs (λ v w. v.number ≢ w.number) (earlier ++ vs)
distinct_numbers earlier [] pairs h = subst (AllPairs (λ v w. v.number ≢ w.number)) (sym (append-nil earlier)) pairs
distinct_numbers earlier (v ∷ vs) pairs h =
    let R : VectorDef → VectorDef → Type 0 = λ a b. a.number ≢ b.number in
    let p = cond_none (list_any (λ e. e.number == v.number) earlier) v.line (vector_twice (earlier ++ v ∷ []) vs) h in
    let none = list_any_false (λ e. e.number == v.number) earlier p.0 in
    let pushed : AllPairs R (earlier ++ v ∷ []) = all_pairs_push R earlier v pairs (λ k d l. eqb-false _ _ (none k d l)) in
    subst (AllPairs R) (append_assoc earlier (v ∷ []) vs) (distinct_numbers (earlier ++ v ∷ []) vs pushed p.1)

-- the keys, by their places
keys : List ConfigKey
keys = IsrLimit ∷ DeferSize ∷ Pool ∷ TmrDiv ∷ RoundRobin ∷ Quanta ∷ TickPrio ∷ TmrPrio ∷ TmrSp ∷ Insert ∷ []

key_back : (key : ConfigKey) → get_or keys (key_number key) IsrLimit ≡ key
unfolding keys
key_back IsrLimit = refl
key_back DeferSize = refl
key_back Pool = refl
key_back TmrDiv = refl
key_back RoundRobin = refl
key_back Quanta = refl
key_back TickPrio = refl
key_back TmrPrio = refl
key_back TmrSp = refl
key_back Insert = refl

key_same : (a b : ConfigKey) → key_number a ≡ key_number b → a ≡ b
key_same a b h = sym (key_back a) ∙ ap (λ n. get_or keys n IsrLimit) h ∙ key_back b

default_in_range : (key : ConfigKey) → is_in_range key (default_of key) ≡ true
default_in_range IsrLimit = refl
default_in_range DeferSize = refl
default_in_range Pool = refl
default_in_range TmrDiv = refl
default_in_range RoundRobin = refl
default_in_range Quanta = refl
default_in_range TickPrio = refl
default_in_range TmrPrio = refl
default_in_range TmrSp = refl
default_in_range Insert = refl

-- what the lines give a key is in its range
setting_in_range : (key : ConfigKey) (lines : List ConfigLine) → All (λ s. setting_has SettingRange s ≡ false) lines → is_in_range key (setting key lines) ≡ true
setting_in_range key [] h = default_in_range key
setting_in_range key (s ∷ ss) h =
    let here = not-false (is_in_range s.key s.value) (All-head (λ s. setting_has SettingRange s ≡ false) s ss h) in
    let rest = setting_in_range key ss (All-tail (λ s. setting_has SettingRange s ≡ false) s ss h) in
    cond_both (key_number s.key == key_number key) s.value (setting key ss) (λ n. is_in_range key n ≡ true)
    (λ e. subst (λ k. is_in_range k s.value ≡ true) (key_same s.key key (eqb-true (key_number s.key) (key_number key) e)) here)
    (λ e. rest)

pub valid_config : (lines : List ConfigLine) → All (λ s. setting_has SettingRange s ≡ false) lines → IsValidConfig (config_of lines)
valid_config lines h =
    let isr_limit = between_parts 1 4096 _ (setting_in_range IsrLimit lines h) in
    let defer_size = between_parts 2 256 _ (setting_in_range DeferSize lines h) in
    let pool = between_parts 0 1024 _ (setting_in_range Pool lines h) in
    let tmr_div = between_parts 1 1000 _ (setting_in_range TmrDiv lines h) in
    let round_robin = between_parts 0 1 _ (setting_in_range RoundRobin lines h) in
    let quanta = between_parts 1 65535 _ (setting_in_range Quanta lines h) in
    let tick_prio = between_parts 1 62 _ (setting_in_range TickPrio lines h) in
    let tmr_prio = between_parts 1 62 _ (setting_in_range TmrPrio lines h) in
    let insert = between_parts 0 1 _ (setting_in_range Insert lines h) in
    record {
      isr_limit_low = isr_limit.0;
      isr_limit_high = isr_limit.1;
      defer_size_low = defer_size.0;
      defer_size_high = defer_size.1;
      pool_high = pool.1;
      tmr_div_low = tmr_div.0;
      tmr_div_high = tmr_div.1;
      round_robin_high = round_robin.1;
      quanta_low = quanta.0;
      quanta_high = quanta.1;
      tick_prio_low = tick_prio.0;
      tick_prio_high = tick_prio.1;
      tmr_prio_low = tmr_prio.0;
      tmr_prio_high = tmr_prio.1;
      tmr_sp_in_ram = stack_pointer_parts _ (setting_in_range TmrSp lines h);
      insert_high = insert.1;
    }

some_of : {T : Type 0} (xs : List T) → line_of_none xs ≡ None → 1 ≤ length xs
some_of [] h = cc
some_of (x ∷ xs) h = omega arith

-- a raw image that its makers saw to and that is not refused gives a valid image
pub IsValidImage-from_check : (raw : RawRecord) → IsMade raw → refusal raw ≡ None → IsValidImage (image_of raw)
IsValidImage-from_check raw made h =
    let words = length raw.code in
    let lines = all_pass causes raw h in
    let prio = none_has TaskPriority raw lines.1.0 in
    let address = none_has CodeAddress raw lines.1.1.0 in
    let pointer = none_has StackPointer raw lines.1.1.1.0 in
    let quantum = none_has Quantum raw lines.1.1.1.1.0 in
    let queue = none_has TaskQueueSize raw lines.1.1.1.1.1.0 in
    let size = none_has QueueSize raw lines.1.1.1.1.1.1.0 in
    let number = none_has VectorNumber raw lines.1.1.1.1.1.1.1.0 in
    let level = none_has VectorLevel raw lines.1.1.1.1.1.1.1.1.1.0 in
    let time = none_has TimerTime raw lines.1.1.1.1.1.1.1.1.1.1.0 in
    let range = none_has SettingRange raw lines.1.1.1.1.1.1.1.1.1.1.1.0 in
    record {
      some_task = some_of raw.tasks lines.0;
      some_code = some_of raw.code lines.1.1.1.1.1.1.1.1.1.1.1.1.1.0;
      tasks_room = made.tasks;
      objects_room = made.objects;
      vectors_room = made.vectors;
      code_room = made.code;
      ram_room = made.ram;
      names = made.names;
      distinct = made.distinct;
      tasks = λ k d l. let p = between_unless 1 62 _ (prio.tasks k d l) in record {
        prio_low = p.0;
        prio_high = p.1;
        entry = code_address_unless words _ (address.tasks k d l);
        sp = stack_pointer_unless _ (pointer.tasks k d l);
        quanta = ltb-false 65535 _ (quantum.tasks k d l);
        qsize = ltb-false 1024 _ (queue.tasks k d l);
      };
      objects = λ k d l. record {
        fields = valid_fields words _ _ (address.objects k d l) (size.objects k d l) (time.objects k d l);
        unused = made.unused k d l;
      };
      vectors = λ k d l. let p = between_unless 1 7 _ (level.vectors k d l) in record {
        number = ltb-false 31 _ (number.vectors k d l);
        level_low = p.0;
        level_high = p.1;
        entry = code_address_unless words _ (address.vectors k d l);
        sp = stack_pointer_unless _ (pointer.vectors k d l);
      };
      numbers = distinct_numbers [] raw.vectors (λ i j d a b. absurd (omega arith)) lines.1.1.1.1.1.1.1.1.0;
      config = valid_config raw.config range.settings;
    }
