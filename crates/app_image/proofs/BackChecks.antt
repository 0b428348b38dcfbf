-- A valid image without lines is not refused.
use Rattle.std.proofs.Common.{◌≡◌, ◌≢◌, ℕ, suc, ◌*◌, ◌%◌, ◌<◌, ◌≤◌, ◌==◌, nat_le, nat_lt, List, [], ◌∷◌, ◌++◌, length, map, get_or, slice_index, Bool, true, false, not, ◌&&◌, cond, Option, None, Some, Ok, inl, inr, refl, sym, ap, subst, ◌∙◌, arith, append_assoc, length-append, if◌then◌else◌}
use Rattle.std.specs.List.{find, list_any, All, AllPairs, AllByRecursion}
use Rattle.std.specs.Option.{option_or, option_map}
use Rattle.std.proofs.lemmas.Bool.{and_from, le-leb, lt-ltb, le-ltb, eq-eqb, ne_eqb, not_from_true, and_left, and_right, or_from}
use Rattle.std.proofs.lemmas.List.Elements.{recursion_from_All, All-from_recursion, All-map}
use Rattle.std.proofs.lemmas.List.{length-map}
use Rattle.kern_base.specs.declared.kinds.Kind.{Kind}
use Rattle.kern_base.specs.declared.kinds.Kind.TheVariants.{Sem, Queue, Flags, Mutex, OneShot, Periodic}
use Rattle.app_image.specs.Addresses.{is_between, is_code_address, is_stack_pointer, IsCodeAddress, IsStackPointer}
use Rattle.app_image.specs.Settings.{is_in_range, IsValidConfig}
use Rattle.app_image.specs.Raw.{RawRecord, IsMade, HasZerosUnused}
use Rattle.app_image.specs.Names.{IsFreeName, names_of, AreDistinct}
use Rattle.app_image.specs.Image.{ImageRecord, image_of, no_callback, IsCallback, HasValidFields, IsValidImage}
use Rattle.app_image.specs.Refusal.{task_has, is_bad_callback, is_bad_size, is_bad_time, object_has, vector_has, setting_has, vector_twice, line_of_none, first_record, line_of, causes, refused_or, refusal_among, refusal, image_unless, checked}
use Rattle.app_image.specs.RoundTrip.{unlined_task, unlined_object, unlined_vector, unlined, setting_lines, stored}
use Rattle.app_image.specs.declared.causes.ImageCause.{ImageCause}
use Rattle.app_image.specs.declared.causes.ImageCause.TheVariants.{TaskPriority, CodeAddress, StackPointer, Quantum, TaskQueueSize, QueueSize, VectorNumber, VectorLevel, TimerTime, SettingRange}
use Rattle.app_image.specs.declared.records.TaskDef.{TaskDef}
use Rattle.app_image.specs.declared.records.ObjDef.{ObjDef}
use Rattle.app_image.specs.declared.records.VectorDef.{VectorDef}
use Rattle.app_image.specs.declared.settings.Config.{Config}
use Rattle.app_image.specs.declared.settings.ConfigKey.TheVariants.{IsrLimit, DeferSize, Pool, TmrDiv, RoundRobin, Quanta, TickPrio, TmrPrio, TmrSp, Insert}

between_true : (least greatest n : ℕ) → least ≤ n → n ≤ greatest → is_between least greatest n ≡ true
between_true least greatest n p q = and_from (nat_le least n) (nat_le n greatest) (le-leb least n p) (le-leb n greatest q)

code_address_true : (words address : ℕ) → IsCodeAddress words address → is_code_address words address ≡ true
code_address_true words address h =
    and_from (address % 4 == 0) (nat_lt address (4 * words)) (eq-eqb (address % 4) 0 h.aligned) (lt-ltb address (4 * words) h.inside)

stack_pointer_true : (address : ℕ) → IsStackPointer address → is_stack_pointer address ≡ true
stack_pointer_true address h =
    and_from (address % 4 == 0) (is_between 1048576 1310720 address) (eq-eqb (address % 4) 0 h.aligned) (between_true 1048576 1310720 address h.low h.high)

callback_false : (words callback : ℕ) → IsCallback words callback → (not (callback == no_callback) && not (is_code_address words callback)) ≡ false
callback_false words callback (inl e) =
    and_left (not (callback == no_callback)) (not (is_code_address words callback)) (not_from_true (callback == no_callback) (eq-eqb callback no_callback e))
callback_false words callback (inr h) =
    and_right (not (callback == no_callback)) (not (is_code_address words callback)) (not_from_true (is_code_address words callback) (code_address_true words callback h))

time_false : (n : ℕ) → 1 ≤ n → (n == 0) ≡ false
time_false n h = ne_eqb n 0 (λ e. absurd (omega (arith, e, h)))

no_bad_callback : (words : ℕ) (kind : Kind) (f : List ℕ) → HasValidFields words kind f → is_bad_callback words kind f ≡ false
no_bad_callback words Sem f h = refl
no_bad_callback words Queue f h = refl
no_bad_callback words Flags f h = refl
no_bad_callback words Mutex f h = refl
no_bad_callback words OneShot f h = callback_false words (slice_index f 2) h.1
no_bad_callback words Periodic f h = callback_false words (slice_index f 2) h.1

no_bad_size : (words : ℕ) (kind : Kind) (f : List ℕ) → HasValidFields words kind f → is_bad_size kind f ≡ false
no_bad_size words Sem f h = refl
no_bad_size words Queue f h = not_from_true (is_between 1 1024 (slice_index f 0)) (between_true 1 1024 (slice_index f 0) h.0 h.1)
no_bad_size words Flags f h = refl
no_bad_size words Mutex f h = refl
no_bad_size words OneShot f h = refl
no_bad_size words Periodic f h = refl

no_bad_time : (words : ℕ) (kind : Kind) (f : List ℕ) → HasValidFields words kind f → is_bad_time kind f ≡ false
no_bad_time words Sem f h = refl
no_bad_time words Queue f h = refl
no_bad_time words Flags f h = refl
no_bad_time words Mutex f h = refl
no_bad_time words OneShot f h = time_false (slice_index f 0) h.0
no_bad_time words Periodic f h = time_false (slice_index f 1) h.0

found_none : {X : Type 0} (p : X → Bool) (line : X → ℕ) (xs : List X) → AllByRecursion (λ x. p x ≡ false) xs → option_map line (find p xs) ≡ None
found_none p line [] h = refl
found_none p line (x ∷ xs) h = ap (λ b. option_map line (cond b (Some x) (find p xs))) h.0 ∙ found_none p line xs h.1

none_found : {X : Type 0} (p : X → Bool) (line : X → ℕ) (xs : List X) → All (λ x. p x ≡ false) xs → option_map line (find p xs) ≡ None
none_found p line xs h = found_none p line xs (recursion_from_All (λ x. p x ≡ false) xs h)

pub all_none : (a b c d : Option ℕ) → a ≡ None → b ≡ None → c ≡ None → d ≡ None → option_or a (option_or b (option_or c d)) ≡ None
all_none a b c d p q r s = rw (p, q, r, s) refl

-- no record has the cause
no_record : (cause : ImageCause) (raw : RawRecord) → All (λ t. task_has (length raw.code) cause t ≡ false) raw.tasks → All (λ o. object_has (length raw.code) cause o ≡ false) raw.objects
    → All (λ v. vector_has (length raw.code) cause v ≡ false) raw.vectors → All (λ s. setting_has cause s ≡ false) raw.config → first_record cause raw ≡ None
no_record cause raw ts os vs ss =
    let words = length raw.code in
    all_none _ _ _ _ (none_found (task_has words cause) (λ t. t.line) raw.tasks ts) (none_found (object_has words cause) (λ o. o.line) raw.objects os)
    (none_found (vector_has words cause) (λ v. v.line) raw.vectors vs) (none_found (setting_has cause) (λ s. s.line) raw.config ss)

later_none : (cause : ImageCause) (line : Option ℕ) (cs : List ImageCause) (raw : RawRecord) → line ≡ None → refusal_among cs raw ≡ None → refused_or cause line (refusal_among cs raw) ≡ None
later_none cause line cs raw p q = rw (p, q) refl

pub none_among : (cs : List ImageCause) (raw : RawRecord) → AllByRecursion (λ c. line_of c raw ≡ None) cs → refusal_among cs raw ≡ None
none_among [] raw h = refl
none_among (c ∷ cs) raw h = later_none c (line_of c raw) cs raw h.0 (none_among cs raw h.1)

any_false : {X : Type 0} (p : X → Bool) (xs : List X) → AllByRecursion (λ x. p x ≡ false) xs → list_any p xs ≡ false
any_false p [] h = refl
any_false p (x ∷ xs) h = or_from (p x) (list_any p xs) h.0 (any_false p xs h.1)

weaker : {X : Type 0} (P Q : X → Type 0) → ((x : X) → P x → Q x) → (xs : List X) → AllByRecursion P xs → AllByRecursion Q xs
weaker P Q f [] h = tt
weaker P Q f (x ∷ xs) h = (f x h.0, weaker P Q f xs h.1)

seam : {X : Type 0} (xs : List X) (y : X) (ys : List X) (d : X) → get_or (xs ++ y ∷ ys) (length xs) d ≡ y
seam [] y ys d = refl
seam (x ∷ xs) y ys d = seam xs y ys d

pairs_tail : {X : Type 0} (R : X → X → Type 0) (x : X) (xs : List X) → AllPairs R (x ∷ xs) → AllPairs R xs
pairs_tail R x xs h i j d a b = h (suc i) (suc j) d (omega (arith, a)) (omega (arith, b))

-- what holds of each pair holds of an element and those before it
pub pairs_before : {X : Type 0} (R : X → X → Type 0) (xs : List X) (y : X) (ys : List X) → AllPairs R (xs ++ y ∷ ys) → AllByRecursion (λ x. R x y) xs
pairs_before R [] y ys h = tt
pairs_before R (x ∷ xs) y ys h =
    let within : suc (length xs) < length (x ∷ (xs ++ y ∷ ys)) = omega (arith, length-append xs (y ∷ ys)) in
    (subst (R x) (seam xs y ys y) (h 0 (suc (length xs)) y (omega arith) within), pairs_before R xs y ys (pairs_tail R x (xs ++ y ∷ ys) h))

any_map_false : {X Y : Type 0} (p : Y → Bool) (f : X → Y) (xs : List X) → AllByRecursion (λ x. p (f x) ≡ false) xs → list_any p (map f xs) ≡ false
any_map_false p f [] h = refl
any_map_false p f (x ∷ xs) h = or_from (p (f x)) (list_any p (map f xs)) h.0 (any_map_false p f xs h.1)

map_push : {X Y : Type 0} (f : X → Y) (xs : List X) (y : X) → map f (xs ++ y ∷ []) ≡ map f xs ++ f y ∷ []
map_push f [] y = refl
map_push f (x ∷ xs) y = ap (λ l. f x ∷ l) (map_push f xs y)

-- vectors with distinct numbers
no_twice : (earlier vs : List VectorDef) → AllPairs (λ v w. v.number ≢ w.number) (earlier ++ vs) → vector_twice (map unlined_vector earlier) (map unlined_vector vs) ≡ None
no_twice earlier [] h = refl
no_twice earlier (v ∷ vs) h =
    let R : VectorDef → VectorDef → Type 0 = λ a b. a.number ≢ b.number in
    let P : VectorDef → Bool = λ e. e.number == v.number in
    let before = pairs_before R earlier v vs h in
    let none : list_any P (map unlined_vector earlier) ≡ false =
    any_map_false P unlined_vector earlier (weaker (λ e. R e v) (λ e. (e.number == v.number) ≡ false) (λ e q. ne_eqb e.number v.number q) earlier before) in
    let rest = no_twice (earlier ++ v ∷ []) vs (subst (AllPairs R) (sym (append_assoc earlier (v ∷ []) vs)) h) in
    ap (λ b. if b then Some 0 else vector_twice (map unlined_vector earlier ++ unlined_vector v ∷ []) (map unlined_vector vs)) none
    ∙ ap (λ l. vector_twice l (map unlined_vector vs)) (sym (map_push unlined_vector earlier v)) ∙ rest

-- each setting line is in its range
lines_in_range : (c : Config) → IsValidConfig c → AllByRecursion (λ s. setting_has SettingRange s ≡ false) (setting_lines c)
lines_in_range c h =
    (not_from_true (is_in_range IsrLimit c.isr_limit) (between_true 1 4096 c.isr_limit h.isr_limit_low h.isr_limit_high), (not_from_true (is_in_range DeferSize c.defer_size) (between_true 2 256 c.defer_size h.defer_size_low h.defer_size_high), (not_from_true (is_in_range Pool c.pool) (between_true 0 1024 c.pool (omega arith) h.pool_high), (not_from_true (is_in_range TmrDiv c.tmr_div) (between_true 1 1000 c.tmr_div h.tmr_div_low h.tmr_div_high), (not_from_true (is_in_range RoundRobin c.round_robin) (between_true 0 1 c.round_robin (omega arith) h.round_robin_high), (not_from_true (is_in_range Quanta c.quanta) (between_true 1 65535 c.quanta h.quanta_low h.quanta_high), (not_from_true (is_in_range TickPrio c.tick_prio) (between_true 1 62 c.tick_prio h.tick_prio_low h.tick_prio_high), (not_from_true (is_in_range TmrPrio c.tmr_prio) (between_true 1 62 c.tmr_prio h.tmr_prio_low h.tmr_prio_high), (not_from_true (is_in_range TmrSp c.tmr_sp) (stack_pointer_true c.tmr_sp h.tmr_sp_in_ram), (not_from_true (is_in_range Insert c.insert) (between_true 0 1 c.insert (omega arith) h.insert_high), tt))))))))))

names_same : (ts : List TaskDef) → map (λ t. t.name) (map unlined_task ts) ≡ map (λ t. t.name) ts
names_same [] = refl
names_same (t ∷ ts) = ap (λ l. t.name ∷ l) (names_same ts)

object_names_same : (os : List ObjDef) → map (λ o. o.name) (map unlined_object os) ≡ map (λ o. o.name) os
object_names_same [] = refl
object_names_same (o ∷ os) = ap (λ l. o.name ∷ l) (object_names_same os)

pub names_of-unlined : (ts : List TaskDef) (os : List ObjDef) → names_of (map unlined_task ts) (map unlined_object os) ≡ names_of ts os
names_of-unlined ts os =
    ap (λ l. l ++ map (λ o. o.name) (map unlined_object os)) (names_same ts) ∙ ap (λ l. map (λ t. t.name) ts ++ l) (object_names_same os)

some_none : {X Y : Type 0} (f : X → Y) (xs : List X) → 1 ≤ length xs → line_of_none (map f xs) ≡ None
some_none f [] h = absurd (omega arith)
some_none f (x ∷ xs) h = refl

some_none_here : {X : Type 0} (xs : List X) → 1 ≤ length xs → line_of_none xs ≡ None
some_none_here [] h = absurd (omega arith)
some_none_here (x ∷ xs) h = refl

pub IsMade-stored : (image : ImageRecord) → IsValidImage image → IsMade (stored image)
IsMade-stored image v =
    let names = names_of-unlined image.tasks image.objects in
    record {
      tasks = rw (length-map image.tasks unlined_task) v.tasks_room;
      objects = rw (length-map image.objects unlined_object) v.objects_room;
      vectors = rw (length-map image.vectors unlined_vector) v.vectors_room;
      code = v.code_room;
      ram = v.ram_room;
      names = subst (All IsFreeName) (sym names) v.names;
      distinct = subst AreDistinct (sym names) v.distinct;
      unused = All-map HasZerosUnused unlined_object image.objects (λ k d l. (v.objects k d l).unused);
    }

-- a cause that none has
no_cause : (cause : ImageCause) (image : ImageRecord) → All (λ t. task_has (length image.code) cause (unlined_task t) ≡ false) image.tasks
    → All (λ o. object_has (length image.code) cause (unlined_object o) ≡ false) image.objects → All (λ w. vector_has (length image.code) cause (unlined_vector w) ≡ false) image.vectors
    → All (λ s. setting_has cause s ≡ false) (setting_lines image.config) → first_record cause (stored image) ≡ None
no_cause cause image ts os vs ss =
    let words = length image.code in
    no_record cause (stored image) (All-map (λ t. task_has words cause t ≡ false) unlined_task image.tasks ts) (All-map (λ o. object_has words cause o ≡ false) unlined_object image.objects os)
    (All-map (λ w. vector_has words cause w ≡ false) unlined_vector image.vectors vs) ss

-- a valid image without lines is not refused
pub refusal-stored : (image : ImageRecord) → IsValidImage image → refusal (stored image) ≡ None
refusal-stored image v =
    let words = length image.code in
    none_among causes (stored image) (
      some_none unlined_task image.tasks v.some_task,
      (
        no_cause TaskPriority image (λ k d l. let t = v.tasks k d l in not_from_true _ (between_true 1 62 _ t.prio_low t.prio_high)) (λ k d l. refl) (λ k d l. refl) (λ k d l. refl),
        (
          no_cause CodeAddress image (λ k d l. not_from_true _ (code_address_true words _ (v.tasks k d l).entry)) (λ k d l. no_bad_callback words _ _ (v.objects k d l).fields)
              (λ k d l. not_from_true _ (code_address_true words _ (v.vectors k d l).entry)) (λ k d l. refl),
          (no_cause StackPointer image (λ k d l. not_from_true _ (stack_pointer_true _ (v.tasks k d l).sp)) (λ k d l. refl) (λ k d l. not_from_true _ (stack_pointer_true _ (v.vectors k d l).sp)) (λ k d l. refl), (no_cause Quantum image (λ k d l. le-ltb 65535 _ (v.tasks k d l).quanta) (λ k d l. refl) (λ k d l. refl) (λ k d l. refl), (no_cause TaskQueueSize image (λ k d l. le-ltb 1024 _ (v.tasks k d l).qsize) (λ k d l. refl) (λ k d l. refl) (λ k d l. refl), (no_cause QueueSize image (λ k d l. refl) (λ k d l. no_bad_size words _ _ (v.objects k d l).fields) (λ k d l. refl) (λ k d l. refl), (no_cause VectorNumber image (λ k d l. refl) (λ k d l. refl) (λ k d l. le-ltb 31 _ (v.vectors k d l).number) (λ k d l. refl), (no_twice [] image.vectors v.numbers, (no_cause VectorLevel image (λ k d l. refl) (λ k d l. refl) (λ k d l. let w = v.vectors k d l in not_from_true _ (between_true 1 7 _ w.level_low w.level_high)) (λ k d l. refl), (no_cause TimerTime image (λ k d l. refl) (λ k d l. no_bad_time words _ _ (v.objects k d l).fields) (λ k d l. refl) (λ k d l. refl), (no_cause SettingRange image (λ k d l. refl) (λ k d l. refl) (λ k d l. refl) (All-from_recursion (λ s. setting_has SettingRange s ≡ false) (setting_lines image.config) (lines_in_range image.config v.config)), (refl, (some_none_here image.code v.some_code, tt))))))))))),
        ),
      ),
    )

pub checked-stored : (image : ImageRecord) → IsValidImage image → checked (stored image) ≡ Ok (unlined image)
checked-stored image v = ap (λ r. image_unless r (image_of (stored image))) (refusal-stored image v)
