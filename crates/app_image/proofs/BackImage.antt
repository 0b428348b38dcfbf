-- A raw image in a version of the binary format, and what its parts need to be read back.
use Rattle.std.proofs.Common.{◌≡◌, ◌≢◌, ℕ, zero, suc, ◌+◌, ◌*◌, ◌==◌, nat_le, List, [], ◌∷◌, ◌++◌, length, drop, map, Bool, true, false, not, ◌&&◌, refl, sym, ap, subst, ◌∙◌, arith, append_assoc, length-append, lit<, take, ◌<◌, ◌^◌, ◌⊎◌, inl, inr, ◌||◌}
use Rattle.std.specs.List.{list_all, list_any, flat_map, AllByRecursion}
use Rattle.std.specs.Str.{bytes_eq}
use Rattle.std.proofs.lemmas.Bool.{and_from, or_from, le-leb, eq-eqb, not_from_true, not_from_false, false_from_ne_true}
use Rattle.std.proofs.lemmas.Slice.Eq.{bytes_eq-Decides}
use Rattle.byteorder.specs.Numbers.{little_number-reads_back}
use Rattle.app_image.specs.declared.header.Header.{Header}
use Rattle.app_image.specs.Fields.{half_at, word_at, rows}
use Rattle.app_image.specs.Held.{raw_layout, HasNoLines}
use Rattle.app_image.specs.Raw.{RawRecord, IsMade}
use Rattle.app_image.specs.Reading.{keys}
use Rattle.app_image.specs.Places.{settings_count, is_known, has_zeros, header_of}
use Rattle.app_image.specs.Names.{IsFreeName, is_free_name, is_service_name, AreDistinct}
use Rattle.app_image.specs.Padding.{name_bytes}
use Rattle.kern_base.specs.Checks.{kind_number}
use Rattle.app_image.specs.Layout.{word_bytes, words_bytes, task_bytes, object_bytes, vector_bytes, IsWord}
use Rattle.app_image.specs.Reading.{places, is_bad_name, has_bad_name}
use Rattle.app_image.specs.declared.records.TaskDef.{TaskDef}
use Rattle.app_image.specs.declared.records.ObjDef.{ObjDef}
use Rattle.app_image.specs.declared.records.VectorDef.{VectorDef}
use Rattle.app_image.proofs.BackFields.{length-name_bytes, StoredTask, StoredObject, StoredVector, rows_printed}
use Rattle.app_image.proofs.BackChecks.{pairs_before}

-- a raw image in a version, with what its parts need to be read back
pub record Parts (version : ℕ) (raw : RawRecord) : Type 0 where
  pub known : (version ≡ 1) ⊎ (version ≡ 2)
  pub keys : map (λ s. s.key) raw.config ≡ take (settings_count version) keys
  pub made : IsMade raw
  pub tasks : AllByRecursion StoredTask raw.tasks
  pub objects : AllByRecursion StoredObject raw.objects
  pub vectors : AllByRecursion StoredVector raw.vectors
  pub config : AllByRecursion IsWord (map (λ s. s.value) raw.config)
  pub code : AllByRecursion IsWord raw.code
  pub ram : AllByRecursion IsWord raw.ram
  pub lines : HasNoLines raw

-- its header
abbrev pub head : ℕ → RawRecord → Header
head version raw = record {
  version = version;
  code = length raw.code;
  ram = length raw.ram;
  tasks = length raw.tasks;
  objects = length raw.objects;
  vectors = length raw.vectors;
}

pub same_header : (a b c d e f a' b' c' d' e' f' : ℕ) → a ≡ a' → b ≡ b' → c ≡ c' → d ≡ d' → e ≡ e' → f ≡ f'
    → (let x : Header = record { version = a; code = b; ram = c; tasks = d; objects = e; vectors = f } in let y : Header = record { version = a'; code = b'; ram = c'; tasks = d'; objects = e'; vectors = f' } in x ≡ y)
same_header a b c d e f a' b' c' d' e' f' p q r s t u = rw (p, q, r, s, t, u) refl

small_version : (version : ℕ) → (version ≡ 1) ⊎ (version ≡ 2) → version < 256 ^ 2
small_version version (inl e) = omega (arith, e)
small_version version (inr e) = omega (arith, e)

pub header_back : (version : ℕ) (raw : RawRecord) (rest : List ℕ) → Parts version raw → header_of (raw_layout version raw ++ rest) ≡ head version raw
unfolding half_at word_at
header_back version raw rest p =
    let b = raw_layout version raw ++ rest in
    same_header _ _ _ _ _ _ version (length raw.code) (length raw.ram) (length raw.tasks) (length raw.objects) (length raw.vectors)
    (little_number-reads_back 2 version (drop 6 b) (small_version version p.known))
    (little_number-reads_back 4 (length raw.code) (drop 12 b) (omega (arith, p.made.code)))
    (little_number-reads_back 4 (length raw.ram) (drop 16 b) (omega (arith, p.made.ram)))
    (little_number-reads_back 2 (length raw.tasks) (drop 18 b) (omega (arith, p.made.tasks)))
    (little_number-reads_back 2 (length raw.objects) (drop 20 b) (omega (arith, p.made.objects)))
    (little_number-reads_back 2 (length raw.vectors) (drop 22 b) (omega (arith, p.made.vectors)))

pub zeros_back : (version : ℕ) (raw : RawRecord) (rest : List ℕ) → has_zeros (raw_layout version raw ++ rest) ≡ true
unfolding half_at
zeros_back version raw rest =
    let b = raw_layout version raw ++ rest in
    and_from (half_at b 6 == 0) (half_at b 22 == 0) (eq-eqb (half_at b 6) 0 (little_number-reads_back 2 0 (drop 8 b) (lit< tt)))
    (eq-eqb (half_at b 22) 0 (little_number-reads_back 2 0 (drop 24 b) (lit< tt)))

known_version : (version : ℕ) → (version ≡ 1) ⊎ (version ≡ 2) → ((version == 1) || (version == 2)) ≡ true
known_version version (inl e) = rw e refl
known_version version (inr e) = rw e refl

pub known_head : (version : ℕ) (raw : RawRecord) → Parts version raw → is_known (head version raw) ≡ true
known_head version raw p =
    and_from ((version == 1) || (version == 2)) _ (known_version version p.known)
    (and_from (nat_le (length raw.code) 16384) _ (le-leb (length raw.code) 16384 p.made.code)
    (and_from (nat_le (length raw.ram) 65536) _ (le-leb (length raw.ram) 65536 p.made.ram)
    (and_from (nat_le (length raw.tasks) 60) _ (le-leb (length raw.tasks) 60 p.made.tasks)
    (and_from (nat_le (length raw.objects) 64) (nat_le (length raw.vectors) 32) (le-leb (length raw.objects) 64 p.made.objects) (le-leb (length raw.vectors) 32 p.made.vectors)))))

-- where each part stands in what was written
pub cut_settings : (h s t o v c r rest : List ℕ) → (h ++ (s ++ (t ++ (o ++ (v ++ (c ++ r)))))) ++ rest ≡ h ++ (s ++ (t ++ (o ++ (v ++ (c ++ (r ++ rest))))))
cut_settings h s t o v c r rest = simp append_assoc

pub cut_tasks : (h s t o v c r rest : List ℕ) → (h ++ (s ++ (t ++ (o ++ (v ++ (c ++ r)))))) ++ rest ≡ (h ++ s) ++ (t ++ (o ++ (v ++ (c ++ (r ++ rest)))))
cut_tasks h s t o v c r rest = simp append_assoc

pub cut_objects : (h s t o v c r rest : List ℕ) → (h ++ (s ++ (t ++ (o ++ (v ++ (c ++ r)))))) ++ rest ≡ ((h ++ s) ++ t) ++ (o ++ (v ++ (c ++ (r ++ rest))))
cut_objects h s t o v c r rest = simp append_assoc

pub cut_vectors : (h s t o v c r rest : List ℕ) → (h ++ (s ++ (t ++ (o ++ (v ++ (c ++ r)))))) ++ rest ≡ (((h ++ s) ++ t) ++ o) ++ (v ++ (c ++ (r ++ rest)))
cut_vectors h s t o v c r rest = simp append_assoc

pub cut_code : (h s t o v c r rest : List ℕ) → (h ++ (s ++ (t ++ (o ++ (v ++ (c ++ r)))))) ++ rest ≡ ((((h ++ s) ++ t) ++ o) ++ v) ++ (c ++ (r ++ rest))
cut_code h s t o v c r rest = simp append_assoc

pub cut_ram : (h s t o v c r rest : List ℕ) → (h ++ (s ++ (t ++ (o ++ (v ++ (c ++ r)))))) ++ rest ≡ (((((h ++ s) ++ t) ++ o) ++ v) ++ c) ++ (r ++ rest)
cut_ram h s t o v c r rest = simp append_assoc

-- the length of what is printed for each of a list
pub length_flat : {T : Type 0} (bytes : T → List ℕ) (size : ℕ) (Good : T → Type 0) → ((t : T) → Good t → length (bytes t) ≡ size)
    → (ts : List T) → AllByRecursion Good ts → length (flat_map bytes ts) ≡ size * length ts
length_flat bytes size Good len [] h = omega arith
length_flat bytes size Good len (t ∷ ts) h =
    let n = length_flat bytes size Good len ts h.1 in
    let e : size * suc (length ts) ≡ size + size * length ts = omega arith in
    length-append (bytes t) (flat_map bytes ts) ∙ omega (arith, len t h.0, n, e)

pub length_task : (t : TaskDef) → StoredTask t → length (task_bytes t) ≡ 36
length_task t h =
    omega (arith, length-name_bytes t.name h.name.short, length-append (name_bytes t.name) (words_bytes (t.entry ∷ t.sp ∷ t.prio ∷ t.quanta ∷ t.qsize ∷ [])))

pub length_word : (n : ℕ) → IsWord n → length (word_bytes n) ≡ 4
length_word n h = refl

pub all_words : (f : List ℕ) → AllByRecursion IsWord f → length (words_bytes f) ≡ 4 * length f
all_words f h = length_flat word_bytes 4 IsWord length_word f h

pub length_object : (o : ObjDef) → StoredObject o → length (object_bytes o) ≡ 36
length_object o h =
    let n = all_words o.f h.words in
    omega (arith, n, h.four, length-name_bytes o.name h.name.short, length-append (name_bytes o.name) (words_bytes (kind_number o.kind ∷ o.f)))

pub length_vector : (v : VectorDef) → StoredVector v → length (vector_bytes v) ≡ 16
length_vector v h = refl

-- a part that stands at a place is read back
pub part : {T U : Type 0} (f : List ℕ → ℕ → U) (bytes : T → List ℕ) (view : T → U) (size : ℕ) (Good : T → Type 0)
    → ((front : List ℕ) (t : T) (rest : List ℕ) → Good t → f (front ++ (bytes t ++ rest)) (length front) ≡ view t) → ((t : T) → Good t → length (bytes t) ≡ size)
    → (all front : List ℕ) (ts : List T) (rest : List ℕ) (at : ℕ) → all ≡ front ++ (flat_map bytes ts ++ rest) → at ≡ length front → AllByRecursion Good ts
    → rows (f all) size (length ts) at ≡ map view ts
part f bytes view size Good each len all front ts rest at e p h =
    ap (λ b. rows (f b) size (length ts) at) e ∙ ap (rows (f (front ++ (flat_map bytes ts ++ rest))) size (length ts)) p ∙ rows_printed f bytes view size Good each len front ts rest h

pub map_same : (ws : List ℕ) → map (λ w. w) ws ≡ ws
map_same [] = refl
map_same (w ∷ ws) = ap (λ l. w ∷ l) (map_same ws)

pub all_true : {T : Type 0} (p : ℕ → Bool) (size n at : ℕ) (ts : List T) → rows p size n at ≡ map (λ t. true) ts → list_all p (places size n at) ≡ true
all_true {T = T} p size n at ts e = step size n at ∙ ap (list_all (λ b. b)) e ∙ trues ts
  where
    step : (size n at : ℕ) → list_all p (places size n at) ≡ list_all (λ b. b) (rows p size n at)
    step size zero at = refl
    step size (suc n) at = ap (λ b. p at && b) (step size n (at + size))

    trues : (ts : List T) → list_all (λ b. b) (map (λ t. true) ts) ≡ true
    trues [] = refl
    trues (t ∷ ts) = trues ts

-- names that are free and distinct are not bad
pub names_pass : (earlier names : List (List ℕ)) → AllByRecursion IsFreeName names → AreDistinct (earlier ++ names) → has_bad_name earlier names ≡ false
names_pass earlier [] free pairs = refl
names_pass earlier (name ∷ names) free pairs =
    let before = pairs_before (λ m n. m ≢ n) earlier name names pairs in
    let is_free : is_free_name name ≡ true = and_from _ (not (is_service_name name)) free.0.form (not_from_false (is_service_name name) free.0.free) in
    let here : is_bad_name earlier name ≡ false = or_from (not (is_free_name name)) (list_any (bytes_eq name) earlier) (not_from_true (is_free_name name) is_free) (others earlier before) in
    or_from (is_bad_name earlier name) (has_bad_name (earlier ++ name ∷ []) names) here
    (names_pass (earlier ++ name ∷ []) names free.1 (subst AreDistinct (sym (append_assoc earlier (name ∷ []) names)) pairs))
  where
    others : (es : List (List ℕ)) → AllByRecursion (λ e. e ≢ name) es → list_any (bytes_eq name) es ≡ false
    others [] h = refl
    others (e ∷ es) h =
        or_from (bytes_eq name e) (list_any (bytes_eq name) es) (false_from_ne_true (bytes_eq name e) (λ t. h.0 (sym ((bytes_eq-Decides name e).0 t)))) (others es h.1)
