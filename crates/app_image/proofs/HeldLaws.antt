-- Bytes that are a layout hold the raw image that is read from them.
use Rattle.std.proofs.Common.{◌≡◌, ℕ, zero, suc, ◌+◌, ◌-◌, ◌*◌, ◌%◌, ◌/◌, ◌≤◌, ◌<◌, ◌==◌, nat_le, List, [], ◌∷◌, ◌++◌, length, take, drop, map, get_or, replicate, Bool, true, false, ◌||◌, ◌⊎◌, inl, inr, refl, sym, ap, subst, ◌∙◌, arith}
use Rattle.std.specs.List.{list_all, flat_map, AllByRecursion}
use Rattle.std.proofs.Math.Seq.{take-add}
use Rattle.std.proofs.lemmas.Bool.{and_parts, or_parts, eqb-true, leb-true, not-false}
use Rattle.std.proofs.lemmas.List.{drop-drop, length-drop, length-take-le, take-append-drop, get_or-drop}
use Rattle.std.proofs.lemmas.List.Elements.{All-from_recursion}
use Rattle.byteorder.specs.Endian.{little_bytes, little_number}
use Rattle.byteorder.specs.Numbers.{little_from-lt}
use Rattle.kern_base.specs.Checks.{kind_number}
use Rattle.app_image.specs.declared.settings.ConfigKey.{ConfigKey}
use Rattle.app_image.specs.Fields.{half_at, word_at, rows}
use Rattle.app_image.specs.Places.{header_of, settings_count, tasks_place, objects_place, vectors_place, code_place, ram_place, image_size}
use Rattle.app_image.specs.Padding.{name_bytes}
use Rattle.app_image.specs.Layout.{magic, half_bytes, word_bytes, words_bytes, task_bytes, object_bytes, vector_bytes, IsWord, HasWordFields}
use Rattle.app_image.specs.Reading.{unless_zero, trimmed, name_at, kind_of, is_kind, task_at, fields_at, object_at, vector_at, keys, settings_at, raw_at, places, is_layout, has_bad_name, names_at, has_fault}
use Rattle.app_image.specs.Held.{raw_header, raw_layout, HasWordTask, HasWordVector, FitsVersion, Holds}
use Rattle.app_image.proofs.RowLaws.{length-rows, All-rows}
use Rattle.app_image.proofs.BackWhole.{count_settings}
use Rattle.app_image.proofs.ReadLaws.{Laid, laid, length-name_at, IsMade-raw_at}

-- each of a list is a byte
abbrev pub AreBytes : List ℕ → Type 0
AreBytes bytes = (k : ℕ) → get_or bytes k 0 < 256

behind : (bytes : List ℕ) (at : ℕ) → AreBytes bytes → AreBytes (drop at bytes)
behind bytes at h k = subst (λ b. b < 256) (sym (get_or-drop at bytes k 0)) (h (at + k))

-- a number that was read is written by the same bytes
half_same : (a b : ℕ) (rest : List ℕ) → a < 256 → b < 256 → little_bytes 2 (little_number 2 (a ∷ b ∷ rest)) ≡ a ∷ b ∷ []
half_same a b rest p q =
    let n = a + 256 * (b + 256 * 0) in
    let first : n % 256 ≡ a = omega (arith, p) in
    let second : n / 256 % 256 ≡ b = omega (arith, p, q) in
    ap (λ x. x ∷ n / 256 % 256 ∷ []) first ∙ ap (λ x. a ∷ x ∷ []) second

word_same : (a b c d : ℕ) (rest : List ℕ) → a < 256 → b < 256 → c < 256 → d < 256 → little_bytes 4 (little_number 4 (a ∷ b ∷ c ∷ d ∷ rest)) ≡ a ∷ b ∷ c ∷ d ∷ []
word_same a b c d rest p q r s =
    let n = a + 256 * (b + 256 * (c + 256 * (d + 256 * 0))) in
    let first : n % 256 ≡ a = omega (arith, p) in
    let second : n / 256 % 256 ≡ b = omega (arith, p, q) in
    let third : n / 65536 % 256 ≡ c = omega (arith, p, q, r) in
    let fourth : n / 16777216 % 256 ≡ d = omega (arith, p, q, r, s) in
    rw (first, second, third, fourth) refl

half_taken : (xs : List ℕ) → AreBytes xs → 2 ≤ length xs → half_bytes (little_number 2 xs) ≡ take 2 xs
half_taken [] h l = absurd (omega (arith, l))
half_taken (a ∷ []) h l = absurd (omega (arith, l))
half_taken (a ∷ b ∷ rest) h l = half_same a b rest (h 0) (h 1)

word_taken : (xs : List ℕ) → AreBytes xs → 4 ≤ length xs → word_bytes (little_number 4 xs) ≡ take 4 xs
word_taken [] h l = absurd (omega (arith, l))
word_taken (a ∷ []) h l = absurd (omega (arith, l))
word_taken (a ∷ b ∷ []) h l = absurd (omega (arith, l))
word_taken (a ∷ b ∷ c ∷ []) h l = absurd (omega (arith, l))
word_taken (a ∷ b ∷ c ∷ d ∷ rest) h l = word_same a b c d rest (h 0) (h 1) (h 2) (h 3)

half_laid : (bytes : List ℕ) (at : ℕ) → AreBytes bytes → at + 2 ≤ length bytes → half_bytes (half_at bytes at) ≡ take 2 (drop at bytes)
unfolding half_at
half_laid bytes at h l = half_taken (drop at bytes) (behind bytes at h) (omega (arith, l, length-drop at bytes))

word_laid : (bytes : List ℕ) (at : ℕ) → AreBytes bytes → at + 4 ≤ length bytes → word_bytes (word_at bytes at) ≡ take 4 (drop at bytes)
unfolding word_at
word_laid bytes at h l = word_taken (drop at bytes) (behind bytes at h) (omega (arith, l, length-drop at bytes))

small_word : (bytes : List ℕ) (at : ℕ) → AreBytes bytes → IsWord (word_at bytes at)
unfolding word_at
small_word bytes at h = omega (arith, little_from-lt 0 4 (drop at bytes) (behind bytes at h))

-- bytes from a place on, in two parts
two_parts : (bytes : List ℕ) (at m n : ℕ) → take (m + n) (drop at bytes) ≡ take m (drop at bytes) ++ take n (drop (at + m) bytes)
two_parts bytes at m n = take-add m n (drop at bytes) ∙ ap (λ l. take m (drop at bytes) ++ take n l) (drop-drop m at bytes)

-- rows of values that are written by the bytes from which each was read
rows_laid : {T : Type 0} (print : T → List ℕ) (f : ℕ → T) (q : ℕ → Bool) (size : ℕ) (bytes : List ℕ)
    → ((at : ℕ) → q at ≡ true → at + size ≤ length bytes → print (f at) ≡ take size (drop at bytes))
    → (n at : ℕ) → list_all q (places size n at) ≡ true → at + size * n ≤ length bytes → flat_map print (rows f size n at) ≡ take (size * n) (drop at bytes)
rows_laid print f q size bytes each zero at all h = let e : size * 0 ≡ 0 = omega arith in ap (λ n. take n (drop at bytes)) (sym e)
rows_laid print f q size bytes each (suc n) at all h =
    let parts = and_parts (q at) (list_all q (places size n (at + size))) all in
    let e : size + size * n ≡ size * suc n = omega arith in
    let here = each at parts.0 (omega (arith, h, e)) in
    let more = rows_laid print f q size bytes each n (at + size) parts.1 (omega (arith, h, e)) in
    ap (λ l. l ++ flat_map print (rows f size n (at + size))) here ∙ (ap (λ l. take size (drop at bytes) ++ l) more
    ∙ (sym (two_parts bytes at size (size * n)) ∙ ap (λ k. take k (drop at bytes)) e))

all_pass : (size n at : ℕ) → list_all (λ p. true) (places size n at) ≡ true
all_pass size zero at = refl
all_pass size (suc n) at = all_pass size n (at + size)

words_laid : (bytes : List ℕ) → AreBytes bytes → (n at : ℕ) → at + 4 * n ≤ length bytes → words_bytes (rows (word_at bytes) 4 n at) ≡ take (4 * n) (drop at bytes)
words_laid bytes h n at l = rows_laid word_bytes (word_at bytes) (λ p. true) 4 bytes (λ p t m. word_laid bytes p h m) n at (all_pass 4 n at) l

settings_laid : (ks : List ConfigKey) (bytes : List ℕ) (at : ℕ) → map (λ s. s.value) (settings_at ks bytes at) ≡ rows (word_at bytes) 4 (length ks) at
settings_laid [] bytes at = refl
settings_laid (k ∷ ks) bytes at = ap (λ l. word_at bytes at ∷ l) (settings_laid ks bytes (at + 4))

-- a name and the zeros that were left out
padded_back : (xs : List ℕ) (k : ℕ) → length (trimmed xs) + k ≡ length xs → trimmed xs ++ replicate k 0 ≡ xs
padded_back [] zero e = refl
padded_back [] (suc k) e = absurd (omega (arith, e))
padded_back (x ∷ xs) k e = step x (trimmed xs) k e (padded_back xs)
  where
    step : (x : ℕ) (ys : List ℕ) (k : ℕ) → length (unless_zero x ys) + k ≡ suc (length xs) → ((k : ℕ) → length ys + k ≡ length xs → ys ++ replicate k 0 ≡ xs) → unless_zero x ys ++ replicate k 0 ≡ x ∷ xs
    step zero [] zero e h = absurd (omega (arith, e))
    step zero [] (suc k) e h = ap (λ l. 0 ∷ l) (h k (omega (arith, e)))
    step zero (y ∷ ys) k e h = ap (λ l. 0 ∷ l) (h k (omega (arith, e)))
    step (suc n) ys k e h = ap (λ l. suc n ∷ l) (h k (omega (arith, e)))

name_laid : (bytes : List ℕ) (at : ℕ) → at + 16 ≤ length bytes → name_bytes (name_at bytes at) ≡ take 16 (drop at bytes)
name_laid bytes at l =
    let n : length (take 16 (drop at bytes)) ≡ 16 = length-take-le 16 (drop at bytes) (omega (arith, l, length-drop at bytes)) in
    padded_back (take 16 (drop at bytes)) (16 - length (name_at bytes at)) (omega (arith, n, length-name_at bytes at))

-- five words, and four
five_rows : (f : ℕ → ℕ) (at : ℕ) → rows f 4 5 (at + 16) ≡ f (at + 16) ∷ f (at + 20) ∷ f (at + 24) ∷ f (at + 28) ∷ f (at + 32) ∷ []
five_rows f at =
    let a : at + 16 + 4 ≡ at + 20 = omega arith in
    let b : at + 20 + 4 ≡ at + 24 = omega arith in
    let c : at + 24 + 4 ≡ at + 28 = omega arith in
    let d : at + 28 + 4 ≡ at + 32 = omega arith in
    rw (a, b, c, d) refl

four_rows : (f : ℕ → ℕ) (at : ℕ) → rows f 4 4 at ≡ f at ∷ f (at + 4) ∷ f (at + 8) ∷ f (at + 12) ∷ []
four_rows f at =
    let a : at + 4 + 4 ≡ at + 8 = omega arith in
    let b : at + 8 + 4 ≡ at + 12 = omega arith in
    rw (a, b) refl

record_laid : (bytes name : List ℕ) (at : ℕ) → AreBytes bytes → at + 36 ≤ length bytes → name_bytes name ≡ take 16 (drop at bytes)
    → name_bytes name ++ words_bytes (word_at bytes (at + 16) ∷ word_at bytes (at + 20) ∷ word_at bytes (at + 24) ∷ word_at bytes (at + 28) ∷ word_at bytes (at + 32) ∷ []) ≡ take 36 (drop at bytes)
record_laid bytes name at h l e =
    let ws = ap words_bytes (sym (five_rows (word_at bytes) at)) ∙ words_laid bytes h 5 (at + 16) (omega (arith, l)) in
    ap (λ m. m ++ words_bytes (word_at bytes (at + 16) ∷ word_at bytes (at + 20) ∷ word_at bytes (at + 24) ∷ word_at bytes (at + 28) ∷ word_at bytes (at + 32) ∷ [])) e
    ∙ (ap (λ m. take 16 (drop at bytes) ++ m) ws ∙ sym (two_parts bytes at 16 20))

task_laid : (bytes : List ℕ) → AreBytes bytes → (at : ℕ) → at + 36 ≤ length bytes → task_bytes (task_at bytes at) ≡ take 36 (drop at bytes)
task_laid bytes h at l = record_laid bytes (name_at bytes at) at h l (name_laid bytes at (omega (arith, l)))

kind_same : (n : ℕ) → is_kind n ≡ true → kind_number (kind_of n) ≡ n
kind_same zero h = cc
kind_same (suc zero) h = refl
kind_same (suc (suc zero)) h = refl
kind_same (suc (suc (suc zero))) h = refl
kind_same (suc (suc (suc (suc zero)))) h = refl
kind_same (suc (suc (suc (suc (suc zero))))) h = refl
kind_same (suc (suc (suc (suc (suc (suc zero)))))) h = refl
kind_same (suc (suc (suc (suc (suc (suc (suc n))))))) h =
    let most = leb-true (suc (suc (suc (suc (suc (suc (suc n))))))) 6 (and_parts (nat_le 1 (suc (suc (suc (suc (suc (suc (suc n)))))))) (nat_le (suc (suc (suc (suc (suc (suc (suc n))))))) 6) h).1 in
    absurd (omega (arith, most))

object_laid : (bytes : List ℕ) → AreBytes bytes → (at : ℕ) → is_kind (word_at bytes (at + 16)) ≡ true → at + 36 ≤ length bytes → object_bytes (object_at bytes at) ≡ take 36 (drop at bytes)
object_laid bytes h at k l =
    ap (λ n. name_bytes (name_at bytes at) ++ words_bytes (n ∷ fields_at bytes at)) (kind_same (word_at bytes (at + 16)) k)
    ∙ record_laid bytes (name_at bytes at) at h l (name_laid bytes at (omega (arith, l)))

vector_laid : (bytes : List ℕ) → AreBytes bytes → (at : ℕ) → at + 16 ≤ length bytes → vector_bytes (vector_at bytes at) ≡ take 16 (drop at bytes)
vector_laid bytes h at l = ap words_bytes (sym (four_rows (word_at bytes) at)) ∙ words_laid bytes h 4 at (omega (arith, l))

-- the first 24 bytes by their fields
cut_header : (bytes : List ℕ) → take 24 bytes ≡ take 4 bytes ++ (take 2 (drop 4 bytes) ++ (take 2 (drop 6 bytes) ++ (take 4 (drop 8 bytes) ++ (take 4 (drop 12 bytes)
    ++ (take 2 (drop 16 bytes) ++ (take 2 (drop 18 bytes) ++ (take 2 (drop 20 bytes) ++ take 2 (drop 22 bytes))))))))
cut_header bytes =
    two_parts bytes 0 4 20 ∙ ap (λ l. take 4 bytes ++ l) (two_parts bytes 4 2 18 ∙ ap (λ l. take 2 (drop 4 bytes) ++ l) (two_parts bytes 6 2 16
    ∙ ap (λ l. take 2 (drop 6 bytes) ++ l) (two_parts bytes 8 4 12 ∙ ap (λ l. take 4 (drop 8 bytes) ++ l) (two_parts bytes 12 4 8
    ∙ ap (λ l. take 4 (drop 12 bytes) ++ l) (two_parts bytes 16 2 6 ∙ ap (λ l. take 2 (drop 16 bytes) ++ l) (two_parts bytes 18 2 4
    ∙ ap (λ l. take 2 (drop 18 bytes) ++ l) (two_parts bytes 20 2 2)))))))

same_nine : (a b c d e f g h i a' b' c' d' e' f' g' h' i' : List ℕ) → a ≡ a' → b ≡ b' → c ≡ c' → d ≡ d' → e ≡ e' → f ≡ f' → g ≡ g' → h ≡ h' → i ≡ i'
    → a ++ (b ++ (c ++ (d ++ (e ++ (f ++ (g ++ (h ++ i))))))) ≡ a' ++ (b' ++ (c' ++ (d' ++ (e' ++ (f' ++ (g' ++ (h' ++ i')))))))
same_nine a b c d e f g h i a' b' c' d' e' f' g' h' i' p q r s t u v w x = rw (p, q, r, s, t, u, v, w, x) refl

same_seven : (a b c d e f g a' b' c' d' e' f' g' : List ℕ) → a ≡ a' → b ≡ b' → c ≡ c' → d ≡ d' → e ≡ e' → f ≡ f' → g ≡ g'
    → a ++ (b ++ (c ++ (d ++ (e ++ (f ++ g))))) ≡ a' ++ (b' ++ (c' ++ (d' ++ (e' ++ (f' ++ g')))))
same_seven a b c d e f g a' b' c' d' e' f' g' p q r s t u v = rw (p, q, r, s, t, u, v) refl

header_laid : (bytes : List ℕ) → AreBytes bytes → take 4 bytes ≡ magic → Laid bytes (header_of bytes) → raw_header (header_of bytes).version (raw_at bytes (header_of bytes)) ≡ take 24 bytes
header_laid bytes h m l =
    let hd = header_of bytes in
    let n = l.header in
    let zeros = and_parts (half_at bytes 6 == 0) (half_at bytes 22 == 0) l.zeros in
    let at : (p : ℕ) → p + 2 ≤ length bytes → half_bytes (half_at bytes p) ≡ take 2 (drop p bytes) = λ p o. half_laid bytes p h o in
    let word : (p : ℕ) → p + 4 ≤ length bytes → word_bytes (word_at bytes p) ≡ take 4 (drop p bytes) = λ p o. word_laid bytes p h o in
    let first = ap half_bytes (sym (eqb-true (half_at bytes 6) 0 zeros.0)) ∙ at 6 (omega (arith, n)) in
    let last = ap half_bytes (sym (eqb-true (half_at bytes 22) 0 zeros.1)) ∙ at 22 (omega (arith, n)) in
    same_nine magic (half_bytes hd.version) (half_bytes 0) _ _ _ _ _ (half_bytes 0) _ _ _ _ _ _ _ _ _ (sym m) (at 4 (omega (arith, n))) first
    (ap word_bytes (length-rows (word_at bytes) 4 hd.code (code_place hd)) ∙ word 8 (omega (arith, n)))
    (ap word_bytes (length-rows (word_at bytes) 4 hd.ram (ram_place hd)) ∙ word 12 (omega (arith, n)))
    (ap half_bytes (length-rows (task_at bytes) 36 hd.tasks (tasks_place hd)) ∙ at 16 (omega (arith, n)))
    (ap half_bytes (length-rows (object_at bytes) 36 hd.objects (objects_place hd)) ∙ at 18 (omega (arith, n)))
    (ap half_bytes (length-rows (vector_at bytes) 16 hd.vectors (vectors_place hd)) ∙ at 20 (omega (arith, n))) last
    ∙ sym (cut_header bytes)

known_version : (version : ℕ) → ((version == 1) || (version == 2)) ≡ true → (version ≡ 1) ⊎ (version ≡ 2)
known_version version e = by (version == 1) (version == 2) e (eqb-true version 1) (eqb-true version 2)
  where
    by : (a b : Bool) → (a || b) ≡ true → (a ≡ true → version ≡ 1) → (b ≡ true → version ≡ 2) → (version ≡ 1) ⊎ (version ≡ 2)
    by true b e p q = inl (p refl)
    by false b e p q = inr (q e)

-- the parts of a size
cut_size : (bytes : List ℕ) (s t o v c r : ℕ) → take (24 + (s + (t + (o + (v + (c + r)))))) bytes
    ≡ take 24 bytes ++ (take s (drop 24 bytes) ++ (take t (drop (24 + s) bytes) ++ (take o (drop (24 + s + t) bytes) ++ (take v (drop (24 + s + t + o) bytes)
    ++ (take c (drop (24 + s + t + o + v) bytes) ++ take r (drop (24 + s + t + o + v + c) bytes))))))
cut_size bytes s t o v c r =
    two_parts bytes 0 24 (s + (t + (o + (v + (c + r))))) ∙ ap (λ l. take 24 bytes ++ l) (two_parts bytes 24 s (t + (o + (v + (c + r))))
    ∙ ap (λ l. take s (drop 24 bytes) ++ l) (two_parts bytes (24 + s) t (o + (v + (c + r))) ∙ ap (λ l. take t (drop (24 + s) bytes) ++ l) (two_parts bytes (24 + s + t) o (v + (c + r))
    ∙ ap (λ l. take o (drop (24 + s + t) bytes) ++ l) (two_parts bytes (24 + s + t + o) v (c + r) ∙ ap (λ l. take v (drop (24 + s + t + o) bytes) ++ l) (two_parts bytes (24 + s + t + o + v) c r)))))

module _ (bytes : List ℕ) (small : AreBytes bytes) (is_magic : take 4 bytes ≡ magic) (layout : is_layout bytes ≡ true) (none : has_fault bytes (header_of bytes) ≡ false) where
  -- the bytes are those of the raw image
  all_laid : raw_layout (header_of bytes).version (raw_at bytes (header_of bytes)) ≡ take (image_size (header_of bytes)) bytes
  all_laid =
      let hd = header_of bytes in
      let raw = raw_at bytes hd in
      let l = laid bytes layout in
      let fits = l.size in
      let kinds = not-false (list_all (λ p. is_kind (word_at bytes (p + 16))) (places 36 hd.objects (objects_place hd))) (or_parts (has_bad_name [] (names_at bytes hd)) _ none).1 in
      let s = 4 * settings_count hd.version in
      let count = count_settings hd.version (known_version hd.version (and_parts ((hd.version == 1) || (hd.version == 2)) _ l.known).0) in
      let size : 24 + (s + (36 * hd.tasks + (36 * hd.objects + (16 * hd.vectors + (4 * hd.code + 4 * hd.ram))))) ≡ image_size hd = omega arith in
      same_seven _ _ _ _ _ _ _ (take 24 bytes) (take s (drop 24 bytes)) (take (36 * hd.tasks) (drop (tasks_place hd) bytes)) (take (36 * hd.objects) (drop (objects_place hd) bytes))
      (take (16 * hd.vectors) (drop (vectors_place hd) bytes)) (take (4 * hd.code) (drop (code_place hd) bytes)) (take (4 * hd.ram) (drop (ram_place hd) bytes))
      (header_laid bytes small is_magic l)
      (ap words_bytes (settings_laid (take (settings_count hd.version) keys) bytes 24) ∙ (ap (λ n. words_bytes (rows (word_at bytes) 4 n 24)) count ∙ words_laid bytes small (settings_count hd.version) 24 (omega (arith, fits, size))))
      (rows_laid task_bytes (task_at bytes) (λ p. true) 36 bytes (λ p t m. task_laid bytes small p m) hd.tasks (tasks_place hd) (all_pass 36 hd.tasks (tasks_place hd)) (omega (arith, fits, size)))
      (rows_laid object_bytes (object_at bytes) (λ p. is_kind (word_at bytes (p + 16))) 36 bytes (object_laid bytes small) hd.objects (objects_place hd) kinds (omega (arith, fits, size)))
      (rows_laid vector_bytes (vector_at bytes) (λ p. true) 16 bytes (λ p t m. vector_laid bytes small p m) hd.vectors (vectors_place hd) (all_pass 16 hd.vectors (vectors_place hd)) (omega (arith, fits, size)))
      (words_laid bytes small hd.code (code_place hd) (omega (arith, fits, size))) (words_laid bytes small hd.ram (ram_place hd) (omega (arith, fits, size)))
      ∙ (sym (cut_size bytes s (36 * hd.tasks) (36 * hd.objects) (16 * hd.vectors) (4 * hd.code) (4 * hd.ram)) ∙ ap (λ n. take n bytes) size)

  same_keys : (ks : List ConfigKey) (at : ℕ) → map (λ s. s.key) (settings_at ks bytes at) ≡ ks
  same_keys [] at = refl
  same_keys (k ∷ ks) at = ap (λ l. k ∷ l) (same_keys ks (at + 4))

  setting_words : (ks : List ConfigKey) (at : ℕ) → AllByRecursion (λ s. IsWord s.value) (settings_at ks bytes at)
  setting_words [] at = tt
  setting_words (k ∷ ks) at = (small_word bytes at small, setting_words ks (at + 4))

  setting_lines : (ks : List ConfigKey) (at : ℕ) → AllByRecursion (λ s. s.line ≡ 0) (settings_at ks bytes at)
  setting_lines [] at = tt
  setting_lines (k ∷ ks) at = (refl, setting_lines ks (at + 4))

  fits_version : FitsVersion (header_of bytes).version (raw_at bytes (header_of bytes))
  fits_version =
      let hd = header_of bytes in
      let raw = raw_at bytes hd in
      let word : (p : ℕ) → IsWord (word_at bytes p) = λ p. small_word bytes p small in
      let ks = take (settings_count hd.version) keys in
      record {
        known = known_version hd.version (and_parts ((hd.version == 1) || (hd.version == 2)) _ (laid bytes layout).known).0;
        keys = same_keys ks 24;
        made = IsMade-raw_at bytes layout none;
        words = record {
          tasks =
              All-rows HasWordTask (task_at bytes) 36 hd.tasks (tasks_place hd)
              (λ k l. let p = tasks_place hd + 36 * k in record { entry = word (p + 16); sp = word (p + 20); prio = word (p + 24); quanta = word (p + 28); qsize = word (p + 32) });
          objects =
              All-rows HasWordFields (object_at bytes) 36 hd.objects (objects_place hd)
              (λ k l. let p = objects_place hd + 36 * k in record { four = refl; words = All-from_recursion IsWord (fields_at bytes p) (word (p + 20), (word (p + 24), (word (p + 28), (word (p + 32), tt)))) });
          vectors =
              All-rows HasWordVector (vector_at bytes) 16 hd.vectors (vectors_place hd)
              (λ k l. let p = vectors_place hd + 16 * k in record { number = word p; level = word (p + 4); entry = word (p + 8); sp = word (p + 12) });
          config = All-from_recursion (λ s. IsWord s.value) (settings_at ks bytes 24) (setting_words ks 24);
          code = All-rows IsWord (word_at bytes) 4 hd.code (code_place hd) (λ k l. word (code_place hd + 4 * k));
          ram = All-rows IsWord (word_at bytes) 4 hd.ram (ram_place hd) (λ k l. word (ram_place hd + 4 * k));
        };
        lines = record {
          tasks = All-rows (λ t. t.line ≡ 0) (task_at bytes) 36 hd.tasks (tasks_place hd) (λ k l. refl);
          objects = All-rows (λ o. o.line ≡ 0) (object_at bytes) 36 hd.objects (objects_place hd) (λ k l. refl);
          vectors = All-rows (λ v. v.line ≡ 0) (vector_at bytes) 16 hd.vectors (vectors_place hd) (λ k l. refl);
          config = All-from_recursion (λ s. s.line ≡ 0) (settings_at ks bytes 24) (setting_lines ks 24);
        };
      }

  -- what is read is held
  pub read_is_held : Holds bytes (raw_at bytes (header_of bytes)) (image_size (header_of bytes))
  read_is_held =
      let hd = header_of bytes in
      let n = image_size hd in
      record {
        version = hd.version;
        fits = fits_version;
        rest = drop n bytes;
        front = sym (take-append-drop n bytes) ∙ ap (λ l. l ++ drop n bytes) (sym all_laid);
        measured = sym (ap length all_laid ∙ length-take-le n bytes (laid bytes layout).size);
      }
