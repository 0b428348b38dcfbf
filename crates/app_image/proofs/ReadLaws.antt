-- What the tests of a binary image tell of the raw image that it holds.
use Rattle.std.proofs.Common.{◌≡◌, ◌≢◌, ℕ, zero, suc, ◌+◌, ◌-◌, ◌≤◌, ◌==◌, nat_le, List, [], ◌∷◌, ◌++◌, length, take, drop, map, get_or, replicate, Bool, true, false, not, ◌&&◌, ◌||◌, refl, sym, ap, subst, ◌∙◌, arith, append_assoc, append-nil}
use Rattle.std.specs.List.{list_any, list_all, All, AllByRecursion}
use Rattle.std.specs.Str.{bytes_eq}
use Rattle.std.proofs.lemmas.Bool.{and_parts, or_parts, not-true, not-false, leb-true, eqb-true}
use Rattle.std.proofs.lemmas.Bool.Decides.{not_from_Decides}
use Rattle.std.proofs.lemmas.Slice.Eq.{bytes_eq-Decides}
use Rattle.std.proofs.lemmas.List.{length-take}
use Rattle.std.proofs.lemmas.List.Elements.{All-from_recursion}
use Rattle.std.proofs.lemmas.List.Quantifiers.{all_pairs_push}
use Rattle.text_lex.specs.Bytes.{is_name}
use Rattle.kern_base.specs.declared.kinds.Kind.{Kind}
use Rattle.kern_base.specs.declared.kinds.Kind.TheVariants.{Sem, Queue, Flags, Mutex, OneShot, Periodic}
use Rattle.app_image.specs.declared.header.Header.{Header}
use Rattle.app_image.specs.Fields.{word_at, rows}
use Rattle.app_image.specs.Places.{is_known, has_zeros, header_of, tasks_place, objects_place, image_size}
use Rattle.app_image.specs.Names.{is_service_name, is_free_name, IsFreeName, names_of, AreDistinct}
use Rattle.app_image.specs.Raw.{fields_used, HasZerosUnused, IsMade}
use Rattle.app_image.specs.Reading.{unless_zero, trimmed, name_at, kind_of, is_kind, task_at, object_at, vector_at, is_clear, raw_at, places, is_layout, is_bad_name, has_bad_name, names_at, has_fault}
use Rattle.app_image.proofs.Searches.{list_any_false}
use Rattle.app_image.proofs.RowLaws.{length-rows, map-rows, rows-add}

-- a name is no longer than its field
length-trimmed : (xs : List ℕ) → length (trimmed xs) ≤ length xs
length-trimmed [] = omega arith
length-trimmed (x ∷ xs) = omega (arith, length-unless_zero x (trimmed xs), length-trimmed xs)
  where
    length-unless_zero : (x : ℕ) (ys : List ℕ) → length (unless_zero x ys) ≤ length ys + 1
    length-unless_zero zero [] = omega arith
    length-unless_zero zero (y ∷ ys) = omega arith
    length-unless_zero (suc n) ys = omega arith

pub length-name_at : (bytes : List ℕ) (at : ℕ) → length (name_at bytes at) ≤ 16
length-name_at bytes at = omega (arith, length-trimmed (take 16 (drop at bytes)), length-take 16 (drop at bytes))

some_name : (name : List ℕ) → is_name name ≡ true → 1 ≤ length name
some_name [] h = cc
some_name (b ∷ bs) h = omega arith

pub free_name : (name : List ℕ) → length name ≤ 16 → is_free_name name ≡ true → IsFreeName name
free_name name short h =
    let p = and_parts (is_name name) (not (is_service_name name)) h in
    record { some = some_name name p.0; short = short; form = p.0; free = not-true (is_service_name name) p.1 }

-- where no name is bad, each is free and no two are one
names_well : (earlier names : List (List ℕ)) → AllByRecursion (λ n. length n ≤ 16) names → AreDistinct earlier → has_bad_name earlier names ≡ false
    → AllByRecursion IsFreeName names × AreDistinct (earlier ++ names)
names_well earlier [] short pairs h = (tt, subst AreDistinct (sym (append-nil earlier)) pairs)
names_well earlier (name ∷ names) short pairs h =
    let p = or_parts (is_bad_name earlier name) (has_bad_name (earlier ++ name ∷ []) names) h in
    let q = or_parts (not (is_free_name name)) (list_any (bytes_eq name) earlier) p.0 in
    let free = free_name name short.0 (not-false (is_free_name name) q.0) in
    let others = list_any_false (bytes_eq name) earlier q.1 in
    let more : AreDistinct (earlier ++ name ∷ []) =
    all_pairs_push (λ m n. m ≢ n) earlier name pairs (λ k d l e. not_from_Decides (bytes_eq name (get_or earlier k d)) (bytes_eq-Decides name (get_or earlier k d)) (others k d l) (sym e)) in
    let rest = names_well (earlier ++ name ∷ []) names short.1 more p.1 in
    ((free, rest.0), subst AreDistinct (append_assoc earlier (name ∷ []) names) rest.1)

all_short : (bytes : List ℕ) (n at : ℕ) → AllByRecursion (λ m. length m ≤ 16) (rows (name_at bytes) 36 n at)
all_short bytes zero at = tt
all_short bytes (suc n) at = (length-name_at bytes at, all_short bytes n (at + 36))

no_pair : AreDistinct []
no_pair i j d a b = absurd (omega arith)

names_read : (bytes : List ℕ) (h : Header) → has_fault bytes h ≡ false → AllByRecursion IsFreeName (names_at bytes h) × AreDistinct (names_at bytes h)
names_read bytes h e =
    let p = or_parts (has_bad_name [] (names_at bytes h)) _ e in
    names_well [] (names_at bytes h) (all_short bytes (h.tasks + h.objects) (tasks_place h)) no_pair p.0

pub names_free : (bytes : List ℕ) (h : Header) → has_fault bytes h ≡ false → All IsFreeName (names_at bytes h)
names_free bytes h e = All-from_recursion IsFreeName (names_at bytes h) (names_read bytes h e).0

-- the names of the records are those that stand in their rows
pub names_of-raw_at : (bytes : List ℕ) (h : Header) → names_of (raw_at bytes h).tasks (raw_at bytes h).objects ≡ names_at bytes h
names_of-raw_at bytes h =
    let a = map-rows (λ t. t.name) (task_at bytes) 36 h.tasks (tasks_place h) in
    let b = map-rows (λ o. o.name) (object_at bytes) 36 h.objects (objects_place h) in
    ap (λ l. l ++ map (λ o. o.name) (rows (object_at bytes) 36 h.objects (objects_place h))) a ∙ ap (λ l. rows (name_at bytes) 36 h.tasks (tasks_place h) ++ l) b
    ∙ sym (rows-add (name_at bytes) 36 h.tasks h.objects (tasks_place h))

-- words that are all 0
zeros : (ws : List ℕ) → list_all (λ w. w == 0) ws ≡ true → ws ≡ replicate (length ws) 0
zeros [] h = refl
zeros (w ∷ ws) h =
    let p = and_parts (w == 0) (list_all (λ v. v == 0) ws) h in
    ap (λ v. v ∷ ws) (eqb-true w 0 p.0) ∙ ap (λ l. 0 ∷ l) (zeros ws p.1)

unused_zero : (kind : Kind) (a b c d : ℕ) → list_all (λ w. w == 0) (drop (fields_used kind) (a ∷ b ∷ c ∷ d ∷ [])) ≡ true
    → drop (fields_used kind) (a ∷ b ∷ c ∷ d ∷ []) ≡ replicate (4 - fields_used kind) 0
unused_zero Sem a b c d h = zeros (b ∷ c ∷ d ∷ []) h
unused_zero Queue a b c d h = zeros (b ∷ c ∷ d ∷ []) h
unused_zero Flags a b c d h = zeros (b ∷ c ∷ d ∷ []) h
unused_zero Mutex a b c d h = zeros (a ∷ b ∷ c ∷ d ∷ []) h
unused_zero OneShot a b c d h = refl
unused_zero Periodic a b c d h = refl

or_second : (a b : Bool) → (not a || b) ≡ true → a ≡ true → b ≡ true
or_second true b h e = h
or_second false b h e = cc

-- a record of a known kind has zeros in its unused fields
clear_object : (bytes : List ℕ) (at : ℕ) → is_clear bytes at ≡ true → is_kind (word_at bytes (at + 16)) ≡ true → HasZerosUnused (object_at bytes at)
clear_object bytes at clear known =
    unused_zero (kind_of (word_at bytes (at + 16))) (word_at bytes (at + 20)) (word_at bytes (at + 24)) (word_at bytes (at + 28)) (word_at bytes (at + 32))
    (or_second (is_kind (word_at bytes (at + 16))) _ clear known)

clear_objects : (bytes : List ℕ) (n at : ℕ) → list_all (is_clear bytes) (places 36 n at) ≡ true → list_all (λ p. is_kind (word_at bytes (p + 16))) (places 36 n at) ≡ true
    → AllByRecursion HasZerosUnused (rows (object_at bytes) 36 n at)
clear_objects bytes zero at clear known = tt
clear_objects bytes (suc n) at clear known =
    let a = and_parts (is_clear bytes at) (list_all (is_clear bytes) (places 36 n (at + 36))) clear in
    let b = and_parts (is_kind (word_at bytes (at + 16))) (list_all (λ p. is_kind (word_at bytes (p + 16))) (places 36 n (at + 36))) known in
    (clear_object bytes at a.0 b.0, clear_objects bytes n (at + 36) a.1 b.1)

-- what a layout has
pub record Laid (bytes : List ℕ) (h : Header) : Type 0 where
  pub header : 24 ≤ length bytes
  pub known : is_known h ≡ true
  pub zeros : has_zeros bytes ≡ true
  pub size : image_size h ≤ length bytes
  pub clear : list_all (is_clear bytes) (places 36 h.objects (objects_place h)) ≡ true

pub laid : (bytes : List ℕ) → is_layout bytes ≡ true → Laid bytes (header_of bytes)
laid bytes e =
    let h = header_of bytes in
    let last = list_all (is_clear bytes) (places 36 h.objects (objects_place h)) in
    let a = and_parts (nat_le 24 (length bytes)) (is_known h && (has_zeros bytes && (nat_le (image_size h) (length bytes) && last))) e in
    let b = and_parts (is_known h) (has_zeros bytes && (nat_le (image_size h) (length bytes) && last)) a.1 in
    let c = and_parts (has_zeros bytes) (nat_le (image_size h) (length bytes) && last) b.1 in
    let d = and_parts (nat_le (image_size h) (length bytes)) last c.1 in
    record { header = leb-true 24 (length bytes) a.0; known = b.0; zeros = c.0; size = leb-true (image_size h) (length bytes) d.0; clear = d.1 }

-- the raw image that a layout without a fault holds is one that its makers see to
pub IsMade-raw_at : (bytes : List ℕ) → is_layout bytes ≡ true → has_fault bytes (header_of bytes) ≡ false → IsMade (raw_at bytes (header_of bytes))
IsMade-raw_at bytes layout none =
    let h = header_of bytes in
    let l = laid bytes layout in
    let a = and_parts ((h.version == 1) || (h.version == 2)) _ l.known in
    let b = and_parts (nat_le h.code 16384) _ a.1 in
    let c = and_parts (nat_le h.ram 65536) _ b.1 in
    let d = and_parts (nat_le h.tasks 60) _ c.1 in
    let e = and_parts (nat_le h.objects 64) (nat_le h.vectors 32) d.1 in
    let f = or_parts (has_bad_name [] (names_at bytes h)) _ none in
    let kinds = not-false (list_all (λ p. is_kind (word_at bytes (p + 16))) (places 36 h.objects (objects_place h))) f.1 in
    record {
      tasks = rw (length-rows (task_at bytes) 36 h.tasks (tasks_place h)) (leb-true h.tasks 60 d.0);
      objects = rw (length-rows (object_at bytes) 36 h.objects (objects_place h)) (leb-true h.objects 64 e.0);
      vectors = rw (length-rows (vector_at bytes) 16 h.vectors _) (leb-true h.vectors 32 e.1);
      code = rw (length-rows (word_at bytes) 4 h.code _) (leb-true h.code 16384 b.0);
      ram = rw (length-rows (word_at bytes) 4 h.ram _) (leb-true h.ram 65536 c.0);
      names = subst (All IsFreeName) (sym (names_of-raw_at bytes h)) (names_free bytes h none);
      distinct = subst AreDistinct (sym (names_of-raw_at bytes h)) (names_read bytes h none).1;
      unused = All-from_recursion HasZerosUnused (rows (object_at bytes) 36 h.objects (objects_place h)) (clear_objects bytes h.objects (objects_place h) l.clear kinds);
    }
