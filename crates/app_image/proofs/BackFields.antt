-- The fields of what was written are read back.
use Rattle.std.proofs.Common.{◌≡◌, ◌≢◌, ℕ, zero, suc, ◌+◌, ◌-◌, ◌*◌, ◌^◌, ◌<◌, ◌≤◌, ◌==◌, List, [], ◌∷◌, ◌++◌, length, take, drop, map, get_or, replicate, Bool, true, not, refl, sym, ap, subst, ◌∙◌, arith, append_assoc, append-nil, length-append, lit<}
use Rattle.std.specs.List.{list_all, flat_map, AllByRecursion}
use Rattle.std.proofs.lemmas.Bool.{and_parts, or_right, false≢true}
use Rattle.std.proofs.Math.Seq.{drop-append_seam, take-append_seam}
use Rattle.byteorder.specs.Endian.{little_number}
use Rattle.byteorder.specs.Numbers.{little_number-reads_back}
use Rattle.text_lex.specs.Bytes.{is_name, is_letter, is_name_byte}
use Rattle.kern_base.specs.declared.kinds.Kind.{Kind}
use Rattle.kern_base.specs.declared.kinds.Kind.TheVariants.{Sem, Queue, Flags, Mutex, OneShot, Periodic}
use Rattle.kern_base.specs.Checks.{kind_number}
use Rattle.app_image.specs.Fields.{word_at, rows}
use Rattle.app_image.specs.Padding.{name_bytes}
use Rattle.app_image.specs.Layout.{word_bytes, words_bytes, task_bytes, object_bytes, vector_bytes, IsWord}
use Rattle.app_image.specs.Names.{IsFreeName}
use Rattle.app_image.specs.Raw.{fields_used, HasZerosUnused}
use Rattle.app_image.specs.Reading.{unless_zero, trimmed, name_at, kind_of, is_kind, fields_at, task_at, object_at, vector_at, is_clear}
use Rattle.app_image.specs.RoundTrip.{unlined_task, unlined_object, unlined_vector}
use Rattle.app_image.specs.declared.records.TaskDef.{TaskDef}
use Rattle.app_image.specs.declared.records.ObjDef.{ObjDef}
use Rattle.app_image.specs.declared.records.VectorDef.{VectorDef}
use Rattle.app_image.proofs.TrimLaws.{trimmed_zero}

pub word_back : (front : List ℕ) (n : ℕ) (rest : List ℕ) → n < 2 ^ 32 → word_at (front ++ (word_bytes n ++ rest)) (length front) ≡ n
unfolding word_at
word_back front n rest h =
    ap (little_number 4) (drop-append_seam front (word_bytes n ++ rest)) ∙ little_number-reads_back 4 n rest h

pub words_back : (front ws rest : List ℕ) (k : ℕ) → AllByRecursion IsWord ws → k < length ws
    → word_at (front ++ (words_bytes ws ++ rest)) (length front + 4 * k) ≡ get_or ws k 0
words_back front [] rest k h l = absurd (omega arith)
words_back front (w ∷ ws) rest zero h l =
    let e : length front + 4 * 0 ≡ length front = omega arith in
    let a = ap (λ b. front ++ b) (append_assoc (word_bytes w) (words_bytes ws) rest) in
    ap (λ b. word_at b (length front + 4 * 0)) a ∙ ap (word_at (front ++ (word_bytes w ++ (words_bytes ws ++ rest)))) e ∙ word_back front w (words_bytes ws ++ rest) h.0
words_back front (w ∷ ws) rest (suc k) h l =
    let a = ap (λ b. front ++ b) (append_assoc (word_bytes w) (words_bytes ws) rest) ∙ sym (append_assoc front (word_bytes w) (words_bytes ws ++ rest)) in
    let e : length front + 4 * suc k ≡ length (front ++ word_bytes w) + 4 * k = omega (arith, length-append front (word_bytes w)) in
    ap (λ b. word_at b (length front + 4 * suc k)) a ∙ ap (word_at ((front ++ word_bytes w) ++ (words_bytes ws ++ rest))) e
    ∙ words_back (front ++ word_bytes w) ws rest k h.1 (omega arith)

length_copies : (n x : ℕ) → length (replicate n x) ≡ n
length_copies zero x = refl
length_copies (suc n) x = ap suc (length_copies n x)

pub length-name_bytes : (name : List ℕ) → length name ≤ 16 → length (name_bytes name) ≡ 16
length-name_bytes name h =
    omega (arith, length-append name (replicate (16 - length name) 0), length_copies (16 - length name) 0)

trimmed_zeros : (name : List ℕ) (n : ℕ) → trimmed (name ++ replicate n 0) ≡ trimmed name
trimmed_zeros name zero = ap trimmed (append-nil name)
trimmed_zeros name (suc n) =
    ap trimmed (sym (append_assoc name (0 ∷ []) (replicate n 0))) ∙ trimmed_zeros (name ++ 0 ∷ []) n ∙ trimmed_zero name

no_zero : (b : ℕ) → is_name_byte b ≡ true → b ≢ 0
no_zero b h e = false≢true (subst (λ k. is_name_byte k ≡ true) e h)

kept : (b : ℕ) (bs : List ℕ) → b ≢ 0 → unless_zero b bs ≡ b ∷ bs
kept zero bs h = absurd (h refl)
kept (suc n) bs h = refl

trimmed_bytes : (bs : List ℕ) → list_all is_name_byte bs ≡ true → trimmed bs ≡ bs
trimmed_bytes [] h = refl
trimmed_bytes (b ∷ bs) h =
    let p = and_parts (is_name_byte b) (list_all is_name_byte bs) h in
    ap (unless_zero b) (trimmed_bytes bs p.1) ∙ kept b bs (no_zero b p.0)

letter_no_zero : (b : ℕ) → is_letter b ≡ true → b ≢ 0
letter_no_zero b h e = false≢true (subst (λ k. is_letter k ≡ true) e h)

trimmed_name : (name : List ℕ) → is_name name ≡ true → trimmed name ≡ name
trimmed_name [] h = refl
trimmed_name (b ∷ bs) h =
    let p = and_parts (is_letter b) (list_all is_name_byte bs) h in
    ap (unless_zero b) (trimmed_bytes bs p.1) ∙ kept b bs (letter_no_zero b p.0)

pub name_back : (front name rest : List ℕ) → IsFreeName name → name_at (front ++ (name_bytes name ++ rest)) (length front) ≡ name
name_back front name rest h =
    let len = length-name_bytes name h.short in
    ap (λ l. trimmed (take 16 l)) (drop-append_seam front (name_bytes name ++ rest))
    ∙ ap (λ k. trimmed (take k (name_bytes name ++ rest))) (sym len) ∙ ap trimmed (take-append_seam (name_bytes name) rest)
    ∙ trimmed_zeros name (16 - length name) ∙ trimmed_name name h.form

-- a name and words behind it
name_first : (front name ws rest : List ℕ) → IsFreeName name → name_at (front ++ ((name_bytes name ++ words_bytes ws) ++ rest)) (length front) ≡ name
name_first front name ws rest h =
    ap (λ b. name_at (front ++ b) (length front)) (append_assoc (name_bytes name) (words_bytes ws) rest) ∙ name_back front name (words_bytes ws ++ rest) h

word_behind : (front name ws rest : List ℕ) (k : ℕ) → length name ≤ 16 → AllByRecursion IsWord ws → k < length ws
    → word_at (front ++ ((name_bytes name ++ words_bytes ws) ++ rest)) (length front + (16 + 4 * k)) ≡ get_or ws k 0
word_behind front name ws rest k short h l =
    let a = ap (λ b. front ++ b) (append_assoc (name_bytes name) (words_bytes ws) rest) ∙ sym (append_assoc front (name_bytes name) (words_bytes ws ++ rest)) in
    let e : length front + (16 + 4 * k) ≡ length (front ++ name_bytes name) + 4 * k = omega (arith, length-append front (name_bytes name), length-name_bytes name short) in
    ap (λ b. word_at b (length front + (16 + 4 * k))) a ∙ ap (word_at ((front ++ name_bytes name) ++ (words_bytes ws ++ rest))) e
    ∙ words_back (front ++ name_bytes name) ws rest k h l

-- a task whose bytes can be read back
pub record StoredTask (t : TaskDef) : Type 0 where
  pub name : IsFreeName t.name
  pub words : AllByRecursion IsWord (t.entry ∷ t.sp ∷ t.prio ∷ t.quanta ∷ t.qsize ∷ [])

same_task : (m n : List ℕ) (a b c d e a' b' c' d' e' : ℕ) → m ≡ n → a ≡ a' → b ≡ b' → c ≡ c' → d ≡ d' → e ≡ e'
    → (let x : TaskDef = record { name = m; entry = a; sp = b; prio = c; quanta = d; qsize = e; line = 0 } in let y : TaskDef = record { name = n; entry = a'; sp = b'; prio = c'; quanta = d'; qsize = e'; line = 0 } in x ≡ y)
same_task m n a b c d e a' b' c' d' e' p q r s t u = rw (p, q, r, s, t, u) refl

pub task_back : (front : List ℕ) (t : TaskDef) (rest : List ℕ) → StoredTask t → task_at (front ++ (task_bytes t ++ rest)) (length front) ≡ unlined_task t
task_back front t rest h =
    let ws = t.entry ∷ t.sp ∷ t.prio ∷ t.quanta ∷ t.qsize ∷ [] in
    same_task _ t.name _ _ _ _ _ t.entry t.sp t.prio t.quanta t.qsize (name_first front t.name ws rest h.name)
    (word_behind front t.name ws rest 0 h.name.short h.words (lit< tt)) (word_behind front t.name ws rest 1 h.name.short h.words (lit< tt))
    (word_behind front t.name ws rest 2 h.name.short h.words (lit< tt)) (word_behind front t.name ws rest 3 h.name.short h.words (lit< tt))
    (word_behind front t.name ws rest 4 h.name.short h.words (lit< tt))

-- an object whose bytes can be read back
pub record StoredObject (o : ObjDef) : Type 0 where
  pub name : IsFreeName o.name
  pub four : length o.f ≡ 4
  pub words : AllByRecursion IsWord o.f
  pub unused : HasZerosUnused o

four_list : (f : List ℕ) → length f ≡ 4 → (get_or f 0 0 ∷ get_or f 1 0 ∷ get_or f 2 0 ∷ get_or f 3 0 ∷ []) ≡ f
four_list [] h = absurd (omega arith)
four_list (a ∷ []) h = absurd (omega arith)
four_list (a ∷ b ∷ []) h = absurd (omega arith)
four_list (a ∷ b ∷ c ∷ []) h = absurd (omega arith)
four_list (a ∷ b ∷ c ∷ d ∷ []) h = refl
four_list (a ∷ b ∷ c ∷ d ∷ e ∷ f) h = absurd (omega arith)

pub kind_back : (kind : Kind) → kind_of (kind_number kind) ≡ kind
kind_back Sem = refl
kind_back Queue = refl
kind_back Flags = refl
kind_back Mutex = refl
kind_back OneShot = refl
kind_back Periodic = refl

kind_known : (kind : Kind) → is_kind (kind_number kind) ≡ true
kind_known Sem = refl
kind_known Queue = refl
kind_known Flags = refl
kind_known Mutex = refl
kind_known OneShot = refl
kind_known Periodic = refl

kind_word : (kind : Kind) → kind_number kind < 2 ^ 32
kind_word Sem = lit< tt
kind_word Queue = lit< tt
kind_word Flags = lit< tt
kind_word Mutex = lit< tt
kind_word OneShot = lit< tt
kind_word Periodic = lit< tt

same_fields : (a b c d a' b' c' d' : ℕ) → a ≡ a' → b ≡ b' → c ≡ c' → d ≡ d' → (a ∷ b ∷ c ∷ d ∷ []) ≡ (a' ∷ b' ∷ c' ∷ d' ∷ [])
same_fields a b c d a' b' c' d' p q r s = rw (p, q, r, s) refl

kind_first : (front : List ℕ) (o : ObjDef) (rest : List ℕ) → StoredObject o → word_at (front ++ (object_bytes o ++ rest)) (length front + 16) ≡ kind_number o.kind
kind_first front o rest h =
    word_behind front o.name (kind_number o.kind ∷ o.f) rest 0 h.name.short (kind_word o.kind, h.words) (omega arith)

fields_behind : (front : List ℕ) (o : ObjDef) (rest : List ℕ) → StoredObject o → fields_at (front ++ (object_bytes o ++ rest)) (length front) ≡ o.f
fields_behind front o rest h =
    let ws = kind_number o.kind ∷ o.f in
    let w : AllByRecursion IsWord ws = (kind_word o.kind, h.words) in
    let n : length ws ≡ 5 = ap suc h.four in
    same_fields _ _ _ _ (get_or o.f 0 0) (get_or o.f 1 0) (get_or o.f 2 0) (get_or o.f 3 0)
    (word_behind front o.name ws rest 1 h.name.short w (omega (arith, n))) (word_behind front o.name ws rest 2 h.name.short w (omega (arith, n)))
    (word_behind front o.name ws rest 3 h.name.short w (omega (arith, n))) (word_behind front o.name ws rest 4 h.name.short w (omega (arith, n)))
    ∙ four_list o.f h.four

same_object : (m n : List ℕ) (k l : Kind) (f g : List ℕ) → m ≡ n → k ≡ l → f ≡ g
    → (let x : ObjDef = record { name = m; kind = k; f = f; line = 0 } in let y : ObjDef = record { name = n; kind = l; f = g; line = 0 } in x ≡ y)
same_object m n k l f g p q r = rw (p, q, r) refl

pub object_back : (front : List ℕ) (o : ObjDef) (rest : List ℕ) → StoredObject o → object_at (front ++ (object_bytes o ++ rest)) (length front) ≡ unlined_object o
object_back front o rest h =
    same_object _ o.name _ o.kind _ o.f (name_first front o.name (kind_number o.kind ∷ o.f) rest h.name)
    (ap kind_of (kind_first front o rest h) ∙ kind_back o.kind) (fields_behind front o rest h)

pub known_back : (front : List ℕ) (o : ObjDef) (rest : List ℕ) → StoredObject o → is_kind (word_at (front ++ (object_bytes o ++ rest)) (length front + 16)) ≡ true
known_back front o rest h = ap is_kind (kind_first front o rest h) ∙ kind_known o.kind

all_zero : (n : ℕ) → list_all (λ w. w == 0) (replicate n 0) ≡ true
all_zero zero = refl
all_zero (suc n) = all_zero n

pub clear_back : (front : List ℕ) (o : ObjDef) (rest : List ℕ) → StoredObject o → is_clear (front ++ (object_bytes o ++ rest)) (length front) ≡ true
clear_back front o rest h =
    let bytes = front ++ (object_bytes o ++ rest) in
    let at = length front in
    let z : ℕ → Bool = λ w. w == 0 in
    let kind : kind_of (word_at bytes (at + 16)) ≡ o.kind = ap kind_of (kind_first front o rest h) ∙ kind_back o.kind in
    or_right (not (is_kind (word_at bytes (at + 16)))) (list_all z (drop (fields_used (kind_of (word_at bytes (at + 16)))) (fields_at bytes at)))
    (ap (λ k. list_all z (drop (fields_used k) (fields_at bytes at))) kind ∙ ap (λ f. list_all z (drop (fields_used o.kind) f)) (fields_behind front o rest h)
    ∙ ap (list_all z) h.unused ∙ all_zero (4 - fields_used o.kind))

-- a vector whose bytes can be read back
pub record StoredVector (v : VectorDef) : Type 0 where
  pub words : AllByRecursion IsWord (v.number ∷ v.level ∷ v.entry ∷ v.sp ∷ [])

same_vector : (a b c d a' b' c' d' : ℕ) → a ≡ a' → b ≡ b' → c ≡ c' → d ≡ d'
    → (let x : VectorDef = record { number = a; level = b; entry = c; sp = d; line = 0 } in let y : VectorDef = record { number = a'; level = b'; entry = c'; sp = d'; line = 0 } in x ≡ y)
same_vector a b c d a' b' c' d' p q r s = rw (p, q, r, s) refl

pub vector_back : (front : List ℕ) (v : VectorDef) (rest : List ℕ) → StoredVector v → vector_at (front ++ (vector_bytes v ++ rest)) (length front) ≡ unlined_vector v
vector_back front v rest h =
    let ws = v.number ∷ v.level ∷ v.entry ∷ v.sp ∷ [] in
    let e : length front ≡ length front + 4 * 0 = omega arith in
    same_vector _ _ _ _ v.number v.level v.entry v.sp
    (ap (word_at (front ++ (vector_bytes v ++ rest))) e ∙ words_back front ws rest 0 h.words (lit< tt))
    (words_back front ws rest 1 h.words (lit< tt)) (words_back front ws rest 2 h.words (lit< tt)) (words_back front ws rest 3 h.words (lit< tt))

-- what is printed for each of a list, one behind the other, is read back in rows
pub rows_printed : {T U : Type 0} (f : List ℕ → ℕ → U) (bytes : T → List ℕ) (view : T → U) (size : ℕ) (Good : T → Type 0)
    → ((front : List ℕ) (t : T) (rest : List ℕ) → Good t → f (front ++ (bytes t ++ rest)) (length front) ≡ view t) → ((t : T) → Good t → length (bytes t) ≡ size)
    → (front : List ℕ) (ts : List T) (rest : List ℕ) → AllByRecursion Good ts → rows (f (front ++ (flat_map bytes ts ++ rest))) size (length ts) (length front) ≡ map view ts
rows_printed f bytes view size Good each len front [] rest h = refl
rows_printed {T = T} {U = U} f bytes view size Good each len front (t ∷ ts) rest h =
    let tail = flat_map bytes ts ++ rest in
    let a = ap (λ b. front ++ b) (append_assoc (bytes t) (flat_map bytes ts) rest) in
    let b = a ∙ sym (append_assoc front (bytes t) tail) in
    let n : length front + size ≡ length (front ++ bytes t) = omega (arith, length-append front (bytes t), len t h.0) in
    let head = ap (λ l. f l (length front)) a ∙ each front t tail h.0 in
    let more = ap (λ l. rows (f l) size (length ts) (length front + size)) b ∙ ap (rows (f ((front ++ bytes t) ++ tail)) size (length ts)) n
    ∙ rows_printed f bytes view size Good each len (front ++ bytes t) ts rest h.1 in
    let whole = front ++ (flat_map bytes (t ∷ ts) ++ rest) in
    ap (λ x. x ∷ rows (f whole) size (length ts) (length front + size)) head ∙ ap (λ l. view t ∷ l) more
