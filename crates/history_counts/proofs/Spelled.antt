-- The words of a history have no line feed.
use Rattle.std.proofs.Common.{◌≡◌, ℕ, zero, suc, ◌+◌, ◌/◌, ◌%◌, ◌<◌, List, [], ◌∷◌, ◌++◌, map, Bool, true, false, cond, codes, decimal, Option, arith, refl, ap, subst, ◌∙◌}
use Rattle.std.specs.Prelude.{◌==◌, Some, None, nat_lt, slice_get}
use Rattle.std.specs.List.{AllByRecursion}
use Rattle.std.specs.Fmt.{digit_glyph, digits, digits_onto}
use Rattle.std.specs.List.{list_all}
use Rattle.std.proofs.lemmas.Bool.{and_parts, and_from}
use Rattle.std.proofs.lemmas.Bool.Decides.{nat_tests}
use Rattle.std.proofs.lemmas.List.Folds.{list_all-append}
use Rattle.text_lex.specs.Bytes.{is_digit, is_letter, is_name, is_name_byte, is_not_line_feed}
use Rattle.kern_base.specs.declared.services.Service.{Service}
use Rattle.kern_base.specs.declared.services.Service.TheVariants.{QPend, TaskQPend, Unknown}
use Rattle.kern_base.specs.declared.errors.OsErr.{OsErr}
use Rattle.kern_base.specs.declared.errors.OsErr.TheVariants.{NoError}
use Rattle.kern_base.specs.Errors.{error_name}
use Rattle.rv32_exec.specs.declared.TrapKind.{TrapKind}
use Rattle.rv32_exec.specs.declared.TrapKind.TheVariants.{Illegal}
use Rattle.app_image.specs.Names.{IsFreeName}
use Rattle.app_image.specs.declared.records.TaskDef.{TaskDef}
use Rattle.app_image.specs.declared.records.ObjDef.{ObjDef}
use Rattle.machine_model.specs.Words.{internal_name, declared_name, declared_object_name, service_word, trap_word, entry_word, size_words, table_words}

-- a word without a line feed
abbrev pub IsOneLine : List ℕ → Type 0
IsOneLine word = list_all is_not_line_feed word ≡ true

-- words without one
abbrev pub AreOneLine : List (List ℕ) → Type 0
AreOneLine [] = Unit {0}
AreOneLine (word ∷ words) = IsOneLine word × AreOneLine words

pub one-append : (xs ys : List ℕ) → IsOneLine xs → IsOneLine ys → IsOneLine (xs ++ ys)
one-append xs ys h k = list_all-append is_not_line_feed xs ys ∙ and_from (list_all is_not_line_feed xs) (list_all is_not_line_feed ys) h k

pub all-append : (xs ys : List (List ℕ)) → AreOneLine xs → AreOneLine ys → AreOneLine (xs ++ ys)
all-append [] ys h k = k
all-append (x ∷ xs) ys h k = (h.0, all-append xs ys h.1 k)

-- of two words, whichever
either : (test : ℕ → Bool) (t : Bool) (xs ys : List ℕ) → list_all test xs ≡ true → list_all test ys ≡ true → list_all test (cond t xs ys) ≡ true
either test true xs ys h k = h
either test false xs ys h k = k

-- what passes a test passes each that follows from it
weaker : (p q : ℕ → Bool) → ((b : ℕ) → p b ≡ true → q b ≡ true) → (bytes : List ℕ) → list_all p bytes ≡ true → list_all q bytes ≡ true
weaker p q h [] k = refl
weaker p q h (b ∷ bytes) k =
    let parts = and_parts (p b) (list_all p bytes) k in
    and_from (q b) (list_all q bytes) (h b parts.0) (weaker p q h bytes parts.1)

-- Numbers.

digit_spelled : (d : ℕ) → d < 10 → is_digit (48 + d) ≡ true
digit_spelled d lt = grind (arith, nat_tests)

glyph_by : (d : ℕ) (t : Bool) → nat_lt d 10 ≡ t → d < 10 → cond t (48 + d) (87 + d) ≡ 48 + d
glyph_by d true e lt = refl
glyph_by d false e lt = absurd (grind (arith, nat_tests))

glyph_digit : (n : ℕ) → is_digit (digit_glyph false (n % 10)) ≡ true
glyph_digit n =
    let lt : n % 10 < 10 = omega arith in
    let glyph : digit_glyph false (n % 10) ≡ 48 + n % 10 = glyph_by (n % 10) (nat_lt (n % 10) 10) refl lt in
    ap is_digit glyph ∙ digit_spelled (n % 10) lt

digits_spelled : (k n : ℕ) (acc : List ℕ) → list_all is_digit acc ≡ true → list_all is_digit (digits_onto k 10 false n acc) ≡ true
digits_spelled zero n acc h = h
digits_spelled (suc k) n acc h =
    let more : list_all is_digit (digit_glyph false (n % 10) ∷ acc) ≡ true = and_from (is_digit (digit_glyph false (n % 10))) (list_all is_digit acc) (glyph_digit n) h in
    either is_digit (n / 10 == 0) (digit_glyph false (n % 10) ∷ acc) (digits_onto k 10 false (n / 10) (digit_glyph false (n % 10) ∷ acc)) more
    (digits_spelled k (n / 10) (digit_glyph false (n % 10) ∷ acc) more)

decimal_onto : (n : ℕ) → digits_onto 64 10 false n [] ≡ decimal n
unfolding digits
decimal_onto n = refl

pub decimal_digits : (n : ℕ) → list_all is_digit (decimal n) ≡ true
decimal_digits n = subst (λ bytes. list_all is_digit bytes ≡ true) (decimal_onto n) (digits_spelled 64 n [] refl)

digit_feeds_not : (b : ℕ) → is_digit b ≡ true → is_not_line_feed b ≡ true
digit_feeds_not b h = grind (arith, nat_tests)

pub decimal_one : (n : ℕ) → IsOneLine (decimal n)
decimal_one n = weaker is_digit is_not_line_feed digit_feeds_not (decimal n) (decimal_digits n)

pub decimals_one : (ns : List ℕ) → AreOneLine (map decimal ns)
decimals_one [] = tt
decimals_one (n ∷ ns) = (decimal_one n, decimals_one ns)

-- Names.

name_feeds_not : (b : ℕ) → is_name_byte b ≡ true → is_not_line_feed b ≡ true
name_feeds_not b h = grind (arith, nat_tests)

letter_feeds_not : (b : ℕ) → is_letter b ≡ true → is_not_line_feed b ≡ true
letter_feeds_not b h = grind (arith, nat_tests)

name_one : (name : List ℕ) → is_name name ≡ true → IsOneLine name
name_one [] h = refl
name_one (b ∷ bytes) h =
    let parts = and_parts (is_letter b) (list_all is_name_byte bytes) h in
    and_from (is_not_line_feed b) (list_all is_not_line_feed bytes) (letter_feeds_not b parts.0) (weaker is_name_byte is_not_line_feed name_feeds_not bytes parts.1)

internal_one : (x : ℕ) → IsOneLine (internal_name x)
internal_one x =
    either is_not_line_feed (x == 60) (codes "tick") (cond (x == 61) (codes "tmr") (codes "idle")) refl
    (either is_not_line_feed (x == 61) (codes "tmr") (codes "idle") refl refl)

pub task_one : (y x : ℕ) (tasks : List TaskDef) (more : List (List ℕ)) → AllByRecursion IsFreeName (map (λ (t : TaskDef). t.name) tasks ++ more) → IsOneLine (declared_name y (slice_get tasks x))
task_one y x [] more h = internal_one y
task_one y zero (t ∷ tasks) more h = name_one t.name (of h.0)
  where
    of : IsFreeName t.name → is_name t.name ≡ true
    of f = search f.form
task_one y (suc x) (t ∷ tasks) more h = task_one y x tasks more h.1

pub object_one : (x : ℕ) (objects : List ObjDef) → AllByRecursion IsFreeName (map (λ (o : ObjDef). o.name) objects) → IsOneLine (declared_object_name (slice_get objects x))
object_one x [] h = refl
object_one zero (o ∷ objects) h = name_one o.name (of h.0)
  where
    of : IsFreeName o.name → is_name o.name ≡ true
    of f = search f.form
object_one (suc x) (o ∷ objects) h = object_one x objects h.1

pub names_behind : (xs ys : List (List ℕ)) → AllByRecursion IsFreeName (xs ++ ys) → AllByRecursion IsFreeName ys
names_behind [] ys h = h
names_behind (x ∷ xs) ys h = names_behind xs ys h.1

-- Words from tables.

pub service_one : (service : Service) → IsOneLine (service_word service)
service_one (Unknown number) = decimal_one number
service_one service = refl

pub error_one : (err : OsErr) → IsOneLine (error_name err)
error_one NoError = refl
error_one err = refl

pub trap_one : (kind : TrapKind) → IsOneLine (trap_word kind)
trap_one Illegal = refl
trap_one kind = refl

pub size_one : (service : Service) (size : ℕ) → AreOneLine (size_words service size)
size_one QPend size = (decimal_one size, tt)
size_one TaskQPend size = (decimal_one size, tt)
size_one service size = tt

entry_one : (entry : Option (ℕ × ℕ)) → IsOneLine (entry_word entry)
entry_one None = refl
entry_one (Some taken) =
    one-append (codes "1:") (decimal taken.0 ++ (codes ":" ++ decimal taken.1)) refl
    (one-append (decimal taken.0) (codes ":" ++ decimal taken.1) (decimal_one taken.0) (one-append (codes ":") (decimal taken.1) refl (decimal_one taken.1)))

entries_one : (entries : List (Option (ℕ × ℕ))) → AreOneLine (map entry_word entries)
entries_one [] = tt
entries_one (entry ∷ entries) = (entry_one entry, entries_one entries)

pub table_one : (tab : List (Option (ℕ × ℕ))) → AreOneLine (table_words tab)
table_one [] = tt
table_one (entry ∷ entries) = (refl, entries_one (entry ∷ entries))
