-- A line of a history, as the reader reads it.
use Rattle.std.proofs.Common.{◌≡◌, ℕ, ◌+◌, List, [], ◌∷◌, ◌++◌, Bool, true, false, cond, decimal, arith, refl, ap, ◌∙◌}
use Rattle.std.specs.Prelude.{◌==◌}
use Rattle.std.specs.List.{list_all}
use Rattle.std.proofs.lemmas.Bool.{and_parts}
use Rattle.std.proofs.lemmas.Bool.Decides.{nat_tests}
use Rattle.text_lex.specs.Bytes.{is_digit, is_not_line_feed}
use Rattle.machine_model.specs.Text.{spaced, history_line}
use Rattle.history_counts.proofs.Reader.{seen, step, read, read-append}
use Rattle.history_counts.proofs.Reader.Place.{Number, First, Second, Rest}
use Rattle.history_counts.proofs.Spelled.{IsOneLine, AreOneLine, decimal_digits}

feeds_not : (b : ℕ) → is_not_line_feed b ≡ true → (b == 10) ≡ false
feeds_not b h = grind (arith, nat_tests)

-- before the first word

digit_no_feed : (b : ℕ) → is_digit b ≡ true → (b == 10) ≡ false
digit_no_feed b h = grind (arith, nat_tests)

digit_no_blank : (b : ℕ) → is_digit b ≡ true → (b == 32) ≡ false
digit_no_blank b h = grind (arith, nat_tests)

step_digit : (b c s o : ℕ) → is_digit b ≡ true → step b (seen Number c s o) ≡ seen Number c s o
step_digit b c s o h =
    ap (λ (t : Bool). cond t (seen Number c s o) (seen (cond (b == 32) First Number) c s o)) (digit_no_feed b h)
    ∙ ap (λ (t : Bool). seen (cond t First Number) c s o) (digit_no_blank b h)

read_digits : (bytes : List ℕ) (c s o : ℕ) → list_all is_digit bytes ≡ true → read bytes (seen Number c s o) ≡ seen Number c s o
read_digits [] c s o h = refl
read_digits (b ∷ bytes) c s o h =
    let parts = and_parts (is_digit b) (list_all is_digit bytes) h in
    ap (read bytes) (step_digit b c s o parts.0) ∙ read_digits bytes c s o parts.1

-- behind the second byte of that word

step_rest : (b c s o : ℕ) → is_not_line_feed b ≡ true → step b (seen Rest c s o) ≡ seen Rest c s o
step_rest b c s o h = ap (λ (t : Bool). cond t (seen Number c s o) (seen Rest c s o)) (feeds_not b h)

read_word : (bytes : List ℕ) (c s o : ℕ) → IsOneLine bytes → read bytes (seen Rest c s o) ≡ seen Rest c s o
read_word [] c s o h = refl
read_word (b ∷ bytes) c s o h =
    let parts = and_parts (is_not_line_feed b) (list_all is_not_line_feed bytes) h in
    ap (read bytes) (step_rest b c s o parts.0) ∙ read_word bytes c s o parts.1

read_words : (words : List (List ℕ)) (c s o : ℕ) → AreOneLine words → read (spaced words) (seen Rest c s o) ≡ seen Rest c s o
read_words [] c s o h = refl
read_words (word ∷ words) c s o h =
    read-append word (spaced words) (seen Rest c s o) ∙ ap (read (spaced words)) (read_word word c s o h.0) ∙ read_words words c s o h.1

read_rest : (word : List ℕ) (words : List (List ℕ)) (c s o : ℕ) → IsOneLine word → AreOneLine words → read ((word ++ spaced words) ++ 10 ∷ []) (seen Rest c s o) ≡ seen Number c s o
read_rest word words c s o h k =
    read-append (word ++ spaced words) (10 ∷ []) (seen Rest c s o)
    ∙ ap (read (10 ∷ [])) (read-append word (spaced words) (seen Rest c s o) ∙ ap (read (spaced words)) (read_word word c s o h) ∙ read_words words c s o k)

-- a whole line

step_first : (b c s o : ℕ) → is_not_line_feed b ≡ true → step b (seen First c s o) ≡ seen Second (c + cond (b == 99) 1 0) s o
step_first b c s o h = ap (λ (t : Bool). cond t (seen Number c s o) (seen Second (c + cond (b == 99) 1 0) s o)) (feeds_not b h)

step_second : (b c s o : ℕ) → is_not_line_feed b ≡ true → step b (seen Second c s o) ≡ seen Rest c (s + cond (b == 119) 1 0) (o + cond (b == 119) 0 1)
step_second b c s o h = ap (λ (t : Bool). cond t (seen Number c s o) (seen Rest c (s + cond (b == 119) 1 0) (o + cond (b == 119) 0 1))) (feeds_not b h)

read_line : (t a b : ℕ) (word : List ℕ) (words : List (List ℕ)) (c s o : ℕ) → IsOneLine (a ∷ b ∷ word) → AreOneLine words
    → read (history_line t ((a ∷ b ∷ word) ∷ words)) (seen Number c s o) ≡ seen Number (c + cond (a == 99) 1 0) (s + cond (b == 119) 1 0) (o + cond (b == 119) 0 1)
read_line t a b word words c s o h k =
    let one = and_parts (is_not_line_feed a) (list_all is_not_line_feed (b ∷ word)) h in
    let two = and_parts (is_not_line_feed b) (list_all is_not_line_feed word) one.1 in
    let left : List ℕ = (word ++ spaced words) ++ 10 ∷ [] in
    read-append (decimal t) (32 ∷ a ∷ b ∷ left) (seen Number c s o)
    ∙ ap (read (32 ∷ a ∷ b ∷ left)) (read_digits (decimal t) c s o (decimal_digits t))
    ∙ ap (read (b ∷ left)) (step_first a c s o one.0)
    ∙ ap (read left) (step_second b (c + cond (a == 99) 1 0) s o two.0)
    ∙ read_rest word words (c + cond (a == 99) 1 0) (s + cond (b == 119) 1 0) (o + cond (b == 119) 0 1) two.1 k

-- a first word that begins with a `c`
abbrev pub calls_word : List ℕ → Bool
calls_word [] = false
calls_word (a ∷ word) = a == 99

-- a first word of a line of an event's own: two bytes or more, and no `w` as the second
abbrev pub own_word : List ℕ → Bool
own_word [] = false
own_word (a ∷ []) = false
own_word (a ∷ b ∷ word) = cond (b == 119) false true

passes_not : (t : Bool) → cond t false true ≡ true → t ≡ false
passes_not true h = absurd cc
passes_not false h = refl

-- a line of an event's own
pub read_own : (t : ℕ) (word : List ℕ) (words : List (List ℕ)) (c s o : ℕ) → own_word word ≡ true → IsOneLine word → AreOneLine words
    → read (history_line t (word ∷ words)) (seen Number c s o) ≡ seen Number (c + cond (calls_word word) 1 0) s (o + 1)
read_own t [] words c s o own h k = absurd cc
read_own t (a ∷ []) words c s o own h k = absurd cc
read_own t (a ∷ b ∷ word) words c s o own h k =
    let no : (b == 119) ≡ false = passes_not (b == 119) own in
    let stays : s + 0 ≡ s = omega arith in
    read_line t a b word words c s o h k
    ∙ ap (λ (u : Bool). seen Number (c + cond (a == 99) 1 0) (s + cond u 1 0) (o + cond u 0 1)) no
    ∙ ap (λ n. seen Number (c + cond (a == 99) 1 0) n (o + 1)) stays

-- the line of a switch
pub read_switch : (t : ℕ) (words : List (List ℕ)) (c s o : ℕ) → AreOneLine words
    → read (history_line t ((115 ∷ 119 ∷ []) ∷ words)) (seen Number c s o) ≡ seen Number c (s + 1) o
read_switch t words c s o k =
    let calls : c + 0 ≡ c = omega arith in
    let own : o + 0 ≡ o = omega arith in
    read_line t 115 119 [] words c s o refl k
    ∙ ap (λ n. seen Number n (s + 1) (o + 0)) calls
    ∙ ap (λ n. seen Number c (s + 1) n) own
