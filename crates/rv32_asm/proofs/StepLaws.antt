-- What the lines give in order is what the steps make, a line after the other.
use Rattle.std.proofs.Common.{◌≡◌, ℕ, zero, suc, ◌+◌, ◌<◌, List, [], ◌∷◌, ◌++◌, length, take, drop, map, Bool, true, false, arith, refl, sym, ap, ◌∙◌, append-nil}
use Rattle.std.specs.Prelude.{Option, Some, None, if◌then◌else◌}
use Rattle.std.specs.List.{filter_map, flat_map, range_with_len, sum_by}
use Rattle.std.proofs.lemmas.Grind.{flat_map-append}
use Rattle.std.proofs.lemmas.List.{drop_more, take_more, drop_all}
use Rattle.std.proofs.lemmas.List.Elements.{filter_map-append}
use Rattle.std.proofs.lemmas.List.Sums.{count_by_more_no, count_by_more_yes, sum_by-append}
use Rattle.std.proofs.lemmas.List.FromFn.{map-range_with_len_more}
use Rattle.text_lex.specs.declared.Token.{Token}
use Rattle.app_image.specs.Raw.{RawRecord}
use Rattle.app_image.specs.declared.records.TaskDef.{TaskDef}
use Rattle.app_image.specs.declared.records.ObjDef.{ObjDef}
use Rattle.app_image.specs.declared.records.VectorDef.{VectorDef}
use Rattle.app_image.specs.declared.settings.ConfigLine.{ConfigLine}
use Rattle.asm_lines.specs.Lines.{Reading, read}
use Rattle.rv32_asm.specs.Before.{no_line, line_at, is_task, is_object, is_vector, count_of, counts_before, section_of, last_of, section_before}
use Rattle.asm_places.specs.Names.{Names, defined_at_start, defines, first_of}
use Rattle.asm_places.specs.Operands.{no_place}
use Rattle.rv32_asm.specs.Instructions.{words}
use Rattle.asm_causes.specs.Refusal.{cause_of}
use Rattle.rv32_asm.specs.Assembly.{Gives}
use Rattle.rv32_asm.specs.Assembled.{numbers, all_names, is_in, bytes_at, bytes_to, place_before, all_places, tasks_given, objects_given, vectors_given, settings_given, words_given, image_of_first, refusal_at, unless_refused, lines_assembled, assembled}
use Rattle.asm_places.specs.NameSteps.{no_counts, counted, all_defined, names_of}
use Rattle.asm_causes.specs.PlaceSteps.{filled, turned, place_after, places_from, places_of}
use Rattle.rv32_asm.specs.Steps.{with_words, with_statement, empty_image, assembled_from, assembled_lines, assembled_by_steps}
use Rattle.rv32_asm.proofs.LineByLine.{assembled_from-free, assembled_from-refused}
use Rattle.asm_lines.specs.declared.mnemonics.Section.{Section}
use Rattle.asm_lines.specs.declared.mnemonics.Section.TheVariants.{Nowhere, Code, Ram}
use Rattle.asm_lines.specs.Language.{Statement, Sections, Task, Object, Vector, Setting, Line}
use Rattle.asm_places.specs.Counts.{Counts}
use Rattle.asm_places.specs.Place.{Place}
use Rattle.asm_causes.specs.declared.causes.AsmCause.{AsmCause}

-- one more number at the end
pub range_more : (n : ℕ) → range_with_len 0 (n + 1) ≡ range_with_len 0 n ++ n ∷ []
range_more n = sym (map_same (range_with_len 0 (n + 1))) ∙ (map-range_with_len_more (λ k. k) 0 n n (omega arith) ∙ ap (λ l. l ++ n ∷ []) (map_same (range_with_len 0 n)))
  where
    map_same : (xs : List ℕ) → map (λ k. k) xs ≡ xs
    map_same [] = refl
    map_same (x ∷ xs) = ap (λ l. x ∷ l) (map_same xs)

pub flat_more : {T : Type 0} (f : ℕ → List T) (n : ℕ) → flat_map f (range_with_len 0 (n + 1)) ≡ flat_map f (range_with_len 0 n) ++ f n
flat_more f n = ap (flat_map f) (range_more n) ∙ (flat_map-append f (range_with_len 0 n) (n ∷ []) ∙ ap (λ l. flat_map f (range_with_len 0 n) ++ l) (append-nil (f n)))

sum_more : (f : ℕ → ℕ) (n : ℕ) → sum_by f (range_with_len 0 (n + 1)) ≡ sum_by f (range_with_len 0 n) + f n
sum_more f n = ap (sum_by f) (range_more n) ∙ (sum_by-append f (range_with_len 0 n) (n ∷ []) ∙ ap (λ m. sum_by f (range_with_len 0 n) + m) (omega arith))

-- what stands before the line behind a line
count_more : (sort : Statement → Bool) (lines : List Line) (k : ℕ) (b : Bool) → k < length lines → sort (line_at lines k).statement ≡ b
    → count_of sort (take (k + 1) lines) ≡ (if b then count_of sort (take k lines) + 1 else count_of sort (take k lines))
count_more sort lines k true h e = count_by_more_yes (λ l. sort l.statement) lines k no_line h e
count_more sort lines k false h e = count_by_more_no (λ l. sort l.statement) lines k no_line h e

same_counts : (a b c d a' b' c' d' : ℕ) → a ≡ a' → b ≡ b' → c ≡ c' → d ≡ d' → (let x : Counts = record { lines = a; tasks = b; objects = c; vectors = d } in let y : Counts = record { lines = a'; tasks = b'; objects = c'; vectors = d' } in x ≡ y)
same_counts a b c d a' b' c' d' p q r s = rw (p, q, r, s) refl

counted_by : (s : Statement) (lines : ℕ) (tasks objects vectors : ℕ)
    → (let y : Counts = record { lines = lines + 1; tasks = if is_task s then tasks + 1 else tasks; objects = if is_object s then objects + 1 else objects; vectors = if is_vector s then vectors + 1 else vectors } in
    counted s (record { lines = lines; tasks = tasks; objects = objects; vectors = vectors }) ≡ y)
counted_by (Task n values) lines tasks objects vectors = refl
counted_by (Object n kind values) lines tasks objects vectors = refl
counted_by (Vector values) lines tasks objects vectors = refl
counted_by s lines tasks objects vectors = refl

pub counts_more : (lines : List Line) (k : ℕ) → k < length lines → counted (line_at lines k).statement (counts_before lines k) ≡ counts_before lines (k + 1)
counts_more lines k h =
    let s = (line_at lines k).statement in
    counted_by s k (count_of is_task (take k lines)) (count_of is_object (take k lines)) (count_of is_vector (take k lines))
    ∙ sym (same_counts (k + 1) (count_of is_task (take (k + 1) lines)) (count_of is_object (take (k + 1) lines)) (count_of is_vector (take (k + 1) lines)) (k + 1) _ _ _ refl
    (count_more is_task lines k (is_task s) h refl) (count_more is_object lines k (is_object s) h refl) (count_more is_vector lines k (is_vector s) h refl))

-- the section behind a line
last_push : (ss : List Section) (s : Section) → last_of (ss ++ s ∷ []) ≡ s
last_push [] s = refl
last_push (a ∷ []) s = refl
last_push (a ∷ b ∷ ss) s = last_push (b ∷ ss) s

abbrev turned_to : Option Section → Section → Section
turned_to None section = section
turned_to (Some s) section = s

section_by : (ss : List Section) (o : Option Section) → last_of (ss ++ filter_map (λ x. x) (o ∷ [])) ≡ turned_to o (last_of ss)
section_by ss None = ap last_of (append-nil ss)
section_by ss (Some s) = last_push ss s

section_more : (lines : List Line) (k : ℕ) → k < length lines → section_before lines (k + 1) ≡ turned_to (section_of (line_at lines k).statement) (section_before lines k)
section_more lines k h =
    let f : Line → Option Section = λ l. section_of l.statement in
    ap (λ l. last_of (filter_map f l)) (take_more lines k no_line h)
    ∙ (ap last_of (filter_map-append f (take k lines) (line_at lines k ∷ [])) ∙ (ap (λ l. last_of (filter_map f (take k lines) ++ l)) (one (section_of (line_at lines k).statement) refl) ∙ section_by (filter_map f (take k lines)) (section_of (line_at lines k).statement)))
  where
    one : (o : Option Section) → section_of (line_at lines k).statement ≡ o → filter_map (λ l. section_of l.statement) (line_at lines k ∷ []) ≡ filter_map (λ x. x) (section_of (line_at lines k).statement ∷ [])
    one None e = rw e refl
    one (Some s) e = rw e refl

same_place : (s s' : Section) (a b a' b' : ℕ) → s ≡ s' → a ≡ a' → b ≡ b' → (let x : Place = record { section = s; code = a; ram = b } in let y : Place = record { section = s'; code = a'; ram = b' } in x ≡ y)
same_place s s' a b a' b' p q r = rw (p, q, r) refl

-- the place behind bytes in a section
filled_by : (section : Section) (size code ram : ℕ)
    → (let y : Place = record { section = section; code = code + (if is_in Code section then size else 0); ram = ram + (if is_in Ram section then size else 0) } in
    filled section size (record { section = section; code = code; ram = ram }) ≡ y)
filled_by Nowhere size code ram = same_place Nowhere Nowhere code ram _ _ refl (omega arith) (omega arith)
filled_by Code size code ram = same_place Code Code (code + size) ram _ _ refl refl (omega arith)
filled_by Ram size code ram = same_place Ram Ram code (ram + size) _ _ refl (omega arith) refl

turned_by : (s : Statement) (section : Section) (code ram : ℕ) → (let y : Place = record { section = turned_to (section_of s) section; code = code; ram = ram } in turned s (record { section = section; code = code; ram = ram }) ≡ y)
turned_by (Sections to) section code ram = refl
turned_by s section code ram = refl

pub same_raw : (a a' : List TaskDef) (b b' : List ObjDef) (c c' : List VectorDef) (d d' : List ConfigLine) (e e' f f' : List ℕ) → a ≡ a' → b ≡ b' → c ≡ c' → d ≡ d' → e ≡ e' → f ≡ f'
    → (let x : RawRecord = record { tasks = a; objects = b; vectors = c; config = d; code = e; ram = f } in let y : RawRecord = record { tasks = a'; objects = b'; vectors = c'; config = d'; code = e'; ram = f' } in x ≡ y)
same_raw a a' b b' c c' d d' e e' f f' p q r s t u = rw (p, q, r, s, t, u) refl

pub none : {T : Type 0} (xs : List T) → xs ≡ xs ++ []
none xs = sym (append-nil xs)

-- no words to a section
no_words : (ws : List ℕ) (b : Bool) → ws ≡ ws ++ (if b then [] else [])
no_words ws true = none ws
no_words ws false = none ws

-- the words that a section gets
to_code : (section : Section) (ws : List ℕ) (raw : RawRecord) → (with_words section ws raw).code ≡ raw.code ++ (if is_in Code section then ws else [])
to_code Nowhere ws raw = none raw.code
to_code Code ws raw = refl
to_code Ram ws raw = none raw.code

to_ram : (section : Section) (ws : List ℕ) (raw : RawRecord) → (with_words section ws raw).ram ≡ raw.ram ++ (if is_in Ram section then ws else [])
to_ram Nowhere ws raw = none raw.ram
to_ram Code ws raw = none raw.ram
to_ram Ram ws raw = refl

words_only : (section : Section) (ws : List ℕ) (raw : RawRecord)
    → (let y : RawRecord = record { tasks = raw.tasks ++ []; objects = raw.objects ++ []; vectors = raw.vectors ++ []; config = raw.config ++ []; code = raw.code ++ (if is_in Code section then ws else []); ram = raw.ram ++ (if is_in Ram section then ws else []) } in
    with_words section ws raw ≡ y)
words_only Nowhere ws raw = same_raw _ _ _ _ _ _ _ _ _ _ _ _ (none raw.tasks) (none raw.objects) (none raw.vectors) (none raw.config) (none raw.code) (none raw.ram)
words_only Code ws raw = same_raw _ _ _ _ _ _ _ _ _ _ _ _ (none raw.tasks) (none raw.objects) (none raw.vectors) (none raw.config) refl (none raw.ram)
words_only Ram ws raw = same_raw _ _ _ _ _ _ _ _ _ _ _ _ (none raw.tasks) (none raw.objects) (none raw.vectors) (none raw.config) (none raw.code) refl

module _ (names : Names) (places : List Place) where
  -- what a statement adds to an image
  abbrev pub added : ℕ → Place → Statement → RawRecord → RawRecord
  added line p s raw = record {
    tasks = raw.tasks ++ tasks_given names places line s;
    objects = raw.objects ++ objects_given names places line s;
    vectors = raw.vectors ++ vectors_given names places line s;
    config = raw.config ++ settings_given names places line s;
    code = raw.code ++ words_given names places Code p s;
    ram = raw.ram ++ words_given names places Ram p s;
  }

  pub added_by : (line : ℕ) (p : Place) (s : Statement) (raw : RawRecord) → with_statement names places line p s raw ≡ added line p s raw
  added_by line p (Task n values) raw =
      same_raw _ _ _ _ _ _ _ _ _ _ _ _ refl (none raw.objects) (none raw.vectors) (none raw.config) (no_words raw.code (is_in Code p.section)) (no_words raw.ram (is_in Ram p.section))
  added_by line p (Object n kind values) raw =
      same_raw _ _ _ _ _ _ _ _ _ _ _ _ (none raw.tasks) refl (none raw.vectors) (none raw.config) (no_words raw.code (is_in Code p.section)) (no_words raw.ram (is_in Ram p.section))
  added_by line p (Vector values) raw =
      same_raw _ _ _ _ _ _ _ _ _ _ _ _ (none raw.tasks) (none raw.objects) refl (none raw.config) (no_words raw.code (is_in Code p.section)) (no_words raw.ram (is_in Ram p.section))
  added_by line p (Setting None v) raw =
      same_raw _ _ _ _ _ _ _ _ _ _ _ _ (none raw.tasks) (none raw.objects) (none raw.vectors) (none raw.config) (no_words raw.code (is_in Code p.section)) (no_words raw.ram (is_in Ram p.section))
  added_by line p (Setting (Some key) v) raw =
      same_raw _ _ _ _ _ _ _ _ _ _ _ _ (none raw.tasks) (none raw.objects) (none raw.vectors) refl (no_words raw.code (is_in Code p.section)) (no_words raw.ram (is_in Ram p.section))
  added_by line p s raw = words_only p.section (words names places p s) raw

module _ (lines : List Line) where
  -- the names, a line after the other
  names_from : (m k : ℕ) → k + m ≡ length lines → all_defined (counts_before lines k) (drop k lines) ≡ flat_map (λ j. defines (counts_before lines j) (line_at lines j)) (range_with_len k m)
  names_from zero k e = ap (all_defined (counts_before lines k)) (drop_all k lines (omega (arith, e)))
  names_from (suc m) k e =
      let here = line_at lines k in
      let inside : k < length lines = omega (arith, e) in
      ap (all_defined (counts_before lines k)) (drop_more lines k no_line inside)
      ∙ (ap (λ c. defines (counts_before lines k) here ++ all_defined c (drop (k + 1) lines)) (counts_more lines k inside)
      ∙ ap (λ l. defines (counts_before lines k) here ++ l) (names_from m (k + 1) (omega (arith, e))))

  pub same_names : names_of lines ≡ all_names lines
  same_names = ap (λ l. first_of (defined_at_start ++ l)) (names_from (length lines) 0 (omega arith))

  module _ (names : Names) where
    place_more : (k : ℕ) → k < length lines → place_after names (counts_before lines k) (place_before names lines k) (line_at lines k) ≡ place_before names lines (k + 1)
    place_more k h =
        let s = (line_at lines k).statement in
        let section = section_before lines k in
        let size = bytes_at names lines k in
        let p = place_before names lines k in
        ap (turned s) (filled_by section size p.code p.ram)
        ∙ (turned_by s section (p.code + (if is_in Code section then size else 0)) (p.ram + (if is_in Ram section then size else 0))
        ∙ sym (same_place (section_before lines (k + 1)) _ _ _ _ _ (section_more lines k h) (sum_more (bytes_to names lines Code) k) (sum_more (bytes_to names lines Ram) k)))

    places_step : (m k : ℕ) → k + m ≡ length lines
        → places_from names (counts_before lines k) (place_before names lines k) (drop k lines) ≡ map (place_before names lines) (range_with_len k m)
    places_step zero k e = ap (places_from names (counts_before lines k) (place_before names lines k)) (drop_all k lines (omega (arith, e)))
    places_step (suc m) k e =
        let p = place_before names lines k in
        let inside : k < length lines = omega (arith, e) in
        ap (places_from names (counts_before lines k) p) (drop_more lines k no_line inside)
        ∙ (ap (λ c. p ∷ places_from names c (place_after names (counts_before lines k) p (line_at lines k)) (drop (k + 1) lines)) (counts_more lines k inside)
        ∙ (ap (λ q. p ∷ places_from names (counts_before lines (k + 1)) q (drop (k + 1) lines)) (place_more k inside)
        ∙ ap (λ l. p ∷ l) (places_step m (k + 1) (omega (arith, e)))))

    same_places : places_of names lines ≡ all_places names lines
    same_places = places_step (length lines) 0 (omega arith)

    image_more : (k : ℕ) → with_statement names (all_places names lines) (line_at lines k).number (place_before names lines k) (line_at lines k).statement (image_of_first names lines k)
        ≡ image_of_first names lines (k + 1)
    image_more k =
        let places = all_places names lines in
        let at : ℕ → Line = line_at lines in
        let p : ℕ → Place = place_before names lines in
        added_by names places (at k).number (p k) (at k).statement (image_of_first names lines k)
        ∙ sym (same_raw _ _ _ _ _ _ _ _ _ _ _ _ (flat_more (λ j. tasks_given names places (at j).number (at j).statement) k)
        (flat_more (λ j. objects_given names places (at j).number (at j).statement) k)
        (flat_more (λ j. vectors_given names places (at j).number (at j).statement) k)
        (flat_more (λ j. settings_given names places (at j).number (at j).statement) k)
        (flat_more (λ j. words_given names places Code (p j) (at j).statement) k)
        (flat_more (λ j. words_given names places Ram (p j) (at j).statement) k))

    -- what a line's cause makes of it and of the lines behind it
    by_cause : (used m k : ℕ) (o : Option AsmCause) → cause_of names (all_places names lines) (counts_before lines k) (place_before names lines k) (line_at lines k) ≡ o → k + suc m ≡ length lines
        → (assembled_from names (all_places names lines) (counts_before lines (k + 1)) (place_before names lines (k + 1)) (image_of_first names lines (k + 1)) used (drop (k + 1) lines)
        ≡ unless_refused (filter_map (refusal_at names lines) (range_with_len (k + 1) m)) (image_of_first names lines (length lines)) used)
        → assembled_from names (all_places names lines) (counts_before lines k) (place_before names lines k) (image_of_first names lines k) used (line_at lines k ∷ drop (k + 1) lines)
        ≡ unless_refused (filter_map (refusal_at names lines) (k ∷ range_with_len (k + 1) m)) (image_of_first names lines (length lines)) used
    by_cause used m k (Some cause) c e rest =
        assembled_from-refused names (all_places names lines) (counts_before lines k) (place_before names lines k) (image_of_first names lines k) used (line_at lines k) (drop (k + 1) lines) cause c
        ∙ sym (rw c refl)
    by_cause used m k None c e rest =
        let places = all_places names lines in
        let inside : k < length lines = omega (arith, e) in
        let behind = drop (k + 1) lines in
        assembled_from-free names places (counts_before lines k) (place_before names lines k) (image_of_first names lines k) used (line_at lines k) behind c
        ∙ (ap (λ d. assembled_from names places d (place_after names (counts_before lines k) (place_before names lines k) (line_at lines k))
        (with_statement names places (line_at lines k).number (place_before names lines k) (line_at lines k).statement (image_of_first names lines k)) used behind) (counts_more lines k inside)
        ∙ (ap (λ q. assembled_from names places (counts_before lines (k + 1)) q
        (with_statement names places (line_at lines k).number (place_before names lines k) (line_at lines k).statement (image_of_first names lines k)) used behind) (place_more k inside)
        ∙ (ap (λ r. assembled_from names places (counts_before lines (k + 1)) (place_before names lines (k + 1)) r used behind) (image_more k)
        ∙ (rest ∙ sym (rw c refl)))))

    from_line : (used m k : ℕ) → k + m ≡ length lines
        → assembled_from names (all_places names lines) (counts_before lines k) (place_before names lines k) (image_of_first names lines k) used (drop k lines)
        ≡ unless_refused (filter_map (refusal_at names lines) (range_with_len k m)) (image_of_first names lines (length lines)) used
    from_line used zero k e =
        let end : k ≡ length lines = omega (arith, e) in
        ap (assembled_from names (all_places names lines) (counts_before lines k) (place_before names lines k) (image_of_first names lines k) used) (drop_all k lines (omega (arith, e)))
        ∙ ap (λ n. Gives (image_of_first names lines n) used) end
    from_line used (suc m) k e =
        let inside : k < length lines = omega (arith, e) in
        ap (assembled_from names (all_places names lines) (counts_before lines k) (place_before names lines k) (image_of_first names lines k) used) (drop_more lines k no_line inside)
        ∙ by_cause used m k (cause_of names (all_places names lines) (counts_before lines k) (place_before names lines k) (line_at lines k)) refl e (from_line used m (k + 1) (omega (arith, e)))

-- what the lines give in order is what the steps make of them
same_lines : (reading : Reading) → assembled_lines reading ≡ lines_assembled reading
same_lines reading =
    let lines = reading.lines in
    let names = names_of lines in
    ap (λ places. assembled_from names places no_counts no_place empty_image reading.used lines) (same_places lines names)
    ∙ (from_line lines names reading.used (length lines) 0 (omega arith)
    ∙ ap (λ n. unless_refused (filter_map (refusal_at n lines) (numbers lines)) (image_of_first n lines (length lines)) reading.used) (same_names lines))

pub same_assembled : (text : List ℕ) (tokens : List Token) → assembled text tokens ≡ assembled_by_steps text tokens
unfolding assembled
same_assembled text tokens = sym (same_lines (read text tokens))
