-- The names of a listing: each stands for what its line defines.
use Rattle.std.proofs.Common.{◌≡◌, ◌≢◌, ℕ, zero, suc, ◌+◌, ◌*◌, ◌^◌, ◌<◌, ◌≤◌, List, [], ◌∷◌, ◌++◌, length, map, drop, get_or, Bool, true, false, cond, arith, refl, sym, ap, subst, ◌∙◌, append_assoc, pos}
use Rattle.std.specs.Prelude.{Some, None, ◌==◌, AllPairs}
use Rattle.std.specs.Option.{option_or}
use Rattle.std.specs.List.{AllByRecursion}
use Rattle.std.specs.Str.{bytes_eq}
use Rattle.std.proofs.lemmas.Bool.{false_from_ne_true, eqb-true, eq-eqb, or_parts}
use Rattle.std.proofs.lemmas.Fmt.{decimal_injective}
use Rattle.std.proofs.lemmas.Slice.Eq.{bytes_eq-Decides}
use Rattle.kern_base.specs.Services.{service_name, service_of}
use Rattle.app_image.specs.Names.{names_service, is_service_name}
use Rattle.asm_places.specs.Names.{Names, Defined, definition, defined_at_start, services_defined, first_of}
use Rattle.asm_places.specs.Counts.{Counts}
use Rattle.asm_places.specs.declared.places.Definition.{Definition}
use Rattle.asm_places.specs.declared.places.Meaning.TheVariants.{Label, Constant}
use Rattle.asm_places.proofs.NameLaws.{first_of-append}
use Rattle.rv32_asm.proofs.MadeServices.{bytes_eq_turned}
use Rattle.rv32_listing.specs.Texts.{label}
use Rattle.listing_law.proofs.Lines.Items.{Item}
use Rattle.listing_law.proofs.Assembled.Steps.{item_counted, item_defines}
use Rattle.listing_law.proofs.Assembled.Texts.{items_defined}
use Rattle.listing_law.proofs.Lines.Listed.{code_items}

-- what stands before the lines behind these
abbrev pub items_counted : List Item → Counts → Counts
items_counted [] c = c
items_counted (item ∷ items) c = items_counted items (item_counted item c)

pub defined_append : (c : Counts) (xs ys : List Item) → items_defined c (xs ++ ys) ≡ items_defined c xs ++ items_defined (items_counted xs c) ys
defined_append c [] ys = refl
defined_append c (x ∷ xs) ys =
    ap (λ d. item_defines c x ++ d) (defined_append (item_counted x c) xs ys)
    ∙ sym (append_assoc (item_defines c x) (items_defined (item_counted x c) xs) (items_defined (items_counted xs (item_counted x c)) ys))

-- Definitions in two parts.

pub skip : (xs ys : Defined) (q : List ℕ) → first_of xs q ≡ None → first_of (xs ++ ys) q ≡ first_of ys q
skip xs ys q e = first_of-append xs ys q ∙ ap (λ o. option_or o (first_of ys q)) e

pub stop : (xs ys : Defined) (q : List ℕ) (d : Definition) → first_of xs q ≡ Some d → first_of (xs ++ ys) q ≡ Some d
stop xs ys q d e = first_of-append xs ys q ∙ ap (λ o. option_or o (first_of ys q)) e

same_bytes : (a : List ℕ) → bytes_eq a a ≡ true
same_bytes a = (bytes_eq-Decides a a).1 refl

apart_bytes : (a b : List ℕ) → a ≢ b → bytes_eq a b ≡ false
apart_bytes a b h = false_from_ne_true (bytes_eq a b) (λ t. h ((bytes_eq-Decides a b).0 t))

-- Labels.

label_apart : (a b : ℕ) → a < 2 ^ 64 → b < 2 ^ 64 → a ≢ b → bytes_eq (label a) (label b) ≡ false
label_apart a b p q h = apart_bytes (label a) (label b) (λ e. h (decimal_injective a b p q (ap (drop 21) e)))

-- the definition of a label on the line behind so many
abbrev pub label_definition : ℕ → Definition
label_definition lines = record { line = Some lines; meaning = Label lines }

label_by : (number j : ℕ) (c : Counts) (rest : Defined) (b : Bool) → (number == j) ≡ b → c.lines ≡ suc number → number ≤ 16384 → j ≤ 16384
    → (number ≢ j → first_of rest (label (4 * j)) ≡ Some (label_definition (suc j)))
    → first_of ((label (4 * number), definition c (Label c.lines)) ∷ rest) (label (4 * j)) ≡ Some (label_definition (suc j))
label_by number j c rest true t e low high h =
    let same : number ≡ j = eqb-true number j t in
    let line : c.lines ≡ suc j = e ∙ ap suc same in
    ap (λ n. cond (bytes_eq (label (4 * j)) (label (4 * n))) (Some (definition c (Label c.lines))) (first_of rest (label (4 * j)))) same
    ∙ (ap (λ b. cond b (Some (definition c (Label c.lines))) (first_of rest (label (4 * j)))) (same_bytes (label (4 * j))) ∙ rw line refl)
label_by number j c rest false t e low high h =
    let other : number ≢ j = λ s. let yes : (number == number) ≡ false = subst (λ k. (number == k) ≡ false) (sym s) t in let no : (number == number) ≡ true = eq-eqb number number refl in cc in
    let apart : bytes_eq (label (4 * j)) (label (4 * number)) ≡ false = label_apart (4 * j) (4 * number) (omega (arith, high)) (omega (arith, low)) (λ s. other (omega (arith, s))) in
    ap (λ b. cond b (Some (definition c (Label c.lines))) (first_of rest (label (4 * j)))) apart ∙ h other

pub label_found : (words number : ℕ) (ws : List ℕ) (c : Counts) (j : ℕ) → c.lines ≡ suc number → number ≤ j → j < number + length ws → number + length ws ≤ 16384
    → first_of (items_defined c (code_items words number ws)) (label (4 * j)) ≡ Some (label_definition (suc j))
label_found words number [] c j e low high few = absurd (omega arith)
label_found words number (w ∷ ws) c j e low high few =
    label_by number j c (items_defined (record c { lines = c.lines + 1 }) (code_items words (number + 1) ws)) (number == j) refl e (omega (arith, few)) (omega (arith, few, high))
    (λ other. label_found words (number + 1) ws (record c { lines = c.lines + 1 }) j (omega (arith, e)) (omega (arith, low, other)) (omega (arith, high)) (omega (arith, few)))

-- a name of at most 16 bytes is no label
short_apart : (q : List ℕ) (a : ℕ) → length q ≤ 16 → bytes_eq q (label a) ≡ false
short_apart q a h = apart_bytes q (label a) (λ e. let long : length q ≡ length (label a) = ap length e in absurd (omega (arith, h, long)))

pub no_label : (words number : ℕ) (ws : List ℕ) (c : Counts) (q : List ℕ) → length q ≤ 16 → first_of (items_defined c (code_items words number ws)) q ≡ None
no_label words number [] c q h = refl
no_label words number (w ∷ ws) c q h =
    ap (λ b. cond b (Some (definition c (Label c.lines))) (first_of (items_defined (record c { lines = c.lines + 1 }) (code_items words (number + 1) ws)) q)) (short_apart q (4 * number) h)
    ∙ no_label words (number + 1) ws (record c { lines = c.lines + 1 }) q h

-- Services.

service_none : (n : ℕ) (q : List ℕ) → names_service n q ≡ false → first_of (services_defined n) q ≡ None
unfolding names_service
service_none zero q h = refl
service_none (suc n) q h =
    let parts = or_parts (bytes_eq (service_name (service_of (suc n))) q) (names_service n q) h in
    ap (λ b. cond b (Some (record { line = None; meaning = Constant (pos (suc n)) })) (first_of (services_defined n) q)) (bytes_eq_turned q (service_name (service_of (suc n))) ∙ parts.0) ∙ service_none n q parts.1

pub free_at_start : (q : List ℕ) → is_service_name q ≡ false → first_of defined_at_start q ≡ None
unfolding is_service_name defined_at_start
free_at_start q h = service_none 39 q h

pub label_at_start : (a : ℕ) → first_of defined_at_start (label a) ≡ None
unfolding defined_at_start
label_at_start a = refl

-- Objects and tasks.

-- names of which none is another
abbrev pub Apart : List (List ℕ) → Type 0
Apart [] = Unit {0}
Apart (n ∷ ns) = AllByRecursion (λ m. n ≢ m) ns × Apart ns

heads_apart : (n : List ℕ) (ns : List (List ℕ)) → ((j : ℕ) (d : List ℕ) → j < length ns → n ≢ get_or ns j d) → AllByRecursion (λ m. n ≢ m) ns
heads_apart n [] h = tt
heads_apart n (m ∷ ns) h = (h 0 m (omega arith), heads_apart n ns (λ j d lt. h (suc j) d (omega (arith, lt))))

pub apart_pairs : (ns : List (List ℕ)) → AllPairs (λ m n. m ≢ n) ns → Apart ns
apart_pairs [] h = tt
apart_pairs (n ∷ ns) h =
    (heads_apart n ns (λ j d lt. h 0 (suc j) d (omega arith) (omega (arith, lt))), apart_pairs ns (λ i j d a b. h (suc i) (suc j) d (omega (arith, a)) (omega (arith, b))))

front_of : {T : Type 0} (P : T → Type 0) (xs ys : List T) → AllByRecursion P (xs ++ ys) → AllByRecursion P xs × AllByRecursion P ys
front_of P [] ys h = (tt, h)
front_of P (x ∷ xs) ys h = let both = front_of P xs ys h.1 in ((h.0, both.0), both.1)

-- two lists of names of which none is another
pub record AreApart (xs ys : List (List ℕ)) : Type 0 where
  pub first : Apart xs
  pub second : Apart ys
  pub between : AllByRecursion (λ x. AllByRecursion (λ y. x ≢ y) ys) xs

pub apart_parts : (xs ys : List (List ℕ)) → Apart (xs ++ ys) → AreApart xs ys
apart_parts [] ys h = record { first = tt; second = h; between = tt }
apart_parts (x ∷ xs) ys h =
    let here = front_of (λ m. x ≢ m) xs ys h.0 in
    let rest = apart_parts xs ys h.1 in
    record { first = (here.0, rest.first); second = rest.second; between = (here.1, rest.between) }

module _ (D : Type 0) (name : D → List ℕ) (item : D → Item) (def : Counts → Definition) (count : Counts → Counts)
    (defines : (c : Counts) (d : D) → item_defines c (item d) ≡ (name d, def c) ∷ []) (counts : (c : Counts) (d : D) → item_counted (item d) c ≡ count c) where
  -- each name stands for its own definition
  abbrev pub AreKnown : Names → Counts → List D → Type 0
  AreKnown names c [] = Unit {0}
  AreKnown names c (d ∷ ds) = (names (name d) ≡ Some (def c)) × AreKnown names (count c) ds

  one_step : (c : Counts) (d : D) (ds : List D) → items_defined c (map item (d ∷ ds)) ≡ (name d, def c) ∷ items_defined (count c) (map item ds)
  one_step c d ds = ap (λ l. l ++ items_defined (item_counted (item d) c) (map item ds)) (defines c d) ∙ ap (λ x. (name d, def c) ∷ items_defined x (map item ds)) (counts c d)

  -- names that are others
  pub none_of : (c : Counts) (ds : List D) (q : List ℕ) → AllByRecursion (λ d. q ≢ name d) ds → first_of (items_defined c (map item ds)) q ≡ None
  none_of c [] q h = refl
  none_of c (d ∷ ds) q h =
      ap (λ l. first_of l q) (one_step c d ds)
      ∙ (ap (λ b. cond b (Some (def c)) (first_of (items_defined (count c) (map item ds)) q)) (apart_bytes q (name d) h.0) ∙ none_of (count c) ds q h.1)

  pushed : (pre : Defined) (d : D) (c : Counts) (ds : List D) → AllByRecursion (λ e. first_of pre (name e) ≡ None) ds → AllByRecursion (λ m. name d ≢ m) (map name ds)
      → AllByRecursion (λ e. first_of (pre ++ (name d, def c) ∷ []) (name e) ≡ None) ds
  pushed pre d c [] h k = tt
  pushed pre d c (e ∷ ds) h k =
      (skip pre ((name d, def c) ∷ []) (name e) h.0 ∙ ap (λ b. cond b (Some (def c)) None) (apart_bytes (name e) (name d) (λ s. k.0 (sym s))), pushed pre d c ds h.1 k.1)

  pub known_of : (pre rest : Defined) (c : Counts) (ds : List D) → AllByRecursion (λ d. first_of pre (name d) ≡ None) ds → Apart (map name ds)
      → AreKnown (first_of (pre ++ (items_defined c (map item ds) ++ rest))) c ds
  known_of pre rest c [] h k = tt
  known_of pre rest c (d ∷ ds) h k =
      let more = items_defined (count c) (map item ds) ++ rest in
      let all : pre ++ (items_defined c (map item (d ∷ ds)) ++ rest) ≡ pre ++ ((name d, def c) ∷ more) = ap (λ l. pre ++ (l ++ rest)) (one_step c d ds) in
      let next : (pre ++ (name d, def c) ∷ []) ++ more ≡ pre ++ (items_defined c (map item (d ∷ ds)) ++ rest) = append_assoc pre ((name d, def c) ∷ []) more ∙ sym all in
      let tail = known_of (pre ++ (name d, def c) ∷ []) rest (count c) ds (pushed pre d c ds h.1 k.0) k.1 in (
        ap (λ l. first_of l (name d)) all ∙ (skip pre ((name d, def c) ∷ more) (name d) h.0 ∙ ap (λ b. cond b (Some (def c)) (first_of more (name d))) (same_bytes (name d))),
        subst (λ (l : Defined). AreKnown (first_of l) (count c) ds) next tail,
      )
