-- What cells hold while segments are loaded.
use Rattle.std.proofs.Common.{◌≡◌, ℕ, zero, suc, ◌+◌, ◌-◌, ◌*◌, ◌<◌, ◌≤◌, List, [], ◌∷◌, ◌++◌, length, get_or, set, refl, sym, ap, ◌∙◌, arith, Bool, true, false, ◌&&◌, ◌||◌, not, ◌⊎◌, inl, inr, get_or-set_same, get_or-set_other}
use Rattle.std.proofs.lemmas.Bool.{lt-ltb, ltb-true, leb-true}
use Rattle.std.specs.Prelude.{Option, Some, None, is_some, if◌then◌else◌, nat_le, nat_lt, unwrap_or}
use Rattle.std.specs.List.{list_any, list_all}
use Rattle.app_image.specs.Fields.{rows}
use Rattle.elf_reader.specs.Memory.{file_byte, is_loaded, is_placed, is_in_code, is_in_ram, holds, held, is_held, addresses, some_overlap, loaded_byte, word_of}
use Rattle.elf_reader.specs.Cells.{filled, laid, place_of, address_of, cell_byte}
use Rattle.elf_reader.specs.declared.tables.Segment.{Segment}
use Rattle.elf_reader.proofs.RowLaws.{rows_same, any_same}

-- a segment behind others that does not hold the address changes nothing there
kept_by : (bytes : List ℕ) (x s : Segment) (xs : List Segment) (a : ℕ) (b : Bool) → held bytes (xs ++ s ∷ []) a ≡ held bytes xs a
    → (if b then Some (file_byte bytes x (a - x.vaddr)) else held bytes (xs ++ s ∷ []) a) ≡ (if b then Some (file_byte bytes x (a - x.vaddr)) else held bytes xs a)
kept_by bytes x s xs a true e = refl
kept_by bytes x s xs a false e = e

pub held_kept : (bytes : List ℕ) (xs : List Segment) (s : Segment) (a : ℕ) → holds a s ≡ false → held bytes (xs ++ s ∷ []) a ≡ held bytes xs a
held_kept bytes [] s a e = ap (λ b. if b then Some (file_byte bytes s (a - s.vaddr)) else None) e
held_kept bytes (x ∷ xs) s a e = kept_by bytes x s xs a (holds a x) (held_kept bytes xs s a e)

-- one that holds an address which none of the others does gives the byte there
new_by : (bytes : List ℕ) (x s : Segment) (xs : List Segment) (a : ℕ) (b : Bool) (o : Option ℕ)
    → (held bytes xs a ≡ None → held bytes (xs ++ s ∷ []) a ≡ o)
    → (if b then Some (file_byte bytes x (a - x.vaddr)) else held bytes xs a) ≡ None
    → (if b then Some (file_byte bytes x (a - x.vaddr)) else held bytes (xs ++ s ∷ []) a) ≡ o
new_by bytes x s xs a true o rest e = cc
new_by bytes x s xs a false o rest e = rest e

pub held_new : (bytes : List ℕ) (xs : List Segment) (s : Segment) (a : ℕ) → holds a s ≡ true → held bytes xs a ≡ None
    → held bytes (xs ++ s ∷ []) a ≡ Some (file_byte bytes s (a - s.vaddr))
held_new bytes [] s a e none = ap (λ b. if b then Some (file_byte bytes s (a - s.vaddr)) else None) e
held_new bytes (x ∷ xs) s a e none = new_by bytes x s xs a (holds a x) (Some (file_byte bytes s (a - s.vaddr))) (held_new bytes xs s a e) none

-- a byte is there exactly where a segment holds the address
some_by : (bytes : List ℕ) (x : Segment) (xs : List Segment) (a : ℕ) (b : Bool) → is_some (held bytes xs a) ≡ is_held xs a
    → is_some (if b then Some (file_byte bytes x (a - x.vaddr)) else held bytes xs a) ≡ (b || is_held xs a)
some_by bytes x xs a true e = refl
some_by bytes x xs a false e = e

pub is_some-held : (bytes : List ℕ) (xs : List Segment) (a : ℕ) → is_some (held bytes xs a) ≡ is_held xs a
is_some-held bytes [] a = refl
is_some-held bytes (x ∷ xs) a = some_by bytes x xs a (holds a x) (is_some-held bytes xs a)

pub none_of : (o : Option ℕ) → is_some o ≡ false → o ≡ None
none_of None e = refl
none_of (Some x) e = cc

-- one more byte of a segment
pub filled_more : (bytes : List ℕ) (s : Segment) (first n i : ℕ) (old now : List (Option ℕ)) → first + n < length now
    → get_or now i None ≡ filled bytes s first n old i
    → get_or (set now (first + n) (Some (file_byte bytes s n))) i None ≡ filled bytes s first (n + 1) old i
filled_more bytes s first n i old now l e = grind (arith, get_or-set_same, get_or-set_other, e)

-- the next cell of a segment is as it was
pub not_filled : (bytes : List ℕ) (s : Segment) (first n : ℕ) (old : List (Option ℕ)) → filled bytes s first n old (first + n) ≡ get_or old (first + n) None
not_filled bytes s first n old = grind arith

-- a segment that is loaded lies in the code or in RAM
part_of : (l f c r : Bool) → (not l || (f && (c || r))) ≡ true → l ≡ true → (c ≡ true) ⊎ (r ≡ true)
part_of true true true r e g = inl refl
part_of true true false true e g = inr refl
part_of true true false false e g = cc
part_of true false c r e g = cc
part_of false f c r e g = cc

both : (a b : Bool) → (a && b) ≡ true → (a ≡ true) × (b ≡ true)
both true true e = (refl, refl)
both true false e = cc
both false b e = cc

pub where_placed : (s : Segment) → is_placed s ≡ true → is_loaded s ≡ true
    → (s.vaddr + s.memsz ≤ 65536) ⊎ ((1048576 ≤ s.vaddr) × (s.vaddr + s.memsz ≤ 1310720))
where_placed s p l =
    elim (part_of (is_loaded s) (nat_le s.filesz s.memsz) (is_in_code s) (is_in_ram s) p l) [
      | inl c ↦ inl (leb-true (s.vaddr + s.memsz) 65536 c)
      | inr r ↦ let two = both (nat_le 1048576 s.vaddr) (nat_le (s.vaddr + s.memsz) 1310720) r in
          inr (leb-true 1048576 s.vaddr two.0, leb-true (s.vaddr + s.memsz) 1310720 two.1)
    ]

-- the cells of a segment stand one behind the other, and they are those of its addresses
pub place_add : (s : Segment) (k : ℕ) → is_placed s ≡ true → is_loaded s ≡ true → k < s.memsz → place_of (s.vaddr + k) ≡ place_of s.vaddr + k
place_add s k p l h =
    elim (where_placed s p l) [
      | inl c ↦ grind (arith, c, h)
      | inr r ↦ let low : 1048576 ≤ s.vaddr = r.0 in grind (arith, low, h)
    ]

pub place_fits : (s : Segment) → is_placed s ≡ true → is_loaded s ≡ true → place_of s.vaddr + s.memsz ≤ 327680
place_fits s p l =
    elim (where_placed s p l) [
      | inl c ↦ grind (arith, c)
      | inr r ↦ let low : 1048576 ≤ s.vaddr = r.0 in let high : s.vaddr + s.memsz ≤ 1310720 = r.1 in grind (arith, low, high)
    ]

pub address_code : (i : ℕ) → i < 65536 → address_of i ≡ i
address_code i h = rw (lt-ltb i 65536 h) refl

pub address_ram : (i : ℕ) → 65536 ≤ i → address_of i ≡ i + 983040
address_ram i h = grind (arith, h)

-- a cell of a segment, and its address
pub address_place : (s : Segment) (k : ℕ) → is_placed s ≡ true → is_loaded s ≡ true → k < s.memsz → address_of (place_of (s.vaddr + k)) ≡ s.vaddr + k
address_place s k p l h =
    elim (where_placed s p l) [
      | inl c ↦ grind (arith, c, h)
      | inr r ↦ let low : 1048576 ≤ s.vaddr = r.0 in let high : s.vaddr + s.memsz ≤ 1310720 = r.1 in grind (arith, low, high, h)
    ]

pub place_inside : (s : Segment) (k : ℕ) → is_placed s ≡ true → is_loaded s ≡ true → k < s.memsz → place_of (s.vaddr + k) < 327680
place_inside s k p l h =
    let e = place_add s k p l h in
    let f = place_fits s p l in
    omega (arith, e, f, h)

-- the cells of a segment are empty where those of its addresses are
cells_by : (s : Segment) (cells : List (Option ℕ)) (b : Bool) → is_loaded s ≡ b → b ≡ true → is_placed s ≡ true
    → list_any (λ i. is_some (get_or cells i None)) (rows (λ i. i) 1 s.memsz (place_of s.vaddr))
    ≡ list_any (λ a. is_some (get_or cells (place_of a) None)) (rows (λ a. a) 1 (if b then s.memsz else 0) s.vaddr)
cells_by s cells true l e p =
    any_same (λ i. is_some (get_or cells i None)) (λ a. is_some (get_or cells (place_of a) None)) s.memsz (place_of s.vaddr) s.vaddr
    (λ k h. ap (λ i. is_some (get_or cells i None)) (sym (place_add s k p l h)))
cells_by s cells false l e p = cc

pub cells_of : (s : Segment) (cells : List (Option ℕ)) → is_loaded s ≡ true → is_placed s ≡ true
    → list_any (λ i. is_some (get_or cells i None)) (rows (λ i. i) 1 s.memsz (place_of s.vaddr))
    ≡ list_any (λ a. is_some (get_or cells (place_of a) None)) (addresses s)
cells_of s cells l p = cells_by s cells (is_loaded s) refl l p

-- where the cells hold what some segments give, an address is held where its cell is not empty
held_by : (bytes : List ℕ) (xs : List Segment) (s : Segment) (cells : List (Option ℕ)) (b : Bool) → is_loaded s ≡ b → is_placed s ≡ true
    → ((i : ℕ) → i < 327680 → get_or cells i None ≡ held bytes xs (address_of i))
    → list_any (λ a. is_some (get_or cells (place_of a) None)) (rows (λ a. a) 1 (if b then s.memsz else 0) s.vaddr)
    ≡ list_any (is_held xs) (rows (λ a. a) 1 (if b then s.memsz else 0) s.vaddr)
held_by bytes xs s cells true l p same =
    any_same (λ a. is_some (get_or cells (place_of a) None)) (is_held xs) s.memsz s.vaddr s.vaddr
    (λ k h. ap is_some (same (place_of (s.vaddr + k)) (place_inside s k p l h)) ∙ ap (λ a. is_some (held bytes xs a)) (address_place s k p l h) ∙ is_some-held bytes xs (s.vaddr + k))
held_by bytes xs s cells false l p same = refl

pub held_cells : (bytes : List ℕ) (xs : List Segment) (s : Segment) (cells : List (Option ℕ)) → is_placed s ≡ true
    → ((i : ℕ) → i < 327680 → get_or cells i None ≡ held bytes xs (address_of i))
    → list_any (λ a. is_some (get_or cells (place_of a) None)) (addresses s) ≡ list_any (is_held xs) (addresses s)
held_cells bytes xs s cells p same = held_by bytes xs s cells (is_loaded s) refl p same

-- an overlap here, or one behind
pub overlap_here : (xs ss : List Segment) (s : Segment) → list_any (is_held xs) (addresses s) ≡ true → some_overlap xs (s ∷ ss) ≡ true
overlap_here xs ss s e = ap (λ b. b || some_overlap (xs ++ s ∷ []) ss) e

pub overlap_behind : (xs ss : List Segment) (s : Segment) → list_any (is_held xs) (addresses s) ≡ false → some_overlap (xs ++ s ∷ []) ss ≡ some_overlap xs (s ∷ ss)
overlap_behind xs ss s e = sym (ap (λ b. b || some_overlap (xs ++ s ∷ []) ss) e)

-- none of some rows passes, so each does not
either : (a b : Bool) → (a || b) ≡ false → (a ≡ false) × (b ≡ false)
either true b e = cc
either false b e = (refl, e)

none_passes : (p : ℕ → Bool) (n at k : ℕ) → list_any p (rows (λ a. a) 1 n at) ≡ false → k < n → p (at + k) ≡ false
none_passes p zero at k e h = absurd (omega arith)
none_passes p (suc n) at zero e h =
    let z : at + 0 ≡ at = omega arith in
    ap p z ∙ (either (p at) (list_any p (rows (λ a. a) 1 n (at + 1))) e).0
none_passes p (suc n) at (suc k) e h =
    let z : at + suc k ≡ (at + 1) + k = omega arith in
    ap p z ∙ none_passes p n (at + 1) k (either (p at) (list_any p (rows (λ a. a) 1 n (at + 1))) e).1 (omega arith)

-- what a cell has once one more segment is loaded
laid_by : (bytes : List ℕ) (xs : List Segment) (s : Segment) (cells : List (Option ℕ)) (i : ℕ) (b : Bool) → holds (address_of i) s ≡ b
    → get_or cells i None ≡ held bytes xs (address_of i) → list_any (is_held xs) (addresses s) ≡ false
    → (if b then Some (file_byte bytes s (address_of i - s.vaddr)) else get_or cells i None) ≡ held bytes (xs ++ s ∷ []) (address_of i)
laid_by bytes xs s cells i false e same none = same ∙ sym (held_kept bytes xs s (address_of i) e)
laid_by bytes xs s cells i true e same none =
    let a = address_of i in
    let parts = both (is_loaded s) (nat_le s.vaddr a && nat_lt a (s.vaddr + s.memsz)) e in
    let ends = both (nat_le s.vaddr a) (nat_lt a (s.vaddr + s.memsz)) parts.1 in
    let low : s.vaddr ≤ a = leb-true s.vaddr a ends.0 in
    let high : a < s.vaddr + s.memsz = ltb-true a (s.vaddr + s.memsz) ends.1 in
    let place : s.vaddr + (a - s.vaddr) ≡ a = omega (arith, low) in
    let empty : list_any (is_held xs) (rows (λ a. a) 1 s.memsz s.vaddr) ≡ false = rw parts.0 at none in
    let free : is_held xs a ≡ false = sym (ap (is_held xs) place) ∙ none_passes (is_held xs) s.memsz s.vaddr (a - s.vaddr) empty (omega (arith, low, high)) in
    sym (held_new bytes xs s a e (none_of (held bytes xs a) (is_some-held bytes xs a ∙ free)))

pub laid_more : (bytes : List ℕ) (xs : List Segment) (s : Segment) (cells : List (Option ℕ)) (i : ℕ)
    → get_or cells i None ≡ held bytes xs (address_of i) → list_any (is_held xs) (addresses s) ≡ false
    → laid bytes s cells i ≡ held bytes (xs ++ s ∷ []) (address_of i)
laid_more bytes xs s cells i same none = laid_by bytes xs s cells i (holds (address_of i) s) refl same none

pub first_placed : (s : Segment) (ss : List Segment) → list_all is_placed (s ∷ ss) ≡ true → (is_placed s ≡ true) × (list_all is_placed ss ≡ true)
first_placed s ss e = both (is_placed s) (list_all is_placed ss) e

pub denied : (b : Bool) → false ≡ not b → b ≡ true
denied true e = refl
denied false e = cc

pub granted : (b : Bool) → true ≡ not b → b ≡ false
granted true e = cc
granted false e = refl

-- the words of cells are those of the memory
word_same : (f g : ℕ → ℕ) (a b : ℕ) → f a ≡ g b → f (a + 1) ≡ g (b + 1) → f (a + 2) ≡ g (b + 2) → f (a + 3) ≡ g (b + 3) → word_of f a ≡ word_of g b
word_same f g a b p q r s = rw (p, q, r, s) refl

byte_same : (bytes : List ℕ) (ss : List Segment) (cells : List (Option ℕ)) (i a : ℕ) → address_of i ≡ a
    → get_or cells i None ≡ held bytes ss (address_of i) → cell_byte cells i ≡ loaded_byte bytes ss a
byte_same bytes ss cells i a e h = ap (λ o. unwrap_or o 0) h ∙ ap (loaded_byte bytes ss) e

pub code_same : (bytes : List ℕ) (ss : List Segment) (cells : List (Option ℕ)) (n : ℕ) → n ≤ 16384
    → ((i : ℕ) → i < 327680 → get_or cells i None ≡ held bytes ss (address_of i))
    → rows (word_of (cell_byte cells)) 4 n 0 ≡ rows (word_of (loaded_byte bytes ss)) 4 n 0
code_same bytes ss cells n few h =
    rows_same (word_of (cell_byte cells)) (word_of (loaded_byte bytes ss)) 4 n 0 0 (λ k l.
    let byte = λ (i : ℕ) (inside : i < 65536). byte_same bytes ss cells i i (address_code i inside) (h i (omega arith)) in
    word_same (cell_byte cells) (loaded_byte bytes ss) (0 + 4 * k) (0 + 4 * k) (byte (0 + 4 * k) (omega arith)) (byte (0 + 4 * k + 1) (omega arith)) (byte (0 + 4 * k + 2) (omega arith)) (byte (0 + 4 * k + 3) (omega arith)))

pub ram_same : (bytes : List ℕ) (ss : List Segment) (cells : List (Option ℕ)) (n : ℕ) → n ≤ 65536
    → ((i : ℕ) → i < 327680 → get_or cells i None ≡ held bytes ss (address_of i))
    → rows (word_of (cell_byte cells)) 4 n 65536 ≡ rows (word_of (loaded_byte bytes ss)) 4 n 1048576
ram_same bytes ss cells n few h =
    rows_same (word_of (cell_byte cells)) (word_of (loaded_byte bytes ss)) 4 n 65536 1048576 (λ k l.
    let byte = λ (i a : ℕ) (low : 65536 ≤ i) (high : i < 327680) (e : i + 983040 ≡ a). byte_same bytes ss cells i a (address_ram i low ∙ e) (h i high) in
    word_same (cell_byte cells) (loaded_byte bytes ss) (65536 + 4 * k) (1048576 + 4 * k)
    (byte (65536 + 4 * k) (1048576 + 4 * k) (omega arith) (omega arith) (omega arith))
    (byte (65536 + 4 * k + 1) (1048576 + 4 * k + 1) (omega arith) (omega arith) (omega arith))
    (byte (65536 + 4 * k + 2) (1048576 + 4 * k + 2) (omega arith) (omega arith) (omega arith))
    (byte (65536 + 4 * k + 3) (1048576 + 4 * k + 3) (omega arith) (omega arith) (omega arith)))

-- one more empty cell
pub empty_push : (cells : List (Option ℕ)) (i : ℕ) → get_or cells i None ≡ None → get_or (cells ++ None ∷ []) i None ≡ None
empty_push [] zero e = refl
empty_push [] (suc i) e = refl
empty_push (x ∷ xs) zero e = e
empty_push (x ∷ xs) (suc i) e = empty_push xs i e
