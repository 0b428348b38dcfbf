-- A loaded executable is a front of the bytes, and has room in the code and in RAM.
use Rattle.std.proofs.Common.{◌≡◌, ℕ, ◌+◌, ◌-◌, ◌*◌, ◌≤◌, List, [], ◌∷◌, length, Bool, true, false, not, max, arith, refl, sym, ap, ◌∙◌, subst}
use Rattle.std.specs.Prelude.{fold, if◌then◌else◌, ◌&&◌, nat_le, nat_lt, Result, Ok, Err}
use Rattle.std.specs.List.{list_all}
use Rattle.std.proofs.lemmas.Bool.{leb-true}
use Rattle.std.proofs.lemmas.Bool.Decides.{nat_tests}
use Rattle.app_image.proofs.RowLaws.{length-rows}
use Rattle.elf_reader.specs.Executable.{ElfRecord, loaded, executable_in}
use Rattle.elf_reader.specs.Memory.{is_loaded, is_in_code, is_placed, some_overlap, code_end, ram_end, loaded_byte, word_of, words_for, code_words, ram_words}
use Rattle.elf_reader.specs.Symbols.{has_bad_table}
use Rattle.elf_reader.specs.Tables.{is_header, sections, segments, text_place}
use Rattle.elf_reader.specs.Within.{IsWithin}
use Rattle.elf_reader.specs.declared.tables.Segment.{Segment}
use Rattle.elf_reader.proofs.Outcomes.{outcome}

-- no end is past a limit
fold_within : (f : Segment → ℕ) (limit : ℕ) → ((s : Segment) → f s ≤ limit) → (ss : List Segment) (e : ℕ) → e ≤ limit → fold (λ e s. max e (f s)) e ss ≤ limit
fold_within f limit h [] e below = below
fold_within f limit h (s ∷ ss) e below = fold_within f limit h ss (max e (f s)) (let here = h s in omega (arith, here, below))

code_by : (a b : Bool) (n : ℕ) → nat_le n 65536 ≡ b → (if a && b then n else 0) ≤ 65536
code_by true true n e = leb-true n 65536 e
code_by true false n e = omega arith
code_by false b n e = omega arith

code_within : (s : Segment) → code_end s ≤ 65536
code_within s = code_by (is_loaded s) (nat_le (s.vaddr + s.memsz) 65536) (s.vaddr + s.memsz) refl

ram_by : (a b c : Bool) (n : ℕ) → nat_le n 1310720 ≡ c → (if a && (b && c) then n - 1048576 else 0) ≤ 262144
ram_by true true true n e = let below = leb-true n 1310720 e in omega (arith, below)
ram_by true true false n e = omega arith
ram_by true false c n e = omega arith
ram_by false b c n e = omega arith

ram_within : (s : Segment) → ram_end s ≤ 262144
ram_within s = ram_by (is_loaded s) (nat_le 1048576 s.vaddr) (nat_le (s.vaddr + s.memsz) 1310720) (s.vaddr + s.memsz) refl

words_within : (n limit : ℕ) → n ≤ 4 * limit → words_for n ≤ limit
words_within n limit h = omega (arith, h)

code_few : (bytes : List ℕ) (ps : List Segment) → length (code_words bytes ps) ≤ 16384
code_few bytes ps =
    let end = fold (λ e s. max e (code_end s)) 0 ps in
    let count : length (code_words bytes ps) ≡ words_for end = length-rows (word_of (loaded_byte bytes ps)) 4 (words_for end) 0 in
    let few = words_within end 16384 (fold_within code_end 65536 code_within ps 0 (omega arith)) in
    omega (arith, count, few)

ram_few : (bytes : List ℕ) (ps : List Segment) → length (ram_words bytes ps) ≤ 65536
ram_few bytes ps =
    let end = fold (λ e s. max e (ram_end s)) 0 ps in
    let count : length (ram_words bytes ps) ≡ words_for end = length-rows (word_of (loaded_byte bytes ps)) 4 (words_for end) 1048576 in
    let few = words_within end 65536 (fold_within ram_end 262144 ram_within ps 0 (omega arith)) in
    omega (arith, count, few)

-- an executable that is accepted has no range past the bytes
accepted_by : {T : Type 0} (h r p o t : Bool) (x y : T) → outcome h r p o t x ≡ Ok y → (r ≡ false) × (x ≡ y)
accepted_by false r p o t x y e = absurd cc
accepted_by true true p o t x y e = absurd cc
accepted_by true false false o t x y e = absurd cc
accepted_by true false true true t x y e = absurd cc
accepted_by true false true false true x y e = absurd cc
accepted_by true false true false false x y e = (refl, cc)

not_past : (a b : ℕ) → nat_lt a b ≡ false → b ≤ a
not_past a b e = grind (arith, nat_tests)

-- what is read of the bytes is within them
pub within : (bytes : List ℕ) (app : ElfRecord) → executable_in bytes ≡ Ok app → IsWithin bytes app
within bytes app e =
    let parts = accepted_by (is_header bytes) (nat_lt (length bytes) (text_place bytes)) (list_all is_placed (segments bytes)) (some_overlap [] (segments bytes)) (has_bad_table bytes (sections bytes)) (loaded bytes) app e in
    let front : IsWithin bytes (loaded bytes) = record {
      used = not_past (length bytes) (text_place bytes) parts.0;
      code = code_few bytes (segments bytes);
      ram = ram_few bytes (segments bytes);
    } in
    subst (IsWithin bytes) parts.1 front
