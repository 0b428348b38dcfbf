-- What reading the bytes comes to, by the five causes.
use Rattle.std.proofs.Common.{◌≡◌, ◌≤◌, ℕ, List, [], ◌∷◌, Bool, true, false, not, refl, max, arith}
use Rattle.std.specs.Prelude.{if◌then◌else◌, fold, nat_lt, Result, Ok, Err}
use Rattle.elf_reader.specs.Tables.{segments, sections, segment_end, section_end, tables_end, text_place}
use Rattle.elf_reader.specs.declared.causes.ElfCause.TheVariants.{Header, Range, Place, Overlap, SymbolTable}
use Rattle.elf_reader.specs.declared.causes.ElfError.{ElfError}
use Rattle.elf_reader.specs.declared.causes.ElfError.TheVariants.{Bad}

-- the greatest end is no less than the place that it starts from
from_on : {T : Type 0} (f : T → ℕ) (xs : List T) (e : ℕ) → e ≤ fold (λ e x. max e (f x)) e xs
from_on f [] e = omega arith
from_on f (x ∷ xs) e = let rest = from_on f xs (max e (f x)) in omega (arith, rest)

pub tables_first : (bytes : List ℕ) → tables_end bytes ≤ text_place bytes
tables_first bytes =
    let ps = from_on segment_end (segments bytes) (tables_end bytes) in
    let ss = from_on section_end (sections bytes) (fold (λ e p. max e (segment_end p)) (tables_end bytes) (segments bytes)) in
    omega (arith, ps, ss)

abbrev pub outcome : {T : Type 0} → Bool → Bool → Bool → Bool → Bool → T → Result T ElfError
outcome header range placed overlap table app =
    if not header then Err (Bad Header)
    else (if range then Err (Bad Range)
    else (if not placed then Err (Bad Place)
    else (if overlap then Err (Bad Overlap)
    else (if table then Err (Bad SymbolTable) else Ok app))))

pub no_header : {T : Type 0} (h r p o t : Bool) (app : T) → h ≡ false → outcome h r p o t app ≡ Err (Bad Header)
no_header h r p o t app e = rw e refl

pub out_of_range : {T : Type 0} (h r p o t : Bool) (app : T) → h ≡ true → r ≡ true → outcome h r p o t app ≡ Err (Bad Range)
out_of_range h r p o t app e f = rw (e, f) refl

pub no_place : {T : Type 0} (h r p o t : Bool) (app : T) → h ≡ true → r ≡ false → p ≡ false → outcome h r p o t app ≡ Err (Bad Place)
no_place h r p o t app e f g = rw (e, f, g) refl

pub overlapping : {T : Type 0} (h r p o t : Bool) (app : T) → h ≡ true → r ≡ false → p ≡ true → o ≡ true → outcome h r p o t app ≡ Err (Bad Overlap)
overlapping h r p o t app e f g i = rw (e, f, g, i) refl

pub bad_table : {T : Type 0} (h r p o t : Bool) (app : T) → h ≡ true → r ≡ false → p ≡ true → o ≡ false → t ≡ true → outcome h r p o t app ≡ Err (Bad SymbolTable)
bad_table h r p o t app e f g i j = rw (e, f, g, i, j) refl

pub accepted : {T : Type 0} (h r p o t : Bool) (app : T) → h ≡ true → r ≡ false → p ≡ true → o ≡ false → t ≡ false → outcome h r p o t app ≡ Ok app
accepted h r p o t app e f g i j = rw (e, f, g, i, j) refl

pub not_past : (a b : ℕ) → b ≤ a → nat_lt a b ≡ false
not_past a b h = grind (arith, h)
