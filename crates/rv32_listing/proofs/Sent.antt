-- Texts that are written in two pieces, and lines one after the other.
use Rattle.std.proofs.Common.{◌≡◌, ℕ, zero, suc, ◌+◌, ◌*◌, ◌<◌, ◌≤◌, List, [], ◌∷◌, ◌++◌, map, true, Option, length, drop, get_or, ap, sym, subst, arith, length-append}
use Rattle.std.specs.Prelude.{nat_le}
use Rattle.std.specs.List.{flat_map, list_all}
use Rattle.std.specs.Borrow.{Bor}
use Rattle.std.specs.Io.KnownBytes.{Appends}
use Rattle.std.proofs.lemmas.Bool.{and_parts, leb-true}
use Rattle.std.proofs.lemmas.List.{drop_more, take-append-le}
use Rattle.outside.specs.Written.{AppendsPrefix}
use Rattle.app_image.specs.declared.settings.Config.{Config}
use Rattle.app_image.specs.declared.settings.ConfigKey.{ConfigKey}
use Rattle.asm_lines.specs.Tables.{row_of}
use Rattle.rv32_listing.specs.WordLines.{code_line}
use Rattle.rv32_listing.specs.Disassembly.{code_lines, setting_line}

-- a prefix of the first piece
pub AppendsPrefix-front : (a b : Option (List ℕ)) (next rest : List ℕ) → AppendsPrefix a b next → AppendsPrefix a b (next ++ rest)
AppendsPrefix-front a b next rest p =
    let n = p.0 in
    (n, simp length-append (omega (arith, p.1)), subst (Appends a b) (sym (take-append-le n next rest p.1)) p.2)

-- the next record's line, and the lines behind it
pub lines_more : {T : Type 0} (f : T → List ℕ) (xs : List T) (i : ℕ) (d : T) → i < length xs
    → flat_map f (drop i xs) ≡ f (get_or xs i d) ++ flat_map f (drop (i + 1) xs)
lines_more f xs i d p = ap (flat_map f) (drop_more xs i d p)

-- the next code word's line, and the lines behind it
pub code_more : (words : ℕ) (xs : List ℕ) (i : ℕ) → i < length xs
    → code_lines words i (drop i xs) ≡ code_line words (4 * i) (get_or xs i 0) ++ code_lines words (i + 1) (drop (i + 1) xs)
code_more words xs i p = ap (code_lines words i) (drop_more xs i 0 p)

-- the next setting's line, and the lines behind it
pub keys_more : (config : Config) (keys : List (Bor (List ℕ) × ConfigKey)) (i : ℕ) (d : Bor (List ℕ) × ConfigKey) → i < length keys
    → flat_map (setting_line config) (map row_of (drop i keys)) ≡ setting_line config (row_of (get_or keys i d)) ++ flat_map (setting_line config) (map row_of (drop (i + 1) keys))
keys_more config keys i d p = ap (λ l. flat_map (setting_line config) (map row_of l)) (drop_more keys i d p)

-- each name of settings with short names is short
pub short_key : (keys : List (Bor (List ℕ) × ConfigKey)) (i : ℕ) (d : Bor (List ℕ) × ConfigKey)
    → list_all (λ row. nat_le (length row.0) 16) (map row_of keys) ≡ true → i < length keys → length (get_or keys i d).0.now ≤ 16
short_key [] i d h p = absurd (omega arith)
short_key (key ∷ keys) zero d h p = leb-true (length key.0.now) 16 (and_parts (nat_le (length key.0.now) 16) (list_all (λ row. nat_le (length row.0) 16) (map row_of keys)) h).0
short_key (key ∷ keys) (suc i) d h p = short_key keys i d (and_parts (nat_le (length key.0.now) 16) (list_all (λ row. nat_le (length row.0) 16) (map row_of keys)) h).1 (omega arith)
