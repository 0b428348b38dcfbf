-- Where no row of a table begins with a byte.
use Rattle.std.proofs.Common.{◌≡◌, ◌∙◌, sym, ℕ, List, [], ◌∷◌, Bool, true, false, cond, ap, refl}
use Rattle.std.specs.Prelude.{◌==◌, ◌||◌}
use Rattle.std.specs.List.{list_all, list_any}
use Rattle.std.proofs.lemmas.Bool.{and_parts, eqb-true, false_from_ne_true}
use Rattle.asm_lines.specs.Registers.{registers}
use Rattle.asm_lines.specs.Mnemonics.{heads}
use Rattle.asm_lines.specs.Initials.{begins_with, rows_by}

differ : (a b : ℕ) → (a ≡ b → ⊥) → (a == b) ≡ false
differ a b h = false_from_ne_true (a == b) (λ e. h (eqb-true a b e))

-- a byte is none of some
abbrev pub IsNone : ℕ → List ℕ → Type 0
IsNone first [] = Unit {0}
IsNone first (byte ∷ bytes) = (first ≡ byte → ⊥) × IsNone first bytes

clash_by : (first c byte : ℕ) (b rest : Bool) → (byte == c) ≡ b → (first ≡ byte → ⊥) → first ≡ c → (b || rest) ≡ true → (rest ≡ true → ⊥) → ⊥
clash_by first c byte true rest e n f h k = n (f ∙ sym (eqb-true byte c e))
clash_by first c byte false rest e n f h k = k h

clash : (first c : ℕ) (bytes : List ℕ) → IsNone first bytes → list_any (λ byte. byte == c) bytes ≡ true → first ≡ c → ⊥
clash first c [] n h e = absurd cc
clash first c (byte ∷ bytes) n h e = clash_by first c byte (byte == c) (list_any (λ b. b == c) bytes) refl n.0 e h (λ k. clash first c bytes n.1 k e)

another : (first : ℕ) (bytes name : List ℕ) → IsNone first bytes → list_any (λ byte. begins_with byte name) bytes ≡ true → begins_with first name ≡ false
another first bytes [] n h = refl
another first bytes (c ∷ cs) n h = differ first c (λ e. clash first c bytes n h e)

-- where each row begins with one of some bytes, no row begins with another
no_rows : {V : Type 0} (first : ℕ) (bytes : List ℕ) (rows : List (List ℕ × V)) → IsNone first bytes → list_all (λ row. list_any (λ byte. begins_with byte row.0) bytes) rows ≡ true → rows_by first rows ≡ []
no_rows first bytes [] n h = refl
no_rows first bytes (row ∷ rows) n h =
    let parts = and_parts (list_any (λ byte. begins_with byte row.0) bytes) (list_all (λ r. list_any (λ byte. begins_with byte r.0) bytes) rows) h in
    ap (λ b. cond b (row ∷ rows_by first rows) (rows_by first rows)) (another first bytes row.0 n parts.0) ∙ no_rows first bytes rows n parts.1

-- the first bytes of the registers' names, and of what a line begins with
abbrev pub register_bytes : List ℕ
register_bytes = 97 ∷ 102 ∷ 103 ∷ 114 ∷ 115 ∷ 116 ∷ 120 ∷ 122 ∷ []

abbrev pub head_bytes : List ℕ
head_bytes = 46 ∷ 97 ∷ 98 ∷ 99 ∷ 100 ∷ 101 ∷ 102 ∷ 106 ∷ 108 ∷ 109 ∷ 110 ∷ 111 ∷ 114 ∷ 115 ∷ 120 ∷ []

pub no_registers : (first : ℕ) → IsNone first register_bytes → rows_by first registers ≡ []
no_registers first n = no_rows first register_bytes registers n refl

pub no_heads : (first : ℕ) → IsNone first head_bytes → rows_by first heads ≡ []
no_heads first n = no_rows first head_bytes heads n refl
