-- How many words a statement gives: a quarter of its bytes.
use Rattle.std.proofs.Common.{◌≡◌, ℕ, ◌*◌, ◌/◌, ◌%◌, ◌==◌, ℤ, pos, negsuc, List, length, map, replicate, Bool, true, false, arith, refl, ap}
use Rattle.std.specs.Prelude.{Option, Some, None, is_none, unwrap_or, if◌then◌else◌}
use Rattle.std.proofs.lemmas.Bool.{or_parts, eqb-true, not-false}
use Rattle.std.proofs.lemmas.List.{length-map, length-replicate}
use Rattle.rv32_isa.specs.Listing.{encoded}
use Rattle.asm_places.specs.Names.{Names, meaning}
use Rattle.asm_places.specs.Operands.{constant_of, number_of, value_of, fits_low}
use Rattle.asm_causes.specs.Causes.{is_out_of_range, has_constant_out_of_range, stands_for_nothing, is_label_operand, has_undefined, has_wrong_kind, is_label}
use Rattle.asm_causes.specs.Places.{space_size, load_size, size_of}
use Rattle.rv32_asm.specs.Instructions.{load_constant, register_of, words}
use Rattle.asm_lines.specs.Language.{Operand, Number, Named, Statement, Words, Space, LoadConstant}
use Rattle.asm_places.specs.Place.{Place}
use Rattle.asm_places.specs.declared.places.Meaning.{Meaning}
use Rattle.asm_places.specs.declared.places.Meaning.TheVariants.{Label, Constant}

-- the zeros of `.space`
space_words : (c : Operand) (o : Option ℤ) → is_out_of_range (Space c) o ≡ false → 4 * length {A = ℕ} (replicate (space_size o / 4) 0) ≡ space_size o
space_words c None e = refl
space_words c (Some (negsuc value)) e = refl
space_words c (Some (pos value)) e =
    let whole : value % 4 ≡ 0 = eqb-true (value % 4) 0 (not-false (value % 4 == 0) e) in
    let long : length {A = ℕ} (replicate (value / 4) 0) ≡ value / 4 = length-replicate (value / 4) 0 in
    omega (arith, whole, long)

load_words : (rd : ℕ) (value : ℤ) (b : Bool) → fits_low value ≡ b → 4 * length (map encoded (load_constant rd value)) ≡ (if fits_low value then 4 else 8)
load_words rd value true e = rw e refl
load_words rd value false e = rw e refl

-- the instructions of `li`, where its constant has a value
load_known : (rd : ℕ) (o : Option ℤ) (value : ℤ) → o ≡ Some value → 4 * length (map encoded (load_constant rd (unwrap_or o (pos 0)))) ≡ load_size o
load_known rd (Some known) value e = load_words rd known (fits_low known) refl
load_known rd None value e = absurd (cc)

number_known : (m : Option Meaning) → is_none m ≡ false → is_label m ≡ false → (value : ℤ) × (number_of m ≡ Some value)
number_known None e f = absurd (cc)
number_known (Some (Label line)) e f = absurd (cc)
number_known (Some (Constant value)) e f = (value, refl)

-- an operand that stands for something and for no label
constant_known : (names : Names) (o : Operand) → stands_for_nothing names o ≡ false → is_label_operand names o ≡ false → (value : ℤ) × (constant_of names o ≡ Some value)
constant_known names (Number value) e f = (value, refl)
constant_known names (Named s) e f = number_known (meaning names s) e f

module _ (names : Names) (places : List Place) (from : Place) where
  -- the words of a statement fill its bytes
  pub words_fill : (s : Statement) → has_constant_out_of_range names s ≡ false → has_undefined names s ≡ false → has_wrong_kind names s ≡ false → 4 * length (words names places from s) ≡ size_of names s
  words_fill (Words values) e u k = ap (λ (n : ℕ). 4 * n) (length-map values (value_of names places))
  words_fill (Space c) e u k = space_words c (constant_of names c) e
  words_fill (LoadConstant d c) e u k =
      let something = (or_parts (stands_for_nothing names c) _ u).0 in
      let no_label = (or_parts (is_label_operand names c) _ k).0 in
      let known = constant_known names c something no_label in
      load_known (register_of d) (constant_of names c) known.0 known.1
  words_fill s e u k = refl
