-- Why no place lies past 2 ^ 64.
use Rattle.std.proofs.Common.{◌≡◌, ℕ, ℤ, pos, ◌+◌, ◌*◌, ◌≤◌, ◌<◌, ◌^◌, List, arith, ◌∙◌, sym, ap, refl, true, subst, zero, suc}
use Rattle.std.proofs.lemmas.Int.{ints}
use Rattle.std.specs.Prelude.{Option, Some, None, IfSome, negsuc}
use Rattle.asm_lines.specs.Language.{Operand, Number, Named, Statement, Sections}
use Rattle.asm_lines.specs.declared.mnemonics.Section.{Section}
use Rattle.asm_lines.specs.declared.mnemonics.Section.TheVariants.{Nowhere, Code, Ram}
use Rattle.asm_places.specs.Names.{Names}
use Rattle.asm_places.specs.Operands.{constant_of, number_of}
use Rattle.asm_places.specs.declared.places.Definition.{Definition}
use Rattle.asm_places.specs.declared.places.Meaning.{Meaning}
use Rattle.asm_places.specs.declared.places.Meaning.TheVariants.{Label, Constant}
use Rattle.asm_places.specs.Place.{Place}
use Rattle.asm_causes.specs.Places.{space_size}
use Rattle.asm_causes.specs.PlaceSteps.{filled, turned}
use Rattle.asm_causes.specs.Sizes.{IsSmall, HasSmallNumber, IsSmallMeaning, AreSmall, most_bytes, IsBehind}
use Rattle.std.specs.Option.{option_map}

value_size : (value : ℤ) → IsSmall value → space_size (Some value) ≤ 4294967295
value_size (pos n) h = omega (arith, ints, h)
value_size (negsuc n) h = omega arith

meaning_size : (m : Meaning) → IsSmallMeaning m → space_size (number_of (Some m)) ≤ 4294967295
meaning_size (Label line) h = omega arith
meaning_size (Constant value) h = value_size value h

known_size : (o : Option Definition) → IfSome o (λ d. IsSmallMeaning d.meaning) → space_size (number_of (option_map (λ d. d.meaning) o)) ≤ 4294967295
known_size None h = omega arith
known_size (Some d) h = meaning_size d.meaning h

-- the bytes of `.space`
pub space_small : (names : Names) (o : Operand) → AreSmall names → HasSmallNumber o → space_size (constant_of names o) ≤ 4294967295
space_small names (Number value) all h = value_size value h
space_small names (Named name) all h = known_size (names name) (all name)

-- a line more
filled_behind : (section : Section) (size k : ℕ) (p : Place) → IsBehind k p → size ≤ most_bytes → IsBehind (k + 1) (filled section size p)
filled_behind Nowhere size k p h few = record { code = omega (arith, h.code); ram = omega (arith, h.ram) }
filled_behind Code size k p h few = record { code = omega (arith, h.code, few); ram = omega (arith, h.ram) }
filled_behind Ram size k p h few = record { code = omega (arith, h.code); ram = omega (arith, h.ram, few) }

turned_behind : (s : Statement) (k : ℕ) (p : Place) → IsBehind k p → IsBehind k (turned s p)
turned_behind (Sections section) k p h = record { code = h.code; ram = h.ram }
turned_behind _ k p h = record { code = h.code; ram = h.ram }

pub line_behind : (s : Statement) (section : Section) (size k : ℕ) (p q : Place) → IsBehind k p → size ≤ most_bytes → q ≡ turned s (filled section size p) → IsBehind (k + 1) q
line_behind s section size k p q h few e = subst (IsBehind (k + 1)) (sym e) (turned_behind s (k + 1) (filled section size p) (filled_behind section size k p h few))

-- so far from the end
pub code_room : (k size : ℕ) (p : Place) → IsBehind k p → k < 2 ^ 24 → size ≤ most_bytes → p.code + size < 2 ^ 64
code_room k size p h few less = omega (arith, h.code, few, less)

pub ram_room : (k size : ℕ) (p : Place) → IsBehind k p → k < 2 ^ 24 → size ≤ most_bytes → p.ram + size < 2 ^ 64
ram_room k size p h few less = omega (arith, h.ram, few, less)
