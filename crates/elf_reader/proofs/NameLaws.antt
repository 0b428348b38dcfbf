-- The names that are known.
use Rattle.std.proofs.Common.{◌≡◌, ℕ, List, [], ◌∷◌, ◌++◌, Bool, true, false, cond, ◌||◌, sym, ap, ◌∙◌, refl}
use Rattle.std.specs.Prelude.{Option, Some, None, is_some, is_none}
use Rattle.std.specs.List.{list_any}
use Rattle.std.specs.Str.{bytes_eq}
use Rattle.std.proofs.lemmas.Bool.{false_from_ne_true}
use Rattle.std.proofs.lemmas.Slice.Eq.{bytes_eq-Decides}
use Rattle.app_image.specs.declared.records.Symbol.{Symbol}
use Rattle.elf_reader.specs.Symbols.{name_of, is_known, add_symbol}

-- a comparison of bytes does not depend on the order
swapped_by : (a b : List ℕ) (r : Bool) → bytes_eq a b ≡ r → bytes_eq b a ≡ r
swapped_by a b true e = (bytes_eq-Decides b a).1 (sym ((bytes_eq-Decides a b).0 e))
swapped_by a b false e =
    let apart : bytes_eq b a ≡ true → ⊥ = λ t. let back : bytes_eq a b ≡ true = (bytes_eq-Decides a b).1 (sym ((bytes_eq-Decides b a).0 t)) in cc in
    false_from_ne_true (bytes_eq b a) apart

swapped : (a b : List ℕ) → bytes_eq b a ≡ bytes_eq a b
swapped a b = swapped_by a b (bytes_eq a b) refl

any_push : {T : Type 0} (p : T → Bool) (xs : List T) (x : T) → list_any p (xs ++ x ∷ []) ≡ (p x || list_any p xs)
any_push p [] x = refl
any_push p (y ∷ ys) x = ap (λ b. p y || b) (any_push p ys x) ∙ moved (p y) (p x) (list_any p ys)
  where
    moved : (a b c : Bool) → (a || (b || c)) ≡ (b || (a || c))
    moved true true c = refl
    moved true false c = refl
    moved false b c = refl

-- what is known once a symbol stands behind the others
pub known_push : (bytes : List ℕ) (xs : List Symbol) (x : Symbol) (q : List ℕ) → is_known bytes (xs ++ x ∷ []) q ≡ (bytes_eq (name_of bytes x) q || is_known bytes xs q)
known_push bytes xs x q =
    any_push (λ y. bytes_eq q (name_of bytes y)) xs x ∙ ap (λ b. b || is_known bytes xs q) (swapped (name_of bytes x) q)

-- a map with one more name
pub some_cond : (b : Bool) (v : ℕ) (o r : Option ℕ) → r ≡ cond b (Some v) o → is_some r ≡ (b || is_some o)
some_cond true v o r e = ap is_some e
some_cond false v o r e = ap is_some e

-- a new symbol, and one whose name is known
pub added_new : (bytes : List ℕ) (xs : List Symbol) (x : Symbol) → is_known bytes xs (name_of bytes x) ≡ false → xs ++ x ∷ [] ≡ add_symbol bytes xs x
added_new bytes xs x e = rw e refl

pub added_known : (bytes : List ℕ) (xs : List Symbol) (x : Symbol) → is_known bytes xs (name_of bytes x) ≡ true → xs ≡ add_symbol bytes xs x
added_known bytes xs x e = rw e refl

-- an end that is there
pub some_end : (o : Option ℕ) → is_some o ≡ true → is_none o ≡ false
some_end None e = cc
some_end (Some n) e = refl
