-- A name that a line defines first is no service's.
use Rattle.std.proofs.Common.{◌≡◌, ℕ, zero, suc, List, ◌++◌, Bool, true, false, ◌||◌, cond, refl, sym, ap, ◌∙◌}
use Rattle.std.specs.Prelude.{Option, Some, None}
use Rattle.std.specs.Str.{bytes_eq}
use Rattle.std.proofs.lemmas.Slice.Eq.{bytes_eq-Decides}
use Rattle.kern_base.specs.Services.{service_name, service_of}
use Rattle.app_image.specs.Names.{names_service, is_service_name}
use Rattle.asm_places.specs.Names.{Defined, first_of, services_defined, defined_at_start}
use Rattle.asm_places.specs.NameSteps.{names_of, all_defined, no_counts}
use Rattle.asm_lines.specs.Language.{Line}
use Rattle.asm_places.specs.declared.places.Definition.{Definition}

-- the line of a definition, by how many lines stand before it
abbrev pub first_line : Option Definition → Option ℕ
first_line None = None
first_line (Some d) = d.line

turned_by : (a b : List ℕ) (r s : Bool) → bytes_eq a b ≡ r → bytes_eq b a ≡ s → r ≡ s
turned_by a b true s e f = let back : bytes_eq b a ≡ true = (bytes_eq-Decides b a).1 (sym ((bytes_eq-Decides a b).0 e)) in sym back ∙ f
turned_by a b false true e f = let there : bytes_eq a b ≡ true = (bytes_eq-Decides a b).1 (sym ((bytes_eq-Decides b a).0 f)) in sym e ∙ there
turned_by a b false false e f = refl

-- two names are the same in either order
pub bytes_eq_turned : (a b : List ℕ) → bytes_eq a b ≡ bytes_eq b a
bytes_eq_turned a b = turned_by a b (bytes_eq a b) (bytes_eq b a) refl refl

-- the first of the definitions of services and of others, where this is the test of the first of them
found : (b rest : Bool) (d : Definition) (o : Option Definition) → d.line ≡ None → (b || rest) ≡ true → (rest ≡ true → first_line o ≡ None) → first_line (cond b (Some d) o) ≡ None
found true rest d o none h k = none
found false rest d o none h k = k h

-- the name of a service is defined on no line
service_first : (n : ℕ) (name : List ℕ) (more : Defined) → names_service n name ≡ true → first_line (first_of (services_defined n ++ more) name) ≡ None
unfolding names_service
service_first zero name more h = absurd cc
service_first (suc n) name more h =
    let service = service_name (service_of (suc n)) in
    let tested : (bytes_eq name service || names_service n name) ≡ true = ap (λ b. b || names_service n name) (bytes_eq_turned name service) ∙ h in
    found (bytes_eq name service) (names_service n name) _ (first_of (services_defined n ++ more) name) refl tested (service_first n name more)

no_service_by : (name : List ℕ) (o : Option ℕ) (line : ℕ) (b : Bool) → o ≡ Some line → (b ≡ true → o ≡ None) → b ≡ false
no_service_by name o line true e h = let none : o ≡ None = h refl in absurd cc
no_service_by name o line false e h = refl

pub no_service : (lines : List Line) (name : List ℕ) (line : ℕ) → first_line (names_of lines name) ≡ Some line → is_service_name name ≡ false
unfolding is_service_name defined_at_start
no_service lines name line e =
    no_service_by name (first_line (names_of lines name)) line (names_service 39 name) e (service_first 39 name (all_defined no_counts lines))
