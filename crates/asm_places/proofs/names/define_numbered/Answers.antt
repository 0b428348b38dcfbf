use Rattle.std.proofs.Common.{◌≡◌, ℕ, zero, suc, ◌-◌, ◌<◌, List, arith, ◌∙◌, ap, to_z, of_z, w64}
use Rattle.std.proofs.lemmas.Int.{ints}
use Rattle.std.specs.Prelude.{Option, None, pos}
use Rattle.std.specs.Option.{option_or}
use Rattle.kern_base.specs.Services.{service_of, service_name}
use Rattle.asm_places.specs.Names.{first_of, services_defined}
use Rattle.asm_places.specs.NamesView.{known_in, first_or}
use Rattle.asm_places.specs.declared.places.Meaning.TheVariants.{Constant}
use Rattle.asm_places.specs.declared.places.Definition.{Definition}
use Rattle.asm_places.proofs.NameLaws.{option_or-first_or}
use Rattle.asm_places.proofs.names.define_numbered.Goals as goal

step : (n : ℕ) (q : List ℕ) (old new : Option Definition) → 0 < n → new ≡ first_or old (service_name (service_of n)) (record { line = None; meaning = Constant (pos n) }) q → option_or new (first_of (services_defined (n - 1)) q) ≡ option_or old (first_of (services_defined n) q)
step zero q old new h e = absurd (omega arith)
step (suc n) q old new h e =
    let same : suc n - 1 ≡ n = omega arith in
    ap (λ m. option_or new (first_of (services_defined m) q)) same ∙ (ap (λ o. option_or o (first_of (services_defined n) q)) e ∙ option_or-first_or old (service_name (service_of (suc n))) q (record { line = None; meaning = Constant (pos (suc n)) }) (services_defined n))

pub loop-number-preserved : goal.loop-number-preserved
loop-number-preserved c = λ q.
    let spelled : c.as_bytes.result.now ≡ service_name (service_of c.loop-number.number) = grind (arith, c.as_bytes.ensures.value, c.text.ensures, c.of.ensures) in
    let number : to_z w64 (of_z w64 c.from.result) ≡ pos c.loop-number.number = omega (arith, ints, c.from.ensures) in
    let d = c.in_ok-define.ensures q in
    step c.loop-number.number q (known_in c.loop-number.names q) (known_in c.define.new.names q) (omega arith) (rw (spelled, number) at d) ∙ c.loop-number.invariant q
