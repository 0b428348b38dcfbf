use Rattle.std.proofs.Common.{◌≡◌, ℕ, zero, suc, ◌-◌, ◌<◌, List, false, arith, sym, ◌∙◌, ap}
use Rattle.std.specs.Prelude.{if◌then◌else◌, Some}
use Rattle.std.specs.Str.{bytes_eq}
use Rattle.kern_base.specs.Services.{service_of, service_name}
use Rattle.asm_lines.specs.Words.{service_numbered}
use Rattle.asm_lines.proofs.words.service_numbered.Goals as goal

step : (n : ℕ) (name : List ℕ) → 0 < n → bytes_eq (service_name (service_of n)) name ≡ false → service_numbered (n - 1) name ≡ service_numbered n name
step zero name h e = absurd (omega arith)
step (suc n) name h e =
    let same : suc n - 1 ≡ n = omega arith in
    ap (λ m. service_numbered m name) same ∙ sym (ap (λ b. if b then Some (suc n) else service_numbered n name) e)

pub loop-number-preserved : goal.loop-number-preserved
loop-number-preserved c =
    let e : bytes_eq (service_name (service_of c.loop-number.number)) c.args.name.now ≡ false = grind (arith, c.if-eq.ensures, c.if-eq.false, c.as_bytes.ensures.value, c.text.ensures, c.of.ensures, c.from.ensures) in
    step c.loop-number.number c.args.name.now (omega arith) e ∙ c.loop-number.invariant
