-- Two choices by equal tests.
use Rattle.machine_laws.proofs.Common.{◌≡◌, Bool, true, false, subst, if◌then◌else◌}

-- what holds of both sides of two choices by equal tests
pub both : {X : Type 0} (P : X → X → Type 0) (b c : Bool) (x y u v : X) → b ≡ c → P x u → P y v → P (if b then x else y) (if c then u else v)
both P b c x y u v e p q =
    subst (λ d. P (if b then x else y) (if d then u else v)) e
    (elim b as (λ d. P (if d then x else y) (if d then u else v)) [ true ↦ p | false ↦ q ])
