-- Laws of the names of services.
use Rattle.std.proofs.Common.{◌≡◌, ℕ, zero, suc, ◌-◌, ◌<◌, ◌≤◌, List, true, false, ◌||◌, refl, sym, ap, ◌∙◌, arith}
use Rattle.std.specs.Str.{bytes_eq}
use Rattle.kern_base.specs.Services.{service_name, service_of}
use Rattle.app_image.specs.Names.{names_service}

-- the service of a number has the name, or one of a smaller number
services_step : (n : ℕ) (name : List ℕ) → 0 < n → names_service n name ≡ (bytes_eq (service_name (service_of n)) name || names_service (n - 1) name)
unfolding names_service
services_step zero name h = absurd (omega arith)
services_step (suc n) name h =
    let e : n ≡ suc n - 1 = omega arith in
    ap (λ k. bytes_eq (service_name (service_of (suc n))) name || names_service k name) e

pub service_found : (n : ℕ) (name : List ℕ) → 0 < n → bytes_eq (service_name (service_of n)) name ≡ true → names_service n name ≡ true
service_found n name h e = services_step n name h ∙ ap (λ b. b || names_service (n - 1) name) e

pub service_passed : (n : ℕ) (name : List ℕ) → 0 < n → bytes_eq (service_name (service_of n)) name ≡ false → names_service (n - 1) name ≡ names_service n name
service_passed n name h e = sym (services_step n name h ∙ ap (λ b. b || names_service (n - 1) name) e)

pub service_none : (n : ℕ) (name : List ℕ) → n ≤ 0 → names_service n name ≡ false
unfolding names_service
service_none zero name h = refl
service_none (suc n) name h = absurd (omega arith)
