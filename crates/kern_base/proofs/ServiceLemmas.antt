-- Numbers that no service has.
use Rattle.std.proofs.Common.{◌≡◌, ℕ, zero, suc, ◌<◌, ◌≤◌, refl, sym, arith}
use Rattle.std.proofs.lemmas.List.{get_or_past}
use Rattle.kern_base.specs.Services.{services, service_of}
use Rattle.kern_base.specs.declared.services.Service.TheVariants.{Unknown}

-- 0 and the numbers above 39
pub service_of-unknown : (n : ℕ) → (0 < n → 39 < n) → Unknown n ≡ service_of n
service_of-unknown zero p = refl
service_of-unknown (suc n) p =
    let past : 39 ≤ n = omega (arith, p (omega arith)) in
    sym (get_or_past services n (Unknown (suc n)) past)
