-- Causes of faults over several writes.
use Rattle.std.proofs.Common.{◌≡◌, ◌≤◌, ℕ, sym, subst, arith}
use Rattle.std.specs.Prelude.{Result, Ok, Err, OnErr}
use Rattle.outside.specs.Causes.{HasCause, Rose}
use Rattle.outside.proofs.Known.{Rose-since}

failed-after : {T E : Type 0} (a b c : ℕ) (r : Result T E) → a ≤ b → OnErr r (Rose b c) → OnErr r (Rose a c)
failed-after a b c (Ok x) h f = f
failed-after a b c (Err e) h f = Rose-since a b c h f

-- a write behind others
pub cause-after : {T E : Type 0} (a b c : ℕ) (r : Result T E) → a ≤ b → HasCause b c r → HasCause a c r
cause-after a b c r h k = record { later = omega (arith, h, k.later); failed = failed-after a b c r h k.failed }

-- a write behind others that fails, told as another failure
pub cause-err : {T E : Type 0} (a b c : ℕ) (x : E) (r : Result T E) → a ≤ b → b ≤ c → Rose b c → r ≡ Err x → HasCause a c r
cause-err a b c x r h k rose e =
    record { later = omega (arith, h, k); failed = subst (λ q. OnErr q (Rose a c)) (sym e) (Rose-since a b c h rose) }
