-- What each operation on words gives is a word.
use Rattle.std.specs.Prelude.{int_div, int_rem, nat_lt}
use Rattle.std.specs.Int.Signed.{mag}
use Rattle.std.proofs.Common.{ℕ, zero, suc, ◌+◌, ◌-◌, ◌*◌, ◌/◌, ◌%◌, ◌^◌, ◌<◌, ◌≤◌, Bool, true, false, ℤ, pos, negsuc, neg_ℤ, ◌==◌, if◌then◌else◌, inl, inr, sym, subst, arith}
use Rattle.std.proofs.Math.Nat.{div-le_self, mod-le}
use Rattle.std.proofs.lemmas.Int.{ints}
use Rattle.std.proofs.lemmas.Bool.Decides.{leb_tells}
use Rattle.rv32_isa.specs.Formats.{unsigned}
use Rattle.rv32_isa.specs.Listing.{IsImmediate12, IsUpper}
use Rattle.rv32_exec.specs.Words.{flag, signed, extended, shifted_right, high_product, quotient, remainder, quotient_signed, remainder_signed}
use Rattle.rv32_exec.proofs.ChangeLaws.{choice}

abbrev pub IsWord : ℕ → Type 0
IsWord n = n < 2 ^ 32

pub word-low : (n : ℕ) → IsWord (n % 2 ^ 32)
word-low n = omega arith

pub word-up_to : (m n : ℕ) → m ≤ n → IsWord n → IsWord m
word-up_to m n l w = omega (arith, l, w)

pub word-flag : (b : Bool) → IsWord (flag b)
word-flag true = omega arith
word-flag false = omega arith

pub word-extended_byte : (n : ℕ) → n < 2 ^ 8 → IsWord (extended 8 n)
word-extended_byte n h = choice IsWord (nat_lt n (2 ^ 7)) n (2 ^ 32 - 2 ^ 8 + n) (λ _. omega arith) (λ _. omega arith)

pub word-extended_half : (n : ℕ) → n < 2 ^ 16 → IsWord (extended 16 n)
word-extended_half n h = choice IsWord (nat_lt n (2 ^ 15)) n (2 ^ 32 - 2 ^ 16 + n) (λ _. omega arith) (λ _. omega arith)

pub word-shifted_right : (a b : ℕ) → IsWord a → IsWord (shifted_right a b)
word-shifted_right a b w = word-up_to (a / 2 ^ (b % 32)) a (div-le_self a (2 ^ (b % 32))) w

high : (n : ℕ) → IsWord (n % 2 ^ 64 / 2 ^ 32)
high n = omega arith

pub word-high_product : (a b : ℕ) → IsWord (high_product a b)
word-high_product a b = high (a * b)

pub word-quotient : (a b : ℕ) → IsWord a → IsWord (quotient a b)
word-quotient a b w = choice IsWord (b == 0) (2 ^ 32 - 1) (a / b) (λ _. omega arith) (λ _. word-up_to (a / b) a (div-le_self a b) w)

pub word-remainder : (a b : ℕ) → IsWord a → IsWord (remainder a b)
word-remainder a b w = choice IsWord (b == 0) a (a % b) (λ _. w) (λ _. word-up_to (a % b) a (mod-le a b) w)

-- ---- signed numbers

negative : (n : ℕ) → IsWord n → IsWord (unsigned (neg_ℤ (pos n)))
negative zero w = w
negative (suc n) w = omega arith

near : (a : ℕ) → IsWord a → mag (signed a) < 2 ^ 31
near a w =
    elim (leb_tells (suc a) (2 ^ 31)) [
      | inl t ↦ subst (λ b. mag (if b then pos a else negsuc (2 ^ 32 - suc a)) < 2 ^ 31) (sym t.0) t.1
      | inr t ↦ let high = t.1 in subst (λ b. mag (if b then pos a else negsuc (2 ^ 32 - suc a)) < 2 ^ 31) (sym t.0) (omega (arith, high))
    ]

ratio : (a b : ℕ) → a < 2 ^ 31 + 1 → IsWord (a / b)
ratio a b h = let l = div-le_self a b in omega (arith, l, h)

rest : (a b : ℕ) → a < 2 ^ 31 + 1 → IsWord (a % b)
rest a b h = let l = mod-le a b in omega (arith, l, h)

divided : (x d : ℤ) → mag x < 2 ^ 31 → IsWord (unsigned (int_div x d))
divided (pos a) (pos b) h = ratio a b (omega (arith, h))
divided (pos a) (negsuc b) h = negative (a / suc b) (ratio a (suc b) (omega (arith, h)))
divided (negsuc a) (pos b) h = negative (suc a / b) (ratio (suc a) b (omega (arith, h)))
divided (negsuc a) (negsuc b) h = ratio (suc a) (suc b) (omega (arith, h))

remaining : (x d : ℤ) → mag x < 2 ^ 31 → IsWord (unsigned (int_rem x d))
remaining (pos a) (pos b) h = rest a b (omega (arith, h))
remaining (pos a) (negsuc b) h = rest a (suc b) (omega (arith, h))
remaining (negsuc a) (pos b) h = negative (suc a % b) (rest (suc a) b (omega (arith, h)))
remaining (negsuc a) (negsuc b) h = negative (suc a % suc b) (rest (suc a) (suc b) (omega (arith, h)))

pub word-quotient_signed : (a b : ℕ) → IsWord a → IsWord (quotient_signed a b)
word-quotient_signed a b w = choice IsWord (b == 0) (2 ^ 32 - 1) (unsigned (int_div (signed a) (signed b))) (λ _. omega arith) (λ _. divided (signed a) (signed b) (near a w))

pub word-remainder_signed : (a b : ℕ) → IsWord a → IsWord (remainder_signed a b)
word-remainder_signed a b w = choice IsWord (b == 0) a (unsigned (int_rem (signed a) (signed b))) (λ _. w) (λ _. remaining (signed a) (signed b) (near a w))

-- ---- immediates

pub word-immediate : (imm : ℤ) → IsImmediate12 imm → IsWord (unsigned imm)
word-immediate (pos n) h = let top = h.1 in omega (arith, ints, top)
word-immediate (negsuc n) h = omega arith

pub word-upper : (imm : ℤ) → IsUpper imm → IsWord (unsigned imm * 2 ^ 12)
word-upper (pos n) h = let top = h.1 in omega (arith, ints, top)
word-upper (negsuc n) h = absurd (omega (arith, ints, h.0))
