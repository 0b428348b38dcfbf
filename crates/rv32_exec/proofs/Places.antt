-- A word with some of its bytes replaced is a word.
use Rattle.std.proofs.Common.{◌≡◌, ℕ, zero, suc, ◌+◌, ◌-◌, ◌*◌, ◌/◌, ◌%◌, ◌^◌, ◌<◌, ◌≤◌, inl, inr, sym, subst, arith}
use Rattle.rv32_exec.specs.Memory.{IsWidth, replaced}

-- the replacement as the code computes it in 64 bits, from a place in bytes and a width in bytes
abbrev pub computed : (word place width value : ℕ) → ℕ
computed word place width value =
    word - word / 2 ^ (8 * place) % (1 * 2 ^ (8 * width) % 2 ^ 64) * 2 ^ (8 * place) % 2 ^ 64
    + value * 2 ^ (8 * place) % 2 ^ 64

-- it is the replacement, and a word
pub record IsReplaced (word place width value : ℕ) : Type 0 where
  pub fits : computed word place width value < 2 ^ 32
  pub same : computed word place width value ≡ replaced word (8 * place) (8 * width) value

-- where the value has as many bytes as are replaced, and they lie in the word
abbrev pub Replaces : (word place value width : ℕ) → Type 0
Replaces word place value width = place + width ≤ 4 → value < 2 ^ (8 * width) → IsReplaced word place width value

byte : (word place value : ℕ) → word < 2 ^ 32 → Replaces word place value 1
byte word zero value w p v = record { fits = omega arith; same = omega arith }
byte word (suc zero) value w p v = record { fits = omega arith; same = omega arith }
byte word (suc (suc zero)) value w p v = record { fits = omega arith; same = omega arith }
byte word (suc (suc (suc zero))) value w p v = record { fits = omega arith; same = omega arith }
byte word (suc (suc (suc (suc place)))) value w p v = absurd (omega arith)

half : (word place value : ℕ) → word < 2 ^ 32 → Replaces word place value 2
half word zero value w p v = record { fits = omega arith; same = omega arith }
half word (suc zero) value w p v = record { fits = omega arith; same = omega arith }
half word (suc (suc zero)) value w p v = record { fits = omega arith; same = omega arith }
half word (suc (suc (suc place))) value w p v = absurd (omega arith)

whole : (word place value : ℕ) → word < 2 ^ 32 → Replaces word place value 4
whole word zero value w p v = record { fits = omega arith; same = omega arith }
whole word (suc place) value w p v = absurd (omega arith)

pub replaces : (word place width value : ℕ) → word < 2 ^ 32 → IsWidth width → Replaces word place value width
replaces word place width value w is =
    elim is [
      | inl four ↦ subst (Replaces word place value) (sym four) (whole word place value w)
      | inr part ↦
          elim part [
            | inl one ↦ subst (Replaces word place value) (sym one) (byte word place value w)
            | inr two ↦ subst (Replaces word place value) (sym two) (half word place value w)
          ]
    ]
