-- Each format gives its immediate back.
use Rattle.std.proofs.Common.{◌≡◌, refl, ℕ, ℤ, pos, negsuc, suc, ◌+◌, ◌-◌, ◌*◌, ◌/◌, ◌%◌, ◌^◌, ◌<◌, ◌≤◌, ◌∙◌, ap, inl, inr, sym, subst, arith}
use Rattle.std.proofs.lemmas.Int.{ints}
use Rattle.std.proofs.lemmas.Bool.Decides.{nat_tests, leb_tells}
use Rattle.rv32_isa.specs.Formats.{field, signed, unsigned, i_immediate, s_immediate, b_immediate, u_immediate, j_immediate}
use Rattle.rv32_isa.specs.Listing.{IsImmediate12, IsBranchOffset, IsJumpOffset, IsUpper, IsShift}

-- the two cases of a number in two's complement
pub signed_below : (bits n : ℕ) → n < 2 ^ (bits - 1) → signed bits n ≡ pos n
signed_below bits n low = grind (arith, nat_tests)

pub signed_above : (bits n : ℕ) → 2 ^ (bits - 1) ≤ n → signed bits n ≡ negsuc (2 ^ bits - suc n)
signed_above bits n high = grind (arith, nat_tests)

by_sign : (P : ℤ → Type 0) (bits n : ℕ) → (n < 2 ^ (bits - 1) → P (pos n)) → (2 ^ (bits - 1) ≤ n → P (negsuc (2 ^ bits - suc n))) → P (signed bits n)
by_sign P bits n low high =
    elim (leb_tells (suc n) (2 ^ (bits - 1))) [
      | inl t ↦ let below : n < 2 ^ (bits - 1) = omega arith in subst P (sym (signed_below bits n below)) (low below)
      | inr t ↦ let above : 2 ^ (bits - 1) ≤ n = omega arith in subst P (sym (signed_above bits n above)) (high above)
    ]

pub i_back : (imm : ℤ) → IsImmediate12 imm → i_immediate (field (unsigned imm) 5 7) (field (unsigned imm) 0 5) ≡ imm
i_back (pos n) h =
    let small : n ≤ 2047 = omega (arith, ints, h.1) in
    let same : (n / 2 ^ 5 % 2 ^ 7) * 2 ^ 5 + n / 2 ^ 0 % 2 ^ 5 ≡ n = omega (arith) in
    rw same (signed_below 12 n (omega arith))
i_back (negsuc n) h =
    let small : n ≤ 2047 = omega (arith, ints, h.0) in
    let u : ℕ = 2 ^ 32 - suc n in
    let same : (u / 2 ^ 5 % 2 ^ 7) * 2 ^ 5 + u / 2 ^ 0 % 2 ^ 5 ≡ 2 ^ 12 - suc n = omega (arith) in
    rw same (signed_above 12 (2 ^ 12 - suc n) (omega arith) ∙ ap negsuc (omega arith))

pub s_back : (imm : ℤ) → IsImmediate12 imm → s_immediate (field (unsigned imm) 5 7) (field (unsigned imm) 0 5) ≡ imm
s_back (pos n) h =
    let small : n ≤ 2047 = omega (arith, ints, h.1) in
    let same : (n / 2 ^ 5 % 2 ^ 7) * 2 ^ 5 + n / 2 ^ 0 % 2 ^ 5 ≡ n = omega (arith) in
    rw same (signed_below 12 n (omega arith))
s_back (negsuc n) h =
    let small : n ≤ 2047 = omega (arith, ints, h.0) in
    let u : ℕ = 2 ^ 32 - suc n in
    let same : (u / 2 ^ 5 % 2 ^ 7) * 2 ^ 5 + u / 2 ^ 0 % 2 ^ 5 ≡ 2 ^ 12 - suc n = omega (arith) in
    rw same (signed_above 12 (2 ^ 12 - suc n) (omega arith) ∙ ap negsuc (omega arith))

pub b_back : (imm : ℤ) → IsBranchOffset imm → b_immediate (field (unsigned imm) 12 1 * 2 ^ 6 + field (unsigned imm) 5 6) (field (unsigned imm) 1 4 * 2 + field (unsigned imm) 11 1) ≡ imm
b_back (pos n) h =
    let small : n ≤ 4094 = omega (arith, ints, h.1) in
    let same : (n / 2 ^ 12 % 2 ^ 1 * 2 ^ 6 + n / 2 ^ 5 % 2 ^ 6) / 2 ^ 6 * 2 ^ 12 + (n / 2 ^ 1 % 2 ^ 4 * 2 + n / 2 ^ 11 % 2 ^ 1) % 2 * 2 ^ 11 + (n / 2 ^ 12 % 2 ^ 1 * 2 ^ 6 + n / 2 ^ 5 % 2 ^ 6) % 2 ^ 6 * 2 ^ 5 + (n / 2 ^ 1 % 2 ^ 4 * 2 + n / 2 ^ 11 % 2 ^ 1) / 2 * 2 ≡ n = omega (arith, h.2) in
    rw same (signed_below 13 n (omega arith))
b_back (negsuc n) h =
    let small : n ≤ 4095 = omega (arith, ints, h.0) in
    let u : ℕ = 2 ^ 32 - suc n in
    let same : (u / 2 ^ 12 % 2 ^ 1 * 2 ^ 6 + u / 2 ^ 5 % 2 ^ 6) / 2 ^ 6 * 2 ^ 12 + (u / 2 ^ 1 % 2 ^ 4 * 2 + u / 2 ^ 11 % 2 ^ 1) % 2 * 2 ^ 11 + (u / 2 ^ 12 % 2 ^ 1 * 2 ^ 6 + u / 2 ^ 5 % 2 ^ 6) % 2 ^ 6 * 2 ^ 5 + (u / 2 ^ 1 % 2 ^ 4 * 2 + u / 2 ^ 11 % 2 ^ 1) / 2 * 2 ≡ 2 ^ 13 - suc n = omega (arith, h.2) in
    rw same (signed_above 13 (2 ^ 13 - suc n) (omega arith) ∙ ap negsuc (omega arith))

pub j_back : (imm : ℤ) → IsJumpOffset imm → j_immediate (field (unsigned imm) 20 1 * 2 ^ 6 + field (unsigned imm) 5 6) (field (unsigned imm) 1 4 * 2 + field (unsigned imm) 11 1) (field (unsigned imm) 15 5) (field (unsigned imm) 12 3) ≡ imm
j_back (pos n) h =
    let small : n ≤ 1048574 = omega (arith, ints, h.1) in
    let same : (n / 2 ^ 20 % 2 ^ 1 * 2 ^ 6 + n / 2 ^ 5 % 2 ^ 6) / 2 ^ 6 * 2 ^ 20 + n / 2 ^ 15 % 2 ^ 5 * 2 ^ 15 + n / 2 ^ 12 % 2 ^ 3 * 2 ^ 12 + (n / 2 ^ 1 % 2 ^ 4 * 2 + n / 2 ^ 11 % 2 ^ 1) % 2 * 2 ^ 11 + (n / 2 ^ 20 % 2 ^ 1 * 2 ^ 6 + n / 2 ^ 5 % 2 ^ 6) % 2 ^ 6 * 2 ^ 5 + (n / 2 ^ 1 % 2 ^ 4 * 2 + n / 2 ^ 11 % 2 ^ 1) / 2 * 2 ≡ n = omega (arith, h.2) in
    rw same (signed_below 21 n (omega arith))
j_back (negsuc n) h =
    let small : n ≤ 1048575 = omega (arith, ints, h.0) in
    let u : ℕ = 2 ^ 32 - suc n in
    let same : (u / 2 ^ 20 % 2 ^ 1 * 2 ^ 6 + u / 2 ^ 5 % 2 ^ 6) / 2 ^ 6 * 2 ^ 20 + u / 2 ^ 15 % 2 ^ 5 * 2 ^ 15 + u / 2 ^ 12 % 2 ^ 3 * 2 ^ 12 + (u / 2 ^ 1 % 2 ^ 4 * 2 + u / 2 ^ 11 % 2 ^ 1) % 2 * 2 ^ 11 + (u / 2 ^ 20 % 2 ^ 1 * 2 ^ 6 + u / 2 ^ 5 % 2 ^ 6) % 2 ^ 6 * 2 ^ 5 + (u / 2 ^ 1 % 2 ^ 4 * 2 + u / 2 ^ 11 % 2 ^ 1) / 2 * 2 ≡ 2 ^ 21 - suc n = omega (arith, h.2) in
    rw same (signed_above 21 (2 ^ 21 - suc n) (omega arith) ∙ ap negsuc (omega arith))

pub u_back : (imm : ℤ) → IsUpper imm → u_immediate (field (unsigned imm) 13 7) (field (unsigned imm) 8 5) (field (unsigned imm) 3 5) (field (unsigned imm) 0 3) ≡ imm
u_back (pos n) h = let small : n ≤ 1048575 = omega (arith, ints, h.1) in ap pos (omega arith)
u_back (negsuc n) h = absurd (omega (arith, ints, h.0))

pub shift_back : (imm : ℤ) → IsShift imm → pos (unsigned imm) ≡ imm
shift_back (pos n) h = refl
shift_back (negsuc n) h = absurd (omega (arith, ints, h.0))

pub shift_fits : (imm : ℤ) → IsShift imm → unsigned imm < 2 ^ 5
shift_fits (pos n) h = omega (arith, ints, h.1)
shift_fits (negsuc n) h = absurd (omega (arith, ints, h.0))

-- an immediate from the columns is in range, and fills these columns
pub record FillsTwo (IsRange : ℤ → Type 0) (imm : ℤ) (high low : ℕ) : Type 0 where
  pub range : IsRange imm
  pub high_same : field (unsigned imm) 5 7 ≡ high
  pub low_same : field (unsigned imm) 0 5 ≡ low

pub i_fills : (funct7 rs2 : ℕ) → funct7 < 2 ^ 7 → rs2 < 2 ^ 5 → FillsTwo IsImmediate12 (i_immediate funct7 rs2) funct7 rs2
i_fills funct7 rs2 a b =
    by_sign (λ imm. FillsTwo IsImmediate12 imm funct7 rs2) 12 (funct7 * 2 ^ 5 + rs2)
    (λ low. record { range = (omega (arith, ints), omega (arith, ints)); high_same = omega arith; low_same = omega arith })
    (λ high. record { range = (omega (arith, ints), omega (arith, ints)); high_same = omega arith; low_same = omega arith })

pub record FillsBranch (imm : ℤ) (high low : ℕ) : Type 0 where
  pub range : IsBranchOffset imm
  pub high_same : field (unsigned imm) 12 1 * 2 ^ 6 + field (unsigned imm) 5 6 ≡ high
  pub low_same : field (unsigned imm) 1 4 * 2 + field (unsigned imm) 11 1 ≡ low

pub b_fills : (funct7 rd : ℕ) → funct7 < 2 ^ 7 → rd < 2 ^ 5 → FillsBranch (b_immediate funct7 rd) funct7 rd
b_fills funct7 rd a b =
    by_sign (λ imm. FillsBranch imm funct7 rd) 13 (funct7 / 2 ^ 6 * 2 ^ 12 + rd % 2 * 2 ^ 11 + funct7 % 2 ^ 6 * 2 ^ 5 + rd / 2 * 2)
    (λ low. record { range = (omega (arith, ints), omega (arith, ints), omega arith); high_same = omega arith; low_same = omega arith })
    (λ high. record { range = (omega (arith, ints), omega (arith, ints), omega arith); high_same = omega arith; low_same = omega arith })

pub record FillsJump (imm : ℤ) (funct7 rs2 rs1 funct3 : ℕ) : Type 0 where
  pub range : IsJumpOffset imm
  pub funct7_same : field (unsigned imm) 20 1 * 2 ^ 6 + field (unsigned imm) 5 6 ≡ funct7
  pub rs2_same : field (unsigned imm) 1 4 * 2 + field (unsigned imm) 11 1 ≡ rs2
  pub rs1_same : field (unsigned imm) 15 5 ≡ rs1
  pub funct3_same : field (unsigned imm) 12 3 ≡ funct3

pub j_fills : (funct7 rs2 rs1 funct3 : ℕ) → funct7 < 2 ^ 7 → rs2 < 2 ^ 5 → rs1 < 2 ^ 5 → funct3 < 2 ^ 3 → FillsJump (j_immediate funct7 rs2 rs1 funct3) funct7 rs2 rs1 funct3
j_fills funct7 rs2 rs1 funct3 a b c d =
    by_sign (λ imm. FillsJump imm funct7 rs2 rs1 funct3) 21
    (funct7 / 2 ^ 6 * 2 ^ 20 + rs1 * 2 ^ 15 + funct3 * 2 ^ 12 + rs2 % 2 * 2 ^ 11 + funct7 % 2 ^ 6 * 2 ^ 5 + rs2 / 2 * 2)
    (λ low. record { range = (omega (arith, ints), omega (arith, ints), omega arith); funct7_same = omega arith; rs2_same = omega arith; rs1_same = omega arith; funct3_same = omega arith })
    (λ high. record { range = (omega (arith, ints), omega (arith, ints), omega arith); funct7_same = omega arith; rs2_same = omega arith; rs1_same = omega arith; funct3_same = omega arith })

pub record FillsUpper (imm : ℤ) (funct7 rs2 rs1 funct3 : ℕ) : Type 0 where
  pub range : IsUpper imm
  pub funct7_same : field (unsigned imm) 13 7 ≡ funct7
  pub rs2_same : field (unsigned imm) 8 5 ≡ rs2
  pub rs1_same : field (unsigned imm) 3 5 ≡ rs1
  pub funct3_same : field (unsigned imm) 0 3 ≡ funct3

pub u_fills : (funct7 rs2 rs1 funct3 : ℕ) → funct7 < 2 ^ 7 → rs2 < 2 ^ 5 → rs1 < 2 ^ 5 → funct3 < 2 ^ 3 → FillsUpper (u_immediate funct7 rs2 rs1 funct3) funct7 rs2 rs1 funct3
u_fills funct7 rs2 rs1 funct3 a b c d =
    record { range = (omega (arith, ints), omega (arith, ints)); funct7_same = omega arith; rs2_same = omega arith; rs1_same = omega arith; funct3_same = omega arith }
