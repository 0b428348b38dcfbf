-- The conditions of waits on event flags. Of an option, bits 0 and 1 say what a wait is for: 0 all bits set, 1 any bit set,
-- 2 all bits clear, 3 any bit clear; bit 2 says that it consumes the bits, bit 3 that it does not block.
use Rattle.std.specs.Prelude.{ℕ, ◌-◌, ◌^◌, Bool, not, Option, Some, None, if◌then◌else◌, ◌==◌, bit_and, bit_or}

-- all 32 bits turned
abbrev pub turned : ℕ → ℕ
turned bits = 2 ^ 32 - 1 - bits

-- whether an option has this bit
abbrev pub has_bit : ℕ → ℕ → Bool
has_bit opt bit = not (bit_and opt bit == 0)

-- of an option, whether the wait is for any of the bits, for clear bits, and whether it consumes them
abbrev pub waits_for_any : ℕ → Bool
waits_for_any option = has_bit option 1

abbrev pub waits_for_clear : ℕ → Bool
waits_for_clear option = has_bit option 2

abbrev pub consumes : ℕ → Bool
consumes option = has_bit option 4

-- whether a post with this option clears bits
abbrev pub clears : ℕ → Bool
clears option = option == 1

-- The ready bits of a wait on these bits; none where its condition does not hold.
abbrev pub ready_bits : ℕ → ℕ → ℕ → Option ℕ
ready_bits bits mask opt =
    let seen = bit_and (if waits_for_clear opt then turned bits else bits) mask in
    if (if waits_for_any opt then not (seen == 0) else seen == mask) then Some seen else None

-- the bits after a post: option 0 sets these bits, 1 clears them
abbrev pub bits_after : ℕ → ℕ → ℕ → ℕ
bits_after old bits opt = if clears opt then bit_and old (turned bits) else bit_or old bits

-- the bits after a wait with this option took its ready bits
abbrev pub consumed : ℕ → ℕ → ℕ → ℕ
consumed bits ready opt =
    if consumes opt then (if waits_for_clear opt then bit_or bits ready else bit_and bits (turned ready)) else bits
