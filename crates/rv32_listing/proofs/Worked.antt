-- Worked lines, computed by the prover.
use Rattle.std.specs.Prelude.{◌≡◌, codes, refl}
use Rattle.std.specs.Fmt.{digits}
use Rattle.rv32_isa.specs.Decoded.{decoded}
use Rattle.rv32_listing.specs.WordLines.{code_line}

add_immediate : code_line 7 16 0x00700893 ≡ codes "code_word_at_address_16: addi x17, x0, 7\n"
unfolding decoded digits
add_immediate = refl

back_to_the_start : code_line 7 24 0xfe9ff06f ≡ codes "code_word_at_address_24: jal x0, code_word_at_address_0\n"
unfolding decoded digits
back_to_the_start = refl

upper_is_not_signed : code_line 1 0 0x80000537 ≡ codes "code_word_at_address_0: lui x10, 524288\n"
unfolding decoded digits
upper_is_not_signed = refl

shift : code_line 2 4 0x40215293 ≡ codes "code_word_at_address_4: srai x5, x2, 2\n"
unfolding decoded digits
shift = refl

other_fence : code_line 1 0 0x0330000f ≡ codes "code_word_at_address_0: .word 0x0330000f\n"
unfolding decoded digits
other_fence = refl

whole_fence : code_line 1 0 0x0ff0000f ≡ codes "code_word_at_address_0: fence\n"
unfolding decoded digits
whole_fence = refl

behind_the_code : code_line 2 4 0x0040006f ≡ codes "code_word_at_address_4: .word 0x0040006f\n"
unfolding decoded digits
behind_the_code = refl

store : code_line 1 0 0xfe112e23 ≡ codes "code_word_at_address_0: sw x1, -4(x2)\n"
unfolding decoded digits
store = refl
