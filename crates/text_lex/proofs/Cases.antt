-- Small texts and their tokens.
use Rattle.std.proofs.Common.{◌≡◌, [], ◌∷◌, refl, pos, negsuc}
use Rattle.std.specs.Prelude.{codes}
use Rattle.text_lex.specs.Tokens.{Tokens, BadByteAt, TooLargeAt, lexed, token}
use Rattle.text_lex.specs.declared.TokenKind.TheVariants.{Name, Directive, Number, Comma, Open, Close, Colon, End}

nothing : lexed [] ≡ Tokens []
unfolding lexed
nothing = refl

a_line_feed : lexed (codes "\n") ≡ Tokens (token End 1 0 1 ∷ [])
unfolding lexed
a_line_feed = refl

a_blank : lexed (codes " ") ≡ Tokens (token End 1 1 0 ∷ [])
unfolding lexed
a_blank = refl

an_instruction : lexed (codes "go: lw t1, -4(sp) # top\n") ≡ Tokens (
    token Name 1 0 2 ∷ token Colon 1 2 1 ∷ token Name 1 4 2 ∷ token Name 1 7 2 ∷ token Comma 1 9 1
    ∷ token (Number (negsuc 3)) 1 11 2 ∷ token Open 1 13 1 ∷ token Name 1 14 2 ∷ token Close 1 16 1 ∷ token End 1 23 1 ∷ [])
unfolding lexed
an_instruction = refl

a_last_line : lexed (codes ".code\n0x1F -0") ≡ Tokens (
    token Directive 1 0 5 ∷ token End 1 5 1 ∷ token (Number (pos 31)) 2 6 4 ∷ token (Number (pos 0)) 2 11 2 ∷ token End 2 13 0 ∷ [])
unfolding lexed
a_last_line = refl

the_ends_of_the_range : lexed (codes "-2147483648 4294967295") ≡ Tokens (
    token (Number (negsuc 2147483647)) 1 0 11 ∷ token (Number (pos 4294967295)) 1 12 10 ∷ token End 1 22 0 ∷ [])
unfolding lexed
the_ends_of_the_range = refl

a_bad_byte : lexed (codes ".code\ngo: nop @") ≡ BadByteAt 14 2
unfolding lexed
a_bad_byte = refl

the_byte_255 : lexed (255 ∷ []) ≡ BadByteAt 0 1
unfolding lexed
the_byte_255 = refl

a_letter_behind_a_number : lexed (codes "x 12y") ≡ BadByteAt 4 1
unfolding lexed
a_letter_behind_a_number = refl

a_prefix_without_a_digit : lexed (codes "0x,") ≡ BadByteAt 1 1
unfolding lexed
a_prefix_without_a_digit = refl

a_minus_alone : lexed (codes "1, -\n") ≡ BadByteAt 3 1
unfolding lexed
a_minus_alone = refl

a_dot_alone : lexed (codes "\n\n .9") ≡ BadByteAt 3 3
unfolding lexed
a_dot_alone = refl

one_above : lexed (codes ".code\ngo: li a0, 4294967296x") ≡ TooLargeAt 17 2
unfolding lexed
one_above = refl

one_below : lexed (codes "-2147483649") ≡ TooLargeAt 0 1
unfolding lexed
one_below = refl
