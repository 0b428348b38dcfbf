-- The bytes of a text: what each begins, and what a name is.
use Rattle.std.specs.Prelude.{ℕ, List, [], ◌∷◌, Bool, false, ◌==◌, ◌&&◌, ◌||◌, not, nat_le, if◌then◌else◌}
use Rattle.std.specs.List.{list_all}
use Rattle.text_lex.specs.declared.TokenKind.TheVariants.{Comma, Open, Close, Colon}
use Rattle.text_lex.specs.declared.bytes.ByteClass.{ByteClass}
use Rattle.text_lex.specs.declared.bytes.ByteClass.TheVariants.{Blank, Hash, LineFeed, Letter, Dot, Minus, Digit, Sign, Other}

-- the byte is one from the first to the last
abbrev pub is_between : ℕ → ℕ → ℕ → Bool
is_between first last byte = nat_le first byte && nat_le byte last

-- a space, a tab or a carriage return
abbrev pub is_blank : ℕ → Bool
is_blank byte = byte == 32 || (byte == 9 || byte == 13)

abbrev pub is_not_line_feed : ℕ → Bool
is_not_line_feed byte = not (byte == 10)

-- 0 to 9
abbrev pub is_digit : ℕ → Bool
is_digit byte = is_between 48 57 byte

-- 0 to 9, A to F, a to f
abbrev pub is_hex_digit : ℕ → Bool
is_hex_digit byte = is_digit byte || (is_between 65 70 byte || is_between 97 102 byte)

-- what begins a name: A to Z, a to z, _
abbrev pub is_letter : ℕ → Bool
is_letter byte = is_between 65 90 byte || (is_between 97 122 byte || byte == 95)

-- what goes on in a name
abbrev pub is_name_byte : ℕ → Bool
is_name_byte byte = is_letter byte || is_digit byte

-- a whole name: a letter or `_`, then letters, digits and `_`
abbrev pub is_name : List ℕ → Bool
is_name [] = false
is_name (byte ∷ bytes) = is_letter byte && list_all is_name_byte bytes

-- what a byte begins
abbrev pub class_of : ℕ → ByteClass
class_of byte =
    if is_blank byte then Blank else
    (if byte == 35 then Hash else
    (if byte == 10 then LineFeed else
    (if is_letter byte then Letter else
    (if byte == 46 then Dot else
    (if byte == 45 then Minus else
    (if is_digit byte then Digit else
    (if byte == 44 then Sign Comma else
    (if byte == 40 then Sign Open else
    (if byte == 41 then Sign Close else
    (if byte == 58 then Sign Colon else Other))))))))))
