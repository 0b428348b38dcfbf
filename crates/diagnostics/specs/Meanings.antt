-- What each cause of a refusal means.
use Rattle.std.specs.Prelude.{ℕ, List, [], ◌∷◌, codes, if◌then◌else◌}
use Rattle.std.specs.Str.{bytes_eq}
use Rattle.std.specs.Borrow.{Bor}

-- the causes by their names, each with its meaning
unfoldable pub meanings : List (List ℕ × List ℕ)
meanings =
    (codes "E1", codes "no header of a 32-bit little-endian executable for RISC-V, or one whose tables have entries of another size") ∷
    (codes "E2", codes "a table, a segment or a section of the executable ends past the input") ∷
    (codes "E3", codes "a segment has more bytes in the file than in memory, or lies neither wholly in the code nor wholly in RAM") ∷
    (codes "E4", codes "two segments of the executable overlap") ∷
    (codes "E5", codes "a symbol table of another form, or without strings, or with a name that has no end") ∷
    (codes "L1", codes "a byte that begins no token, or a letter directly behind a number") ∷
    (codes "L2", codes "a number outside -2,147,483,648 to 4,294,967,295") ∷
    (codes "A1", codes "no mnemonic, pseudo-instruction or directive has this name") ∷
    (codes "A2", codes "the words are not the form of this line") ∷
    (codes "A3", codes "a name that is no register") ∷
    (codes "A4", codes "a constant outside the range of its field, or a .space that is negative or no multiple of 4") ∷
    (codes "A5", codes "this name was defined before, or it is that of a service") ∷
    (codes "A6", codes "no line defines this name") ∷
    (codes "A7", codes "a label where a constant is wanted, or another name where a label is wanted") ∷
    (codes "A8", codes "a label, an instruction or data before the first section, or an instruction in .ram") ∷
    (codes "A9", codes "a target in RAM, or out of the reach of this branch or jump") ∷
    (codes "A10", codes "more than 16,384 words of code") ∷
    (codes "A11", codes "more than 262,144 bytes of RAM") ∷
    (codes "A12", codes "a task or an object has a name of more than 16 bytes") ∷
    (codes "A13", codes "no setting has this name") ∷
    (codes "A14", codes "the 61st task, the 65th object or the 33rd vector") ∷
    (codes "I1", codes "no task is declared") ∷
    (codes "I2", codes "a task's priority is outside 1 to 62") ∷
    (codes "I3", codes "an entry or a callback is not the address of a code word") ∷
    (codes "I4", codes "a stack pointer is no multiple of 4 from 0x100000 to 0x140000") ∷
    (codes "I5", codes "a task's quantum is above 65,535 ticks") ∷
    (codes "I6", codes "a task's own queue is above 1,024 messages") ∷
    (codes "I7", codes "a queue's size is outside 1 to 1,024 messages") ∷
    (codes "I8", codes "a vector's number is above 31") ∷
    (codes "I9", codes "two vectors have one number") ∷
    (codes "I10", codes "a vector's level is outside 1 to 7") ∷
    (codes "I11", codes "a one-shot timer has no delay, or a periodic one no period") ∷
    (codes "I12", codes "a setting is out of its range") ∷
    (codes "I13", codes "a setting stands twice") ∷
    (codes "I14", codes "there is no code") ∷
    (codes "I15", codes "a bad name or an unknown kind of object in the binary image") ∷
    (codes "I16", codes "the binary image has an unknown version, a count above its limit, a field that must be 0, or too few bytes") ∷
    (codes "J1", codes "the words are no form of a line of interrupts or looks") ∷
    (codes "J2", codes "no vector of this number is declared") ∷
    (codes "J3", codes "more than four words") ∷
    (codes "J4", codes "the 16,385th line of interrupts and looks") ∷
    (codes "J5", codes "a look at a name that is no semaphore, queue, flag group or mutex, or at a priority above 63") ∷
    (codes "J6", codes "a moment above 1,000,000 task steps") ∷
    []

-- the meaning of a name in a table; nothing where the table does not have it
abbrev pub meaning_in : List (List ℕ × List ℕ) → List ℕ → List ℕ
meaning_in [] name = []
meaning_in (row ∷ rows) name = if bytes_eq name row.0 then row.1 else meaning_in rows name

-- the meaning of the cause of this name
abbrev pub meaning : List ℕ → List ℕ
meaning name = meaning_in meanings name

-- a row, where a table keeps both its texts behind references
abbrev pub row_of : Bor (List ℕ) × Bor (List ℕ) → List ℕ × List ℕ
row_of row = (row.0.now, row.1.now)
