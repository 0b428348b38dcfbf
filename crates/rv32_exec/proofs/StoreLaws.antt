-- A store changes the bytes of its own width, and no other byte.
use Rattle.std.specs.Prelude.{◌==◌, ◌&&◌, nat_le, slice_index}
use Rattle.std.proofs.Common.{◌≡◌, ◌≢◌, ℕ, zero, suc, ◌+◌, ◌-◌, ◌*◌, ◌/◌, ◌%◌, ◌^◌, ◌<◌, ◌≤◌, ◌⊎◌, Bool, true, false, List, inl, inr, refl, sym, ap, ◌∙◌, subst, arith}
use Rattle.std.proofs.lemmas.List.{get_or-set_same, get_or-set_other}
use Rattle.std.proofs.lemmas.Bool.{false≢true, true≢false}
use Rattle.std.proofs.lemmas.Bool.Decides.{eqb_tells, leb_tells}
use Rattle.rv32_isa.specs.Formats.{field}
use Rattle.rv32_exec.specs.Memory.{IsMemory, allowed, ram_end, ram_start, replaced, stored, word_at}
use Rattle.rv32_exec.specs.Changes.{HasStoredBytes, IsStored, byte_at}

-- Of a word: the number that replaces some bytes stands there, and the other bytes are as they were.

abbrev Apart : (j place width : ℕ) → Type 0
Apart j place width = (j < place) ⊎ (place + width ≤ j)

record Replaced (word place value width : ℕ) : Type 0 where
  number : field (replaced word (8 * place) (8 * width) value) (8 * place) (8 * width) ≡ value
  others : (j : ℕ) → j < 4 → Apart j place width → field (replaced word (8 * place) (8 * width) value) (8 * j) 8 ≡ field word (8 * j) 8

abbrev Replaces : (word place value width : ℕ) → Type 0
Replaces word place value width = place + width ≤ 4 → value < 2 ^ (8 * width) → Replaced word place value width

-- what holds of the four bytes of a word holds of each
by_byte : (P : ℕ → Type 0) → P 0 → P 1 → P 2 → P 3 → (j : ℕ) → j < 4 → P j
by_byte P a b c d zero l = a
by_byte P a b c d (suc zero) l = b
by_byte P a b c d (suc (suc zero)) l = c
by_byte P a b c d (suc (suc (suc zero))) l = d
by_byte P a b c d (suc (suc (suc (suc j)))) l = absurd (omega arith)

neither : {A : Type 0} (j place width : ℕ) → place ≤ j → j < place + width → Apart j place width → A
neither j place width from to (inl l) = absurd (omega (arith, l, from))
neither j place width from to (inr l) = absurd (omega (arith, l, to))

module _ (word value : ℕ) (w : word < 2 ^ 32) where
  abbrev Same : (place width : ℕ) → ℕ → Type 0
  Same place width j = Apart j place width → field (replaced word (8 * place) (8 * width) value) (8 * j) 8 ≡ field word (8 * j) 8

  byte : (place : ℕ) → Replaces word place value 1
  byte zero p v = record { number = omega arith; others = by_byte (Same 0 1) (neither 0 0 1 (omega arith) (omega arith)) (λ _. omega arith) (λ _. omega arith) (λ _. omega arith) }
  byte (suc zero) p v = record { number = omega arith; others = by_byte (Same 1 1) (λ _. omega arith) (neither 1 1 1 (omega arith) (omega arith)) (λ _. omega arith) (λ _. omega arith) }
  byte (suc (suc zero)) p v = record { number = omega arith; others = by_byte (Same 2 1) (λ _. omega arith) (λ _. omega arith) (neither 2 2 1 (omega arith) (omega arith)) (λ _. omega arith) }
  byte (suc (suc (suc zero))) p v = record { number = omega arith; others = by_byte (Same 3 1) (λ _. omega arith) (λ _. omega arith) (λ _. omega arith) (neither 3 3 1 (omega arith) (omega arith)) }
  byte (suc (suc (suc (suc place)))) p v = absurd (omega arith)

  half : (place : ℕ) → Replaces word place value 2
  half zero p v = record { number = omega arith; others = by_byte (Same 0 2) (neither 0 0 2 (omega arith) (omega arith)) (neither 1 0 2 (omega arith) (omega arith)) (λ _. omega arith) (λ _. omega arith) }
  half (suc zero) p v = record { number = omega arith; others = by_byte (Same 1 2) (λ _. omega arith) (neither 1 1 2 (omega arith) (omega arith)) (neither 2 1 2 (omega arith) (omega arith)) (λ _. omega arith) }
  half (suc (suc zero)) p v = record { number = omega arith; others = by_byte (Same 2 2) (λ _. omega arith) (λ _. omega arith) (neither 2 2 2 (omega arith) (omega arith)) (neither 3 2 2 (omega arith) (omega arith)) }
  half (suc (suc (suc place))) p v = absurd (omega arith)

  whole : (place : ℕ) → Replaces word place value 4
  whole zero p v = record { number = omega arith; others = by_byte (Same 0 4) (neither 0 0 4 (omega arith) (omega arith)) (neither 1 0 4 (omega arith) (omega arith)) (neither 2 0 4 (omega arith) (omega arith)) (neither 3 0 4 (omega arith) (omega arith)) }
  whole (suc place) p v = absurd (omega arith)

-- Of a memory.

-- where an access is allowed: its bytes lie in RAM, and in one word
pub record Lies (addr width : ℕ) : Type 0 where
  pub from : ram_start ≤ addr
  pub to : addr + width ≤ ram_end
  pub some : 0 < width
  pub inside : addr % 4 + width ≤ 4

split : (a b c : Bool) → (a && b && c) ≡ true → (a ≡ true) × (b ≡ true) × (c ≡ true)
split true true true h = (refl, refl, refl)
split true true false h = absurd (false≢true h)
split true false c h = absurd (false≢true h)
split false b c h = absurd (false≢true h)

at_most : (a b : ℕ) → nat_le a b ≡ true → a ≤ b
at_most a b h = elim (leb_tells a b) [ inl e ↦ e.1 | inr e ↦ absurd (true≢false (sym h ∙ e.0)) ]

equal : (a b : ℕ) → (a == b) ≡ true → a ≡ b
equal a b h = elim (eqb_tells a b) [ inl e ↦ e.1 | inr e ↦ absurd (true≢false (sym h ∙ e.0)) ]

pub lies-of : (addr width : ℕ) → 0 < width → (addr % width ≡ 0 → addr % 4 + width ≤ 4) → allowed addr width ≡ true → Lies addr width
lies-of addr width some inside h =
    let s = split (addr % width == 0) (nat_le ram_start addr) (nat_le (addr + width) ram_end) h in
    record { from = at_most ram_start addr s.1; to = at_most (addr + width) ram_end s.2; some = some; inside = inside (equal (addr % width) 0 s.0) }

module _ (addr width value : ℕ) (before : List ℕ) (m : IsMemory before) (l : Lies addr width) (r : Replaced (word_at before addr) (addr % 4) value width) where
  abbrev after : List ℕ
  after = stored before addr width value

  abbrev changed : ℕ
  changed = replaced (word_at before addr) (8 * (addr % 4)) (8 * width) value

  place : ℕ
  place = (addr - ram_start) / 4

  here : word_at after addr ≡ changed
  here = get_or-set_same before ((addr - ram_start) / 4) changed 0 (let n = m.count in let to = l.to in let from = l.from in let i = l.inside in let some = l.some in omega (arith, n, to, from, i, some))

  byte-here : (address : ℕ) → ram_start ≤ address → (address - ram_start) / 4 ≡ (addr - ram_start) / 4 → (address < addr) ⊎ (addr + width ≤ address) → byte_at after address ≡ byte_at before address
  byte-here address from same apart =
      let same_word : word_at after address ≡ changed = ap (λ i. slice_index after i) same ∙ here in
      let old_word : word_at before address ≡ word_at before addr = ap (λ i. slice_index before i) same in
      ap (λ w. field w (8 * (address % 4)) 8) same_word
      ∙ r.others (address % 4) (omega arith) (inside apart)
      ∙ ap (λ w. field w (8 * (address % 4)) 8) (sym old_word)
    where
      inside : (address < addr) ⊎ (addr + width ≤ address) → Apart (address % 4) (addr % 4) width
      inside (inl less) = inl (let low = l.from in omega (arith, less, same, from, low))
      inside (inr more) = inr (let low = l.from in let i = l.inside in omega (arith, more, same, from, low, i))

  byte-there : (address : ℕ) → (address - ram_start) / 4 ≢ (addr - ram_start) / 4 → byte_at after address ≡ byte_at before address
  byte-there address d = ap (λ w. field w (8 * (address % 4)) 8) (get_or-set_other before ((addr - ram_start) / 4) ((address - ram_start) / 4) changed 0 d)

  bytes : HasStoredBytes addr width value before after
  bytes =
      record {
        from = l.from;
        to = l.to;
        number = ap (λ w. field w (8 * (addr % 4)) (8 * width)) here ∙ r.number;
        others = λ address from to apart. elim (eqb_tells ((address - ram_start) / 4) ((addr - ram_start) / 4)) [ inl e ↦ byte-here address from e.1 apart | inr e ↦ byte-there address e.1 ];
      }

pub stored-bytes : (addr width value : ℕ) (before after : List ℕ) → IsMemory before → IsStored addr width value before after → HasStoredBytes addr width value before after
stored-bytes addr width value before after m s =
    subst (λ l. HasStoredBytes addr width value before l) (sym s.memory)
    (elim s.size [
      | inl four ↦ of_width 4 (omega arith) four (λ e. omega (arith, e)) (whole (word_at before addr) value low (addr % 4))
      | inr part ↦ elim part [
        | inl one ↦ of_width 1 (omega arith) one (λ e. omega arith) (byte (word_at before addr) value low (addr % 4))
        | inr two ↦ of_width 2 (omega arith) two (λ e. omega (arith, e)) (half (word_at before addr) value low (addr % 4))
      ]
    ])
  where
    low : word_at before addr < 2 ^ 32
    low = m.words ((addr - ram_start) / 4)

    of_width : (n : ℕ) → 0 < n → width ≡ n → (addr % n ≡ 0 → addr % 4 + n ≤ 4) → Replaces (word_at before addr) (addr % 4) value n → HasStoredBytes addr width value before (stored before addr width value)
    of_width n some e inside replaces =
        subst (λ k. HasStoredBytes addr k value before (stored before addr k value)) (sym e)
        (let place : allowed addr n ≡ true = subst (λ k. allowed addr k ≡ true) e s.place in
        let small : value < 2 ^ (8 * n) = subst (λ k. value < 2 ^ (8 * k)) e s.fits in
        let l = lies-of addr n some inside place in
        bytes addr n value before m l (replaces l.inside small))
