use Rattle.std.proofs.Common.{◌≡◌, ◌∙◌, [], length, true, false, inr, sym, arith}
use Rattle.std.specs.Prelude.{nat_lt}
use Rattle.std.specs.List.{list_all}
use Rattle.std.proofs.lemmas.Bool.{lt-ltb}
use Rattle.elf_reader.specs.Tables.{is_header, text_place, segments, sections}
use Rattle.elf_reader.specs.Memory.{is_placed, some_overlap}
use Rattle.elf_reader.specs.Symbols.{has_bad_table}
use Rattle.elf_reader.proofs.CellLaws.{denied, granted}
use Rattle.elf_reader.proofs.Outcomes.{tables_first, not_past, out_of_range, overlapping, bad_table}
use Rattle.elf_reader.proofs.executables.read_elf.Goals as goal

pub returns-then-bytes-tables_end : goal.returns-then-bytes-tables_end
returns-then-bytes-tables_end c =
    let bytes = c.args.bytes.now in
    let header : is_header bytes ≡ true = sym c.is_header.ensures ∙ c.if-not-is_header.false in
    let first = tables_first bytes in
    let past : nat_lt (length bytes) (text_place bytes) ≡ true = lt-ltb (length bytes) (text_place bytes) (omega (arith, c.if-bytes-tables_end.true, c.tables_end.ensures.end, first)) in
    inr (sym (out_of_range _ _ _ _ _ _ header past))

pub returns-then-not-load_all : goal.returns-then-not-load_all
returns-then-not-load_all c =
    let bytes = c.args.bytes.now in
    let header : is_header bytes ≡ true = sym c.is_header.ensures ∙ c.if-not-is_header.false in
    let used : c.end_of_all-used.result ≡ text_place bytes = rw (c.tables_end-2.ensures.end, c.deref.ensures.value, c.deref-2.ensures.value, c.in_ok-segments.ensures, c.in_ok-sections.ensures) at c.end_of_all-used.ensures in
    let inside : nat_lt (length bytes) (text_place bytes) ≡ false = not_past (length bytes) (text_place bytes) (omega (arith, used, c.if-bytes-used.false)) in
    let placed : list_all is_placed (segments bytes) ≡ true = rw (c.deref-3.ensures.value, c.in_ok-segments.ensures) at (sym c.are_placed.ensures ∙ c.if-not-are_placed.false) in
    let met : some_overlap [] (segments bytes) ≡ true = rw (c.deref-4.ensures.value, c.in_ok-segments.ensures) at (denied _ (sym c.if-not-load_all.true ∙ c.load_all.ensures.apart)) in
    inr (sym (overlapping _ _ _ _ _ _ header inside placed met))

pub returns-then-has_bad_table : goal.returns-then-has_bad_table
returns-then-has_bad_table c =
    let bytes = c.args.bytes.now in
    let header : is_header bytes ≡ true = sym c.is_header.ensures ∙ c.if-not-is_header.false in
    let used : c.end_of_all-used.result ≡ text_place bytes = rw (c.tables_end-2.ensures.end, c.deref.ensures.value, c.deref-2.ensures.value, c.in_ok-segments.ensures, c.in_ok-sections.ensures) at c.end_of_all-used.ensures in
    let inside : nat_lt (length bytes) (text_place bytes) ≡ false = not_past (length bytes) (text_place bytes) (omega (arith, used, c.if-bytes-used.false)) in
    let placed : list_all is_placed (segments bytes) ≡ true = rw (c.deref-3.ensures.value, c.in_ok-segments.ensures) at (sym c.are_placed.ensures ∙ c.if-not-are_placed.false) in
    let apart : some_overlap [] (segments bytes) ≡ false = rw (c.deref-4.ensures.value, c.in_ok-segments.ensures) at (granted _ (sym c.if-not-load_all.false ∙ c.load_all.ensures.apart)) in
    let bad : has_bad_table bytes (sections bytes) ≡ true = rw (c.deref-5.ensures.value, c.in_ok-sections.ensures) at (sym c.has_bad_table.ensures ∙ c.if-has_bad_table.true) in
    inr (sym (bad_table _ _ _ _ _ _ header inside placed apart bad))
