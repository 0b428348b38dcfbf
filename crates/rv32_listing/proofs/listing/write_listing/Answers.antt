use Rattle.std.proofs.Common.{ℕ, List, ◌++◌, refl, sym, subst, append_assoc, length}
use Rattle.std.specs.Prelude.{codes}
use Rattle.std.specs.List.{flat_map}
use Rattle.std.proofs.KnownBytes.{Appends-trans}
use Rattle.std.proofs.lemmas.Result.{err_from_is_err_and}
use Rattle.std.specs.Io.KnownBytes.{Appends}
use Rattle.outside.specs.Written.{AppendsPrefix}
use Rattle.outside.proofs.Known.{AppendsPrefix-after, WritesPiece-after}
use Rattle.rv32_listing.specs.Disassembly.{code_lines, declarations, disassembly, ram_line}
use Rattle.rv32_listing.proofs.Sent.{AppendsPrefix-front}
use Rattle.rv32_listing.proofs.listing.write_listing.Goals as goal

-- a prefix of the code
pub returns-in_err-write_code-clause-bytes : goal.returns-in_err-write_code-clause-bytes
unfolding disassembly
returns-in_err-write_code-clause-bytes g c =
    let p = err_from_is_err_and c.from_residual.result c.from_residual.ensures.1 in
    let im = c.args.image.now in
    let h = g.K.Sink.held in
    let k = codes ".code\n" ++ code_lines (length im.code) 0 im.code in
    let r = codes ".ram\n" ++ flat_map ram_line im.ram in
    let said : AppendsPrefix (h c.args.sink.now) (h c.write_code.new.sink) k =
    subst (λ (l : List ℕ). AppendsPrefix (h c.args.sink.now) (h c.write_code.new.sink) (codes ".code\n" ++ code_lines (length l) 0 l)) c.code.ensures.value c.in_err-write_code.ensures.bytes in
    rw p.1 (AppendsPrefix-front (h c.args.sink.now) (h c.write_code.new.sink) k (r ++ declarations im) said)

-- a prefix of the RAM, behind the code
pub returns-in_err-write_ram-clause-bytes : goal.returns-in_err-write_ram-clause-bytes
unfolding disassembly
returns-in_err-write_ram-clause-bytes g c =
    let p = err_from_is_err_and c.from_residual-in_err-write_ram.result c.from_residual-in_err-write_ram.ensures.1 in
    let im = c.args.image.now in
    let h = g.K.Sink.held in
    let k = codes ".code\n" ++ code_lines (length im.code) 0 im.code in
    let r = codes ".ram\n" ++ flat_map ram_line im.ram in
    let w1 : Appends (h c.args.sink.now) (h c.write_code.new.sink) k =
    subst (λ (l : List ℕ). Appends (h c.args.sink.now) (h c.write_code.new.sink) (codes ".code\n" ++ code_lines (length l) 0 l)) c.code.ensures.value c.in_ok-write_code.ensures.bytes in
    let said : AppendsPrefix (h c.write_code.new.sink) (h c.write_ram.new.sink) r = rw c.ram.ensures.value at c.in_err-write_ram.ensures.bytes in
    rw p.1 (AppendsPrefix-after (h c.args.sink.now) (h c.write_code.new.sink) (h c.write_ram.new.sink) k r (declarations im) (disassembly im) w1 said refl)

-- the declarations, behind both
pub returns-clause-bytes : goal.returns-clause-bytes
unfolding disassembly
returns-clause-bytes g c =
    let im = c.args.image.now in
    let h = g.K.Sink.held in
    let k = codes ".code\n" ++ code_lines (length im.code) 0 im.code in
    let r = codes ".ram\n" ++ flat_map ram_line im.ram in
    let w1 : Appends (h c.args.sink.now) (h c.write_code.new.sink) k =
    subst (λ (l : List ℕ). Appends (h c.args.sink.now) (h c.write_code.new.sink) (codes ".code\n" ++ code_lines (length l) 0 l)) c.code.ensures.value c.in_ok-write_code.ensures.bytes in
    let w2 : Appends (h c.write_code.new.sink) (h c.write_ram.new.sink) r = rw c.ram.ensures.value at c.in_ok-write_ram.ensures.bytes in
    let u2 : Appends (h c.args.sink.now) (h c.write_ram.new.sink) (k ++ r) = Appends-trans _ _ _ k r w1 w2 in
    WritesPiece-after c.write_declarations.result (h c.args.sink.now) (h c.write_ram.new.sink) (h c.write_declarations.new.sink) (k ++ r) (declarations im) (disassembly im) u2 c.write_declarations.ensures.bytes (sym (append_assoc k r _))
