use Rattle.std.proofs.Common.{◌≡◌, ◌++◌, ◌+◌, [], drop, map, arith, sym, ap, ◌∙◌, append_assoc}
use Rattle.std.proofs.Math.ListN.{get_or}
use Rattle.std.proofs.KnownBytes.{Appends-trans}
use Rattle.std.proofs.lemmas.Result.{err_from_is_err_and}
use Rattle.std.specs.List.{flat_map}
use Rattle.app_image.specs.declared.settings.ConfigKey.TheVariants.{IsrLimit}
use Rattle.outside.proofs.Known.{AppendsPrefix-after}
use Rattle.asm_lines.specs.Tables.{row_of}
use Rattle.rv32_listing.specs.Disassembly.{setting_line}
use Rattle.rv32_listing.proofs.Sent.{keys_more, short_key}
use Rattle.rv32_listing.proofs.listing.write_keys.Goals as goal

-- the name is short
pub setting_line-line-requires : goal.setting_line-line-requires
setting_line-line-requires g c = short_key c.args.keys.now c.loop-name.name-index _ c.requires c.loop-name-test.true

-- a prefix of the setting's line is written, behind the lines before it
pub returns-in_err-write-clause-bytes : goal.returns-in_err-write-clause-bytes
returns-in_err-write-clause-bytes g c =
    let p = err_from_is_err_and c.from_residual.result c.from_residual.ensures.1 in
    let (front, written, rest) = c.loop-name.invariant.written in
    let config = c.args.config.now in
    let keys = c.args.keys.now in
    let i = c.loop-name.name-index in
    let key = get_or keys i (record { ref_ptr = (0, 0); now = [] }, IsrLimit) in
    let line : c.as_slice.result.now ≡ setting_line config (row_of key) = c.as_slice.ensures.value ∙ c.setting_line-line.ensures in
    let said = rw line at c.in_err-write.ensures.bytes in
    rw p.1 (AppendsPrefix-after (g.K.Sink.held c.args.sink.now) (g.K.Sink.held c.loop-name.sink) (g.K.Sink.held c.write.new.self)
    front (setting_line config (row_of key)) (flat_map (setting_line config) (map row_of (drop (i + 1) keys))) (flat_map (setting_line config) (map row_of keys)) written said
    (rest ∙ ap (λ l. front ++ l) (keys_more config keys i _ c.loop-name-test.true)))

-- the setting's line is written
pub loop-name-preserved : goal.loop-name-preserved
loop-name-preserved g c =
    let (front, written, rest) = c.loop-name.invariant.written in
    let config = c.args.config.now in
    let keys = c.args.keys.now in
    let i = c.loop-name.name-index in
    let key = get_or keys i (record { ref_ptr = (0, 0); now = [] }, IsrLimit) in
    let line : c.as_slice.result.now ≡ setting_line config (row_of key) = c.as_slice.ensures.value ∙ c.setting_line-line.ensures in
    let said = rw line at c.in_ok-write.ensures.bytes in
    record {
      written = (
        front ++ setting_line config (row_of key),
        Appends-trans _ _ _ front _ written said,
        rest ∙ ap (λ l. front ++ l) (keys_more config keys i _ c.loop-name-test.true) ∙ sym (append_assoc front _ _),
      );
      later = omega (arith, c.in_ok-write.ensures.cause.later);
    }
