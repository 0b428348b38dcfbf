use Rattle.std.proofs.Common.{◌++◌, refl, sym, ◌∙◌, append_assoc}
use Rattle.std.specs.List.{flat_map}
use Rattle.std.proofs.KnownBytes.{Appends-trans}
use Rattle.std.proofs.lemmas.Result.{err_from_is_err_and}
use Rattle.std.specs.Io.KnownBytes.{Appends}
use Rattle.outside.specs.Written.{AppendsPrefix, WritesPiece}
use Rattle.outside.proofs.Known.{AppendsPrefix-after, WritesPiece-after}
use Rattle.rv32_listing.specs.Disassembly.{declarations, object_line, task_line, vector_line, setting_lines}
use Rattle.rv32_listing.proofs.listing.write_declarations.Goals as goal

-- a prefix of the tasks, behind the objects
pub returns-in_err-write_rows-2-clause-bytes : goal.returns-in_err-write_rows-2-clause-bytes
returns-in_err-write_rows-2-clause-bytes g c =
    let p = err_from_is_err_and c.from_residual-in_err-write_rows-2.result c.from_residual-in_err-write_rows-2.ensures.1 in
    let im = c.args.image.now in
    let h = g.K.Sink.held in
    let o = flat_map object_line im.objects in
    let t = flat_map task_line im.tasks in
    let v = flat_map vector_line im.vectors in
    let s = setting_lines im.config in
    let w1 : Appends (h c.args.sink.now) (h c.write_rows.new.sink) o = rw c.objects.ensures.value at c.in_ok-write_rows.ensures.bytes in
    let said : AppendsPrefix (h c.write_rows.new.sink) (h c.write_rows-2.new.sink) t = rw c.tasks.ensures.value at c.in_err-write_rows-2.ensures.bytes in
    rw p.1 (AppendsPrefix-after (h c.args.sink.now) (h c.write_rows.new.sink) (h c.write_rows-2.new.sink) o t (v ++ s) (declarations im) w1 said refl)

-- a prefix of the vectors, behind the objects and tasks
pub returns-in_err-write_rows-3-clause-bytes : goal.returns-in_err-write_rows-3-clause-bytes
returns-in_err-write_rows-3-clause-bytes g c =
    let p = err_from_is_err_and c.from_residual-in_err-write_rows-3.result c.from_residual-in_err-write_rows-3.ensures.1 in
    let im = c.args.image.now in
    let h = g.K.Sink.held in
    let o = flat_map object_line im.objects in
    let t = flat_map task_line im.tasks in
    let v = flat_map vector_line im.vectors in
    let s = setting_lines im.config in
    let w1 : Appends (h c.args.sink.now) (h c.write_rows.new.sink) o = rw c.objects.ensures.value at c.in_ok-write_rows.ensures.bytes in
    let w2 : Appends (h c.write_rows.new.sink) (h c.write_rows-2.new.sink) t = rw c.tasks.ensures.value at c.in_ok-write_rows-2.ensures.bytes in
    let u2 : Appends (h c.args.sink.now) (h c.write_rows-2.new.sink) (o ++ t) = Appends-trans _ _ _ o t w1 w2 in
    let said : AppendsPrefix (h c.write_rows-2.new.sink) (h c.write_rows-3.new.sink) v = rw c.vectors.ensures.value at c.in_err-write_rows-3.ensures.bytes in
    rw p.1 (AppendsPrefix-after (h c.args.sink.now) (h c.write_rows-2.new.sink) (h c.write_rows-3.new.sink) (o ++ t) v s (declarations im) u2 said (sym (append_assoc o t _)))

-- the settings come last
pub returns-clause-bytes : goal.returns-clause-bytes
returns-clause-bytes g c =
    let im = c.args.image.now in
    let h = g.K.Sink.held in
    let o = flat_map object_line im.objects in
    let t = flat_map task_line im.tasks in
    let v = flat_map vector_line im.vectors in
    let s = setting_lines im.config in
    let w1 : Appends (h c.args.sink.now) (h c.write_rows.new.sink) o = rw c.objects.ensures.value at c.in_ok-write_rows.ensures.bytes in
    let w2 : Appends (h c.write_rows.new.sink) (h c.write_rows-2.new.sink) t = rw c.tasks.ensures.value at c.in_ok-write_rows-2.ensures.bytes in
    let w3 : Appends (h c.write_rows-2.new.sink) (h c.write_rows-3.new.sink) v = rw c.vectors.ensures.value at c.in_ok-write_rows-3.ensures.bytes in
    let u2 : Appends (h c.args.sink.now) (h c.write_rows-2.new.sink) (o ++ t) = Appends-trans _ _ _ o t w1 w2 in
    let u3 : Appends (h c.args.sink.now) (h c.write_rows-3.new.sink) ((o ++ t) ++ v) = Appends-trans _ _ _ (o ++ t) v u2 w3 in
    let said : WritesPiece (h c.write_rows-3.new.sink) (h c.write_settings.new.sink) c.write_settings.result s = rw c.config.ensures.value at c.write_settings.ensures.bytes in
    WritesPiece-after c.write_settings.result (h c.args.sink.now) (h c.write_rows-3.new.sink) (h c.write_settings.new.sink) ((o ++ t) ++ v) s (declarations im) u3 said (sym (append_assoc o t _) ∙ sym (append_assoc (o ++ t) v _))
