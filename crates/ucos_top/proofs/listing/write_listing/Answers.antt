use Rattle.std.proofs.Common.{◌++◌, refl, sym, ◌∙◌, append_assoc}
use Rattle.std.proofs.KnownBytes.{Appends-trans}
use Rattle.std.proofs.lemmas.Result.{err_from_is_err_and}
use Rattle.std.specs.Io.KnownBytes.{Appends}
use Rattle.outside.specs.Written.{AppendsPrefix, WritesPiece}
use Rattle.outside.proofs.Known.{AppendsPrefix-after, WritesPiece-after}
use Rattle.program_model.specs.Listing.{code_line, listing, numbered, object_line, ram_line, task_line, vector_line}
use Rattle.ucos_top.proofs.listing.write_listing.Goals as goal

-- a prefix of the objects is written, behind the tasks
pub returns-in_err-write_rows-2-clause-bytes : goal.returns-in_err-write_rows-2-clause-bytes
unfolding listing
returns-in_err-write_rows-2-clause-bytes g c =
    let p = err_from_is_err_and c.from_residual-in_err-write_rows-2.result c.from_residual-in_err-write_rows-2.ensures.1 in
    let im = c.args.image.now in
    let h = g.K.Sink.held in
    let t = numbered task_line 0 im.tasks in
    let o = numbered object_line 0 im.objects in
    let v = numbered vector_line 0 im.vectors in
    let k = numbered code_line 0 im.code in
    let r = numbered ram_line 0 im.ram in
    let w1 : Appends (h c.args.sink.now) (h c.write_rows.new.sink) t = rw c.tasks.ensures.value at c.in_ok-write_rows.ensures.bytes in
    let said : AppendsPrefix (h c.write_rows.new.sink) (h c.write_rows-2.new.sink) o = rw c.objects.ensures.value at c.in_err-write_rows-2.ensures.bytes in
    rw p.1 (AppendsPrefix-after (h c.args.sink.now) (h c.write_rows.new.sink) (h c.write_rows-2.new.sink) t o (v ++ (k ++ r)) (listing im) w1 said (refl))

-- a prefix of the vectors, behind the tasks and objects
pub returns-in_err-write_rows-3-clause-bytes : goal.returns-in_err-write_rows-3-clause-bytes
unfolding listing
returns-in_err-write_rows-3-clause-bytes g c =
    let p = err_from_is_err_and c.from_residual-in_err-write_rows-3.result c.from_residual-in_err-write_rows-3.ensures.1 in
    let im = c.args.image.now in
    let h = g.K.Sink.held in
    let t = numbered task_line 0 im.tasks in
    let o = numbered object_line 0 im.objects in
    let v = numbered vector_line 0 im.vectors in
    let k = numbered code_line 0 im.code in
    let r = numbered ram_line 0 im.ram in
    let w1 : Appends (h c.args.sink.now) (h c.write_rows.new.sink) t = rw c.tasks.ensures.value at c.in_ok-write_rows.ensures.bytes in
    let w2 : Appends (h c.write_rows.new.sink) (h c.write_rows-2.new.sink) o = rw c.objects.ensures.value at c.in_ok-write_rows-2.ensures.bytes in
    let u2 : Appends (h c.args.sink.now) (h c.write_rows-2.new.sink) (t ++ o) = Appends-trans _ _ _ t o w1 w2 in
    let said : AppendsPrefix (h c.write_rows-2.new.sink) (h c.write_rows-3.new.sink) v = rw c.vectors.ensures.value at c.in_err-write_rows-3.ensures.bytes in
    rw p.1 (AppendsPrefix-after (h c.args.sink.now) (h c.write_rows-2.new.sink) (h c.write_rows-3.new.sink) (t ++ o) v (k ++ r) (listing im) u2 said (sym (append_assoc t o _)))

-- a prefix of the code words, behind all these
pub returns-in_err-write_rows-4-clause-bytes : goal.returns-in_err-write_rows-4-clause-bytes
unfolding listing
returns-in_err-write_rows-4-clause-bytes g c =
    let p = err_from_is_err_and c.from_residual-in_err-write_rows-4.result c.from_residual-in_err-write_rows-4.ensures.1 in
    let im = c.args.image.now in
    let h = g.K.Sink.held in
    let t = numbered task_line 0 im.tasks in
    let o = numbered object_line 0 im.objects in
    let v = numbered vector_line 0 im.vectors in
    let k = numbered code_line 0 im.code in
    let r = numbered ram_line 0 im.ram in
    let w1 : Appends (h c.args.sink.now) (h c.write_rows.new.sink) t = rw c.tasks.ensures.value at c.in_ok-write_rows.ensures.bytes in
    let w2 : Appends (h c.write_rows.new.sink) (h c.write_rows-2.new.sink) o = rw c.objects.ensures.value at c.in_ok-write_rows-2.ensures.bytes in
    let w3 : Appends (h c.write_rows-2.new.sink) (h c.write_rows-3.new.sink) v = rw c.vectors.ensures.value at c.in_ok-write_rows-3.ensures.bytes in
    let u2 : Appends (h c.args.sink.now) (h c.write_rows-2.new.sink) (t ++ o) = Appends-trans _ _ _ t o w1 w2 in
    let u3 : Appends (h c.args.sink.now) (h c.write_rows-3.new.sink) ((t ++ o) ++ v) = Appends-trans _ _ _ (t ++ o) v u2 w3 in
    let said : AppendsPrefix (h c.write_rows-3.new.sink) (h c.write_rows-4.new.sink) k = rw c.code.ensures.value at c.in_err-write_rows-4.ensures.bytes in
    rw p.1 (AppendsPrefix-after (h c.args.sink.now) (h c.write_rows-3.new.sink) (h c.write_rows-4.new.sink) ((t ++ o) ++ v) k r (listing im) u3 said (sym (append_assoc t o _) ∙ sym (append_assoc (t ++ o) v _)))

-- the RAM words are written last
pub returns-clause-bytes : goal.returns-clause-bytes
unfolding listing
returns-clause-bytes g c =
    let im = c.args.image.now in
    let h = g.K.Sink.held in
    let t = numbered task_line 0 im.tasks in
    let o = numbered object_line 0 im.objects in
    let v = numbered vector_line 0 im.vectors in
    let k = numbered code_line 0 im.code in
    let r = numbered ram_line 0 im.ram in
    let w1 : Appends (h c.args.sink.now) (h c.write_rows.new.sink) t = rw c.tasks.ensures.value at c.in_ok-write_rows.ensures.bytes in
    let w2 : Appends (h c.write_rows.new.sink) (h c.write_rows-2.new.sink) o = rw c.objects.ensures.value at c.in_ok-write_rows-2.ensures.bytes in
    let w3 : Appends (h c.write_rows-2.new.sink) (h c.write_rows-3.new.sink) v = rw c.vectors.ensures.value at c.in_ok-write_rows-3.ensures.bytes in
    let w4 : Appends (h c.write_rows-3.new.sink) (h c.write_rows-4.new.sink) k = rw c.code.ensures.value at c.in_ok-write_rows-4.ensures.bytes in
    let u2 : Appends (h c.args.sink.now) (h c.write_rows-2.new.sink) (t ++ o) = Appends-trans _ _ _ t o w1 w2 in
    let u3 : Appends (h c.args.sink.now) (h c.write_rows-3.new.sink) ((t ++ o) ++ v) = Appends-trans _ _ _ (t ++ o) v u2 w3 in
    let u4 : Appends (h c.args.sink.now) (h c.write_rows-4.new.sink) (((t ++ o) ++ v) ++ k) = Appends-trans _ _ _ ((t ++ o) ++ v) k u3 w4 in
    let said : WritesPiece (h c.write_rows-4.new.sink) (h c.write_rows-5.new.sink) c.write_rows-5.result r = rw c.ram.ensures.value at c.write_rows-5.ensures.bytes in
    WritesPiece-after c.write_rows-5.result (h c.args.sink.now) (h c.write_rows-4.new.sink) (h c.write_rows-5.new.sink) (((t ++ o) ++ v) ++ k) r (listing im) u4 said (sym (append_assoc t o _) ∙ sym (append_assoc (t ++ o) v _) ∙ sym (append_assoc ((t ++ o) ++ v) k _))
