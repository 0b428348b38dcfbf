use Rattle.std.proofs.Common.{◌++◌}
use Rattle.std.specs.List.{flat_map}
use Rattle.std.proofs.lemmas.Result.{err_from_is_err_and}
use Rattle.app_image.specs.Layout.{words_bytes, setting_values, header_bytes, task_bytes, object_bytes, vector_bytes, layout}
use Rattle.app_image.specs.RoundTrip.{ReadsBack}
use Rattle.app_image.proofs.StoredLaws.{ReadsBack-valid}
use Rattle.app_image.proofs.Pieces.{on_ok, Wrote, wrote_none, wrote_next, wrote_part, wrote_last}
use Rattle.app_image.proofs.writing.write_image.Goals as goal

-- a prefix is written where the write of part 1 fails
pub returns-in_err-write-clause-bytes : goal.returns-in_err-write-clause-bytes
returns-in_err-write-clause-bytes g c =
    let image = c.args.image.now in
    let all = layout image in
    let old = g.K.Sink.held c.args.sink.now in
    let wrote_0 : Wrote old old all all = wrote_none old all in
    let p = err_from_is_err_and c.from_residual.result c.from_residual.ensures.1 in
    let said = rw (c.as_slice.ensures.value, c.header_piece-header.ensures) at c.in_err-write.ensures.bytes in
    rw p.1 (wrote_part old old (g.K.Sink.held c.write.new.self) all (header_bytes image) (words_bytes (setting_values image.config) ++ (flat_map task_bytes image.tasks ++ (flat_map object_bytes image.objects ++ (flat_map vector_bytes image.vectors ++ (words_bytes image.code ++ (words_bytes image.ram)))))) wrote_0 said)

-- a prefix is written where the write of part 2 fails
pub returns-in_err-write-2-clause-bytes : goal.returns-in_err-write-2-clause-bytes
returns-in_err-write-2-clause-bytes g c =
    let image = c.args.image.now in
    let all = layout image in
    let old = g.K.Sink.held c.args.sink.now in
    let said_0 = rw (c.as_slice.ensures.value, c.header_piece-header.ensures) at c.in_ok-write.ensures.bytes in
    let wrote_0 : Wrote old old all all = wrote_none old all in
    let wrote_1 : Wrote old (g.K.Sink.held c.write.new.self) all (words_bytes (setting_values image.config) ++ (flat_map task_bytes image.tasks ++ (flat_map object_bytes image.objects ++ (flat_map vector_bytes image.vectors ++ (words_bytes image.code ++ (words_bytes image.ram)))))) = wrote_next old old (g.K.Sink.held c.write.new.self) all (header_bytes image) (words_bytes (setting_values image.config) ++ (flat_map task_bytes image.tasks ++ (flat_map object_bytes image.objects ++ (flat_map vector_bytes image.vectors ++ (words_bytes image.code ++ (words_bytes image.ram)))))) wrote_0 said_0 in
    let p = err_from_is_err_and c.from_residual-in_err-write-2.result c.from_residual-in_err-write-2.ensures.1 in
    let said = rw (c.as_slice-2.ensures.value, c.settings_piece-settings.ensures, c.config.ensures.value) at c.in_err-write-2.ensures.bytes in
    rw p.1 (wrote_part old (g.K.Sink.held c.write.new.self) (g.K.Sink.held c.write-2.new.self) all (words_bytes (setting_values image.config)) (flat_map task_bytes image.tasks ++ (flat_map object_bytes image.objects ++ (flat_map vector_bytes image.vectors ++ (words_bytes image.code ++ (words_bytes image.ram))))) wrote_1 said)

-- a prefix is written where the write of part 3 fails
pub returns-in_err-write_tasks-clause-bytes : goal.returns-in_err-write_tasks-clause-bytes
returns-in_err-write_tasks-clause-bytes g c =
    let image = c.args.image.now in
    let all = layout image in
    let old = g.K.Sink.held c.args.sink.now in
    let said_0 = rw (c.as_slice.ensures.value, c.header_piece-header.ensures) at c.in_ok-write.ensures.bytes in
    let said_1 = rw (c.as_slice-2.ensures.value, c.settings_piece-settings.ensures, c.config.ensures.value) at c.in_ok-write-2.ensures.bytes in
    let wrote_0 : Wrote old old all all = wrote_none old all in
    let wrote_1 : Wrote old (g.K.Sink.held c.write.new.self) all (words_bytes (setting_values image.config) ++ (flat_map task_bytes image.tasks ++ (flat_map object_bytes image.objects ++ (flat_map vector_bytes image.vectors ++ (words_bytes image.code ++ (words_bytes image.ram)))))) = wrote_next old old (g.K.Sink.held c.write.new.self) all (header_bytes image) (words_bytes (setting_values image.config) ++ (flat_map task_bytes image.tasks ++ (flat_map object_bytes image.objects ++ (flat_map vector_bytes image.vectors ++ (words_bytes image.code ++ (words_bytes image.ram)))))) wrote_0 said_0 in
    let wrote_2 : Wrote old (g.K.Sink.held c.write-2.new.self) all (flat_map task_bytes image.tasks ++ (flat_map object_bytes image.objects ++ (flat_map vector_bytes image.vectors ++ (words_bytes image.code ++ (words_bytes image.ram))))) = wrote_next old (g.K.Sink.held c.write.new.self) (g.K.Sink.held c.write-2.new.self) all (words_bytes (setting_values image.config)) (flat_map task_bytes image.tasks ++ (flat_map object_bytes image.objects ++ (flat_map vector_bytes image.vectors ++ (words_bytes image.code ++ (words_bytes image.ram))))) wrote_1 said_1 in
    let p = err_from_is_err_and c.from_residual-in_err-write_tasks.result c.from_residual-in_err-write_tasks.ensures.1 in
    let said = rw c.tasks.ensures.value at c.in_err-write_tasks.ensures.bytes in
    rw p.1 (wrote_part old (g.K.Sink.held c.write-2.new.self) (g.K.Sink.held c.write_tasks.new.sink) all (flat_map task_bytes image.tasks) (flat_map object_bytes image.objects ++ (flat_map vector_bytes image.vectors ++ (words_bytes image.code ++ (words_bytes image.ram)))) wrote_2 said)

-- a prefix is written where the write of part 4 fails
pub returns-in_err-write_objects-clause-bytes : goal.returns-in_err-write_objects-clause-bytes
returns-in_err-write_objects-clause-bytes g c =
    let image = c.args.image.now in
    let all = layout image in
    let old = g.K.Sink.held c.args.sink.now in
    let said_0 = rw (c.as_slice.ensures.value, c.header_piece-header.ensures) at c.in_ok-write.ensures.bytes in
    let said_1 = rw (c.as_slice-2.ensures.value, c.settings_piece-settings.ensures, c.config.ensures.value) at c.in_ok-write-2.ensures.bytes in
    let said_2 = rw c.tasks.ensures.value at c.in_ok-write_tasks.ensures.bytes in
    let wrote_0 : Wrote old old all all = wrote_none old all in
    let wrote_1 : Wrote old (g.K.Sink.held c.write.new.self) all (words_bytes (setting_values image.config) ++ (flat_map task_bytes image.tasks ++ (flat_map object_bytes image.objects ++ (flat_map vector_bytes image.vectors ++ (words_bytes image.code ++ (words_bytes image.ram)))))) = wrote_next old old (g.K.Sink.held c.write.new.self) all (header_bytes image) (words_bytes (setting_values image.config) ++ (flat_map task_bytes image.tasks ++ (flat_map object_bytes image.objects ++ (flat_map vector_bytes image.vectors ++ (words_bytes image.code ++ (words_bytes image.ram)))))) wrote_0 said_0 in
    let wrote_2 : Wrote old (g.K.Sink.held c.write-2.new.self) all (flat_map task_bytes image.tasks ++ (flat_map object_bytes image.objects ++ (flat_map vector_bytes image.vectors ++ (words_bytes image.code ++ (words_bytes image.ram))))) = wrote_next old (g.K.Sink.held c.write.new.self) (g.K.Sink.held c.write-2.new.self) all (words_bytes (setting_values image.config)) (flat_map task_bytes image.tasks ++ (flat_map object_bytes image.objects ++ (flat_map vector_bytes image.vectors ++ (words_bytes image.code ++ (words_bytes image.ram))))) wrote_1 said_1 in
    let wrote_3 : Wrote old (g.K.Sink.held c.write_tasks.new.sink) all (flat_map object_bytes image.objects ++ (flat_map vector_bytes image.vectors ++ (words_bytes image.code ++ (words_bytes image.ram)))) = wrote_next old (g.K.Sink.held c.write-2.new.self) (g.K.Sink.held c.write_tasks.new.sink) all (flat_map task_bytes image.tasks) (flat_map object_bytes image.objects ++ (flat_map vector_bytes image.vectors ++ (words_bytes image.code ++ (words_bytes image.ram)))) wrote_2 said_2 in
    let p = err_from_is_err_and c.from_residual-in_err-write_objects.result c.from_residual-in_err-write_objects.ensures.1 in
    let said = rw c.objects.ensures.value at c.in_err-write_objects.ensures.bytes in
    rw p.1 (wrote_part old (g.K.Sink.held c.write_tasks.new.sink) (g.K.Sink.held c.write_objects.new.sink) all (flat_map object_bytes image.objects) (flat_map vector_bytes image.vectors ++ (words_bytes image.code ++ (words_bytes image.ram))) wrote_3 said)

-- a prefix is written where the write of part 5 fails
pub returns-in_err-write_vectors-clause-bytes : goal.returns-in_err-write_vectors-clause-bytes
returns-in_err-write_vectors-clause-bytes g c =
    let image = c.args.image.now in
    let all = layout image in
    let old = g.K.Sink.held c.args.sink.now in
    let said_0 = rw (c.as_slice.ensures.value, c.header_piece-header.ensures) at c.in_ok-write.ensures.bytes in
    let said_1 = rw (c.as_slice-2.ensures.value, c.settings_piece-settings.ensures, c.config.ensures.value) at c.in_ok-write-2.ensures.bytes in
    let said_2 = rw c.tasks.ensures.value at c.in_ok-write_tasks.ensures.bytes in
    let said_3 = rw c.objects.ensures.value at c.in_ok-write_objects.ensures.bytes in
    let wrote_0 : Wrote old old all all = wrote_none old all in
    let wrote_1 : Wrote old (g.K.Sink.held c.write.new.self) all (words_bytes (setting_values image.config) ++ (flat_map task_bytes image.tasks ++ (flat_map object_bytes image.objects ++ (flat_map vector_bytes image.vectors ++ (words_bytes image.code ++ (words_bytes image.ram)))))) = wrote_next old old (g.K.Sink.held c.write.new.self) all (header_bytes image) (words_bytes (setting_values image.config) ++ (flat_map task_bytes image.tasks ++ (flat_map object_bytes image.objects ++ (flat_map vector_bytes image.vectors ++ (words_bytes image.code ++ (words_bytes image.ram)))))) wrote_0 said_0 in
    let wrote_2 : Wrote old (g.K.Sink.held c.write-2.new.self) all (flat_map task_bytes image.tasks ++ (flat_map object_bytes image.objects ++ (flat_map vector_bytes image.vectors ++ (words_bytes image.code ++ (words_bytes image.ram))))) = wrote_next old (g.K.Sink.held c.write.new.self) (g.K.Sink.held c.write-2.new.self) all (words_bytes (setting_values image.config)) (flat_map task_bytes image.tasks ++ (flat_map object_bytes image.objects ++ (flat_map vector_bytes image.vectors ++ (words_bytes image.code ++ (words_bytes image.ram))))) wrote_1 said_1 in
    let wrote_3 : Wrote old (g.K.Sink.held c.write_tasks.new.sink) all (flat_map object_bytes image.objects ++ (flat_map vector_bytes image.vectors ++ (words_bytes image.code ++ (words_bytes image.ram)))) = wrote_next old (g.K.Sink.held c.write-2.new.self) (g.K.Sink.held c.write_tasks.new.sink) all (flat_map task_bytes image.tasks) (flat_map object_bytes image.objects ++ (flat_map vector_bytes image.vectors ++ (words_bytes image.code ++ (words_bytes image.ram)))) wrote_2 said_2 in
    let wrote_4 : Wrote old (g.K.Sink.held c.write_objects.new.sink) all (flat_map vector_bytes image.vectors ++ (words_bytes image.code ++ (words_bytes image.ram))) = wrote_next old (g.K.Sink.held c.write_tasks.new.sink) (g.K.Sink.held c.write_objects.new.sink) all (flat_map object_bytes image.objects) (flat_map vector_bytes image.vectors ++ (words_bytes image.code ++ (words_bytes image.ram))) wrote_3 said_3 in
    let p = err_from_is_err_and c.from_residual-in_err-write_vectors.result c.from_residual-in_err-write_vectors.ensures.1 in
    let said = rw c.vectors.ensures.value at c.in_err-write_vectors.ensures.bytes in
    rw p.1 (wrote_part old (g.K.Sink.held c.write_objects.new.sink) (g.K.Sink.held c.write_vectors.new.sink) all (flat_map vector_bytes image.vectors) (words_bytes image.code ++ (words_bytes image.ram)) wrote_4 said)

-- a prefix is written where the write of part 6 fails
pub returns-in_err-write_words-clause-bytes : goal.returns-in_err-write_words-clause-bytes
returns-in_err-write_words-clause-bytes g c =
    let image = c.args.image.now in
    let all = layout image in
    let old = g.K.Sink.held c.args.sink.now in
    let said_0 = rw (c.as_slice.ensures.value, c.header_piece-header.ensures) at c.in_ok-write.ensures.bytes in
    let said_1 = rw (c.as_slice-2.ensures.value, c.settings_piece-settings.ensures, c.config.ensures.value) at c.in_ok-write-2.ensures.bytes in
    let said_2 = rw c.tasks.ensures.value at c.in_ok-write_tasks.ensures.bytes in
    let said_3 = rw c.objects.ensures.value at c.in_ok-write_objects.ensures.bytes in
    let said_4 = rw c.vectors.ensures.value at c.in_ok-write_vectors.ensures.bytes in
    let wrote_0 : Wrote old old all all = wrote_none old all in
    let wrote_1 : Wrote old (g.K.Sink.held c.write.new.self) all (words_bytes (setting_values image.config) ++ (flat_map task_bytes image.tasks ++ (flat_map object_bytes image.objects ++ (flat_map vector_bytes image.vectors ++ (words_bytes image.code ++ (words_bytes image.ram)))))) = wrote_next old old (g.K.Sink.held c.write.new.self) all (header_bytes image) (words_bytes (setting_values image.config) ++ (flat_map task_bytes image.tasks ++ (flat_map object_bytes image.objects ++ (flat_map vector_bytes image.vectors ++ (words_bytes image.code ++ (words_bytes image.ram)))))) wrote_0 said_0 in
    let wrote_2 : Wrote old (g.K.Sink.held c.write-2.new.self) all (flat_map task_bytes image.tasks ++ (flat_map object_bytes image.objects ++ (flat_map vector_bytes image.vectors ++ (words_bytes image.code ++ (words_bytes image.ram))))) = wrote_next old (g.K.Sink.held c.write.new.self) (g.K.Sink.held c.write-2.new.self) all (words_bytes (setting_values image.config)) (flat_map task_bytes image.tasks ++ (flat_map object_bytes image.objects ++ (flat_map vector_bytes image.vectors ++ (words_bytes image.code ++ (words_bytes image.ram))))) wrote_1 said_1 in
    let wrote_3 : Wrote old (g.K.Sink.held c.write_tasks.new.sink) all (flat_map object_bytes image.objects ++ (flat_map vector_bytes image.vectors ++ (words_bytes image.code ++ (words_bytes image.ram)))) = wrote_next old (g.K.Sink.held c.write-2.new.self) (g.K.Sink.held c.write_tasks.new.sink) all (flat_map task_bytes image.tasks) (flat_map object_bytes image.objects ++ (flat_map vector_bytes image.vectors ++ (words_bytes image.code ++ (words_bytes image.ram)))) wrote_2 said_2 in
    let wrote_4 : Wrote old (g.K.Sink.held c.write_objects.new.sink) all (flat_map vector_bytes image.vectors ++ (words_bytes image.code ++ (words_bytes image.ram))) = wrote_next old (g.K.Sink.held c.write_tasks.new.sink) (g.K.Sink.held c.write_objects.new.sink) all (flat_map object_bytes image.objects) (flat_map vector_bytes image.vectors ++ (words_bytes image.code ++ (words_bytes image.ram))) wrote_3 said_3 in
    let wrote_5 : Wrote old (g.K.Sink.held c.write_vectors.new.sink) all (words_bytes image.code ++ (words_bytes image.ram)) = wrote_next old (g.K.Sink.held c.write_objects.new.sink) (g.K.Sink.held c.write_vectors.new.sink) all (flat_map vector_bytes image.vectors) (words_bytes image.code ++ (words_bytes image.ram)) wrote_4 said_4 in
    let p = err_from_is_err_and c.from_residual-in_err-write_words.result c.from_residual-in_err-write_words.ensures.1 in
    let said = rw c.code.ensures.value at c.in_err-write_words.ensures.bytes in
    rw p.1 (wrote_part old (g.K.Sink.held c.write_vectors.new.sink) (g.K.Sink.held c.write_words.new.sink) all (words_bytes image.code) (words_bytes image.ram) wrote_5 said)

-- the last part is written, or a prefix of it
pub returns-clause-bytes : goal.returns-clause-bytes
returns-clause-bytes g c =
    let image = c.args.image.now in
    let all = layout image in
    let old = g.K.Sink.held c.args.sink.now in
    let said_0 = rw (c.as_slice.ensures.value, c.header_piece-header.ensures) at c.in_ok-write.ensures.bytes in
    let said_1 = rw (c.as_slice-2.ensures.value, c.settings_piece-settings.ensures, c.config.ensures.value) at c.in_ok-write-2.ensures.bytes in
    let said_2 = rw c.tasks.ensures.value at c.in_ok-write_tasks.ensures.bytes in
    let said_3 = rw c.objects.ensures.value at c.in_ok-write_objects.ensures.bytes in
    let said_4 = rw c.vectors.ensures.value at c.in_ok-write_vectors.ensures.bytes in
    let said_5 = rw c.code.ensures.value at c.in_ok-write_words.ensures.bytes in
    let wrote_0 : Wrote old old all all = wrote_none old all in
    let wrote_1 : Wrote old (g.K.Sink.held c.write.new.self) all (words_bytes (setting_values image.config) ++ (flat_map task_bytes image.tasks ++ (flat_map object_bytes image.objects ++ (flat_map vector_bytes image.vectors ++ (words_bytes image.code ++ (words_bytes image.ram)))))) = wrote_next old old (g.K.Sink.held c.write.new.self) all (header_bytes image) (words_bytes (setting_values image.config) ++ (flat_map task_bytes image.tasks ++ (flat_map object_bytes image.objects ++ (flat_map vector_bytes image.vectors ++ (words_bytes image.code ++ (words_bytes image.ram)))))) wrote_0 said_0 in
    let wrote_2 : Wrote old (g.K.Sink.held c.write-2.new.self) all (flat_map task_bytes image.tasks ++ (flat_map object_bytes image.objects ++ (flat_map vector_bytes image.vectors ++ (words_bytes image.code ++ (words_bytes image.ram))))) = wrote_next old (g.K.Sink.held c.write.new.self) (g.K.Sink.held c.write-2.new.self) all (words_bytes (setting_values image.config)) (flat_map task_bytes image.tasks ++ (flat_map object_bytes image.objects ++ (flat_map vector_bytes image.vectors ++ (words_bytes image.code ++ (words_bytes image.ram))))) wrote_1 said_1 in
    let wrote_3 : Wrote old (g.K.Sink.held c.write_tasks.new.sink) all (flat_map object_bytes image.objects ++ (flat_map vector_bytes image.vectors ++ (words_bytes image.code ++ (words_bytes image.ram)))) = wrote_next old (g.K.Sink.held c.write-2.new.self) (g.K.Sink.held c.write_tasks.new.sink) all (flat_map task_bytes image.tasks) (flat_map object_bytes image.objects ++ (flat_map vector_bytes image.vectors ++ (words_bytes image.code ++ (words_bytes image.ram)))) wrote_2 said_2 in
    let wrote_4 : Wrote old (g.K.Sink.held c.write_objects.new.sink) all (flat_map vector_bytes image.vectors ++ (words_bytes image.code ++ (words_bytes image.ram))) = wrote_next old (g.K.Sink.held c.write_tasks.new.sink) (g.K.Sink.held c.write_objects.new.sink) all (flat_map object_bytes image.objects) (flat_map vector_bytes image.vectors ++ (words_bytes image.code ++ (words_bytes image.ram))) wrote_3 said_3 in
    let wrote_5 : Wrote old (g.K.Sink.held c.write_vectors.new.sink) all (words_bytes image.code ++ (words_bytes image.ram)) = wrote_next old (g.K.Sink.held c.write_objects.new.sink) (g.K.Sink.held c.write_vectors.new.sink) all (flat_map vector_bytes image.vectors) (words_bytes image.code ++ (words_bytes image.ram)) wrote_4 said_4 in
    let wrote_6 : Wrote old (g.K.Sink.held c.write_words.new.sink) all (words_bytes image.ram) = wrote_next old (g.K.Sink.held c.write_vectors.new.sink) (g.K.Sink.held c.write_words.new.sink) all (words_bytes image.code) (words_bytes image.ram) wrote_5 said_5 in
    let said = rw c.ram.ensures.value at c.write_words-2.ensures.bytes in
    wrote_last c.write_words-2.result old (g.K.Sink.held c.write_words.new.sink) (g.K.Sink.held c.write_words-2.new.sink) all (words_bytes image.ram) wrote_6 said

-- what was written reads back
pub returns-clause-back : goal.returns-clause-back
returns-clause-back g c =
    let image = c.args.image.now in
    on_ok c.write_words-2.result (ReadsBack image) (ReadsBack-valid image c.tasks.ensures.valid c.code.ensures.words)
