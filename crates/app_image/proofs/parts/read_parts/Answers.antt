use Rattle.std.proofs.Common.{[]}
use Rattle.app_image.specs.Names.{IsFreeName}
use Rattle.app_image.specs.Places.{tasks_place}
use Rattle.app_image.specs.Reading.{name_at}
use Rattle.app_image.proofs.RowLaws.{rows_front, rows_back}
use Rattle.app_image.proofs.parts.read_parts.Goals as goal

pub read_tasks-requires-clause-names : goal.read_tasks-requires-clause-names
read_tasks-requires-clause-names c =
    let h = c.args.h.now in
    rw c.tasks_place.ensures.place (rows_front IsFreeName (name_at c.args.bytes.now) 36 h.tasks h.objects (tasks_place h) [] c.requires.names)

pub read_objects-requires-clause-names : goal.read_objects-requires-clause-names
read_objects-requires-clause-names c =
    let h = c.args.h.now in
    rw c.objects_place.ensures.place (rows_back IsFreeName (name_at c.args.bytes.now) 36 h.tasks h.objects (tasks_place h) [] c.requires.names)
