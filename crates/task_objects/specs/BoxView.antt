-- What the fields of a task's own objects mean.
use Rattle.task_objects.specs.Box.{TaskObjects}
use Rattle.task_objects.specs.declared.boxes.TaskBox.TheInside.{Inside}

abbrev pub objects_of : Inside → TaskObjects
objects_of a = record { count = a.count; limit = a.queue.limit; keys = a.queue.keys }
