use Rattle.std.proofs.Common.{◌≡◌, length, map, take}
use Rattle.kern_model.specs.Start.{object_of}
use Rattle.kernel_records.specs.ObjectView.{declared_queue, objects_in}
use Rattle.kernel_records.proofs.starting.start_objects.Given as goal

abbrev pub invariant-loop-def : goal.invariant-loop-def
invariant-loop-def l =
    record {
      size : length l.objects.items ≡ length (take l.def-index l.defs);
      objects : objects_in (map declared_queue (take l.def-index l.defs)) l.objects.items ≡ map object_of (take l.def-index l.defs);
    }
