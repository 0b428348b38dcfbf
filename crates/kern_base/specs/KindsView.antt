-- What the fields of a table of kinds mean.
use Rattle.kern_base.specs.Tables.{KindTable}
use Rattle.kern_base.specs.declared.kinds.Kinds.TheInside.{Inside}

abbrev pub kinds_of : Inside → KindTable
kinds_of a = record { objects = a.objects.items; tasks = a.tasks }
