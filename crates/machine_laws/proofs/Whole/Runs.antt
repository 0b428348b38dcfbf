-- Every machine of a run is whole.
use Rattle.machine_laws.proofs.Common.{◌≡◌, Bool, ℕ, refl, true, false, suc, zero, ◌==◌, All-nil, All-cons, ImageRecord, IsValidImage, HasWords, ListRecord, IsValidList, Method, Service, events_left, Machine, start, next, run, run_on}
use Rattle.machine_model.specs.Run.{machines, machines_on}
use Rattle.machine_model.proofs.RunLaws.{run_on-more, run_on-end}
use Rattle.machine_laws.specs.Whole.{IsWholeMachine}
use Rattle.machine_laws.specs.Machines.{AreWhole}
use Rattle.machine_laws.proofs.Runs.Machines.{machines_on-end, machines_on-more}
use Rattle.machine_laws.proofs.Whole.Events.{KernelStaysWhole, whole-next}
use Rattle.machine_laws.proofs.Whole.Start.{whole-start_machine}

module _ (laws : KernelStaysWhole) (served : Service → Bool) (method : Method) where
  abbrev Whole : Machine → Type 0
  Whole m = IsWholeMachine served method m

  -- from a whole machine on
  whole-on : (n more : ℕ) (m : Machine) → Whole m → AreWhole served method (machines_on served method n more m) (run_on served method n more m).last
  whole-on n zero m w = record { each = All-nil Whole; last = w }
  whole-on n (suc more) m w = by (m.t == n) refl (whole-on n more (next served method m).1 (whole-next laws served method m w))
    where
      by : (b : Bool) → (m.t == n) ≡ b → AreWhole served method (machines_on served method n more (next served method m).1) (run_on served method n more (next served method m).1).last → AreWhole served method (machines_on served method n (suc more) m) (run_on served method n (suc more) m).last
      by true t rest = rw (machines_on-end served method n (suc more) m t, run_on-end served method n (suc more) m t) (record { each = All-nil Whole; last = w })
      by false t rest = rw (machines_on-more served method n more m t, run_on-more served method n more m t) (record { each = All-cons Whole m (machines_on served method n more (next served method m).1) w rest.each; last = rest.last })

  pub whole-run : (image : ImageRecord) (list : ListRecord) (n : ℕ) → IsValidImage image → HasWords image → IsValidList image list → AreWhole served method (machines served method image list n) (run served method image list n).last
  whole-run image list n h words l =
      let m = start image list in
      whole-on n (events_left n m) m (whole-start_machine served method image list h words l)
