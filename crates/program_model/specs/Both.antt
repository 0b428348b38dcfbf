-- The two runs of a case by both methods, and what is written of them.
use Rattle.std.specs.Prelude.{ℕ, Bool, List, [], ◌∷◌, ◌++◌, codes, decimal}
use Rattle.kern_base.specs.declared.kinds.Method.{Method}
use Rattle.kern_base.specs.declared.kinds.Method.TheVariants.{Direct, Deferred}
use Rattle.kern_base.specs.declared.services.Service.{Service}
use Rattle.served.specs.Served.{program_serves}
use Rattle.app_image.specs.Image.{ImageRecord}
use Rattle.inject_list.specs.Lists.{ListRecord}
use Rattle.machine_model.specs.Run.{Run, run, history}
use Rattle.machine_model.specs.Premises.{premise_lines}
use Rattle.program_model.specs.Listing.{line}

-- the runs of a case by the two methods
pub record Runs : Type 0 where
  pub direct : Run
  pub deferred : Run

-- both runs of a case to so many task steps, where there are these services
abbrev pub runs_of : (Service → Bool) → ImageRecord → ListRecord → ℕ → Runs
runs_of served image l n = record { direct = run served Direct image l n; deferred = run served Deferred image l n }

-- the run of a case by a method to so many task steps, with the services of the program
unfoldable pub run_of : Method → ImageRecord → ListRecord → ℕ → Run
run_of method image l n = run program_serves method image l n

-- the line of the raw steps of both runs
abbrev pub raw_line : ℕ → ℕ → List ℕ
raw_line direct deferred = line (codes "raw") (decimal direct ∷ decimal deferred ∷ [])

-- both task histories, the premises of the deferred run, and the raw steps of both runs
abbrev pub both_text : ImageRecord → Runs → List ℕ
both_text image r =
    codes "method direct\n" ++ (history image r.direct ++ (codes "method deferred\n" ++ (history image r.deferred
    ++ (premise_lines image r.deferred ++ raw_line r.direct.last.s r.deferred.last.s))))
