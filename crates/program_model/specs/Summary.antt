-- The summary of both runs of a generated case.
use Rattle.std.specs.Prelude.{ℕ, ◌+◌, List, [], ◌∷◌, ◌++◌, Bool, true, false, is_some, codes, decimal}
use Rattle.std.specs.List.{count_by}
use Rattle.app_image.specs.Image.{ImageRecord}
use Rattle.machine_model.specs.declared.events.Event.{Event}
use Rattle.machine_model.specs.declared.events.What.{What}
use Rattle.machine_model.specs.declared.events.What.TheVariants.{Call}
use Rattle.machine_model.specs.Text.{in_history}
use Rattle.machine_model.specs.Run.{Run}
use Rattle.machine_model.specs.Premises.{premise_lines}
use Rattle.program_model.specs.Generated.{steps_for}
use Rattle.program_model.specs.Both.{Runs}
use Rattle.program_model.specs.Listing.{line}

abbrev pub is_call : What → Bool
is_call (Call task service args n_args) = true
is_call what = false

-- how many calls some events are, how many switches, and how many lines of their own a history has of them
pub record Counts : Type 0 where
  pub calls : ℕ
  pub switches : ℕ
  pub own : ℕ

abbrev pub counts_of : List Event → Counts
counts_of events = record {
  calls = count_by (λ e. is_call e.what) events;
  switches = count_by (λ e. is_some e.switch) events;
  own = count_by (λ e. in_history e.what) events;
}

-- the line of one run: its method, its raw steps, and how many calls, switches and lines its history has, with its last line
abbrev pub counted_line : List ℕ → ℕ → Counts → List ℕ
counted_line method raw c =
    line method (
    codes "raw" ∷ decimal raw ∷ codes "calls" ∷ decimal c.calls ∷ codes "switches" ∷ decimal c.switches ∷ codes "lines" ∷ decimal (c.own + c.switches + 1) ∷ [])

abbrev pub summary_line : List ℕ → Run → List ℕ
summary_line method r = counted_line method r.last.s (counts_of r.events)

-- the line of what was asked for
abbrev pub first_line : ℕ → ℕ → List ℕ
first_line seed size = line (codes "soak") (decimal seed ∷ decimal size ∷ codes "n" ∷ decimal (steps_for size) ∷ [])

-- the summary for a seed and a size
abbrev pub summary : ℕ → ℕ → ImageRecord → Runs → List ℕ
summary seed size image r =
    first_line seed size ++ (summary_line (codes "direct") r.direct ++ (summary_line (codes "deferred") r.deferred ++ premise_lines image r.deferred))
