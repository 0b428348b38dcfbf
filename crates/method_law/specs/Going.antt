-- How the events of both runs go together.
use Rattle.std.specs.Prelude.{◌≡◌, ℕ, Bool, false, List, ◌++◌, None, ◌⊎◌, ◌==◌}
use Rattle.kern_base.specs.declared.kinds.Method.TheVariants.{Direct, Deferred}
use Rattle.kern_base.specs.declared.services.Service.{Service}
use Rattle.kern_model.specs.Valid.{IsLinked}
use Rattle.app_image.specs.Image.{ImageRecord}
use Rattle.machine_model.specs.declared.events.Event.{Event}
use Rattle.machine_model.specs.Machine.{Machine}
use Rattle.machine_model.specs.Rules.{next, switch_of}
use Rattle.machine_model.specs.Looks.{look_at}
use Rattle.machine_model.specs.Premises.{enters_by_step, enters_locked, loses_post, readies_interrupted}
use Rattle.machine_model.specs.Text.{event_history, history_line}
use Rattle.machine_model.specs.Words.{switch_words}
use Rattle.method_law.specs.Modes.{Related}

-- an event breaks none of the premises
pub record BreaksNone (e : Event) : Type 0 where
  pub by_step : enters_by_step e.what ≡ false
  pub locked : enters_locked e.what ≡ false
  pub marked : e.marked ≡ false
  pub lost : loses_post e.what ≡ false
  pub same : readies_interrupted e.what ≡ false

-- the line that the deferred run still owes: the switch to the task that the direct machine has settled on
abbrev pub owed : ImageRecord → Machine → Machine → List ℕ
owed image d m = history_line d.t (switch_words image (switch_of d.current m.current))

-- the deferred machine has an event, and the direct one stands still
abbrev pub GoesAlone : (Service → Bool) → ImageRecord → ℕ → Machine → Machine → Type 0
GoesAlone served image n d m =
    let e = next served Deferred d in
    Related served n e.1 m × (event_history image e.0 ++ owed image e.1 m ≡ owed image d m)

-- both have an event
abbrev pub GoTogether : (Service → Bool) → ImageRecord → ℕ → Machine → Machine → Type 0
GoTogether served image n d m =
    let e = next served Deferred d in
    let f = next served Direct m in
    Related served n e.1 f.1 × (event_history image e.0 ++ owed image e.1 f.1 ≡ owed image d m ++ event_history image f.0)

-- Where no look is due, an event of the deferred run that breaks no premise keeps the machines related, alone or together
-- with one of the direct run; and the histories grow by the same lines.
abbrev pub Goes : (Service → Bool) → ImageRecord → ℕ → Machine → Machine → Type 0
Goes served image n d m = GoesAlone served image n d m ⊎ GoTogether served image n d m

-- Where no look is due, an event of the deferred run that breaks no premise goes with one of the direct run or alone.
abbrev pub EventsGo : Type 0
EventsGo =
    (served : Service → Bool) (image : ImageRecord) (n : ℕ) (d m : Machine) → Related served n d m → (d.t == n) ≡ false
    → look_at d.s d.looks ≡ None → look_at m.s m.looks ≡ None → BreaksNone (next served Deferred d).0
    → IsLinked d.kernel → Goes served image n d m
