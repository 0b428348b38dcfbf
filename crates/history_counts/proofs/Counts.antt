-- A history tells its counts.
use Rattle.std.proofs.Common.{◌≡◌, ℕ, ◌+◌, List, [], ◌∷◌, Bool, cond, codes, arith, refl, sym, ap, ◌∙◌}
use Rattle.std.specs.Prelude.{is_some, flat_map}
use Rattle.std.specs.List.{AllByRecursion, fold}
use Rattle.std.proofs.lemmas.List.Elements.{recursion_from_All}
use Rattle.app_image.specs.Image.{ImageRecord}
use Rattle.app_image.specs.Names.{IsFreeName, names_of}
use Rattle.machine_model.specs.declared.events.Event.{Event}
use Rattle.machine_model.specs.Text.{in_history, event_history, end_history}
use Rattle.machine_model.specs.Run.{Run, history}
use Rattle.program_model.specs.Summary.{is_call, Counts, counts_of}
use Rattle.history_counts.specs.Law.{HistoriesTellCounts}
use Rattle.history_counts.proofs.Reader.{Seen, seen, read, read-append}
use Rattle.history_counts.proofs.Reader.Place.{Number}
use Rattle.history_counts.proofs.Lines.{read_own}
use Rattle.history_counts.proofs.Told.{reads_event}

-- how many events pass a test, beside so many
abbrev more_by : (Event → Bool) → ℕ → List Event → ℕ
more_by test n events = fold (λ (m : ℕ) (e : Event). m + cond (test e) 1 0) n events

module _ (image : ImageRecord) (free : AllByRecursion IsFreeName (names_of image.tasks image.objects)) where
  reads_events : (events : List Event) (c s o : ℕ)
      → read (flat_map (event_history image) events) (seen Number c s o)
      ≡ seen Number (more_by (λ e. is_call e.what) c events) (more_by (λ e. is_some e.switch) s events) (more_by (λ e. in_history e.what) o events)
  reads_events [] c s o = refl
  reads_events (e ∷ events) c s o =
      let rest : List ℕ = flat_map (event_history image) events in
      read-append (event_history image e) rest (seen Number c s o)
      ∙ ap (read rest) (reads_event image free e c s o)
      ∙ reads_events events (c + cond (is_call e.what) 1 0) (s + cond (is_some e.switch) 1 0) (o + cond (in_history e.what) 1 0)

  reads_history : (r : Run) → read (history image r) (seen Number 0 0 0) ≡ seen Number ((counts_of r.events).calls + 0) (counts_of r.events).switches ((counts_of r.events).own + 1)
  reads_history r =
      let n : Counts = counts_of r.events in
      read-append (flat_map (event_history image) r.events) (end_history r.last.t) (seen Number 0 0 0)
      ∙ ap (read (end_history r.last.t)) (reads_events r.events 0 0 0)
      ∙ read_own r.last.t (codes "end") [] n.calls n.switches n.own refl refl tt

abbrev counts : ℕ → ℕ → ℕ → Counts
counts calls switches own = record { calls = calls; switches = switches; own = own }

pub histories_tell_counts : HistoriesTellCounts
histories_tell_counts image valid a b same =
    let free : AllByRecursion IsFreeName (names_of image.tasks image.objects) = recursion_from_All IsFreeName (names_of image.tasks image.objects) valid.names in
    let told = sym (reads_history image free a) ∙ ap (λ bytes. read bytes (seen Number 0 0 0)) same ∙ reads_history image free b in
    let one : Counts = counts_of a.events in
    let two : Counts = counts_of b.events in
    let calls : one.calls + 0 ≡ two.calls + 0 = ap (λ (t : Seen). t.calls) told in
    let own : one.own + 1 ≡ two.own + 1 = ap (λ (t : Seen). t.own) told in
    let same_calls : one.calls ≡ two.calls = omega (arith, calls) in
    let same_own : one.own ≡ two.own = omega (arith, own) in
    let same_switches : one.switches ≡ two.switches = ap (λ (t : Seen). t.switches) told in
    ap (λ n. counts n one.switches one.own) same_calls ∙ ap (λ n. counts two.calls n one.own) same_switches ∙ ap (λ n. counts two.calls two.switches n) same_own
