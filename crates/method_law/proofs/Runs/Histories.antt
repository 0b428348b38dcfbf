-- The runs: by induction over the events that are left to both.
use Rattle.machine_laws.proofs.Common.{◌≡◌, Bool, ℕ, refl, true, [], false, ◌∙◌, ◌∷◌, sym, ap, suc, zero, ◌==◌, ◌++◌, false≢true, ImageRecord, Method, Deferred, Direct, Service, Machine, next, Run, run_on, event_history, Event}
use Rattle.std.specs.Prelude.{flat_map}
use Rattle.std.proofs.Common.{append_assoc}
use Rattle.std.proofs.lemmas.Bool.{eq-eqb}
use Rattle.machine_model.specs.Run.{history}
use Rattle.machine_model.specs.Text.{end_history}
use Rattle.method_law.specs.Modes.{Related}
use Rattle.method_law.specs.Going.{owed}
use Rattle.method_law.proofs.Events.Looks.{related-t, related-end}

-- the run that begins with this event
abbrev with_event : Event → Run → Run
with_event e r = record { events = e ∷ r.events; last = r.last }

module _ (served : Service → Bool) (n : ℕ) where
  -- a run at its end, and a run that goes on

  abbrev ends_or : Bool → Method → ℕ → Machine → Run
  ends_or b method more m =
      elim b [
        | true ↦ record { events = []; last = m }
        | false ↦ with_event (next served method m).0 (run_on served method n more (next served method m).1)
      ]

  pub run-stops : (method : Method) (more : ℕ) (m : Machine) → (m.t == n) ≡ true → run_on served method n more m ≡ record { events = []; last = m }
  run-stops method zero m e = refl
  run-stops method (suc more) m e = ap (λ b. ends_or b method more m) e

  pub run-goes : (method : Method) (more : ℕ) (m : Machine) → (m.t == n) ≡ false
      → run_on served method n (suc more) m ≡ with_event (next served method m).0 (run_on served method n more (next served method m).1)
  run-goes method more m e = ap (λ b. ends_or b method more m) e

  -- a run that comes to n task steps and is not there yet has an event to go
  pub is-left : (method : Method) (more : ℕ) (m : Machine) → (m.t == n) ≡ false → (run_on served method n more m).last.t ≡ n → (k : ℕ) × (more ≡ suc k)
  is-left method zero m e h = absurd (false≢true (sym e ∙ eq-eqb m.t n h))
  is-left method (suc k) m e h = (k, refl)

  -- the rest of a run that goes on comes to as many
  pub rest-ends : (method : Method) (k : ℕ) (m : Machine) → (m.t == n) ≡ false → (run_on served method n (suc k) m).last.t ≡ n → (run_on served method n k (next served method m).1).last.t ≡ n
  rest-ends method k m e h = sym (ap (λ (r : Run). r.last.t) (run-goes method k m e)) ∙ h

module _ (image : ImageRecord) where
  -- the history of a run that begins with this event
  history-more : (e : Event) (r : Run) → history image (with_event e r) ≡ event_history image e ++ history image r
  history-more e r = append_assoc (event_history image e) (flat_map (event_history image) r.events) (end_history r.last.t)

  module _ (served : Service → Bool) (n : ℕ) where
    -- what has to be shown of both runs from these machines on
    abbrev pub Agree : ℕ → ℕ → Machine → Machine → Type 0
    Agree more more2 d m = history image (run_on served Deferred n more d) ≡ owed image d m ++ history image (run_on served Direct n more2 m)

    -- the history of a run that goes on
    history-on : (method : Method) (k : ℕ) (m : Machine) → (m.t == n) ≡ false
        → history image (run_on served method n (suc k) m) ≡ event_history image (next served method m).0 ++ history image (run_on served method n k (next served method m).1)
    history-on method k m e = ap (history image) (run-goes served n method k m e) ∙ history-more (next served method m).0 (run_on served method n k (next served method m).1)

    -- at the end
    pub agree-end : (more more2 : ℕ) (d m : Machine) → Related served n d m → (d.t == n) ≡ true → Agree more more2 d m
    agree-end more more2 d m r e =
        let t = related-t served image n d m r in
        let e2 : (m.t == n) ≡ true = ap (λ u. u == n) t ∙ e in
        ap (history image) (run-stops served n Deferred more d e)
        ∙ ap end_history (sym t)
        ∙ sym (ap (λ l. l ++ history image (run_on served Direct n more2 m)) (related-end served image n d m r e) ∙ ap (history image) (run-stops served n Direct more2 m e2))

    -- the deferred run has an event alone
    pub agree-alone : (k more2 : ℕ) (d m : Machine) → (d.t == n) ≡ false → event_history image (next served Deferred d).0 ++ owed image (next served Deferred d).1 m ≡ owed image d m
        → Agree k more2 (next served Deferred d).1 m → Agree (suc k) more2 d m
    agree-alone k more2 d m e lines rest =
        let x = next served Deferred d in
        let after2 = history image (run_on served Direct n more2 m) in
        history-on Deferred k d e ∙ ap (λ l. event_history image x.0 ++ l) rest
        ∙ sym (append_assoc (event_history image x.0) (owed image x.1 m) after2) ∙ ap (λ l. l ++ after2) lines

    -- both have an event
    pub agree-together : (k k2 : ℕ) (d m : Machine) → (d.t == n) ≡ false → (m.t == n) ≡ false
        → event_history image (next served Deferred d).0 ++ owed image (next served Deferred d).1 (next served Direct m).1 ≡ owed image d m ++ event_history image (next served Direct m).0
        → Agree k k2 (next served Deferred d).1 (next served Direct m).1 → Agree (suc k) (suc k2) d m
    agree-together k k2 d m e e2 lines rest =
        let x = next served Deferred d in
        let y = next served Direct m in
        let after2 = history image (run_on served Direct n k2 y.1) in
        history-on Deferred k d e ∙ ap (λ l. event_history image x.0 ++ l) rest
        ∙ sym (append_assoc (event_history image x.0) (owed image x.1 y.1) after2) ∙ ap (λ l. l ++ after2) lines
        ∙ append_assoc (owed image d m) (event_history image y.0) after2
        ∙ sym (ap (λ l. owed image d m ++ l) (history-on Direct k2 m e2))

    -- the direct run has a look alone
    pub agree-look : (more k2 : ℕ) (d m : Machine) → (m.t == n) ≡ false → event_history image (next served Direct m).0 ≡ [] → owed image d (next served Direct m).1 ≡ owed image d m
        → Agree more k2 d (next served Direct m).1 → Agree more (suc k2) d m
    agree-look more k2 d m e lines same rest =
        let y = next served Direct m in
        let after2 = history image (run_on served Direct n k2 y.1) in
        rest ∙ ap (λ l. l ++ after2) same
        ∙ sym (ap (λ l. owed image d m ++ l) (history-on Direct k2 m e ∙ ap (λ l. l ++ after2) lines))
