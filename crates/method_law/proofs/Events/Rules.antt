-- The events of both runs by their rules, and the lines that they write.
use Rattle.machine_laws.proofs.Common.{◌≡◌, Bool, ℕ, refl, true, List, [], ◌∙◌, None, Some, sym, subst, ap, ◌≤◌, if◌then◌else◌, ◌++◌, ImageRecord, Method, Deferred, Direct, Service, Machine, rule, Rule, done, event_history, Event}
use Rattle.std.specs.Prelude.{◌+◌}
use Rattle.std.proofs.Common.{append-nil}
use Rattle.std.proofs.lemmas.Bool.{eq-eqb}
use Rattle.machine_model.specs.declared.events.What.{What}
use Rattle.machine_model.specs.Answers.{task_id}
use Rattle.machine_model.specs.Rules.{raw, marks, switch_of}
use Rattle.machine_model.specs.Text.{history_line, history_words}
use Rattle.machine_model.specs.Words.{switch_words}
use Rattle.method_law.specs.Modes.{Related, task_level, frame}
use Rattle.method_law.specs.Going.{owed, GoesAlone, GoTogether}
use Rattle.method_law.proofs.Events.Twins.{Twins, twins, frame_twins}

-- the event and the machine that a rule gives
abbrev pub after : (Service → Bool) → Method → Rule → Machine → Event × Machine
after served method r m =
    let c = done served method r m in
    let n = c.machine in
    (record { s = m.s; t = m.t; what = c.what; switch = switch_of m.current n.current; marked = marks served r m }, record n { s = m.s + raw r })

module _ (served : Service → Bool) (image : ImageRecord) (n : ℕ) where
  -- what has to be shown of both events
  abbrev pub TogetherBy : Machine → Machine → Event × Machine → Event × Machine → Type 0
  TogetherBy d m e f = Related served n e.1 f.1 × (event_history image e.0 ++ owed image e.1 f.1 ≡ owed image d m ++ event_history image f.0)

  pub together-by : (d m : Machine) (r q : Rule) → rule Deferred d ≡ r → rule Direct m ≡ q → TogetherBy d m (after served Deferred r d) (after served Direct q m) → GoTogether served image n d m
  together-by d m r q e f h =
      subst (λ x. TogetherBy d m (after served Deferred x d) (after served Direct (rule Direct m) m)) (sym e)
      (subst (λ y. TogetherBy d m (after served Deferred r d) (after served Direct y m)) (sym f) h)

  -- of the deferred machine's event alone
  abbrev pub AloneBy : Machine → Machine → Event × Machine → Type 0
  AloneBy d m e = Related served n e.1 m × (event_history image e.0 ++ owed image e.1 m ≡ owed image d m)

  pub alone-by : (d m : Machine) (r : Rule) → rule Deferred d ≡ r → AloneBy d m (after served Deferred r d) → GoesAlone served image n d m
  alone-by d m r e h = subst (λ x. AloneBy d m (after served Deferred x d)) (sym e) h

  -- where the current task stays there is no line
  pub no-switch : (t c : ℕ) → history_line t (switch_words image (switch_of c c)) ≡ []
  no-switch t c =
      ap (λ b. history_line t (switch_words image (if b then None else Some (task_id c, task_id c)))) (eq-eqb c c refl)

  pub same-lines : (t u c e : ℕ) (lines : List ℕ) → lines ++ history_line t (switch_words image (switch_of c c)) ≡ history_line u (switch_words image (switch_of e e)) ++ lines
  same-lines t u c e lines = ap (λ l. lines ++ l) (no-switch t c) ∙ append-nil lines ∙ sym (ap (λ l. l ++ lines) (no-switch u e))

  -- two machines of one mode, with the same current task, and events with the same line
  pub twins-go : (t c : ℕ) (w v : What) (x y : Machine) (s s2 low high : ℕ) (b b2 : Bool) → low ≤ high → history_words image w ≡ history_words image v → Twins served n x y
      → Related served n (record x { s = high }) (record y { s = low })
      × (event_history image (record { s = s; t = t; what = w; switch = switch_of c x.current; marked = b }) ++ owed image (record x { s = high }) (record y { s = low })
      ≡ history_line t (switch_words image (switch_of c c)) ++ event_history image (record { s = s2; t = t; what = v; switch = switch_of c y.current; marked = b2 }))
  twins-go t c w v x y s s2 low high b b2 l e (twins z h s3 ls none) =
      let switch = history_line t (switch_words image (switch_of c z.current)) in (
        task_level (record z { s = high }) true h low ls none l,
        same-lines z.t t z.current c (history_line t (history_words image w) ++ switch)
            ∙ ap (λ u. history_line t (switch_words image (switch_of c c)) ++ (history_line t u ++ switch)) e,
      )
  twins-go t c w v x y s s2 low high b b2 l e (frame_twins z f registers later s3 ls agrees opens) =
      let switch = history_line t (switch_words image (switch_of c z.current)) in (
        frame (record z { s = high }) f registers later low ls agrees (record { lock = opens.lock; posts = opens.posts; goes_on = opens.goes_on }) l,
        same-lines z.t t z.current c (history_line t (history_words image w) ++ switch)
            ∙ ap (λ u. history_line t (switch_words image (switch_of c c)) ++ (history_line t u ++ switch)) e,
      )
