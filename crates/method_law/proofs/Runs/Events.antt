-- Both runs, event by event.
use Rattle.machine_laws.proofs.Common.{◌≡◌, Bool, ℕ, refl, true, [], false, ◌∙◌, ◌∷◌, None, Some, sym, arith, Option, subst, ap, ◌≤◌, inl, inr, suc, zero, ◌==◌, All, ◌++◌, false≢true, All-head, All-tail, ImageRecord, Look, Deferred, Direct, Service, look_at, Machine, next, Looks, Run, run_on, event_history, Event}
use Rattle.std.specs.Prelude.{◌+◌}
use Rattle.std.proofs.lemmas.Bool.{eq-eqb}
use Rattle.machine_model.specs.Looks.{without_look}
use Rattle.method_law.specs.Modes.{Related}
use Rattle.method_law.specs.Going.{BreaksNone, GoesAlone, GoTogether, owed}
use Rattle.method_law.specs.Runs.{KernelsStayValid}
use Rattle.method_law.proofs.Events.Modes.{events-go}
use Rattle.method_law.proofs.Events.Rules.{after, alone-by}
use Rattle.method_law.proofs.Events.Looks.{related-t, related-begun, look-first, look-second, look-rule, look-line, begins-go}
use Rattle.method_law.proofs.Runs.Histories.{Agree, run-goes, rest-ends, agree-end, agree-alone, agree-together, agree-look}

module _ (served : Service → Bool) (image : ImageRecord) (n : ℕ) where
  -- what is shown by induction over the events that are left to both runs
  abbrev pub Claim : ℕ → Type 0
  Claim fuel =
      (more more2 : ℕ) → more + more2 ≤ fuel → (d m : Machine) → Related served n d m
      → (run_on served Deferred n more d).last.t ≡ n → (run_on served Direct n more2 m).last.t ≡ n
      → All BreaksNone (run_on served Deferred n more d).events → KernelsStayValid served more d → Agree image served n more more2 d m

  -- a look of the deferred run
  look-alone : (d m : Machine) (l : Look) → Related served n d m → d.begun ≡ true → look_at d.s d.looks ≡ Some l → GoesAlone served image n d m
  look-alone d m l r b e =
      alone-by served image n d m (Looks l) (look-rule served image n Deferred d l b e)
      (look-first served image n d m r (without_look d.s d.looks), ap (λ h. h ++ owed image d m) (look-line served image n Deferred d l))

  -- a look of the direct run
  abbrev LooksOn : Machine → Machine → Event × Machine → Type 0
  LooksOn d m y = Related served n d y.1 × (event_history image y.0 ≡ []) × (owed image d y.1 ≡ owed image d m)

  look-other : (d m : Machine) (l : Look) → Related served n d m → m.begun ≡ true → look_at m.s m.looks ≡ Some l → LooksOn d m (next served Direct m)
  look-other d m l r b e =
      subst (λ a. LooksOn d m (after served Direct a m)) (sym (look-rule served image n Direct m l b e))
      (look-second served image n d m r (without_look m.s m.looks), look-line served image n Direct m l, refl)

  module _ (fuel : ℕ) (claim : Claim fuel) where
    -- both runs have an event to go
    module _ (k k2 : ℕ) (fits : suc k + suc k2 ≤ suc fuel) (d m : Machine) (r : Related served n d m)
        (ends : (run_on served Deferred n (suc k) d).last.t ≡ n) (ends2 : (run_on served Direct n (suc k2) m).last.t ≡ n)
        (breaks : All BreaksNone (run_on served Deferred n (suc k) d).events) (well : KernelsStayValid served (suc k) d) (e : (d.t == n) ≡ false) where
      e2 : (m.t == n) ≡ false
      e2 = ap (λ u. u == n) (related-t served image n d m r) ∙ e

      -- the first event of the deferred run breaks no premise, nor do those behind it
      all-break : All BreaksNone ((next served Deferred d).0 ∷ (run_on served Deferred n k (next served Deferred d).1).events)
      all-break = subst (λ (u : Run). All BreaksNone u.events) (run-goes served n Deferred k d e) breaks

      rest-break : All BreaksNone (run_on served Deferred n k (next served Deferred d).1).events
      rest-break = All-tail BreaksNone (next served Deferred d).0 (run_on served Deferred n k (next served Deferred d).1).events all-break

      by-alone : GoesAlone served image n d m → Agree image served n (suc k) (suc k2) d m
      by-alone g =
          agree-alone image served n k (suc k2) d m e g.1
          (claim k (suc k2) (omega (arith, fits)) (next served Deferred d).1 m g.0 (rest-ends served n Deferred k d e ends) ends2 rest-break well.1)

      by-both : GoTogether served image n d m → Agree image served n (suc k) (suc k2) d m
      by-both g =
          agree-together image served n k k2 d m e e2 g.1
          (claim k k2 (omega (arith, fits)) (next served Deferred d).1 (next served Direct m).1 g.0 (rest-ends served n Deferred k d e ends) (rest-ends served n Direct k2 m e2 ends2) rest-break well.1)

      by-look : LooksOn d m (next served Direct m) → Agree image served n (suc k) (suc k2) d m
      by-look g =
          agree-look image served n (suc k) k2 d m e2 g.1 g.2
          (claim (suc k) k2 (omega (arith, fits)) d (next served Direct m).1 g.0 ends (rest-ends served n Direct k2 m e2 ends2) breaks well)

      -- no look of the deferred run is due
      by-event : look_at d.s d.looks ≡ None → d.begun ≡ true → Agree image served n (suc k) (suc k2) d m
      by-event u b =
          let by : (o : Option Look) → look_at m.s m.looks ≡ o → Agree image served n (suc k) (suc k2) d m
          = λ o. elim o as (λ v. look_at m.s m.looks ≡ v → Agree image served n (suc k) (suc k2) d m) [
            | Some l ↦ λ h. by-look (look-other d m l r (related-begun served image n d m r ∙ b) h)
            | None ↦ λ h. elim (events-go served image n d m r e u h (All-head BreaksNone (next served Deferred d).0 (run_on served Deferred n k (next served Deferred d).1).events all-break) well.0)
                as (λ _. Agree image served n (suc k) (suc k2) d m) [
                  | inl g ↦ by-alone g
                  | inr g ↦ by-both g
                ]
          ] in
          by (look_at m.s m.looks) refl

      going : Agree image served n (suc k) (suc k2) d m
      going =
          let look : d.begun ≡ true → (o : Option Look) → look_at d.s d.looks ≡ o → Agree image served n (suc k) (suc k2) d m
          = λ b o. elim o as (λ v. look_at d.s d.looks ≡ v → Agree image served n (suc k) (suc k2) d m) [
            | Some l ↦ λ h. by-alone (look-alone d m l r b h)
            | None ↦ λ h. by-event h b
          ] in
          let begun : (b : Bool) → d.begun ≡ b → Agree image served n (suc k) (suc k2) d m
          = λ b. elim b as (λ v. d.begun ≡ v → Agree image served n (suc k) (suc k2) d m) [
            | true ↦ λ h. look h (look_at d.s d.looks) refl
            | false ↦ λ h. by-both (begins-go served image n d m r h)
          ] in
          begun d.begun refl

    goes-on : (more more2 : ℕ) → more + more2 ≤ suc fuel → (d m : Machine) → Related served n d m
        → (run_on served Deferred n more d).last.t ≡ n → (run_on served Direct n more2 m).last.t ≡ n
        → All BreaksNone (run_on served Deferred n more d).events → KernelsStayValid served more d → (d.t == n) ≡ false → Agree image served n more more2 d m
    goes-on zero more2 fits d m r h h2 breaks well e = absurd (false≢true (sym e ∙ eq-eqb d.t n h))
    goes-on (suc k) zero fits d m r h h2 breaks well e = absurd (false≢true (sym e ∙ eq-eqb d.t n (sym (related-t served image n d m r) ∙ h2)))
    goes-on (suc k) (suc k2) fits d m r h h2 breaks well e = going k k2 fits d m r h h2 breaks well e

    next-claim : Claim (suc fuel)
    next-claim more more2 fits d m r h h2 breaks well =
        let by : (b : Bool) → (d.t == n) ≡ b → Agree image served n more more2 d m
        = λ b. elim b as (λ v. (d.t == n) ≡ v → Agree image served n more more2 d m) [
          | true ↦ λ e. agree-end image served n more more2 d m r e
          | false ↦ λ e. goes-on more more2 fits d m r h h2 breaks well e
        ] in
        by (d.t == n) refl

  pub runs-claim : (fuel : ℕ) → Claim fuel
  runs-claim zero zero more2 fits d m r h h2 breaks well = agree-end image served n zero more2 d m r (eq-eqb d.t n h)
  runs-claim zero (suc k) more2 fits d m r h h2 breaks well = absurd (omega (arith, fits))
  runs-claim (suc fuel) more more2 fits d m r h h2 breaks well = next-claim fuel (runs-claim fuel) more more2 fits d m r h h2 breaks well
