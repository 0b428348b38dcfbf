-- The rule that is chosen applies.
use Rattle.machine_laws.proofs.Common.{◌≡◌, Bool, refl, true, List, [], false, ◌∷◌, None, Some, Option, ◌==◌, nat_le, true≢false, Look, Method, choice_by, equal, due, Place, FrameRecord, look_at, Machine, WholeStep, Queued, front, rule, Rule, Begins, FrameRuns, FrameLimit, rule_of_look, Applies}
use Rattle.kern_model.proofs.Lemmas.{at_most, above}
use Rattle.machine_model.specs.Rules.{rule_of_due, rule_of_frames, rule_in_hand, rule_of_post, is_masked, is_quiet}
use Rattle.machine_laws.specs.RuleTable.{NothingComes, FramesStand, NoFrameStands}

no_post : (later : List Queued) → front later ≡ None → later ≡ []
no_post [] e = refl
no_post (q ∷ qs) e = cc

module _ (method : Method) (m : Machine) where
  of_post : (b : Bool) (o : Option Queued) → (m.kernel.lock == 0) ≡ b → front m.later ≡ o → NoFrameStands method None m → Applies method (rule_of_post b o) m
  of_post true (Some q) eb eo h = (h, equal m.kernel.lock 0 eb, eo)
  of_post true None eb eo h = (h, λ _. no_post m.later eo)
  of_post false o eb eo h = (h, λ (e : m.kernel.lock ≡ 0). let same : (0 == 0) ≡ false = rw e at eb in absurd (true≢false same))

  in_hand : (o : Option WholeStep) → m.in_hand ≡ o → NothingComes method m → m.frames ≡ [] → Applies method (rule_in_hand o m) m
  in_hand (Some w) e h none = record { comes = h; frames = none; in_hand = e }
  in_hand None e h none = of_post (m.kernel.lock == 0) (front m.later) refl refl (record { comes = h; frames = none; in_hand = e })

  of_frames : (fs : List FrameRecord) → m.frames ≡ fs → NothingComes method m → Applies method (rule_of_frames fs m) m
  of_frames (f ∷ below) e h =
      let stand : FramesStand method f below m = record { comes = h; frames = e } in
      choice_by (λ (r : Rule). Applies method r m) (nat_le m.config.isr_limit f.used) (FrameLimit f below) (FrameRuns f below) (λ t. (stand, at_most m.config.isr_limit f.used t)) (λ t. (stand, above m.config.isr_limit f.used t))
  of_frames [] e h = in_hand m.in_hand refl h e

  of_due : (o : Option Place) → due (is_masked method m.in_hand) (is_quiet m) m.s m.t m.frames m.interrupts ≡ o → m.begun ≡ true → look_at m.s m.looks ≡ None → Applies method (rule_of_due o m) m
  of_due (Some p) e begun look = record { begun = begun; no_look = look; due = e }
  of_due None e begun look = of_frames m.frames refl (record { begun = begun; no_look = look; none_due = e })

  of_look : (o : Option Look) → look_at m.s m.looks ≡ o → m.begun ≡ true → Applies method (rule_of_look method o m) m
  of_look (Some l) e begun = record { begun = begun; look = e }
  of_look None e begun = of_due (due (is_masked method m.in_hand) (is_quiet m) m.s m.t m.frames m.interrupts) refl begun e

  pub applies : Applies method (rule method m) m
  applies =
      choice_by (λ (r : Rule). Applies method r m) m.begun (rule_of_look method (look_at m.s m.looks) m) Begins (of_look (look_at m.s m.looks) refl) (λ e. e)
