-- The events of the mode in which a frame stands.
use Rattle.machine_laws.proofs.Common.{◌≡◌, Bool, ℕ, true, List, [], false, ◌∙◌, ◌∷◌, None, subst, ap, ◌≤◌, if◌then◌else◌, nat_le, ImageRecord, Look, Deferred, Direct, Service, Registers, due, FrameRecord, look_at, Machine, Queued, next, rule, Rule, Enters, FrameRuns, FrameLimit, rule_of_look}
use Rattle.machine_model.specs.declared.events.How.TheVariants as how
use Rattle.machine_model.specs.Rules.{rule_of_due, is_quiet}
use Rattle.method_law.specs.Relation.{all_performed}
use Rattle.method_law.specs.Modes.{at_step, frame_machine, FrameAgrees, IsOpen}
use Rattle.method_law.specs.Going.{BreaksNone, GoTogether}
use Rattle.method_law.proofs.Due.Modes.{NoneBySteps, frame-none, frame-alike}
use Rattle.method_law.proofs.Events.FrameCode.{leave-goes, running-goes}
use Rattle.method_law.proofs.Events.Rules.{after, together-by}

module _ (served : Service → Bool) (image : ImageRecord) (n : ℕ) (d : Machine) (f : FrameRecord) (registers : Registers) (later : List Queued) (s : ℕ) (looks : List Look)
    (behind : s ≤ d.s) (agrees : FrameAgrees f registers) (opens : IsOpen n later d) (unseen : look_at d.s d.looks ≡ None) (unseen2 : look_at s looks ≡ None) where
  abbrev other_frame : FrameRecord
  other_frame = record f { registers = registers }

  abbrev first : Machine
  first = frame_machine f later d

  abbrev second : Machine
  second = at_step s looks (record (frame_machine other_frame [] d) { kernel = all_performed served later d.kernel })

  pub goes-frame : BreaksNone (next served Deferred first).0 → GoTogether served image n first second
  goes-frame h =
      let o = due false (is_quiet first) d.s d.t (f ∷ []) d.interrupts in
      let look : rule Deferred first ≡ rule_of_due o first = ap (λ l. rule_of_look Deferred l first) unseen in
      let breaks : (r : Rule) → rule Deferred first ≡ r → BreaksNone (after served Deferred r first).0 = λ r e. subst (λ q. BreaksNone (after served Deferred q first).0) e h in
      let steps : NoneBySteps o = λ p e. (breaks (Enters p) (look ∙ ap (λ v. rule_of_due v first) e)).by_step in
      let full = nat_le d.config.isr_limit f.used in
      let one : rule Deferred first ≡ (if full then FrameLimit f [] else FrameRuns f [])
      = look ∙ ap (λ v. rule_of_due v first) (frame-none (is_quiet first) d.s d.t f d.interrupts steps) in
      let two : rule Direct second ≡ (if full then FrameLimit other_frame [] else FrameRuns other_frame [])
      = ap (λ l. rule_of_look Direct l second) unseen2
      ∙ ap (λ v. rule_of_due v second) (frame-alike (is_quiet first) (is_quiet second) s d.s d.t f registers d.interrupts behind steps) in
      let by : (b : Bool) → rule Deferred first ≡ (if b then FrameLimit f [] else FrameRuns f []) → rule Direct second ≡ (if b then FrameLimit other_frame [] else FrameRuns other_frame [])
      → GoTogether served image n first second
      = λ b. elim b as (λ t. rule Deferred first ≡ (if t then FrameLimit f [] else FrameRuns f []) → rule Direct second ≡ (if t then FrameLimit other_frame [] else FrameRuns other_frame [])
      → GoTogether served image n first second) [
        | true ↦ λ e g.
            together-by served image n first second (FrameLimit f []) (FrameLimit other_frame []) e g
            (leave-goes served image n d f registers s looks behind opens.lock opens.goes_on later opens.posts how.Limit 0 false false)
        | false ↦ λ e g.
            let k = breaks (FrameRuns f []) e in
            together-by served image n first second (FrameRuns f []) (FrameRuns other_frame []) e g
            (running-goes served image n d f registers later s looks behind opens.lock opens.posts opens.goes_on agrees k.marked k.lost)
      ] in
      by full one two
