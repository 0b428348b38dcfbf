-- The events at task level.
use Rattle.machine_laws.proofs.Common.{◌≡◌, Bool, ℕ, refl, true, List, [], false, ◌∙◌, None, Some, arith, Option, subst, ap, ◌≤◌, ◌==◌, ◌&&◌, not, All-nil, ImageRecord, Look, is_post, Deferred, Direct, Service, task_at, Registers, acts, due, Place, is_step, look_at, Machine, WholeStep, Queued, next, rule, Begins, Enters, MicroStep, TaskActs, rule_of_look, advances, event_history}
use Rattle.std.specs.Prelude.{◌+◌}
use Rattle.std.proofs.lemmas.Bool.{eqb-true, not-false}
use Rattle.machine_model.specs.Frames.{entered}
use Rattle.machine_model.specs.Rules.{rule_of_post, rule_of_due}
use Rattle.machine_model.specs.Text.{history_words}
use Rattle.method_law.specs.Alike.{AgreeBut}
use Rattle.method_law.specs.Modes.{frame, at_step, task_level_machine, HasNoTake, FrameAgrees, IsOpen}
use Rattle.method_law.specs.Going.{BreaksNone, GoTogether}
use Rattle.method_law.proofs.Events.Twins.{twins}
use Rattle.method_law.proofs.Events.Acts.{like-acts, like-advances}
use Rattle.method_law.proofs.Due.Modes.{NoneBySteps, masked-none, busy-none, task_level-alike}
use Rattle.method_law.proofs.Events.Rules.{after, TogetherBy, together-by, same-lines, twins-go}

-- no post can be taken where none waits
nothing-taken : (b : Bool) → not (b && false) ≡ true
nothing-taken true = refl
nothing-taken false = refl

-- registers agree with themselves
pub agree-refl : (marks : List ℕ) (a : Registers) → AgreeBut marks a a
agree-refl marks a = record { pc = refl; count = refl; unmarked = λ r h. refl }

-- with no post the current task acts
acts-rule : (b : Bool) → rule_of_post b None ≡ TaskActs
acts-rule true = refl
acts-rule false = refl

module _ (served : Service → Bool) (image : ImageRecord) (n : ℕ) (d : Machine) (s : ℕ) (looks : List Look) (behind : s ≤ d.s) where
  -- the first event
  pub goes-begins : (hand : Option WholeStep) → HasNoTake hand → GoTogether served image n (task_level_machine false hand d) (at_step s looks (task_level_machine false hand d))
  goes-begins hand none =
      let x = task_level_machine true hand d in
      let e = after served Deferred Begins (task_level_machine false hand d) in
      twins-go served image n d.t d.current e.0.what e.0.what x (at_step s looks x) d.s s (s + 0) (d.s + 0) false false (omega (arith, behind)) refl (twins d hand s looks none)

  module _ (short : (d.t == n) ≡ false) (unseen : look_at d.s d.looks ≡ None) (unseen2 : look_at s looks ≡ None) where
    abbrev free : Machine
    free = task_level_machine true None d

    abbrev other : Machine
    other = at_step s looks (task_level_machine true None d)

    -- an interrupt enters
    goes-enters : (p : Place) → d.kernel.lock ≡ 0 → TogetherBy served image n free other (after served Deferred (Enters p) free) (after served Direct (Enters p) other)
    goes-enters p lock =
        let f = entered p.interrupt in
        let e = after served Deferred (Enters p) free in
        let agrees : FrameAgrees f f.registers = record { agree = agree-refl [] f.registers; marks = λ r h. refl } in
        let opens : IsOpen n [] e.1 = record { lock = lock; posts = All-nil (λ (q : Queued). is_post q.service ≡ true); goes_on = short } in
        (frame e.1 f f.registers [] (s + 0) looks agrees opens (omega (arith, behind)), same-lines served image n d.t d.t d.current d.current (event_history image e.0))

    -- the current task acts
    goes-acts : TogetherBy served image n free other (after served Deferred TaskActs free) (after served Direct TaskActs other)
    goes-acts =
        let x = d.current in
        let f = (task_at d.kernel x).answered in
        let like = like-acts served n d s looks x f in
        let c = acts served x f free in
        let e = acts served x f other in
        twins-go served image n d.t d.current c.what e.what c.machine e.machine d.s s (s + 1) (d.s + 1) false false (omega (arith, behind)) (ap (history_words image) like.what) like.machines

    -- a micro-step
    goes-advances : (w : WholeStep) → HasNoTake (Some w)
        → TogetherBy served image n (task_level_machine true (Some w) d) (at_step s looks (task_level_machine true (Some w) d))
        (after served Deferred (MicroStep w) (task_level_machine true (Some w) d)) (after served Direct (MicroStep w) (at_step s looks (task_level_machine true (Some w) d)))
    goes-advances w none =
        let like = like-advances served n d s looks (Some w) w none in
        let c = advances served w (task_level_machine true (Some w) d) in
        let e = advances served w (at_step s looks (task_level_machine true (Some w) d)) in
        twins-go served image n d.t d.current c.what e.what c.machine e.machine d.s s (s + 1) (d.s + 1) false false (omega (arith, behind)) (ap (history_words image) like.what) like.machines

    -- which of them it is

    abbrev due_now : Option Place
    due_now = due false true d.s d.t [] d.interrupts

    free-rule : rule Deferred free ≡ rule_of_due due_now free
    free-rule =
        ap (λ l. rule_of_look Deferred l free) unseen
        ∙ ap (λ q. rule_of_due (due false q d.s d.t [] d.interrupts) free) (nothing-taken (d.kernel.lock == 0))

    -- what breaks no premise is no interrupt by raw steps, and none under the lock
    entry-premises : (p : Place) → rule Deferred free ≡ Enters p → BreaksNone (next served Deferred free).0 → (is_step p.interrupt.moment ≡ false) × (not (d.kernel.lock == 0) ≡ false)
    entry-premises p e h =
        let k : BreaksNone (after served Deferred (Enters p) free).0 = subst (λ r. BreaksNone (after served Deferred r free).0) e h in
        (k.by_step, k.locked)

    goes-free : BreaksNone (next served Deferred free).0 → GoTogether served image n free other
    goes-free h =
        let steps : NoneBySteps due_now = λ p e. (entry-premises p (free-rule ∙ ap (λ o. rule_of_due o free) e) h).0 in
        let other-rule : rule Direct other ≡ rule_of_due due_now other
        = ap (λ l. rule_of_look Direct l other) unseen2
        ∙ ap (λ q. rule_of_due (due false q s d.t [] d.interrupts) other) (nothing-taken (d.kernel.lock == 0))
        ∙ ap (λ o. rule_of_due o other) (task_level-alike s d.s d.t d.interrupts behind steps) in
        let by : (o : Option Place) → rule Deferred free ≡ rule_of_due o free → rule Direct other ≡ rule_of_due o other → GoTogether served image n free other
        = λ o. elim o as (λ p. rule Deferred free ≡ rule_of_due p free → rule Direct other ≡ rule_of_due p other → GoTogether served image n free other) [
          | Some p ↦ λ e f.
              together-by served image n free other (Enters p) (Enters p) e f (goes-enters p (eqb-true d.kernel.lock 0 (not-false (d.kernel.lock == 0) (entry-premises p e h).1)))
          | None ↦ λ e f.
              let a = acts-rule (d.kernel.lock == 0) in together-by served image n free other TaskActs TaskActs (e ∙ a) (f ∙ a) goes-acts
        ] in
        by due_now free-rule other-rule

    goes-busy : (w : WholeStep) → HasNoTake (Some w) → BreaksNone (next served Deferred (task_level_machine true (Some w) d)).0 → GoTogether served image n (task_level_machine true (Some w) d) (at_step s looks (task_level_machine true (Some w) d))
    goes-busy w none h =
        let x = task_level_machine true (Some w) d in
        let y = at_step s looks x in
        let o = due false false d.s d.t [] d.interrupts in
        let first : rule Deferred x ≡ rule_of_due o x = ap (λ l. rule_of_look Deferred l x) unseen in
        let steps : NoneBySteps o
        = λ p e. (let k : BreaksNone (after served Deferred (Enters p) x).0 = subst (λ r. BreaksNone (after served Deferred r x).0) (first ∙ ap (λ v. rule_of_due v x) e) h in k.by_step) in
        together-by served image n x y (MicroStep w) (MicroStep w)
        (first ∙ ap (λ v. rule_of_due v x) (busy-none d.s d.t d.interrupts steps))
        (ap (λ l. rule_of_look Direct l y) unseen2 ∙ ap (λ v. rule_of_due v y) (masked-none s d.t d.interrupts))
        (goes-advances w none)

    pub goes-task_level : (begun : Bool) (hand : Option WholeStep) → HasNoTake hand → BreaksNone (next served Deferred (task_level_machine begun hand d)).0
        → GoTogether served image n (task_level_machine begun hand d) (at_step s looks (task_level_machine begun hand d))
    goes-task_level false hand none h = goes-begins hand none
    goes-task_level true None none h = goes-free h
    goes-task_level true (Some w) none h = goes-busy w none h
