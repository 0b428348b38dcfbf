-- The events of the mode in which posts are taken.
use Rattle.machine_laws.proofs.Common.{◌≡◌, Bool, ℕ, refl, true, List, [], false, ◌∙◌, ◌∷◌, None, Some, sym, arith, subst, ap, ◌≤◌, ◌==◌, if◌then◌else◌, ◌&&◌, not, ◌++◌, All-nil, All-cons, All-head, All-tail, ImageRecord, Look, is_post, Deferred, Outcome, Service, cost, Kernel, pick, due, look_at, Machine, WholeStep, TakeOf, effect_of, Queued, next, rule, Rule, Enters, MicroStep, TakeBegins, rule_of_look, event_history, Event, Quiet}
use Rattle.std.specs.Prelude.{◌+◌}
use Rattle.std.proofs.Common.{append-nil}
use Rattle.machine_model.specs.declared.events.What.{What}
use Rattle.machine_model.specs.Premises.{readies_interrupted}
use Rattle.machine_model.specs.Settling.{settled_task}
use Rattle.machine_model.specs.Steps.{take_ends}
use Rattle.machine_model.specs.Rules.{rule_of_due, rule_of_post, switch_of}
use Rattle.machine_model.specs.Text.{history_line, history_words}
use Rattle.machine_model.specs.Words.{switch_words}
use Rattle.method_law.specs.Relation.{performed, all_performed}
use Rattle.method_law.specs.Modes.{Related, task_level, waits, takes, at_step, takes_machine, settled_machine, IsOpen, ArePosts}
use Rattle.method_law.specs.Going.{BreaksNone, GoesAlone, owed}
use Rattle.method_law.specs.Takes.{TakesAsAtOnce}
use Rattle.method_law.proofs.Due.Modes.{NoneBySteps, busy-none}
use Rattle.method_law.proofs.Events.Rules.{after, AloneBy, alone-by, no-switch}
use Rattle.method_law.proofs.Posts.Performing.{stays-all}

-- the kernel after the first post
now-lock : (served : Service → Bool) (q : Queued) (later : List Queued) (k : Kernel) → ArePosts (q ∷ later) → k.lock ≡ 0 → (performed served q k).lock ≡ 0
now-lock served q later k posts lock =
    let first = All-head (λ (p : Queued). is_post p.service ≡ true) q later posts in
    let one : ArePosts (q ∷ []) = All-cons (λ (p : Queued). is_post p.service ≡ true) q [] first (All-nil (λ (p : Queued). is_post p.service ≡ true)) in
    (stays-all served (q ∷ []) k one).lock ∙ lock

-- the end of a take: the post leaves the queue, and after the last one the machine settles
module _ (served : Service → Bool) (image : ImageRecord) (n : ℕ) (d : Machine) (q : Queued) (s : ℕ) (looks : List Look) (behind : s ≤ d.s) (w : What) (silent : history_words image w ≡ []) where
  abbrev after_take : List Queued → ℕ → Machine
  after_take later current = record (takes_machine later None d) { kernel = performed served q d.kernel; current = current; s = d.s + 1 }

  abbrev took : ℕ → Event
  took current = record { s = d.s; t = d.t; what = w; switch = switch_of d.current current; marked = false }

  abbrev direct : List Queued → Machine
  direct later = at_step s looks (settled_machine (all_performed served (q ∷ later) d.kernel) d)

  -- what has to be shown, where the current task is then this
  abbrev Ended : List Queued → ℕ → Type 0
  Ended later current =
      Related served n (after_take later current) (direct later)
      × (event_history image (took current) ++ owed image (after_take later current) (direct later)
      ≡ history_line d.t (switch_words image (switch_of d.current (pick (all_performed served (q ∷ later) d.kernel)))))

  ended : (later : List Queued) → IsOpen n (q ∷ later) d → Ended later (settled_task (performed served q d.kernel) later d.current)
  ended [] opens =
      let j = performed served q d.kernel in
      let lock = now-lock served q [] d.kernel opens.posts opens.lock in
      let go : settled_task j [] d.current ≡ pick j = ap (λ l. if (l == 0) && true then pick j else d.current) lock in
      let line = history_line d.t (switch_words image (switch_of d.current (pick j))) in
      subst (λ c. Ended [] c) (sym go) (
        task_level (record (settled_machine j d) { s = d.s + 1 }) true None s looks tt (omega (arith, behind)),
        ap (λ words. (history_line d.t words ++ line) ++ history_line d.t (switch_words image (switch_of (pick j) (pick j)))) silent
            ∙ ap (λ l. line ++ l) (no-switch served image n d.t (pick j)) ∙ append-nil line,
      )
  ended (p ∷ ps) opens =
      let j = performed served q d.kernel in
      let lock = now-lock served q (p ∷ ps) d.kernel opens.posts opens.lock in
      let stay : settled_task j (p ∷ ps) d.current ≡ d.current = ap (λ l. if (l == 0) && false then pick j else d.current) lock in
      let rest = All-tail (λ (a : Queued). is_post a.service ≡ true) q (p ∷ ps) opens.posts in
      let line = history_line d.t (switch_words image (switch_of d.current (pick (all_performed served (q ∷ p ∷ ps) d.kernel)))) in
      subst (λ c. Ended (p ∷ ps) c) (sym stay) (
        waits (record d { kernel = j; s = d.s + 1 }) p ps s looks (record { lock = lock; posts = rest; goes_on = opens.goes_on }) (omega (arith, behind)),
        ap (λ words. (history_line d.t words ++ history_line d.t (switch_words image (switch_of d.current d.current))) ++ line) silent
            ∙ ap (λ l. l ++ line) (no-switch served image n d.t d.current),
      )

module _ (served : Service → Bool) (image : ImageRecord) (n : ℕ) (d : Machine) (q : Queued) (later : List Queued) (s : ℕ) (looks : List Look)
    (behind : s ≤ d.s) (opens : IsOpen n (q ∷ later) d) (unseen : look_at d.s d.looks ≡ None) where
  abbrev waiting : Machine
  waiting = takes_machine (q ∷ later) None d

  abbrev ahead : Machine
  ahead = at_step s looks (settled_machine (all_performed served (q ∷ later) d.kernel) d)

  -- a raw step later
  opens-later : IsOpen n (q ∷ later) (record d { s = d.s + 1 })
  opens-later = record { lock = opens.lock; posts = opens.posts; goes_on = opens.goes_on }

  -- no line, where the deferred machine's current task stays
  no-line : (lines : List ℕ) → history_line d.t (switch_words image (switch_of d.current d.current)) ++ lines ≡ lines
  no-line lines = ap (λ l. l ++ lines) (no-switch served image n d.t d.current)

  -- a take begins
  pub goes-waits : BreaksNone (next served Deferred waiting).0 → GoesAlone served image n waiting ahead
  goes-waits h =
      let o = due false false d.s d.t [] d.interrupts in
      let look : rule Deferred waiting ≡ rule_of_due o waiting
      = ap (λ l. rule_of_look Deferred l waiting) unseen
      ∙ ap (λ l. rule_of_due (due false (not ((l == 0) && true)) d.s d.t [] d.interrupts) waiting) opens.lock in
      let steps : NoneBySteps o
      = λ p e. (let k : BreaksNone (after served Deferred (Enters p) waiting).0 = subst (λ r. BreaksNone (after served Deferred r waiting).0) (look ∙ ap (λ v. rule_of_due v waiting) e) h in k.by_step) in
      let begins : rule Deferred waiting ≡ TakeBegins q
      = look ∙ ap (λ v. rule_of_due v waiting) (busy-none d.s d.t d.interrupts steps) ∙ ap (λ l. rule_of_post (l == 0) (Some q)) opens.lock in
      alone-by served image n waiting ahead (TakeBegins q) begins (
        takes (record d { s = d.s + 1 }) q later 0 s looks opens-later (omega (arith, behind)),
        no-line (owed image waiting ahead),
      )

  module _ (done : ℕ) (alike : TakesAsAtOnce served d.config q d.kernel) where
    abbrev step : WholeStep
    step = record { work = TakeOf q; done = done }

    abbrev taking : Machine
    taking = takes_machine (q ∷ later) (Some step) d

    -- a micro-step that is not the last
    goes-more : AloneBy served image n taking ahead
        (record { s = d.s; t = d.t; what = Quiet; switch = switch_of d.current d.current; marked = false }, record taking { in_hand = Some (record { work = TakeOf q; done = done + 1 }); s = d.s + 1 })
    goes-more = (takes (record d { s = d.s + 1 }) q later (done + 1) s looks opens-later (omega (arith, behind)), no-line (owed image taking ahead))

    -- the last one
    goes-last : (o : Outcome) (k : Kernel) → k ≡ performed served q d.kernel
        → (let c = take_ends q o k taking in
        AloneBy served image n taking ahead (record { s = d.s; t = d.t; what = c.what; switch = switch_of d.current c.machine.current; marked = false }, record c.machine { s = d.s + 1 }))
    goes-last o k e =
        let Goal : Kernel → Type 0 = λ j.
        (let c = take_ends q o j taking in
        AloneBy served image n taking ahead (record { s = d.s; t = d.t; what = c.what; switch = switch_of d.current c.machine.current; marked = false }, record c.machine { s = d.s + 1 })) in
        subst Goal (sym e) (ended served image n d q s looks behind (take_ends q o (performed served q d.kernel) taking).what refl later opens)

    -- a micro-step of a take
    goes-step : (let e = effect_of served d.config (TakeOf q) d.kernel in
        (last : Bool) → (let c = if last then take_ends q e.outcome e.kernel taking else record { what = Quiet; machine = record taking { in_hand = Some (record { work = TakeOf q; done = done + 1 }) } } in
        readies_interrupted c.what ≡ false
        → AloneBy served image n taking ahead (record { s = d.s; t = d.t; what = c.what; switch = switch_of d.current c.machine.current; marked = false }, record c.machine { s = d.s + 1 })))
    goes-step true same = let e = effect_of served d.config (TakeOf q) d.kernel in goes-last e.outcome e.kernel (alike same)
    goes-step false same = goes-more

    pub goes-takes : BreaksNone (next served Deferred taking).0 → GoesAlone served image n taking ahead
    goes-takes h =
        let o = due false false d.s d.t [] d.interrupts in
        let look : rule Deferred taking ≡ rule_of_due o taking = ap (λ l. rule_of_look Deferred l taking) unseen in
        let breaks : (r : Rule) → rule Deferred taking ≡ r → BreaksNone (after served Deferred r taking).0 = λ r e. subst (λ p. BreaksNone (after served Deferred p taking).0) e h in
        let steps : NoneBySteps o = λ p e. (breaks (Enters p) (look ∙ ap (λ v. rule_of_due v taking) e)).by_step in
        let micro : rule Deferred taking ≡ MicroStep step = look ∙ ap (λ v. rule_of_due v taking) (busy-none d.s d.t d.interrupts steps) in
        let e = effect_of served d.config (TakeOf q) d.kernel in
        alone-by served image n taking ahead (MicroStep step) micro (goes-step (done + 1 == cost e d.kernel) (breaks (MicroStep step) micro).same)
