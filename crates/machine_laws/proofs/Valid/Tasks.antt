-- What the current task does keeps the machine valid.
use Rattle.machine_laws.proofs.Common.{◌≡◌, Bool, ℕ, refl, true, List, [], false, ◌∙◌, None, sym, arith, subst, ap, ◌≤◌, inl, inr, ◌+◌, ◌<◌, ◌⊎◌, ◌≢◌, ◌==◌, ◌&&◌, length, not, true≢false, leave, Method, Request, Service, choice_by, equal, unequal, and_first, and_second, Kernel, task_at, prio_of, is_ready, timer_task, tick_task, IsLinked, Registers, acts, works_in_units, Machine, CallOf, UnitOf, settled}
use Rattle.kern_model.specs.State.{first_of}
use Rattle.kern_model.specs.Finish.{finished}
use Rattle.kern_model.specs.Stop.{stopped, callback_ended}
use Rattle.kern_model.specs.Valid.{MayCall, has_result}
use Rattle.kern_model.proofs.Lemmas.{linked-finished, linked-stopped, linked-callback_ended, or_either, or_first, or_second, not_true, not_false}
use Rattle.machine_model.specs.Steps.{begins}
use Rattle.machine_model.specs.Acts.{after_instruction, trapped}
use Rattle.machine_laws.specs.Valid.{HoldsLock, IsAtRest}
use Rattle.machine_laws.proofs.Rules.Outcomes.{Instructs, after-acts}
use Rattle.machine_laws.proofs.Ready.Callers.{leaves_ready-finished, ready-finished}
use Rattle.machine_laws.proofs.Ready.Pick.{ready-below}
use Rattle.machine_laws.proofs.Valid.Settling.{Valid, rest-of, fits-hand, IsActing, acting, settled-rest, cost-some}

-- Which tasks act how.

-- a unit is of the tick task, or of the timer task outside of a callback
units : (x : ℕ) (k : Kernel) → works_in_units x k ≡ true → (x ≡ 60) ⊎ ((x ≡ 61) × (k.in_callback ≡ false))
units x k e =
    elim (or_either (x == tick_task) ((x == timer_task) && not k.in_callback) e) [
      | inl t ↦ inl (equal x 60 t)
      | inr t ↦ inr (equal x 61 (and_first (x == timer_task) (not k.in_callback) t), not_true k.in_callback (and_second (x == timer_task) (not k.in_callback) t))
    ]

-- an instruction is of an application task, or of the timer task in a callback
abbrev pub IsRunner : ℕ → Kernel → Type 0
IsRunner x k = (x < 60) ⊎ ((x ≡ 61) × (k.in_callback ≡ true))

in_callback : (x : ℕ) (k : Kernel) → works_in_units x k ≡ false → x ≡ 61 → k.in_callback ≡ true
in_callback x k e same =
    let second : ((x == timer_task) && not k.in_callback) ≡ false = or_second (x == tick_task) ((x == timer_task) && not k.in_callback) e in
    let here : ((61 == timer_task) && not k.in_callback) ≡ false = rw same at second in
    not_false k.in_callback here

runner : (x : ℕ) (k : Kernel) → IsLinked k → is_ready (task_at k x) ≡ true → x ≢ 62 → works_in_units x k ≡ false → IsRunner x k
runner x k v ready idle e = by (x == 61) refl
  where
    by : (b : Bool) → (x == 61) ≡ b → IsRunner x k
    by true t = inr (equal x 61 t, in_callback x k e (equal x 61 t))
    by false t =
        let below = ready-below k v x ready in
        let tick : x ≢ 60 = unequal x 60 (or_first (x == tick_task) ((x == timer_task) && not k.in_callback) e) in
        let timer : x ≢ 61 = unequal x 61 t in
        inl (omega (arith, below, tick, timer, idle))

-- an application task runs only while the timer task is not processing
pub not_processing : (x : ℕ) (k : Kernel) → IsActing x k → x < 60 → k.processing ≡ false
not_processing x k a l = elim a.timer [ inl p ↦ p | inr e ↦ absurd (omega (arith, l, e)) ]

may_call : (x : ℕ) (k : Kernel) → IsActing x k → has_result (task_at k x).answered ≡ false → IsRunner x k → MayCall x k
may_call x k a none (inl l) = inl (l, a.ready, none, not_processing x k a l)
may_call x k a none (inr h) = inr h

-- a unit begins where no callback runs
no_callback : (x : ℕ) (k : Kernel) → IsLinked k → IsActing x k → (x ≡ 60) ⊎ ((x ≡ 61) × (k.in_callback ≡ false)) → k.in_callback ≡ false
no_callback x k v a (inr h) = h.1
no_callback x k v a (inl e) = by k.in_callback refl
  where
    by : (b : Bool) → k.in_callback ≡ b → b ≡ false
    by true c = absurd (elim a.timer [ inl p ↦ true≢false (sym (v.lock.callback c) ∙ p) | inr s ↦ omega (arith, e, s) ])
    by false c = refl

unit_lock : (x : ℕ) (k : Kernel) → IsActing x k → 60 ≤ x → (k.lock ≡ 0) ⊎ ((x ≡ 61) × (k.processing ≡ true))
unit_lock x k a l = by a.lock
  where
    by : (k.lock ≡ 0) ⊎ HoldsLock x k → (k.lock ≡ 0) ⊎ ((x ≡ 61) × (k.processing ≡ true))
    by (inl e) = inl e
    by (inr (inl h)) = absurd (omega (arith, l, h.0))
    by (inr (inr h)) = inr h

-- a lock that is held stays held where ready tasks stay ready and the processing stays
pub holds-leaves_ready : (x : ℕ) (k j : Kernel) → j.processing ≡ k.processing → (is_ready (task_at k x) ≡ true → is_ready (task_at j x) ≡ true) → HoldsLock x k → HoldsLock x j
holds-leaves_ready x k j p r (inl h) = inl (h.0, r h.1, p ∙ h.2)
holds-leaves_ready x k j p r (inr h) = inr (h.0, p ∙ h.1)

module _ (served : Service → Bool) (method : Method) (m : Machine) (v : Valid served method m) (frames : m.frames ≡ []) (none : m.in_hand ≡ None) (empty : m.kernel.lock ≡ 0 → m.later ≡ []) where
  rest : IsAtRest method m.kernel m.current m.later m.frames
  rest = rest-of served method m v none

  pub act : IsActing m.current m.kernel
  act = acting method m.kernel m.current m.later m.frames v.kernel rest empty

  valid-finishes : (registers : List Registers) (memory : List ℕ) → length registers ≡ length m.registers → Valid served method (record m { kernel = finished m.current m.kernel; registers = registers; memory = memory; t = m.t + 1 })
  valid-finishes registers memory e =
      let x = m.current in
      let k = m.kernel in
      let c = leaves_ready-finished x k in
      record {
        kernel = linked-finished x k v.kernel;
        registers = e ∙ v.registers;
        frames = v.frames;
        interrupts = v.interrupts;
        queue = v.queue;
        fits = v.fits;
        stands = rw none (record {
          locked = λ l. holds-leaves_ready x k (finished x k) c.processing (c.ready x) (rest.locked (subst (λ n. 0 < n) c.lock l));
          ready = λ e n. c.ready x (rest.ready (sym c.lock ∙ e) n);
          picked = λ e n d. rest.picked (sym c.lock ∙ e) n d ∙ ap first_of (sym (ready-finished x k));
        });
      }

  -- the same kernel, with nothing in hand
  valid-same : (registers : List Registers) (memory : List ℕ) → length registers ≡ length m.registers → Valid served method (record m { registers = registers; memory = memory; t = m.t + 1 })
  valid-same registers memory e =
      record {
        kernel = v.kernel;
        registers = e ∙ v.registers;
        frames = v.frames;
        interrupts = v.interrupts;
        queue = v.queue;
        fits = v.fits;
        stands = rw none rest;
      }

  valid-works : works_in_units m.current m.kernel ≡ true → Valid served method (begins (UnitOf m.current) m)
  valid-works u =
      let who = units m.current m.kernel u in
      let internal : (m.current ≡ 60) ⊎ (m.current ≡ 61) = elim who [ inl e ↦ inl e | inr h ↦ inr h.0 ] in
      let above : 60 ≤ m.current = elim who [ inl e ↦ omega (arith, e) | inr h ↦ omega (arith, h.0) ] in
      record {
        kernel = v.kernel;
        registers = v.registers;
        frames = v.frames;
        interrupts = v.interrupts;
        queue = v.queue;
        fits = fits-hand served method m _ v frames;
        stands = record {
          begun = record {
            worker = refl;
            internal = internal;
            ready = act.ready;
            no_callback = no_callback m.current m.kernel v.kernel act who;
            lock = unit_lock m.current m.kernel act above;
          };
          more = cost-some _ _;
        };
      }

  -- after a callback the timer task goes on, with the lock at 1
  callback-rest : (current : ℕ) → current ≡ 61 → m.kernel.in_callback ≡ true → IsAtRest method (callback_ended m.kernel) current m.later m.frames
  callback-rest current e c =
      record {
        locked = λ _. inr (e, v.kernel.lock.callback c);
        ready = λ (l : 1 ≡ 0). absurd (omega (arith, l));
        picked = λ (l : 1 ≡ 0). absurd (omega (arith, l));
      }

  pub runs : Instructs m.current m → IsRunner m.current m.kernel
  runs i = runner m.current m.kernel v.kernel act.ready i.not_idle i.no_unit

  in_its_callback : IsRunner m.current m.kernel → m.current ≡ 61 → m.kernel.in_callback ≡ true
  in_its_callback (inl l) e = absurd (omega (arith, l, e))
  in_its_callback (inr h) e = h.1

  linked-runs : Instructs m.current m → (pc : ℕ) (registers : List Registers) (memory : List ℕ) → length registers ≡ length m.registers → Valid served method (record m { kernel = after_instruction m.current pc m.kernel; registers = registers; memory = memory; t = m.t + 1 })
  linked-runs i pc registers memory e =
      let P : Kernel → Type 0 = λ j. Valid served method (record m { kernel = j; registers = registers; memory = memory; t = m.t + 1 }) in
      choice_by P ((m.current == timer_task) && (pc == leave)) (callback_ended m.kernel) m.kernel
      (λ t.
      let same = equal m.current 61 (and_first (m.current == timer_task) (pc == leave) t) in
      record {
        kernel = linked-callback_ended m.kernel v.kernel;
        registers = e ∙ v.registers;
        frames = v.frames;
        interrupts = v.interrupts;
        queue = v.queue;
        fits = v.fits;
        stands = rw none (callback-rest m.current same (in_its_callback (runs i) same));
      })
      (λ t. valid-same registers memory e)

  valid-calls : Instructs m.current m → (r : Request) (registers : List Registers) (memory : List ℕ) → length registers ≡ length m.registers → Valid served method (begins (CallOf m.current r (prio_of m.kernel m.current)) (record m { registers = registers; memory = memory }))
  valid-calls i r registers memory e =
      record {
        kernel = v.kernel;
        registers = e ∙ v.registers;
        frames = v.frames;
        interrupts = v.interrupts;
        queue = v.queue;
        fits = fits-hand served method m _ v frames;
        stands = record {
          begun = record { caller = refl; may_call = may_call m.current m.kernel act (ap has_result i.answered) (runs i) };
          more = cost-some _ _;
        };
      }

  stopped-valid : IsRunner m.current m.kernel → m.current ≢ 61 → IsLinked (stopped m.current m.kernel)
  stopped-valid (inl l) d = linked-stopped m.current m.kernel v.kernel l act.ready (not_processing m.current m.kernel act l)
  stopped-valid (inr h) d = absurd (d h.0)

  valid-traps : Instructs m.current m → (memory : List ℕ) → Valid served method (settled (record m { kernel = trapped m.current m.kernel; memory = memory; t = m.t + 1 }))
  valid-traps i memory =
      let P : Kernel → Type 0 = λ j. Valid served method (settled (record m { kernel = j; memory = memory; t = m.t + 1 })) in
      choice_by P (m.current == timer_task) (callback_ended m.kernel) (stopped m.current m.kernel)
      (λ t.
      let same = equal m.current 61 t in
      let valid = linked-callback_ended m.kernel v.kernel in
      record {
        kernel = valid;
        registers = v.registers;
        frames = v.frames;
        interrupts = v.interrupts;
        queue = v.queue;
        fits = v.fits;
        stands = rw none (settled-rest method (callback_ended m.kernel) m.current m.later m.frames valid (callback-rest m.current same (in_its_callback (runs i) same)).locked);
      })
      (λ t.
      let valid = stopped-valid (runs i) (unequal m.current 61 t) in
      record {
        kernel = valid;
        registers = v.registers;
        frames = v.frames;
        interrupts = v.interrupts;
        queue = v.queue;
        fits = v.fits;
        stands = rw none (settled-rest method (stopped m.current m.kernel) m.current m.later m.frames valid (λ (l : 0 < 0). absurd (omega (arith, l))));
      })

  pub valid-acts : Valid served method (acts served m.current (task_at m.kernel m.current).answered m).machine
  valid-acts =
      after-acts served m.current m (Valid served method)
      (record {
        finishes = valid-finishes;
        idles = λ _. valid-same m.registers m.memory refl;
        works = λ _ u. valid-works u;
        runs = linked-runs;
        calls = valid-calls;
        traps = valid-traps;
      })
      (task_at m.kernel m.current).answered refl
