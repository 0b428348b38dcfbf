-- A whole step in hand, and its end, keep the machine valid.
use Rattle.machine_laws.proofs.Common.{◌≡◌, Bool, ℕ, refl, true, List, [], ◌∙◌, ◌∷◌, None, Some, sym, arith, subst, inl, inr, ◌+◌, ◌<◌, ◌⊎◌, ◌≢◌, All, true≢false, All-head, All-tail, is_post, Method, Deferred, Direct, Request, Service, call_of, cost, posted, Kernel, task_at, is_ready, IsLinked, Machine, WholeStep, CallOf, TakeOf, UnitOf, Work, effect_of, Queued, front, advances, IsBegun}
use Rattle.kern_model.specs.Services.{effect, unit_effect}
use Rattle.kern_model.specs.Valid.{MayCall}
use Rattle.kern_model.proofs.Lemmas.{linked-effect, linked-unit}
use Rattle.machine_model.specs.Queue.{without_front}
use Rattle.machine_model.specs.Machine.{handler_compares}
use Rattle.machine_model.specs.Steps.{begins}
use Rattle.machine_laws.specs.Valid.{HoldsLock, IsQueue, Fits, IsCallInHand, IsUnitInHand}
use Rattle.machine_laws.proofs.Rules.Outcomes.{EndsIn, after-advances}
use Rattle.machine_laws.proofs.Ready.Changes.{leaves_ready-posted}
use Rattle.machine_laws.proofs.Ready.Callers.{CallerStays, caller-stays, lock-tick_unit, open-timer_unit, IsOpenOrProcessing}
use Rattle.machine_laws.proofs.Valid.Settling.{Valid, hand-of, fits-hand, settled-rest, cost-some}

-- the post that waits longest is a post
pub front-post : (later : List Queued) (q : Queued) → front later ≡ Some q → All (λ p. is_post p.service ≡ true) later → is_post q.service ≡ true
front-post [] q e h = cc
front-post (p ∷ ps) q e h = let same : p ≡ q = cc in rw (← same) (All-head (λ p. is_post p.service ≡ true) p ps h)

queue-without_front : (size : ℕ) (later : List Queued) → IsQueue size later → IsQueue size (without_front later)
queue-without_front size [] h = h
queue-without_front size (q ∷ qs) h = record { posts = All-tail (λ p. is_post p.service ≡ true) q qs h.posts; room = omega (arith, h.room) }

-- The end of each work: the kernel is valid, and who holds the lock.

record EndsWell (k : Kernel) (current : ℕ) (j : Kernel) : Type 0 where
  valid : IsLinked j
  holds : 0 < j.lock → HoldsLock current j

-- the caller holds the lock that is left
call-holds : (x : ℕ) (k j : Kernel) → IsLinked k → MayCall x k → CallerStays x k j → 0 < j.lock → HoldsLock x j
call-holds x k j v (inl m) s l = inl (m.0, by s.ready, s.processing ∙ m.3)
  where
    by : (j.lock ≡ 0) ⊎ (is_ready (task_at k x) ≡ true → is_ready (task_at j x) ≡ true) → is_ready (task_at j x) ≡ true
    by (inl e) = absurd (omega (arith, l, e))
    by (inr r) = r m.1
call-holds x k j v (inr m) s l = inr (m.0, s.processing ∙ v.lock.callback m.1)

call-ends : (served : Service → Bool) (x : ℕ) (r : Request) (p : ℕ) (k : Kernel) (current : ℕ) → IsLinked k → IsCallInHand x current k → EndsWell k current (effect served (call_of r x p p) k).kernel
call-ends served x r p k current v h =
    let j = (effect served (call_of r x p p) k).kernel in
    record {
      valid = linked-effect served (call_of r x p p) k v (λ _. h.may_call);
      holds = λ l. subst (λ y. HoldsLock y j) h.caller (call-holds x k j v h.may_call (caller-stays served (call_of r x p p) k) l);
    }

-- the tick task leaves the scheduler unlocked, and the timer task holds the lock where it is processing
unit-holds : (x : ℕ) (k : Kernel) → (x ≡ 60) ⊎ (x ≡ 61) → (k.lock ≡ 0) ⊎ ((x ≡ 61) × (k.processing ≡ true)) → 0 < (unit_effect x k).kernel.lock → HoldsLock x (unit_effect x k).kernel
unit-holds x k (inl e) h l =
    let unlocked : k.lock ≡ 0 = elim h [ inl u ↦ u | inr t ↦ absurd (omega (arith, e, t.0)) ] in
    let some : 0 < (unit_effect 60 k).kernel.lock = rw e at l in
    absurd (omega (arith, some, lock-tick_unit k, unlocked))
unit-holds x k (inr e) h l =
    let some : 0 < (unit_effect 61 k).kernel.lock = rw e at l in
    rw e (by some (open-timer_unit k))
  where
    by : 0 < (unit_effect 61 k).kernel.lock → IsOpenOrProcessing (unit_effect 61 k).kernel → HoldsLock 61 (unit_effect 61 k).kernel
    by some (inl z) = absurd (omega (arith, some, z))
    by some (inr p) = inr (refl, p)

unit-ends : (x : ℕ) (k : Kernel) (current : ℕ) → IsLinked k → IsUnitInHand x current k → EndsWell k current (unit_effect x k).kernel
unit-ends x k current v h =
    let j = (unit_effect x k).kernel in
    record {
      valid = linked-unit x k v h.internal h.ready (λ _. h.no_callback);
      holds = λ l. subst (λ y. HoldsLock y j) h.worker (unit-holds x k h.internal h.lock l);
    }

-- a take leaves the scheduler unlocked
take-ends : (served : Service → Bool) (s : Service) (args : List ℕ) (c h : ℕ) (k : Kernel) (current : ℕ) → IsLinked k → k.lock ≡ 0 → is_post s ≡ true → EndsWell k current (posted served s args c h k).kernel
take-ends served s args c h k current v unlocked post =
    record {
      valid = linked-effect served (call_of _ 63 c h) k v (λ no. absurd (true≢false (sym post ∙ no)));
      holds = λ l. absurd (omega (arith, l, (leaves_ready-posted served s args c h k post).lock, unlocked));
    }

module _ (served : Service → Bool) (method : Method) (m : Machine) (v : Valid served method m) (frames : m.frames ≡ []) where
  ends-valid : (w : Work) → IsBegun w m.kernel m.current m.later → EndsIn w (effect_of served m.config w m.kernel).kernel m (Valid served method)
  ends-valid (CallOf x r p) h = λ registers memory e.
      let d = call-ends served x r p m.kernel m.current v.kernel h in
      record {
        kernel = d.valid;
        registers = e ∙ v.registers;
        frames = v.frames;
        interrupts = v.interrupts;
        queue = v.queue;
        fits = fits-hand served method m None v frames;
        stands = settled-rest method (effect served (call_of r x p p) m.kernel).kernel m.current m.later m.frames d.valid d.holds;
      }
  ends-valid (UnitOf x) h = λ registers e.
      let d = unit-ends x m.kernel m.current v.kernel h in
      record {
        kernel = d.valid;
        registers = e ∙ v.registers;
        frames = v.frames;
        interrupts = v.interrupts;
        queue = v.queue;
        fits = fits-hand served method m None v frames;
        stands = settled-rest method (unit_effect x m.kernel).kernel m.current m.later m.frames d.valid d.holds;
      }
  ends-valid (TakeOf q) h =
      let post = front-post m.later q h.first v.queue.posts in
      let d = take-ends served q.service q.args q.saved (handler_compares m.config q.saved) m.kernel m.current v.kernel h.unlocked post in
      record {
        kernel = d.valid;
        registers = v.registers;
        frames = v.frames;
        interrupts = v.interrupts;
        queue = queue-without_front m.config.defer_size m.later v.queue;
        fits = fits-taken method v.fits;
        stands = settled-rest method (posted served q.service q.args q.saved (handler_compares m.config q.saved) m.kernel).kernel m.current (without_front m.later) m.frames d.valid d.holds;
      }
    where
      fits-taken : (o : Method) → Fits o m.later m.in_hand m.frames → Fits o (without_front m.later) None m.frames
      fits-taken Direct h = record { empty = rw h.empty refl; masked = inl refl }
      fits-taken Deferred h = tt

  -- a micro-step of the whole step in hand
  pub valid-advances : (w : WholeStep) → m.in_hand ≡ Some w → Valid served method (advances served w m).machine
  valid-advances w some =
      let h = hand-of served method m w v some in
      let c = cost (effect_of served m.config w.work m.kernel) m.kernel in
      let fewer : w.done < c = h.more in
      after-advances served w m (Valid served method)
      (λ (d : w.done + 1 ≢ c).
      record {
        kernel = v.kernel;
        registers = v.registers;
        frames = v.frames;
        interrupts = v.interrupts;
        queue = v.queue;
        fits = fits-hand served method m _ v frames;
        stands = record { begun = h.begun; more = omega (arith, fewer, d) };
      })
      (λ _. ends-valid w.work h.begun)

  -- a take begins
  pub valid-takes : (q : Queued) → m.kernel.lock ≡ 0 → front m.later ≡ Some q → Valid served method (begins (TakeOf q) m)
  valid-takes q unlocked first =
      record {
        kernel = v.kernel;
        registers = v.registers;
        frames = v.frames;
        interrupts = v.interrupts;
        queue = v.queue;
        fits = fits-hand served method m _ v frames;
        stands = record { begun = record { first = first; unlocked = unlocked }; more = cost-some _ _ };
      }
