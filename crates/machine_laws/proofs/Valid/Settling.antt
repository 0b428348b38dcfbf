-- Who acts where nothing is in hand, and how a machine is valid again once it settles.
use Rattle.machine_laws.proofs.Common.{◌≡◌, Bool, ℕ, refl, true, List, [], false, ◌∷◌, None, Some, sym, arith, Option, subst, inl, inr, ◌<◌, ◌⊎◌, ◌≢◌, ◌==◌, ◌&&◌, true≢false, Method, Deferred, Direct, Service, choice_by, equal, unequal, and_first, Effect, cost, Kernel, task_at, is_ready, pick, IsLinked, FrameRecord, Machine, WholeStep, Queued}
use Rattle.kern_model.proofs.Lemmas.{cost-blocks}
use Rattle.machine_model.specs.Settling.{none_waits, settled_task}
use Rattle.machine_laws.specs.Valid.{Fits, HoldsLock, IsAtRest, IsInHand, IsValidMachine}
use Rattle.machine_laws.proofs.Ready.Pick.{ready-pick, ready-timer}

-- a whole step has micro-steps
pub cost-some : (e : Effect) (k : Kernel) → 0 < cost e k
cost-some e k = omega (arith, cost-blocks e k)

-- Settling.

pub no_post : (later : List Queued) → none_waits later ≡ true → later ≡ []
no_post [] e = refl
no_post (q ∷ qs) e = absurd (true≢false (sym e))

-- a settled machine with nothing in hand is at rest, where the current task holds the lock if there is one
pub settled-rest : (method : Method) (k : Kernel) (current : ℕ) (later : List Queued) (frames : List FrameRecord) → IsLinked k → (0 < k.lock → HoldsLock current k) → IsAtRest method k (settled_task k later current) later frames
settled-rest method k current later frames v holds =
    choice_by (λ x. IsAtRest method k x later frames) ((k.lock == 0) && none_waits later) (pick k) current
    (λ t.
    let e = equal k.lock 0 (and_first (k.lock == 0) (none_waits later) t) in
    record { locked = λ l. absurd (omega (arith, e, l)); ready = λ _ _. ready-pick k v; picked = λ _ _ _. refl })
    (λ t. record { locked = holds; ready = λ e n. absurd (both e n t); picked = λ e n _. absurd (both e n t) })
  where
    both : k.lock ≡ 0 → later ≡ [] → ((k.lock == 0) && none_waits later) ≡ false → ⊥
    both e n t = let same : ((0 == 0) && none_waits []) ≡ false = rw (e, n) at t in absurd (true≢false same)

-- Who acts.

-- where the scheduler is not locked the timer task is not processing
pub idle_timer : (k : Kernel) → IsLinked k → k.lock ≡ 0 → k.processing ≡ false
idle_timer k v e = by k.processing refl
  where
    by : (b : Bool) → k.processing ≡ b → b ≡ false
    by true p = let l = v.lock.locked p in absurd (omega (arith, l, e))
    by false p = refl

-- a task that acts is ready; only the timer task acts while it is processing
pub record IsActing (x : ℕ) (k : Kernel) : Type 0 where
  pub ready : is_ready (task_at k x) ≡ true
  pub timer : (k.processing ≡ false) ⊎ (x ≡ 61)
  pub lock : (k.lock ≡ 0) ⊎ HoldsLock x k

holder-acts : (x : ℕ) (k : Kernel) → IsLinked k → HoldsLock x k → IsActing x k
holder-acts x k v (inl h) = record { ready = h.1; timer = inl h.2; lock = inr (inl h) }
holder-acts x k v (inr h) = record { ready = subst (λ y. is_ready (task_at k y) ≡ true) (sym h.0) (ready-timer k v h.1); timer = inr h.0; lock = inr (inr h) }

-- the current task acts where no post can be taken
pub acting : (method : Method) (k : Kernel) (x : ℕ) (later : List Queued) (frames : List FrameRecord) → IsLinked k → IsAtRest method k x later frames → (k.lock ≡ 0 → later ≡ []) → IsActing x k
acting method k x later frames v h none = by (k.lock == 0) refl
  where
    by : (b : Bool) → (k.lock == 0) ≡ b → IsActing x k
    by true t =
        let e = equal k.lock 0 t in
        record { ready = h.ready e (none e); timer = inl (idle_timer k v e); lock = inl e }
    by false t =
        let d : k.lock ≢ 0 = unequal k.lock 0 t in
        holder-acts x k v (h.locked (omega (arith, d)))

-- Valid machines, by what is in hand.

module _ (served : Service → Bool) (method : Method) where
  abbrev pub Valid : Machine → Type 0
  Valid m = IsValidMachine served method m

  pub rest-of : (m : Machine) → Valid m → m.in_hand ≡ None → IsAtRest method m.kernel m.current m.later m.frames
  rest-of m v none = rw none at v.stands

  pub hand-of : (m : Machine) (w : WholeStep) → Valid m → m.in_hand ≡ Some w → IsInHand served m.config w m.kernel m.current m.later
  hand-of m w v some = rw some at v.stands

  -- where no frame stands anything may come in hand
  pub fits-hand : (m : Machine) (hand : Option WholeStep) → Valid m → m.frames ≡ [] → Fits method m.later hand m.frames
  fits-hand m hand v e = by method v.fits
    where
      by : (o : Method) → Fits o m.later m.in_hand m.frames → Fits o m.later hand m.frames
      by Direct h = record { empty = h.empty; masked = inr e }
      by Deferred h = tt
