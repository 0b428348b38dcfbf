-- While the timer task is processing it is the current task.
use Rattle.machine_laws.proofs.Common.{◌≡◌, Bool, ℕ, true, List, ◌∙◌, None, Some, sym, arith, Option, inl, inr, ◌⊎◌, true≢false, Config, Method, Service, Kernel, IsLinked, FrameRecord, Machine, WholeStep, CallOf, TakeOf, UnitOf, Work, Queued, IsBegun}
use Rattle.kern_model.specs.Valid.{MayCall}
use Rattle.machine_laws.specs.Valid.{HoldsLock, IsValidHand, IsValidMachine}

module _ (k : Kernel) (v : IsLinked k) (p : k.processing ≡ true) (current : ℕ) where
  locked : k.lock ≡ 0 → ⊥
  locked e = let l = v.lock.locked p in omega (arith, l, e)

  holder : HoldsLock current k → current ≡ 61
  holder (inl h) = absurd (true≢false (sym p ∙ h.2))
  holder (inr h) = h.0

  caller : (x : ℕ) → MayCall x k → x ≡ 61
  caller x (inl h) = absurd (true≢false (sym p ∙ h.3))
  caller x (inr h) = h.0

  worker : (x : ℕ) → (k.lock ≡ 0) ⊎ ((x ≡ 61) × (k.processing ≡ true)) → x ≡ 61
  worker x (inl e) = absurd (locked e)
  worker x (inr h) = h.0

  begun : (w : Work) (later : List Queued) → IsBegun w k current later → current ≡ 61
  begun (CallOf x r q) later h = sym h.caller ∙ caller x h.may_call
  begun (UnitOf x) later h = sym h.worker ∙ worker x h.lock
  begun (TakeOf q) later h = absurd (locked h.unlocked)

  stands : (served : Service → Bool) (method : Method) (config : Config) (hand : Option WholeStep) (later : List Queued) (frames : List FrameRecord) → IsValidHand served method config hand k current later frames → current ≡ 61
  stands served method config (Some w) later frames h = begun w.work later h.begun
  stands served method config None later frames h = holder (h.locked (v.lock.locked p))

pub timer-current : (served : Service → Bool) (method : Method) (m : Machine) → IsValidMachine served method m → m.kernel.processing ≡ true → m.current ≡ 61
timer-current served method m v p = stands m.kernel v.kernel p m.current served method m.config m.in_hand m.later m.frames v.stands
