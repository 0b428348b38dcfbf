-- What all services share keeps the kinds of objects: another content of the same kind, wakes, blocks and renewals.
use Rattle.kern_model.proofs.Common.{◌≡◌, ℕ, List, [], ◌∷◌, refl, sym, ap, ◌∙◌, Bool, true, false, slice_set, ◌==◌, SchedLocked, Finished, Kernel, Task, Object, Content, no_object, object_at, task_at, with_content, kind_of, kinds_of, Effect, Wait, refused, wakes, wakes_all, blocks_on, waits_unless, moved, moved_all, moves_of, renewed_tasks, renewing}
use Rattle.std.proofs.Math.Seq.{map-set_same}
use Rattle.kern_model.proofs.Halves.Effects.{choice}

-- an effect leaves the kinds as they were
abbrev pub KindsStay : Kernel → Effect → Type 0
KindsStay k e = kinds_of e.kernel ≡ kinds_of k

-- another object of the same kind in the place of one
pub kinds-object : (k : Kernel) (o : ℕ) (b : Object) → kind_of b.content ≡ kind_of (object_at k o).content → kinds_of (record k { objects = slice_set k.objects o b }) ≡ kinds_of k
kinds-object k o b h =
    ap (λ kinds. record { objects = kinds; tasks = k.settings.tasks }) (map-set_same (λ (a : Object). kind_of a.content) k.objects o b no_object h)

-- another content of the same kind
pub kinds-content : (k : Kernel) (o : ℕ) (old new : Content) → (object_at k o).content ≡ old → kind_of new ≡ kind_of old → kinds_of (with_content k o new) ≡ kinds_of k
kinds-content k o old new e h = kinds-object k o (record (object_at k o) { content = new }) (h ∙ sym (ap kind_of e))

pub kinds-wakes_all : (f : Task → Finished) (h : ℕ) (xs : List ℕ) (k : Kernel) → kinds_of (wakes_all f h xs k) ≡ kinds_of k
kinds-wakes_all f h [] k = refl
kinds-wakes_all f h (x ∷ xs) k = kinds-wakes_all f h xs (wakes (f (task_at k x)) h x k)

pub kinds-waits_unless : (k : Kernel) (b : Bool) (e : Effect) → KindsStay k e → KindsStay k (waits_unless k b e)
kinds-waits_unless k true e h = refl
kinds-waits_unless k false e h = choice (KindsStay k) (k.lock == 0) e (refused k SchedLocked) h refl

-- the caller waits
pub kinds-waits : (k : Kernel) (b : Bool) (x : ℕ) (w : Wait) → KindsStay k (waits_unless k b (blocks_on k x w))
kinds-waits k b x w = kinds-waits_unless k b (blocks_on k x w) refl

kinds-moved_all : (place : List ℕ → ℕ) (ms : List (ℕ × ℕ)) (k : Kernel) → kinds_of (moved_all place ms k) ≡ kinds_of k
kinds-moved_all place [] k = refl
kinds-moved_all place (m ∷ ms) k = kinds-moved_all place ms (moved place m.0 m.1 k)

pub kinds-renewing : (place : List ℕ → ℕ) (k : Kernel) (e : Effect) → KindsStay k e → KindsStay k (renewing place e)
kinds-renewing place k e h = kinds-moved_all place (moves_of renewed_tasks e.kernel) e.kernel ∙ h
