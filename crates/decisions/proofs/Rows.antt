-- The decisions that objects share come to what the definitions of their services say.
use Rattle.std.proofs.Common.{◌≡◌, ℕ, zero, suc, List, [], ◌∷◌, refl, sym, ap, Bool, true, false, not, if◌then◌else◌, ◌==◌}
use Rattle.std.specs.Prelude.{slice_index_or}
use Rattle.kern_base.specs.declared.errors.OsErr.TheVariants.{PendAbortNone, SchedLocked, TaskWaiting, WouldBlock}
use Rattle.kern_base.specs.declared.outcomes.Decision.{Decision}
use Rattle.kern_base.specs.declared.outcomes.Decision.TheVariants.{Block, Wake}
use Rattle.kern_base.specs.declared.outcomes.Who.TheVariants.{First, All}
use Rattle.kern_model.specs.State.{Kernel, Object, Content, no_object, object_at, with_content, update_object}
use Rattle.kern_model.specs.Effect.{Effect, refused, chosen, waits_unless}
use Rattle.kern_model.specs.Options.{aborts_all, deletes_always}
use Rattle.decisions.specs.Around.{first_waiter}
use Rattle.decisions.specs.Rows.{refusal, wait_decision, abort_decision, delete_decision}

-- an object that keeps its content stays as it is

update_object-same : (bs : List Object) (o : ℕ) (c : Content) → (slice_index_or bs o no_object).content ≡ c → update_object bs o (λ b. record b { content = c }) ≡ bs
update_object-same [] o c h = refl
update_object-same (b ∷ bs) zero c h = ap (λ d. record b { content = d } ∷ bs) (sym h)
update_object-same (b ∷ bs) (suc o) c h = ap (λ ds. b ∷ ds) (update_object-same bs o c h)

pub with_content-same : (k : Kernel) (o : ℕ) (c : Content) → (object_at k o).content ≡ c → with_content k o c ≡ k
with_content-same k o c h = ap (λ bs. record k { objects = bs }) (update_object-same k.objects o c h)

-- Below, `F` is what a decision comes to.

unlocked-row : (k : Kernel) (F : Decision → Effect) (e : Effect) → F (refusal SchedLocked) ≡ refused k SchedLocked → F Block ≡ e → (b : Bool) → (if b then e else refused k SchedLocked) ≡ F (if not b then refusal SchedLocked else Block)
unlocked-row k F e locked waits true = sym waits
unlocked-row k F e locked waits false = sym locked

-- a call that can not go on at once
pub wait-row : (k : Kernel) (F : Decision → Effect) (e : Effect) → F (refusal WouldBlock) ≡ refused k WouldBlock → F (refusal SchedLocked) ≡ refused k SchedLocked → F Block ≡ e → (non_blocking : Bool) → waits_unless k non_blocking e ≡ F (wait_decision non_blocking (not (k.lock == 0)))
wait-row k F e blocks locked waits true = sym blocks
wait-row k F e blocks locked waits false = unlocked-row k F e locked waits (k.lock == 0)

chosen-row : (F : List ℕ → Decision → Effect) (G : List ℕ → Effect) (y : ℕ) (ys : List ℕ) → F (y ∷ ys) (Wake First) ≡ G (y ∷ []) → F (y ∷ ys) (Wake All) ≡ G (y ∷ ys) → (b : Bool) → G (chosen b (y ∷ ys)) ≡ F (y ∷ ys) (Wake (if b then All else First))
chosen-row F G y ys first all true = sym all
chosen-row F G y ys first all false = sym first

-- an abort, where `G` is the effect of an abort of these waits
pub abort-row : (F : List ℕ → Decision → Effect) (G : List ℕ → Effect) → F [] (refusal PendAbortNone) ≡ G [] → ((y : ℕ) (ys : List ℕ) → F (y ∷ ys) (Wake First) ≡ G (y ∷ [])) → ((y : ℕ) (ys : List ℕ) → F (y ∷ ys) (Wake All) ≡ G (y ∷ ys)) → (option : ℕ) (xs : List ℕ) → G (chosen (aborts_all option) xs) ≡ F xs (abort_decision option (first_waiter xs))
abort-row F G none first all option [] = sym none
abort-row F G none first all option (y ∷ ys) = chosen-row F G y ys (first y ys) (all y ys) (aborts_all option)

deleted-row : (F : Decision → Effect) (G : Bool → Effect) → F (Wake All) ≡ G true → F (refusal TaskWaiting) ≡ G false → (b : Bool) → G b ≡ F (if b then Wake All else refusal TaskWaiting)
deleted-row F G all waiting true = sym all
deleted-row F G all waiting false = sym waiting

unwaited-row : (e : Effect) (G : Bool → Effect) → e ≡ G true → e ≡ G false → (b : Bool) → G b ≡ e
unwaited-row e G all none true = sym all
unwaited-row e G all none false = sym none

-- a deletion, where `G` is the effect of one with or without these waiters
pub delete-row : (F : List ℕ → Decision → Effect) (G : Bool → List ℕ → Effect) → ((xs : List ℕ) → F xs (Wake All) ≡ G true xs) → F [] (Wake All) ≡ G false [] → ((y : ℕ) (ys : List ℕ) → F (y ∷ ys) (refusal TaskWaiting) ≡ G false (y ∷ ys)) → (option : ℕ) (xs : List ℕ) → G (deletes_always option) xs ≡ F xs (delete_decision option (first_waiter xs))
delete-row F G all none waiting option [] = unwaited-row (F [] (Wake All)) (λ b. G b []) (all []) none (deletes_always option)
delete-row F G all none waiting option (y ∷ ys) = deleted-row (F (y ∷ ys)) (λ b. G b (y ∷ ys)) (all (y ∷ ys)) (waiting y ys) (deletes_always option)
