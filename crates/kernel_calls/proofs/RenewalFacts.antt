-- Where nobody waits for a mutex and each task has its base priority, a renewal of priorities changes nothing.
use Rattle.std.proofs.Common.{◌≡◌, ℕ, zero, suc, ◌+◌, ◌<◌, ◌≤◌, List, [], ◌∷◌, ◌++◌, append-nil, inl, inr, refl, sym, ap, ◌∙◌, subst, Bool, true, false, ◌&&◌, Option, Some, None, arith}
use Rattle.std.specs.Prelude.{◌⊎◌, ◌==◌, not, if◌then◌else◌}
use Rattle.kern_base.specs.declared.outcomes.Waiting.{Waiting}
use Rattle.kern_base.specs.declared.outcomes.Waiting.TheVariants.{No, Delay, Obj, TaskSem, TaskQ, Multi, Signal}
use Rattle.kern_base.specs.declared.services.Service.{Service}
use Rattle.kern_base.specs.declared.services.Service.TheVariants.{MutexPend}
use Rattle.kern_model.specs.State.{Kernel, no_task, prio_of, task_at}
use Rattle.kern_model.specs.Effect.{Effect}
use Rattle.kern_model.specs.Inherit.{inherited, moved_all, moves_blocks, moves_of, numbers, owner_for, renewed, renewed_tasks, renewing, waits_on}
use Rattle.kern_model.specs.Reached.{Here, IsLeastBase, IsReached, Onward}
use Rattle.kern_model.specs.Valid.{IsLinked}
use Rattle.kern_model.proofs.Lemmas.{above-living, least-above, self_equal}
use Rattle.std.proofs.lemmas.Bool.Decides.{leb_tells}
use Rattle.std.proofs.lemmas.List.{get_or_past}
use Rattle.kernel_records.specs.Served.{IsServed, IsSingle}
use Rattle.kernel_calls.proofs.ServedFacts.{all-single}

-- a wait that is served is for no mutex
no-owner : (w : Waiting) (os : List ℕ) (k : Kernel) → IsSingle w → owner_for w os k ≡ None
no-owner No os k s = refl
no-owner Delay os k s = refl
no-owner (Obj MutexPend) os k s = absurd cc
no-owner (Obj _) os k s = refl
no-owner TaskSem os k s = refl
no-owner TaskQ os k s = refl
no-owner Multi os k s = absurd s
no-owner Signal os k s = refl

module _ (k : Kernel) (v : IsLinked k) (s : IsServed k) where
  pub no-waits : (u : ℕ) → waits_on k u ≡ None
  no-waits u =
      elim (leb_tells 64 u) [
        | inr d ↦ no-owner (task_at k u).waiting (task_at k u).objects k (all-single k v s u d.1)
        | inl d ↦ ap (λ t. owner_for t.waiting t.objects k) (get_or_past k.tasks u no_task (omega (arith, v.sizes.tasks, d.1)))
      ]

  -- a task is reached from itself alone
  reached-same : (x u : ℕ) → IsReached k x u → u ≡ x
  reached-same x u Here = refl
  reached-same x u (Onward w y waits rest) = absurd (let none : None ≡ Some y = sym (no-waits w) ∙ waits in cc)

  keeps-prio : (x : ℕ) → (x < 60) ⊎ (x ≡ 61) → (task_at k x).alive ≡ true → inherited k x ≡ prio_of k x
  keeps-prio x who alive =
      let least = least-above k v x (above-living k v x who alive) in
      least.from_one.2 ∙ ap (λ u. (task_at k u).base) (reached-same x least.from_one.0 least.from_one.1) ∙ s.bases x

  -- these are application tasks, or the timer task
  abbrev Renewable : List ℕ → Type 0
  Renewable [] = Unit {0}
  Renewable (x ∷ xs) = ((x < 60) ⊎ (x ≡ 61)) × Renewable xs

  renewable : (a n : ℕ) → a + n ≤ 60 → Renewable (numbers a n ++ 61 ∷ [])
  renewable a zero h = (inr refl, tt)
  renewable a (suc n) h = (inl (omega (arith, h)), renewable (a + 1) n (omega (arith, h)))

  stays : (b : Bool) (x : ℕ) (who : (x < 60) ⊎ (x ≡ 61)) → (task_at k x).alive ≡ b → (b && not (inherited k x == prio_of k x)) ≡ false
  stays false x who e = refl
  stays true x who e = ap (λ n. not (n == prio_of k x)) (keeps-prio x who e) ∙ ap not (self_equal (prio_of k x))

  none-move : (xs : List ℕ) → Renewable xs → moves_of xs k ≡ []
  none-move [] r = refl
  none-move (x ∷ xs) r =
      ap (λ b. if b then (x, inherited k x) ∷ moves_of xs k else moves_of xs k) (stays (task_at k x).alive x r.0 refl) ∙ none-move xs r.1

  pub no-moves : moves_of renewed_tasks k ≡ []
  no-moves = none-move renewed_tasks (renewable 0 60 (omega arith))

-- an effect after which priorities would be renewed
pub not-renewed : (place : List ℕ → ℕ) (e : Effect) → IsLinked e.kernel → IsServed e.kernel → renewing place e ≡ e
not-renewed place e v s =
    let none = no-moves e.kernel v s in
    ap (λ ms. record { kernel = moved_all place ms e.kernel; outcome = e.outcome; blocks = e.blocks ++ moves_blocks place ms e.kernel }) none
    ∙ ap (λ bs. record { kernel = e.kernel; outcome = e.outcome; blocks = bs }) (append-nil e.blocks)
