-- The bits that a post of event flags leaves in its group.
use Rattle.std.proofs.Common.{◌≡◌, ℕ, zero, suc, ◌<◌, ◌≤◌, List, [], ◌∷◌, length, refl, ap, ◌∙◌, arith}
use Rattle.kern_base.specs.declared.requests.Request.{Request}
use Rattle.kern_base.specs.declared.services.Service.TheVariants.{FlagPost}
use Rattle.kern_base.specs.declared.outcomes.Decision.TheVariants.{Wake}
use Rattle.kern_base.specs.declared.outcomes.Who.TheVariants.{Matching}
use Rattle.kern_model.specs.State.{Kernel, Object, Content, no_object, object_at, object_in, update_object}
use Rattle.kern_model.specs.Checks.{argument}
use Rattle.decisions.specs.Decided.{bits_in}
use Rattle.task_objects.specs.Rows.{is_task_call}
use Rattle.kernel_records.specs.Concluding.{bits_left}
use Rattle.kernel_records.specs.SchedulerCalls.{is_scheduler_call}
use Rattle.kernel_records.specs.TimerCalls.{is_timer_call}
use Rattle.kernel_records.specs.Deciding.{content_after, object_change}
use Rattle.kernel_records.proofs.DecidingFacts.{changed-object, own-acts}

-- a content that is written, where there is an object, is read back
pub written : (bs : List Object) (o : ℕ) (c : Content) → o < length bs → (object_in (update_object bs o (λ b. record b { content = c })) o).content ≡ c
written [] o c h = absurd (omega (arith, h))
written (b ∷ bs) zero c h = refl
written (b ∷ bs) (suc o) c h = written bs o c (omega (arith, h))

-- and nothing is written past the last one
unwritten : (bs : List Object) (o : ℕ) (c : Content) → length bs ≤ o → object_in (update_object bs o (λ b. record b { content = c })) o ≡ no_object
unwritten [] o c h = refl
unwritten (b ∷ bs) zero c h = absurd (omega (arith, h))
unwritten (b ∷ bs) (suc o) c h = unwritten bs o c (omega (arith, h))

module _ (r : Request) (x : ℕ) (k : Kernel) (e : r.service ≡ FlagPost) where
  change : bits_left r x (Wake Matching) k ≡ bits_in (object_at (object_change r (Wake Matching) k) (argument r 0)).content
  change = ap (λ (j : Kernel). bits_in (object_at j (argument r 0)).content) (own-acts r x (Wake Matching) k (ap is_scheduler_call e) refl ∙ changed-object r x (Wake Matching) k (ap is_timer_call e) (ap is_task_call e))

  pub bits-there : (b : Object) → object_at k (argument r 0) ≡ b → argument r 0 < length k.objects → bits_left r x (Wake Matching) k ≡ bits_in (content_after r (Wake Matching) b.content)
  bits-there b h inside =
      change
      ∙ ap bits_in (written k.objects (argument r 0) (content_after r (Wake Matching) (object_at k (argument r 0)).content) inside)
      ∙ ap (λ (d : Object). bits_in (content_after r (Wake Matching) d.content)) h

  pub bits-past : object_at k (argument r 0) ≡ no_object → length k.objects ≤ argument r 0 → bits_left r x (Wake Matching) k ≡ 0
  bits-past h past = change ∙ ap (λ (b : Object). bits_in b.content) (unwritten k.objects (argument r 0) (content_after r (Wake Matching) (object_at k (argument r 0)).content) past)
