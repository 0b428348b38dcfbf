-- Looks, the first event, and what related machines have in common.
use Rattle.machine_laws.proofs.Common.{◌≡◌, Bool, ℕ, refl, true, List, [], false, ◌∙◌, Some, sym, arith, ap, ◌==◌, if◌then◌else◌, false≢true, ImageRecord, Look, Method, Service, look_at, Machine, rule, Begins, Looks, rule_of_look, event_history}
use Rattle.std.specs.Prelude.{◌+◌}
use Rattle.method_law.specs.Modes.{Related, task_level, frame, waits, takes}
use Rattle.method_law.specs.Going.{GoTogether, owed}
use Rattle.method_law.proofs.Events.Tasks.{goes-begins}
use Rattle.method_law.proofs.Events.Rules.{after, no-switch}

module _ (served : Service → Bool) (image : ImageRecord) (n : ℕ) where
  -- what they have in common

  pub related-t : (d m : Machine) → Related served n d m → m.t ≡ d.t
  related-t d m (task_level x begun hand s looks none behind) = refl
  related-t d m (frame x f registers later s looks agrees opens behind) = refl
  related-t d m (waits x q later s looks opens behind) = refl
  related-t d m (takes x q later done s looks opens behind) = refl

  pub related-begun : (d m : Machine) → Related served n d m → m.begun ≡ d.begun
  related-begun d m (task_level x begun hand s looks none behind) = refl
  related-begun d m (frame x f registers later s looks agrees opens behind) = refl
  related-begun d m (waits x q later s looks opens behind) = refl
  related-begun d m (takes x q later done s looks opens behind) = refl

  -- at the end nothing is owed
  pub related-end : (d m : Machine) → Related served n d m → (d.t == n) ≡ true → owed image d m ≡ []
  related-end d m (task_level x begun hand s looks none behind) e = no-switch served image n x.t x.current
  related-end d m (frame x f registers later s looks agrees opens behind) e = absurd (false≢true (sym opens.goes_on ∙ e))
  related-end d m (waits x q later s looks opens behind) e = absurd (false≢true (sym opens.goes_on ∙ e))
  related-end d m (takes x q later done s looks opens behind) e = absurd (false≢true (sym opens.goes_on ∙ e))

  -- looks change nothing that matters

  pub look-first : (d m : Machine) → Related served n d m → (ls : List Look) → Related served n (record d { looks = ls; s = d.s + 0 }) m
  look-first d m (task_level x begun hand s looks none behind) ls = task_level (record x { looks = ls; s = x.s + 0 }) begun hand s looks none (omega (arith, behind))
  look-first d m (frame x f registers later s looks agrees opens behind) ls =
      frame (record x { looks = ls; s = x.s + 0 }) f registers later s looks agrees (record { lock = opens.lock; posts = opens.posts; goes_on = opens.goes_on }) (omega (arith, behind))
  look-first d m (waits x q later s looks opens behind) ls =
      waits (record x { looks = ls; s = x.s + 0 }) q later s looks (record { lock = opens.lock; posts = opens.posts; goes_on = opens.goes_on }) (omega (arith, behind))
  look-first d m (takes x q later done s looks opens behind) ls =
      takes (record x { looks = ls; s = x.s + 0 }) q later done s looks (record { lock = opens.lock; posts = opens.posts; goes_on = opens.goes_on }) (omega (arith, behind))

  pub look-second : (d m : Machine) → Related served n d m → (ls : List Look) → Related served n d (record m { looks = ls; s = m.s + 0 })
  look-second d m (task_level x begun hand s looks none behind) ls = task_level x begun hand (s + 0) ls none (omega (arith, behind))
  look-second d m (frame x f registers later s looks agrees opens behind) ls = frame x f registers later (s + 0) ls agrees opens (omega (arith, behind))
  look-second d m (waits x q later s looks opens behind) ls = waits x q later (s + 0) ls opens (omega (arith, behind))
  look-second d m (takes x q later done s looks opens behind) ls = takes x q later done (s + 0) ls opens (omega (arith, behind))

  -- a look that is due is printed
  pub look-rule : (method : Method) (m : Machine) (l : Look) → m.begun ≡ true → look_at m.s m.looks ≡ Some l → rule method m ≡ Looks l
  look-rule method m l b e = ap (λ t. if t then rule_of_look method (look_at m.s m.looks) m else Begins) b ∙ ap (λ o. rule_of_look method o m) e

  pub look-line : (method : Method) (m : Machine) (l : Look) → event_history image (after served method (Looks l) m).0 ≡ []
  look-line method m l = no-switch served image n m.t m.current

  -- the first event
  pub begins-go : (d m : Machine) → Related served n d m → d.begun ≡ false → GoTogether served image n d m
  begins-go d m (task_level x false hand s looks none behind) e = goes-begins served image n x s looks behind hand none
  begins-go d m (task_level x true hand s looks none behind) e = absurd (false≢true (sym e))
  begins-go d m (frame x f registers later s looks agrees opens behind) e = absurd (false≢true (sym e))
  begins-go d m (waits x q later s looks opens behind) e = absurd (false≢true (sym e))
  begins-go d m (takes x q later done s looks opens behind) e = absurd (false≢true (sym e))
