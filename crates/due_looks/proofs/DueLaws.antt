-- Whether a look is due, by the moment of the first one that is to come.
use Rattle.std.proofs.Common.{◌≡◌, ℕ, suc, ◌<◌, ◌≤◌, List, length, get_or, drop, refl, sym, ap, ◌∙◌, arith, inl, inr, false}
use Rattle.std.specs.Prelude.{Option, Some, None, All, is_some, nat_lt, ◌-◌, ◌^◌}
use Rattle.std.proofs.lemmas.Bool.{true≢false}
use Rattle.std.proofs.lemmas.Bool.Decides.{leb_tells}
use Rattle.inject_list.specs.declared.lists.Look.{Look}
use Rattle.inject_list.specs.declared.lists.Seen.TheVariants.{Ready}
use Rattle.machine_model.specs.Looks.{look_at}
use Rattle.due_looks.specs.declared.queue.Timed.{Timed}
use Rattle.due_looks.specs.Rest.{IsInOrder}
use Rattle.due_looks.specs.Order.{IsOf, looks_of, moment_in}
use Rattle.due_looks.proofs.LookLaws.{due-here, due-later, due-past}
use Rattle.due_looks.proofs.OrderLaws.{moment-at, looks-long}

pub none-told : (o : Option Look) → is_some o ≡ false → o ≡ None
none-told None e = refl
none-told (Some l) e = absurd (true≢false e)

module _ (lines : List Look) (order : List Timed) (n s : ℕ) (now : List Look) (numbers : All (IsOf lines) order) (o : IsInOrder now (drop n (looks_of lines order))) (from : All (λ l. s ≤ l.at) now) where
  abbrev looks : List Look
  looks = looks_of lines order

  abbrev none : Look
  none = record { at = 0; what = Ready (record { 0 = 0 }) }

  long : length looks ≡ length order
  long = looks-long lines order

  -- the moment of the look at that place
  moment-is : n < length order → (get_or looks n none).at ≡ moment_in order n
  moment-is h = moment-at lines order n numbers h none (record { moment = 2 ^ 64 - 1; number = 0 })

  -- it is that of the first look to come, where there is one
  pub due-told : s ≡ moment_in order n → nat_lt n (length order) ≡ is_some (look_at s now)
  due-told e =
      elim (leb_tells (suc n) (length order)) [
        | inl q ↦
            let inside : n < length looks = omega (arith, q.1, long) in
            q.0 ∙ sym (ap (λ l. is_some l) (due-here s n looks now o from inside none (moment-is q.1 ∙ sym e)))
        | inr q ↦ q.0 ∙ sym (ap (λ l. is_some l) (due-past s n looks now o from (omega (arith, q.1, long))))
      ]

  -- it is another one
  pub not-due : (s ≡ moment_in order n → ⊥) → look_at s now ≡ None
  not-due other =
      elim (leb_tells (suc n) (length order)) [
        | inl q ↦ due-later s n looks now o from (omega (arith, q.1, long)) none (λ e. other (sym e ∙ moment-is q.1))
        | inr q ↦ due-past s n looks now o from (omega (arith, q.1, long))
      ]
