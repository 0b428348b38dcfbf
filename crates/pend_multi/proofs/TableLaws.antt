-- Tables without an error.
use Rattle.std.proofs.Common.{◌≡◌, ℕ, zero, suc, ◌+◌, ◌<◌, ◌≤◌, Bool, true, false, not, List, [], ◌∷◌, length, refl, ap, arith, inl, inr, Option, Some, None}
use Rattle.std.specs.Prelude.{◌||◌, All, slice_get, if◌then◌else◌}
use Rattle.std.proofs.lemmas.Bool.Decides.{eqb_tells}
use Rattle.std.proofs.lemmas.List.Elements.{All-nil, All-cons, All-weaker}
use Rattle.std.proofs.lemmas.Option.{slice_get_within}
use Rattle.kern_base.specs.Tables.{KindTable}
use Rattle.kern_base.specs.Checks.{object_error}
use Rattle.kern_base.specs.declared.kinds.Kind.{Kind}
use Rattle.kern_base.specs.declared.kinds.Kind.TheVariants.{Sem, Queue}
use Rattle.kern_base.specs.declared.errors.OsErr.{OsErr}
use Rattle.kern_model.specs.State.{count_of, is_zero}
use Rattle.kern_model.specs.Checks.{first_error}
use Rattle.kern_model.specs.Several.{repeats, kinds_error}
use Rattle.pend_multi.specs.Polls.{AreIds}
use Rattle.pend_multi.proofs.Numbers.{count-same}

neither : (a b : Bool) → (a || b) ≡ false → (a ≡ false) × (b ≡ false)
neither true b e = absurd cc
neither false b e = (refl, e)

is-none : (n : ℕ) → not (is_zero n) ≡ false → n ≡ 0
is-none zero e = refl
is-none (suc n) e = absurd cc

-- where no number stands twice, each stands once
pub once-from : (ids : List ℕ) → repeats ids ≡ false → (o : ℕ) → count_of o ids ≤ 1
once-from [] e o = omega arith
once-from (x ∷ xs) e o =
    let parts = neither (not (is_zero (count_of x xs))) (repeats xs) e in
    let none = is-none (count_of x xs) parts.0 in
    elim (eqb_tells x o) [
      | inl t ↦
          let here = count-same o x xs t.1 in
          let same : count_of x xs ≡ count_of o xs = ap (λ y. count_of y xs) t.1 in
          omega arith
      | inr t ↦
          let rest = once-from xs parts.1 o in
          let other : count_of o (x ∷ xs) ≡ 0 + count_of o xs = ap (λ b. (if b then 1 else 0) + count_of o xs) t.0 in
          omega arith
    ]

no-error : (a b : Option OsErr) → first_error a b ≡ None → (a ≡ None) × (b ≡ None)
no-error None b e = (refl, e)
no-error (Some err) b e = absurd cc

found : (ws : List Kind) (o : Option Kind) → object_error ws o ≡ None → (k : Kind) × (o ≡ Some k)
found ws None e = absurd cc
found ws (Some k) e = (k, refl)

-- objects of a wanted kind are there
pub there-from : (ids : List ℕ) (table : KindTable) → kinds_error ids table ≡ None → All (λ o. o < length table.objects) ids
there-from [] table e = All-nil (λ o. o < length table.objects)
there-from (o ∷ os) table e =
    let parts = no-error (object_error (Sem ∷ Queue ∷ []) (slice_get table.objects o)) (kinds_error os table) e in
    let kind = found (Sem ∷ Queue ∷ []) (slice_get table.objects o) parts.0 in
    All-cons (λ p. p < length table.objects) o os (slice_get_within table.objects o kind.0 kind.1) (there-from os table parts.1)

pub ids-from : (ids : List ℕ) (table : KindTable) → length ids ≤ 8 → length table.objects ≤ 64 → repeats ids ≡ false → kinds_error ids table ≡ None → AreIds ids
ids-from ids table few room once there = record {
  few = few;
  low = All-weaker (λ o. o < length table.objects) (λ o. o < 64) (λ o h. omega arith) ids (there-from ids table there);
  different = once-from ids once;
}
