-- What tests tell, and choices by a test.
use Rattle.kern_model.proofs.Common.{◌≡◌, ◌≢◌, ◌⊎◌, ℕ, suc, ◌<◌, ◌≤◌, Bool, true, false, ◌&&◌, ◌||◌, not, refl, sym, ◌∙◌, arith, inl, inr, Option, Some, None, ◌==◌, nat_lt, nat_le, if◌then◌else◌, OsErr, first_error}
use Rattle.std.proofs.lemmas.Bool.{false≢true, true≢false}
use Rattle.std.proofs.lemmas.Bool.Decides.{eqb_tells, leb_tells}

-- of a choice, what holds of each side where it is chosen
pub choice_by : {A : Type 0} (P : A → Type 0) (b : Bool) (x y : A) → (b ≡ true → P x) → (b ≡ false → P y) → P (if b then x else y)
choice_by P true x y p q = p refl
choice_by P false x y p q = q refl

pub equal : (a b : ℕ) → (a == b) ≡ true → a ≡ b
equal a b h = elim (eqb_tells a b) [ inl e ↦ e.1 | inr e ↦ absurd (true≢false (sym h ∙ e.0)) ]

pub unequal : (a b : ℕ) → (a == b) ≡ false → a ≢ b
unequal a b h = elim (eqb_tells a b) [ inl e ↦ absurd (false≢true (sym h ∙ e.0)) | inr e ↦ e.1 ]

pub at_most : (a b : ℕ) → nat_le a b ≡ true → a ≤ b
at_most a b h = elim (leb_tells a b) [ inl e ↦ e.1 | inr e ↦ absurd (true≢false (sym h ∙ e.0)) ]

pub above : (a b : ℕ) → nat_le a b ≡ false → b < a
above a b h = elim (leb_tells a b) [ inl e ↦ absurd (false≢true (sym h ∙ e.0)) | inr e ↦ e.1 ]

pub less : (a b : ℕ) → nat_lt a b ≡ true → a < b
less a b h = elim (leb_tells (suc a) b) [ inl e ↦ e.1 | inr e ↦ absurd (true≢false (sym h ∙ e.0)) ]

pub not_less : (a b : ℕ) → nat_lt a b ≡ false → b ≤ a
not_less a b h = elim (leb_tells (suc a) b) [ inl e ↦ absurd (false≢true (sym h ∙ e.0)) | inr e ↦ omega (arith, e.1) ]

pub and_first : (a b : Bool) → a && b ≡ true → a ≡ true
and_first true b h = refl
and_first false b h = h

pub and_second : (a b : Bool) → a && b ≡ true → b ≡ true
and_second true b h = h
and_second false b h = absurd (false≢true h)

pub or_first : (a b : Bool) → a || b ≡ false → a ≡ false
or_first true b h = absurd (true≢false h)
or_first false b h = refl

pub or_second : (a b : Bool) → a || b ≡ false → b ≡ false
or_second true b h = absurd (true≢false h)
or_second false b h = h

pub or_either : (a b : Bool) → a || b ≡ true → (a ≡ true) ⊎ (b ≡ true)
or_either true b h = inl refl
or_either false b h = inr h

pub not_true : (a : Bool) → not a ≡ true → a ≡ false
not_true true h = absurd (false≢true h)
not_true false h = refl

pub not_false : (a : Bool) → not a ≡ false → a ≡ true
not_false true h = refl
not_false false h = absurd (true≢false h)

-- no error where there is none
pub some≢none : {A : Type 0} (x : A) → Some x ≡ None → ⊥
some≢none x h = cc

-- of two checks that are passed, each is

pub first_passed : (a b : Option OsErr) → first_error a b ≡ None → a ≡ None
first_passed None b h = refl
first_passed (Some e) b h = absurd (some≢none e h)

pub second_passed : (a b : Option OsErr) → first_error a b ≡ None → b ≡ None
second_passed None b h = h
second_passed (Some e) b h = absurd (some≢none e h)

-- where a test that fails a check did not

pub passed_if : (b : Bool) (e : OsErr) (other : Option OsErr) → (if b then Some e else other) ≡ None → (b ≡ false) × (other ≡ None)
passed_if true e other h = absurd (some≢none e h)
passed_if false e other h = (refl, h)

pub passed_then : (b : Bool) (e : OsErr) (other : Option OsErr) → (if b then other else Some e) ≡ None → (b ≡ true) × (other ≡ None)
passed_then true e other h = (refl, h)
passed_then false e other h = absurd (some≢none e h)
