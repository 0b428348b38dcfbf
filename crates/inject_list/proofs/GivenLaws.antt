-- Entries without a cause of refusal, and what they give.
use Rattle.std.proofs.Common.{◌≡◌, ℕ, ◌≤◌, ◌<◌, List, [], ◌∷◌, length, get_or, Bool, true, false, refl, ap, arith}
use Rattle.std.specs.Prelude.{All, Some, None, nat_lt, nat_le, ◌==◌, if◌then◌else◌}
use Rattle.std.proofs.lemmas.Bool.Decides.{nat_tests, Decides-eqb}
use Rattle.std.proofs.lemmas.List.Folds.{Any-from_list_any}
use Rattle.app_image.specs.Image.{ImageRecord, IsValidVector}
use Rattle.app_image.specs.declared.records.VectorDef.{VectorDef}
use Rattle.inject_list.specs.Lists.{ListRecord, is_declared, last_moment, most_entries}
use Rattle.inject_list.specs.Entries.{Interrupt}
use Rattle.inject_list.specs.Reading.{cause_of, entries, has_late_moment, four_words}
use Rattle.inject_list.specs.Parts.{kept}
use Rattle.inject_list.specs.Given.{moment_at, moment_of}
use Rattle.inject_list.specs.declared.entries.When.{When}
use Rattle.inject_list.specs.declared.entries.When.TheVariants as when
use Rattle.inject_list.specs.declared.lists.Moment.{Moment}
use Rattle.inject_list.specs.declared.lists.Moment.TheVariants.{Task}

-- a declared vector has a small number
pub declared_small : (words : ℕ) (vectors : List VectorDef) (number : ℕ) → All (IsValidVector words) vectors → is_declared vectors number ≡ true → number ≤ 31
declared_small words vectors number valid e =
    let (k, v, below, is, same) = Any-from_list_any (λ (x : VectorDef). x.number == number) vectors e in
    let fits : (get_or vectors k v).number ≤ 31 = (valid k v below).number in
    let named : v.number ≡ number = (Decides-eqb v.number number).0 same in
    let found : (get_or vectors k v).number ≡ v.number = ap (λ (x : VectorDef). x.number) is in
    omega (arith, fits, named, found)

-- up to four words are all kept
pub kept_whole : (words : List ℕ) → length words ≤ 4 → (kept words).first ≡ four_words words
kept_whole [] h = refl
kept_whole (a ∷ []) h = refl
kept_whole (a ∷ b ∷ []) h = refl
kept_whole (a ∷ b ∷ c ∷ []) h = refl
kept_whole (a ∷ b ∷ c ∷ d ∷ []) h = refl
kept_whole (a ∷ b ∷ c ∷ d ∷ e ∷ words) h = absurd (omega (arith, h))

-- a moment that is not too late
task_in_time : (t : ℕ) (b : Bool) (m : Moment) → (if b then None else Some (Task t)) ≡ Some m → (b ≡ false) × (Task t ≡ m)
task_in_time t true m e = cc
task_in_time t false m e = (refl, cc)

pub in_time : (w : When) (m : Moment) (vector : ℕ) (words : List ℕ) → moment_of w ≡ Some m → (has_late_moment (Interrupt (moment_at w) vector words) ≡ false) × (moment_at w ≡ m)
in_time (when.Task t) m vector words e = task_in_time t (nat_lt last_moment t) m e
in_time (when.Step s) m vector words e = (refl, cc)

-- an interrupt without a cause
pub interrupt_free : (image : ImageRecord) (l : ListRecord) (moment : Moment) (vector : ℕ) (words : List ℕ) → is_declared image.vectors vector ≡ true → length words ≤ 4 → entries l < most_entries → has_late_moment (Interrupt moment vector words) ≡ false → cause_of image l (Some (Interrupt moment vector words)) ≡ None
interrupt_free image l moment vector words declared few room early =
    let short : nat_lt 4 (length words) ≡ false = grind (arith, nat_tests) in
    let open_yet : nat_le most_entries (entries l) ≡ false = grind (arith, nat_tests) in
    rw (declared, short, open_yet, early) refl
