-- What is taken from several objects, one after another.
use Rattle.std.proofs.Common.{◌≡◌, ◌≢◌, ℕ, zero, suc, ◌+◌, ◌<◌, List, [], ◌∷◌, ◌++◌, length, map, take, get_or, get_or-set_other, set, refl, sym, ap, ◌∙◌, arith, inl, inr, Option}
use Rattle.std.proofs.lemmas.Bool.Decides.{eqb_tells}
use Rattle.std.proofs.lemmas.List.{map-append, take_more, take_more_set}
use Rattle.kern_model.specs.State.{Kernel, Content, Count, Messages, Bits, Held, Timed, count_of, object_at}
use Rattle.kern_model.specs.Several.{polled, polls, taken_from, taken_all}
use Rattle.pend_multi.specs.Takes.{message_of}
use Rattle.pend_multi.specs.declared.polls.Taken.{Taken}
use Rattle.pend_multi.proofs.Numbers.{count-same}

-- a poll of one object changes no other
one-taken : (o p : ℕ) (k : Kernel) → p ≢ o → (c : Content) → object_at (taken_from o c k) p ≡ object_at k p
one-taken o p k ne (Count zero) = refl
one-taken o p k ne (Count (suc n)) = get_or-set_other k.objects o p _ _ ne
one-taken o p k ne (Messages limit []) = refl
one-taken o p k ne (Messages limit (m ∷ ms)) = get_or-set_other k.objects o p _ _ ne
one-taken o p k ne (Bits bits) = refl
one-taken o p k ne (Held owner nesting) = refl
one-taken o p k ne (Timed t) = refl

-- nor do polls of others
pub others-taken : (os : List ℕ) (p : ℕ) (k : Kernel) → count_of p os ≡ 0 → object_at (taken_all os k) p ≡ object_at k p
others-taken [] p k none = refl
others-taken (o ∷ os) p k none =
    elim (eqb_tells p o) [
      | inl e ↦ absurd (omega (arith, count-same p o os (sym e.1)))
      | inr e ↦
          others-taken os p (taken_from o (object_at k o).content k) (omega arith)
          ∙ one-taken o p k e.1 (object_at k o).content
    ]

-- one more object
pub taken-push : (os : List ℕ) (o : ℕ) (k : Kernel) → taken_all (os ++ o ∷ []) k ≡ taken_from o (object_at (taken_all os k) o).content (taken_all os k)
taken-push [] o k = refl
taken-push (x ∷ os) o k = taken-push os o (taken_from x (object_at k x).content k)

pub polls-more : (ids : List ℕ) (i : ℕ) (k : Kernel) → i < length ids → polls (take (i + 1) ids) k ≡ polls (take i ids) k ++ polled (object_at k (get_or ids i 0)).content ∷ []
polls-more ids i k h = ap (λ os. polls os k) (take_more ids i 0 h) ∙ map-append (λ o. polled (object_at k o).content) (take i ids) (get_or ids i 0 ∷ [])

pub messages-more : (out : List (Option Taken)) (i : ℕ) (r : Option Taken) → i < length out → map message_of (take (i + 1) (set out i r)) ≡ map message_of (take i out) ++ message_of r ∷ []
messages-more out i r h = ap (map message_of) (take_more_set out i r h) ∙ map-append message_of (take i out) (r ∷ [])
