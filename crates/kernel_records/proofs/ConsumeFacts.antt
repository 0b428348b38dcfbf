-- What a task that reads its result consumes.
use Rattle.std.proofs.Common.{◌≡◌, ℕ, zero, suc, ◌≤◌, List, [], ◌∷◌, length, map, refl, ap, Bool, true, false, Some, arith}
use Rattle.std.specs.Prelude.{if◌then◌else◌, slice_get, slice_set}
use Rattle.std.proofs.Math.Seq.{map-set_same}
use Rattle.kern_model.specs.State.{Object, Content, Count, Messages, Bits, Held, Timed, kind_of, no_object, object_in, update_object}
use Rattle.kern_model.specs.Finish.{consumed_content, consumed_in, consumed_object}

-- the group is the first of the objects
pub consumed-first : (ids : List ℕ) (n ready opt : ℕ) (bs : List Object) → Some n ≡ slice_get ids 0 → consumed_in ids ready opt bs ≡ update_object bs n (consumed_object ready opt)
consumed-first [] n ready opt bs h = absurd cc
consumed-first (i ∷ ids) n ready opt bs h = let same : i ≡ n = cc in ap (λ m. update_object bs m (consumed_object ready opt)) same

pub set-past : {A : Type 0} (bs : List A) (n : ℕ) (x : A) → length bs ≤ n → slice_set bs n x ≡ bs
set-past [] n x h = refl
set-past (b ∷ bs) zero x h = absurd (omega (arith, h))
set-past (b ∷ bs) (suc n) x h = ap (λ l. b ∷ l) (set-past bs n x (omega (arith, h)))

-- it stays one
kind-content : (ready opt : ℕ) (c : Content) → kind_of (consumed_content ready opt c) ≡ kind_of c
kind-content ready opt (Count n) = refl
kind-content ready opt (Messages limit ms) = refl
kind-content ready opt (Bits bits) = refl
kind-content ready opt (Held owner n) = refl
kind-content ready opt (Timed t) = refl

kind-object : (ready opt : ℕ) (b : Object) (d : Bool) → kind_of (if d then b else record b { content = consumed_content ready opt b.content }).content ≡ kind_of b.content
kind-object ready opt b true = refl
kind-object ready opt b false = kind-content ready opt b.content

pub kinds-consumed : (ids : List ℕ) (ready opt : ℕ) (bs : List Object) → map (λ (b : Object). kind_of b.content) (consumed_in ids ready opt bs) ≡ map (λ (b : Object). kind_of b.content) bs
kinds-consumed [] ready opt bs = refl
kinds-consumed (i ∷ ids) ready opt bs = map-set_same (λ (b : Object). kind_of b.content) bs i _ no_object (kind-object ready opt (object_in bs i) (object_in bs i).deleted)
