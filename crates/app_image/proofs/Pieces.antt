-- A list that is written piece by piece.
use Rattle.std.proofs.Common.{◌≡◌, ℕ, zero, suc, ◌+◌, ◌-◌, ◌<◌, ◌≤◌, List, [], ◌∷◌, ◌++◌, length, take, drop, get_or, Option, None, Some, Result, Ok, Err, OnOk, refl, sym, ap, ◌∙◌, arith, add-one, append_assoc, append-nil}
use Rattle.std.specs.List.{flat_map}
use Rattle.std.specs.Io.KnownBytes.{Appends}
use Rattle.std.proofs.KnownBytes.{Appends-trans}
use Rattle.std.proofs.lemmas.List.{take-append-drop}
use Rattle.std.proofs.Math.Seq.{take-add}
use Rattle.outside.specs.Written.{AppendsPrefix, WritesPiece}
use Rattle.outside.proofs.Known.{AppendsPrefix-after, WritesPiece-after}

pub flat_map-append : {X : Type 0} (f : X → List ℕ) (xs ys : List X) → flat_map f (xs ++ ys) ≡ flat_map f xs ++ flat_map f ys
flat_map-append f [] ys = refl
flat_map-append f (x ∷ xs) ys =
    ap (λ l. f x ++ l) (flat_map-append f xs ys) ∙ sym (append_assoc (f x) (flat_map f xs) (flat_map f ys))

at_suc : {X : Type 0} (f : X → List ℕ) (xs : List X) (i : ℕ) (d : X) → i < length xs
    → flat_map f xs ≡ flat_map f (take i xs) ++ (f (get_or xs i d) ++ flat_map f (drop (suc i) xs))
at_suc f [] i d h = absurd (omega arith)
at_suc f (x ∷ xs) zero d h = refl
at_suc f (x ∷ xs) (suc i) d h =
    ap (λ l. f x ++ l) (at_suc f xs i d (omega arith)) ∙ sym (append_assoc (f x) (flat_map f (take i xs)) (f (get_or xs i d) ++ flat_map f (drop (suc i) xs)))

more_suc : {X : Type 0} (f : X → List ℕ) (xs : List X) (i : ℕ) (d : X) → i < length xs
    → flat_map f (take (suc i) xs) ≡ flat_map f (take i xs) ++ f (get_or xs i d)
more_suc f [] i d h = absurd (omega arith)
more_suc f (x ∷ xs) zero d h = append-nil (f x)
more_suc f (x ∷ xs) (suc i) d h =
    ap (λ l. f x ++ l) (more_suc f xs i d (omega arith)) ∙ sym (append_assoc (f x) (flat_map f (take i xs)) (f (get_or xs i d)))

-- the pieces that were passed, the next one, and those behind it
pub flat_map-at : {X : Type 0} (f : X → List ℕ) (xs : List X) (i : ℕ) (d : X) → i < length xs
    → flat_map f xs ≡ flat_map f (take i xs) ++ (f (get_or xs i d) ++ flat_map f (drop (i + 1) xs))
flat_map-at f xs i d h = rw (add-one i) (at_suc f xs i d h)

-- the pieces that were passed, with the next one
pub flat_map-more : {X : Type 0} (f : X → List ℕ) (xs : List X) (i : ℕ) (d : X) → i < length xs
    → flat_map f (take (i + 1) xs) ≡ flat_map f (take i xs) ++ f (get_or xs i d)
flat_map-more f xs i d h = rw (add-one i) (more_suc f xs i d h)

-- the same by the next element
pub flat_map-next : {X : Type 0} (f : X → List ℕ) (xs : List X) (i : ℕ) (x : X) → i < length xs → x ≡ get_or xs i x
    → flat_map f xs ≡ flat_map f (take i xs) ++ (f x ++ flat_map f (drop (i + 1) xs))
flat_map-next f xs i x h e =
    flat_map-at f xs i x h ∙ ap (λ y. flat_map f (take i xs) ++ (f y ++ flat_map f (drop (i + 1) xs))) (sym e)

pub flat_map-with : {X : Type 0} (f : X → List ℕ) (xs : List X) (i : ℕ) (x : X) → i < length xs → x ≡ get_or xs i x
    → flat_map f (take (i + 1) xs) ≡ flat_map f (take i xs) ++ f x
flat_map-with f xs i x h e = flat_map-more f xs i x h ∙ ap (λ y. flat_map f (take i xs) ++ f y) (sym e)

-- the pieces up to an end, behind those up to a place
pub flat_map-take : {X : Type 0} (f : X → List ℕ) (xs : List X) (at end : ℕ) → at ≤ end
    → flat_map f (take end xs) ≡ flat_map f (take at xs) ++ flat_map f (take (end - at) (drop at xs))
flat_map-take f xs at end h =
    let n : at + (end - at) ≡ end = omega arith in
    ap (λ k. flat_map f (take k xs)) (sym n) ∙ ap (flat_map f) (take-add at (end - at) xs) ∙ flat_map-append f (take at xs) (take (end - at) (drop at xs))

-- all pieces, with those from a place to an end as the next
pub flat_map-part : {X : Type 0} (f : X → List ℕ) (xs : List X) (at end : ℕ) → at ≤ end
    → flat_map f xs ≡ flat_map f (take at xs) ++ (flat_map f (take (end - at) (drop at xs)) ++ flat_map f (drop end xs))
flat_map-part f xs at end h =
    ap (flat_map f) (sym (take-append-drop end xs)) ∙ flat_map-append f (take end xs) (drop end xs) ∙ ap (λ l. l ++ flat_map f (drop end xs)) (flat_map-take f xs at end h)
    ∙ append_assoc (flat_map f (take at xs)) (flat_map f (take (end - at) (drop at xs))) (flat_map f (drop end xs))

-- a front of the text was written, and the rest is left
abbrev pub Wrote : Option (List ℕ) → Option (List ℕ) → List ℕ → List ℕ → Type 0
Wrote old now all rest = (front : List ℕ) × Appends old now front × (all ≡ front ++ rest)

pub wrote_none : (old : Option (List ℕ)) (all : List ℕ) → Wrote old old all all
wrote_none None all = ([], tt, refl)
wrote_none (Some xs) all = ([], sym (append-nil xs), refl)

pub wrote_next : (old a b : Option (List ℕ)) (all next rest : List ℕ) → Wrote old a all (next ++ rest) → Appends a b next → Wrote old b all rest
wrote_next old a b all next rest w p =
    (w.0 ++ next, Appends-trans old a b w.0 next w.1 p, w.2 ∙ sym (append_assoc w.0 next rest))

pub wrote_part : (old a b : Option (List ℕ)) (all next rest : List ℕ) → Wrote old a all (next ++ rest) → AppendsPrefix a b next → AppendsPrefix old b all
wrote_part old a b all next rest w p = AppendsPrefix-after old a b w.0 next rest all w.1 p w.2

pub wrote_last : {T E : Type 0} (r : Result T E) (old a b : Option (List ℕ)) (all next : List ℕ) → Wrote old a all next → WritesPiece a b r next → WritesPiece old b r all
wrote_last r old a b all next w p = WritesPiece-after r old a b w.0 next all w.1 p w.2

-- what holds anyway holds where the result is Ok
pub on_ok : {T E : Type 0} (r : Result T E) (P : Type 0) → P → OnOk r P
on_ok (Ok x) P p = p
on_ok (Err e) P p = tt
