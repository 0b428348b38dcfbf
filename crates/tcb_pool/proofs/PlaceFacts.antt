-- Records written to the front of a table, one after another.
use Rattle.std.proofs.Common.{◌≡◌, ℕ, ◌+◌, ◌-◌, ◌<◌, ◌≤◌, List, [], ◌∷◌, ◌++◌, length, get_or, map, take, drop, sym, ap, ◌∙◌, subst, arith, add-one, append_assoc}
use Rattle.std.specs.Prelude.{slice_set, replicate}
use Rattle.std.proofs.lemmas.List.{map-set, take_more, map-append, length-map, length-take-le, length-replicate, replicate-append-replicate, drop-append-le, drop-replicate}
use Rattle.std.proofs.Math.Seq.{drop-cons, set-append_seam}

-- one more is written
pub placed-next : {A B C : Type 0} (g : B → C) (f : A → C) (ds : List A) (base : List C) (i : ℕ) (d : A) (rs : List B) (v : B) → i < length ds → length ds ≤ length base → map g rs ≡ map f (take i ds) ++ drop i base → g v ≡ f (get_or ds i d) → map g (slice_set rs i v) ≡ map f (take (i + 1) ds) ++ drop (i + 1) base
placed-next g f ds base i d rs v h room e same =
    let front = map f (take i ds) in
    let rest = drop (i + 1) base in
    let long : length front ≡ i = length-map (take i ds) f ∙ length-take-le i ds (omega arith) in
    let inside : i < length base = omega arith in
    let cons : drop i base ≡ get_or base i (g v) ∷ rest = rw (add-one, drop-cons base i (g v)) in
    let seam : slice_set (front ++ get_or base i (g v) ∷ rest) i (g v) ≡ front ++ g v ∷ rest = subst (λ n. slice_set (front ++ get_or base i (g v) ∷ rest) n (g v) ≡ front ++ g v ∷ rest) long (set-append_seam front (get_or base i (g v)) rest (g v)) in
    let more : map f (take (i + 1) ds) ≡ front ++ f (get_or ds i d) ∷ [] = ap (λ l. map f l) (take_more ds i d h) ∙ map-append f (take i ds) (get_or ds i d ∷ []) in
    map-set g rs i v
    ∙ ap (λ cs. slice_set cs i (g v)) (e ∙ ap (λ cs. front ++ cs) cons)
    ∙ seam
    ∙ ap (λ y. front ++ y ∷ rest) same
    ∙ sym (append_assoc front (f (get_or ds i d) ∷ []) rest)
    ∙ ap (λ cs. cs ++ rest) (sym more)

-- the front of a table, where the first m places are blank
pub drop-blank : {C : Type 0} (n m : ℕ) (b : C) (ys : List C) → n ≤ m → drop n (replicate m b ++ ys) ≡ replicate (m - n) b ++ ys
drop-blank n m b ys h =
    let long : length (replicate m b) ≡ m = length-replicate m b in
    drop-append-le n (replicate m b) ys (omega arith) ∙ ap (λ l. l ++ ys) (drop-replicate n m b)

-- all of a table of 64, of which the front is declared and three behind the sixtieth are set
pub placed-start : {A B C : Type 0} (g : B → C) (f : A → C) (ds : List A) (b x y z : B) (rs : List B) → length ds ≤ 60 → map g rs ≡ map f ds ++ drop (length ds) (map g (slice_set (slice_set (slice_set (replicate 64 b) 60 x) 61 y) 62 z)) → map g rs ≡ map f ds ++ replicate (60 - length ds) (g b) ++ (g x ∷ g y ∷ g z ∷ g b ∷ [])
placed-start g f ds b x y z rs h e =
    e
    ∙ ap (λ l. map f ds ++ l) (drop-blank (length ds) 60 (g b) (g x ∷ g y ∷ g z ∷ g b ∷ []) h)
    ∙ sym (append_assoc (map f ds) (replicate (60 - length ds) (g b)) (g x ∷ g y ∷ g z ∷ g b ∷ []))

-- blanks behind blanks
pub replicate-four : {C : Type 0} (n : ℕ) (b : C) → n ≤ 60 → replicate (60 - n) b ++ (b ∷ b ∷ b ∷ b ∷ []) ≡ replicate (64 - n) b
replicate-four n b h = replicate-append-replicate (60 - n) 4 b ∙ ap (λ m. replicate m b) (let e : 60 - n + 4 ≡ 64 - n = omega arith in e)
