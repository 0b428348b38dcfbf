-- Lists of nodes as lists of tasks.
use Rattle.std.proofs.Common.{◌≡◌, ◌≢◌, ℕ, ◌+◌, ◌/◌, ◌<◌, ◌≤◌, List, [], ◌∷◌, ◌++◌, length, map, take, drop, insert, set, replicate, reverse, refl, sym, ap, subst, ◌∙◌, inl, inr, arith, get_or-set_other, get_or-set_same}
use Rattle.std.proofs.Math.Nat.{not-suc-le-zero}
use Rattle.std.proofs.lemmas.Bool.Decides.{eqb_tells}
use Rattle.std.proofs.lemmas.List.{drop-map, get_or-replicate, length-map, map-append, reverse-append, take-map}
use Rattle.links.specs.Chain.{times, list_at, inserted, without}
use Rattle.links.proofs.Times.{times-insert, times_here, times_same, times_other, times-le}
use Rattle.links.proofs.Chained.{length-le_once}
use Rattle.links.proofs.Steps.{times-without}
use Rattle.pend_lists.specs.Pending.{waiters, IsAbsent, AreOnceEach}

pub without_gone : (x y : ℕ) (xs : List ℕ) → x ≡ y → without y (x ∷ xs) ≡ without y xs
without_gone x y xs e = grind arith

pub without_kept : (x y : ℕ) (xs : List ℕ) → x ≢ y → without y (x ∷ xs) ≡ x ∷ without y xs
without_kept x y xs ne = grind arith

-- a node joins its task's list at the same place
pub map-inserted : (f : ℕ → ℕ) (xs : List ℕ) (i y : ℕ) → map f (insert xs i y) ≡ insert (map f xs) i (f y)
map-inserted f xs i y =
    map-append f (take i xs) (y ∷ drop i xs)
    ∙ ap (λ zs. zs ++ f y ∷ map f (drop i xs)) (sym (take-map f i xs))
    ∙ ap (λ zs. take i (map f xs) ++ f y ∷ zs) (sym (drop-map f i xs))

-- a node leaves as its task does, where no other node of the task stands there
pub map-without : (f : ℕ → ℕ) (y : ℕ) (xs : List ℕ) → ((x : ℕ) → 0 < times x xs → f x ≡ f y → x ≡ y) → map f (without y xs) ≡ without (f y) (map f xs)
map-without f y [] alone = refl
map-without f y (x ∷ xs) alone =
    let here = times_here x xs in
    let rest = map-without f y xs (λ z some e. alone z (let more = times-le z x xs in omega arith) e) in
    elim (eqb_tells x y) [
      | inl e ↦ ap (map f) (without_gone x y xs e.1) ∙ rest ∙ sym (without_gone (f x) (f y) (map f xs) (ap f e.1))
      | inr e ↦
          let far : f x ≢ f y = λ d. e.1 (alone x (omega arith) d) in
          ap (map f) (without_kept x y xs e.1) ∙ ap (λ zs. f x ∷ zs) rest ∙ sym (without_kept (f x) (f y) (map f xs) far)
    ]

-- ---- how often a task waits
-- the task of a node that stands there waits there
pub times_waits : (x : ℕ) (xs : List ℕ) → 0 < times x xs → 0 < times (x / 8) (waiters xs)
times_waits x [] h = absurd (not-suc-le-zero {n = 0} h)
times_waits x (y ∷ xs) h =
    elim (eqb_tells y x) [
      | inl e ↦ let here : times (x / 8) (y / 8 ∷ waiters xs) ≡ 1 + times (x / 8) (waiters xs) = times_same (x / 8) (y / 8) (waiters xs) (ap (λ n. n / 8) (sym e.1)) in omega (arith, here)
      | inr e ↦
          let other = times_other x y xs e.1 in let rest = times_waits x xs (omega (arith, other, h)) in
          let more : times (x / 8) (waiters xs) ≤ times (x / 8) (y / 8 ∷ waiters xs) = times-le (x / 8) (y / 8) (waiters xs) in omega (arith, rest, more)
    ]

-- two nodes of a task that stands there once are the same
pub one_node : (xs : List ℕ) → ((task : ℕ) → times task (waiters xs) ≤ 1) → (x y : ℕ) → 0 < times x xs → 0 < times y xs → x / 8 ≡ y / 8 → x ≡ y
one_node [] once x y hx hy e = absurd (not-suc-le-zero {n = 0} hx)
one_node (z ∷ xs) once x y hx hy e =
    let here : times (z / 8) (z / 8 ∷ waiters xs) ≡ 1 + times (z / 8) (waiters xs) = times_here (z / 8) (waiters xs) in
    let all : times (z / 8) (z / 8 ∷ waiters xs) ≤ 1 = once (z / 8) in
    let none : times (z / 8) (waiters xs) ≡ 0 = omega (arith, here, all) in
    let fewer : (task : ℕ) → times task (waiters xs) ≤ 1 = λ task. let more : times task (waiters xs) ≤ times task (z / 8 ∷ waiters xs) = times-le task (z / 8) (waiters xs) in let at : times task (z / 8 ∷ waiters xs) ≤ 1 = once task in omega (arith, more, at) in
    elim (eqb_tells z x) [
      | inl ex ↦ elim (eqb_tells z y) [
        | inl ey ↦ sym ex.1 ∙ ey.1
        | inr ey ↦
            let there = times_waits y xs (let other = times_other y z xs ey.1 in omega (arith, other, hy)) in
            let gone : times (y / 8) (waiters xs) ≡ 0 = subst (λ t. times t (waiters xs) ≡ 0) (ap (λ n. n / 8) ex.1 ∙ e) none in
            absurd (not-suc-le-zero {n = 0} (omega (arith, there, gone)))
      ]
      | inr ex ↦ elim (eqb_tells z y) [
        | inl ey ↦
            let there = times_waits x xs (let other = times_other x z xs ex.1 in omega (arith, other, hx)) in
            let gone : times (x / 8) (waiters xs) ≡ 0 = subst (λ t. times t (waiters xs) ≡ 0) (ap (λ n. n / 8) ey.1 ∙ sym e) none in
            absurd (not-suc-le-zero {n = 0} (omega (arith, there, gone)))
        | inr ey ↦ one_node xs fewer x y (let other = times_other x z xs ex.1 in omega (arith, other, hx)) (let other = times_other y z xs ey.1 in omega (arith, other, hy)) e
      ]
    ]

-- a node leaves as its task does, where the task stands once
pub waiters-without : (y : ℕ) (xs : List ℕ) → ((task : ℕ) → times task (waiters xs) ≤ 1) → 0 < times y xs → waiters (without y xs) ≡ without (y / 8) (waiters xs)
waiters-without y xs once stands = map-without (λ n. n / 8) y xs (λ x some e. one_node xs once x y some stands e)

-- a node of an absent task joins
pub inserted_once : (xs : List ℕ) (i y : ℕ) → ((task : ℕ) → times task (waiters xs) ≤ 1) → IsAbsent y xs → (task : ℕ) → times task (waiters (insert xs i y)) ≤ 1
inserted_once xs i y once absent task =
    let same : times task (waiters (insert xs i y)) ≡ times task (y / 8 ∷ waiters xs) = ap (times task) (map-inserted (λ n. n / 8) xs i y) ∙ times-insert task (waiters xs) i (y / 8) in
    let all = once task in
    elim (eqb_tells (y / 8) task) [
      | inl e ↦
          let here = times_same task (y / 8) (waiters xs) (sym e.1) in
          let none : times task (waiters xs) ≡ 0 = subst (λ t. times t (waiters xs) ≡ 0) e.1 absent in omega (arith, same, here, none)
      | inr e ↦ let here = times_other task (y / 8) (waiters xs) e.1 in omega (arith, same, here, all)
    ]

-- who waits after a node has joined
pub waits-inserted : (lists : List (List ℕ)) (o i y task : ℕ) → o < length lists → times task (waiters (list_at (inserted lists o i y) o)) ≡ times task (y / 8 ∷ waiters (list_at lists o))
waits-inserted lists o i y task h =
    ap (λ zs. times task (waiters zs)) (get_or-set_same lists o (insert (list_at lists o) i y) [] h)
    ∙ ap (times task) (map-inserted (λ n. n / 8) (list_at lists o) i y)
    ∙ times-insert task (waiters (list_at lists o)) i (y / 8)

-- a node leaves
fewer_without : (y task : ℕ) (xs : List ℕ) → times task (waiters (without y xs)) ≤ times task (waiters xs)
fewer_without y task [] = omega arith
fewer_without y task (x ∷ xs) =
    let rest = fewer_without y task xs in
    let more : times task (waiters xs) ≤ times task (x / 8 ∷ waiters xs) = times-le task (x / 8) (waiters xs) in
    elim (eqb_tells x y) [
      | inl e ↦ let gone : times task (waiters (without y (x ∷ xs))) ≡ times task (waiters (without y xs)) = ap (λ zs. times task (waiters zs)) (without_gone x y xs e.1) in omega (arith, rest, more, gone)
      | inr e ↦
          let kept : times task (waiters (without y (x ∷ xs))) ≡ times task (x / 8 ∷ waiters (without y xs)) = ap (λ zs. times task (waiters zs)) (without_kept x y xs e.1) in
          elim (eqb_tells (x / 8) task) [
            | inl f ↦ let one = times_same task (x / 8) (waiters (without y xs)) (sym f.1) in let two = times_same task (x / 8) (waiters xs) (sym f.1) in omega (arith, rest, kept, one, two)
            | inr f ↦ let one = times_other task (x / 8) (waiters (without y xs)) f.1 in let two = times_other task (x / 8) (waiters xs) f.1 in omega (arith, rest, kept, one, two)
          ]
    ]

pub left_once : (xs : List ℕ) (y : ℕ) → ((task : ℕ) → times task (waiters xs) ≤ 1) → (task : ℕ) → times task (waiters (without y xs)) ≤ 1
left_once xs y once task = let all = once task in let less = fewer_without y task xs in omega (arith, all, less)

-- one list is changed
pub changed_once : (lists : List (List ℕ)) (p : ℕ) (ys : List ℕ) → p < length lists → AreOnceEach lists → ((task : ℕ) → times task (waiters ys) ≤ 1) → AreOnceEach (set lists p ys)
changed_once lists p ys h all mine o low task =
    elim (eqb_tells o p) [
      | inl e ↦ let at : list_at (set lists p ys) o ≡ ys = rw e.1 (get_or-set_same lists p ys [] h) in subst (λ zs. times task (waiters zs) ≤ 1) (sym at) (mine task)
      | inr e ↦ let at : list_at (set lists p ys) o ≡ list_at lists o = get_or-set_other lists p o ys [] e.1 in subst (λ zs. times task (waiters zs) ≤ 1) (sym at) (all o low task)
    ]

pub none_once : AreOnceEach (replicate 64 [])
none_once o low task = let at : list_at (replicate 64 []) o ≡ [] = get_or-replicate 64 o [] [] low in let none : times task (waiters (list_at (replicate 64 []) o)) ≡ 0 = ap (λ zs. times task (waiters zs)) at in omega (arith, none)

-- a task whose node left does not wait there any more
pub left_absent : (y : ℕ) (xs : List ℕ) → ((task : ℕ) → times task (waiters xs) ≤ 1) → 0 < times y xs → IsAbsent y (without y xs)
left_absent y xs once stands = ap (times (y / 8)) (waiters-without y xs once stands) ∙ times-without (y / 8) (waiters xs)

-- a task that waits has a node there
pub times_waited : (task : ℕ) (xs : List ℕ) → 0 < times task (waiters xs) → (x : ℕ) × (0 < times x xs) × (x / 8 ≡ task)
times_waited task [] h = absurd (not-suc-le-zero {n = 0} h)
times_waited task (y ∷ xs) h =
    let here = times_here y xs in
    elim (eqb_tells (y / 8) task) [
      | inl e ↦ (y, omega (arith, here), e.1)
      | inr e ↦
          let other = times_other task (y / 8) (waiters xs) e.1 in let rest = times_waited task xs (omega (arith, other, h)) in
          let more = times-le rest.0 y xs in (rest.0, omega (arith, more, rest.1), rest.2)
    ]

-- at most 64 tasks wait
pub few_wait : (xs : List ℕ) → ((task : ℕ) → times task (waiters xs) ≤ 1) → ((x : ℕ) → 0 < times x xs → x < 512) → length xs ≤ 64
few_wait xs once low =
    let long : length (waiters xs) ≡ length xs = length-map xs (λ n. n / 8) in
    let few : length (waiters xs) ≤ 64 = length-le_once (waiters xs) 64 once (λ task some. let at = times_waited task xs some in let below = low at.0 at.1 in omega (arith, at.2, below)) in
    omega (arith, long, few)

pub waiters-reverse : (xs : List ℕ) → waiters (reverse xs) ≡ reverse (waiters xs)
waiters-reverse [] = refl
waiters-reverse (x ∷ xs) =
    ap waiters (reverse-append (x ∷ []) xs)
    ∙ map-append (λ n. n / 8) (reverse xs) (x ∷ [])
    ∙ ap (λ zs. zs ++ x / 8 ∷ []) (waiters-reverse xs)
    ∙ sym (reverse-append (x / 8 ∷ []) (waiters xs))
