-- The looks by their moments.
use Rattle.std.proofs.Common.{◌≡◌, ℕ, suc, ◌+◌, ◌<◌, ◌≤◌, List, [], ◌∷◌, ◌++◌, length, get_or, take, drop, drop-cons, refl, sym, ap, ◌∙◌, subst, arith, inl, inr}
use Rattle.std.specs.Prelude.{Option, Some, None, All, if◌then◌else◌, ◌==◌}
use Rattle.std.specs.List.Sorted.{IsNonDecreasingBy}
use Rattle.std.proofs.lemmas.Bool.Decides.{eqb_tells, leb_tells}
use Rattle.std.proofs.lemmas.List.Elements.{All-cons, All-tail, All-filter}
use Rattle.std.proofs.Math.Seq.{take-suc}
use Rattle.std.proofs.lemmas.List.{drop_all}
use Rattle.inject_list.specs.declared.lists.Look.{Look}
use Rattle.machine_model.specs.Looks.{look_at, without_look}
use Rattle.due_looks.specs.Rest.{of_moment, without_all, IsInOrder}

some_none : (l : Look) → Some l ≡ None → ⊥
some_none l e = cc

abbrev pub first : List Look → Option Look
first [] = None
first (l ∷ ls) = Some l

abbrev pub behind : List Look → List Look
behind [] = []
behind (l ∷ ls) = ls

pub look-first : (s : ℕ) (ls : List Look) → look_at s ls ≡ first (of_moment s ls)
look-first s [] = refl
look-first s (l ∷ ls) =
    elim (eqb_tells l.at s) [
      | inl q ↦ ap (λ b. if b then Some l else look_at s ls) q.0 ∙ sym (ap (λ b. first (if b then l ∷ of_moment s ls else of_moment s ls)) q.0)
      | inr q ↦ ap (λ b. if b then Some l else look_at s ls) q.0 ∙ look-first s ls ∙ sym (ap (λ b. first (if b then l ∷ of_moment s ls else of_moment s ls)) q.0)
    ]

-- a look of this moment stands first among those of it, and is behind no other
pub of_moment-first : (l : Look) (ls : List Look) → of_moment l.at (l ∷ ls) ≡ l ∷ of_moment l.at ls
of_moment-first l ls =
    elim (eqb_tells l.at l.at) [
      | inl q ↦ ap (λ b. if b then l ∷ of_moment l.at ls else of_moment l.at ls) q.0
      | inr q ↦ absurd (q.1 refl)
    ]

pub of_moment-other : (t : ℕ) (l : Look) (ls : List Look) → (l.at ≡ t → ⊥) → of_moment t (l ∷ ls) ≡ of_moment t ls
of_moment-other t l ls n =
    elim (eqb_tells l.at t) [
      | inl q ↦ absurd (n q.1)
      | inr q ↦ ap (λ b. if b then l ∷ of_moment t ls else of_moment t ls) q.0
    ]

pub without-same : (s : ℕ) (ls : List Look) → of_moment s (without_look s ls) ≡ behind (of_moment s ls)
without-same s [] = refl
without-same s (l ∷ ls) =
    elim (eqb_tells l.at s) [
      | inl q ↦ ap (λ b. of_moment s (if b then ls else l ∷ without_look s ls)) q.0 ∙ sym (ap (λ b. behind (if b then l ∷ of_moment s ls else of_moment s ls)) q.0)
      | inr q ↦ ap (λ b. of_moment s (if b then ls else l ∷ without_look s ls)) q.0 ∙ of_moment-other s l (without_look s ls) q.1 ∙ without-same s ls ∙ sym (ap behind (of_moment-other s l ls q.1))
    ]

pub without-other : (s t : ℕ) (ls : List Look) → (s ≡ t → ⊥) → of_moment t (without_look s ls) ≡ of_moment t ls
without-other s t [] n = refl
without-other s t (l ∷ ls) n =
    elim (eqb_tells l.at s) [
      | inl q ↦ ap (λ b. of_moment t (if b then ls else l ∷ without_look s ls)) q.0 ∙ sym (of_moment-other t l ls (λ e. n (sym q.1 ∙ e)))
      | inr q ↦ ap (λ b. of_moment t (if b then ls else l ∷ without_look s ls)) q.0 ∙ ap (λ rest. if l.at == t then l ∷ rest else rest) (without-other s t ls n)
    ]

pub without-none : (s : ℕ) (ls : List Look) → look_at s ls ≡ None → without_look s ls ≡ ls
without-none s [] e = refl
without-none s (l ∷ ls) e =
    elim (eqb_tells l.at s) [
      | inl q ↦ let bad : Some l ≡ None = sym (ap (λ b. if b then Some l else look_at s ls) q.0) ∙ e in cc
      | inr q ↦
          let later : look_at s ls ≡ None = sym (ap (λ b. if b then Some l else look_at s ls) q.0) ∙ e in
          ap (λ b. if b then ls else l ∷ without_look s ls) q.0 ∙ ap (λ rest. l ∷ rest) (without-none s ls later)
    ]

-- Where no look has an earlier moment.

-- where none is due either, each has a later one
pub none-due : (s : ℕ) (ls : List Look) → All (λ l. s ≤ l.at) ls → look_at s ls ≡ None → All (λ l. s + 1 ≤ l.at) ls
none-due s [] from e = λ j d h. absurd (omega arith)
none-due s (l ∷ ls) from e =
    elim (eqb_tells l.at s) [
      | inl q ↦ let bad : Some l ≡ None = sym (ap (λ b. if b then Some l else look_at s ls) q.0) ∙ e in cc
      | inr q ↦
          let later : look_at s ls ≡ None = sym (ap (λ b. if b then Some l else look_at s ls) q.0) ∙ e in
          let here : s ≤ l.at = from 0 l (omega arith) in
          let past : s + 1 ≤ l.at = omega (arith, q.1) in
          All-cons (λ l. s + 1 ≤ l.at) l ls past (none-due s ls (All-tail (λ l. s ≤ l.at) l ls from) later)
    ]

-- one is taken
pub without-keeps : (P : Look → Type 0) (s : ℕ) (ls : List Look) → All P ls → All P (without_look s ls)
without-keeps P s [] all = all
without-keeps P s (l ∷ ls) all =
    elim (eqb_tells l.at s) [
      | inl q ↦ subst (All P) (sym (ap (λ b. if b then ls else l ∷ without_look s ls) q.0)) (All-tail P l ls all)
      | inr q ↦ subst (All P) (sym (ap (λ b. if b then ls else l ∷ without_look s ls) q.0)) (All-cons P l (without_look s ls) (all 0 l (omega arith)) (without-keeps P s ls (All-tail P l ls all)))
    ]

pub none-of : (s : ℕ) (ls : List Look) → All (λ l. s + 1 ≤ l.at) ls → of_moment s ls ≡ []
none-of s [] all = refl
none-of s (l ∷ ls) all =
    let here : s + 1 ≤ l.at = all 0 l (omega arith) in
    of_moment-other s l ls (λ e. omega arith) ∙ none-of s ls (All-tail (λ l. s + 1 ≤ l.at) l ls all)

pub without_all-one : (ps : List Look) (p : Look) (ls : List Look) → without_all (ps ++ p ∷ []) ls ≡ without_look p.at (without_all ps ls)
without_all-one [] p ls = refl
without_all-one (x ∷ ps) p ls = without_all-one ps p (without_look x.at ls)

-- The first in order, of looks that are in order.

pub first-from : (s : ℕ) (view : List Look) (l : Look) (rest : List Look) → IsInOrder view (l ∷ rest) → All (λ l. s ≤ l.at) view → s ≤ l.at
first-from s view l rest o from =
    let same : l ∷ of_moment l.at rest ≡ of_moment l.at view = sym (of_moment-first l rest) ∙ o.same l.at in
    let all : All (λ l. s ≤ l.at) (l ∷ of_moment l.at rest) = subst (All (λ l. s ≤ l.at)) (sym same) (All-filter (λ x. x.at == l.at) (λ l. s ≤ l.at) view from) in
    all 0 l (omega arith)

pub due-first : (s : ℕ) (view : List Look) (l : Look) (rest : List Look) → IsInOrder view (l ∷ rest) → l.at ≡ s → look_at s view ≡ Some l
due-first s view l rest o e =
    let same : l ∷ of_moment l.at rest ≡ of_moment l.at view = sym (of_moment-first l rest) ∙ o.same l.at in
    subst (λ t. look_at t view ≡ Some l) e (look-first l.at view ∙ sym (ap first same))

pub due-none : (s : ℕ) (view : List Look) (l : Look) (rest : List Look) → IsInOrder view (l ∷ rest) → All (λ l. s ≤ l.at) view → (l.at ≡ s → ⊥) → look_at s view ≡ None
due-none s view l rest o from n =
    let low : s ≤ l.at = first-from s view l rest o from in
    let late : All (λ x. s + 1 ≤ x.at) (l ∷ rest) = λ j d h. let up : l.at ≤ (get_or (l ∷ rest) j d).at = o.sorted 0 j d (omega arith) h in omega (arith, n) in
    look-first s view ∙ ap first (sym (o.same s) ∙ none-of s (l ∷ rest) late)

pub due-end : (s : ℕ) (view : List Look) → IsInOrder view [] → look_at s view ≡ None
due-end s view o = look-first s view ∙ ap first (sym (o.same s))

sorted_behind : (l : Look) (rest : List Look) → IsNonDecreasingBy (λ (x : Look). x.at) (l ∷ rest) → IsNonDecreasingBy (λ (x : Look). x.at) rest
sorted_behind l rest up = λ i j d low h. up (suc i) (suc j) d (omega arith) (omega arith)

pub order-behind : (view : List Look) (l : Look) (rest : List Look) → IsInOrder view (l ∷ rest) → IsInOrder (without_look l.at view) rest
order-behind view l rest o =
    record {
      sorted = sorted_behind l rest o.sorted;
      same = λ t. elim (eqb_tells l.at t) [
        | inl q ↦
            let same : of_moment l.at rest ≡ of_moment l.at (without_look l.at view) = ap behind (sym (of_moment-first l rest) ∙ o.same l.at) ∙ sym (without-same l.at view) in
            subst (λ t. of_moment t rest ≡ of_moment t (without_look l.at view)) q.1 same
        | inr q ↦ sym (of_moment-other t l rest q.1) ∙ o.same t ∙ sym (without-other l.at t view q.1)
      ];
    }

-- By place: of looks in order the one at a place is first, with those behind it.

pub order-at : (view order : List Look) (n : ℕ) → IsInOrder view (drop n order) → n < length order → (d : Look) → IsInOrder view (get_or order n d ∷ drop (n + 1) order)
order-at view order n o h d =
    let next : suc n ≡ n + 1 = omega arith in
    subst (IsInOrder view) (drop-cons order n d h ∙ ap (λ k. get_or order n d ∷ drop k order) next) o

pub order-end : (view order : List Look) (n : ℕ) → IsInOrder view (drop n order) → length order ≤ n → IsInOrder view []
order-end view order n o h = subst (IsInOrder view) (drop_all n order h) o

pub taken-more : (order lines : List Look) (n : ℕ) (d : Look) → n < length order → without_all (take (n + 1) order) lines ≡ without_look (get_or order n d).at (without_all (take n order) lines)
taken-more order lines n d h =
    let next : n + 1 ≡ suc n = omega arith in
    ap (λ ps. without_all ps lines) (ap (λ k. take k order) next ∙ take-suc order n d h) ∙ without_all-one (take n order) (get_or order n d) lines

-- What is found at a place n of an order, where those from it on are the looks to come.
module _ (s n : ℕ) (order now : List Look) (o : IsInOrder now (drop n order)) (from : All (λ l. s ≤ l.at) now) where
  pub due-here : n < length order → (d : Look) → (get_or order n d).at ≡ s → look_at s now ≡ Some (get_or order n d)
  due-here h d e = due-first s now (get_or order n d) (drop (n + 1) order) (order-at now order n o h d) e

  pub due-later : n < length order → (d : Look) → ((get_or order n d).at ≡ s → ⊥) → look_at s now ≡ None
  due-later h d e = due-none s now (get_or order n d) (drop (n + 1) order) (order-at now order n o h d) from e

  pub due-past : length order ≤ n → look_at s now ≡ None
  due-past h = due-end s now (order-end now order n o h)

  pub due-place : (l : Look) → look_at s now ≡ Some l → n < length order
  due-place l e =
      elim (leb_tells (suc n) (length order)) [
        | inl q ↦ q.1
        | inr q ↦ let none : look_at s now ≡ None = due-past (omega (arith, q.1)) in absurd (some_none l (sym e ∙ none))
      ]

  pub due-moment : (l : Look) → look_at s now ≡ Some l → (d : Look) → (get_or order n d).at ≡ s
  due-moment l e d =
      elim (eqb_tells (get_or order n d).at s) [
        | inl q ↦ q.1
        | inr q ↦ let none : look_at s now ≡ None = due-later (due-place l e) d q.1 in absurd (some_none l (sym e ∙ none))
      ]
