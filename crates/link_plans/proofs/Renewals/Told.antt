-- The moves that are told are those of the kernel.
use Rattle.std.proofs.Common.{◌≡◌, ℕ, zero, suc, ◌+◌, ◌<◌, ◌≤◌, Bool, true, false, List, [], ◌∷◌, ◌++◌, length, map, Option, Some, None, refl, sym, ap, ◌∙◌, arith, append_assoc, length-append}
use Rattle.std.specs.Prelude.{All, ◌==◌, ◌&&◌, not, if◌then◌else◌}
use Rattle.std.proofs.lemmas.List.Elements.{All-append, All-cons, All-nil, All-head, All-tail}
use Rattle.kern_base.specs.declared.numbers.Prio.{Prio}
use Rattle.kern_model.specs.State.{Kernel, Task, task_at, task_in, prio_of}
use Rattle.kern_model.specs.Inherit.{inherited, moves_of, numbers, renewed_tasks}
use Rattle.link_plans.specs.declared.moves.Standing.{Standing}
use Rattle.link_plans.specs.declared.moves.Move.{Move}
use Rattle.link_plans.specs.Moves.{move_in, standing_of}
use Rattle.link_plans.specs.Renewals.{renewal_moves}
use Rattle.link_plans.specs.Told.{AreTold, inherited_told, living_standing, move_if, move_told, moves_told, standing_told}

-- numbers up to the next
numbers-next : (a n : ℕ) → numbers a (n + 1) ≡ numbers a n ++ (a + n) ∷ []
numbers-next a zero = let e : a + 0 ≡ a = omega arith in rw e refl
numbers-next a (suc n) =
    let e : a + suc n ≡ (a + 1) + n = omega arith in
    let s : suc n + 1 ≡ suc (n + 1) = omega arith in
    rw (s, e) (ap (λ xs. a ∷ xs) (numbers-next (a + 1) n))

length-numbers : (a n : ℕ) → length (numbers a n) ≡ n
length-numbers a zero = refl
length-numbers a (suc n) = ap suc (length-numbers (a + 1) n)

numbers-low : (a n : ℕ) → a + n ≤ 64 → All (λ x. x < 64) (numbers a n)
numbers-low a zero h = All-nil (λ x. x < 64)
numbers-low a (suc n) h = All-cons (λ x. x < 64) a (numbers (a + 1) n) (omega (arith, h)) (numbers-low (a + 1) n (omega (arith, h)))

renewed-low : All (λ x. x < 64) renewed_tasks
renewed-low = All-append (λ x. x < 64) (numbers 0 60) (61 ∷ []) (numbers-low 0 60 (omega arith)) (All-cons (λ x. x < 64) 61 [] (omega arith) (All-nil (λ x. x < 64)))

module _ (ts : List Task) (prios : List Prio) (ss : List (Option Standing)) where
  told-append : (xs ys : List ℕ) → moves_told ts prios ss (xs ++ ys) ≡ moves_told ts prios ss xs ++ moves_told ts prios ss ys
  told-append [] ys = refl
  told-append (x ∷ xs) ys =
      ap (λ ms. move_told ts prios ss x ++ ms) (told-append xs ys) ∙ sym (append_assoc (move_told ts prios ss x) (moves_told ts prios ss xs) (moves_told ts prios ss ys))

  -- one task more
  pub told-one : (xs : List ℕ) (x : ℕ) → moves_told ts prios ss (xs ++ x ∷ []) ≡ moves_told ts prios ss xs ++ move_told ts prios ss x
  told-one xs x = told-append xs (x ∷ []) ∙ ap (λ ms. moves_told ts prios ss xs ++ ms) (no_end (move_told ts prios ss x))
    where
      no_end : (ms : List Move) → ms ++ [] ≡ ms
      no_end [] = refl
      no_end (m ∷ ms) = ap (λ ns. m ∷ ns) (no_end ms)

  pub told-next : (n : ℕ) (ms ns : List Move) → ms ≡ moves_told ts prios ss (numbers 0 n) → ns ≡ ms ++ move_told ts prios ss n → ns ≡ moves_told ts prios ss (numbers 0 (n + 1))
  told-next n ms ns e f =
      let number : 0 + n ≡ n = omega arith in
      f ∙ ap (λ qs. qs ++ move_told ts prios ss n) e ∙ sym (told-one (numbers 0 n) n) ∙ ap (λ z. moves_told ts prios ss (numbers 0 n ++ z ∷ [])) (sym number) ∙ ap (moves_told ts prios ss) (sym (numbers-next 0 n))

  few_told : (s : Option Standing) (x q p : ℕ) → length (move_if s x q p) ≤ 1
  few_told None x q p = omega arith
  few_told (Some s) x q p = by_test (p == q)
    where
      by_test : (b : Bool) → length (if b then [] else (let m : Move = record { task = record { 0 = x }; from = record { 0 = q }; to = record { 0 = p }; standing = s } in m) ∷ []) ≤ 1
      by_test true = omega arith
      by_test false = omega arith

  told-few : (xs : List ℕ) → length (moves_told ts prios ss xs) ≤ length xs
  told-few [] = omega arith
  told-few (x ∷ xs) =
      let sum = length-append (move_told ts prios ss x) (moves_told ts prios ss xs) in
      let one = few_told (standing_told ss x) x (task_in ts x).prio (inherited_told prios x) in
      let rest = told-few xs in
      omega (arith, sum, one, rest)

  pub told-room : (n : ℕ) (ms : List Move) → ms ≡ moves_told ts prios ss (numbers 0 n) → length ms ≤ n
  told-room n ms e = let long = ap (λ qs. length qs) e in let few = told-few (numbers 0 n) in let count = length-numbers 0 n in omega (arith, long, few, count)

  low_told : (s : Option Standing) (x q p : ℕ) → x < 64 → All (λ (m : Move). m.task.0 < 64) (move_if s x q p)
  low_told None x q p h = All-nil (λ (m : Move). m.task.0 < 64)
  low_told (Some s) x q p h = by_test (p == q)
    where
      by_test : (b : Bool) → All (λ (m : Move). m.task.0 < 64) (if b then [] else (let m : Move = record { task = record { 0 = x }; from = record { 0 = q }; to = record { 0 = p }; standing = s } in m) ∷ [])
      by_test true = All-nil (λ (m : Move). m.task.0 < 64)
      by_test false = All-cons (λ (m : Move). m.task.0 < 64) _ [] h (All-nil (λ (m : Move). m.task.0 < 64))

  told-low : (xs : List ℕ) → All (λ x. x < 64) xs → All (λ (m : Move). m.task.0 < 64) (moves_told ts prios ss xs)
  told-low [] h = All-nil (λ (m : Move). m.task.0 < 64)
  told-low (x ∷ xs) h =
      All-append (λ (m : Move). m.task.0 < 64) (move_told ts prios ss x) (moves_told ts prios ss xs)
      (low_told (standing_told ss x) x (task_in ts x).prio (inherited_told prios x) (All-head (λ x. x < 64) x xs h))
      (told-low xs (All-tail (λ x. x < 64) x xs h))

  module _ (k : Kernel) (told : AreTold ts prios ss k) where
    by_life : (b : Bool) (x : ℕ) (rest : List (ℕ × ℕ)) → move_if (if b then Some (standing_of (task_at k x)) else None) x (prio_of k x) (inherited k x) ++ map (move_in k) rest ≡ map (move_in k) (if b && not (inherited k x == prio_of k x) then (x, inherited k x) ∷ rest else rest)
    by_life false x rest = refl
    by_life true x rest = by_test (inherited k x == prio_of k x)
      where
        by_test : (c : Bool) → (if c then [] else move_in k (x, inherited k x) ∷ []) ++ map (move_in k) rest ≡ map (move_in k) (if not c then (x, inherited k x) ∷ rest else rest)
        by_test true = refl
        by_test false = refl

    told-moves : (xs : List ℕ) → All (λ x. x < 64) xs → moves_told ts prios ss xs ≡ map (move_in k) (moves_of xs k)
    told-moves [] low = refl
    told-moves (x ∷ xs) low =
        let here = All-head (λ x. x < 64) x xs low in
        ap (λ ms. move_told ts prios ss x ++ ms) (told-moves xs (All-tail (λ x. x < 64) x xs low))
        ∙ ap (λ s. move_if s x (task_in ts x).prio (inherited_told prios x) ++ map (move_in k) (moves_of xs k)) (told.stands x here)
        ∙ ap (λ q. move_if (living_standing (task_at k x)) x q (inherited_told prios x) ++ map (move_in k) (moves_of xs k)) (told.present x here)
        ∙ ap (λ p. move_if (living_standing (task_at k x)) x (prio_of k x) p ++ map (move_in k) (moves_of xs k)) (told.inherits x here)
        ∙ by_life (task_at k x).alive x (moves_of xs k)

  -- all of them
  pub all-told : (ms ns : List Move) → ms ≡ moves_told ts prios ss (numbers 0 60) → ns ≡ ms ++ move_told ts prios ss 61 → ns ≡ moves_told ts prios ss renewed_tasks
  all-told ms ns e f = f ∙ ap (λ qs. qs ++ move_told ts prios ss 61) e ∙ sym (told-one (numbers 0 60) 61)

  pub all-moves : (ns : List Move) (k : Kernel) → ns ≡ moves_told ts prios ss renewed_tasks → AreTold ts prios ss k → ns ≡ renewal_moves k
  all-moves ns k e told = e ∙ told-moves k told renewed_tasks renewed-low

  pub all-low : (ns : List Move) → ns ≡ moves_told ts prios ss renewed_tasks → All (λ (m : Move). m.task.0 < 64) ns
  all-low ns e = rw e (told-low renewed_tasks renewed-low)
