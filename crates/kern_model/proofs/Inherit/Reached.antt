-- The inherited priority of a task is the least base priority among those from which it is reached.
use Rattle.kern_model.proofs.Common.{◌≡◌, ◌⊎◌, ℕ, zero, suc, ◌<◌, ◌≤◌, ◌+◌, List, [], ◌∷◌, refl, sym, ap, ◌∙◌, subst, Bool, true, false, ◌||◌, arith, inl, inr, Option, Some, None, ◌==◌, if◌then◌else◌, min, MutexPend, Waiting, Obj, Kernel, Task, Content, Held, no_task, task_at, object_at, prio_of, count_of, living, owner_in, owner_for, waits_on, reaches_by, reaches, numbers, least_of, inherited, renewed, IsLinked, IsInherited, IsAboveIdle, one_if, done, fine}
use Rattle.std.proofs.lemmas.List.{get_or_past}
use Rattle.std.proofs.lemmas.Bool.{false≢true, cases_lt}
use Rattle.std.proofs.lemmas.Bool.Decides.{eqb_tells}
use Rattle.kern_model.specs.Reached.{IsReached, Here, Onward, IsLeastBase}
use Rattle.kern_model.proofs.Basics.Choices.{equal, or_either}
use Rattle.kern_model.proofs.Linked.Wakes.{self_equal}
use Rattle.kern_model.proofs.Linked.Renewals.{numbers-has, above-living, linked-renewing}
use Rattle.kern_model.proofs.Inherit.Renewed.{inherited-renewed}

-- how many of the numbers below n pass a test
how_many : (ℕ → Bool) → ℕ → ℕ
how_many p zero = 0
how_many p (suc n) = one_if (p n) + how_many p n

one_if-le : (b : Bool) → one_if b ≤ 1
one_if-le true = omega arith
one_if-le false = omega arith

how_many-le : (p : ℕ → Bool) (n : ℕ) → how_many p n ≤ n
unfolding how_many
how_many-le p zero = omega arith
how_many-le p (suc n) = omega (arith, one_if-le (p n), how_many-le p n)

-- whoever passes the one test passes the other
abbrev Implies : (ℕ → Bool) → (ℕ → Bool) → Type 0
Implies p q = (u : ℕ) → p u ≡ true → q u ≡ true

one_if-mono : (a b : Bool) → (a ≡ true → b ≡ true) → one_if a ≤ one_if b
one_if-mono false b h = omega arith
one_if-mono true b h = subst (λ c. 1 ≤ one_if c) (sym (h refl)) (omega arith)

how_many-mono : (p q : ℕ → Bool) → Implies p q → (n : ℕ) → how_many p n ≤ how_many q n
unfolding how_many
how_many-mono p q h zero = omega arith
how_many-mono p q h (suc n) = omega (arith, one_if-mono (p n) (q n) (h n), how_many-mono p q h n)

one_if-same : (a b : Bool) → one_if a ≡ one_if b → b ≡ true → a ≡ true
one_if-same true b h e = refl
one_if-same false true h e = absurd (omega (arith, h))
one_if-same false false h e = e

-- where as many pass both, the same do
how_many-same : (p q : ℕ → Bool) → Implies p q → (n : ℕ) → how_many p n ≡ how_many q n → (u : ℕ) → u < n → q u ≡ true → p u ≡ true
unfolding how_many
how_many-same p q h zero e u l t = absurd (omega arith)
how_many-same p q h (suc n) e u l t =
    let most = how_many-mono p q h n in
    let first = one_if-mono (p n) (q n) (h n) in
    elim (eqb_tells u n) [
      | inl s ↦ subst (λ z. p z ≡ true) (sym s.1) (one_if-same (p n) (q n) (omega arith) (subst (λ z. q z ≡ true) s.1 t))
      | inr s ↦ how_many-same p q h n (omega arith) u (omega (arith, s.1)) t
    ]

how_many-one : (p : ℕ → Bool) (n x : ℕ) → x < n → p x ≡ true → 1 ≤ how_many p n
unfolding how_many
how_many-one p zero x l t = absurd (omega arith)
how_many-one p (suc n) x l t =
    elim (eqb_tells x n) [
      | inl s ↦ omega (arith, ap one_if (subst (λ z. p z ≡ true) s.1 t))
      | inr s ↦ omega (arith, how_many-one p n x (omega (arith, s.1)) t)
    ]

-- a number of steps more
up : ℕ → ℕ → ℕ
up zero n = n
up (suc m) n = suc (up m n)

up-sum : (m n : ℕ) → up m n ≡ m + n
unfolding up
up-sum zero n = omega arith
up-sum (suc m) n = omega (arith, up-sum m n)

up-swapped : (m n : ℕ) → up m n ≡ up n m
up-swapped m n = omega (arith, up-sum m n, up-sum n m)

module _ (k : Kernel) (v : IsLinked k) where
  -- whoever is waited for lives, and so has one of the 64 numbers
  alive-inside : (u : ℕ) → (task_at k u).alive ≡ true → u < 64
  alive-inside u a = by_place (cases_lt u 64)
    where
      by_place : (u < 64) ⊎ (64 ≤ u) → u < 64
      by_place (inl l) = l
      by_place (inr l) = absurd (false≢true (sym (ap (λ (t : Task). t.alive) (get_or_past k.tasks u no_task (omega (arith, v.sizes.tasks, l)))) ∙ a))

  living-inside : (o : Option ℕ) (u : ℕ) → living o k ≡ Some u → u < 64
  living-inside None u e = cc
  living-inside (Some w) u e = by_alive (task_at k w).alive refl e
    where
      by_alive : (b : Bool) → (task_at k w).alive ≡ b → (if b then Some w else None) ≡ Some u → u < 64
      by_alive true a s = let same : w ≡ u = cc in subst (λ z. z < 64) same (alive-inside w a)
      by_alive false a s = cc

  owner-inside : (w : Waiting) (os : List ℕ) (u : ℕ) → owner_for w os k ≡ Some u → u < 64
  owner-inside (Obj MutexPend) (o ∷ os) u e = by_content (object_at k o).content e
    where
      by_content : (c : Content) → owner_in c k ≡ Some u → u < 64
      by_content (Held owner nesting) s = living-inside owner u s
      by_content _ s = cc
  owner-inside _ _ u e = cc

  pub waits_on-inside : (u w : ℕ) → waits_on k u ≡ Some w → w < 64
  waits_on-inside u w e = owner-inside (task_at k u).waiting (task_at k u).objects w e

  -- a task past the last waits for nobody
  past-none : (u : ℕ) → 64 ≤ u → waits_on k u ≡ None
  past-none u l = ap (λ (t : Task). owner_for t.waiting t.objects k) (get_or_past k.tasks u no_task (omega (arith, v.sizes.tasks, l)))

  module _ (x : ℕ) (inside : x < 64) where
    -- from whom x is reached by so many steps at most
    abbrev within : ℕ → ℕ → Bool
    within n u = reaches_by n k x (Some u)

    within-self : (n : ℕ) → within n x ≡ true
    within-self zero = self_equal x
    within-self (suc n) = ap (λ b. b || reaches_by n k x (waits_on k x)) (self_equal x)

    later : (a b c : Bool) → (b ≡ true → c ≡ true) → a || b ≡ true → a || c ≡ true
    later true b c h e = refl
    later false b c h e = h e

    grows : (n : ℕ) (o : Option ℕ) → reaches_by n k x o ≡ true → reaches_by (suc n) k x o ≡ true
    grows zero None h = absurd (false≢true h)
    grows (suc n) None h = absurd (false≢true h)
    grows zero (Some u) h = ap (λ b. b || reaches_by 0 k x (waits_on k u)) h
    grows (suc n) (Some u) h = later (u == x) (reaches_by n k x (waits_on k u)) (reaches_by (suc n) k x (waits_on k u)) (grows n (waits_on k u)) h

    -- one step more reaches x from nobody else
    abbrev IsFull : ℕ → Type 0
    IsFull n = (u : ℕ) → u < 64 → within (suc n) u ≡ true → within n u ≡ true

    full-next : (n : ℕ) → IsFull n → IsFull (suc n)
    full-next n f u l h = by_owner (waits_on k u) refl h
      where
        by_owner : (o : Option ℕ) → waits_on k u ≡ o → (u == x) || reaches_by (suc n) k x o ≡ true → (u == x) || reaches_by n k x o ≡ true
        by_owner None e s = s
        by_owner (Some w) e s = later (u == x) (within (suc n) w) (within n w) (f w (waits_on-inside u w e)) s

    -- each step reaches x from one more, until no further step does
    full_or_more : (n : ℕ) → IsFull n ⊎ (suc n < how_many (within (suc n)) 64)
    full_or_more n = next n (before n)
      where
        next : (m : ℕ) → IsFull m ⊎ (m < how_many (within m) 64) → IsFull m ⊎ (suc m < how_many (within (suc m)) 64)
        next m (inl f) = inl f
        next m (inr l) =
            let most = how_many-mono (within m) (within (suc m)) (λ u. grows m (Some u)) 64 in
            elim (eqb_tells (how_many (within m) 64) (how_many (within (suc m)) 64)) [
              | inl e ↦ inl (how_many-same (within m) (within (suc m)) (λ u. grows m (Some u)) 64 e.1)
              | inr e ↦ inr (omega (arith, e.1))
            ]

        before : (m : ℕ) → IsFull m ⊎ (m < how_many (within m) 64)
        before zero = inr (omega (arith, how_many-one (within 0) 64 x inside (within-self 0)))
        before (suc m) = elim (next m (before m)) [ inl f ↦ inl (full-next m f) | inr l ↦ inr l ]

    full : IsFull 64
    full = elim (full_or_more 64) [ inl f ↦ f | inr l ↦ absurd (omega (arith, how_many-le (within 65) 64)) ]

    full-on : (m : ℕ) → IsFull (up m 64)
    unfolding up
    full-on zero = full
    full-on (suc m) = full-next (up m 64) (full-on m)

    -- so 64 steps are enough
    grows-on : (m n u : ℕ) → within n u ≡ true → within (up m n) u ≡ true
    unfolding up
    grows-on zero n u h = h
    grows-on (suc m) n u h = grows (up m n) (Some u) (grows-on m n u h)

    falls : (m u : ℕ) → u < 64 → within (up m 64) u ≡ true → within 64 u ≡ true
    unfolding up
    falls zero u l h = h
    falls (suc m) u l h = falls m u l (full-on m u l h)

    enough : (n u : ℕ) → u < 64 → within n u ≡ true → within 64 u ≡ true
    enough n u l h = falls n u l (subst (λ m. within m u ≡ true) (up-swapped 64 n) (grows-on 64 n u h))

    -- what the loop finds is what is reached

    reached-within : (n u : ℕ) → within n u ≡ true → IsReached k x u
    reached-within zero u h = subst (λ z. IsReached k x z) (sym (equal u x h)) Here
    reached-within (suc n) u h =
        elim (or_either (u == x) (reaches_by n k x (waits_on k u)) h) [
          | inl e ↦ subst (λ z. IsReached k x z) (sym (equal u x e)) Here
          | inr e ↦ by_owner (waits_on k u) refl (reached-within n) e
        ]
      where
        none : (n : ℕ) → reaches_by n k x None ≡ true → ⊥
        none zero h = false≢true h
        none (suc n) h = false≢true h

        by_owner : (o : Option ℕ) → waits_on k u ≡ o → ((w : ℕ) → within n w ≡ true → IsReached k x w) → reaches_by n k x o ≡ true → IsReached k x u
        by_owner None e rest s = absurd (none n s)
        by_owner (Some w) e rest s = Onward u w e (rest w s)

    steps-reached : (u : ℕ) → IsReached k x u → (n : ℕ) × (within n u ≡ true)
    steps-reached u Here = (0, within-self 0)
    steps-reached u (Onward _ w e r) =
        let s = steps-reached w r in
        (suc s.0, ap (λ o. (u == x) || reaches_by s.0 k x o) e ∙ ap (λ b. (u == x) || b) s.1 ∙ either (u == x))
      where
        either : (b : Bool) → b || true ≡ true
        either true = refl
        either false = refl

    reached-inside : (u : ℕ) → IsReached k x u → u < 64
    reached-inside u Here = inside
    reached-inside u (Onward _ w e r) = by_place (cases_lt u 64)
      where
        by_place : (u < 64) ⊎ (64 ≤ u) → u < 64
        by_place (inl l) = l
        by_place (inr l) = let none = past-none u l in cc

    reaches-reached : (u : ℕ) → IsReached k x u → reaches k u x ≡ true
    reaches-reached u r = let s = steps-reached u r in enough s.0 u (reached-inside u r) s.1

    -- the least of these base priorities

    least-at_most : (us : List ℕ) (u : ℕ) → 0 < count_of u us → reaches k u x ≡ true → least_of x us k ≤ (task_at k u).base
    least-at_most [] u l r = absurd (omega arith)
    least-at_most (w ∷ us) u l r =
        elim (eqb_tells w u) [
          | inl e ↦ subst (λ z. min (if reaches k z x then (task_at k z).base else 63) (least_of x us k) ≤ (task_at k u).base) (sym e.1)
              (omega (arith, ap (λ b. if b then (task_at k u).base else 63) r))
          | inr e ↦ omega (arith, least-at_most us u (omega (arith, l, ap one_if e.0)) r)
        ]

    -- it is the base priority of one of them, or 63
    abbrev IsOf : ℕ → Type 0
    IsOf p = ((u : ℕ) × IsReached k x u × (p ≡ (task_at k u).base)) ⊎ (p ≡ 63)

    least-of_one : (us : List ℕ) → IsOf (least_of x us k)
    least-of_one [] = inr refl
    least-of_one (u ∷ us) = by_reach (reaches k u x) refl (cases_lt (task_at k u).base (least_of x us k)) (least-of_one us)
      where
        by_reach : (b : Bool) → reaches k u x ≡ b → ((task_at k u).base < least_of x us k) ⊎ (least_of x us k ≤ (task_at k u).base) → IsOf (least_of x us k) → IsOf (min (if b then (task_at k u).base else 63) (least_of x us k))
        by_reach true e (inl l) rest = inl (u, reached-within 64 u e, omega (arith, l))
        by_reach true e (inr l) rest = subst IsOf (omega (arith, l)) rest
        by_reach false e l rest =
            elim (cases_lt 63 (least_of x us k)) [
              | inl m ↦ inr (omega (arith, m))
              | inr m ↦ subst IsOf (omega (arith, m)) rest
            ]

    pub least-inherited : (task_at k x).base ≤ 63 → IsLeastBase k x (inherited k x)
    least-inherited few =
        record {
          at_most = bound;
          from_one = elim (least-of_one (numbers 0 64)) [ inl h ↦ h | inr e ↦ (x, Here, omega (arith, e, few, bound x Here)) ];
        }
      where
        bound : (u : ℕ) → IsReached k x u → inherited k x ≤ (task_at k u).base
        bound u r = least-at_most (numbers 0 64) u (numbers-has 0 64 u (omega arith) (omega (arith, reached-inside u r))) (reaches-reached u r)

module _ (k : Kernel) (v : IsLinked k) where
  -- alive or not, an application task, the tick task or the timer task
  pub least-above : (x : ℕ) → IsAboveIdle k.settings.tasks x → IsLeastBase k x (inherited k x)
  least-above x above = least-inherited k v x (inside above) (omega (arith, v.tasks.bases x above))
    where
      inside : IsAboveIdle k.settings.tasks x → x < 64
      inside (inl l) = omega (arith, v.sizes.application, l)
      inside (inr (inl e)) = omega (arith, e)
      inside (inr (inr e)) = omega (arith, e)

  pub least-present : IsInherited k → (x : ℕ) → (x < 60) ⊎ (x ≡ 61) → (task_at k x).alive ≡ true → IsLeastBase k x (prio_of k x)
  least-present i x who a = subst (IsLeastBase k x) (sym (i x who a)) (least-above x (above-living k v x who a))

-- so are the present priorities after a renewal
pub least-renewed : (place : List ℕ → ℕ) (k : Kernel) → IsLinked k → (x : ℕ) → (x < 60) ⊎ (x ≡ 61) → (task_at (renewed place k) x).alive ≡ true → IsLeastBase (renewed place k) x (prio_of (renewed place k) x)
least-renewed place k v = least-present (renewed place k) (linked-renewing place (done k (fine 0)) v) (inherited-renewed place k v)
