-- What a link of a waiting task does to the kernel's lists of tasks, and which waiters it passes.
use Rattle.std.proofs.Common.{◌≡◌, ℕ, ◌/◌, ◌<◌, List, [], ◌∷◌, take, map, insert, refl, sym, ap, ◌∙◌, arith}
use Rattle.std.specs.Prelude.{slice_set, nat_le}
use Rattle.std.proofs.lemmas.List.{map-set}
use Rattle.std.proofs.lemmas.List.Sums.{take_while-cons}
use Rattle.kern_model.specs.State.{count_of}
use Rattle.kern_model.specs.Micro.{wait_place}
use Rattle.links.specs.Chain.{times, list_at, inserted, left, without}
use Rattle.pend_lists.proofs.Tasks.{map-inserted, map-without}
use Rattle.micro_steps.specs.Halfway.{tasks_in}
use Rattle.micro_steps.proofs.Seen.{list_at-tasks, take-update}
use Rattle.micro_steps.proofs.Wholes.{longer}
use Rattle.link_plans.proofs.Fits.Wakes.{counted}

-- a node leaves as its task does, where no other node of the task stands there
pub seen-left : (k : ℕ) (lists : List (List ℕ)) (o n : ℕ) → ((m : ℕ) → 0 < times m (list_at lists o) → m / 8 ≡ n / 8 → m ≡ n) → take k (tasks_in (left lists o n)) ≡ left (take k (tasks_in lists)) o (n / 8)
seen-left k lists o n alone =
    ap (take k)
    (map-set (map (λ m. m / 8)) lists o (without n (list_at lists o))
    ∙ ap (λ xs. slice_set (tasks_in lists) o xs) (map-without (λ m. m / 8) n (list_at lists o) alone ∙ ap (without (n / 8)) (sym (list_at-tasks lists o))))
    ∙ take-update k (tasks_in lists) o (without (n / 8))

-- a node joins as its task does
pub seen-inserted : (k : ℕ) (lists : List (List ℕ)) (o i n : ℕ) → take k (tasks_in (inserted lists o i n)) ≡ inserted (take k (tasks_in lists)) o i (n / 8)
seen-inserted k lists o i n =
    ap (take k)
    (map-set (map (λ m. m / 8)) lists o (insert (list_at lists o) i n)
    ∙ ap (λ xs. slice_set (tasks_in lists) o xs) (map-inserted (λ m. m / 8) (list_at lists o) i n ∙ ap (λ xs. insert xs i (n / 8)) (sym (list_at-tasks lists o))))
    ∙ take-update k (tasks_in lists) o (λ xs. insert xs i (n / 8))

-- the priorities of those that stand there alone matter
pub place-same : (f g : ℕ → ℕ) (p : ℕ) (xs : List ℕ) → ((y : ℕ) → 0 < count_of y xs → f y ≡ g y) → wait_place f p xs ≡ wait_place g p xs
place-same f g p [] same = refl
place-same f g p (x ∷ xs) same =
    let here : f x ≡ g x = same x (omega (arith, counted x xs)) in
    let rest : wait_place f p xs ≡ wait_place g p xs = place-same f g p xs (λ y some. same y (omega (arith, some))) in
    rw (take_while-cons (λ y. nat_le (f y) p) x xs, take_while-cons (λ y. nat_le (g y) p) x xs, here) (longer (nat_le (g x) p) x x _ _ rest)
