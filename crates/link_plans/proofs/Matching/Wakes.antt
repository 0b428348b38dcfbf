-- The waiters whose condition holds are woken one after another.
use Rattle.std.proofs.Common.{◌≡◌, ℕ, ◌+◌, ◌≤◌, Bool, true, false, List, [], ◌∷◌, Option, Some, None, is_some, refl, sym, ap, ◌∙◌, arith, inl, inr}
use Rattle.std.specs.Prelude.{cond, if◌then◌else◌, ◌==◌, ◌&&◌, ◌||◌, unwrap_or}
use Rattle.std.specs.List.{list_any}
use Rattle.std.proofs.lemmas.Bool.{true≢false}
use Rattle.std.proofs.lemmas.Bool.Decides.{eqb_tells}
use Rattle.kern_base.specs.declared.outcomes.Finished.{Finished}
use Rattle.kern_model.specs.State.{Kernel, Task, task_at, task_in, count_of}
use Rattle.kern_model.specs.Effect.{answered_task, fine, result_of, wakes, wakes_all}
use Rattle.kern_model.specs.FlagBits.{ready_bits}
use Rattle.kern_model.specs.Flags.{flag_wakes, flag_wakes_all}
use Rattle.kern_model.proofs.Lemmas.{update_task_same}
use Rattle.link_plans.specs.Matching.{flag_result, holds_on, matches_woken, matching, tasks_woken}

-- The condition of a wait reads its mask and its option alone.
matching-same : (ts us : List Task) (bits : ℕ) (xs : List ℕ) → ((x : ℕ) → (task_in us x).mask ≡ (task_in ts x).mask) → ((x : ℕ) → (task_in us x).opt ≡ (task_in ts x).opt) → matching us bits xs ≡ matching ts bits xs
matching-same ts us bits [] mask opt = refl
matching-same ts us bits (x ∷ xs) mask opt =
    let rest = matching us bits xs in let u = task_in us x in let t = task_in ts x in
    ap (λ m. cond (is_some (ready_bits bits m u.opt)) (x ∷ rest) rest) (mask x)
    ∙ ap (λ o. cond (is_some (ready_bits bits t.mask o)) (x ∷ rest) rest) (opt x)
    ∙ ap (λ ys. cond (holds_on bits t) (x ∷ ys) ys) (matching-same ts us bits xs mask opt)

pub are_wakes : (bits h : ℕ) (xs : List ℕ) (k : Kernel) → flag_wakes_all bits h xs k ≡ wakes_all (flag_result bits) h (matching k.tasks bits xs) k
are_wakes bits h [] k = refl
are_wakes bits h (x ∷ xs) k = by_ready (λ j. are_wakes bits h xs j) (ready_bits bits (task_at k x).mask (task_at k x).opt) refl
  where
    by_ready : ((j : Kernel) → flag_wakes_all bits h xs j ≡ wakes_all (flag_result bits) h (matching j.tasks bits xs) j) → (r : Option ℕ) → ready_bits bits (task_at k x).mask (task_at k x).opt ≡ r → flag_wakes_all bits h xs (flag_wakes r h x k) ≡ wakes_all (flag_result bits) h (cond (is_some r) (x ∷ matching k.tasks bits xs) (matching k.tasks bits xs)) k
    by_ready rest None e = rest k
    by_ready rest (Some ready) e =
        let t = task_at k x in let f = result_of (fine ready) t in
        let j = wakes f h x k in
        rest j
        ∙ ap (λ ys. wakes_all (flag_result bits) h ys j)
        (matching-same k.tasks j.tasks bits xs (λ y. update_task_same (λ u. u.mask) (answered_task f) (λ u. refl) k.tasks x y) (λ y. update_task_same (λ u. u.opt) (answered_task f) (λ u. refl) k.tasks x y))
        ∙ ap (λ r. wakes_all (flag_result bits) h (matching k.tasks bits xs) (wakes (result_of (fine (unwrap_or r 0)) t) h x k)) (sym e)

-- Beside the lists wakes change the records of tasks and the matches.
pub wakes-change : (f : Task → Finished) (h : ℕ) (xs : List ℕ) (k : Kernel) → (let j : Kernel = wakes_all f h xs k in j ≡ record k { tasks = tasks_woken f xs k.tasks; ready = j.ready; pend = j.pend; matches = matches_woken xs k.matches })
wakes-change f h [] k = refl
wakes-change f h (x ∷ xs) k = wakes-change f h xs (wakes (f (task_at k x)) h x k)

pub matching-change : (bits h : ℕ) (xs : List ℕ) (k : Kernel) → (let j : Kernel = flag_wakes_all bits h xs k in j ≡ record k { tasks = tasks_woken (flag_result bits) (matching k.tasks bits xs) k.tasks; ready = j.ready; pend = j.pend; matches = matches_woken (matching k.tasks bits xs) k.matches })
matching-change bits h xs k =
    let j = flag_wakes_all bits h xs k in
    let ys = matching k.tasks bits xs in
    let is : j ≡ wakes_all (flag_result bits) h ys k = are_wakes bits h xs k in
    is ∙ wakes-change (flag_result bits) h ys k
    ∙ ap (λ (i : Kernel). (let m : Kernel = record k { tasks = tasks_woken (flag_result bits) ys k.tasks; ready = i.ready; pend = i.pend; matches = matches_woken ys k.matches } in m)) (sym is)

-- none stands more often among them
pub matching-count : (ts : List Task) (bits x : ℕ) (xs : List ℕ) → count_of x (matching ts bits xs) ≤ count_of x xs
matching-count ts bits x [] = omega arith
matching-count ts bits x (y ∷ ys) = by_test (matching-count ts bits x ys) (holds_on bits (task_in ts y))
  where
    by_test : count_of x (matching ts bits ys) ≤ count_of x ys → (b : Bool) → count_of x (cond b (y ∷ matching ts bits ys) (matching ts bits ys)) ≤ (if y == x then 1 else 0) + count_of x ys
    by_test rest true = omega (arith, rest)
    by_test rest false = omega (arith, rest)

-- x is among them where it is looked at and its condition holds
pub any-matching : (ts : List Task) (bits x : ℕ) (xs : List ℕ) → list_any (λ y. y == x) (matching ts bits xs) ≡ (list_any (λ y. y == x) xs && holds_on bits (task_in ts x))
any-matching ts bits x [] = refl
any-matching ts bits x (y ∷ ys) =
    one (holds_on bits (task_in ts y)) (matching ts bits ys)
    ∙ both (holds_on bits (task_in ts y)) (y == x) (holds_on bits (task_in ts x)) (list_any (λ z. z == x) (matching ts bits ys)) (list_any (λ z. z == x) ys) same (any-matching ts bits x ys)
  where
    one : (b : Bool) (zs : List ℕ) → list_any (λ z. z == x) (cond b (y ∷ zs) zs) ≡ ((b && (y == x)) || list_any (λ z. z == x) zs)
    one true zs = refl
    one false zs = refl

    same : (y == x) ≡ true → holds_on bits (task_in ts y) ≡ holds_on bits (task_in ts x)
    same is =
        elim (eqb_tells y x) [
          | inl e ↦ ap (λ z. holds_on bits (task_in ts z)) e.1
          | inr e ↦ absurd (true≢false (sym is ∙ e.0))
        ]

    and_false : (b : Bool) → (b && false) ≡ false
    and_false true = refl
    and_false false = refl

    both : (b c holds among those : Bool) → (c ≡ true → b ≡ holds) → among ≡ (those && holds) → ((b && c) || among) ≡ ((c || those) && holds)
    both true true true among those f g = refl
    both true true false among those f g = absurd (true≢false (f refl))
    both false true true among those f g = absurd (true≢false (sym (f refl)))
    both false true false among those f g = g ∙ and_false those
    both true false holds among those f g = g
    both false false holds among those f g = g
