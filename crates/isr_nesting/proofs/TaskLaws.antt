-- The first interrupt that waits and whose moment is in task steps.
use Rattle.std.proofs.Common.{◌≡◌, ℕ, zero, suc, ◌+◌, ◌<◌, ◌≤◌, Bool, true, false, List, [], ◌∷◌, length, refl, ap, ◌∙◌, subst, arith}
use Rattle.std.specs.Prelude.{slice_index, nat_le, nat_lt, if◌then◌else◌}
use Rattle.std.proofs.lemmas.Bool.Decides.{nat_tests}
use Rattle.std.proofs.lemmas.Bool.{false≢true, true≢false}
use Rattle.inject_list.specs.declared.lists.Moment.{Moment}
use Rattle.inject_list.specs.declared.lists.Moment.TheVariants.{Task, Step}
use Rattle.isr_nesting.specs.declared.records.Recorded.{Recorded}
use Rattle.machine_model.specs.Due.{is_step}
use Rattle.isr_nesting.specs.Least.{nothing}
use Rattle.isr_nesting.specs.Keys.{key, task_key_at, task_key}
use Rattle.isr_nesting.specs.Kept.{IsPassed}
use Rattle.isr_nesting.specs.RecordView.{record_at, has_entered, waiting_from, task_numbers}
use Rattle.isr_nesting.proofs.WaitLaws.{by_test, waits-not, waits-first}

-- the numbers begin with the first one, or with those behind it
pub tasks-skip : (n : ℕ) (r : Recorded) (rs : List Recorded) → is_step r.moment ≡ true → task_numbers n (r ∷ rs) ≡ task_numbers (n + 1) rs
tasks-skip n r rs e = ap (λ b. if b then task_numbers (n + 1) rs else n ∷ task_numbers (n + 1) rs) e

pub tasks-first : (n : ℕ) (r : Recorded) (rs : List Recorded) → is_step r.moment ≡ false → task_numbers n (r ∷ rs) ≡ n ∷ task_numbers (n + 1) rs
tasks-first n r rs e = ap (λ b. if b then task_numbers (n + 1) rs else n ∷ task_numbers (n + 1) rs) e

-- the j-th of the numbers is that of an interrupt whose moment is in task steps
pub record IsTaskAt (n : ℕ) (rs : List Recorded) (j k : ℕ) : Type 0 where
  pub number : slice_index (task_numbers n rs) j ≡ n + k
  pub inside : k < length rs
  pub task : is_step (record_at rs k).moment ≡ false

task_later : (n : ℕ) (r : Recorded) (rs : List Recorded) (i j : ℕ) → slice_index (task_numbers n (r ∷ rs)) i ≡ slice_index (task_numbers (n + 1) rs) j → (k : ℕ) × IsTaskAt (n + 1) rs j k → (k : ℕ) × IsTaskAt n (r ∷ rs) i k
task_later n r rs i j same f = (suc f.0, record { number = same ∙ f.1.number ∙ omega arith; inside = omega (arith, f.1.inside); task = f.1.task })

pub task-member : (n : ℕ) (rs : List Recorded) (j : ℕ) → j < length (task_numbers n rs) → (k : ℕ) × IsTaskAt n rs j k
task-member n [] j h = absurd (omega arith)
task-member n (r ∷ rs) zero h =
    by_test (is_step r.moment)
    (λ e. let same = tasks-skip n r rs e in
    task_later n r rs 0 0 (ap (λ l. slice_index l 0) same) (task-member (n + 1) rs 0 (subst (λ l. 0 < length l) same h)))
    (λ e. (0, record { number = ap (λ l. slice_index l 0) (tasks-first n r rs e) ∙ omega arith; inside = omega arith; task = e }))
task-member n (r ∷ rs) (suc j) h =
    by_test (is_step r.moment)
    (λ e. let same = tasks-skip n r rs e in
    task_later n r rs (suc j) (suc j) (ap (λ l. slice_index l (suc j)) same) (task-member (n + 1) rs (suc j) (subst (λ l. suc j < length l) same h)))
    (λ e. let same = tasks-first n r rs e in
    task_later n r rs (suc j) j (ap (λ l. slice_index l (suc j)) same) (task-member (n + 1) rs j (less_tail j n (task_numbers (n + 1) rs) (subst (λ l. suc j < length l) same h))))
  where
    less_tail : (j x : ℕ) (xs : List ℕ) → suc j < length (x ∷ xs) → j < length xs
    less_tail j x xs h = omega arith

step-passes : (t : ℕ) (m : Moment) (k rest : ℕ) → is_step m ≡ true → task_key_at t m k rest ≡ rest
step-passes t (Task u) k rest e = absurd (false≢true e)
step-passes t (Step u) k rest e = refl

task-stops : (t : ℕ) (m : Moment) (k rest : ℕ) → is_step m ≡ false → task_key_at t m k rest ≡ task_key_at t m k nothing
task-stops t (Task u) k rest e = refl
task-stops t (Step u) k rest e = absurd (true≢false e)

-- an interrupt whose moment is in raw steps does not count
task_skip : (t : ℕ) (es : List Bool) (n : ℕ) (r : Recorded) (rs : List Recorded) → is_step r.moment ≡ true → task_key t (waiting_from es n (r ∷ rs)) ≡ task_key t (waiting_from es (n + 1) rs)
task_skip t es n r rs e =
    by_test (has_entered es n)
    (λ q. ap (task_key t) (waits-not es n r rs q))
    (λ q. ap (task_key t) (waits-first es n r rs q) ∙ step-passes t r.moment (key r.level n) (task_key t (waiting_from es (n + 1) rs)) e)

pub passed-tail : (es : List Bool) (n : ℕ) (ts : List ℕ) (next : ℕ) → IsPassed es (n ∷ ts) (suc next) → IsPassed es ts next
passed-tail es n ts next p = record { passed = λ j h. p.passed (suc j) (omega arith); open_yet = λ h. p.open_yet (omega arith) }

-- where all of them have entered, there is none
pub task-none : (t : ℕ) (es : List Bool) (n : ℕ) (rs : List Recorded) (next : ℕ) → IsPassed es (task_numbers n rs) next → length (task_numbers n rs) ≤ next → task_key t (waiting_from es n rs) ≡ nothing
task-none t es n [] next p h = refl
task-none t es n (r ∷ rs) zero p h =
    by_test (is_step r.moment)
    (λ e. let same = tasks-skip n r rs e in
    task_skip t es n r rs e ∙ task-none t es (n + 1) rs 0 (subst (λ l. IsPassed es l 0) same p) (subst (λ l. length l ≤ 0) same h))
    (λ e. absurd (no_room n (task_numbers (n + 1) rs) (subst (λ l. length l ≤ 0) (tasks-first n r rs e) h)))
  where
    no_room : (x : ℕ) (xs : List ℕ) → length (x ∷ xs) ≤ 0 → ⊥
    no_room x xs h = omega arith
task-none t es n (r ∷ rs) (suc next) p h =
    by_test (is_step r.moment)
    (λ e. let same = tasks-skip n r rs e in
    task_skip t es n r rs e ∙ task-none t es (n + 1) rs (suc next) (subst (λ l. IsPassed es l (suc next)) same p) (subst (λ l. length l ≤ suc next) same h))
    (λ e. let same = tasks-first n r rs e in
    let q : IsPassed es (n ∷ task_numbers (n + 1) rs) (suc next) = subst (λ l. IsPassed es l (suc next)) same p in
    ap (task_key t) (waits-not es n r rs (q.passed 0 (omega arith)))
    ∙ task-none t es (n + 1) rs next (passed-tail es n (task_numbers (n + 1) rs) next q) (room n (task_numbers (n + 1) rs) next (subst (λ l. length l ≤ suc next) same h)))
  where
    room : (x : ℕ) (xs : List ℕ) (m : ℕ) → length (x ∷ xs) ≤ suc m → length xs ≤ m
    room x xs m h = omega arith

-- else it is the first that has not
pub record IsFirstTask (t : ℕ) (es : List Bool) (n : ℕ) (rs : List Recorded) (next k : ℕ) : Type 0 where
  pub number : slice_index (task_numbers n rs) next ≡ n + k
  pub inside : k < length rs
  pub value : task_key t (waiting_from es n rs) ≡ task_key_at t (record_at rs k).moment (key (record_at rs k).level (n + k)) nothing

first_later : (t : ℕ) (es : List Bool) (n : ℕ) (r : Recorded) (rs : List Recorded) (i j : ℕ) → slice_index (task_numbers n (r ∷ rs)) i ≡ slice_index (task_numbers (n + 1) rs) j → task_key t (waiting_from es n (r ∷ rs)) ≡ task_key t (waiting_from es (n + 1) rs) → (k : ℕ) × IsFirstTask t es (n + 1) rs j k → (k : ℕ) × IsFirstTask t es n (r ∷ rs) i k
first_later t es n r rs i j same value f =
    let k = f.0 in
    let place : n + 1 + k ≡ n + suc k = omega arith in
    (suc k, record { number = same ∙ f.1.number ∙ place; inside = omega (arith, f.1.inside); value = value ∙ f.1.value ∙ ap (λ i. task_key_at t (record_at rs k).moment (key (record_at rs k).level i) nothing) place })

pub task-first : (t : ℕ) (es : List Bool) (n : ℕ) (rs : List Recorded) (next : ℕ) → IsPassed es (task_numbers n rs) next → next < length (task_numbers n rs) → (k : ℕ) × IsFirstTask t es n rs next k
task-first t es n [] next p h = absurd (omega arith)
task-first t es n (r ∷ rs) zero p h =
    by_test (is_step r.moment)
    (λ e. let same = tasks-skip n r rs e in
    first_later t es n r rs 0 0 (ap (λ l. slice_index l 0) same) (task_skip t es n r rs e) (task-first t es (n + 1) rs 0 (subst (λ l. IsPassed es l 0) same p) (subst (λ l. 0 < length l) same h)))
    (λ e. let same = tasks-first n r rs e in
    let q : IsPassed es (n ∷ task_numbers (n + 1) rs) 0 = subst (λ l. IsPassed es l 0) same p in
    let place : n ≡ n + 0 = omega arith in (
      0,
      record {
        number = ap (λ l. slice_index l 0) same ∙ place;
        inside = omega arith;
        value = ap (task_key t) (waits-first es n r rs (q.open_yet (omega arith)))
            ∙ task-stops t r.moment (key r.level n) (task_key t (waiting_from es (n + 1) rs)) e
            ∙ ap (λ i. task_key_at t r.moment (key r.level i) nothing) place;
      },
    ))
task-first t es n (r ∷ rs) (suc next) p h =
    by_test (is_step r.moment)
    (λ e. let same = tasks-skip n r rs e in
    first_later t es n r rs (suc next) (suc next) (ap (λ l. slice_index l (suc next)) same) (task_skip t es n r rs e) (task-first t es (n + 1) rs (suc next) (subst (λ l. IsPassed es l (suc next)) same p) (subst (λ l. suc next < length l) same h)))
    (λ e. let same = tasks-first n r rs e in
    let q : IsPassed es (n ∷ task_numbers (n + 1) rs) (suc next) = subst (λ l. IsPassed es l (suc next)) same p in
    first_later t es n r rs (suc next) next (ap (λ l. slice_index l (suc next)) same) (ap (task_key t) (waits-not es n r rs (q.passed 0 (omega arith))))
    (task-first t es (n + 1) rs next (passed-tail es n (task_numbers (n + 1) rs) next q) (room n (task_numbers (n + 1) rs) next (subst (λ l. suc next < length l) same h))))
  where
    room : (x : ℕ) (xs : List ℕ) (m : ℕ) → suc m < length (x ∷ xs) → m < length xs
    room x xs m h = omega arith

late_by : (x t : ℕ) → t < x → nat_le x t ≡ false
late_by x t h = grind (arith, nat_tests)

-- before its moment it is not due
late : (t bound k : ℕ) (m : Moment) → ((x : ℕ) → m ≡ Task x → bound ≤ x) → t < bound → task_key_at t m k nothing ≡ nothing
late t bound k (Task x) h l = let early : nat_le x t ≡ false = late_by x t (omega (arith, h x refl, l)) in rw early refl
late t bound k (Step x) h l = refl

pub task-early : (t : ℕ) (es : List Bool) (rs : List Recorded) (ts : List ℕ) (next bound : ℕ) → ts ≡ task_numbers 0 rs → IsPassed es ts next → ((x : ℕ) → next < length ts → (record_at rs (slice_index ts next)).moment ≡ Task x → bound ≤ x) → t < bound → task_key t (waiting_from es 0 rs) ≡ nothing
task-early t es rs ts next bound tasks passed moment l =
    let p : IsPassed es (task_numbers 0 rs) next = subst (λ q. IsPassed es q next) tasks passed in
    let size : length ts ≡ length (task_numbers 0 rs) = ap length tasks in
    by_test (nat_lt next (length (task_numbers 0 rs)))
    (λ e. let room : next < length (task_numbers 0 rs) = inside next (length (task_numbers 0 rs)) e in
    let f = task-first t es 0 rs next p room in
    let place : slice_index ts next ≡ f.0 = ap (λ q. slice_index q next) tasks ∙ f.1.number ∙ omega arith in
    f.1.value ∙ late t bound (key (record_at rs f.0).level (0 + f.0)) (record_at rs f.0).moment
    (λ x same. moment x (omega (arith, room, size)) (ap (λ i. (record_at rs i).moment) place ∙ same)) l)
    (λ e. task-none t es 0 rs next p (past next (length (task_numbers 0 rs)) e))
  where
    inside : (a b : ℕ) → nat_lt a b ≡ true → a < b
    inside a b e = grind (arith, nat_tests)

    past : (a b : ℕ) → nat_lt a b ≡ false → b ≤ a
    past a b e = grind (arith, nat_tests)

-- what is read at a place of a list is what stands there
pub kept-step : (l ms : List ℕ) (at r : ℕ) → l ≡ ms → (at < length l → r ≡ slice_index l at) → at < length ms → r ≤ slice_index ms at
kept-step l ms at r e f h = let same : r ≡ slice_index ms at = subst (λ q. at < length q → r ≡ slice_index q at) e f h in omega (arith, same)

pub kept-task : (l rs : List Recorded) (q ts : List ℕ) (at r : ℕ) → l ≡ rs → q ≡ ts → ((m : ℕ) → at < length q → (record_at l (slice_index q at)).moment ≡ Task m → r ≤ m) → (m : ℕ) → at < length ts → (record_at rs (slice_index ts at)).moment ≡ Task m → r ≤ m
kept-task l rs q ts at r e d f =
    subst (λ (x : List ℕ). (m : ℕ) → at < length x → (record_at rs (slice_index x at)).moment ≡ Task m → r ≤ m) d
    (subst (λ (x : List Recorded). (m : ℕ) → at < length q → (record_at x (slice_index q at)).moment ≡ Task m → r ≤ m) e f)
