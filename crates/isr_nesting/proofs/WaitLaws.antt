-- The interrupts that wait, in the list of all of them.
use Rattle.std.proofs.Common.{◌≡◌, ◌⊎◌, ℕ, zero, suc, ◌+◌, ◌<◌, ◌≤◌, Bool, true, false, not, List, [], ◌∷◌, length, refl, sym, ap, ◌∙◌, subst, arith, inl, inr, Some}
use Rattle.std.specs.Prelude.{is_some, min, nat_le, slice_set, if◌then◌else◌}
use Rattle.std.proofs.lemmas.Bool.{false≢true}
use Rattle.std.proofs.lemmas.Bool.Decides.{eqb_tells, nat_tests}
use Rattle.std.proofs.lemmas.List.{get_or-set_same, get_or-set_other}
use Rattle.kern_model.proofs.Lemmas.{at_most, above}
use Rattle.inject_list.specs.declared.lists.Moment.{Moment}
use Rattle.inject_list.specs.declared.lists.Moment.TheVariants.{Task, Step}
use Rattle.isr_nesting.specs.declared.records.Recorded.{Recorded}
use Rattle.machine_model.specs.Frames.{Interrupt}
use Rattle.isr_nesting.specs.Least.{nothing}
use Rattle.isr_nesting.specs.Nest.{waiting_at, without_number, IsRising}
use Rattle.isr_nesting.specs.Keys.{key, step_key_at, step_key}
use Rattle.isr_nesting.specs.RecordView.{interrupt_in, record_at, has_entered, waiting_from}
use Rattle.isr_nesting.proofs.SplitLaws.{step_key-low}

-- by a test
pub by_test : {P : Type 0} (b : Bool) → (b ≡ true → P) → (b ≡ false → P) → P
by_test true p q = p refl
by_test false p q = q refl

pub rising-from : (m n : ℕ) (ws : List (ℕ × Interrupt)) → m ≤ n → IsRising n ws → IsRising m ws
rising-from m n [] h rise = tt
rising-from m n (w ∷ ws) h (low, small, top, rest) = (omega arith, small, top, rest)

-- the first record waits or does not
pub waits-not : (es : List Bool) (n : ℕ) (r : Recorded) (rs : List Recorded) → has_entered es n ≡ true → waiting_from es n (r ∷ rs) ≡ waiting_from es (n + 1) rs
waits-not es n r rs e = ap (λ b. if b then waiting_from es (n + 1) rs else (n, interrupt_in r) ∷ waiting_from es (n + 1) rs) e

pub waits-first : (es : List Bool) (n : ℕ) (r : Recorded) (rs : List Recorded) → has_entered es n ≡ false → waiting_from es n (r ∷ rs) ≡ (n, interrupt_in r) ∷ waiting_from es (n + 1) rs
waits-first es n r rs e = ap (λ b. if b then waiting_from es (n + 1) rs else (n, interrupt_in r) ∷ waiting_from es (n + 1) rs) e

pub waiting-rising : (es : List Bool) (n : ℕ) (rs : List Recorded) → n + length rs ≤ 16384 → ((i : ℕ) → i < length rs → (record_at rs i).level ≤ 7) → IsRising n (waiting_from es n rs)
waiting-rising es n [] few levels = tt
waiting-rising es n (r ∷ rs) few levels =
    let rest : IsRising (n + 1) (waiting_from es (n + 1) rs) = waiting-rising es (n + 1) rs (omega arith) (λ i h. levels (suc i) (omega arith)) in
    by_test (has_entered es n)
    (λ e. subst (λ ws. IsRising n ws) (sym (waits-not es n r rs e)) (rising-from n (n + 1) (waiting_from es (n + 1) rs) (omega arith) rest))
    (λ e. subst (λ ws. IsRising n ws) (sym (waits-first es n r rs e)) (omega arith, omega arith, levels 0 (omega arith), rest))

-- the interrupt of a number i is the one at k behind the number n
pub record IsFound (es : List Bool) (n : ℕ) (rs : List Recorded) (i k : ℕ) : Type 0 where
  pub number : i ≡ n + k
  pub inside : k < length rs
  pub open_yet : has_entered es i ≡ false
  pub value : waiting_at i (waiting_from es n rs) ≡ Some (interrupt_in (record_at rs k))

pub waiting-found : (es : List Bool) (n : ℕ) (rs : List Recorded) (i : ℕ) → is_some (waiting_at i (waiting_from es n rs)) ≡ true → (k : ℕ) × IsFound es n rs i k
waiting-found es n [] i h = absurd (false≢true h)
waiting-found es n (r ∷ rs) i h =
    let rest = waiting_from es (n + 1) rs in
    let later : is_some (waiting_at i rest) ≡ true → waiting_at i (waiting_from es n (r ∷ rs)) ≡ waiting_at i rest → (k : ℕ) × IsFound es n (r ∷ rs) i k =
    λ found same. let f = waiting-found es (n + 1) rs i found in
    (suc f.0, record { number = omega (arith, f.1.number); inside = omega (arith, f.1.inside); open_yet = f.1.open_yet; value = same ∙ f.1.value }) in
    by_test (has_entered es n)
    (λ e. later (subst (λ ws. is_some (waiting_at i ws) ≡ true) (waits-not es n r rs e) h) (ap (waiting_at i) (waits-not es n r rs e)))
    (λ e. elim (eqb_tells n i) [
      | inl q ↦ (0, record { number = omega (arith, q.1); inside = omega arith; open_yet = subst (λ m. has_entered es m ≡ false) q.1 e; value = ap (waiting_at i) (waits-first es n r rs e) ∙ ap (λ b. if b then Some (interrupt_in r) else waiting_at i rest) q.0 })
      | inr q ↦
          let same : waiting_at i (waiting_from es n (r ∷ rs)) ≡ waiting_at i rest = ap (waiting_at i) (waits-first es n r rs e) ∙ ap (λ b. if b then Some (interrupt_in r) else waiting_at i rest) q.0 in
          later (sym (ap is_some same) ∙ h) same
    ])

-- among all of them
pub record IsWaiting (es : List Bool) (rs : List Recorded) (i : ℕ) : Type 0 where
  pub inside : i < length rs
  pub open_yet : has_entered es i ≡ false
  pub value : waiting_at i (waiting_from es 0 rs) ≡ Some (interrupt_in (record_at rs i))

pub waiting-here : (es : List Bool) (rs : List Recorded) (i : ℕ) (ws : List (ℕ × Interrupt)) → waiting_from es 0 rs ≡ ws → is_some (waiting_at i ws) ≡ true → IsWaiting es rs i
waiting-here es rs i ws view h =
    let f = waiting-found es 0 rs i (subst (λ l. is_some (waiting_at i l) ≡ true) (sym view) h) in
    let same : i ≡ f.0 = f.1.number ∙ omega arith in
    record { inside = omega (arith, same, f.1.inside); open_yet = f.1.open_yet; value = f.1.value ∙ ap (λ k. Some (interrupt_in (record_at rs k))) (sym same) }

-- the one of a number enters
pub waiting-taken : (es : List Bool) (n : ℕ) (rs : List Recorded) (i : ℕ) → i < length es → waiting_from (slice_set es i true) n rs ≡ without_number i (waiting_from es n rs)
waiting-taken es n [] i h = refl
waiting-taken es n (r ∷ rs) i h =
    let now = slice_set es i true in
    let rest : waiting_from now (n + 1) rs ≡ without_number i (waiting_from es (n + 1) rs) = waiting-taken es (n + 1) rs i h in
    elim (eqb_tells n i) [
      | inl q ↦
          let gone : has_entered now n ≡ true = ap (has_entered now) q.1 ∙ get_or-set_same es i true true h in
          waits-not now n r rs gone ∙ rest ∙ by_test (has_entered es n)
          (λ e. ap (without_number i) (sym (waits-not es n r rs e)))
          (λ e. sym (ap (without_number i) (waits-first es n r rs e) ∙ ap (λ b. if not b then (n, interrupt_in r) ∷ without_number i (waiting_from es (n + 1) rs) else without_number i (waiting_from es (n + 1) rs)) q.0))
      | inr q ↦
          let kept : has_entered now n ≡ has_entered es n = get_or-set_other es i n true true q.1 in
          by_test (has_entered es n)
          (λ e. waits-not now n r rs (kept ∙ e) ∙ rest ∙ ap (without_number i) (sym (waits-not es n r rs e)))
          (λ e. waits-first now n r rs (kept ∙ e) ∙ ap (λ ws. (n, interrupt_in r) ∷ ws) rest
          ∙ sym (ap (without_number i) (waits-first es n r rs e) ∙ ap (λ b. if not b then (n, interrupt_in r) ∷ without_number i (waiting_from es (n + 1) rs) else without_number i (waiting_from es (n + 1) rs)) q.0))
    ]

-- an interrupt that waits and whose moment has come is no better than the best
pub step-lower : (s : ℕ) (es : List Bool) (n : ℕ) (rs : List Recorded) (k m : ℕ) → k < length rs → has_entered es (n + k) ≡ false → (record_at rs k).moment ≡ Step m → m ≤ s → step_key s (waiting_from es n rs) ≤ key (record_at rs k).level (n + k)
step-lower s es n [] k m h waits moment come = absurd (omega arith)
step-lower s es n (r ∷ rs) zero m h waits moment come =
    let e : has_entered es n ≡ false = subst (λ i. has_entered es i ≡ false) (omega arith) waits in
    let here : nat_le m s ≡ true = grind (arith, nat_tests) in
    let mine : step_key_at s r.moment (key r.level n) ≡ key r.level n = ap (λ v. step_key_at s v (key r.level n)) moment ∙ ap (λ b. if b then key r.level n else nothing) here in
    let all : step_key s (waiting_from es n (r ∷ rs)) ≡ min (step_key_at s r.moment (key r.level n)) (step_key s (waiting_from es (n + 1) rs)) = ap (step_key s) (waits-first es n r rs e) in
    omega (arith, mine, all)
step-lower s es n (r ∷ rs) (suc k) m h waits moment come =
    let place : n + suc k ≡ n + 1 + k = omega arith in
    let later : step_key s (waiting_from es (n + 1) rs) ≤ key (record_at rs k).level (n + 1 + k) = step-lower s es (n + 1) rs k m (omega arith) (subst (λ i. has_entered es i ≡ false) place waits) moment come in
    by_test (has_entered es n)
    (λ e. let all : step_key s (waiting_from es n (r ∷ rs)) ≡ step_key s (waiting_from es (n + 1) rs) = ap (step_key s) (waits-not es n r rs e) in omega (arith, later, all))
    (λ e. let all : step_key s (waiting_from es n (r ∷ rs)) ≡ min (step_key_at s r.moment (key r.level n)) (step_key s (waiting_from es (n + 1) rs)) = ap (step_key s) (waits-first es n r rs e) in omega (arith, later, all))

-- and the best is one of them
pub record IsStepAt (s : ℕ) (es : List Bool) (n : ℕ) (rs : List Recorded) (best k m : ℕ) : Type 0 where
  pub inside : k < length rs
  pub open_yet : has_entered es (n + k) ≡ false
  pub moment : (record_at rs k).moment ≡ Step m
  pub come : m ≤ s
  pub best_is : best ≡ key (record_at rs k).level (n + k)

step_first : (s : ℕ) (es : List Bool) (n : ℕ) (r : Recorded) (rs : List Recorded) (v : Moment) → r.moment ≡ v → has_entered es n ≡ false → (step_key_at s v (key r.level n) ≡ nothing) ⊎ ((m : ℕ) × IsStepAt s es n (r ∷ rs) (step_key_at s v (key r.level n)) 0 m)
step_first s es n r rs (Task u) moment e = inl refl
step_first s es n r rs (Step u) moment e =
    by_test (nat_le u s)
    (λ q. inr (u, record { inside = omega arith; open_yet = subst (λ i. has_entered es i ≡ false) (omega arith) e; moment = moment; come = grind (arith, nat_tests); best_is = ap (λ b. if b then key r.level n else nothing) q ∙ ap (key r.level) (omega arith) }))
    (λ q. inl (ap (λ b. if b then key r.level n else nothing) q))

step_later : (s : ℕ) (es : List Bool) (n : ℕ) (r : Recorded) (rs : List Recorded) (best : ℕ) → ((best ≡ nothing) ⊎ ((k : ℕ) × ((m : ℕ) × IsStepAt s es (n + 1) rs best k m))) → (best ≡ nothing) ⊎ ((k : ℕ) × ((m : ℕ) × IsStepAt s es n (r ∷ rs) best k m))
step_later s es n r rs best (inl e) = inl e
step_later s es n r rs best (inr f) =
    let k = f.0 in
    let a = f.1.1 in
    let place : n + 1 + k ≡ n + suc k = omega arith in
    inr (suc k, (f.1.0, record { inside = omega (arith, a.inside); open_yet = subst (λ i. has_entered es i ≡ false) place a.open_yet; moment = a.moment; come = a.come; best_is = a.best_is ∙ ap (key (record_at rs k).level) place }))

step_lesser : (s : ℕ) (es : List Bool) (n : ℕ) (rs : List Recorded) (a b : ℕ) → b ≤ nothing → ((a ≡ nothing) ⊎ ((m : ℕ) × IsStepAt s es n rs a 0 m)) → ((b ≡ nothing) ⊎ ((k : ℕ) × ((m : ℕ) × IsStepAt s es n rs b k m))) → (min a b ≡ nothing) ⊎ ((k : ℕ) × ((m : ℕ) × IsStepAt s es n rs (min a b) k m))
step_lesser s es n rs a b low (inl e) g =
    let same : b ≡ min a b = omega arith in
    subst (λ v. (v ≡ nothing) ⊎ ((k : ℕ) × ((m : ℕ) × IsStepAt s es n rs v k m))) same g
step_lesser s es n rs a b low (inr f) g =
    by_test (nat_le a b)
    (λ e. let same : a ≡ min a b = omega (arith, at_most a b e) in inr (0, (f.0, subst (λ v. IsStepAt s es n rs v 0 f.0) same f.1)))
    (λ e. let same : b ≡ min a b = omega (arith, above a b e) in subst (λ v. (v ≡ nothing) ⊎ ((k : ℕ) × ((m : ℕ) × IsStepAt s es n rs v k m))) same g)

pub step-attained : (s : ℕ) (es : List Bool) (n : ℕ) (rs : List Recorded) → (step_key s (waiting_from es n rs) ≡ nothing) ⊎ ((k : ℕ) × ((m : ℕ) × IsStepAt s es n rs (step_key s (waiting_from es n rs)) k m))
step-attained s es n [] = inl refl
step-attained s es n (r ∷ rs) =
    let rest = waiting_from es (n + 1) rs in
    let later : (step_key s rest ≡ nothing) ⊎ ((k : ℕ) × ((m : ℕ) × IsStepAt s es n (r ∷ rs) (step_key s rest) k m)) = step_later s es n r rs (step_key s rest) (step-attained s es (n + 1) rs) in
    by_test (has_entered es n)
    (λ e. subst (λ best. (best ≡ nothing) ⊎ ((k : ℕ) × ((m : ℕ) × IsStepAt s es n (r ∷ rs) best k m))) (sym (ap (step_key s) (waits-not es n r rs e))) later)
    (λ e. subst (λ best. (best ≡ nothing) ⊎ ((k : ℕ) × ((m : ℕ) × IsStepAt s es n (r ∷ rs) best k m))) (sym (ap (step_key s) (waits-first es n r rs e)))
    (step_lesser s es n (r ∷ rs) (step_key_at s r.moment (key r.level n)) (step_key s rest) (step_key-low s rest) (step_first s es n r rs r.moment refl e) later))
