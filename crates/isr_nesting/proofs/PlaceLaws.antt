-- The keys at their places: the best of those whose moment has come, and what stays true once one enters.
use Rattle.std.proofs.Common.{◌≡◌, ◌≢◌, ℕ, ◌+◌, ◌%◌, ◌<◌, ◌≤◌, Bool, true, false, List, length, take, refl, sym, ap, ◌∙◌, subst, arith, inl, inr}
use Rattle.std.specs.Prelude.{nat_le, slice_index, slice_set}
use Rattle.std.proofs.lemmas.Bool.{true≢false}
use Rattle.std.proofs.lemmas.Bool.Decides.{eqb_tells}
use Rattle.std.proofs.lemmas.List.{get_or-set_same, get_or-set_other, length-set}
use Rattle.kern_model.proofs.Lemmas.{at_most, above}
use Rattle.inject_list.specs.declared.lists.Moment.TheVariants.{Step}
use Rattle.isr_nesting.specs.declared.records.Recorded.{Recorded}
use Rattle.machine_model.specs.Due.{is_step}
use Rattle.isr_nesting.specs.Least.{nothing, least}
use Rattle.isr_nesting.specs.Keys.{key, step_key}
use Rattle.isr_nesting.specs.Kept.{WaitsAt, HasPlaces, IsPassed}
use Rattle.isr_nesting.specs.RecordView.{record_at, has_entered, waiting_from, task_numbers}
use Rattle.isr_nesting.proofs.KeyLaws.{key-number, key-small}
use Rattle.isr_nesting.proofs.TreeLaws.{least-low}
use Rattle.isr_nesting.proofs.SplitLaws.{step_key-low}
use Rattle.isr_nesting.proofs.WaitLaws.{by_test, step-lower, step-attained}
use Rattle.isr_nesting.proofs.PrefixLaws.{prefix-lower, prefix-attained}
use Rattle.isr_nesting.proofs.TaskLaws.{task-member}

same_least : (a b : ℕ) → a ≤ b → b ≤ a → a ≡ b
same_least a b h k = omega arith

-- the least of the first keys is the best of those whose moment has come, where those come first
pub least-best : (rs : List Recorded) (es : List Bool) (ps ms ks : List ℕ) (s come : ℕ) → length ms ≡ length ks → HasPlaces rs es ps ms ks
    → ((j : ℕ) → j < come → j < length ms → slice_index ms j ≤ s) → ((j : ℕ) → come ≤ j → j < length ms → s < slice_index ms j)
    → least (take come ks) ≡ step_key s (waiting_from es 0 rs)
least-best rs es ps ms ks s come size places early late = same_least best wanted left right
  where
    best : ℕ
    best = least (take come ks)

    wanted : ℕ
    wanted = step_key s (waiting_from es 0 rs)

    left : best ≤ wanted
    left =
        elim (step-attained s es 0 rs) [
          | inl e ↦ omega (arith, least-low (take come ks), e)
          | inr f ↦
              let k = f.0 in
              let m = f.1.0 in
              let a = f.1.1 in
              let same : 0 + k ≡ k = omega arith in
              let st = places.stands k m a.inside (subst (λ i. has_entered es i ≡ false) same a.open_yet) a.moment in
              let j = slice_index ps k in
              let first : j < come = by_test (nat_le come j) (λ q. let past : s < slice_index ms j = late j (at_most come j q) st.inside in absurd (omega (arith, past, st.moment, a.come))) (λ q. above come j q) in
              let low : best ≤ slice_index ks j = prefix-lower come ks j first (omega (arith, st.inside, size)) in
              let mine : wanted ≡ key (record_at rs k).level k = a.best_is ∙ ap (key (record_at rs k).level) same in
              omega (arith, low, mine, st.key_here)
        ]

    right : wanted ≤ best
    right =
        elim (prefix-attained come ks) [
          | inl e ↦ omega (arith, step_key-low s (waiting_from es 0 rs), e)
          | inr f ↦
              let j = f.0 in
              let a = f.1 in
              elim (places.only j a.inside) [
                | inl q ↦ omega (arith, step_key-low s (waiting_from es 0 rs), a.best_is, q)
                | inr st ↦
                    let i = slice_index ks j % 16384 in
                    let same : 0 + i ≡ i = omega arith in
                    let low : wanted ≤ key (record_at rs i).level (0 + i) = step-lower s es 0 rs i (slice_index ms j) st.number (subst (λ n. has_entered es n ≡ false) (sym same) st.waits) st.step (early j a.before st.inside) in
                    let mine : key (record_at rs i).level (0 + i) ≡ slice_index ks j = ap (key (record_at rs i).level) same ∙ sym st.key_here in
                    omega (arith, low, mine, a.best_is)
              ]
        ]

-- where the first that has a key comes later, none has come
pub none-come : (rs : List Recorded) (es : List Bool) (ps ms ks : List ℕ) (s first : ℕ) → length rs ≤ 16384 → HasPlaces rs es ps ms ks → ((i j : ℕ) → i ≤ j → j < length ms → slice_index ms i ≤ slice_index ms j)
    → ((j : ℕ) → j < first → slice_index ks j ≡ nothing) → (first < length ms → s < slice_index ms first) → step_key s (waiting_from es 0 rs) ≡ nothing
none-come rs es ps ms ks s first few places sorted gone later =
    elim (step-attained s es 0 rs) [
      | inl e ↦ e
      | inr f ↦
          let k = f.0 in
          let a = f.1.1 in
          let same : 0 + k ≡ k = omega arith in
          let st = places.stands k f.1.0 a.inside (subst (λ i. has_entered es i ≡ false) same a.open_yet) a.moment in
          let j = slice_index ps k in
          by_test (nat_le first j)
          (λ q. let past = later (omega (arith, at_most first j q, st.inside)) in let order = sorted first j (at_most first j q) st.inside in absurd (omega (arith, past, order, st.moment, a.come)))
          (λ q. let none = gone j (above first j q) in let small = key-small (record_at rs k).level k (omega (arith, st.number)) in absurd (omega (arith, none, small, st.key_here)))
    ]

pub gone-set : (ks : List ℕ) (p first : ℕ) → p < length ks → ((j : ℕ) → j < first → slice_index ks j ≡ nothing) → (j : ℕ) → j < first → slice_index (slice_set ks p nothing) j ≡ nothing
gone-set ks p first inside gone j h =
    elim (eqb_tells j p) [
      | inl q ↦ ap (slice_index (slice_set ks p nothing)) q.1 ∙ get_or-set_same ks p nothing 0 inside
      | inr q ↦ get_or-set_other ks p j nothing 0 q.1 ∙ gone j h
    ]

-- one that has entered has entered once another has, and one that has not is another
pub entered-kept : (es : List Bool) (i x : ℕ) → i < length es → has_entered es x ≡ true → has_entered (slice_set es i true) x ≡ true
entered-kept es i x h e =
    elim (eqb_tells x i) [
      | inl q ↦ ap (has_entered (slice_set es i true)) q.1 ∙ get_or-set_same es i true true h
      | inr q ↦ get_or-set_other es i x true true q.1 ∙ e
    ]

pub waits-other : (es : List Bool) (i x : ℕ) → i < length es → has_entered (slice_set es i true) x ≡ false → x ≢ i
waits-other es i x h e = λ q. true≢false (sym (ap (has_entered (slice_set es i true)) q ∙ get_or-set_same es i true true h) ∙ e)

pub waits-still : (es : List Bool) (i x : ℕ) → x ≢ i → has_entered (slice_set es i true) x ≡ has_entered es x
waits-still es i x h = get_or-set_other es i x true true h

module _ (rs : List Recorded) (es : List Bool) (ps ms ks : List ℕ) where
  -- an interrupt stands where it stood
  stands_kept : (es' : List Bool) (ks' : List ℕ) (i m j : ℕ) → WaitsAt rs es ps ms ks i m j → has_entered es' i ≡ false → slice_index ks' j ≡ slice_index ks j → WaitsAt rs es' ps ms ks' i m j
  stands_kept es' ks' i m j st open_yet same =
      record { number = st.number; waits = open_yet; step = st.step; place = st.place; inside = st.inside; moment = st.moment; key_here = same ∙ st.key_here }

  -- two that wait stand at two places
  apart : (i m n x : ℕ) → length rs ≤ 16384 → WaitsAt rs es ps ms ks i m (slice_index ps i) → WaitsAt rs es ps ms ks x n (slice_index ps x) → x ≢ i → slice_index ps x ≢ slice_index ps i
  apart i m n x few a b other = λ q.
      let one : key (record_at rs x).level x ≡ key (record_at rs i).level i = sym b.key_here ∙ ap (slice_index ks) q ∙ a.key_here in
      other (sym (key-number (record_at rs x).level x (omega (arith, b.number))) ∙ ap (λ k. k % 16384) one ∙ key-number (record_at rs i).level i (omega (arith, a.number)))

  -- one enters whose moment is in raw steps: there is none at its place any more
  pub places-step : (i m : ℕ) → length rs ≤ 16384 → length ms ≡ length ks → i < length rs → i < length es → has_entered es i ≡ false → (record_at rs i).moment ≡ Step m → HasPlaces rs es ps ms ks
      → HasPlaces rs (slice_set es i true) ps ms (slice_set ks (slice_index ps i) nothing)
  places-step i m few size inside room open_yet step places =
      let p = slice_index ps i in
      let mine : WaitsAt rs es ps ms ks i m p = places.stands i m inside open_yet step in
      let now = slice_set es i true in
      let keys = slice_set ks p nothing in
      record {
        stands = λ x n number waits moment.
            let other : x ≢ i = waits-other es i x room waits in
            let st : WaitsAt rs es ps ms ks x n (slice_index ps x) = places.stands x n number (sym (waits-still es i x other) ∙ waits) moment in
            stands_kept now keys x n (slice_index ps x) st waits (get_or-set_other ks p (slice_index ps x) nothing 0 (apart i m n x few mine st other));
        only = λ j h.
            elim (eqb_tells j p) [
              | inl q ↦ inl (ap (slice_index keys) q.1 ∙ get_or-set_same ks p nothing 0 (omega (arith, mine.inside)))
              | inr q ↦
                  let same : slice_index keys j ≡ slice_index ks j = get_or-set_other ks p j nothing 0 q.1 in
                  elim (places.only j (omega (arith, h, length-set ks p nothing))) [
                    | inl e ↦ inl (same ∙ e)
                    | inr st ↦
                        let x = slice_index ks j % 16384 in
                        let other : x ≢ i = λ e. q.1 (sym st.place ∙ ap (slice_index ps) e) in
                        inr (subst (λ k. WaitsAt rs now ps ms keys (k % 16384) (slice_index ms j) j) (sym same)
                        (stands_kept now keys x (slice_index ms j) j st (waits-still es i x other ∙ st.waits) same))
                  ]
            ];
      }

  -- one enters whose moment is in task steps: all others stand where they stood
  pub places-task : (i : ℕ) → i < length es → is_step (record_at rs i).moment ≡ false → HasPlaces rs es ps ms ks → HasPlaces rs (slice_set es i true) ps ms ks
  places-task i room task places =
      let now = slice_set es i true in
      record {
        stands = λ x n number waits moment.
            let other : x ≢ i = waits-other es i x room waits in
            stands_kept now ks x n (slice_index ps x) (places.stands x n number (sym (waits-still es i x other) ∙ waits) moment) waits refl;
        only = λ j h.
            elim (places.only j h) [
              | inl e ↦ inl e
              | inr st ↦
                  let x = slice_index ks j % 16384 in
                  let other : x ≢ i = λ e. true≢false (sym (ap is_step st.step) ∙ ap (λ n. is_step (record_at rs n).moment) e ∙ task) in
                  inr (stands_kept now ks x (slice_index ms j) j st (waits-still es i x other ∙ st.waits) refl)
            ];
      }

-- the j-th number is that of an interrupt whose moment is in task steps
pub task-number : (rs : List Recorded) (j : ℕ) → j < length (task_numbers 0 rs) → (slice_index (task_numbers 0 rs) j < length rs) × (is_step (record_at rs (slice_index (task_numbers 0 rs) j)).moment ≡ false)
task-number rs j h =
    let f = task-member 0 rs j h in
    let same : slice_index (task_numbers 0 rs) j ≡ f.0 = f.1.number ∙ omega arith in
    (omega (arith, same, f.1.inside), ap (λ n. is_step (record_at rs n).moment) same ∙ f.1.task)

-- one enters whose moment is in raw steps: the numbers of the others are passed as before
pub passed-step : (rs : List Recorded) (es : List Bool) (next i : ℕ) → i < length es → is_step (record_at rs i).moment ≡ true → IsPassed es (task_numbers 0 rs) next → IsPassed (slice_set es i true) (task_numbers 0 rs) next
passed-step rs es next i room step p =
    record {
      passed = λ j h. entered-kept es i (slice_index (task_numbers 0 rs) j) room (p.passed j h);
      open_yet = λ h.
          let other : slice_index (task_numbers 0 rs) next ≢ i = λ e. true≢false (sym step ∙ sym (ap (λ n. is_step (record_at rs n).moment) e) ∙ (task-number rs next h).1) in
          waits-still es i (slice_index (task_numbers 0 rs) next) other ∙ p.open_yet h;
    }
