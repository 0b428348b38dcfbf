use Rattle.std.proofs.Common.{◌≡◌, ◌∙◌, ℕ, ◌+◌, ◌<◌, ◌≤◌, Bool, true, false, ap, sym, subst, length, List, get_or, arith}
use Rattle.std.specs.Prelude.{slice_index, nat_le, if◌then◌else◌}
use Rattle.std.proofs.lemmas.List.{get_or_default}
use Rattle.std.proofs.lemmas.Bool.Decides.{nat_tests}
use Rattle.isr_nesting.specs.declared.records.Recorded.{Recorded}
use Rattle.machine_model.specs.Frames.{Interrupt}
use Rattle.isr_nesting.specs.Least.{nothing}
use Rattle.isr_nesting.specs.Keys.{key, task_key, task_key_at}
use Rattle.isr_nesting.specs.Kept.{IsPassed}
use Rattle.isr_nesting.specs.RecordView.{record_at, no_record, waiting_from, task_numbers}
use Rattle.isr_nesting.proofs.TaskLaws.{task-none, task-first}
use Rattle.isr_nesting.proofs.waits.Waiting.task_key.Goals as goal

come_by : (m t : ℕ) → m ≤ t → nat_le m t ≡ true
come_by m t h = grind (arith, nat_tests)

late_by : (m t : ℕ) → t < m → nat_le m t ≡ false
late_by m t h = grind (arith, nat_tests)

-- the first that waits is the one of the number that was read
record IsRead (t : ℕ) (es : List Bool) (rs : List Recorded) (ws : List (ℕ × Interrupt)) (number : ℕ) (r : Recorded) : Type 0 where
  inside : number < length rs
  read : r ≡ record_at rs number
  value : task_key t ws ≡ task_key_at t r.moment (key r.level number) nothing

read_first : (t : ℕ) (es : List Bool) (rs : List Recorded) (ts : List ℕ) (next : ℕ) (ws : List (ℕ × Interrupt)) (number : ℕ) (r : Recorded) → waiting_from es 0 rs ≡ ws → ts ≡ task_numbers 0 rs → IsPassed es ts next → next < length ts → number ≡ get_or ts next number → r ≡ get_or rs number r → IsRead t es rs ws number r
read_first t es rs ts next ws number r view tasks passed h n e =
    let room : next < length (task_numbers 0 rs) = omega (arith, ap length tasks) in
    let f = task-first t es 0 rs next (subst (λ l. IsPassed es l next) tasks passed) room in
    let same : number ≡ f.0 = n ∙ get_or_default ts next number 0 h ∙ ap (λ l. slice_index l next) tasks ∙ f.1.number ∙ omega arith in
    let inside : number < length rs = omega (arith, same, f.1.inside) in
    let read : r ≡ record_at rs number = e ∙ get_or_default rs number r no_record inside in
    let place : 0 + f.0 ≡ number = omega (arith, same) in
    let one : record_at rs f.0 ≡ r = ap (record_at rs) (sym same) ∙ sym read in
    record {
      inside = inside;
      read = read;
      value = ap (task_key t) (sym view) ∙ f.1.value
          ∙ ap (λ i. task_key_at t (record_at rs f.0).moment (key (record_at rs f.0).level i) nothing) place
          ∙ ap (λ (v : Recorded). task_key_at t v.moment (key v.level number) nothing) one;
    }

pub returns-then-self-len : goal.returns-then-self-len
returns-then-self-len c =
    let a = c.self.inside in
    let k = c.self.invariant in
    sym (ap (task_key c.args.t) (sym c.self.view_is)
    ∙ task-none c.args.t a.entered.items 0 a.recorded.items a.next (subst (λ l. IsPassed a.entered.items l a.next) k.tasks k.passed) (omega (arith, c.if-self-len.true, c.len.ensures, ap length k.tasks)))

pub key-requires-clause-level : goal.key-requires-clause-level
key-requires-clause-level c =
    let a = c.self.inside in
    let k = c.self.invariant in
    let f = read_first c.args.t a.entered.items a.recorded.items a.tasks.items a.next c.args.self.now c.index-number.result.now c.index-recorded.result.now c.self.view_is k.tasks k.passed (omega (arith, c.if-self-len.false, c.len.ensures)) c.index-number.ensures c.index-recorded.ensures in
    omega (arith, ap (λ (r : Recorded). r.level) f.read, k.levels c.index-number.result.now f.inside)

pub returns-in-Task : goal.returns-in-Task
returns-in-Task c =
    let a = c.self.inside in
    let k = c.self.invariant in
    let f = read_first c.args.t a.entered.items a.recorded.items a.tasks.items a.next c.args.self.now c.index-number.result.now c.index-recorded.result.now c.self.view_is k.tasks k.passed (omega (arith, c.if-self-len.false, c.len.ensures)) c.index-number.ensures c.index-recorded.ensures in
    let come : nat_le c.in-Task.moment c.args.t ≡ true = come_by c.in-Task.moment c.args.t c.if-moment-t.true in
    c.key.ensures ∙ sym (f.value ∙ ap (λ m. task_key_at c.args.t m (key c.index-recorded.result.now.level c.index-number.result.now) nothing) c.in-Task.is
    ∙ ap (λ b. if b then key c.index-recorded.result.now.level c.index-number.result.now else nothing) come)

pub returns-in_default : goal.returns-in_default
returns-in_default c =
    let a = c.self.inside in
    let k = c.self.invariant in
    let f = read_first c.args.t a.entered.items a.recorded.items a.tasks.items a.next c.args.self.now c.index-number.result.now c.index-recorded.result.now c.self.view_is k.tasks k.passed (omega (arith, c.if-self-len.false, c.len.ensures)) c.index-number.ensures c.index-recorded.ensures in
    let late : nat_le c.in-Task.moment c.args.t ≡ false = late_by c.in-Task.moment c.args.t c.if-moment-t.false in
    sym (f.value ∙ ap (λ m. task_key_at c.args.t m (key c.index-recorded.result.now.level c.index-number.result.now) nothing) c.in-Task.is
    ∙ ap (λ b. if b then key c.index-recorded.result.now.level c.index-number.result.now else nothing) late)

pub returns-in_default-2 : goal.returns-in_default-2
returns-in_default-2 c =
    let a = c.self.inside in
    let k = c.self.invariant in
    let f = read_first c.args.t a.entered.items a.recorded.items a.tasks.items a.next c.args.self.now c.index-number.result.now c.index-recorded.result.now c.self.view_is k.tasks k.passed (omega (arith, c.if-self-len.false, c.len.ensures)) c.index-number.ensures c.index-recorded.ensures in
    sym (f.value ∙ ap (λ m. task_key_at c.args.t m (key c.index-recorded.result.now.level c.index-number.result.now) nothing) c.in_default.is)
