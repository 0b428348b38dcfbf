use Rattle.std.proofs.Common.{◌≡◌, ◌∙◌, ◌+◌, ◌<◌, ◌++◌, ℕ, suc, List, [], ◌∷◌, length, drop, ap, sym, arith, drop-cons, append_assoc}
use Rattle.std.proofs.lemmas.List.{append-nil, drop_all}
use Rattle.isr_nesting.specs.declared.records.Recorded.{Recorded}
use Rattle.isr_nesting.specs.declared.orders.Timed.{Timed}
use Rattle.isr_nesting.specs.RecordView.{record_at, no_record}
use Rattle.isr_nesting.specs.Order.{timed_in, timed_first}
use Rattle.isr_nesting.proofs.orders.by_number.Goals as goal
use Rattle.isr_nesting.proofs.orders.by_number.Goals.{in-Step+else-is_err, in_default}

-- the record at a place before those behind it
timed_next : (rs : List Recorded) (n : ℕ) → n < length rs → timed_in n (drop n rs) ≡ timed_first n (record_at rs n).moment (timed_in (n + 1) (drop (n + 1) rs))
timed_next rs n h =
    let next : suc n ≡ n + 1 = omega arith in
    ap (timed_in n) (drop-cons rs n no_record h) ∙ ap (λ k. timed_first n (record_at rs n).moment (timed_in (n + 1) (drop k rs))) next

pub loop-number-preserved : goal.loop-number-preserved
loop-number-preserved c =
    let rs = c.args.records.now in
    let n = c.loop-number.number in
    let rest = timed_in (n + 1) (drop (n + 1) rs) in
    let next = timed_next rs n c.loop-number-test.true in
    elim c.match-recorded.branch [
      | in-Step+else-is_err w ↦
          let x : Timed = record { moment = w.in-Step.moment; number = n } in
          let pushed : w.push.new.self.items ≡ c.loop-number.timed.items ++ x ∷ [] = grind (arith, w.push.ensures.items, w.is_err.ensures, w.if-is_err.false) in
          ap (λ v. v.items ++ rest) w.timed-is ∙ ap (λ l. l ++ rest) pushed ∙ append_assoc c.loop-number.timed.items (x ∷ []) rest
          ∙ ap (λ l. c.loop-number.timed.items ++ l) (sym (next ∙ ap (λ m. timed_first n m rest) w.in-Step.is))
          ∙ c.loop-number.invariant
      | in_default w ↦
          ap (λ v. v.items ++ rest) w.timed-is
          ∙ ap (λ l. c.loop-number.timed.items ++ l) (sym (next ∙ ap (λ m. timed_first n m rest) w.in_default.is))
          ∙ c.loop-number.invariant
    ]

pub returns : goal.returns
returns c =
    let rs = c.args.records.now in
    let n = c.loop-number.number in
    sym (append-nil c.loop-number.timed.items)
    ∙ ap (λ l. c.loop-number.timed.items ++ timed_in n l) (sym (drop_all n rs c.loop-number-test.false))
    ∙ c.loop-number.invariant
