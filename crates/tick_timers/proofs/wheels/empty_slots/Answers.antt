use Rattle.std.proofs.Common.{◌≡◌, ◌∙◌, ap, [], get_or, rules, arith, inl, inr}
use Rattle.std.proofs.lemmas.Bool.{cases_lt}
use Rattle.std.proofs.lemmas.List.{get_or_past}
use Rattle.arrayvec.specs.ArrayVec.{ArrayVec}
use Rattle.tick_timers.specs.Matches.{pairs, slots_in}
use Rattle.tick_timers.specs.declared.wheels.Match.{Match}
use Rattle.tick_timers.proofs.Slots.{slot_at-slots_in, slots-count}
use Rattle.tick_timers.proofs.wheels.empty_slots.Goals as goal

pub returns-clause-lists : goal.returns-clause-lists
returns-clause-lists c = λ r.
    let blank : ArrayVec Match = record { items = [] } in
    let long = c.from_fn.ensures.items.long in
    elim (cases_lt r 64) [
      | inl l ↦
          let called = c.from_fn.ensures.items.at r blank l in
          let empty : (get_or c.from_fn.result r blank).items ≡ [] = search rules in
          slot_at-slots_in c.from_fn.result r blank (omega arith) ∙ ap pairs empty
      | inr l ↦ let count = slots-count c.from_fn.result in get_or_past (slots_in c.from_fn.result) r [] (omega arith)
    ]

pub returns-clause-count : goal.returns-clause-count
returns-clause-count c = c.from_fn.ensures.items.long
