-- How many events a run has at most, and with it what is counted of it.
use Rattle.std.specs.Prelude.{is_some}
use Rattle.std.proofs.Common.{◌≡◌, ◌≤◌, ℕ, List, length, ap, arith}
use Rattle.std.proofs.lemmas.List.{length-map}
use Rattle.std.proofs.lemmas.List.Sums.{count_by-le-length}
use Rattle.app_image.specs.Image.{ImageRecord, IsValidImage}
use Rattle.inject_list.specs.Lists.{ListRecord, IsValidList}
use Rattle.machine_model.specs.declared.events.Event.{Event}
use Rattle.machine_model.specs.Bound.{events_left}
use Rattle.machine_model.specs.Frames.{interrupt_of}
use Rattle.machine_model.specs.Machine.{Machine, start}
use Rattle.machine_model.specs.Text.{in_history}
use Rattle.program_model.specs.Limits.{most_task_steps}
use Rattle.program_model.specs.Summary.{Counts, counts_of, is_call}
use Rattle.ucos_top.specs.Counted.{IsFew, most_events}
use Rattle.machine_laws.proofs.Lemmas.{entries-le}

-- the counts of few events are few
pub few_counts : (events : List Event) (c : Counts) → c ≡ counts_of events → length events ≤ most_events → IsFew c
few_counts events c e few = record {
  calls = omega (arith, ap (λ (c : Counts). c.calls) e, count_by-le-length (λ (e : Event). is_call e.what) events);
  switches = omega (arith, ap (λ (c : Counts). c.switches) e, count_by-le-length (λ (e : Event). is_some e.switch) events);
  own = omega (arith, ap (λ (c : Counts). c.own) e, count_by-le-length (λ (e : Event). in_history e.what) events);
}

-- a run of a valid image has at most so many events
pub few_events : (image : ImageRecord) (list : ListRecord) (n : ℕ) → IsValidImage image → IsValidList image list → n ≤ most_task_steps → events_left n (start image list) ≤ most_events
few_events image list n h l p =
    let m : Machine = start image list in
    let many : length m.interrupts ≡ length list.injections = length-map list.injections (interrupt_of image.vectors) in
    let few = l.few in
    let entries = entries-le (length m.interrupts) image.config.isr_limit (omega (arith, many, few)) h.config.isr_limit_high in
    omega (arith, entries, few, p)
