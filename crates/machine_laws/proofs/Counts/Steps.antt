-- The raw steps of a run never pass the events that its start leaves.
use Rattle.machine_laws.proofs.Common.{◌≡◌, Bool, ℕ, refl, true, false, arith, ◌≤◌, ◌+◌, suc, zero, ◌<◌, ◌==◌, length, ◌^◌, ImageRecord, IsValidImage, HasWords, ListRecord, IsValidList, Method, Service, unequal, events_left, Machine, start, next, rule, Rule, Begins, Enters, FrameRuns, FrameLimit, Looks, MicroStep, TakeBegins, TaskActs, Run, run, run_on}
use Rattle.std.proofs.Common.{◌*◌}
use Rattle.std.proofs.lemmas.List.{length-map}
use Rattle.inject_list.specs.Lists.{last_moment, most_entries}
use Rattle.machine_model.specs.Frames.{interrupt_of}
use Rattle.machine_model.specs.Bound.{interrupt_events}
use Rattle.machine_model.specs.Rules.{raw}
use Rattle.machine_model.proofs.RunLaws.{run_on-more, run_on-end}
use Rattle.machine_laws.proofs.Valid.Settling.{Valid}
use Rattle.machine_laws.proofs.Runs.Falling.{events_left-next}
use Rattle.machine_laws.proofs.Runs.Ends.{OnItsWay, on_its_way-next, on_its_way-start}

raw-le : (r : Rule) → raw r ≤ 1
raw-le Begins = omega arith
raw-le (Looks l) = omega arith
raw-le (Enters p) = omega arith
raw-le (FrameLimit f below) = omega arith
raw-le (FrameRuns f below) = omega arith
raw-le (MicroStep w) = omega arith
raw-le (TakeBegins q) = omega arith
raw-le TaskActs = omega arith

pub nothing-added : (served : Service → Bool) (method : Method) (n : ℕ) (m : Machine) → Valid served method m → m.t < n → (next served method m).1.s + events_left n (next served method m).1 ≤ m.s + events_left n m
nothing-added served method n m v short =
    let fewer = events_left-next served method n m v short in
    let one = raw-le (rule method m) in
    let s : (next served method m).1.s ≡ m.s + raw (rule method m) = refl in
    omega (arith, fewer, one, s)

module _ (served : Service → Bool) (method : Method) (n : ℕ) where
  abbrev Within : Machine → Run → Type 0
  Within m r = r.last.s ≤ m.s + events_left n m

  one_more : (more : ℕ) (m : Machine) (b : Bool) → (m.t == n) ≡ b → OnItsWay served method n m → (OnItsWay served method n (next served method m).1 → Within (next served method m).1 (run_on served method n more (next served method m).1)) → Within m (run_on served method n (suc more) m)
  one_more more m true e h rest = rw (run_on-end served method n (suc more) m e) (omega arith)
  one_more more m false e h rest =
      let d = unequal m.t n e in
      let l = h.within in
      let short : m.t < n = omega (arith, d, l) in
      let later = rest (on_its_way-next served method n m h short) in
      let now = nothing-added served method n m h.valid short in
      rw (run_on-more served method n more m e) (omega (arith, later, now))

  within-from : (more : ℕ) (m : Machine) → OnItsWay served method n m → Within m (run_on served method n more m)
  within-from zero m h = omega arith
  within-from (suc more) m h = one_more more m (m.t == n) refl h (λ g. within-from more (next served method m).1 g)

-- so many interrupts, each with so many events
pub entries-le : (i limit : ℕ) → i ≤ most_entries → limit ≤ 4096 → i * interrupt_events limit ≤ most_entries * interrupt_events 4096
entries-le i limit a b = grind arith

pub few-steps : (served : Service → Bool) (method : Method) (image : ImageRecord) (list : ListRecord) (n : ℕ) → IsValidImage image → HasWords image → IsValidList image list → n ≤ last_moment → (run served method image list n).last.s < 2 ^ 41
few-steps served method image list n h words l short =
    let m = start image list in
    let all = within-from served method n (events_left n m) m (on_its_way-start served method image list n h words l) in
    let many : length m.interrupts ≡ length list.injections = length-map list.injections (interrupt_of image.vectors) in
    let few = l.few in
    let limit = h.config.isr_limit_high in
    let entries = entries-le (length m.interrupts) image.config.isr_limit (omega (arith, many, few)) limit in
    omega (arith, all, entries, few, short)
