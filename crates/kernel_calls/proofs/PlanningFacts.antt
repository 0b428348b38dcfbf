-- What is planned of a call: who waits, and for what.
use Rattle.std.proofs.Common.{◌≡◌, ℕ, ◌<◌, ◌≤◌, ◌/◌, List, [], ◌∷◌, length, map, take, refl, sym, ap, ◌∙◌, inl, inr, true, false, not, arith}
use Rattle.std.specs.Prelude.{nat_lt, ◌==◌, if◌then◌else◌}
use Rattle.std.proofs.lemmas.Bool.Decides.{eqb_tells, leb_tells}
use Rattle.std.proofs.lemmas.List.{get_or_past, length-map}
use Rattle.std.proofs.lemmas.Grind.{common_steps}
use Rattle.kern_model.specs.State.{Kernel, list_at}
use Rattle.kern_model.specs.Effect.{chosen}
use Rattle.kern_model.specs.Micro.{Lists}
use Rattle.kern_model.specs.Services.{content_for}
use Rattle.kern_model.specs.Valid.{AllWait}
use Rattle.kern_model.proofs.Lemmas.{AllWait-chosen}
use Rattle.decisions.specs.Decided.{bits_in}
use Rattle.kernel_records.specs.Deciding.{IsServedDecision, decision_of}
use Rattle.kernel_records.specs.RecordsRecord.{with_lists}
use Rattle.kernel_records.proofs.ConcludingFacts.{own-bare}
use Rattle.std.specs.Prelude.{All as AllOf}
use Rattle.std.proofs.lemmas.List.Elements.{All-nil, All-cons}
use Rattle.kern_base.specs.declared.services.Service.{Service}
use Rattle.kern_base.specs.declared.services.Service.TheVariants.{RoundRobinYield}
use Rattle.kern_base.specs.declared.requests.Request.{Request}
use Rattle.kern_base.specs.declared.outcomes.Around.{Around}
use Rattle.kern_base.specs.declared.outcomes.Decision.{Decision}
use Rattle.kern_base.specs.declared.outcomes.Decision.TheVariants.{Done, Block, Wake}
use Rattle.kern_base.specs.declared.outcomes.Who.TheVariants.{First, All, Matching}
use Rattle.micro_steps.specs.Halfway.{tasks_in}
use Rattle.micro_steps.proofs.Seen.{list_at-take, list_at-tasks}
use Rattle.pend_lists.specs.Pending.{AreNodeLists}
use Rattle.kernel_records.specs.Concluding.{objects_waited, woken_of}
use Rattle.kernel_records.specs.Suspension.{moves_task}
use Rattle.kern_model.specs.Checks.{named_task}
use Rattle.micro_steps.specs.declared.link.Link.{Link}
use Rattle.kernel_calls.specs.Moving.{known_links, links_moved}
use Rattle.kernel_calls.specs.Stepping.{IsPast, planned_bits}
use Rattle.kernel_records.proofs.WaitFacts.{waited-objects}
use Rattle.kernel_calls.proofs.WaiterFacts.{AreWaiting}

-- past the lists nobody waits
pub none-past : (lists : List (List ℕ)) (o : ℕ) → AreNodeLists lists → 64 ≤ o → list_at (tasks_in lists) o ≡ []
none-past lists o a h =
    let count : length (tasks_in lists) ≡ 64 = length-map lists (map (λ n. n / 8)) ∙ a.count in
    get_or_past (tasks_in lists) o [] (omega arith)

-- the kernel's lists of waiters are all that there are
pub all-waiters : (n : ℕ) (lists : List (List ℕ)) (o : ℕ) → IsPast n lists → list_at (take n (tasks_in lists)) o ≡ list_at (tasks_in lists) o
all-waiters n lists o p =
    elim (leb_tells n o) [
      | inl d ↦
          let few : length (take n (tasks_in lists)) ≤ n = grind (arith, common_steps) in
          get_or_past (take n (tasks_in lists)) o [] (omega (arith, d.1)) ∙ sym (list_at-tasks lists o ∙ ap (map (λ m. m / 8)) (p o d.1))
      | inr d ↦ list_at-take n (tasks_in lists) o d.1
    ]

-- waiters are numbers of tasks
waiters-below : (k : Kernel) (xs : List ℕ) → AllWait k xs → AllOf (λ x. x < 64) xs
waiters-below k [] w = All-nil (λ x. x < 64)
waiters-below k (x ∷ xs) w = All-cons (λ x. x < 64) x xs (omega (arith, w.0)) (waiters-below k xs w.3)

pub woken-below : (d : Decision) (k : Kernel) (xs : List ℕ) → AreWaiting d k xs → AllOf (λ x. x < 64) (woken_of d xs)
woken-below (Done a) k xs w = All-nil (λ x. x < 64)
woken-below Block k xs w = All-nil (λ x. x < 64)
woken-below (Wake First) k xs w = waiters-below k (chosen false xs) (AllWait-chosen k false xs w)
woken-below (Wake All) k xs w = waiters-below k xs w
woken-below (Wake Matching) k xs w = waiters-below k xs w

-- and what is waited for are some of 64 objects
pub objects-below : (d : Decision) (r : Request) (seen : Around) (k : Kernel) → d ≡ decision_of r seen k → IsServedDecision d r.service → length k.objects ≤ 64 → AllOf (λ o. o < 64) (objects_waited d r)
objects-below (Done a) r seen k e s n = All-nil (λ o. o < 64)
objects-below Block r seen k e s n = λ i o h. let below = (waited-objects r seen k e s).inside i o h in omega (arith, below, n)
objects-below (Wake who) r seen k e s n = All-nil (λ o. o < 64)

-- the links that are known of a call do not depend on the lists of the kernel
links-lists : (s : Service) (y x h : ℕ) (k : Kernel) (l : Lists) → links_moved s y x h k ≡ links_moved s y x h (with_lists k l)
links-lists RoundRobinYield y x h k l = refl
links-lists _ y x h k l = refl

pub known-lists : (d : Decision) (r : Request) (x h : ℕ) (k : Kernel) (l : Lists) → known_links d r x h k ≡ known_links d r x h (with_lists k l)
known-lists d r x h k l = ap (λ (ks : List Link). if moves_task r.service d then ks else []) (links-lists r.service (named_task r x) x h k l)

-- the bits of a plan do not depend on the lists of the kernel
pub bits-lists : (d : Decision) (r : Request) (x : ℕ) (k : Kernel) (l : Lists) → planned_bits d r x k ≡ planned_bits d r x (with_lists k l)
bits-lists (Done a) r x k l = refl
bits-lists Block r x k l = refl
bits-lists (Wake First) r x k l = refl
bits-lists (Wake All) r x k l = refl
bits-lists (Wake Matching) r x k l =
    let held : Kernel → ℕ = λ j. bits_in (content_for r j) in
    ap held (own-bare r x (Wake Matching) k) ∙ sym (ap held (own-bare r x (Wake Matching) (with_lists k l)))
