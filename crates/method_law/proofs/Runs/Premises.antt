-- A run that breaks no premise has no event that breaks one, and from the start on both runs agree.
use Rattle.machine_laws.proofs.Common.{◌≡◌, Bool, ℕ, refl, true, List, [], false, ◌∙◌, ◌∷◌, None, Some, sym, arith, Option, ap, if◌then◌else◌, All, ◌++◌, false≢true, All-nil, All-cons, ImageRecord, ListRecord, Deferred, Direct, Service, events_left, start, Run, run, Event}
use Rattle.std.specs.Prelude.{◌+◌, ◌||◌, is_some}
use Rattle.std.proofs.lemmas.Bool.{or_parts}
use Rattle.machine_model.specs.Premises.{enters_by_step, enters_locked, loses_post, readies_interrupted, broken_at, is_broken}
use Rattle.machine_model.specs.Run.{history}
use Rattle.method_law.specs.Modes.{Related, task_level}
use Rattle.method_law.specs.Going.{BreaksNone}
use Rattle.method_law.specs.Runs.{KernelsStayValid}
use Rattle.method_law.proofs.Events.Rules.{no-switch}
use Rattle.method_law.proofs.Runs.Events.{runs-claim}

-- what is broken at no event is not broken at the first one, nor at those behind it
unbroken-parts : (b : Bool) (s : ℕ) (rest : Option ℕ) → is_some (if b then Some s else rest) ≡ false → (b ≡ false) × (is_some rest ≡ false)
unbroken-parts true s rest h = absurd (false≢true (sym h))
unbroken-parts false s rest h = (refl, h)

-- five premises, none broken
all-unbroken : (es : List Event) → is_some (broken_at (λ e. enters_by_step e.what) es) ≡ false → is_some (broken_at (λ e. enters_locked e.what) es) ≡ false
    → is_some (broken_at (λ e. e.marked) es) ≡ false → is_some (broken_at (λ e. loses_post e.what) es) ≡ false → is_some (broken_at (λ e. readies_interrupted e.what) es) ≡ false
    → All BreaksNone es
all-unbroken [] p1 p2 p3 p4 p5 = All-nil BreaksNone
all-unbroken (e ∷ es) p1 p2 p3 p4 p5 =
    let q1 = unbroken-parts (enters_by_step e.what) e.s (broken_at (λ e. enters_by_step e.what) es) p1 in
    let q2 = unbroken-parts (enters_locked e.what) e.s (broken_at (λ e. enters_locked e.what) es) p2 in
    let q3 = unbroken-parts e.marked e.s (broken_at (λ e. e.marked) es) p3 in
    let q4 = unbroken-parts (loses_post e.what) e.s (broken_at (λ e. loses_post e.what) es) p4 in
    let q5 = unbroken-parts (readies_interrupted e.what) e.s (broken_at (λ e. readies_interrupted e.what) es) p5 in
    All-cons BreaksNone e es (record { by_step = q1.0; locked = q2.0; marked = q3.0; lost = q4.0; same = q5.0 }) (all-unbroken es q1.1 q2.1 q3.1 q4.1 q5.1)

pub breaks-none : (r : Run) → is_broken r ≡ false → All BreaksNone r.events
breaks-none r h =
    let b1 = is_some (broken_at (λ e. enters_by_step e.what) r.events) in
    let b2 = is_some (broken_at (λ e. enters_locked e.what) r.events) in
    let b3 = is_some (broken_at (λ e. e.marked) r.events) in
    let b4 = is_some (broken_at (λ e. loses_post e.what) r.events) in
    let b5 = is_some (broken_at (λ e. readies_interrupted e.what) r.events) in
    let q1 = or_parts b1 (b2 || (b3 || (b4 || b5))) h in
    let q2 = or_parts b2 (b3 || (b4 || b5)) q1.1 in
    let q3 = or_parts b3 (b4 || b5) q2.1 in
    let q4 = or_parts b4 b5 q3.1 in
    all-unbroken r.events q1.0 q2.0 q3.0 q4.0 q4.1

-- both runs begin with one machine
pub runs-agree : (served : Service → Bool) (image : ImageRecord) (list : ListRecord) (n : ℕ)
    → (run served Deferred image list n).last.t ≡ n → (run served Direct image list n).last.t ≡ n
    → KernelsStayValid served (events_left n (start image list)) (start image list)
    → is_broken (run served Deferred image list n) ≡ false
    → history image (run served Deferred image list n) ≡ history image (run served Direct image list n)
runs-agree served image list n h h2 well unbroken =
    let m = start image list in
    let left = events_left n m in
    let same : Related served n m m = task_level m false None 0 m.looks tt (omega arith) in
    runs-claim served image n (left + left) left left (omega arith) m m same h h2 (breaks-none (run served Deferred image list n) unbroken) well
    ∙ ap (λ l. l ++ history image (run served Direct image list n)) (no-switch served image n m.t m.current)
