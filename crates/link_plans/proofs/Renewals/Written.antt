-- The records and the priorities after moves.
use Rattle.std.proofs.Common.{◌≡◌, ◌≢◌, ℕ, ◌+◌, ◌*◌, ◌/◌, ◌<◌, ◌≤◌, Bool, List, [], ◌∷◌, ◌++◌, length, map, refl, sym, ap, ◌∙◌, subst, arith, inl, inr, length-set, get_or-set_same, get_or-set_other}
use Rattle.std.specs.Prelude.{slice_set, if◌then◌else◌}
use Rattle.std.proofs.Math.Nat.{not-suc-le-zero}
use Rattle.std.proofs.lemmas.Bool.Decides.{eqb_tells}
use Rattle.kern_base.specs.declared.numbers.Prio.{Prio}
use Rattle.kern_model.specs.State.{Kernel, Task, task_at, task_in, prio_of, count_of}
use Rattle.kern_model.specs.Inherit.{moved, moved_all, moves_of, renewed_tasks, with_prio}
use Rattle.kern_model.specs.Valid.{IsLinked}
use Rattle.kern_model.proofs.Lemmas.{task-other, task-updated, AllMovable, movable-renewed}
use Rattle.micro_steps.specs.declared.link.Link.{Link}
use Rattle.micro_steps.specs.Blocks.{no_prio, place_at, prio_in}
use Rattle.link_plans.specs.declared.moves.Move.{Move}
use Rattle.link_plans.specs.declared.moves.Standing.{Standing}
use Rattle.link_plans.specs.declared.moves.Standing.TheVariants.{Ready, Waits, Nowhere}
use Rattle.link_plans.specs.Moves.{move_in, moves_links, rewait_links, standing_links}
use Rattle.link_plans.specs.Renewals.{prios_moved, prios_past, renewal_links, renewal_moves, tasks_moved}
use Rattle.link_plans.proofs.Calls.Follows.{size-past}
use Rattle.link_plans.proofs.Renewals.Moves.{movers}
use Rattle.link_plans.proofs.Fits.Wakes.{counted}

moves-written : (place : List ℕ → ℕ) (ms : List (ℕ × ℕ)) (k j : Kernel) → (moved_all place ms k).tasks ≡ tasks_moved (map (move_in j) ms) k.tasks
moves-written place [] k j = refl
moves-written place (m ∷ ms) k j = moves-written place ms (moved place m.0 m.1 k) j

pub renewal-written : (tail : Bool) (k : Kernel) → (moved_all (place_at tail) (moves_of renewed_tasks k) k).tasks ≡ tasks_moved (renewal_moves k) k.tasks
renewal-written tail k = moves-written (place_at tail) (moves_of renewed_tasks k) k k

-- a move leaves the priorities of other tasks

rewaits_leave : (prios : List Prio) (x p i : ℕ) (os : List ℕ) (ks : List Link) (y : ℕ) → i + length os ≤ 8 → y ≢ x → ((qs : List Prio) → prio_in (prios_past qs ks) y ≡ prio_in qs y) → prio_in (prios_past prios (rewait_links x p i os ++ ks)) y ≡ prio_in prios y
rewaits_leave prios x p i [] ks y few far rest = rest prios
rewaits_leave prios x p i (o ∷ os) ks y few far rest =
    let node = 8 * x + i in
    let own : node / 8 ≡ x = omega (arith, few) in
    let q : Prio = record { 0 = p } in
    rewaits_leave (slice_set prios (node / 8) q) x p (i + 1) os ks y (omega (arith, few)) far rest
    ∙ ap (λ (r : Prio). r.0) (get_or-set_other prios (node / 8) y q no_prio (λ e. far (e ∙ own)))

standing_leaves : (s : Standing) (prios : List Prio) (tail : Bool) (os : List ℕ) (m : Move) (ks : List Link) (y : ℕ) → length os ≤ 8 → y ≢ m.task.0 → ((qs : List Prio) → prio_in (prios_past qs ks) y ≡ prio_in qs y) → prio_in (prios_past prios (standing_links s tail os m ++ ks)) y ≡ prio_in prios y
standing_leaves Ready prios tail os m ks y few far rest = rest prios
standing_leaves Waits prios tail os m ks y few far rest = rewaits_leave prios m.task.0 m.to.0 0 os ks y (omega (arith, few)) far rest
standing_leaves Nowhere prios tail os m ks y few far rest = rest prios

moves_leave : (ts : List Task) (tail : Bool) (k : Kernel) (ms : List (ℕ × ℕ)) (y : ℕ) → ((x : ℕ) → length (task_in ts x).objects ≤ 8) → count_of y (movers ms) ≡ 0 → (prios : List Prio) → prio_in (prios_past prios (moves_links ts tail (map (move_in k) ms))) y ≡ prio_in prios y
moves_leave ts tail k [] y few none prios = refl
moves_leave ts tail k (m ∷ ms) y few none prios =
    let far : y ≢ m.0 = λ e. not-suc-le-zero {n = 0} (let here = counted y (movers ms) in let zero_more = subst (λ z. count_of y (z ∷ movers ms) ≡ 0) (sym e) none in omega (arith, here, zero_more)) in
    standing_leaves (move_in k m).standing prios tail (task_in ts m.0).objects (move_in k m) (moves_links ts tail (map (move_in k) ms)) y (few m.0) far (moves_leave ts tail k ms y few (omega (arith, none)))

-- each task that moved has its new priority
all_told : (place : List ℕ → ℕ) (ms : List (ℕ × ℕ)) (k i : Kernel) (prios : List Prio) → AllMovable i ms → 64 ≤ length prios → 64 ≤ length k.tasks → ((y : ℕ) → count_of y (movers ms) ≡ 0 → prio_in prios y ≡ prio_of k y) → (j : Kernel) (y : ℕ) → prio_in (prios_moved (map (move_in j) ms) prios) y ≡ prio_of (moved_all place ms k) y
all_told place [] k i prios may long size tells j y = tells y refl
all_told place (m ∷ ms) k i prios may long size tells j y =
    let x = m.0 in let p = m.1 in
    let q : Prio = record { 0 = p } in
    let low : x < 62 = elim may.0 [ inl e ↦ omega arith | inr e ↦ omega (arith, e) ] in
    let now = slice_set prios x q in
    let next = moved place x p k in
    let same_prios = length-set prios x q in
    let same_tasks = length-set k.tasks x (with_prio p (task_at k x)) in
    all_told place ms next i now may.4 (omega (arith, long, same_prios)) (omega (arith, size, same_tasks))
    (λ z none.
    elim (eqb_tells x z) [
      | inl e ↦
          ap (prio_in now) (sym e.1)
          ∙ ap (λ (r : Prio). r.0) (get_or-set_same prios x q no_prio (omega (arith, low, long)))
          ∙ ap (λ (t : Task). t.prio) (sym (task-updated k.tasks x (with_prio p) (omega (arith, low, size))))
          ∙ ap (prio_of next) e.1
      | inr e ↦
          ap (λ (r : Prio). r.0) (get_or-set_other prios x z q no_prio (λ d. e.1 (sym d)))
          ∙ tells z (ap (λ b. (if b then 1 else 0) + count_of z (movers ms)) e.0 ∙ omega (arith, none))
          ∙ ap (λ (t : Task). t.prio) (sym (task-other k.tasks x (with_prio p) z e.1))
    ]) j y

pub renewal-told : (ts : List Task) (prios : List Prio) (tail : Bool) (k : Kernel) → IsLinked k → length prios ≡ 64 → ((x : ℕ) → length (task_in ts x).objects ≤ 8) → ((x : ℕ) → prio_in prios x ≡ prio_of k x) → (x : ℕ) → prio_in (prios_moved (renewal_moves k) (prios_past prios (renewal_links ts tail k))) x ≡ prio_of (moved_all (place_at tail) (moves_of renewed_tasks k) k) x
renewal-told ts prios tail k v size few tells x =
    let ms = moves_of renewed_tasks k in
    let long = size-past prios (renewal_links ts tail k) in
    all_told (place_at tail) ms k k (prios_past prios (renewal_links ts tail k)) (movable-renewed k v) (omega (arith, long, size)) (let tasks = v.sizes.tasks in omega (arith, tasks))
    (λ y none. moves_leave ts tail k ms y few none prios ∙ tells y) k x
