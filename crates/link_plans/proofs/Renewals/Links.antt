-- The links of moves, one after another.
use Rattle.std.proofs.Common.{◌≡◌, Bool, ℕ, zero, suc, ◌+◌, ◌*◌, ◌/◌, ◌%◌, ◌<◌, ◌≤◌, List, [], ◌∷◌, ◌++◌, length, drop, get_or, Some, None, refl, sym, ap, ◌∙◌, arith, add-one}
use Rattle.std.specs.Prelude.{slice_get}
use Rattle.std.proofs.Math.Nat.{not-suc-le-zero}
use Rattle.std.proofs.Math.Seq.{drop-cons}
use Rattle.kern_model.specs.State.{Task}
use Rattle.micro_steps.specs.declared.link.Link.{Link}
use Rattle.micro_steps.specs.declared.link.Link.TheVariants as link
use Rattle.link_plans.specs.declared.moves.Move.{Move}
use Rattle.link_plans.specs.Moves.{rewait_links, move_links, moves_links, moves_left}

halved : (made : ℕ) → suc (suc made) / 2 ≡ suc (made / 2)
halved made = omega arith

-- a task that waits leaves its next object
leaves_at : (x p i made : ℕ) (os : List ℕ) → made % 2 ≡ 0 → made / 2 < length os → slice_get (rewait_links x p i os) made ≡ Some (link.Leave (8 * x + (i + made / 2)) (record { 0 = get_or os (made / 2) 0 }))
leaves_at x p i made [] even h = absurd (not-suc-le-zero {n = made / 2} (omega (arith, h)))
leaves_at x p i zero (o ∷ os) even h = let e : i + 0 ≡ i = omega arith in rw e refl
leaves_at x p i (suc zero) (o ∷ os) even h = absurd (not-suc-le-zero {n = 0} (omega (arith, even)))
leaves_at x p i (suc (suc made)) (o ∷ os) even h =
    let e : i + suc (made / 2) ≡ (i + 1) + made / 2 = omega arith in
    rw (halved made, e) (leaves_at x p (i + 1) made os (omega (arith, even)) (omega (arith, h, halved made)))

-- and joins its waiters again
waits_at : (x p i made : ℕ) (os : List ℕ) → (made % 2 ≡ 0 → ⊥) → made / 2 < length os → slice_get (rewait_links x p i os) made ≡ Some (link.Wait (8 * x + (i + made / 2)) (record { 0 = p }) (record { 0 = get_or os (made / 2) 0 }))
waits_at x p i made [] odd h = absurd (not-suc-le-zero {n = made / 2} (omega (arith, h)))
waits_at x p i zero (o ∷ os) odd h = absurd (odd refl)
waits_at x p i (suc zero) (o ∷ os) odd h = let e : i + 0 ≡ i = omega arith in rw e refl
waits_at x p i (suc (suc made)) (o ∷ os) odd h =
    let e : i + suc (made / 2) ≡ (i + 1) + made / 2 = omega arith in
    rw (halved made, e) (waits_at x p (i + 1) made os (λ d. odd (omega (arith, d))) (omega (arith, h, halved made)))

none_at : (x p i made : ℕ) (os : List ℕ) → length os ≤ made / 2 → slice_get (rewait_links x p i os) made ≡ None
none_at x p i made [] h = refl
none_at x p i zero (o ∷ os) h = absurd (not-suc-le-zero {n = 0} (omega (arith, h)))
none_at x p i (suc zero) (o ∷ os) h = absurd (not-suc-le-zero {n = 0} (omega (arith, h)))
none_at x p i (suc (suc made)) (o ∷ os) h = none_at x p (i + 1) made os (omega (arith, h, halved made))

-- the same from the first object on, as a task's record says
pub leave_at : (x p made node o : ℕ) (os : List ℕ) → made % 2 ≡ 0 → made / 2 < length os → node ≡ 8 * x + made / 2 → o ≡ get_or os (made / 2) 0 → Some (link.Leave node (record { 0 = o })) ≡ slice_get (rewait_links x p 0 os) made
leave_at x p made node o os even h n e =
    let same : 8 * x + (0 + made / 2) ≡ node = omega (arith, n) in
    sym (leaves_at x p 0 made os even h ∙ ap (λ m. Some (link.Leave m (record { 0 = get_or os (made / 2) 0 }))) same ∙ ap (λ q. Some (link.Leave node (record { 0 = q }))) (sym e))

pub wait_at : (x p made node o : ℕ) (os : List ℕ) → (made % 2 ≡ 0 → ⊥) → made / 2 < length os → node ≡ 8 * x + made / 2 → o ≡ get_or os (made / 2) 0 → Some (link.Wait node (record { 0 = p }) (record { 0 = o })) ≡ slice_get (rewait_links x p 0 os) made
wait_at x p made node o os odd h n e =
    let same : 8 * x + (0 + made / 2) ≡ node = omega (arith, n) in
    sym (waits_at x p 0 made os odd h ∙ ap (λ m. Some (link.Wait m (record { 0 = p }) (record { 0 = get_or os (made / 2) 0 }))) same ∙ ap (λ q. Some (link.Wait node (record { 0 = p }) (record { 0 = q }))) (sym e))

pub nothing_at : (x p made : ℕ) (os : List ℕ) → length os ≤ made / 2 → None ≡ slice_get (rewait_links x p 0 os) made
nothing_at x p made os h = sym (none_at x p 0 made os h)

-- the links that are left

pub next_of_some : (links : List Link) (made : ℕ) (link : Link) → Some link ≡ slice_get links made → drop made links ≡ link ∷ drop (made + 1) links
next_of_some [] made link e = cc
next_of_some (k ∷ links) zero link e = let same : link ≡ k = cc in ap (λ l. l ∷ links) (sym same)
next_of_some (k ∷ links) (suc made) link e = let one : suc made + 1 ≡ suc (made + 1) = omega arith in rw one (next_of_some links made link e)

pub next_of_none : (links : List Link) (made : ℕ) → None ≡ slice_get links made → drop made links ≡ []
next_of_none [] zero e = refl
next_of_none [] (suc made) e = refl
next_of_none (k ∷ links) zero e = cc
next_of_none (k ∷ links) (suc made) e = next_of_none links made e

-- of moves

begun : (ts : List Task) (tail : Bool) (ms : List Move) → moves_left ts tail 0 ms ≡ moves_links ts tail ms
begun ts tail [] = refl
begun ts tail (m ∷ ms) = refl

in_hand : (ms ds : List Move) (i : ℕ) (d : Move) → ds ≡ ms → i < length ms → drop i ms ≡ get_or ds i d ∷ drop (i + 1) ms
in_hand ms ds i d same inside = rw (add-one, same) (drop-cons ms i d inside)

pub moves_next : (ts : List Task) (tail : Bool) (made i : ℕ) (ms ds : List Move) (d : Move) (link : Link) → ds ≡ ms → i < length ms → Some link ≡ slice_get (move_links ts tail (get_or ds i d)) made → moves_left ts tail made (drop i ms) ≡ link ∷ moves_left ts tail (made + 1) (drop i ms)
moves_next ts tail made i ms ds d link same inside e =
    rw (in_hand ms ds i d same inside) (ap (λ ks. ks ++ moves_links ts tail (drop (i + 1) ms)) (next_of_some (move_links ts tail (get_or ds i d)) made link e))

pub moves_skip : (ts : List Task) (tail : Bool) (made i : ℕ) (ms ds : List Move) (d : Move) → ds ≡ ms → i < length ms → None ≡ slice_get (move_links ts tail (get_or ds i d)) made → moves_left ts tail 0 (drop (i + 1) ms) ≡ moves_left ts tail made (drop i ms)
moves_skip ts tail made i ms ds d same inside e =
    rw (in_hand ms ds i d same inside) (begun ts tail (drop (i + 1) ms) ∙ sym (ap (λ ks. ks ++ moves_links ts tail (drop (i + 1) ms)) (next_of_none (move_links ts tail (get_or ds i d)) made e)))
