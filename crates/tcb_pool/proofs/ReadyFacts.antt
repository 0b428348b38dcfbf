-- Which tasks are ready, record by record.
use Rattle.std.specs.Prelude.{slice_set, ◌==◌, ◌&&◌, ◌||◌, not}
use Rattle.std.proofs.Common.{◌≡◌, ℕ, ◌+◌, ◌<◌, ◌≤◌, Bool, true, false, List, [], ◌∷◌, ◌++◌, length, get_or, map, take, drop, refl, sym, ap, ◌∙◌, arith}
use Rattle.std.proofs.lemmas.List.{map-id, append-nil, drop_more, drop_all, take_all}
use Rattle.std.proofs.lemmas.Simd.{map-map}
use Rattle.kern_model.specs.State.{Task, is_ready}
use Rattle.tcb_pool.specs.TaskView.{task_of}
use Rattle.tcb_pool.specs.declared.records.Tcb.{Tcb}
use Rattle.machine_model.specs.Steps.{some_readied}
use Rattle.tcb_pool.proofs.PlaceFacts.{placed-next}

-- one more is written
pub flag-next : {A : Type 0} (f : A → Bool) (ds : List A) (base : List Bool) (i : ℕ) (d : A) (rs : List Bool) (v : Bool) → i < length ds → length ds ≤ length base → rs ≡ map f (take i ds) ++ drop i base → v ≡ f (get_or ds i d) → slice_set rs i v ≡ map f (take (i + 1) ds) ++ drop (i + 1) base
flag-next f ds base i d rs v h room e same =
    sym (map-id (slice_set rs i v)) ∙ placed-next (λ (b : Bool). b) f ds base i d rs v h room (map-id rs ∙ e) same

-- whether a task of this priority is ready that was not, by which were ready
abbrev pub some_new : ℕ → List Bool → List Task → Bool
some_new p [] ts = false
some_new p (b ∷ bs) [] = false
some_new p (b ∷ bs) (t ∷ ts) = (not b && (is_ready t && (t.prio == p))) || some_new p bs ts

pub new-readied : (p : ℕ) (before after : List Task) → some_new p (map is_ready before) after ≡ some_readied p before after
new-readied p [] after = refl
new-readied p (b ∷ bs) [] = refl
new-readied p (b ∷ bs) (t ∷ ts) = ap (λ r. (not (is_ready b) && (is_ready t && (t.prio == p))) || r) (new-readied p bs ts)

none_first : (x r : Bool) → x ≡ false → (x || r) ≡ r
none_first x r e = rw e refl

-- the next record is such one, or one of those behind it is
pub step-new : (p i : ℕ) (bs : List Bool) (rs : List Tcb) (t : Tcb) → i < length rs → length bs ≡ length rs → t ≡ get_or rs i t → some_new p (drop i bs) (map task_of (drop i rs)) ≡ ((not (get_or bs i false) && (is_ready (task_of t) && ((task_of t).prio == p))) || some_new p (drop (i + 1) bs) (map task_of (drop (i + 1) rs)))
step-new p i bs rs t h same e =
    let cb : drop i bs ≡ get_or bs i false ∷ drop (i + 1) bs = drop_more bs i false (omega (arith, h, same)) in
    let cr : drop i rs ≡ t ∷ drop (i + 1) rs = drop_more rs i t h ∙ ap (λ x. x ∷ drop (i + 1) rs) (sym e) in
    rw (cb, cr) refl

pub or_false : (x r : Bool) → x ≡ false → (x || r) ≡ r
or_false x r e = rw e refl

pub or_true : (x r : Bool) → x ≡ true → (x || r) ≡ true
or_true x r e = rw e refl

-- no record is left
pub past-new : (p i : ℕ) (bs : List Bool) (ts : List Task) → length bs ≤ i → some_new p (drop i bs) ts ≡ false
past-new p i bs ts h = ap (λ l. some_new p l ts) (drop_all i bs h)

-- all are written
pub all-flags : (ready old : List Bool) (rs : List Tcb) (i : ℕ) → length rs ≤ i → length old ≤ i → ready ≡ map (λ t. is_ready (task_of t)) (take i rs) ++ drop i old → ready ≡ map is_ready (map task_of rs)
all-flags ready old rs i h k e =
    e ∙ ap (λ l. map (λ t. is_ready (task_of t)) l ++ drop i old) (take_all i rs h) ∙ ap (λ l. map (λ t. is_ready (task_of t)) rs ++ l) (drop_all i old k) ∙ append-nil (map (λ t. is_ready (task_of t)) rs)
    ∙ sym (map-map is_ready task_of rs)
