use Rattle.std.proofs.Common.{◌≡◌, ℕ, ◌<◌, ap, sym, ◌∙◌, subst, leb, leb-true, rules, length, List, get_or, true, false, arith}
use Rattle.std.specs.Prelude.{slice_index}
use Rattle.std.proofs.lemmas.List.{get_or_default}
use Rattle.std.proofs.lemmas.List.Sorted.{IsPartitionPoint-from_clause, IsPartitionedBy-leb, IsNonDecreasingBy-from_default}
use Rattle.kern_model.proofs.Lemmas.{above}
use Rattle.std.specs.List.Sorted.{IsNonDecreasing}
use Rattle.isr_nesting.specs.Keys.{step_key}
use Rattle.isr_nesting.proofs.PlaceLaws.{least-best, none-come}
use Rattle.isr_nesting.proofs.waits.Waiting.step_key.Goals as goal
use Rattle.isr_nesting.proofs.waits.Waiting.step_key.Goals.{then-self-len-via-then-self-len, then-self-len-via-else-self-len+then-index-s}

-- the first moment of a key that stands
first_later : (ms : List ℕ) (first s x : ℕ) → first < length ms → x ≡ get_or ms first x → s < x → s < slice_index ms first
first_later ms first s x h e late = omega (arith, e ∙ get_or_default ms first x 0 h, late)

pub returns-then-self-len : goal.returns-then-self-len
returns-then-self-len c =
    let a = c.self.inside in
    let k = c.self.invariant in
    let ms = a.moments.items in
    let later : a.first < length ms → c.args.s < slice_index ms a.first =
    elim c.then-self-len.branch [
      | then-self-len-via-then-self-len w ↦ λ h. absurd (omega (arith, h, w.if-self-len.true, c.len.ensures))
      | then-self-len-via-else-self-len+then-index-s w ↦ λ h. first_later ms a.first c.args.s w.index.result.now h w.index.ensures w.if-index-s.true
    ] in
    sym (ap (step_key c.args.s) (sym c.self.view_is)
    ∙ none-come a.recorded.items a.entered.items a.places.items ms a.keys c.args.s a.first k.few k.steps k.sorted k.gone later)

pub returns : goal.returns
returns c =
    let a = c.self.inside in
    let k = c.self.invariant in
    let ms = a.moments.items in
    let same : c.deref.result.now ≡ ms = c.deref.ensures.value in
    let parted = IsPartitionedBy-leb (λ m. m) c.deref.result.now c.args.s (subst (λ (l : List ℕ). IsNonDecreasing l) (sym same) (IsNonDecreasingBy-from_default (λ m. m) ms 0 k.sorted)) in
    let point = IsPartitionPoint-from_clause (λ m. leb m c.args.s) c.deref.result.now c.partition_point-come.result c.partition_point-come.ensures.partitioned parted (λ a r q k. search rules) in
    let long : length c.deref.result.now ≡ length ms = ap length same in
    c.least_before.ensures
    ∙ least-best a.recorded.items a.entered.items a.places.items ms a.keys c.args.s c.partition_point-come.result k.moments k.steps
    (λ j h inside. leb-true (slice_index ms j) c.args.s (subst (λ (l : List ℕ). leb (slice_index l j) c.args.s ≡ true) same (point.0 j 0 (omega arith) h)))
    (λ j h inside. above (slice_index ms j) c.args.s (subst (λ (l : List ℕ). leb (slice_index l j) c.args.s ≡ false) same (point.1 j 0 h (omega (arith, long)))))
    ∙ ap (step_key c.args.s) c.self.view_is
