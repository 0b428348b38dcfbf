-- A whole step goes on: the next block is taken in hand, and a micro-step is made.
use Rattle.std.proofs.Common.{◌≡◌, ℕ, ◌+◌, List, [], ◌∷◌, length, drop, sym, ap, subst, ◌∙◌}
use Rattle.kern_model.specs.Micro.{Micro, Lists, Halves}
use Rattle.micro_steps.specs.declared.link.Link.{Link}
use Rattle.micro_steps.specs.declared.link.Cursor.{Cursor}
use Rattle.micro_steps.specs.Blocks.{IsAt, IsEven, rest, one_made}
use Rattle.micro_steps.specs.Starts.{AreChains}
use Rattle.micro_steps.specs.Halfway.{seen_lists, fresh, IsHalfway, IsBetween}
use Rattle.micro_steps.specs.Whole.{StepsRecord, IsMidway, IsPaused, AreFit, lists_after, task_block, task_blocks, prios_after, start_place}
use Rattle.micro_steps.proofs.Halves.{between-next, halfway-more, halfway-last}
use Rattle.micro_steps.proofs.Wholes.{begins_next, lists_next, lists_more, lists_last, even_lists, block-tasks}

-- the same step with this block in hand
abbrev with_block : Link → StepsRecord → StepsRecord
with_block k s = record { halves = s.halves; start = s.start; cursor = fresh k (start_place k); prios = prios_after k s.prios }

pub taken_up : (ms : List Micro) (l : Lists) (i : ℕ) (k : Link) (ks : List Link) (end : Lists) (s : StepsRecord) → AreChains s.halves → IsPaused ms l i (k ∷ ks) end s → IsMidway ms l i ks end (with_block k s)
taken_up ms l i k ks end s chains paused =
    let n = length l.pend in let now = prios_after k s.prios in let h = s.halves in
    let at = begins_next n now k h paused.even chains paused.fits.0 in
    let next = lists_next now k h paused.even in
    let same = block-tasks n now k h.back h.forward paused.fits.0 ∙ ap (λ m. task_block now k (seen_lists n m)) (sym (even_lists h paused.even)) in
    let between : IsBetween ms l i n (task_block now k ∷ task_blocks now ks) h = record { even = paused.even; left = paused.left; chains = paused.chains } in
    let after = between-next ms l i n now k (start_place k) (task_block now k) (task_blocks now ks) h between at same in
    record { at = at; fits = subst (AreFit n now ks) next paused.fits.1; ends = sym (ap (lists_after now ks) next) ∙ paused.ends; left = after.left; chains = after.chains }

-- a step in which a micro-step was made
abbrev stepped : StepsRecord → Cursor → Halves → Lists → StepsRecord
stepped s d j start = record { halves = j; start = start; cursor = d; prios = s.prios }

halfway : (ms : List Micro) (l : Lists) (i : ℕ) (ks : List Link) (end : Lists) (s : StepsRecord) → IsMidway ms l i ks end s → IsHalfway ms l i (length l.pend) s.prios s.cursor (task_blocks s.prios ks) s.halves
halfway ms l i ks end s mid = record { at = mid.at; left = mid.left; chains = mid.chains }

pub one_more_made : (ms : List Micro) (l : Lists) (i : ℕ) (ks : List Link) (end : Lists) (s : StepsRecord) (d : Cursor) (j : Halves) (start : Lists) → IsMidway ms l i ks end s → j ≡ one_made s.prios s.cursor s.halves → IsAt s.prios d j → drop 1 (rest s.prios s.cursor s.halves) ≡ rest s.prios d j → IsMidway ms l (i + 1) ks end (stepped s d j start)
one_more_made ms l i ks end s d j start mid made now left =
    let n = length l.pend in
    let after = halfway-more ms l i n s.prios s.cursor d (task_blocks s.prios ks) s.halves j (halfway ms l i ks end s mid) now made left in
    let same = lists_more s.prios s.cursor d s.halves j made left in
    record { at = now; fits = subst (AreFit n s.prios ks) same mid.fits; ends = sym (ap (lists_after s.prios ks) same) ∙ mid.ends; left = after.left; chains = after.chains }

pub last_made : (ms : List Micro) (l : Lists) (i : ℕ) (ks : List Link) (end : Lists) (s : StepsRecord) (d : Cursor) (j : Halves) (start : Lists) → IsMidway ms l i ks end s → j ≡ one_made s.prios s.cursor s.halves → IsEven j → drop 1 (rest s.prios s.cursor s.halves) ≡ [] → IsPaused ms l (i + 1) ks end (stepped s d j start)
last_made ms l i ks end s d j start mid made even left =
    let n = length l.pend in
    let after = halfway-last ms l i n s.prios s.cursor (task_blocks s.prios ks) s.halves j (halfway ms l i ks end s mid) even made left in
    let same = lists_last s.prios s.cursor s.halves j made left in
    record { even = even; fits = subst (AreFit n s.prios ks) same mid.fits; ends = sym (ap (lists_after s.prios ks) same) ∙ mid.ends; left = after.left; chains = after.chains }
