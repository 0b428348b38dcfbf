-- The least key of those that are due, by steps and by task steps.
use Rattle.std.proofs.Common.{◌≡◌, ℕ, ◌+◌, ◌-◌, ◌*◌, ◌<◌, ◌≤◌, Bool, true, false, not, ◌&&◌, List, [], ◌∷◌, refl, sym, ap, ◌∙◌, arith, ◌%◌, Some, None}
use Rattle.std.specs.Prelude.{min, nat_le, nat_lt, if◌then◌else◌}
use Rattle.std.proofs.lemmas.Bool.Decides.{nat_tests}
use Rattle.inject_list.specs.declared.lists.Moment.{Moment}
use Rattle.inject_list.specs.declared.lists.Moment.TheVariants.{Task, Step}
use Rattle.machine_model.specs.Frames.{Interrupt, FrameRecord, level_of, none_stands}
use Rattle.machine_model.specs.Due.{is_step, lets_in}
use Rattle.isr_nesting.specs.Least.{nothing}
use Rattle.isr_nesting.specs.Nest.{IsRising, due_number}
use Rattle.isr_nesting.specs.Keys.{key, key_of, step_key_at, step_key, task_key_at, task_key, above, number_of}
use Rattle.isr_nesting.proofs.KeyLaws.{due_key, due-number}

-- a key below the bound is that of a level above
pub above-key : (top level number : ℕ) → level ≤ 7 → number < 16384 → above top (key level number) ≡ (if nat_lt top level then key level number else nothing)
above-key top level number h small = grind (arith, nat_tests)

pub above-nothing : (top : ℕ) → above top nothing ≡ nothing
above-nothing top = grind (arith, nat_tests)

pub above-least : (top a b : ℕ) → a ≤ nothing → b ≤ nothing → above top (min a b) ≡ min (above top a) (above top b)
above-least top a b h k = grind (arith, nat_tests)

-- what one interrupt counts, where its moment is in raw steps
step_part : (masked come : Bool) (top level number : ℕ) → level ≤ 7 → number < 16384 → (if not masked && (come && nat_lt top level) then key level number else nothing) ≡ above top (if masked then nothing else (if come then key level number else nothing))
step_part true come top level number h small = sym (above-nothing top)
step_part false true top level number h small = sym (above-key top level number h small)
step_part false false top level number h small = sym (above-nothing top)

-- and where it is in task steps
task_part : (quiet come none : Bool) (top level number : ℕ) → (none ≡ true → top ≡ 0) → level ≤ 7 → number < 16384 → (if quiet && (come && (none && nat_lt 0 level)) then key level number else nothing) ≡ above top (if quiet && none then (if come then key level number else nothing) else nothing)
task_part true true true top level number e h small =
    sym (above-key top level number h small ∙ ap (λ n. if nat_lt n level then key level number else nothing) (e refl))
task_part true true false top level number e h small = sym (above-nothing top)
task_part true false true top level number e h small = sym (above-nothing top)
task_part true false false top level number e h small = sym (above-nothing top)
task_part false come none top level number e h small = sym (above-nothing top)

pub none-level : (frames : List FrameRecord) → none_stands frames ≡ true → level_of frames ≡ 0
none-level [] h = refl
none-level (f ∷ fs) h = cc

step_join : (top a b c x d : ℕ) → x ≡ above top a → d ≡ above top (min b c) → a ≤ nothing → b ≤ nothing → min x d ≡ above top (min (min a b) c)
step_join top a b c x d e f ha hb =
    let same : min a (min b c) ≡ min (min a b) c = omega arith in
    cc (above-least top a (min b c) ha (omega arith), same, e, f)

task_join : (top a b x d : ℕ) → x ≡ above top b → d ≡ above top (min a nothing) → a ≤ nothing → b ≤ nothing → min x d ≡ above top (min a b)
task_join top a b x d e f ha hb =
    let same : min b (min a nothing) ≡ min a b = omega arith in
    cc (above-least top b (min a nothing) hb (omega arith), same, e, f)

chosen-low : (b : Bool) (k : ℕ) → k ≤ nothing → (if b then k else nothing) ≤ nothing
chosen-low true k h = h
chosen-low false k h = omega arith

masked-low : (b : Bool) (k : ℕ) → k ≤ nothing → (if b then nothing else k) ≤ nothing
masked-low true k h = omega arith
masked-low false k h = h

masked-least : (b : Bool) (k l : ℕ) → (if b then nothing else min k l) ≡ min (if b then nothing else k) (if b then nothing else l)
masked-least true k l = refl
masked-least false k l = refl

pub key-low : (level number : ℕ) → number < 16384 → key level number ≤ nothing
key-low level number h = omega arith

pub step_key-low : (s : ℕ) (ws : List (ℕ × Interrupt)) → step_key s ws ≤ nothing
step_key-low s [] = omega arith
step_key-low s (w ∷ ws) = omega (arith, step_key-low s ws)

pub task_key-low : (t n : ℕ) (ws : List (ℕ × Interrupt)) → IsRising n ws → task_key t ws ≤ nothing
task_key-low t n [] rise = omega arith
task_key-low t n (w ∷ ws) (low, small, top, rest) = at_moment w.1.moment (task_key-low t (w.0 + 1) ws rest)
  where
    at_moment : (m : Moment) → task_key t ws ≤ nothing → task_key_at t m (key_of w) (task_key t ws) ≤ nothing
    at_moment (Task u) h = chosen-low (nat_le u t) (key_of w) (key-low w.1.level w.0 small)
    at_moment (Step u) h = h

same_either : (b : Bool) (k : ℕ) → (if b then k else k) ≡ k
same_either true k = refl
same_either false k = refl

least_none : (top a b : ℕ) → a ≡ nothing → b ≡ nothing → above top (min a b) ≡ nothing
least_none top a b e f =
    let same : min a b ≡ nothing = omega arith in
    ap (above top) same ∙ above-nothing top

module _ (masked quiet : Bool) (s t : ℕ) (frames : List FrameRecord) where
  -- by steps, and by the first interrupt whose moment is in task steps
  abbrev pub by_steps : ℕ → ℕ
  by_steps k = if masked then nothing else k

  abbrev pub by_tasks : Bool → ℕ → ℕ
  by_tasks first k = if first && (quiet && none_stands frames) then k else nothing

  -- one interrupt more in front
  step_front : (first : Bool) (u level number : ℕ) (ws : List (ℕ × Interrupt)) → level ≤ 7 → number < 16384
      → due_key masked quiet s t frames first ws ≡ above (level_of frames) (min (by_steps (step_key s ws)) (by_tasks first (task_key t ws)))
      → min (if not masked && (nat_le u s && nat_lt (level_of frames) level) then key level number else nothing) (due_key masked quiet s t frames first ws)
      ≡ above (level_of frames) (min (by_steps (min (if nat_le u s then key level number else nothing) (step_key s ws))) (by_tasks first (task_key t ws)))
  step_front first u level number ws h small e =
      let k = if nat_le u s then key level number else nothing in
      step_join (level_of frames) (by_steps k) (by_steps (step_key s ws)) (by_tasks first (task_key t ws))
      (if not masked && (nat_le u s && nat_lt (level_of frames) level) then key level number else nothing) (due_key masked quiet s t frames first ws)
      (step_part masked (nat_le u s) (level_of frames) level number h small) e
      (masked-low masked k (chosen-low (nat_le u s) (key level number) (key-low level number small))) (masked-low masked (step_key s ws) (step_key-low s ws))
      ∙ ap (λ l. above (level_of frames) (min l (by_tasks first (task_key t ws)))) (sym (masked-least masked k (step_key s ws)))

  front : (first : Bool) (m : Moment) (level number : ℕ) (ws : List (ℕ × Interrupt)) → level ≤ 7 → number < 16384
      → due_key masked quiet s t frames (first && is_step m) ws ≡ above (level_of frames) (min (by_steps (step_key s ws)) (by_tasks (first && is_step m) (task_key t ws)))
      → min (if lets_in masked quiet s t frames first m level then key level number else nothing) (due_key masked quiet s t frames (first && is_step m) ws)
      ≡ above (level_of frames) (min (by_steps (min (step_key_at s m (key level number)) (step_key s ws))) (by_tasks first (task_key_at t m (key level number) (task_key t ws))))
  front true (Step u) level number ws h small e = step_front true u level number ws h small e
  front false (Step u) level number ws h small e = step_front false u level number ws h small e
  front true (Task u) level number ws h small e =
      let none : min nothing (step_key s ws) ≡ step_key s ws = omega (arith, step_key-low s ws) in
      task_join (level_of frames) (by_steps (step_key s ws)) (if quiet && none_stands frames then (if nat_le u t then key level number else nothing) else nothing)
      (if quiet && (nat_le u t && (none_stands frames && nat_lt 0 level)) then key level number else nothing) (due_key masked quiet s t frames false ws)
      (task_part quiet (nat_le u t) (none_stands frames) (level_of frames) level number (none-level frames) h small) e
      (masked-low masked (step_key s ws) (step_key-low s ws))
      (chosen-low (quiet && none_stands frames) (if nat_le u t then key level number else nothing) (chosen-low (nat_le u t) (key level number) (key-low level number small)))
      ∙ ap (λ k. above (level_of frames) (min (by_steps k) (if quiet && none_stands frames then (if nat_le u t then key level number else nothing) else nothing))) (sym none)
  front false (Task u) level number ws h small e =
      let none : min nothing (step_key s ws) ≡ step_key s ws = omega (arith, step_key-low s ws) in
      task_join (level_of frames) (by_steps (step_key s ws)) nothing nothing (due_key masked quiet s t frames false ws)
      (sym (above-nothing (level_of frames))) e (masked-low masked (step_key s ws) (step_key-low s ws)) (omega arith)
      ∙ ap (λ k. above (level_of frames) (min (by_steps k) nothing)) (sym none)

  pub due-split : (first : Bool) (n : ℕ) (ws : List (ℕ × Interrupt)) → IsRising n ws → due_key masked quiet s t frames first ws ≡ above (level_of frames) (min (by_steps (step_key s ws)) (by_tasks first (task_key t ws)))
  due-split first n [] rise =
      sym (least_none (level_of frames) (by_steps nothing) (by_tasks first nothing) (same_either masked nothing) (same_either (first && (quiet && none_stands frames)) nothing))
  due-split first n (w ∷ ws) (low, small, top, rest) =
      front first w.1.moment w.1.level w.0 ws top small (due-split (first && is_step w.1.moment) (w.0 + 1) ws rest)

-- the number of a key below the bound
pub number-below : (top k : ℕ) → k < (7 - top) * 16384 → number_of (above top k) ≡ Some (k % 16384)
number-below top k h =
    let inside : nat_lt k ((7 - top) * 16384) ≡ true = grind (arith, nat_tests) in
    let some : nat_lt k nothing ≡ true = grind (arith, nat_tests) in
    ap (λ b. number_of (if b then k else nothing)) inside ∙ ap (λ b. if b then Some (k % 16384) else None) some

-- and none of any other
pub number-past : (top k : ℕ) → (7 - top) * 16384 ≤ k → number_of (above top k) ≡ None
number-past top k h =
    let outside : nat_lt k ((7 - top) * 16384) ≡ false = grind (arith, nat_tests) in
    ap (λ b. number_of (if b then k else nothing)) outside

-- the number of the interrupt that enters next
pub due-found : (masked quiet : Bool) (s t : ℕ) (frames : List FrameRecord) (ws : List (ℕ × Interrupt)) (a b : ℕ) → IsRising 0 ws
    → a ≡ (if masked then nothing else step_key s ws) → b ≡ (if quiet && none_stands frames then task_key t ws else nothing)
    → number_of (above (level_of frames) (min a b)) ≡ due_number masked quiet s t frames ws
due-found masked quiet s t frames ws a b rise e f =
    sym (due-number masked quiet s t frames ws rise
    ∙ ap number_of (due-split masked quiet s t frames true 0 ws rise)
    ∙ (ap (λ k. number_of (above (level_of frames) (min k (if quiet && none_stands frames then task_key t ws else nothing)))) (sym e)
    ∙ ap (λ k. number_of (above (level_of frames) (min a k))) (sym f)))
