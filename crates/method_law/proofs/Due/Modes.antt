-- Which interrupt is due in each mode.
use Rattle.machine_laws.proofs.Common.{◌≡◌, Bool, ℕ, refl, true, List, [], false, ◌∙◌, ◌∷◌, None, Some, sym, arith, Option, ap, ◌≤◌, ◌+◌, if◌then◌else◌, ◌&&◌, nat_lt, nat_le, false≢true, Registers, due, Place, is_step, FrameRecord, Interrupt}
use Rattle.std.proofs.lemmas.Bool.{and_parts, and_from, leb-true, le-leb, false_from_ne_true}
use Rattle.inject_list.specs.declared.lists.Moment.{Moment}
use Rattle.inject_list.specs.declared.lists.Moment.TheVariants.{Task, Step}
use Rattle.machine_model.specs.Due.{lets_in, due_from, highest}
use Rattle.method_law.proofs.Due.Alike.{due-alike}

-- no interrupt that is due enters by raw steps
abbrev pub NoneBySteps : Option Place → Type 0
NoneBySteps o = (p : Place) → o ≡ Some p → is_step p.interrupt.moment ≡ false

-- masked, none is due
none-lets : (s t : ℕ) (first : Bool) (moment : Moment) (level : ℕ) → lets_in true false s t [] first moment level ≡ true → ⊥
none-lets s t first (Step moment) level e = false≢true e
none-lets s t first (Task moment) level e = false≢true (and_parts first false e).1

none-due_from : (s t : ℕ) (first : Bool) (at : ℕ) (is : List Interrupt) → due_from true false s t [] first at is ≡ []
none-due_from s t first at [] = refl
none-due_from s t first at (i ∷ is) =
    let p : Place = record { at = at; interrupt = i } in
    let rest = due_from true false s t [] (first && is_step i.moment) (at + 1) is in
    ap (λ b. if b then p ∷ rest else rest) (false_from_ne_true (lets_in true false s t [] first i.moment i.level) (none-lets s t first i.moment i.level))
    ∙ none-due_from s t (first && is_step i.moment) (at + 1) is

pub masked-none : (s t : ℕ) (is : List Interrupt) → due true false s t [] is ≡ None
masked-none s t is = ap highest (none-due_from s t true 0 is)

-- Where no moment in task steps lets an interrupt in, and none enters by raw steps, none is due.
no-task-none : (quiet : Bool) (s t : ℕ) (frames : List FrameRecord) (is : List Interrupt)
    → ((first : Bool) (moment level : ℕ) → lets_in false quiet s t frames first (Task moment) level ≡ true → ⊥)
    → NoneBySteps (due false quiet s t frames is) → due false quiet s t frames is ≡ None
no-task-none quiet s t frames is none h =
    let alike : (first : Bool) (moment : Moment) (level : ℕ) → is_step moment ≡ false → lets_in false quiet s t frames first moment level ≡ true → lets_in true false s t [] first moment level ≡ true
    = λ first m. elim m as (λ (n : Moment). (level : ℕ) → is_step n ≡ false → lets_in false quiet s t frames first n level ≡ true → lets_in true false s t [] first n level ≡ true) [
      | Task n ↦ λ level i e. absurd (none first n level e)
      | Step n ↦ λ level i e. absurd (false≢true (sym i))
    ] in
    sym (due-alike false quiet s t frames true false s t [] (λ first m level e. absurd (none-lets s t first m level e)) alike is h) ∙ masked-none s t is

-- with something in hand, or a post that may be taken
pub busy-none : (s t : ℕ) (is : List Interrupt) → NoneBySteps (due false false s t [] is) → due false false s t [] is ≡ None
busy-none s t is h = no-task-none false s t [] is (λ first moment level e. false≢true (and_parts first false e).1) h

-- while a frame stands
frame-no_task : (quiet : Bool) (s t : ℕ) (f : FrameRecord) (first : Bool) (moment level : ℕ) → lets_in false quiet s t (f ∷ []) first (Task moment) level ≡ true → ⊥
frame-no_task quiet s t f first moment level e =
    let rest = nat_le moment t && false in
    false≢true (and_parts (nat_le moment t) false (and_parts quiet rest (and_parts first (quiet && rest) e).1).1).1

pub frame-none : (quiet : Bool) (s t : ℕ) (f : FrameRecord) (is : List Interrupt) → NoneBySteps (due false quiet s t (f ∷ []) is) → due false quiet s t (f ∷ []) is ≡ None
frame-none quiet s t f is h = no-task-none quiet s t (f ∷ []) is (frame-no_task quiet s t f) h

-- fewer raw steps let in no more
steps-fewer : (low high at level top : ℕ) → low ≤ high → (nat_le at low && nat_lt top level) ≡ true → (nat_le at high && nat_lt top level) ≡ true
steps-fewer low high at level top l e =
    let parts = and_parts (nat_le at low) (nat_lt top level) e in
    and_from (nat_le at high) (nat_lt top level) (le-leb at high (omega (arith, leb-true at low parts.0, l))) parts.1

-- the same is due with no frame and nothing in hand
pub task_level-alike : (low high t : ℕ) (is : List Interrupt) → low ≤ high → NoneBySteps (due false true high t [] is) → due false true low t [] is ≡ due false true high t [] is
task_level-alike low high t is l h =
    let fewer : (first : Bool) (moment : Moment) (level : ℕ) → lets_in false true low t [] first moment level ≡ true → lets_in false true high t [] first moment level ≡ true
    = λ first m. elim m as (λ (n : Moment). (level : ℕ) → lets_in false true low t [] first n level ≡ true → lets_in false true high t [] first n level ≡ true) [
      | Task n ↦ λ level e. e
      | Step n ↦ λ level e. steps-fewer low high n level 0 l e
    ] in
    let alike : (first : Bool) (moment : Moment) (level : ℕ) → is_step moment ≡ false → lets_in false true high t [] first moment level ≡ true → lets_in false true low t [] first moment level ≡ true
    = λ first m. elim m as (λ (n : Moment). (level : ℕ) → is_step n ≡ false → lets_in false true high t [] first n level ≡ true → lets_in false true low t [] first n level ≡ true) [
      | Task n ↦ λ level i e. e
      | Step n ↦ λ level i e. absurd (false≢true (sym i))
    ] in
    due-alike false true high t [] false true low t [] fewer alike is h

-- and under a frame of the same level
pub frame-alike : (quiet other : Bool) (low high t : ℕ) (f : FrameRecord) (registers : Registers) (is : List Interrupt) → low ≤ high → NoneBySteps (due false quiet high t (f ∷ []) is)
    → due false other low t (record f { registers = registers } ∷ []) is ≡ None
frame-alike quiet other low high t f registers is l h =
    let g : FrameRecord = record f { registers = registers } in
    let fewer : (first : Bool) (moment : Moment) (level : ℕ) → lets_in false other low t (g ∷ []) first moment level ≡ true → lets_in false quiet high t (f ∷ []) first moment level ≡ true
    = λ first m. elim m as (λ (n : Moment). (level : ℕ) → lets_in false other low t (g ∷ []) first n level ≡ true → lets_in false quiet high t (f ∷ []) first n level ≡ true) [
      | Task n ↦ λ level e. absurd (frame-no_task other low t g first n level e)
      | Step n ↦ λ level e. steps-fewer low high n level f.level l e
    ] in
    let alike : (first : Bool) (moment : Moment) (level : ℕ) → is_step moment ≡ false → lets_in false quiet high t (f ∷ []) first moment level ≡ true → lets_in false other low t (g ∷ []) first moment level ≡ true
    = λ first m. elim m as (λ (n : Moment). (level : ℕ) → is_step n ≡ false → lets_in false quiet high t (f ∷ []) first n level ≡ true → lets_in false other low t (g ∷ []) first n level ≡ true) [
      | Task n ↦ λ level i e. absurd (frame-no_task quiet high t f first n level e)
      | Step n ↦ λ level i e. absurd (false≢true (sym i))
    ] in
    due-alike false quiet high t (f ∷ []) false other low t (g ∷ []) fewer alike is h ∙ frame-none quiet high t f is h
