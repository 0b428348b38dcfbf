-- Prompt entry: an interrupt with a moment in raw steps enters as soon as its moment is there.
use Rattle.std.specs.Prelude.{◌≡◌, ◌⊎◌, ◌<◌, ◌≤◌, ℕ, true, false, Some, None, slice_get}
use Rattle.kern_base.specs.declared.kinds.Method.{Method}
use Rattle.inject_list.specs.declared.lists.Moment.TheVariants.{Step}
use Rattle.machine_model.specs.Frames.{Interrupt, level_of}
use Rattle.machine_model.specs.Due.{Place}
use Rattle.machine_model.specs.Machine.{Machine}
use Rattle.machine_model.specs.Looks.{look_at}
use Rattle.machine_model.specs.Rules.{Enters, rule, is_masked}

-- an interrupt at this place goes before another one: it has a higher level, or the same and an earlier place
abbrev pub GoesBefore : ℕ → ℕ → ℕ → ℕ → Type 0
GoesBefore at level other_at other_level = (other_level < level) ⊎ ((level ≡ other_level) × (at ≤ other_at))

-- the interrupt that enters next: it is this one, or goes before it
pub record EntersBefore (method : Method) (m : Machine) (at : ℕ) (i : Interrupt) : Type 0 where
  pub place : Place
  pub enters : rule method m ≡ Enters place
  pub first : GoesBefore place.at place.interrupt.level at i.level

-- An interrupt that waits at this place, for a raw step that is there, and whose level is above the top frame's, where no look
-- has this moment.
pub record IsWanted (m : Machine) (at : ℕ) (i : Interrupt) (s : ℕ) : Type 0 where
  pub begun : m.begun ≡ true
  pub no_look : look_at m.s m.looks ≡ None
  pub waits : slice_get m.interrupts at ≡ Some i
  pub moment : i.moment ≡ Step s
  pub there : s ≤ m.s
  pub above : level_of m.frames < i.level

-- Unless interrupts are held off, and under the deferred method they never are, it enters, in this very event and also in the
-- middle of a whole step; only one that goes before it may enter first.
abbrev pub EntryIsPrompt : Type 0
EntryIsPrompt = (method : Method) (m : Machine) (at : ℕ) (i : Interrupt) (s : ℕ) → is_masked method m.in_hand ≡ false → IsWanted m at i s → EntersBefore method m at i
