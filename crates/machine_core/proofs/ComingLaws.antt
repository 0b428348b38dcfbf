-- Which interrupt comes, and what goes on where none does.
use Rattle.std.specs.List.{Contains}
use Rattle.machine_laws.proofs.Lemmas.{due-is}
use Rattle.std.specs.Prelude.{is_some, IsSomeAnd, ◌&&◌, not, nat_le, is_none, option_map, slice_get, drop}
use Rattle.std.proofs.Common.{◌≡◌, inl, inr, ◌<◌, ◌≤◌, ℕ, Bool, true, false, List, [], ◌∷◌, Option, Some, None, refl, sym, ap, ◌∙◌, arith}
use Rattle.std.proofs.lemmas.Bool.Decides.{leb_tells}
use Rattle.kern_base.specs.declared.kinds.Method.{Method}
use Rattle.kern_base.specs.declared.kinds.Method.TheVariants.{Direct, Deferred}
use Rattle.machine_model.specs.Frames.{FrameRecord, level_of}
use Rattle.machine_model.specs.Due.{Place, due, taken_at}
use Rattle.machine_model.specs.Looks.{look_at}
use Rattle.isr_nesting.specs.Nest.{IsRising, due_number, interrupts, number_at, waiting_at, without_number}
use Rattle.isr_nesting.proofs.EnterLaws.{MayEnter, due-enters}
use Rattle.kernel_calls.specs.Works.{WorkRecord}
use Rattle.machine_core.specs.MachineView.{Parts}
use Rattle.machine_model.specs.Machine.{Machine, WholeStep}
use Rattle.machine_model.specs.Settling.{is_free}
use Rattle.machine_model.specs.Rules.{Enters, FrameLimit, FrameRuns, rule, rule_of_due, rule_of_frames, is_masked, is_quiet, may_take}
use Rattle.machine_core.specs.MethodMachine.{MethodMachine}
use Rattle.machine_core.specs.MachineView.{machine_of, method_machine_of, hand_of}
use Rattle.machine_core.specs.Valid.{is_direct}

-- whether nothing is in hand
pub free-is : (o : Option WorkRecord) → is_free (hand_of o) ≡ is_none o
free-is None = refl
free-is (Some h) = refl

masked-is : (d : Method) (free : Bool) (hand : Option WholeStep) → is_free hand ≡ free → is_masked d hand ≡ (not free && is_direct d)
masked-is Direct true hand e = rw e refl
masked-is Direct false hand e = rw e refl
masked-is Deferred true hand e = refl
masked-is Deferred false hand e = refl

-- what is due is asked for by whether nothing is in hand, and whether a post can be taken
due-asked : (a : Parts) (free : Bool) → free ≡ is_none a.kernel.hand → due (is_masked a.method (hand_of a.kernel.hand)) (is_quiet (machine_of a)) a.s a.t a.frames.frames (interrupts a.frames) ≡ due (not free && is_direct a.method) (free && not (may_take (machine_of a))) a.s a.t a.frames.frames (interrupts a.frames)
due-asked a free e =
    let same : is_free (hand_of a.kernel.hand) ≡ free = free-is a.kernel.hand ∙ sym e in
    ap (λ (b : Bool). due (is_masked a.method (hand_of a.kernel.hand)) (b && not (may_take (machine_of a))) a.s a.t a.frames.frames (interrupts a.frames)) same
    ∙ ap (λ (b : Bool). due b (free && not (may_take (machine_of a))) a.s a.t a.frames.frames (interrupts a.frames)) (masked-is a.method free (hand_of a.kernel.hand) same)

-- What was asked before it is told which interrupt is due.
pub record Asked (a : Parts) (free masked quiet : Bool) : Type 0 where
  pub begun : a.begun ≡ true
  pub no_look : look_at a.s a.looks ≡ None
  pub free_is : free ≡ is_none a.kernel.hand
  pub masked_is : masked ≡ (not free && is_direct a.method)
  pub quiet_is : quiet ≡ (free && not (may_take (machine_of a)))

pub asked : (m : MethodMachine) (a : Parts) (free masked quiet : Bool) → method_machine_of a ≡ m → m.state.begun ≡ true → look_at m.state.s m.state.looks ≡ None → free ≡ is_none a.kernel.hand → masked ≡ (not free && is_direct m.method) → quiet ≡ (free && not (may_take m.state)) → Asked a free masked quiet
asked m a free masked quiet is begun no_look f k q =
    record { begun = rw (← is) at begun; no_look = rw (← is) at no_look; free_is = f; masked_is = rw (← is) at k; quiet_is = rw (← is) at q }

by_due : (a : Parts) (free masked quiet : Bool) (o : Option Place) → Asked a free masked quiet → due masked quiet a.s a.t a.frames.frames (interrupts a.frames) ≡ o → rule a.method (machine_of a) ≡ rule_of_due o (machine_of a)
by_due a free masked quiet o q d =
    let first : rule a.method (machine_of a) ≡ rule_of_due (due (is_masked a.method (hand_of a.kernel.hand)) (is_quiet (machine_of a)) a.s a.t a.frames.frames (interrupts a.frames)) (machine_of a) = rw (q.begun, q.no_look) refl in
    let told : due (not free && is_direct a.method) (free && not (may_take (machine_of a))) a.s a.t a.frames.frames (interrupts a.frames) ≡ o = rw (q.masked_is, q.quiet_is) at d in
    first ∙ ap (λ (p : Option Place). rule_of_due p (machine_of a)) (due-asked a free q.free_is ∙ told)

-- This interrupt comes.
pub record Comes (a : Parts) (number : ℕ) : Type 0 where
  pub place : Place
  pub rule_is : rule a.method (machine_of a) ≡ Enters place
  pub waits : waiting_at number a.frames.waiting ≡ Some place.interrupt
  pub above : level_of a.frames.frames < place.interrupt.level
  pub there : Contains (interrupts a.frames) place.interrupt
  pub taken : interrupts (record { frames = []; waiting = without_number number a.frames.waiting }) ≡ taken_at place.at (interrupts a.frames)

pub it-comes : (a : Parts) (free masked quiet : Bool) (number : ℕ) → Asked a free masked quiet → IsRising 0 a.frames.waiting → due_number masked quiet a.s a.t a.frames.frames a.frames.waiting ≡ Some number → Comes a number
it-comes a free masked quiet number q rise d = by (due masked quiet a.s a.t a.frames.frames (interrupts a.frames)) refl d
  where
    by : (o : Option Place) → due masked quiet a.s a.t a.frames.frames (interrupts a.frames) ≡ o → option_map (λ p. number_at p.at a.frames.waiting) o ≡ Some number → Comes a number
    by None f g = cc
    by (Some p) f g =
        let may : MayEnter a.frames.frames a.frames.waiting p = due-enters masked quiet a.s a.t a.frames.frames a.frames.waiting p rise f in
        let same : number_at p.at a.frames.waiting ≡ number = cc in
        record {
          place = p;
          rule_is = by_due a free masked quiet (Some p) q f;
          waits = rw same at may.interrupt;
          above = may.above;
          there = (due-is masked quiet a.s a.t a.frames.frames (interrupts a.frames) p f).there;
          taken = rw same at may.taken;
        }

-- none does
pub none-comes : (a : Parts) (free masked quiet : Bool) → Asked a free masked quiet → due_number masked quiet a.s a.t a.frames.frames a.frames.waiting ≡ None → rule a.method (machine_of a) ≡ rule_of_frames a.frames.frames (machine_of a)
none-comes a free masked quiet q d = by (due masked quiet a.s a.t a.frames.frames (interrupts a.frames)) refl d
  where
    by : (o : Option Place) → due masked quiet a.s a.t a.frames.frames (interrupts a.frames) ≡ o → option_map (λ p. number_at p.at a.frames.waiting) o ≡ None → rule a.method (machine_of a) ≡ rule_of_frames a.frames.frames (machine_of a)
    by None f g = by_due a free masked quiet None q f
    by (Some p) f g = cc

pub may-enter : (a : Parts) (number : ℕ) → Comes a number → IsSomeAnd (waiting_at number a.frames.waiting) (λ i. level_of a.frames.frames < i.level)
may-enter a number c = rw c.waits c.above

-- what the code asks: whether something is in hand
pub free-told : (o : Option WorkRecord) (free : Bool) → is_some o ≡ not free → free ≡ is_none o
free-told o true e = rw e refl
free-told o false e = rw e refl

-- Frames by their top.

pub top-is : (fs : List FrameRecord) (f : FrameRecord) → slice_get fs 0 ≡ Some f → fs ≡ f ∷ drop 1 fs
top-is [] f e = cc
top-is (g ∷ fs) f e = let same : g ≡ f = cc in rw same refl

at_limit : (limit used : ℕ) → limit ≤ used → nat_le limit used ≡ true
at_limit limit used h = elim (leb_tells limit used) [ inl e ↦ e.0 | inr e ↦ absurd (omega (arith, e.1, h)) ]

below_limit : (limit used : ℕ) → used < limit → nat_le limit used ≡ false
below_limit limit used h = elim (leb_tells limit used) [ inl e ↦ absurd (omega (arith, e.1, h)) | inr e ↦ e.0 ]

-- the top frame has run as many instructions as it may
pub leaves-at-limit : (d : Method) (m : Machine) (f : FrameRecord) (below : List FrameRecord) → rule d m ≡ rule_of_frames m.frames m → m.frames ≡ f ∷ below → m.config.isr_limit ≤ f.used → rule d m ≡ FrameLimit f below
leaves-at-limit d m f below r e h = r ∙ ap (λ (fs : List FrameRecord). rule_of_frames fs m) e ∙ rw (at_limit m.config.isr_limit f.used h) refl

-- or it runs another one
pub runs-another : (d : Method) (m : Machine) (f : FrameRecord) (below : List FrameRecord) → rule d m ≡ rule_of_frames m.frames m → m.frames ≡ f ∷ below → f.used < m.config.isr_limit → rule d m ≡ FrameRuns f below
runs-another d m f below r e h = r ∙ ap (λ (fs : List FrameRecord). rule_of_frames fs m) e ∙ rw (below_limit m.config.isr_limit f.used h) refl
