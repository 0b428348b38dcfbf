-- The top frame, where one stands.
use Rattle.std.specs.Prelude.{drop, if◌then◌else◌, option_map, slice_get, IfSome, ◌-◌, ◌^◌}
use Rattle.std.proofs.Common.{◌≡◌, ◌<◌, ◌+◌, ◌∙◌, ℕ, Bool, true, false, List, [], ◌∷◌, Some, refl, ap}
use Rattle.kern_base.specs.declared.services.Service.{Service}
use Rattle.kern_base.specs.declared.errors.OsErr.TheVariants.{CallUnknown}
use Rattle.served.specs.Served.{program_serves}
use Rattle.kern_base.specs.declared.outcomes.Answer.{Answer}
use Rattle.kern_base.specs.Tables.{KindTable}
use Rattle.kern_base.specs.Services.{interrupt_error, is_post, service_of}
use Rattle.rv32_exec.specs.Registers.{Registers, read}
use Rattle.rv32_exec.specs.Exec.{exec}
use Rattle.machine_model.specs.Frames.{FrameRecord, Interrupt, none_stands}
use Rattle.machine_model.specs.Interrupts.{argument_words, ran}
use Rattle.isr_nesting.specs.Nest.{Nest}
use Rattle.isr_nesting.specs.FrameView.{with_top}
use Rattle.machine_core.specs.FrameCalls.{FrameCall, called_by, post_call, refused_call, top_of, top_called}

pub stands-top : (fs : List FrameRecord) → none_stands fs ≡ false → fs ≡ top_of fs ∷ drop 1 fs
stands-top [] s = cc
stands-top (f ∷ fs) s = refl

-- what is read of it
pub of-top : {X : Type 0} (g : FrameRecord → X) (fs : List FrameRecord) (x : X) → none_stands fs ≡ false → option_map g (slice_get fs 0) ≡ Some x → x ≡ g (top_of fs)
of-top g [] x s e = cc
of-top g (f ∷ fs) x s e = cc

pub room-top : (fs : List FrameRecord) → (top_of fs).used < 2 ^ 32 - 1 → IfSome (slice_get fs 0) (λ f. f.used < 2 ^ 32 - 1)
room-top [] h = tt
room-top (f ∷ fs) h = h

-- the top frame is changed
with_top-of : (g : FrameRecord → FrameRecord) (fs : List FrameRecord) → none_stands fs ≡ false → with_top g fs ≡ g (top_of fs) ∷ drop 1 fs
with_top-of g [] s = cc
with_top-of g (f ∷ fs) s = refl

-- the frames once the top one has run an instruction
pub ran-nest : (code memory : List ℕ) (n m : Nest) → none_stands n.frames ≡ false → m ≡ record n { frames = with_top (λ g. record g { registers = (exec code g.registers memory).registers }) n.frames }
    → m ≡ record { frames = record (top_of n.frames) { registers = (exec code (top_of n.frames).registers memory).registers } ∷ drop 1 n.frames; waiting = n.waiting }
ran-nest code memory n m s e =
    e ∙ ap (λ fs. let q : Nest = record { frames = fs; waiting = n.waiting } in q) (with_top-of (λ g. record g { registers = (exec code g.registers memory).registers }) n.frames s)

-- What follows it.
module _ (f : FrameRecord) (regs : Registers) (below : List FrameRecord) (waiting : List (ℕ × Interrupt)) (n : Nest) (ran_is : n ≡ record { frames = record f { registers = regs } ∷ below; waiting = waiting }) where
  pub ran-stands : none_stands n.frames ≡ false
  ran-stands = rw ran_is refl

  pub ran-used : (top_of n.frames).used ≡ f.used
  ran-used = rw ran_is refl

  pub ran-vector : (top_of n.frames).vector ≡ f.vector
  ran-vector = rw ran_is refl

  pub ran-registers : (top_of n.frames).registers ≡ regs
  ran-registers = rw ran_is refl

  -- it is counted
  pub counted : (m : Nest) (marks : List ℕ) → m ≡ record n { frames = with_top (λ g. record g { used = g.used + 1; marks = marks }) n.frames } → m ≡ record { frames = ran f regs marks ∷ below; waiting = waiting }
  counted m marks e = e ∙ rw ran_is refl

  -- or the frame leaves
  pub left : (m : Nest) → m ≡ record n { frames = drop 1 n.frames } → m ≡ record { frames = below; waiting = waiting }
  left m e = e ∙ rw ran_is refl

  -- or it calls
  module _ {X : Type 0} (way : Service → List ℕ → X → Answer × X) (kinds : KindTable) (x : X) where
    called-same : (s : Service) (args : List ℕ) → called_by way kinds s args (record f { registers = regs }) regs x ≡ called_by way kinds s args f regs x
    called-same s args = by (program_serves s) (is_post s)
      where
        g : FrameRecord
        g = record f { registers = regs }

        by : (b c : Bool) → (if b then (if c then post_call way kinds s args g regs x else refused_call way kinds s (interrupt_error s) g regs x) else refused_call way kinds s CallUnknown g regs x)
            ≡ (if b then (if c then post_call way kinds s args f regs x else refused_call way kinds s (interrupt_error s) f regs x) else refused_call way kinds s CallUnknown f regs x)
        by true true = refl
        by true false = refl
        by false c = refl

    pub called-is : top_called way kinds n.frames x ≡ called_by way kinds (service_of (read regs 17)) (argument_words regs) f regs x
    called-is = ap (λ (m : Nest). top_called way kinds m.frames x) ran_is ∙ called-same (service_of (read regs 17)) (argument_words regs)

    pub called-nest : (m : Nest) → m ≡ record n { frames = (top_called way kinds n.frames x).frame ∷ drop 1 n.frames } → m ≡ record { frames = (called_by way kinds (service_of (read regs 17)) (argument_words regs) f regs x).frame ∷ below; waiting = waiting }
    called-nest m e =
        e ∙ ap (λ (c : FrameCall X). record n { frames = c.frame ∷ drop 1 n.frames }) called-is
        ∙ ap (λ (q : Nest). let r : Nest = record { frames = (called_by way kinds (service_of (read regs 17)) (argument_words regs) f regs x).frame ∷ drop 1 q.frames; waiting = q.waiting } in r) ran_is
