use Rattle.std.proofs.Common.{◌≡◌, ◌<◌, ◌-◌, ◌∙◌, ℕ, false, List, [], ◌∷◌, Option, Some, ap, sym, arith, length, map, get_or}
use Rattle.std.specs.Prelude.{reverse, slice_get, option_map}
use Rattle.std.proofs.lemmas.List.{get_or-map, get_or-reverse, length-map, length-reverse}
use Rattle.std.proofs.lemmas.Option.{slice_get-get_or}
use Rattle.rv32_exec.specs.Exec.{exec}
use Rattle.rv32_exec.specs.declared.Stepped.{Stepped}
use Rattle.machine_model.specs.Frames.{FrameRecord, none_stands}
use Rattle.isr_nesting.specs.FrameView.{frame_record, stack_of}
use Rattle.isr_nesting.specs.declared.Frame.{Frame}
use Rattle.isr_nesting.proofs.stacks.Stack.run.Goals as goal

some : (fs : List Frame) → none_stands (stack_of fs) ≡ false → 0 < length fs
some [] s = cc
some (f ∷ fs) s = omega arith

-- the top frame is the last one
top : (fs : List Frame) (at : ℕ) (d : Frame) → none_stands (stack_of fs) ≡ false → at ≡ length fs - 1 → slice_get (stack_of fs) 0 ≡ Some (frame_record (get_or fs at d))
top fs at d s e =
    let xs = map frame_record fs in
    let stands = some fs s in
    let size : length xs ≡ length fs = length-map fs frame_record in
    let place : length xs - 1 - 0 ≡ at = omega (arith, size, e) in
    slice_get-get_or (reverse xs) 0 (frame_record d) (omega (arith, stands, size, length-reverse xs))
    ∙ ap Some (get_or-reverse xs 0 (frame_record d) (omega (arith, stands, size)) ∙ ap (λ i. get_or xs i (frame_record d)) place ∙ get_or-map frame_record fs at d (frame_record d) (omega (arith, stands, e)))

told : (code memory : List ℕ) (fs l : List Frame) (at : ℕ) (d : Frame) (o : Option FrameRecord) (s : Stepped) → l ≡ fs → o ≡ Some (frame_record (get_or fs at d)) → s ≡ (exec code (get_or l at d).regs memory).did → option_map (λ f. (exec code f.registers memory).did) o ≡ Some s
told code memory fs l at d o s e t h =
    ap (option_map (λ (f : FrameRecord). (exec code f.registers memory).did)) t ∙ ap Some (sym (h ∙ ap (λ (q : List Frame). (exec code (get_or q at d).regs memory).did) e))

pub returns-clause-did : goal.returns-clause-did
returns-clause-did c =
    let fs = c.self.inside.frames.items in
    let stands : none_stands (stack_of fs) ≡ false = ap none_stands c.self.view_is ∙ c.requires in
    told c.args.program.now c.args.ram.now fs c.deref_mut.result.now (c.len-at.result - 1) c.index-deref_mut-at.result _ c.step.result c.deref_mut.ensures.value
    (ap (λ l. slice_get l 0) (sym c.self.view_is) ∙ top fs (c.len-at.result - 1) c.index-deref_mut-at.result stands (omega (arith, c.len-at.ensures.value)))
    c.step.ensures.execution.did
