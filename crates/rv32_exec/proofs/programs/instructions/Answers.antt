use Rattle.std.proofs.Common.{◌≡◌, ◌<◌, ◌++◌, ◌∷◌, [], ℕ, arith, subst, sym, length, get_or}
use Rattle.std.specs.Prelude.{Option, Some, None, IfSome}
use Rattle.std.proofs.lemmas.Grind.{common_steps}
use Rattle.std.proofs.lemmas.List.Elements.{All-push}
use Rattle.rv32_isa.specs.Listing.{IsInRange, encoded}
use Rattle.rv32_isa.specs.declared.Instr.{Instr}
use Rattle.rv32_exec.proofs.programs.instructions.Goals as goal

in_range : (word : ℕ) (i : Option Instr) → IfSome i (λ instr. IsInRange instr × (encoded instr ≡ word)) → IfSome i IsInRange
in_range word None h = tt
in_range word (Some instr) h = h.0

pub loop-word-preserved : goal.loop-word-preserved
loop-word-preserved c =
    let i = c.loop-word.invariant in
    let grown : c.push.new.self.items ≡ c.loop-word.instrs.items ++ c.decode.result ∷ [] = grind (arith, common_steps) in
    record {
      instructions = grind (arith, common_steps, i.instructions, c.decode.ensures.value);
      ranges = subst (λ l. (k : ℕ) → (d : Option Instr) → k < length l → IfSome (get_or l k d) IsInRange) (sym grown)
          (All-push (λ x. IfSome x IsInRange) c.loop-word.instrs.items c.decode.result i.ranges (in_range _ c.decode.result c.decode.ensures.row));
    }
