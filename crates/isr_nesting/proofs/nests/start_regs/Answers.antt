use Rattle.std.proofs.Common.{◌≡◌, ◌∙◌, ℕ, List, [], ◌∷◌, ◌++◌, length, get_or, ap, sym, refl, rules, arith}
use Rattle.std.specs.Prelude.{replicate, slice_set}
use Rattle.kern_base.specs.Numbers.{leave}
use Rattle.rv32_exec.specs.Registers.{Registers}
use Rattle.isr_nesting.proofs.nests.start_regs.Goals as goal

-- four words by place
four : (ws : List ℕ) → length ws ≡ 4 → ws ≡ get_or ws 0 0 ∷ get_or ws 1 0 ∷ get_or ws 2 0 ∷ get_or ws 3 0 ∷ []
four [] h = absurd (omega arith)
four (a ∷ []) h = absurd (omega arith)
four (a ∷ b ∷ []) h = absurd (omega arith)
four (a ∷ b ∷ d ∷ []) h = absurd (omega arith)
four (a ∷ b ∷ d ∷ e ∷ []) h = refl
four (a ∷ b ∷ d ∷ e ∷ f ∷ rest) h = absurd (omega arith)

-- the registers that are written one after another
written_all : (entry sp : ℕ) (ws : List ℕ) → length ws ≡ 4 → (r0 r1 r2 r3 r4 r5 r6 r7 : Registers) → r0 ≡ record { pc = 0; x = replicate 32 0 } → r1 ≡ record r0 { pc = entry } → r2 ≡ record r1 { x = slice_set r1.x 1 leave } → r3 ≡ record r2 { x = slice_set r2.x 2 sp }
    → r4 ≡ record r3 { x = slice_set r3.x 10 (get_or ws 0 0) } → r5 ≡ record r4 { x = slice_set r4.x 11 (get_or ws 1 0) } → r6 ≡ record r5 { x = slice_set r5.x 12 (get_or ws 2 0) } → r7 ≡ record r6 { x = slice_set r6.x 13 (get_or ws 3 0) }
    → r7 ≡ record { pc = entry; x = 0 ∷ leave ∷ sp ∷ replicate 7 0 ++ ws ++ replicate 18 0 }
written_all entry sp ws long r0 r1 r2 r3 r4 r5 r6 r7 e0 e1 e2 e3 e4 e5 e6 e7 =
    e7
    ∙ ap (λ (r : Registers). let n : Registers = record r { x = slice_set r.x 13 (get_or ws 3 0) } in n) (e6
    ∙ ap (λ (r : Registers). let n : Registers = record r { x = slice_set r.x 12 (get_or ws 2 0) } in n) (e5
    ∙ ap (λ (r : Registers). let n : Registers = record r { x = slice_set r.x 11 (get_or ws 1 0) } in n) (e4
    ∙ ap (λ (r : Registers). let n : Registers = record r { x = slice_set r.x 10 (get_or ws 0 0) } in n) (e3
    ∙ ap (λ (r : Registers). let n : Registers = record r { x = slice_set r.x 2 sp } in n) (e2
    ∙ ap (λ (r : Registers). let n : Registers = record r { x = slice_set r.x 1 leave } in n) (e1
    ∙ ap (λ (r : Registers). let n : Registers = record r { pc = entry } in n) e0))))))
    ∙ ap (λ l. let n : Registers = record { pc = entry; x = 0 ∷ leave ∷ sp ∷ replicate 7 0 ++ l ++ replicate 18 0 } in n) (sym (four ws long))

pub returns : goal.returns
returns c =
    let i = c.args.recorded.now in
    let long : length i.words ≡ 4 = search rules in
    written_all i.entry i.sp i.words long c.new-regs.result c.set_pc.new.self c.set.new.self c.set-2.new.self c.set-3.new.self c.set-4.new.self c.set-5.new.self c.set-6.new.self
    c.new-regs.ensures c.set_pc.ensures c.set.ensures c.set-2.ensures c.set-3.ensures c.set-4.ensures c.set-5.ensures c.set-6.ensures
