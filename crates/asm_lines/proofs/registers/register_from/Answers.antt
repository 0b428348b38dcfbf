use Rattle.std.proofs.Common.{◌≡◌, ◌∙◌, sym, ap, arith}
use Rattle.asm_lines.specs.Tables.{entry}
use Rattle.asm_lines.specs.Initials.{rows_by}
use Rattle.asm_lines.specs.Registers.{registers}
use Rattle.asm_lines.proofs.InitialLaws.{no_registers}
use Rattle.asm_lines.proofs.registers.register_from.Goals as goal

pub returns-in-97 : goal.returns-in-97
returns-in-97 c =
    let found : c.entry.result ≡ entry c.args.name.now (rows_by 97 registers) = c.entry.ensures in
    found ∙ ap (λ b. entry c.args.name.now (rows_by b registers)) (sym c.in-97.is)

pub returns-in-102 : goal.returns-in-102
returns-in-102 c =
    let found : c.entry-in-102.result ≡ entry c.args.name.now (rows_by 102 registers) = c.entry-in-102.ensures in
    found ∙ ap (λ b. entry c.args.name.now (rows_by b registers)) (sym c.in-102.is)

pub returns-in-103 : goal.returns-in-103
returns-in-103 c =
    let found : c.entry-in-103.result ≡ entry c.args.name.now (rows_by 103 registers) = c.entry-in-103.ensures in
    found ∙ ap (λ b. entry c.args.name.now (rows_by b registers)) (sym c.in-103.is)

pub returns-in-114 : goal.returns-in-114
returns-in-114 c =
    let found : c.entry-in-114.result ≡ entry c.args.name.now (rows_by 114 registers) = c.entry-in-114.ensures in
    found ∙ ap (λ b. entry c.args.name.now (rows_by b registers)) (sym c.in-114.is)

pub returns-in-115 : goal.returns-in-115
returns-in-115 c =
    let found : c.entry-in-115.result ≡ entry c.args.name.now (rows_by 115 registers) = c.entry-in-115.ensures in
    found ∙ ap (λ b. entry c.args.name.now (rows_by b registers)) (sym c.in-115.is)

pub returns-in-116 : goal.returns-in-116
returns-in-116 c =
    let found : c.entry-in-116.result ≡ entry c.args.name.now (rows_by 116 registers) = c.entry-in-116.ensures in
    found ∙ ap (λ b. entry c.args.name.now (rows_by b registers)) (sym c.in-116.is)

pub returns-in-120 : goal.returns-in-120
returns-in-120 c =
    let found : c.entry-in-120.result ≡ entry c.args.name.now (rows_by 120 registers) = c.entry-in-120.ensures in
    found ∙ ap (λ b. entry c.args.name.now (rows_by b registers)) (sym c.in-120.is)

pub returns-in-122 : goal.returns-in-122
returns-in-122 c =
    let found : c.entry-in-122.result ≡ entry c.args.name.now (rows_by 122 registers) = c.entry-in-122.ensures in
    found ∙ ap (λ b. entry c.args.name.now (rows_by b registers)) (sym c.in-122.is)

pub returns-in_default : goal.returns-in_default
returns-in_default c = ap (entry c.args.name.now) (sym (no_registers c.args.first (λ e. omega (arith, e, c.in_default), (λ e. omega (arith, e, c.in_default), (λ e. omega (arith, e, c.in_default), (λ e. omega (arith, e, c.in_default), (λ e. omega (arith, e, c.in_default), (λ e. omega (arith, e, c.in_default), (λ e. omega (arith, e, c.in_default), (λ e. omega (arith, e, c.in_default), tt))))))))))
