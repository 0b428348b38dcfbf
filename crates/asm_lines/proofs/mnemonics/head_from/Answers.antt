use Rattle.std.proofs.Common.{◌≡◌, ◌∙◌, sym, ap, arith}
use Rattle.asm_lines.specs.Tables.{entry}
use Rattle.asm_lines.specs.Initials.{rows_by}
use Rattle.asm_lines.specs.Mnemonics.{heads}
use Rattle.asm_lines.proofs.InitialLaws.{no_heads}
use Rattle.asm_lines.proofs.mnemonics.head_from.Goals as goal

pub returns-in-46 : goal.returns-in-46
returns-in-46 c =
    let found : c.entry.result ≡ entry c.args.name.now (rows_by 46 heads) = c.entry.ensures in
    found ∙ ap (λ b. entry c.args.name.now (rows_by b heads)) (sym c.in-46.is)

pub returns-in-97 : goal.returns-in-97
returns-in-97 c =
    let found : c.entry-in-97.result ≡ entry c.args.name.now (rows_by 97 heads) = c.entry-in-97.ensures in
    found ∙ ap (λ b. entry c.args.name.now (rows_by b heads)) (sym c.in-97.is)

pub returns-in-98 : goal.returns-in-98
returns-in-98 c =
    let found : c.entry-in-98.result ≡ entry c.args.name.now (rows_by 98 heads) = c.entry-in-98.ensures in
    found ∙ ap (λ b. entry c.args.name.now (rows_by b heads)) (sym c.in-98.is)

pub returns-in-99 : goal.returns-in-99
returns-in-99 c =
    let found : c.entry-in-99.result ≡ entry c.args.name.now (rows_by 99 heads) = c.entry-in-99.ensures in
    found ∙ ap (λ b. entry c.args.name.now (rows_by b heads)) (sym c.in-99.is)

pub returns-in-100 : goal.returns-in-100
returns-in-100 c =
    let found : c.entry-in-100.result ≡ entry c.args.name.now (rows_by 100 heads) = c.entry-in-100.ensures in
    found ∙ ap (λ b. entry c.args.name.now (rows_by b heads)) (sym c.in-100.is)

pub returns-in-101 : goal.returns-in-101
returns-in-101 c =
    let found : c.entry-in-101.result ≡ entry c.args.name.now (rows_by 101 heads) = c.entry-in-101.ensures in
    found ∙ ap (λ b. entry c.args.name.now (rows_by b heads)) (sym c.in-101.is)

pub returns-in-102 : goal.returns-in-102
returns-in-102 c =
    let found : c.entry-in-102.result ≡ entry c.args.name.now (rows_by 102 heads) = c.entry-in-102.ensures in
    found ∙ ap (λ b. entry c.args.name.now (rows_by b heads)) (sym c.in-102.is)

pub returns-in-106 : goal.returns-in-106
returns-in-106 c =
    let found : c.entry-in-106.result ≡ entry c.args.name.now (rows_by 106 heads) = c.entry-in-106.ensures in
    found ∙ ap (λ b. entry c.args.name.now (rows_by b heads)) (sym c.in-106.is)

pub returns-in-108 : goal.returns-in-108
returns-in-108 c =
    let found : c.entry-in-108.result ≡ entry c.args.name.now (rows_by 108 heads) = c.entry-in-108.ensures in
    found ∙ ap (λ b. entry c.args.name.now (rows_by b heads)) (sym c.in-108.is)

pub returns-in-109 : goal.returns-in-109
returns-in-109 c =
    let found : c.entry-in-109.result ≡ entry c.args.name.now (rows_by 109 heads) = c.entry-in-109.ensures in
    found ∙ ap (λ b. entry c.args.name.now (rows_by b heads)) (sym c.in-109.is)

pub returns-in-110 : goal.returns-in-110
returns-in-110 c =
    let found : c.entry-in-110.result ≡ entry c.args.name.now (rows_by 110 heads) = c.entry-in-110.ensures in
    found ∙ ap (λ b. entry c.args.name.now (rows_by b heads)) (sym c.in-110.is)

pub returns-in-111 : goal.returns-in-111
returns-in-111 c =
    let found : c.entry-in-111.result ≡ entry c.args.name.now (rows_by 111 heads) = c.entry-in-111.ensures in
    found ∙ ap (λ b. entry c.args.name.now (rows_by b heads)) (sym c.in-111.is)

pub returns-in-114 : goal.returns-in-114
returns-in-114 c =
    let found : c.entry-in-114.result ≡ entry c.args.name.now (rows_by 114 heads) = c.entry-in-114.ensures in
    found ∙ ap (λ b. entry c.args.name.now (rows_by b heads)) (sym c.in-114.is)

pub returns-in-115 : goal.returns-in-115
returns-in-115 c =
    let found : c.entry-in-115.result ≡ entry c.args.name.now (rows_by 115 heads) = c.entry-in-115.ensures in
    found ∙ ap (λ b. entry c.args.name.now (rows_by b heads)) (sym c.in-115.is)

pub returns-in-120 : goal.returns-in-120
returns-in-120 c =
    let found : c.entry-in-120.result ≡ entry c.args.name.now (rows_by 120 heads) = c.entry-in-120.ensures in
    found ∙ ap (λ b. entry c.args.name.now (rows_by b heads)) (sym c.in-120.is)

pub returns-in_default : goal.returns-in_default
returns-in_default c = ap (entry c.args.name.now) (sym (no_heads c.args.first (λ e. omega (arith, e, c.in_default), (λ e. omega (arith, e, c.in_default), (λ e. omega (arith, e, c.in_default), (λ e. omega (arith, e, c.in_default), (λ e. omega (arith, e, c.in_default), (λ e. omega (arith, e, c.in_default), (λ e. omega (arith, e, c.in_default), (λ e. omega (arith, e, c.in_default), (λ e. omega (arith, e, c.in_default), (λ e. omega (arith, e, c.in_default), (λ e. omega (arith, e, c.in_default), (λ e. omega (arith, e, c.in_default), (λ e. omega (arith, e, c.in_default), (λ e. omega (arith, e, c.in_default), (λ e. omega (arith, e, c.in_default), tt)))))))))))))))))
