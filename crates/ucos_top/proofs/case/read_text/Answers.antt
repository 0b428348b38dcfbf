use Rattle.std.proofs.Common.{◌≤◌, ◌+◌, length, arith}
use Rattle.rv32_asm.proofs.TokenCount.{token_count}
use Rattle.ucos_top.proofs.UsedLaws.{used_few}
use Rattle.ucos_top.proofs.case.read_text.Goals as goal

-- a text has few tokens
pub offset_bounds-deref-used : goal.offset_bounds-deref-used
offset_bounds-deref-used c =
    let used : c.in-Ok.used ≤ length c.deref.result.now = used_few c.args.text.now c.deref.result.now c.in-Ok.raw c.in-Ok.used c.in-Ok.ensures.image in
    let count : length c.in_ok-tokens.tokens.items ≤ length c.args.text.now + 1 = token_count c.args.text.now c.in_ok-tokens.tokens.items c.in_ok-tokens.ensures.tokens in
    omega (arith, used, count, c.deref.ensures.len, c.requires)
