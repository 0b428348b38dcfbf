use Rattle.std.proofs.Common.{get_or, arith}
use Rattle.rv32_listing.specs.declared.pieces.Operand.TheVariants.{Register}
use Rattle.rv32_listing.proofs.Pushed.{room_more, some_room}
use Rattle.rv32_listing.proofs.pieces.push_further.Goals as goal

-- there is room for the comma and the blank before the next operand
pub push_bytes-requires : goal.push_bytes-requires
push_bytes-requires c =
    let operands = c.args.operands.now in
    let i = c.loop-operand.operand-index in
    let next = get_or operands i (Register 0) in
    let more = room_more operands i (Register 0) c.loop-operand-test.true in
    let some = some_room next in
    let within = c.loop-operand.invariant.0 in
    record { room = omega (arith, more, some, within, c.requires.room) }
