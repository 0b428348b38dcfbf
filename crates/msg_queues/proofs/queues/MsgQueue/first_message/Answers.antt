use Rattle.std.proofs.Common.{◌≡◌, ap, sym, ◌∙◌, Some, None}
use Rattle.std.specs.Prelude.{slice_get}
use Rattle.std.specs.Option.{option_copied}
use Rattle.msg_queues.specs.Stored.{Queue}
use Rattle.msg_queues.proofs.KeyLaws.{first-message, no-message}
use Rattle.msg_queues.proofs.queues.MsgQueue.first_message.Goals as goal

pub returns-in-Some : goal.returns-in-Some
returns-in-Some c =
    let keys = c.args.self.now.keys in
    let front : slice_get keys 0 ≡ Some c.in-Some.key.now =
    ap (λ (q : Queue). slice_get q.keys 0) (sym c.self.view_is) ∙ sym c.front.ensures ∙ ap option_copied c.in-Some.is in
    c.message.ensures ∙ first-message keys c.args.pool.now c.in-Some.key.now c.requires front

pub returns-in-None : goal.returns-in-None
returns-in-None c =
    let front : slice_get c.args.self.now.keys 0 ≡ None =
    ap (λ (q : Queue). slice_get q.keys 0) (sym c.self.view_is) ∙ sym c.front.ensures ∙ ap option_copied c.in-None.is in
    no-message c.args.self.now.keys c.args.pool.now front
