use Rattle.std.proofs.Common.{rules, ◌≡◌, ◌∙◌, ap, refl}
use Rattle.links.specs.Chain.{left}
use Rattle.kern_model.specs.Micro.{LeaveBack, Pend, changed}
use Rattle.micro_steps.specs.Blocks.{LeavesPend}
use Rattle.micro_steps.specs.Starts.{ChainsRecord, halves_of}
use Rattle.micro_steps.proofs.Backs.{leave_back, leave_made}
use Rattle.micro_steps.proofs.Founds.{back_pend}
use Rattle.micro_steps.proofs.chains.Chains.leave.Goals as goal

pub unlink_back-requires : goal.unlink_back-requires
unlink_back-requires g c =
    let cursor = c.args.cursor.now in let n = c.args.node in let o = c.args.object in
    let there = rw c.requires.link at c.requires.at in
    let is = leave_back c.args.prios.now n o cursor.stage cursor.passed cursor.place c.args.self.now.halves c.in_default.not-Forward there in
    let at = rw (c.requires.link, is) at c.requires.at in
    let leaves : LeavesPend n o.0 (halves_of c.self.inside.ready c.self.inside.pend) = rw (← c.self.view_is) at at.0 in
    let half : c.self.inside.pend.forward ≡ left c.self.inside.pend.back o.0 n = rw (← c.self.view_is) at at.2 in
    record { node = leaves.node; half = (o.0, leaves.object, leaves.stands, half) }

pub invariant_of-self : goal.invariant_of-self
invariant_of-self g c = rw c.unlink_back.ensures.others.1 c.self.invariant

pub returns-in_default : goal.returns-in_default
returns-in_default g c =
    let cursor = c.args.cursor.now in let n = c.args.node in let o = c.args.object in let h = c.args.self.now.halves in
    let there = rw c.requires.link at c.requires.at in
    let is = leave_back c.args.prios.now n o cursor.stage cursor.passed cursor.place h c.in_default.not-Forward there in
    let at = rw (c.requires.link, is) at c.requires.at in
    let r = c.self.inside.pend in
    let half : r.forward ≡ left r.back o.0 n = rw (← c.self.view_is) at at.2 in
    let e : halves_of c.self.inside.ready c.unlink_back.new.self ≡ changed (LeaveBack (Pend o.0) n) h =
    rw (← c.self.view_is) (back_pend c.self.inside.ready r c.unlink_back.new.self (left r.back o.0 n) c.unlink_back.ensures.others.0 (c.unlink_back.ensures.back ∙ half)) in
    let now = leave_made c.args.prios.now n o cursor.passed cursor.place h _ at e in
    record {
      made = rw (c.requires.link, is) now.0;
      kept = (ap (λ (k : ChainsRecord). k.start) c.self.view_is, refl);
      more = search rules;
      last = λ _. rw (c.requires.link, is) (now.1, now.2);
    }
