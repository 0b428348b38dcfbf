use Rattle.std.proofs.Common.{rules, ◌≡◌, ap, refl}
use Rattle.links.specs.Chain.{left}
use Rattle.kern_model.specs.Micro.{LeaveBack, Ready, changed}
use Rattle.micro_steps.specs.Blocks.{LeavesReady}
use Rattle.micro_steps.specs.Starts.{ChainsRecord, halves_of}
use Rattle.micro_steps.proofs.Backs.{unready_back, unready_made}
use Rattle.micro_steps.proofs.Founds.{back_unready}
use Rattle.micro_steps.proofs.chains.Chains.unready.Goals as goal

pub unlink_back-requires : goal.unlink_back-requires
unlink_back-requires g c =
    let cursor = c.args.cursor.now in let x = c.args.task in let p = c.args.prio in
    let there = rw c.requires.link at c.requires.at in
    let is = unready_back c.args.prios.now x p cursor.stage cursor.passed cursor.place c.args.self.now.halves c.in_default.not-Forward there in
    let at = rw (c.requires.link, is) at c.requires.at in
    let leaves : LeavesReady x.0 p.0 (halves_of c.self.inside.ready c.self.inside.pend) = rw (← c.self.view_is) at at.0 in
    let half : c.self.inside.ready.forward ≡ left c.self.inside.ready.back p.0 x.0 = rw (← c.self.view_is) at at.2 in
    record { numbers = (leaves.task, leaves.prio); half = half; stands = leaves.stands }

pub invariant_of-self : goal.invariant_of-self
invariant_of-self g c = rw c.unlink_back.ensures.others.1 c.self.invariant

pub returns-in_default : goal.returns-in_default
returns-in_default g c =
    let cursor = c.args.cursor.now in let x = c.args.task in let p = c.args.prio in let h = c.args.self.now.halves in
    let there = rw c.requires.link at c.requires.at in
    let is = unready_back c.args.prios.now x p cursor.stage cursor.passed cursor.place h c.in_default.not-Forward there in
    let at = rw (c.requires.link, is) at c.requires.at in
    let r = c.self.inside.ready in
    let e : halves_of c.unlink_back.new.self c.self.inside.pend ≡ changed (LeaveBack (Ready p.0) x.0) h =
    rw (← c.self.view_is) (back_unready r c.unlink_back.new.self c.self.inside.pend p.0 x.0 c.unlink_back.ensures.others.0 c.unlink_back.ensures.back c.unlink_back.ensures.marked) in
    let now = unready_made c.args.prios.now x p cursor.passed cursor.place h _ at e in
    record {
      made = rw (c.requires.link, is) now.0;
      kept = (ap (λ (k : ChainsRecord). k.start) c.self.view_is, refl);
      more = search rules;
      last = λ _. rw (c.requires.link, is) (now.1, now.2);
    }
