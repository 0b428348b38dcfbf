use Rattle.std.proofs.Common.{◌≡◌, true}
use Rattle.std.specs.Prelude.{slice_set}
use Rattle.links.specs.Chain.{list_at, inserted}
use Rattle.micro_steps.specs.Blocks.{place_at}
use Rattle.micro_steps.specs.Starts.{halves_of}
use Rattle.micro_steps.proofs.Backs.{ready_made, mark_made}
use Rattle.micro_steps.proofs.Founds.{back_ready}
use Rattle.micro_steps.proofs.chains.Chains.make_ready.Goals as goal

pub link_back-requires-clause-numbers : goal.link_back-requires-clause-numbers
link_back-requires-clause-numbers g c = let at = rw (c.requires.link, c.in-Back.is) at c.requires.at in (at.0.task, at.0.prio)

pub link_back-requires-clause-half : goal.link_back-requires-clause-half
link_back-requires-clause-half g c = let at = rw (c.requires.link, c.in-Back.is) at c.requires.at in rw (← c.self.view_is) at at.3

pub link_back-requires-clause-nowhere : goal.link_back-requires-clause-nowhere
link_back-requires-clause-nowhere g c = let at = rw (c.requires.link, c.in-Back.is) at c.requires.at in rw (← c.self.view_is) at at.2

pub invariant_of-self : goal.invariant_of-self
invariant_of-self g c = rw c.link_back.ensures.others.1 c.self.invariant

pub mark-requires : goal.mark-requires
mark-requires g c = let at = rw (c.requires.link, c.in-Mark.is) at c.requires.at in at.0.prio

pub invariant_of-self-in-Mark : goal.invariant_of-self-in-Mark
invariant_of-self-in-Mark g c = rw c.mark.ensures.links.0 c.self-in-Mark.invariant

pub returns-in-Back-clause-made : goal.returns-in-Back-clause-made
returns-in-Back-clause-made g c =
    let cursor = c.args.cursor.now in let x = c.args.task in let p = c.args.prio in let tail = c.args.tail in let h = c.args.self.now.halves in
    let at = rw (c.requires.link, c.in-Back.is) at c.requires.at in
    let r = c.self.inside.ready in
    let e : halves_of c.link_back.new.self c.self.inside.pend ≡ record { forward = h.forward; back = record { ready = inserted h.back.ready p.0 (place_at tail (list_at h.back.ready p.0)) x.0; pend = h.back.pend }; marked = h.marked } =
    rw (← c.self.view_is) (back_ready r c.link_back.new.self c.self.inside.pend (inserted r.back p.0 (place_at tail (list_at r.back p.0)) x.0) r.marked c.link_back.ensures.others.0 c.link_back.ensures.back c.link_back.ensures.others.2) in
    rw (c.requires.link, c.in-Back.is) (ready_made c.args.prios.now x p tail cursor.passed cursor.place h _ at e).0

pub returns-in-Back-clause-more : goal.returns-in-Back-clause-more
returns-in-Back-clause-more g c =
    let cursor = c.args.cursor.now in let x = c.args.task in let p = c.args.prio in let tail = c.args.tail in let h = c.args.self.now.halves in
    let at = rw (c.requires.link, c.in-Back.is) at c.requires.at in
    let r = c.self.inside.ready in
    let e : halves_of c.link_back.new.self c.self.inside.pend ≡ record { forward = h.forward; back = record { ready = inserted h.back.ready p.0 (place_at tail (list_at h.back.ready p.0)) x.0; pend = h.back.pend }; marked = h.marked } =
    rw (← c.self.view_is) (back_ready r c.link_back.new.self c.self.inside.pend (inserted r.back p.0 (place_at tail (list_at r.back p.0)) x.0) r.marked c.link_back.ensures.others.0 c.link_back.ensures.back c.link_back.ensures.others.2) in
    let now = ready_made c.args.prios.now x p tail cursor.passed cursor.place h _ at e in
    λ _. rw (c.requires.link, c.in-Back.is) (now.1, now.2)

pub returns-in-Mark-clause-made : goal.returns-in-Mark-clause-made
returns-in-Mark-clause-made g c =
    let cursor = c.args.cursor.now in let x = c.args.task in let p = c.args.prio in let tail = c.args.tail in let h = c.args.self.now.halves in
    let at = rw (c.requires.link, c.in-Mark.is) at c.requires.at in
    let r = c.self-in-Mark.inside.ready in
    let e : halves_of c.mark.new.self c.self-in-Mark.inside.pend ≡ record { forward = h.forward; back = h.back; marked = slice_set h.marked p.0 true } =
    rw (← c.self-in-Mark.view_is) (back_ready r c.mark.new.self c.self-in-Mark.inside.pend r.back (slice_set r.marked p.0 true) c.mark.ensures.lists.0 c.mark.ensures.lists.1 c.mark.ensures.marked) in
    rw (c.requires.link, c.in-Mark.is) (mark_made c.args.prios.now x p tail cursor.passed cursor.place h _ at e).0

pub returns-in-Mark-clause-last : goal.returns-in-Mark-clause-last
returns-in-Mark-clause-last g c =
    let cursor = c.args.cursor.now in let x = c.args.task in let p = c.args.prio in let tail = c.args.tail in let h = c.args.self.now.halves in
    let at = rw (c.requires.link, c.in-Mark.is) at c.requires.at in
    let r = c.self-in-Mark.inside.ready in
    let e : halves_of c.mark.new.self c.self-in-Mark.inside.pend ≡ record { forward = h.forward; back = h.back; marked = slice_set h.marked p.0 true } =
    rw (← c.self-in-Mark.view_is) (back_ready r c.mark.new.self c.self-in-Mark.inside.pend r.back (slice_set r.marked p.0 true) c.mark.ensures.lists.0 c.mark.ensures.lists.1 c.mark.ensures.marked) in
    let now = mark_made c.args.prios.now x p tail cursor.passed cursor.place h _ at e in
    λ _. rw (c.requires.link, c.in-Mark.is) (now.1, now.2)
