use Rattle.std.proofs.Common.{rules, ◌≡◌, ◌<◌, ℕ, ◌≤◌, length, sym, ap, ◌∙◌, arith, refl, subst, List}
use Rattle.kern_model.specs.Micro.{Halves}
use Rattle.micro_steps.specs.Starts.{ChainsRecord, halves_of}
use Rattle.links.specs.Chain.{list_at, inserted}
use Rattle.pend_lists.specs.Pending.{IsBefore}
use Rattle.micro_steps.specs.Blocks.{HasPassed, JoinsPend, IsEven, prio_by, to_pass, no_prio}
use Rattle.pend_lists.proofs.Places.{place-le}
use Rattle.micro_steps.proofs.Founds.{back_pend}
use Rattle.micro_steps.proofs.Waits.{walked_on, walk_made, walk_rest, stopped_at, joined_made, joined_at, backed_made, backed_rest, is_back}
use Rattle.micro_steps.proofs.chains.Chains.wait.Goals as goal

-- the place that was reached, as the lists of waiters see it
before_of : (o i place most : ℕ) (h : Halves) (xs : List (List ℕ)) → o < 64 → xs ≡ h.back.pend → HasPassed o i place most h → most ≤ length (list_at h.back.pend o) → IsBefore xs place o i
before_of o i place most h xs inside same at short =
    subst (λ ys. IsBefore ys place o i) (sym same) (record { object = inside; entry = omega (arith, at.few); node = at.reached })

pub search_step-requires : goal.search_step-requires
search_step-requires g c =
    let at = rw (c.requires.link, c.in-Forward.is) at c.requires.at in
    let h = c.args.self.now.halves in let o = c.args.object.0 in let w = to_pass c.args.prios.now c.args.prio o h in
    let most = place-le (prio_by c.args.prios.now) c.args.prio.0 (list_at h.back.pend o) in
    let same : c.self.inside.pend.forward ≡ h.back.pend = ap (λ (k : ChainsRecord). k.halves.forward.pend) c.self.view_is ∙ at.2 in
    (o, c.args.cursor.now.passed, before_of o c.args.cursor.now.passed c.args.cursor.now.place w h c.self.inside.pend.forward at.0.object same at.1 most)

pub overflow_add-cursor : goal.overflow_add-cursor
overflow_add-cursor g c =
    let at = rw (c.requires.link, c.in-Forward.is) at c.requires.at in
    let h = c.args.self.now.halves in let o = c.args.object.0 in
    let most = place-le (prio_by c.args.prios.now) c.args.prio.0 (list_at h.back.pend o) in
    omega (arith, at.1.few, at.0.few, most)

pub returns-in-Some-clause-made : goal.returns-in-Some-clause-made
returns-in-Some-clause-made g c =
    let at = rw (c.requires.link, c.in-Forward.is) at c.requires.at in
    let h = c.args.self.now.halves in let o = c.args.object.0 in let w = to_pass c.args.prios.now c.args.prio o h in
    let most = place-le (prio_by c.args.prios.now) c.args.prio.0 (list_at h.back.pend o) in
    let same : c.self.inside.pend.forward ≡ h.back.pend = ap (λ (k : ChainsRecord). k.halves.forward.pend) c.self.view_is ∙ at.2 in
    let found = rw same at (c.in-Some.ensures.next no_prio o c.args.cursor.now.passed (before_of o c.args.cursor.now.passed c.args.cursor.now.place w h c.self.inside.pend.forward at.0.object same at.1 most)) in
    let on = walked_on c.args.prios.now c.args.prio o c.args.cursor.now.passed c.args.cursor.now.place c.in-Some.next h at.1 found.0 found.1 found.2 in
    rw (c.requires.link, c.in-Forward.is) (walk_made w c.args.cursor.now.passed c.args.node o h on.0)

pub returns-in-Some-clause-more : goal.returns-in-Some-clause-more
returns-in-Some-clause-more g c =
    let at = rw (c.requires.link, c.in-Forward.is) at c.requires.at in
    let h = c.args.self.now.halves in let o = c.args.object.0 in let w = to_pass c.args.prios.now c.args.prio o h in
    let most = place-le (prio_by c.args.prios.now) c.args.prio.0 (list_at h.back.pend o) in
    let same : c.self.inside.pend.forward ≡ h.back.pend = ap (λ (k : ChainsRecord). k.halves.forward.pend) c.self.view_is ∙ at.2 in
    let found = rw same at (c.in-Some.ensures.next no_prio o c.args.cursor.now.passed (before_of o c.args.cursor.now.passed c.args.cursor.now.place w h c.self.inside.pend.forward at.0.object same at.1 most)) in
    let on = walked_on c.args.prios.now c.args.prio o c.args.cursor.now.passed c.args.cursor.now.place c.in-Some.next h at.1 found.0 found.1 found.2 in
    λ _. rw (c.requires.link, c.in-Forward.is) ((at.0, on.1, at.2), walk_rest w c.args.cursor.now.passed c.args.node o on.0)

pub returns-in-None-clause-made : goal.returns-in-None-clause-made
returns-in-None-clause-made g c =
    let at = rw (c.requires.link, c.in-Forward.is) at c.requires.at in
    let h = c.args.self.now.halves in let o = c.args.object.0 in let w = to_pass c.args.prios.now c.args.prio o h in
    let i = c.args.cursor.now.passed in
    let most = place-le (prio_by c.args.prios.now) c.args.prio.0 (list_at h.back.pend o) in
    let same : c.self.inside.pend.forward ≡ h.back.pend = ap (λ (k : ChainsRecord). k.halves.forward.pend) c.self.view_is ∙ at.2 in
    let before = before_of o i c.args.cursor.now.place w h c.self.inside.pend.forward at.0.object same at.1 most in
    let stop = stopped_at c.args.prios.now c.args.prio o i c.args.cursor.now.place h at.1 (rw same at (c.in-None.ensures.next no_prio o i before)) in
    let here = before_of o i c.args.cursor.now.place w h h.forward.pend at.0.object at.2 at.1 most in
    rw (c.requires.link, c.in-Forward.is) (c.wait_forward.ensures.halves i here ∙ sym (joined_made w i c.args.node o h stop))

pub returns-in-None-clause-more : goal.returns-in-None-clause-more
returns-in-None-clause-more g c =
    let at = rw (c.requires.link, c.in-Forward.is) at c.requires.at in
    let h = c.args.self.now.halves in let o = c.args.object.0 in let w = to_pass c.args.prios.now c.args.prio o h in
    let i = c.args.cursor.now.passed in
    let most = place-le (prio_by c.args.prios.now) c.args.prio.0 (list_at h.back.pend o) in
    let same : c.self.inside.pend.forward ≡ h.back.pend = ap (λ (k : ChainsRecord). k.halves.forward.pend) c.self.view_is ∙ at.2 in
    let before = before_of o i c.args.cursor.now.place w h c.self.inside.pend.forward at.0.object same at.1 most in
    let stop = stopped_at c.args.prios.now c.args.prio o i c.args.cursor.now.place h at.1 (rw same at (c.in-None.ensures.next no_prio o i before)) in
    let here = before_of o i c.args.cursor.now.place w h h.forward.pend at.0.object at.2 at.1 most in
    λ _. rw (c.requires.link, c.in-Forward.is) (joined_at c.args.prios.now c.args.prio c.args.node o i h _ at.0 at.2 stop (c.wait_forward.ensures.halves i here))

pub wait_forward-requires-clause-whole : goal.wait_forward-requires-clause-whole
wait_forward-requires-clause-whole g c = let at = rw (c.requires.link, c.in-Forward.is) at c.requires.at in at.2

pub wait_forward-requires-clause-place : goal.wait_forward-requires-clause-place
wait_forward-requires-clause-place g c =
    let at = rw (c.requires.link, c.in-Forward.is) at c.requires.at in
    let h = c.args.self.now.halves in let o = c.args.object.0 in let w = to_pass c.args.prios.now c.args.prio o h in
    let most = place-le (prio_by c.args.prios.now) c.args.prio.0 (list_at h.back.pend o) in
    (c.args.cursor.now.passed, before_of o c.args.cursor.now.passed c.args.cursor.now.place w h h.forward.pend at.0.object at.2 at.1 most)

pub link_back-requires : goal.link_back-requires
link_back-requires g c =
    let cursor = c.args.cursor.now in let n = c.args.node in let o = c.args.object in
    let there = rw c.requires.link at c.requires.at in
    let is = is_back c.args.prios.now n c.args.prio o cursor.stage cursor.passed cursor.place c.args.self.now.halves c.in_default.not-Forward there in
    let at = rw (c.requires.link, is) at c.requires.at in
    let joins : JoinsPend n o.0 (halves_of c.self-in_default.inside.ready c.self-in_default.inside.pend) = rw (← c.self-in_default.view_is) at at.0 in
    let half : c.self-in_default.inside.pend.forward ≡ inserted c.self-in_default.inside.pend.back o.0 cursor.passed n = rw (← c.self-in_default.view_is) at at.2 in
    record { node = joins.node; half = (o.0, cursor.passed, joins.object, half); nowhere = joins.nowhere }

pub invariant_of-self : goal.invariant_of-self
invariant_of-self g c = rw c.link_back.ensures.others.1 c.self-in_default.invariant

pub returns-in_default : goal.returns-in_default
returns-in_default g c =
    let cursor = c.args.cursor.now in let n = c.args.node in let i = cursor.passed in
    let there = rw c.requires.link at c.requires.at in
    let is = is_back c.args.prios.now n c.args.prio c.args.object cursor.stage i cursor.place c.args.self.now.halves c.in_default.not-Forward there in
    let at = rw (c.requires.link, is) at c.requires.at in
    let h = c.args.self.now.halves in let o = c.args.object.0 in let w = to_pass c.args.prios.now c.args.prio o h in
    let r = c.self-in_default.inside.pend in
    let half : r.forward ≡ inserted r.back o i n = rw (← c.self-in_default.view_is) at at.2 in
    let e : halves_of c.self-in_default.inside.ready c.link_back.new.self ≡ record { forward = h.forward; back = record { ready = h.back.ready; pend = inserted h.back.pend o i n }; marked = h.marked } =
    rw (← c.self-in_default.view_is) (back_pend c.self-in_default.inside.ready r c.link_back.new.self (inserted r.back o i n) c.link_back.ensures.others.0 (c.link_back.ensures.back ∙ half)) in
    let even : IsEven (halves_of c.self-in_default.inside.ready c.link_back.new.self) = rw e (record { ready = at.0.ready; pend = at.2 }) in
    record {
      made = rw (c.requires.link, is) (e ∙ sym (backed_made w i n o h at.1));
      kept = (ap (λ (k : ChainsRecord). k.start) c.self-in_default.view_is, refl);
      more = search rules;
      last = λ _. (even, rw (c.requires.link, is) (backed_rest w i n o at.1));
    }
