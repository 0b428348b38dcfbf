use Rattle.std.proofs.Common.{length, sym, ap, ◌∙◌, subst}
use Rattle.kern_model.specs.Micro.{Halves}
use Rattle.machine_model.specs.Looks.{places}
use Rattle.machine_model.specs.Text.{IsChain}
use Rattle.machine_core.specs.LookView.{AreWithoutHandler, read_of}
use Rattle.machine_core.proofs.ChainLaws.{read-chain, chain-reverse, printed-chain}
use Rattle.machine_core.proofs.looks.look_line.Goals as goal

pub returns-clause-printable : goal.returns-clause-printable
returns-clause-printable g c =
    let h = c.chains-chains.result.now.halves in
    let n = length c.args.kernel.now.state.objects in
    let all = c.consistent.ensures in
    let forward : IsChain (read_of c.args.seen h.forward) =
    read-chain n c.args.seen h.forward c.requires.list all.ready_forward all.pend_forward (subst (λ (x : Halves). AreWithoutHandler x.forward) (sym c.chains-chains.ensures) c.requires.no_handler.forward) in
    let back : IsChain (read_of c.args.seen h.back) =
    read-chain n c.args.seen h.back c.requires.list all.ready_back all.pend_back (subst (λ (x : Halves). AreWithoutHandler x.back) (sym c.chains-chains.ensures) c.requires.no_handler.back) in (
      printed-chain c.forward_tasks-forward.result.items _ _ (c.places.ensures ∙ ap places c.deref.ensures.0) c.len.ensures.value (rw c.forward_tasks-forward.ensures forward),
      printed-chain c.back_tasks-back.result.items _ _ (c.places-2.ensures ∙ ap places c.deref-2.ensures.0) c.len-2.ensures.value (rw c.back_tasks-back.ensures (chain-reverse (read_of c.args.seen h.back) back)),
    )
