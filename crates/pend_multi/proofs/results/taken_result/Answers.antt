use Rattle.std.proofs.Common.{◌≡◌, ℕ, ◌*◌, ◌^◌, ◌≤◌, ◌∙◌, List, length, map, take, get_or, ap, arith, length-take}
use Rattle.std.specs.Prelude.{◌%◌}
use Rattle.std.proofs.lemmas.Nat.{one_shl}
use Rattle.kern_base.specs.declared.outcomes.Finished.{Finished}
use Rattle.kern_base.specs.declared.services.Service.TheVariants.{PendMulti}
use Rattle.kern_model.specs.Effect.{fine}
use Rattle.kern_model.specs.Several.{taken_count, taken_bits}
use Rattle.pend_multi.specs.Takes.{message_of}
use Rattle.pend_multi.proofs.Entries.{made-some, made-none, made-all}
use Rattle.pend_multi.proofs.results.taken_result.Goals as goal
use Rattle.pend_multi.proofs.results.taken_result.Goals.{in-Some, in_default}

pub loop-index-preserved : goal.loop-index-preserved
loop-index-preserved c =
    let es = take c.args.request.now.n_ids c.args.polled.now in
    let i = c.loop-index.index in
    let long : length es ≤ 8 = simp length-take (omega arith) in
    elim c.match-entry.branch [
      | in-Some w ↦
          let bit : (1 * 2 ^ i) % 256 ≡ 2 ^ i = one_shl i 8 (omega arith) in
          rw (w.count-is, w.ready-is, w.msgs-is, bit) (made-some es i c.loop-index.count c.loop-index.ready c.loop-index.msgs w.in-Some.taken long c.loop-index-test.true w.in-Some.is c.loop-index.invariant)
      | in_default w ↦
          rw (w.count-is, w.ready-is, w.msgs-is) (made-none es i c.loop-index.count c.loop-index.ready c.loop-index.msgs long c.loop-index-test.true w.in_default.is c.loop-index.invariant)
    ]

pub returns : goal.returns
returns c =
    let r = c.args.request.now in
    let es = take r.n_ids c.args.polled.now in
    let i = c.loop-index.index in
    let ps = map message_of es in
    let long : length es ≤ 8 = simp length-take (omega arith) in
    let end : i ≡ length es = let more = c.loop-index.auto.index-end in omega arith in
    let all = made-all es i c.loop-index.count c.loop-index.ready c.loop-index.msgs long end c.loop-index.invariant in
    let finished : ℕ → ℕ → List (ℕ × ℕ) → Finished = λ count ready msgs. record { service = PendMulti; answer = fine count; ready = ready; msgs = msgs; table = get_or r.args 0 0; n_ids = r.n_ids } in
    ap (λ k. finished k c.loop-index.ready c.loop-index.msgs) all.0
    ∙ ap (λ k. finished (taken_count ps) k c.loop-index.msgs) all.1
    ∙ ap (λ ms. finished (taken_count ps) (taken_bits ps) ms) all.2
