-- The take in hand, by what came of its micro-step.
use Rattle.std.proofs.Common.{◌≡◌, ◌<◌, ◌+◌, ℕ, Bool, Some, true, false}
use Rattle.std.specs.Prelude.{◌==◌}
use Rattle.kern_base.specs.declared.outcomes.Outcome.{Outcome}
use Rattle.kern_model.specs.Services.{cost}
use Rattle.kernel_calls.specs.KernelRecord.{KernelRecord, IsOpen, ended}
use Rattle.kernel_calls.specs.Works.{WorkRecord, effect_of, stepped}
use Rattle.machine_model.specs.Machine.{TakeOf}
use Rattle.machine_model.specs.Queue.{Queued}
use Rattle.machine_core.specs.MachineView.{hand_of, queued_in}
use Rattle.machine_core.proofs.MachineFacts.{is-last, not-last, outcome-is, take-held}

-- its last micro-step was done
pub record LastOfTake (q : Queued) (old new : KernelRecord) (o : Outcome) : Type 0 where
  pub hand : WorkRecord
  pub held : old.hand ≡ Some hand
  pub no_unit : hand.unit ≡ false
  pub takes : (hand.caller == 63) ≡ true
  pub queued : queued_in hand ≡ q
  pub last : hand.done + 1 ≡ cost (effect_of hand old.state) old.state
  pub outcome : o ≡ (effect_of hand old.state).outcome
  pub ends : new ≡ ended old hand

-- one was done after which others are left
pub record MoreOfTake (old new : KernelRecord) : Type 0 where
  pub hand : WorkRecord
  pub held : old.hand ≡ Some hand
  pub left : hand.done + 1 < cost (effect_of hand old.state) old.state
  pub next : new ≡ record old { hand = Some (stepped hand) }

module _ (q : Queued) (old new : KernelRecord) (last : Bool) (o : Outcome) (i : ℕ) (takes : hand_of old.hand ≡ Some (record { work = TakeOf q; done = i })) (open_yet : IsOpen old.hand old.state)
    (more : (w : WorkRecord) → old.hand ≡ Some w → w.done + 1 < cost (effect_of w old.state) old.state → (last ≡ false) × (new ≡ record old { hand = Some (stepped w) }))
    (done : (w : WorkRecord) → old.hand ≡ Some w → w.done + 1 ≡ cost (effect_of w old.state) old.state → (last ≡ true) × (o ≡ (effect_of w old.state).outcome) × (new ≡ ended old w)) where
  pub last-of-take : last ≡ true → LastOfTake q old new o
  last-of-take e =
      let got = take-held old.hand q i takes in
      let p = is-last old new got.0 last o got.1 open_yet more done e in
      record {
        hand = got.0;
        held = got.1;
        no_unit = got.2;
        takes = got.3;
        queued = got.4;
        last = p;
        outcome = outcome-is old new got.0 last o got.1 open_yet more done e;
        ends = (done got.0 got.1 p).2;
      }

  pub more-of-take : last ≡ false → MoreOfTake old new
  more-of-take e =
      let got = take-held old.hand q i takes in
      let p = not-last old new got.0 last o got.1 open_yet more done e in
      record { hand = got.0; held = got.1; left = p; next = (more got.0 got.1 p).1 }
