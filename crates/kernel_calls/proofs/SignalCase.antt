-- The plan of a signal: an internal task that waits for one joins its ready list.
use Rattle.std.proofs.Common.{◌≡◌, ℕ, ◌<◌, List, [], ◌∷◌, get_or, length, subst, refl, sym, ap, ◌∙◌, Bool, true, false, ◌&&◌, arith}
use Rattle.std.specs.Prelude.{◌+◌, not, if◌then◌else◌, nat_lt}
use Rattle.kern_base.specs.declared.numbers.Prio.{Prio}
use Rattle.kern_base.specs.declared.outcomes.Waiting.{Waiting}
use Rattle.kern_base.specs.declared.outcomes.Waiting.TheVariants.{No, Delay, Obj, TaskSem, TaskQ, Multi, Signal}
use Rattle.kern_model.specs.State.{Kernel, Task, is_ready, is_zero, no_task, prio_of, task_at, waits_for_nothing}
use Rattle.kern_model.specs.Micro.{Lists}
use Rattle.kern_model.specs.Effect.{Effect, done, fine}
use Rattle.kern_model.specs.Time.{signalled, signals_tick, signals_timer}
use Rattle.kern_model.specs.Valid.{IsLinked}
use Rattle.micro_steps.specs.declared.link.Link.{Link}
use Rattle.link_plans.specs.Fits.{AreKernels, IsNoded}
use Rattle.link_plans.proofs.Lemmas.{ready_nowhere}
use Rattle.kernel_records.specs.Ticks.{signals_next}
use Rattle.kernel_calls.specs.Ticking.{signal_links, signal_links_of}
use Rattle.kernel_calls.specs.Stepping.{HasPrios}
use Rattle.kernel_calls.proofs.LinkFacts.{AreLinksOf}
use Rattle.kernel_calls.proofs.StopFacts.{noded-task, prios-task}

-- a task that waits for a signal is not ready
none-ready : (a b : Bool) → (a && (false && b)) ≡ false
none-ready true b = refl
none-ready false b = refl

pub awaits : (t : Task) → t.waiting ≡ Signal → is_ready t ≡ false
awaits t e = ap (λ w. t.alive && (waits_for_nothing w && is_zero t.suspended)) e ∙ none-ready t.alive (is_zero t.suspended)

module _ (k : Kernel) (l : Lists) (prios : List Prio) (v : IsLinked k) (a : AreKernels k l) (p : HasPrios k prios) where
  -- the kernel with other counters
  abbrev counting : ℕ → ℕ → ℕ → Kernel
  counting m n c = record k { tick_signals = m; timer_signals = n; tick_calls = c }

  -- an effect without a link, which keeps the tasks
  pub no-links : (e : Effect) → e.blocks ≡ [] → e.kernel.tasks ≡ k.tasks → AreLinksOf e (length k.objects) prios [] l
  no-links e blocks tasks =
      record {
        fits = tt;
        blocks = sym blocks;
        noded = subst (λ (ts : List Task). IsNoded ts l.pend) (sym tasks) a.noded;
        listed = λ y. p y ∙ sym (ap (λ (ts : List Task). (get_or ts y no_task).prio) tasks);
      }

  signal-of : (w : Waiting) (x h m n c : ℕ) → x < 64 → (task_at k x).waiting ≡ w → AreLinksOf (signalled w x h (counting m n c)) (length k.objects) prios (signal_links_of w x (prio_of k x) h) l
  signal-of Signal x h m n c inside e =
      let f : Task → Task = λ t. record t { waiting = No } in
      let low = (v.tasks.each_task x).prio_to in
      record {
        fits = ((inside, omega (arith, low), ready_nowhere k x l v a (awaits (task_at k x) e)), tt);
        blocks = refl;
        noded = noded-task f (λ u. refl) k.tasks x l.pend a.noded;
        listed = prios-task f (λ u. refl) k (signalled Signal x h (counting m n c)).kernel x prios refl p;
      }
  signal-of No x h m n c inside e = no-links (done (counting m n c) (fine 0)) refl refl
  signal-of Delay x h m n c inside e = no-links (done (counting m n c) (fine 0)) refl refl
  signal-of (Obj s) x h m n c inside e = no-links (done (counting m n c) (fine 0)) refl refl
  signal-of TaskSem x h m n c inside e = no-links (done (counting m n c) (fine 0)) refl refl
  signal-of TaskQ x h m n c inside e = no-links (done (counting m n c) (fine 0)) refl refl
  signal-of Multi x h m n c inside e = no-links (done (counting m n c) (fine 0)) refl refl

  pub tick-signal : (h : ℕ) → AreLinksOf (signals_tick h k) (length k.objects) prios (signal_links 60 h (task_at k 60)) l
  tick-signal h = signal-of (task_at k 60).waiting 60 h (k.tick_signals + 1) k.timer_signals k.tick_calls (omega arith) refl

  signal-if : (b : Bool) (h : ℕ) → nat_lt (k.tick_calls + 1) k.settings.tmr_div ≡ b → AreLinksOf (if b then done (counting k.tick_signals k.timer_signals (k.tick_calls + 1)) (fine 0) else signalled (task_at k 61).waiting 61 h (counting k.tick_signals (k.timer_signals + 1) 0)) (length k.objects) prios (if not b then signal_links 61 h (task_at k 61) else []) l
  signal-if true h e = no-links (done (counting k.tick_signals k.timer_signals (k.tick_calls + 1)) (fine 0)) refl refl
  signal-if false h e = signal-of (task_at k 61).waiting 61 h k.tick_signals (k.timer_signals + 1) 0 (omega arith) refl

  pub timer-signal : (h : ℕ) → AreLinksOf (signals_timer h k) (length k.objects) prios (if signals_next k then signal_links 61 h (task_at k 61) else []) l
  timer-signal h = signal-if (nat_lt (k.tick_calls + 1) k.settings.tmr_div) h refl
