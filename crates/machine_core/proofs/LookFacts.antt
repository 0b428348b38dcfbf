-- What the machine's fields come to, where a look is told.
use Rattle.std.specs.Prelude.{◌==◌, is_some, length, All}
use Rattle.std.proofs.Common.{◌≡◌, ◌<◌, ℕ, Bool, true, false, List, [], ◌∷◌, Option, Some, None, refl, sym, ap, ◌∙◌, subst, eq-eqb}
use Rattle.std.proofs.lemmas.Bool.{false≢true}
use Rattle.std.proofs.lemmas.List.{length-map}
use Rattle.std.proofs.lemmas.List.Elements.{All-head}
use Rattle.kern_base.specs.Services.{is_post}
use Rattle.kern_base.specs.Tables.{KindTable}
use Rattle.inject_list.specs.declared.lists.Look.{Look}
use Rattle.kern_model.specs.Call.{call_of}
use Rattle.kern_model.specs.State.{Kernel, Object, kind_of, kinds_of}
use Rattle.kern_model.specs.Effect.{Effect}
use Rattle.kern_model.specs.Valid.{IsLinked}
use Rattle.kern_model.specs.Micro.{Halves}
use Rattle.served.specs.Served.{program_serves}
use Rattle.kern_model.specs.Services.{effect, half}
use Rattle.kern_model.proofs.Lemmas.{choice_by}
use Rattle.kernel_calls.specs.KernelRecord.{halves_by, halves_in}
use Rattle.kernel_calls.specs.Works.{WorkRecord, unit_of}
use Rattle.machine_model.specs.Answers.{Change}
use Rattle.machine_model.specs.Looks.{chains, halves_of, look_at, looks, seen_in, without_look}
use Rattle.machine_model.specs.Machine.{Machine}
use Rattle.machine_model.specs.Queue.{Queued, front}
use Rattle.machine_model.specs.Rules.{Rule, Looks, marks, raw, rule}
use Rattle.machine_laws.specs.Valid.{IsBegun, IsInHand, IsQueue}
use Rattle.machine_core.specs.LookView.{HasNoHandler, IsShown}
use Rattle.machine_core.specs.MachineView.{Parts, machine_of, method_machine_of, work_of, step_of, hand_of, queued_in, IsFitHand, IsKept}
use Rattle.machine_core.specs.MethodMachine.{next_machine}
use Rattle.machine_core.specs.Valid.{change, changed, most_task_steps}
use Rattle.machine_core.proofs.HandlerLaws.{without-half, without-whole}
use Rattle.machine_core.proofs.HandlerUnits.{without-half_unit}
use Rattle.machine_core.proofs.KeptLaws.{kept-change, next-same}
use Rattle.machine_core.proofs.LookLaws.{look-of}
use Rattle.due_looks.proofs.LookLaws.{without-keeps}
use Rattle.machine_core.proofs.MachineFacts.{by_rule, effect-same, with_method}

-- The half-made lists.

-- those of the kernel are those of the machine
halves-same : (o : Option WorkRecord) (m : Machine) → IsFitHand m.config o → halves_by o m.kernel ≡ halves_of program_serves (hand_of o) m
halves-same None m fit = refl
halves-same (Some w) m fit = ap (λ (e : Effect). half e m.kernel w.done) (effect-same m.config w m.kernel fit)

-- a take is of a post, so the handler does not wait
first-post : (later : List Queued) (q : Queued) → front later ≡ Some q → All (λ (p : Queued). is_post p.service ≡ true) later → is_post q.service ≡ true
first-post [] q e h = cc
first-post (p ∷ later) q e h = let same : p ≡ q = cc in subst (λ (r : Queued). is_post r.service ≡ true) same (All-head (λ (r : Queued). is_post r.service ≡ true) p later h)

take-posts : (u b : Bool) (w : WorkRecord) (k : Kernel) (x size : ℕ) (later : List Queued) → u ≡ false → b ≡ true → IsBegun (work_of u b w) k x later → IsQueue size later → is_post w.request.service ≡ true
take-posts false true w k x size later u e begun queue = first-post later (queued_in w) begun.first queue.posts
take-posts false false w k x size later u e begun queue = absurd (false≢true e)
take-posts true b w k x size later u e begun queue = absurd (false≢true (sym u))

unit-without : (x : ℕ) (k : Kernel) (i : ℕ) → IsLinked k → HasNoHandler (half (unit_of x k) k i)
unfolding unit_of
unit-without x k i v = without-half_unit x k i v

without-hand : (o : Option WorkRecord) (a : Parts) → a.kernel.hand ≡ o → IsKept a → HasNoHandler (halves_by o a.kernel.state)
without-hand None a e k = without-whole a.kernel.state k.valid.kernel
without-hand (Some w) a e k =
    let stands : IsInHand program_serves a.config (step_of w) a.kernel.state a.current.0 a.later.posts = rw e at k.valid.stands in
    let call = call_of w.request w.caller w.interrupted w.compared in
    choice_by (λ (f : Effect). HasNoHandler (half f a.kernel.state w.done)) w.unit (unit_of w.caller a.kernel.state) (effect program_serves call a.kernel.state)
    (λ u. unit-without w.caller a.kernel.state w.done k.valid.kernel)
    (λ u. without-half call a.kernel.state w.done k.valid.kernel
    (λ waits handler. false≢true (sym waits ∙ take-posts w.unit (w.caller == 63) w a.kernel.state a.current.0 a.config.defer_size a.later.posts u (eq-eqb w.caller 63 handler) stands.begun k.valid.queue)))

-- the handler stands in no list
pub no-handler : (a : Parts) → IsKept a → HasNoHandler (halves_in a.kernel)
no-handler a k = without-hand a.kernel.hand a refl k

-- A look is told.

pub told-is : (o : Option Look) → is_some o ≡ true → (l : Look) × (o ≡ Some l)
told-is None e = absurd (false≢true e)
told-is (Some l) e = (l, refl)

objects-are : (k : Kernel) (kinds : KindTable) → kinds_of k ≡ kinds → length kinds.objects ≡ length k.objects
objects-are k kinds e = ap (λ (t : KindTable). length t.objects) (sym e) ∙ length-map k.objects (λ (b : Object). kind_of b.content)

module _ (a : Parts) (l : Look) (k : IsKept a) (begun : a.begun ≡ true) (due : look_at a.s a.looks ≡ Some l) where
  -- it is at a list that there is
  pub look-shown : IsShown (length a.kernel.state.objects) l.what
  look-shown =
      let shown : IsShown (length a.kinds.objects) l.what = look-of (λ (x : Look). IsShown (length a.kinds.objects) x.what) a.s a.looks l due k.parts.looks in
      subst (λ n. IsShown n l.what) (objects-are a.kernel.state a.kinds k.parts.kinds) shown

  looks-next : rule a.method (machine_of a) ≡ Looks l
  looks-next = rw (begun, due) refl

  told-change : change a.method (machine_of a) ≡ looks program_serves l (machine_of a)
  told-change = by_rule a.method (machine_of a) (Looks l) looks-next

  pub look-told : chains l.what (seen_in l.what (halves_in a.kernel).forward) (seen_in l.what (halves_in a.kernel).back) ≡ (change a.method (machine_of a)).what
  look-told =
      ap (λ (h : Halves). chains l.what (seen_in l.what h.forward) (seen_in l.what h.back)) (halves-same a.kernel.hand (machine_of a) k.parts.work)
      ∙ ap (λ (c : Change). c.what) (sym told-change)

  pub look-marks : marks program_serves (rule a.method (machine_of a)) (machine_of a) ≡ false
  look-marks = ap (λ (r : Rule). marks program_serves r (machine_of a)) looks-next

  module _ (rest : List Look) (gone : rest ≡ without_look a.s a.looks) where
    look-machine : method_machine_of (record a { looks = rest }) ≡ changed (method_machine_of a)
    look-machine = with_method a.method (rw gone refl ∙ ap (λ (c : Change). c.machine) (sym told-change))

    pub look-kept : a.t < most_task_steps → IsKept (record a { looks = rest })
    look-kept open_yet =
        kept-change a (record a { looks = rest }) k open_yet look-machine
        (record {
          kinds = refl;
          work = k.parts.work;
          size = k.parts.size;
          vectors = k.parts.vectors;
          looks = rw gone (without-keeps (λ (x : Look). IsShown (length a.kinds.objects) x.what) a.s a.looks k.parts.looks);
        })

    pub look-next : method_machine_of (record a { looks = rest }) ≡ next_machine (method_machine_of a)
    look-next = next-same a (record a { looks = rest }) look-machine (ap raw looks-next)
