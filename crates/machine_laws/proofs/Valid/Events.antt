-- Every event keeps the machine valid, and the start is valid.
use Rattle.machine_laws.proofs.Common.{◌≡◌, Bool, ℕ, refl, true, List, [], ◌∷◌, None, sym, arith, subst, ◌≤◌, inl, inr, ◌<◌, ◌==◌, length, All, ◌^◌, All-nil, All-cons, All-head, All-tail, ImageRecord, IsValidImage, HasWords, ListRecord, IsValidList, is_post, Method, Deferred, Direct, Service, choice, IsLinked, Interrupt, Machine, start, Queued, next, rule, Rule, Begins, Enters, FrameRuns, FrameLimit, Looks, MicroStep, TakeBegins, TaskActs, done, Applies}
use Rattle.std.specs.Prelude.{map, replicate, slice_index}
use Rattle.std.proofs.Common.{◌-◌}
use Rattle.std.proofs.lemmas.Bool.{cases_lt}
use Rattle.std.proofs.lemmas.List.{length-append, length-map, length-replicate, get_or_past}
use Rattle.std.proofs.lemmas.List.Elements.{All-map, All-weaker}
use Rattle.kern_base.specs.declared.kinds.Kind.{Kind}
use Rattle.kern_base.specs.declared.kinds.Kind.TheVariants.{Sem, Queue, Flags, Mutex, OneShot, Periodic}
use Rattle.kern_model.specs.State.{Object}
use Rattle.kern_model.specs.Valid.{IsContent}
use Rattle.kern_model.specs.Start.{start_state, object_of, content_of}
use Rattle.kern_laws.proofs.Lemmas.{linked-start, contents-each}
use Rattle.machine_model.specs.Start.{start_registers, entry_registers}
use Rattle.rv32_exec.specs.Registers.{no_registers}
use Rattle.app_image.specs.Image.{IsValidVector}
use Rattle.app_image.specs.declared.records.ObjDef.{ObjDef}
use Rattle.app_image.specs.declared.records.VectorDef.{VectorDef}
use Rattle.inject_list.specs.declared.lists.Injection.{Injection}
use Rattle.machine_model.specs.Frames.{interrupt_of}
use Rattle.app_image.specs.Layout.{HasWordFields}
use Rattle.machine_laws.specs.Valid.{Fits}
use Rattle.machine_laws.proofs.Rules.Chosen.{applies}
use Rattle.machine_laws.proofs.Ready.Pick.{ready-pick}
use Rattle.machine_laws.proofs.Valid.Settling.{Valid}
use Rattle.machine_laws.proofs.Valid.Tasks.{valid-acts}
use Rattle.machine_laws.proofs.Valid.WholeSteps.{valid-advances, valid-takes}
use Rattle.machine_laws.proofs.Valid.Frames.{valid-enters, valid-leaves, valid-frame_runs}

-- Every event.

module _ (served : Service → Bool) (method : Method) where
  pub valid-done : (r : Rule) (m : Machine) → Applies method r m → Valid served method m → Valid served method (done served method r m).machine
  valid-done Begins m a v =
      record { kernel = v.kernel; registers = v.registers; frames = v.frames; interrupts = v.interrupts; queue = v.queue; fits = v.fits; stands = v.stands }
  valid-done (Looks l) m a v =
      record { kernel = v.kernel; registers = v.registers; frames = v.frames; interrupts = v.interrupts; queue = v.queue; fits = v.fits; stands = v.stands }
  valid-done (Enters p) m a v = valid-enters served method m v p a
  valid-done (FrameLimit f below) m a v = valid-leaves served method m v f below a.0.frames
  valid-done (FrameRuns f below) m a v = valid-frame_runs served method m v f below a.0.frames a.1
  valid-done (MicroStep w) m a v = valid-advances served method m v a.frames w a.in_hand
  valid-done (TakeBegins q) m a v = valid-takes served method m v a.0.frames q a.1 a.2
  valid-done TaskActs m a v = valid-acts served method m v a.0.frames a.0.in_hand a.1

  pub valid-next : (m : Machine) → Valid served method m → Valid served method (next served method m).1
  valid-next m v =
      let n = valid-done (rule method m) m (applies method m) v in
      record { kernel = n.kernel; registers = n.registers; frames = n.frames; interrupts = n.interrupts; queue = n.queue; fits = n.fits; stands = n.stands }

-- The start.

-- the number at a place is a word
word-at : (f : List ℕ) (i : ℕ) → All (λ n. n < 2 ^ 32) f → slice_index f i < 2 ^ 32
word-at f i h = elim (cases_lt i (length f)) [ inl l ↦ h i 0 l | inr l ↦ subst (λ n. n < 2 ^ 32) (sym (get_or_past f i 0 l)) (omega arith) ]

content-valid : (k : Kind) (f : List ℕ) → All (λ n. n < 2 ^ 32) f → IsContent (content_of k f)
content-valid Sem f h = word-at f 0 h
content-valid Queue f h = omega arith
content-valid Flags f h = tt
content-valid Mutex f h = omega arith
content-valid OneShot f h = (word-at f 0 h, word-at f 1 h)
content-valid Periodic f h = (word-at f 0 h, word-at f 1 h)

contents-valid : (ds : List ObjDef) → All HasWordFields ds → All (λ b. IsContent b.content) (map object_of ds)
contents-valid ds h =
    All-map (λ (b : Object). IsContent b.content) object_of ds (All-weaker HasWordFields (λ o. IsContent (content_of o.kind o.f)) (λ o w. content-valid o.kind o.f w.words) ds h)

level-interrupt_of : (words : ℕ) (vs : List VectorDef) (i : Injection) → All (IsValidVector words) vs → (interrupt_of vs i).level ≤ 7
level-interrupt_of words [] i h = omega arith
level-interrupt_of words (v ∷ vs) i h =
    choice (λ (x : Interrupt). x.level ≤ 7) (v.number == i.vector) (record { moment = i.moment; vector = i.vector; level = v.level; entry = v.entry; sp = v.sp; words = i.words }) (interrupt_of vs i)
    (All-head (IsValidVector words) v vs h).level_high (level-interrupt_of words vs i (All-tail (IsValidVector words) v vs h))

levels-of : (words : ℕ) (vs : List VectorDef) (is : List Injection) → All (IsValidVector words) vs → All (λ x. x.level ≤ 7) (map (interrupt_of vs) is)
levels-of words vs [] h = All-nil (λ (x : Interrupt). x.level ≤ 7)
levels-of words vs (i ∷ is) h = All-cons (λ (x : Interrupt). x.level ≤ 7) (interrupt_of vs i) (map (interrupt_of vs) is) (level-interrupt_of words vs i h) (levels-of words vs is h)

registers-start : (image : ImageRecord) → length image.tasks ≤ 60 → length (start_registers image) ≡ 64
registers-start image h =
    let a = length-append (map entry_registers image.tasks) (replicate (64 - length image.tasks) no_registers) in
    let b = length-map image.tasks entry_registers in
    let c = length-replicate (64 - length image.tasks) no_registers in
    omega (arith, a, b, c, h)

fits-start : (method : Method) → Fits method [] None []
fits-start Direct = record { empty = refl; masked = inl refl }
fits-start Deferred = tt

pub valid-start_machine : (served : Service → Bool) (method : Method) (image : ImageRecord) (list : ListRecord) → IsValidImage image → HasWords image → IsValidList image list → Valid served method (start image list)
valid-start_machine served method image list h words l =
    let k : IsLinked (start_state image) = linked-start image h (contents-each (map object_of image.objects) (contents-valid image.objects words.fields)) in
    record {
      kernel = k;
      registers = registers-start image h.tasks_room;
      frames = tt;
      interrupts = levels-of (length image.code) image.vectors list.injections h.vectors;
      queue = record { posts = All-nil (λ (q : Queued). is_post q.service ≡ true); room = omega arith };
      fits = fits-start method;
      stands = record { locked = λ (e : 0 < 0). absurd (omega (arith, e)); ready = λ _ _. ready-pick (start_state image) k; picked = λ _ _ _. refl };
    }
