-- The machine at its start.
use Rattle.std.specs.Prelude.{length, map, All, slice_get, ◌==◌}
use Rattle.std.proofs.Common.{◌≡◌, ◌<◌, ◌≤◌, ℕ, zero, suc, ◌+◌, ◌*◌, true, false, List, [], ◌∷◌, None, inl, inr, refl, sym, ap, ◌∙◌, subst, arith}
use Rattle.std.proofs.lemmas.List.{length-map}
use Rattle.std.proofs.lemmas.List.Elements.{All-nil, All-cons, All-head, All-tail}
use Rattle.std.proofs.lemmas.Bool.{false≢true}
use Rattle.kern_base.specs.declared.kinds.Method.TheVariants.{Direct}
use Rattle.kern_base.specs.declared.kinds.Method.{Method}
use Rattle.kern_base.specs.declared.kinds.Kind.{Kind}
use Rattle.kern_base.specs.declared.kinds.Kind.TheVariants.{Sem, Queue, Flags, Mutex, OneShot, Periodic}
use Rattle.kern_base.specs.Tables.{KindTable}
use Rattle.kern_model.specs.State.{Object, kind_of, kinds_of, pick}
use Rattle.kern_model.specs.Start.{start_state, content_of, object_of}
use Rattle.served.specs.Served.{program_serves}
use Rattle.kern_model.proofs.Lemmas.{choice, equal, or_either}
use Rattle.app_image.specs.Image.{ImageRecord, IsValidImage, IsValidVector, kind_table}
use Rattle.app_image.specs.declared.records.ObjDef.{ObjDef}
use Rattle.deferred_queue.specs.QueueRecord.{QueueRecord}
use Rattle.app_image.specs.declared.records.VectorDef.{VectorDef}
use Rattle.app_image.specs.Layout.{HasWords}
use Rattle.inject_list.specs.Lists.{ListRecord, IsValidList, IsInjection, IsSeen, IsSeenObject, is_declared, most_entries}
use Rattle.inject_list.specs.declared.lists.Look.{Look}
use Rattle.inject_list.specs.declared.lists.Seen.{Seen}
use Rattle.inject_list.specs.declared.lists.Seen.TheVariants.{Obj, Ready as ReadyList}
use Rattle.machine_core.specs.LookView.{IsShown, IsToCome}
use Rattle.inject_list.specs.declared.lists.Injection.{Injection}
use Rattle.machine_model.specs.Frames.{Interrupt, FrameRecord, interrupt_of, interrupts_of}
use Rattle.isr_nesting.specs.Nest.{Nest, interrupts, unnumbered, numbered}
use Rattle.machine_model.specs.Machine.{Machine, start}
use Rattle.machine_model.specs.Bound.{events_left, interrupt_events}
use Rattle.kernel_calls.specs.KernelRecord.{start_of}
use Rattle.rv32_exec.specs.Memory.{filled}
use Rattle.machine_laws.specs.Valid.{IsValidMachine}
use Rattle.machine_laws.proofs.Lemmas.{valid-start_machine}
use Rattle.machine_core.specs.MachineView.{Parts}
use Rattle.machine_core.specs.MachineView.{machine_of, hand_of, IsKept, HasVectors}
use Rattle.machine_core.specs.Valid.{HasFewSignals, most_task_steps, most_events}
use Rattle.machine_core.proofs.MachineFacts.{none_fit}
use Rattle.machine_core.proofs.CurrentLaws.{pick-below}

-- The interrupts.

-- without the numbers that they have
unnumbered-numbered : (n : ℕ) (is : List Interrupt) → unnumbered (numbered n is) ≡ is
unnumbered-numbered n [] = refl
unnumbered-numbered n (i ∷ is) = ap (λ js. i ∷ js) (unnumbered-numbered (n + 1) is)

pub interrupts-new : (is : List Interrupt) (n : Nest) → n ≡ record { frames = []; waiting = numbered 0 is } → interrupts n ≡ is
interrupts-new is n e = rw e (unnumbered-numbered 0 is)

-- a declared vector has a number that an image may declare
declared-low : (words : ℕ) (vs : List VectorDef) (number : ℕ) → All (IsValidVector words) vs → is_declared vs number ≡ true → number < 32
declared-low words [] number h e = absurd (false≢true e)
declared-low words (v ∷ vs) number h e = elim (or_either (v.number == number) (is_declared vs number) e) [
  | inl here ↦ let n = (All-head (IsValidVector words) v vs h).number in let same = equal v.number number here in omega (arith, n, same)
  | inr rest ↦ declared-low words vs number (All-tail (IsValidVector words) v vs h) rest
]

vector-of : (vs : List VectorDef) (i : Injection) → (interrupt_of vs i).vector ≡ i.vector
vector-of [] i = refl
vector-of (v ∷ vs) i = choice (λ (x : Interrupt). x.vector ≡ i.vector) (v.number == i.vector) (record { moment = i.moment; vector = i.vector; level = v.level; entry = v.entry; sp = v.sp; words = i.words }) (interrupt_of vs i) refl (vector-of vs i)

vectors-low : (image : ImageRecord) (is : List Injection) → All (IsValidVector (length image.code)) image.vectors → All (IsInjection image) is → All (λ x. x.vector < 32) (map (interrupt_of image.vectors) is)
vectors-low image [] h each = All-nil (λ (x : Interrupt). x.vector < 32)
vectors-low image (i ∷ is) h each =
    let low = declared-low (length image.code) image.vectors i.vector h (All-head (IsInjection image) i is each).vector in
    let same = vector-of image.vectors i in
    All-cons (λ (x : Interrupt). x.vector < 32) (interrupt_of image.vectors i) (map (interrupt_of image.vectors) is) (omega (arith, low, same)) (vectors-low image is h (All-tail (IsInjection image) i is each))

vectors-start : (image : ImageRecord) (list : ListRecord) (n : Nest) → IsValidImage image → IsValidList image list → n.frames ≡ [] → interrupts n ≡ interrupts_of image list → HasVectors n
vectors-start image list n h l frames is = record {
  frames = rw frames (All-nil (λ (f : FrameRecord). f.vector < 32));
  waiting = rw is (vectors-low image list.injections h.vectors l.injections);
}

-- The machine.

-- so many interrupts, each with so many events
entries-le : (i limit : ℕ) → i ≤ most_entries → limit ≤ 4096 → i * interrupt_events limit ≤ most_entries * interrupt_events 4096
entries-le i limit a b = grind arith

few-start : (image : ImageRecord) (list : ListRecord) → IsValidImage image → IsValidList image list → events_left most_task_steps (start image list) ≤ most_events
few-start image list h l =
    let m : Machine = start image list in
    let many : length m.interrupts ≡ length list.injections = length-map list.injections (interrupt_of image.vectors) in
    let few = l.few in
    let entries = entries-le (length m.interrupts) image.config.isr_limit (omega (arith, many, few)) h.config.isr_limit_high in
    omega (arith, entries, few)

pub valid-loaded : (d : Method) (image : ImageRecord) (list : ListRecord) (m : Machine) → IsValidImage image → HasWords image → IsValidList image list → m ≡ start image list → IsValidMachine program_serves d m
valid-loaded d image list m h words l e = subst (IsValidMachine program_serves d) (sym e) (valid-start_machine program_serves d image list h words l)

-- the kinds of the objects are those that the image declares
kind-content : (kind : Kind) (fields : List ℕ) → kind_of (content_of kind fields) ≡ kind
kind-content Sem fields = refl
kind-content Queue fields = refl
kind-content Flags fields = refl
kind-content Mutex fields = refl
kind-content OneShot fields = refl
kind-content Periodic fields = refl

kinds-objects : (ds : List ObjDef) → map (λ (b : Object). kind_of b.content) (map object_of ds) ≡ map (λ o. o.kind) ds
kinds-objects [] = refl
kinds-objects (d ∷ ds) = rw (kind-content d.kind d.f, kinds-objects ds) refl

kinds-start : (image : ImageRecord) → kinds_of (start_state image) ≡ kind_table image
kinds-start image = ap (λ kinds. let t : KindTable = record { objects = kinds; tasks = length image.tasks } in t) (kinds-objects image.objects)

-- the looks are at lists that there are

object-inside : (ds : List ObjDef) (o : ℕ) → IsSeenObject (slice_get ds o) → o < length ds
object-inside [] zero h = absurd h
object-inside [] (suc o) h = absurd h
object-inside (d ∷ ds) zero h = omega arith
object-inside (d ∷ ds) (suc o) h = let rest = object-inside ds o h in omega (arith, rest)

shown-seen : (image : ImageRecord) (seen : Seen) → length image.objects ≤ 64 → IsSeen image seen → IsShown (length image.objects) seen
shown-seen image (Obj o) few h = let inside = object-inside image.objects o.0 h in (inside, omega (arith, inside, few))
shown-seen image (ReadyList p) few h = omega (arith, h)

looks-shown : (image : ImageRecord) (looks : List Look) → length image.objects ≤ 64 → All (λ l. IsSeen image l.what) looks → All (λ l. IsShown (length image.objects) l.what) looks
looks-shown image [] few h = All-nil (λ (l : Look). IsShown (length image.objects) l.what)
looks-shown image (l ∷ ls) few h =
    All-cons (λ (x : Look). IsShown (length image.objects) x.what) l ls
    (shown-seen image l.what few (All-head (λ (x : Look). IsSeen image x.what) l ls h))
    (looks-shown image ls few (All-tail (λ (x : Look). IsSeen image x.what) l ls h))

-- none lies before the start
all-to_come : (looks : List Look) → All (IsToCome 0) looks
all-to_come [] = All-nil (IsToCome 0)
all-to_come (l ∷ ls) = All-cons (IsToCome 0) l ls (omega arith) (all-to_come ls)

pub kept-loaded : (image : ImageRecord) (list : ListRecord) (a : Parts) → IsValidImage image → HasWords image → IsValidList image list → machine_of a ≡ start image list → a.kinds ≡ kind_table image → a.later.size ≡ image.config.defer_size → IsKept a
kept-loaded image list a h words l e kinds size =
    let s : a.s ≡ 0 = ap (λ (m : Machine). m.s) e in
    let t : a.t ≡ 0 = ap (λ (m : Machine). m.t) e in
    let looks : a.looks ≡ list.looks = ap (λ (m : Machine). m.looks) e in
    let none : hand_of a.kernel.hand ≡ None = ap (λ (m : Machine). m.in_hand) e in
    let first = pick-below (start_state image) (valid-start_machine program_serves Direct image list h words l).kernel in
    let current : a.current.0 < 64 = subst (λ (m : Machine). m.current < 64) (sym e) first in
    let few : events_left most_task_steps (machine_of a) ≤ most_events = subst (λ (m : Machine). events_left most_task_steps m ≤ most_events) (sym e) (few-start image list h l) in
    let tick : a.kernel.state.tick_signals ≡ 0 = ap (λ (m : Machine). m.kernel.tick_signals) e in
    let timer : a.kernel.state.timer_signals ≡ 0 = ap (λ (m : Machine). m.kernel.timer_signals) e in
    let signals : HasFewSignals a.kernel.state (events_left most_task_steps (machine_of a)) = record { tick = omega (arith, few, tick); timer = omega (arith, few, timer) } in
    record {
      valid = valid-loaded a.method image list (machine_of a) h words l e;
      parts = record {
        kinds = ap (λ (m : Machine). kinds_of m.kernel) e ∙ kinds-start image ∙ sym kinds;
        work = none_fit a.config a.kernel.hand none;
        size = size ∙ ap (λ (m : Machine). m.config.defer_size) (sym e);
        vectors = vectors-start image list a.frames h l (ap (λ (m : Machine). m.frames) e) (ap (λ (m : Machine). m.interrupts) e);
        looks = rw (kinds, looks, length-map image.objects (λ (o : ObjDef). o.kind)) (looks-shown image list.looks h.objects_room l.looks);
      };
      current = current;
      within = omega (arith, t);
      few = omega (arith, few, s);
      signals = signals;
      to_come = rw (s, looks) (all-to_come list.looks);
    }

-- it is loaded part by part
module _ (image : ImageRecord) (list : ListRecord) (a : Parts) (kernel : a.kernel ≡ start_of image) (ram : a.ram ≡ filled image.ram) (current : a.current.0 ≡ pick a.kernel.state) (frames : a.frames ≡ record { frames = []; waiting = numbered 0 (interrupts_of image list) })
    (later : a.later ≡ record { posts = []; size = image.config.defer_size }) (kinds : a.kinds ≡ kind_table image) (code : a.program ≡ image.code) (config : a.config ≡ image.config) (looks : a.looks ≡ list.looks) (begun : a.begun ≡ false) (s : a.s ≡ 0) (t : a.t ≡ 0) where
  pub loaded : machine_of a ≡ start image list
  loaded =
      let is : interrupts a.frames ≡ interrupts_of image list = interrupts-new (interrupts_of image list) a.frames frames in
      rw (is, current, kernel, ram, frames, later, looks, code, config, begun, s, t) refl

  pub loaded-kept : IsValidImage image → HasWords image → IsValidList image list → IsKept a
  loaded-kept h words l = kept-loaded image list a h words l loaded kinds (ap (λ (q : QueueRecord). q.size) later)
