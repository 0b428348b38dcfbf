-- What the frame does in both runs: its posts and other calls, its other instructions, and how it leaves.
use Rattle.machine_laws.proofs.Common.{◌≡◌, Bool, ℕ, refl, true, List, [], false, ◌∙◌, ◌∷◌, None, Some, sym, arith, Option, subst, ap, ◌≤◌, ◌==◌, if◌then◌else◌, ◌&&◌, length, nat_lt, ◌++◌, false≢true, All-nil, All-cons, ImageRecord, Look, static_error, leave, is_post, service_of, OsErr, CallUnknown, Deferred, Direct, Service, Effect, fine, posted, Kernel, prio_of, kinds_of, pick, Execution, exec, Registers, read, Stepped, Call, Next, Stored, Trap, Change, FrameRecord, frame_runs, argument_words, checked_post, queues, Machine, marks_after, next_instruction, Queued, FrameRuns, event_history, Quiet}
use Rattle.std.specs.Prelude.{◌+◌}
use Rattle.std.proofs.lemmas.List.Elements.{All-append}
use Rattle.kern_base.specs.Services.{argument_count, interrupt_error}
use Rattle.kern_model.specs.Effect.{answer}
use Rattle.rv32_exec.specs.Exec.{fetched}
use Rattle.machine_model.specs.Marks.{post_marks, instruction_of, reads_result}
use Rattle.rv32_isa.specs.Operands.{writes}
use Rattle.rv32_isa.specs.declared.Instr.{Instr}
use Rattle.method_law.proofs.Registers.Instructions.{like-exec}
use Rattle.machine_model.specs.declared.events.How.{How}
use Rattle.machine_model.specs.declared.events.How.TheVariants as how
use Rattle.machine_model.specs.declared.events.What.TheVariants.{Post, Exit}
use Rattle.machine_model.specs.Answers.{arguments}
use Rattle.machine_model.specs.Settling.{settled_task}
use Rattle.machine_model.specs.Interrupts.{leaves, ran, told, posts_by, frame_posts, frame_refused, frame_calls, frame_did, answered_frame, Posting}
use Rattle.machine_model.specs.Premises.{loses_post}
use Rattle.machine_model.specs.Rules.{marks, switch_of}
use Rattle.machine_model.specs.Text.{history_line, history_words}
use Rattle.machine_model.specs.Words.{switch_words}
use Rattle.method_law.specs.Alike.{AgreeBut, SameCall, is_trap, is_call}
use Rattle.method_law.specs.Relation.{all_performed}
use Rattle.method_law.specs.Modes.{Related, waits, at_step, frame_machine, takes_machine, settled_machine, FrameAgrees, IsOpen, ArePosts}
use Rattle.method_law.specs.Going.{owed}
use Rattle.method_law.proofs.Registers.Arguments.{posted-same, checked-same}
use Rattle.method_law.proofs.Events.Choices.{both}
use Rattle.method_law.proofs.Events.Rules.{after, TogetherBy, twins-go}
use Rattle.method_law.proofs.Posts.Kinds.{kinds-all_performed}
use Rattle.method_law.proofs.Posts.Performing.{performed-last, stays-all}
use Rattle.method_law.proofs.Registers.Answers.{WithinPost, told-same, told-other, within-without}
use Rattle.method_law.proofs.Events.Twins.{Twins, twins, frame_twins}

-- marks that an instruction leaves are no others
within-after : (o : Option Instr) (marks : List ℕ) → WithinPost marks → WithinPost (marks_after o marks)
within-after None marks h = h
within-after (Some instr) marks h = within-without (writes instr) marks h

-- the frame leaves
module _ (served : Service → Bool) (image : ImageRecord) (n : ℕ) (d : Machine) (f : FrameRecord) (registers : Registers) (s : ℕ) (looks : List Look)
    (behind : s ≤ d.s) (lock : d.kernel.lock ≡ 0) (short : (d.t == n) ≡ false) where
  abbrev left : How → List Queued → Change
  left h later = leaves h f [] (frame_machine f later d)

  abbrev left2 : How → List Queued → Change
  left2 h later = leaves h (record f { registers = registers }) [] (at_step s looks (record (frame_machine (record f { registers = registers }) [] d) { kernel = all_performed served later d.kernel }))

  pub leave-goes : (later : List Queued) → ArePosts later → (h : How) (k : ℕ) (b b2 : Bool)
      → TogetherBy served image n (frame_machine f later d) (at_step s looks (record (frame_machine (record f { registers = registers }) [] d) { kernel = all_performed served later d.kernel }))
      (record { s = d.s; t = d.t; what = (left h later).what; switch = switch_of d.current (left h later).machine.current; marked = b }, record (left h later).machine { s = d.s + k })
      (record { s = s; t = d.t; what = (left2 h later).what; switch = switch_of d.current (left2 h later).machine.current; marked = b2 }, record (left2 h later).machine { s = s + k })
  leave-goes [] posts h k b b2 =
      let c = left h [] in
      let e = left2 h [] in
      twins-go served image n d.t d.current c.what e.what c.machine e.machine d.s s (s + k) (d.s + k) b b2 (omega (arith, behind)) refl (twins c.machine None s looks tt)
  leave-goes (q ∷ qs) posts h k b b2 =
      let j = all_performed served (q ∷ qs) d.kernel in
      let stay : settled_task d.kernel (q ∷ qs) d.current ≡ d.current = ap (λ l. if (l == 0) && false then pick d.kernel else d.current) lock in
      let go : settled_task j [] d.current ≡ pick j = ap (λ l. if (l == 0) && true then pick j else d.current) ((stays-all served (q ∷ qs) d.kernel posts).lock ∙ lock) in
      let x : ℕ → Machine = λ a. record (takes_machine (q ∷ qs) None d) { current = a; s = d.s + k } in
      let y : ℕ → Machine = λ a. record (at_step (s + k) looks (settled_machine j d)) { current = a } in
      let Goal : ℕ → ℕ → Type 0 = λ a a2.
      Related served n (x a) (y a2)
      × (event_history image (record { s = d.s; t = d.t; what = Exit f.vector h; switch = switch_of d.current a; marked = b }) ++ owed image (x a) (y a2)
      ≡ history_line d.t (switch_words image (switch_of d.current d.current))
      ++ event_history image (record { s = s; t = d.t; what = Exit f.vector h; switch = switch_of d.current a2; marked = b2 })) in
      let opens : IsOpen n (q ∷ qs) (record d { s = d.s + k }) = record { lock = lock; posts = posts; goes_on = short } in
      subst (λ a. Goal a (settled_task j [] d.current)) (sym stay)
      (subst (λ a. Goal d.current a) (sym go) (waits (record d { s = d.s + k }) q qs (s + k) looks opens (omega (arith, behind)), refl))

module _ (served : Service → Bool) (image : ImageRecord) (n : ℕ) (d : Machine) (f : FrameRecord) (registers : Registers) (later : List Queued) (s : ℕ) (looks : List Look)
    (behind : s ≤ d.s) (lock : d.kernel.lock ≡ 0) (posts : ArePosts later) (short : (d.t == n) ≡ false) where
  -- the kernel of the direct run, and both machines

  abbrev after_posts : Kernel
  after_posts = all_performed served later d.kernel

  abbrev other_frame : FrameRecord
  other_frame = record f { registers = registers }

  abbrev first : Machine
  first = frame_machine f later d

  abbrev second : Machine
  second = at_step s looks (record (frame_machine other_frame [] d) { kernel = after_posts })

  -- both changes are events of their runs that go together, after so many raw steps, where no post is lost
  Fine : ℕ → Change → Change → Type 0
  Fine k c e =
      loses_post c.what ≡ false → (b b2 : Bool)
      → TogetherBy served image n first second
      (record { s = d.s; t = d.t; what = c.what; switch = switch_of d.current c.machine.current; marked = b }, record c.machine { s = d.s + k })
      (record { s = s; t = d.t; what = e.what; switch = switch_of d.current e.machine.current; marked = b2 }, record e.machine { s = s + k })

  by-twins : (k : ℕ) (c e : Change) → history_words image c.what ≡ history_words image e.what → Twins served n c.machine e.machine → Fine k c e
  unfolding Fine
  by-twins k c e w t lost b b2 = twins-go served image n d.t d.current c.what e.what c.machine e.machine d.s s (s + k) (d.s + k) b b2 (omega (arith, behind)) w t

  -- the frame goes on
  stays : (a b : Registers) (marks : List ℕ) (used : ℕ) (memory : List ℕ) (queue : List Queued) (kernel : Kernel) → AgreeBut marks a b → WithinPost marks → ArePosts queue → kernel ≡ all_performed served queue d.kernel
      → Twins served n (record first { memory = memory; later = queue; frames = record f { registers = a; used = used; marks = marks } ∷ [] })
      (record second { memory = memory; kernel = kernel; frames = record f { registers = b; used = used; marks = marks } ∷ [] })
  stays a b marks used memory queue kernel same within all e =
      let g : FrameRecord = record f { registers = a; used = used; marks = marks } in
      let x : Machine = record first { memory = memory; later = queue } in
      subst (λ k. Twins served n (record x { frames = g ∷ [] }) (record second { memory = memory; kernel = k; frames = record g { registers = b } ∷ [] })) (sym e)
      (frame_twins x g b queue s looks (record { agree = same; marks = within }) (record { lock = lock; posts = all; goes_on = short }))

  -- it leaves
  by-leaving : (k : ℕ) (h : How) → Fine k (leaves h f [] first) (leaves h other_frame [] second)
  unfolding Fine
  by-leaving k h lost b b2 = leave-goes served image n d f registers s looks behind lock short later posts h k b b2

  -- any other call than a post is refused
  by-refusing : (v : Service) (err : OsErr) (a b : Registers) (marks : List ℕ) → AgreeBut marks a b → WithinPost marks
      → Fine 1 (frame_refused served Deferred v err f [] a first) (frame_refused served Direct v err other_frame [] b second)
  by-refusing v err a b marks same within =
      let x = answer err 0 in
      by-twins 1 (frame_refused served Deferred v err f [] a first) (frame_refused served Direct v err other_frame [] b second) refl
      (stays (told x a) (told x b) [] (f.used + 1) d.memory later after_posts (told-same marks a b x same within) (λ r h. refl) posts refl)

  -- a post: it is queued in one run, and acts in the other

  module _ (v : Service) (post : is_post v ≡ true) (a b : Registers) (marks : List ℕ) (same : AgreeBut marks a b) (within : WithinPost marks)
      (words : arguments v (argument_words a) ≡ arguments v (argument_words b)) where
    abbrev args : List ℕ
    args = argument_words a

    abbrev args2 : List ℕ
    args2 = argument_words b

    -- the change that a posting makes
    abbrev posts_so : FrameRecord → Registers → List ℕ → Posting → Machine → Change
    posts_so g r args p m =
        record {
          what = Post g.vector v (arguments v args) (argument_count v) p.answer.err p.answer.value;
          machine = record m { kernel = p.kernel; later = p.later; frames = answered_frame g r p.answer post_marks ∷ [] };
        }

    -- the post as it is queued
    abbrev post_now : Queued
    post_now = record { service = v; args = args; saved = prio_of d.kernel d.current }

    -- at once it does what it does once it is performed as the last of the queue
    same-kernel : (posted served v args2 (prio_of after_posts d.current) (prio_of after_posts d.current) after_posts).kernel ≡ all_performed served (later ++ post_now ∷ []) d.kernel
    same-kernel =
        let p = prio_of after_posts d.current in
        ap (λ (e : Effect). e.kernel) (sym (posted-same served p p after_posts a b v post words))
        ∙ ap (λ u. (posted served v args u u after_posts).kernel) ((stays-all served later d.kernel posts).prio d.current)
        ∙ sym (performed-last served post_now later d.kernel)

    by-queueing : (room : Bool) → Fine 1 (posts_so f a args (queues (if room then Some (later ++ post_now ∷ []) else None) d.kernel later) first)
        (posts_so other_frame b args2 (posts_by served Direct Direct v args2 (prio_of after_posts d.current) second) second)
    unfolding Fine
    by-queueing true =
        let c = posts_so f a args (queues (Some (later ++ post_now ∷ [])) d.kernel later) first in
        let p = posts_by served Direct Direct v args2 (prio_of after_posts d.current) second in
        let all = All-append (λ (q : Queued). is_post q.service ≡ true) later (post_now ∷ []) posts
        (All-cons (λ (q : Queued). is_post q.service ≡ true) post_now [] post (All-nil (λ (q : Queued). is_post q.service ≡ true))) in
        by-twins 1 c (posts_so other_frame b args2 p second) refl
        (stays (told (fine 0) a) (told p.answer b) post_marks (f.used + 1) d.memory (later ++ post_now ∷ []) p.kernel (told-other marks a b (fine 0) p.answer same within) (λ r h. h) all same-kernel)
    by-queueing false = λ lost. absurd (false≢true (sym lost))

    -- the post as the static checks answer
    by-checking : (o : Option OsErr) → Fine 1 (posts_so f a args (checked_post served Deferred o v args first) first) (posts_so other_frame b args2 (checked_post served Direct o v args2 second) second)
    by-checking (Some err) =
        let x = answer err 0 in
        by-twins 1 (posts_so f a args (checked_post served Deferred (Some err) v args first) first) (posts_so other_frame b args2 (checked_post served Direct (Some err) v args2 second) second) refl
        (stays (told x a) (told x b) post_marks (f.used + 1) d.memory later after_posts (told-other marks a b x x same within) (λ r h. h) posts refl)
    by-checking None = by-queueing (nat_lt (length later) d.config.defer_size)

    by-posting : Fine 1 (frame_posts served Deferred v args f [] a first) (frame_posts served Direct v args2 other_frame [] b second)
    by-posting =
        let o = static_error v args (kinds_of d.kernel) false in
        let o2 = static_error v args2 (kinds_of after_posts) false in
        let e : o ≡ o2 = ap (λ t. static_error v args t false) (sym (kinds-all_performed served later d.kernel posts)) ∙ checked-same a b (kinds_of after_posts) false v post words in
        subst (λ r. Fine 1 (frame_posts served Deferred v args f [] a first) (posts_so other_frame b args2 (checked_post served Direct r v args2 second) second)) e (by-checking o)

  -- a call of a service, by what it is
  by-calling : (v : Service) (a b : Registers) (marks : List ℕ) → AgreeBut marks a b → WithinPost marks → (served v ≡ true → arguments v (argument_words a) ≡ arguments v (argument_words b))
      → Fine 1 (frame_calls served Deferred v (argument_words a) f [] a first) (frame_calls served Direct v (argument_words b) other_frame [] b second)
  by-calling v a b marks same within words =
      let one = frame_posts served Deferred v (argument_words a) f [] a first in
      let two = frame_posts served Direct v (argument_words b) other_frame [] b second in
      let no : OsErr → Change = λ err. frame_refused served Deferred v err f [] a first in
      let no2 : OsErr → Change = λ err. frame_refused served Direct v err other_frame [] b second in
      let err = interrupt_error v in
      let posting : (p : Bool) → is_post v ≡ p → served v ≡ true → Fine 1 (if p then one else no err) (if p then two else no2 err)
      = λ p. elim p as (λ p. is_post v ≡ p → served v ≡ true → Fine 1 (if p then one else no err) (if p then two else no2 err)) [
        | true ↦ λ e k. by-posting v e a b marks same within (words k)
        | false ↦ λ e k. by-refusing v err a b marks same within
      ] in
      let there : (t : Bool) → served v ≡ t → Fine 1 (if t then (if is_post v then one else no err) else no CallUnknown) (if t then (if is_post v then two else no2 err) else no2 CallUnknown)
      = λ t. elim t as (λ t. served v ≡ t → Fine 1 (if t then (if is_post v then one else no err) else no CallUnknown) (if t then (if is_post v then two else no2 err) else no2 CallUnknown)) [
        | true ↦ λ k. posting (is_post v) refl k
        | false ↦ λ k. by-refusing v CallUnknown a b marks same within
      ] in
      there (served v) refl

  -- an instruction, by what came of it
  by-did : (did : Stepped) (e e2 : Execution) (marks : List ℕ) → (is_trap did ≡ false → AgreeBut marks e.registers e2.registers) → (is_call did ≡ true → SameCall served e.registers e2.registers)
      → e.memory ≡ e2.memory → WithinPost marks → Fine 1 (frame_did served Deferred did e f [] marks first) (frame_did served Direct did e2 other_frame [] marks second)
  by-did Next e e2 marks agree call memory within =
      let same = agree refl in
      let on : Change = record { what = Quiet; machine = record first { frames = ran f e.registers marks ∷ [] } } in
      let on2 : Change = record { what = Quiet; machine = record second { frames = ran other_frame e2.registers marks ∷ [] } } in
      both (Fine 1) (e.registers.pc == leave) (e2.registers.pc == leave) (leaves how.Ret f [] first) on (leaves how.Ret other_frame [] second) on2 (ap (λ pc. pc == leave) same.pc)
      (by-leaving 1 how.Ret)
      (by-twins 1 on on2 refl (stays e.registers e2.registers marks (f.used + 1) d.memory later after_posts same within posts refl))
  by-did (Stored addr width value) e e2 marks agree call memory within =
      let same = agree refl in
      let c = frame_did served Deferred (Stored addr width value) e f [] marks first in
      let c2 : List ℕ → Change = λ m. record { what = c.what; machine = record second { memory = m; frames = ran other_frame e2.registers marks ∷ [] } } in
      subst (λ m. Fine 1 c (c2 m)) memory
      (by-twins 1 c (c2 e.memory) refl (stays e.registers e2.registers marks (f.used + 1) e.memory later after_posts same within posts refl))
  by-did Call e e2 marks agree call memory within =
      let a = e.registers in
      let b = e2.registers in
      let v = service_of (read a 17) in
      let same-call = call refl in
      subst (λ u. Fine 1 (frame_calls served Deferred v (argument_words a) f [] a first) (frame_calls served Direct u (argument_words b) other_frame [] b second)) same-call.service
      (by-calling v a b marks (agree refl) within same-call.arguments)
  by-did (Trap kind pc) e e2 marks agree call memory within = by-leaving 1 (how.Trap kind pc)

  -- the frame runs one instruction, which reads no marked register
  by-running : FrameAgrees f registers → reads_result served d.code f ≡ false → Fine 1 (frame_runs served Deferred f [] first) (frame_runs served Direct other_frame [] second)
  by-running agrees unread =
      let e = exec d.code f.registers d.memory in
      let e2 = exec d.code registers d.memory in
      let o = next_instruction d.code f.registers in
      let marks = marks_after o f.marks in
      let like = like-exec served d.memory f.marks f.registers registers agrees.agree d.code unread in
      let left : marks ≡ marks_after (next_instruction d.code registers) f.marks = ap (λ pc. marks_after (instruction_of (fetched d.code pc)) f.marks) agrees.agree.pc in
      subst (λ ms. Fine 1 (frame_did served Deferred e.did e f [] marks first) (frame_did served Direct e2.did e2 other_frame [] ms second)) left
      (subst (λ did. Fine 1 (frame_did served Deferred e.did e f [] marks first) (frame_did served Direct did e2 other_frame [] marks second)) like.did
      (by-did e.did e e2 marks like.registers like.call like.memory (within-after o f.marks agrees.marks)))

  -- where it loses no post, both events go together
  pub running-goes : FrameAgrees f registers → reads_result served d.code f ≡ false → loses_post (frame_runs served Deferred f [] first).what ≡ false
      → TogetherBy served image n first second (after served Deferred (FrameRuns f []) first) (after served Direct (FrameRuns other_frame []) second)
  unfolding Fine
  running-goes agrees unread lost = by-running agrees unread lost (marks served (FrameRuns f []) first) (marks served (FrameRuns other_frame []) second)
