-- The entry of an interrupt, the instructions of its frame, and its leaving keep the machine valid.
use Rattle.machine_laws.proofs.Common.{◌≡◌, Bool, ℕ, refl, true, List, [], false, ◌∙◌, ◌∷◌, None, Some, sym, arith, Option, subst, ◌≤◌, inl, inr, ◌+◌, ◌<◌, ◌⊎◌, ◌&&◌, length, nat_lt, not, false≢true, true≢false, Config, static_error, is_post, OsErr, Method, Deferred, Direct, Service, choice_by, and_first, and_second, call_of, posted, post_request, Kernel, prio_of, kinds_of, pick, IsLinked, Place, FrameRecord, none_stands, Interrupt, frame_runs, without_top, checked_post, queues, Machine, WholeStep, CallOf, TakeOf, UnitOf, Work, Queued, front, settled, is_free, IsBegun}
use Rattle.std.proofs.Common.{◌++◌}
use Rattle.std.proofs.lemmas.List.{length-append}
use Rattle.std.proofs.lemmas.List.Elements.{All-contains, All-push}
use Rattle.kern_model.proofs.Lemmas.{less, not_false, linked-effect}
use Rattle.machine_model.specs.Queue.{queued}
use Rattle.machine_model.specs.Frames.{level_of, entered}
use Rattle.machine_model.specs.Interrupts.{enters, posting}
use Rattle.machine_model.specs.Rules.{is_masked, is_quiet, may_take}
use Rattle.machine_laws.specs.Valid.{AreStacked, IsQueue, Fits, NoDirectFrame, IsAtRest, IsValidHand}
use Rattle.machine_laws.specs.RuleTable.{AnInterruptIsDue}
use Rattle.machine_laws.proofs.Rules.Due.{due-is, all-taken_at}
use Rattle.machine_laws.proofs.Rules.Outcomes.{after-frame}
use Rattle.machine_laws.proofs.Ready.Changes.{leaves_ready-posted}
use Rattle.machine_laws.proofs.Valid.Tasks.{holds-leaves_ready}
use Rattle.machine_laws.proofs.Valid.Settling.{Valid, rest-of, settled-rest}

-- what is in hand stands, whatever frames do, where under the direct method one stands
stands-frames : (served : Service → Bool) (method : Method) (config : Config) (hand : Option WholeStep) (k : Kernel) (current : ℕ) (later : List Queued) (before : List FrameRecord) (f : FrameRecord) (below : List FrameRecord) → IsValidHand served method config hand k current later before → IsValidHand served method config hand k current later (f ∷ below)
stands-frames served method config (Some w) k current later before f below h = h
stands-frames served method config None k current later before f below h = record { locked = h.locked; ready = h.ready; picked = by method h.picked }
  where
    by : (o : Method) → (k.lock ≡ 0 → later ≡ [] → NoDirectFrame o before → current ≡ pick k) → k.lock ≡ 0 → later ≡ [] → NoDirectFrame o (f ∷ below) → current ≡ pick k
    by Direct p e n d = cc
    by Deferred p e n d = p e n tt

-- nothing is in hand
pub free-is : (hand : Option WholeStep) → is_free hand ≡ true → hand ≡ None
free-is None e = refl
free-is (Some w) e = absurd (false≢true e)

-- A queue with a post more.

no_end : (later : List Queued) (q : Queued) → later ++ q ∷ [] ≡ [] → ⊥
no_end [] q e = cc
no_end (p ∷ ps) q e = cc

front-grown : (later : List Queued) (p q : Queued) → front later ≡ Some q → front (later ++ p ∷ []) ≡ Some q
front-grown [] p q e = cc
front-grown (r ∷ rs) p q e = e

begun-grown : (w : Work) (k : Kernel) (current : ℕ) (later : List Queued) (q : Queued) → IsBegun w k current later → IsBegun w k current (later ++ q ∷ [])
begun-grown (CallOf x r p) k current later q h = h
begun-grown (UnitOf x) k current later q h = h
begun-grown (TakeOf p) k current later q h = record { first = front-grown later q p h.first; unlocked = h.unlocked }

stands-grown : (served : Service → Bool) (method : Method) (config : Config) (hand : Option WholeStep) (k : Kernel) (current : ℕ) (later : List Queued) (q : Queued) (frames : List FrameRecord) → IsValidHand served method config hand k current later frames → IsValidHand served method config hand k current (later ++ q ∷ []) frames
stands-grown served method config (Some w) k current later q frames h = record { begun = begun-grown w.work k current later q h.begun; more = h.more }
stands-grown served method config None k current later q frames h =
    record { locked = h.locked; ready = λ e n. absurd (no_end later q n); picked = λ e n d. absurd (no_end later q n) }

-- What a post of a frame comes to.

record PostsWell (served : Service → Bool) (o : Method) (m : Machine) (top : List FrameRecord) (k : Kernel) (after : List Queued) : Type 0 where
  valid : IsLinked k
  queue : IsQueue m.config.defer_size after
  direct : o ≡ Direct → after ≡ m.later
  stands : IsValidHand served o m.config m.in_hand k m.current after top

module _ (served : Service → Bool) (m : Machine) (valid : IsLinked m.kernel) (queue : IsQueue m.config.defer_size m.later) (g : FrameRecord) (below : List FrameRecord) (s : Service) (args : List ℕ) (post : is_post s ≡ true) where
  -- a post that is refused
  posts-refused : (o : Method) → IsValidHand served o m.config m.in_hand m.kernel m.current m.later m.frames → PostsWell served o m (g ∷ below) m.kernel m.later
  posts-refused o h =
      record { valid = valid; queue = queue; direct = λ _. refl; stands = stands-frames served o m.config m.in_hand m.kernel m.current m.later m.frames g below h }

  -- a post that is queued, or lost
  posts-queued : (q : Queued) → is_post q.service ≡ true → IsValidHand served Deferred m.config m.in_hand m.kernel m.current m.later m.frames → let p = queues (queued m.config.defer_size q m.later) m.kernel m.later in PostsWell served Deferred m (g ∷ below) p.kernel p.later
  posts-queued q is h =
      let size = m.config.defer_size in
      choice_by (λ (o : Option (List Queued)). let p = queues o m.kernel m.later in PostsWell served Deferred m (g ∷ below) p.kernel p.later) (nat_lt (length m.later) size) (Some (m.later ++ q ∷ [])) None
      (λ t.
      let room = less (length m.later) size t in
      let many = length-append m.later (q ∷ []) in
      record {
        valid = valid;
        queue = record { posts = All-push (λ p. is_post p.service ≡ true) m.later q queue.posts is; room = omega (arith, room, many) };
        direct = λ e. cc;
        stands = stands-frames served Deferred m.config m.in_hand m.kernel m.current (m.later ++ q ∷ []) m.frames g below (stands-grown served Deferred m.config m.in_hand m.kernel m.current m.later q m.frames h);
      })
      (λ t. posts-refused Deferred h)

  -- a post that is performed at once, where nothing is in hand
  posts-at-once : (c h : ℕ) → m.in_hand ≡ None → IsAtRest Direct m.kernel m.current m.later m.frames → PostsWell served Direct m (g ∷ below) (posted served s args c h m.kernel).kernel m.later
  posts-at-once c h none rest =
      let k = m.kernel in
      let j = (posted served s args c h k).kernel in
      let kept = leaves_ready-posted served s args c h k post in
      record {
        valid = linked-effect served (call_of (post_request s args) 63 c h) k valid (λ no. absurd (true≢false (sym post ∙ no)));
        queue = queue;
        direct = λ _. refl;
        stands = rw none (record {
          locked = λ l. holds-leaves_ready m.current k j kept.processing (kept.ready m.current) (rest.locked (subst (λ n. 0 < n) kept.lock l));
          ready = λ e n. kept.ready m.current (rest.ready (sym kept.lock ∙ e) n);
          picked = λ e n (d : g ∷ below ≡ []). cc;
        });
      }

  posts-well : (o : Method) (e : Option OsErr) → (o ≡ Direct → m.in_hand ≡ None) → IsValidHand served o m.config m.in_hand m.kernel m.current m.later m.frames → let p = checked_post served o e s args m in PostsWell served o m (g ∷ below) p.kernel p.later
  posts-well o (Some err) free h = posts-refused o h
  posts-well Deferred None free h = posts-queued (record { service = s; args = args; saved = prio_of m.kernel m.current }) post h
  posts-well Direct None free h =
      let p = prio_of m.kernel m.current in
      let none = free refl in
      posts-at-once p p none (rw none at h)

module _ (served : Service → Bool) (method : Method) (m : Machine) (v : Valid served method m) where
  -- The entry.

  fits-enters : (p : Place) → AnInterruptIsDue method p m → Fits method m.later m.in_hand (entered p.interrupt ∷ m.frames)
  fits-enters p h = by method v.fits (due-is (is_masked method m.in_hand) (is_quiet m) m.s m.t m.frames m.interrupts p h.due).may
    where
      by : (o : Method) → Fits o m.later m.in_hand m.frames → (is_masked o m.in_hand ≡ false) ⊎ (is_quiet m ≡ true) → Fits o m.later m.in_hand (entered p.interrupt ∷ m.frames)
      by Direct f (inl e) = record { empty = f.empty; masked = inl (free-is m.in_hand (not_false (is_free m.in_hand) e)) }
      by Direct f (inr e) = record { empty = f.empty; masked = inl (free-is m.in_hand (and_first (is_free m.in_hand) (not (may_take m)) e)) }
      by Deferred f e = tt

  pub valid-enters : (p : Place) → AnInterruptIsDue method p m → Valid served method (enters p m).machine
  valid-enters p h =
      let d = due-is (is_masked method m.in_hand) (is_quiet m) m.s m.t m.frames m.interrupts p h.due in
      record {
        kernel = v.kernel;
        registers = v.registers;
        frames = (omega arith, d.above, All-contains (λ (i : Interrupt). i.level ≤ 7) m.interrupts p.interrupt v.interrupts d.there, v.frames);
        interrupts = all-taken_at (λ i. i.level ≤ 7) p.at m.interrupts v.interrupts;
        queue = v.queue;
        fits = fits-enters p h;
        stands = stands-frames served method m.config m.in_hand m.kernel m.current m.later m.frames (entered p.interrupt) m.frames v.stands;
      }

  -- The top frame, and those below it.
  module _ (f : FrameRecord) (below : List FrameRecord) (top : m.frames ≡ f ∷ below) where
    stacked : AreStacked m.config.isr_limit (f ∷ below)
    stacked = rw top at v.frames

    -- under the direct method nothing is in hand
    direct-free : (o : Method) → o ≡ Direct → Fits o m.later m.in_hand m.frames → m.in_hand ≡ None
    direct-free Direct e h = elim h.masked [ inl n ↦ n | inr n ↦ absurd (some_frame (sym top ∙ n)) ]
      where
        some_frame : f ∷ below ≡ [] → ⊥
        some_frame e = cc
    direct-free Deferred e h = cc

    -- other frames fit too
    fits-others : (later : List Queued) (frames : List FrameRecord) → (method ≡ Direct → later ≡ m.later) → Fits method later m.in_hand frames
    fits-others later frames same = by method refl v.fits same
      where
        by : (o : Method) → method ≡ o → Fits o m.later m.in_hand m.frames → (method ≡ Direct → later ≡ m.later) → Fits o later m.in_hand frames
        by Direct e h same = record { empty = same e ∙ h.empty; masked = inl (direct-free Direct refl h) }
        by Deferred e h same = tt

    -- its leaving

    stands-left : (hand : Option WholeStep) (rest : List FrameRecord) → (none_stands rest && is_free hand) ≡ false → IsValidHand served method m.config hand m.kernel m.current m.later m.frames → IsValidHand served method m.config hand m.kernel m.current m.later rest
    stands-left (Some w) rest e h = h
    stands-left None (g ∷ rest) e h = stands-frames served method m.config None m.kernel m.current m.later m.frames g rest h
    stands-left None [] e h = absurd (true≢false e)

    pub valid-leaves : Valid served method (without_top below m)
    valid-leaves =
        let n : Machine = record m { frames = below } in
        choice_by (Valid served method) (none_stands below && is_free m.in_hand) (settled n) n
        (λ t.
        let none = free-is m.in_hand (and_second (none_stands below) (is_free m.in_hand) t) in
        let rest = rest-of served method m v none in
        record {
          kernel = v.kernel;
          registers = v.registers;
          frames = stacked.3;
          interrupts = v.interrupts;
          queue = v.queue;
          fits = fits-others m.later below (λ _. refl);
          stands = rw none (settled-rest method m.kernel m.current m.later below v.kernel rest.locked);
        })
        (λ t.
        record {
          kernel = v.kernel;
          registers = v.registers;
          frames = stacked.3;
          interrupts = v.interrupts;
          queue = v.queue;
          fits = fits-others m.later below (λ _. refl);
          stands = stands-left m.in_hand below t v.stands;
        })

    -- an instruction

    stacked-more : (g : FrameRecord) → g.used ≡ f.used + 1 → g.level ≡ f.level → f.used < m.config.isr_limit → AreStacked m.config.isr_limit (g ∷ below)
    stacked-more g used level room =
        let above : level_of below < f.level = stacked.1 in
        let most : f.level ≤ 7 = stacked.2 in
        (omega (arith, used, room), omega (arith, level, above), omega (arith, level, most), stacked.3)

    valid-ran : (g : FrameRecord) (memory : List ℕ) → g.used ≡ f.used + 1 → g.level ≡ f.level → f.used < m.config.isr_limit → Valid served method (record m { memory = memory; frames = g ∷ below })
    valid-ran g memory used level room =
        record {
          kernel = v.kernel;
          registers = v.registers;
          frames = stacked-more g used level room;
          interrupts = v.interrupts;
          queue = v.queue;
          fits = fits-others m.later (g ∷ below) (λ _. refl);
          stands = stands-frames served method m.config m.in_hand m.kernel m.current m.later m.frames g below v.stands;
        }

    valid-posted : (g : FrameRecord) (s : Service) (args : List ℕ) → g.used ≡ f.used + 1 → g.level ≡ f.level → is_post s ≡ true → f.used < m.config.isr_limit → Valid served method (record m { kernel = (posting served method s args m).kernel; later = (posting served method s args m).later; frames = g ∷ below })
    valid-posted g s args used level post room =
        let w = posts-well served m v.kernel v.queue g below s args post method (static_error s args (kinds_of m.kernel) false) (λ e. direct-free method e v.fits) v.stands in
        record {
          kernel = w.valid;
          registers = v.registers;
          frames = stacked-more g used level room;
          interrupts = v.interrupts;
          queue = w.queue;
          fits = fits-others (posting served method s args m).later (g ∷ below) w.direct;
          stands = w.stands;
        }

    pub valid-frame_runs : f.used < m.config.isr_limit → Valid served method (frame_runs served method f below m).machine
    valid-frame_runs room =
        after-frame served method f below m (Valid served method)
        (record {
          left = valid-leaves;
          ran = λ g memory used level. valid-ran g memory used level room;
          posted = λ g s args words used level post. valid-posted g s args used level post room;
        })
