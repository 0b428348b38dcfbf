-- Every plain change keeps one match for each running timer, and none for any other object.
use Rattle.kern_model.proofs.Common.{◌≡◌, ◌≢◌, ◌⊎◌, ℕ, ◌<◌, ◌+◌, List, [], ◌∷◌, ◌++◌, ◌^◌, get_or, refl, sym, ap, ◌∙◌, subst, Bool, true, false, Some, None, arith, inl, inr, ◌%◌, Kernel, Settings, Object, Timer, TimerState, Stopped, Running, Completed, Content, Count, Messages, Bits, Held, Timed, object_at, no_object, update_object, count_of, unmatched, one_if, matched, matches_of, timer_matches_of}
use Rattle.std.proofs.lemmas.Bool.{false≢true, true≢false}
use Rattle.std.proofs.lemmas.List.{get_or-set_same, get_or-set_other}
use Rattle.std.proofs.lemmas.Bool.Decides.{eqb_tells}
use Rattle.kern_model.specs.Waiters.{emptied}
use Rattle.kern_model.proofs.Lists.Members.{count-unmatched_other, count-unmatched_own}
use Rattle.kern_model.proofs.Linked.Wakes.{self_equal, count_matched-append}
use Rattle.kern_model.proofs.Linked.Contents.{update_object_same, object_inside}
use Rattle.kern_laws.proofs.Changes.Each.{IsTimer, SameRest, follows, is_timed}
use Rattle.kern_laws.proofs.Changes.Parts.{TimerMatches, Keeps}

-- how many matches an object is to have
abbrev pub wanted : Object → ℕ
wanted b = timer_matches_of b.deleted b.content

-- a change of one object that is to have as many as before
timers-object : (k : Kernel) (o : ℕ) (f : Object → Object) → wanted (f (object_at k o)) ≡ wanted (object_at k o) → TimerMatches k → TimerMatches (record k { objects = update_object k.objects o f })
timers-object k o f h old i = old i ∙ sym (update_object_same wanted f k.objects o i h)

-- no object but a timer has a match
untimed : (d : Bool) (c : Content) → is_timed c ≡ false → timer_matches_of d c ≡ 0
untimed true c h = refl
untimed false (Count n) h = refl
untimed false (Messages limit ms) h = refl
untimed false (Bits bits) h = refl
untimed false (Held owner nesting) h = refl
untimed false (Timed t) h = absurd (true≢false h)

follows-old : (a b : Content) → follows a b ≡ true → is_timed a ≡ false
follows-old (Count n) b h = refl
follows-old (Messages limit ms) b h = refl
follows-old (Bits bits) b h = refl
follows-old (Held owner nesting) b h = refl
follows-old (Timed t) b h = absurd (false≢true h)

follows-new : (a b : Content) → follows a b ≡ true → is_timed b ≡ false
follows-new a (Count n) h = refl
follows-new a (Messages limit ms) h = refl
follows-new a (Bits bits) h = refl
follows-new a (Held owner nesting) h = refl
follows-new (Count n) (Timed t) h = absurd (false≢true h)
follows-new (Messages limit ms) (Timed t) h = absurd (false≢true h)
follows-new (Bits bits) (Timed t) h = absurd (false≢true h)
follows-new (Held owner nesting) (Timed t) h = absurd (false≢true h)
follows-new (Timed u) (Timed t) h = absurd (false≢true h)

-- an object that is no timer gets another content that is none
timers-content : (k : Kernel) (o : ℕ) (old new : Content) → (object_at k o).content ≡ old → is_timed old ≡ false → is_timed new ≡ false → TimerMatches k → TimerMatches (record k { objects = update_object k.objects o (λ b. record b { content = new }) })
timers-content k o old new h a b =
    timers-object k o (λ b. record b { content = new })
    (untimed (object_at k o).deleted new b ∙ sym (untimed (object_at k o).deleted (object_at k o).content (subst (λ c. is_timed c ≡ false) (sym h) a)))

-- a state other than running has no match
still : (s : TimerState) → s ≢ Running → matches_of s ≡ 0
still Running h = absurd (h refl)
still Stopped h = refl
still Completed h = refl

still-timed : (d : Bool) (t : Timer) → t.state ≢ Running → timer_matches_of d (Timed t) ≡ 0
still-timed true t h = refl
still-timed false t h = still t.state h

-- a timer that may run or rest is not deleted
there : (k : Kernel) (o : ℕ) (t : Timer) → IsTimer k o t → TimerMatches k → (object_at k o).deleted ≡ false
there k o t h old = by (object_at k o).deleted refl h.there
  where
    by : (d : Bool) → (object_at k o).deleted ≡ d → ((object_at k o).deleted ≡ false) ⊎ (0 < count_of o (matched k.timer_matches)) → d ≡ false
    by false e c = refl
    by true e (inl i) = sym e ∙ i
    by true e (inr i) = let none : count_of o (matched k.timer_matches) ≡ 0 = old o ∙ ap (λ d. timer_matches_of d (object_at k o).content) e in absurd (omega (arith, i, none))

-- a timer gets this state, and as many matches as that has
timers-timed : (k : Kernel) (o : ℕ) (t : Timer) (ms : List (ℕ × ℕ)) → (object_at k o).deleted ≡ false → count_of o (matched ms) ≡ matches_of t.state → ((i : ℕ) → o ≢ i → count_of i (matched ms) ≡ count_of i (matched k.timer_matches)) → TimerMatches k
    → (i : ℕ) → count_of i (matched ms) ≡ wanted (get_or (update_object k.objects o (λ b. record b { content = Timed t })) i no_object)
timers-timed k o t ms d own others old i =
    elim (eqb_tells o i) [
      | inl e ↦ subst (λ z. count_of z (matched ms) ≡ wanted (get_or (update_object k.objects o (λ b. record b { content = Timed t })) z no_object)) e.1
          (own ∙ ap (λ d. timer_matches_of d (Timed t)) (sym d) ∙ sym (ap wanted (get_or-set_same k.objects o (record (object_at k o) { content = Timed t }) no_object (object_inside k o d))))
      | inr e ↦ others i e.1 ∙ old i ∙ sym (ap wanted (get_or-set_other k.objects o i (record (object_at k o) { content = Timed t }) no_object (λ s. e.1 (sym s))))
    ]

-- the matches after a timer got one more
count-rerun_own : (o n : ℕ) (ms : List (ℕ × ℕ)) → count_of o (matched (unmatched o ms ++ (o, n) ∷ [])) ≡ 1
count-rerun_own o n ms = omega (arith, count_matched-append o (unmatched o ms) ((o, n) ∷ []), count-unmatched_own o ms, ap one_if (self_equal o))

count-rerun_other : (o n : ℕ) (ms : List (ℕ × ℕ)) (i : ℕ) → o ≢ i → count_of i (matched (unmatched o ms ++ (o, n) ∷ [])) ≡ count_of i (matched ms)
count-rerun_other o n ms i d =
    elim (eqb_tells o i) [
      | inl e ↦ absurd (d e.1)
      | inr e ↦ omega (arith, count_matched-append i (unmatched o ms) ((o, n) ∷ []), count-unmatched_other o ms i d, ap one_if e.0)
    ]

pub keeps-timers : (s : Settings) → Keeps s TimerMatches
keeps-timers s =
    record {
      wake = λ f h x k w e. e.timers;
      block = λ k x w b e. e.timers;
      moves = λ place x p k v who a from to e. e.timers;
      content = λ k o old new h same word e. timers-content k o old new h.holds (follows-old old new same) (follows-new old new same) e.timers;
      taken = λ k o n x h who e. timers-content k o (Held None n) (Held (Some x) 1) h.holds refl refl e.timers;
      owned = λ k o m n v x h who from to e. timers-content k o (Held (Some v) m) (Held (Some x) n) h.holds refl refl e.timers;
      freed = λ k o m v h none e. timers-content k o (Held (Some v) m) (Held None 0) h.holds refl refl e.timers;
      deleted = λ k o content h plain none e. timers-object k o (λ b. record { content = emptied b.content; deleted = true })
          (sym (untimed (object_at k o).deleted (object_at k o).content (subst (λ c. is_timed c ≡ false) (sym h.holds) plain))) e.timers;
      timer_runs = λ k o after t h e. timers-timed k o (record t { state = Running }) (unmatched o k.timer_matches ++ (o, (k.timer_count + after) % 2 ^ 32) ∷ []) (there k o t h e.timers)
          (count-rerun_own o ((k.timer_count + after) % 2 ^ 32) k.timer_matches) (count-rerun_other o ((k.timer_count + after) % 2 ^ 32) k.timer_matches) e.timers;
      timer_rests = λ k o t state h rests e. timers-timed k o (record t { state = state }) (unmatched o k.timer_matches) (there k o t h e.timers)
          (count-unmatched_own o k.timer_matches ∙ sym (still state rests)) (count-unmatched_other o k.timer_matches) e.timers;
      timer_deleted = λ k o t v h rests e. timers-object k o (λ b. record b { deleted = true })
          (sym (ap (λ c. timer_matches_of (object_at k o).deleted c) h ∙ still-timed (object_at k o).deleted t rests)) e.timers;
      task = λ k x f same e. e.timers;
      based = λ k x p inside from to e. e.timers;
      stores = λ k x ms room words e. e.timers;
      answers = λ k x a plain e. e.timers;
      ended = λ k outcome x v inside e. e.timers;
      died = λ k x v inside r e. e.timers;
      internal = λ k x w v who to e. e.timers;
      rest = λ k j same e. timers-rest k j same e.timers;
    }
  where
    timers-rest : (k j : Kernel) → SameRest j k → TimerMatches k → TimerMatches j
    timers-rest k j same old i =
        ap (λ ms. count_of i (matched ms)) same.timer_matches ∙ old i ∙ ap (λ bs. wanted (get_or bs i no_object)) (sym same.objects)
