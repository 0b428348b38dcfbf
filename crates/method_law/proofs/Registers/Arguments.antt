-- A post reads no more words than its service has arguments.
use Rattle.machine_laws.proofs.Common.{◌≡◌, Bool, ℕ, refl, true, List, [], ◌∙◌, ◌∷◌, None, Some, Option, ap, if◌then◌else◌, ◌^◌, ◌%◌, false≢true, static_error, is_post, OsErr, CallUnknown, Request, Service, FlagPost, QPost, SemPost, TaskQPost, TaskSemPost, TimeTick, call_of, call_error, Effect, refused, posted, post_request, after_checks, content_for, perform, Kernel, Content, Bits, Count, Registers, read, argument_words}
use Rattle.std.specs.Prelude.{slice_index}
use Rattle.kern_base.specs.Tables.{KindTable}
use Rattle.kern_model.specs.Semaphores.{sem_post}
use Rattle.kern_model.specs.Flags.{flag_post}
use Rattle.machine_model.specs.Answers.{arguments}

module _ (served : Service → Bool) (p h : ℕ) (k : Kernel) where
  -- requests that fail the same check and do the same after it
  same-checks : (e : Option OsErr) (r q : Request) → perform r.service (call_of r 63 p h) k ≡ perform q.service (call_of q 63 p h) k → after_checks e (call_of r 63 p h) k ≡ after_checks e (call_of q 63 p h) k
  same-checks (Some err) r q e = refl
  same-checks None r q e = e

  same-sem : (c : Content) (x y : ℕ) (us vs : List ℕ) → sem_post c (post_request SemPost (x ∷ y ∷ us)) h k ≡ sem_post c (post_request SemPost (x ∷ y ∷ vs)) h k
  same-sem (Count n) x y us vs = refl
  same-sem _ x y us vs = refl

  same-flag : (c : Content) (x y z : ℕ) (us vs : List ℕ) → flag_post c (post_request FlagPost (x ∷ y ∷ z ∷ us)) h k ≡ flag_post c (post_request FlagPost (x ∷ y ∷ z ∷ vs)) h k
  same-flag (Bits old) x y z us vs = refl
  same-flag _ x y z us vs = refl

  -- each post, with other words behind its arguments
  behind-sem : (x y : ℕ) (us vs : List ℕ) → posted served SemPost (x ∷ y ∷ us) p h k ≡ posted served SemPost (x ∷ y ∷ vs) p h k
  behind-sem x y us vs =
      let r = post_request SemPost (x ∷ y ∷ us) in
      let q = post_request SemPost (x ∷ y ∷ vs) in
      ap (λ (e : Effect). if served SemPost then e else refused k CallUnknown) (same-checks (call_error r 63 k) r q (same-sem (content_for r k) x y us vs))

  behind-flag : (x y z : ℕ) (us vs : List ℕ) → posted served FlagPost (x ∷ y ∷ z ∷ us) p h k ≡ posted served FlagPost (x ∷ y ∷ z ∷ vs) p h k
  behind-flag x y z us vs =
      let r = post_request FlagPost (x ∷ y ∷ z ∷ us) in
      let q = post_request FlagPost (x ∷ y ∷ z ∷ vs) in
      ap (λ (e : Effect). if served FlagPost then e else refused k CallUnknown) (same-checks (call_error r 63 k) r q (same-flag (content_for r k) x y z us vs))

  behind-task_sem : (x y : ℕ) (us vs : List ℕ) → posted served TaskSemPost (x ∷ y ∷ us) p h k ≡ posted served TaskSemPost (x ∷ y ∷ vs) p h k
  behind-task_sem x y us vs =
      let r = post_request TaskSemPost (x ∷ y ∷ us) in
      let q = post_request TaskSemPost (x ∷ y ∷ vs) in
      ap (λ (e : Effect). if served TaskSemPost then e else refused k CallUnknown) (same-checks (call_error r 63 k) r q refl)

  behind-tick : (us vs : List ℕ) → posted served TimeTick us p h k ≡ posted served TimeTick vs p h k
  behind-tick us vs =
      let r = post_request TimeTick us in
      let q = post_request TimeTick vs in
      ap (λ (e : Effect). if served TimeTick then e else refused k CallUnknown) (same-checks (call_error r 63 k) r q refl)

  module _ (a b : Registers) where
    -- a register's word
    abbrev word_of : Registers → ℕ → ℕ
    word_of regs r = read regs r % 2 ^ 32

    pub posted-same : (s : Service) → is_post s ≡ true → arguments s (argument_words a) ≡ arguments s (argument_words b) → posted served s (argument_words a) p h k ≡ posted served s (argument_words b) p h k
    posted-same SemPost i e =
        behind-sem (word_of a 10) (word_of a 11) (word_of a 12 ∷ word_of a 13 ∷ []) (word_of b 12 ∷ word_of b 13 ∷ [])
        ∙ ap (λ (l : List ℕ). posted served SemPost (slice_index l 0 ∷ slice_index l 1 ∷ word_of b 12 ∷ word_of b 13 ∷ []) p h k) e
    posted-same QPost i e = ap (λ (l : List ℕ). posted served QPost l p h k) e
    posted-same FlagPost i e =
        behind-flag (word_of a 10) (word_of a 11) (word_of a 12) (word_of a 13 ∷ []) (word_of b 13 ∷ [])
        ∙ ap (λ (l : List ℕ). posted served FlagPost (slice_index l 0 ∷ slice_index l 1 ∷ slice_index l 2 ∷ word_of b 13 ∷ []) p h k) e
    posted-same TaskSemPost i e =
        behind-task_sem (word_of a 10) (word_of a 11) (word_of a 12 ∷ word_of a 13 ∷ []) (word_of b 12 ∷ word_of b 13 ∷ [])
        ∙ ap (λ (l : List ℕ). posted served TaskSemPost (slice_index l 0 ∷ slice_index l 1 ∷ word_of b 12 ∷ word_of b 13 ∷ []) p h k) e
    posted-same TaskQPost i e = ap (λ (l : List ℕ). posted served TaskQPost l p h k) e
    posted-same TimeTick i e = behind-tick (argument_words a) (argument_words b)
    posted-same _ i e = absurd (false≢true i)

-- the same of the static checks
module _ (a b : Registers) (table : KindTable) (own : Bool) where
  pub checked-same : (s : Service) → is_post s ≡ true → arguments s (argument_words a) ≡ arguments s (argument_words b) → static_error s (argument_words a) table own ≡ static_error s (argument_words b) table own
  checked-same SemPost i e = ap (λ (l : List ℕ). static_error SemPost l table own) e
  checked-same QPost i e = ap (λ (l : List ℕ). static_error QPost l table own) e
  checked-same FlagPost i e = ap (λ (l : List ℕ). static_error FlagPost l table own) e
  checked-same TaskSemPost i e = ap (λ (l : List ℕ). static_error TaskSemPost l table own) e
  checked-same TaskQPost i e = ap (λ (l : List ℕ). static_error TaskQPost l table own) e
  checked-same TimeTick i e = refl
  checked-same _ i e = absurd (false≢true i)
