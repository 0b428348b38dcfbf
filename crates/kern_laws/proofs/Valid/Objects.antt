-- Each plain change keeps that mutexes are owned soundly, and that nobody waits for a free mutex or a deleted object.
use Rattle.kern_model.proofs.Common.{◌≡◌, ◌⊎◌, ℕ, zero, suc, ◌<◌, ◌≤◌, List, [], ◌∷◌, get_or, refl, sym, ap, ◌∙◌, subst, Bool, true, false, arith, inl, inr, Some, None, if◌then◌else◌, insert, Waiting, Kernel, Object, Settings, Content, Count, Messages, Bits, Held, Timed, Timer, Running, update_object, no_object, list_at, task_at, object_at, prio_of, count_of, waits_for_nothing, wait_place, Wait, left_all, stands_in, joined, rewaited, waited_objects, IsLinked, one_if, IsObject, HoldsMutex, HasNoMessage, Fits, can_wait}
use Rattle.std.proofs.lemmas.Bool.{false≢true, true≢false}
use Rattle.std.proofs.lemmas.Bool.Decides.{eqb_tells}
use Rattle.kern_model.specs.Waiters.{emptied}
use Rattle.kern_model.proofs.Lists.Members.{list-other, count-left_all_other, count-left_all_none}
use Rattle.kern_model.proofs.Linked.Wakes.{self_equal}
use Rattle.kern_model.proofs.Linked.Moves.{objects_inside, stands_once, count-rewaited_other, count-rewaited_own}
use Rattle.kern_model.proofs.Linked.Contents.{update_object_at}
use Rattle.kern_laws.proofs.Changes.Each.{WaitsFit, follows}
use Rattle.kern_laws.proofs.Changes.Parts.{SoundObjects, Keeps}
use Rattle.kern_laws.proofs.Valid.Fits.{free_never, timed_never}

-- a list in which nothing stands is empty
pub empty_by_counts : (xs : List ℕ) → ((y : ℕ) → count_of y xs ≡ 0) → xs ≡ []
empty_by_counts [] h = refl
empty_by_counts (x ∷ xs) h = absurd (omega (arith, h x, ap one_if (self_equal x)))

-- an empty list whose members stay, or leave, stays empty
stays_empty : (xs ys : List ℕ) → ((y : ℕ) → count_of y xs ≡ 0 → count_of y ys ≡ 0) → xs ≡ [] → ys ≡ []
stays_empty xs ys h e = empty_by_counts ys (λ y. h y (ap (λ l. count_of y l) e))

-- an object's soundness says of its waiters only that there is none
mutex-waiters : (n : ℕ) (xs ys : List ℕ) (c : Content) → (xs ≡ [] → ys ≡ []) → HoldsMutex n xs c → HoldsMutex n ys c
mutex-waiters n xs ys (Held None m) e h = e h
mutex-waiters n xs ys (Held (Some v) m) e h = h
mutex-waiters n xs ys (Count m) e h = tt
mutex-waiters n xs ys (Messages l ms) e h = tt
mutex-waiters n xs ys (Bits b) e h = tt
mutex-waiters n xs ys (Timed t) e h = tt

object-waiters : (n : ℕ) (xs ys : List ℕ) (d : Bool) (c : Content) → (xs ≡ [] → ys ≡ []) → IsObject n xs d c → IsObject n ys d c
object-waiters n xs ys true c e h = (e h.0, h.1)
object-waiters n xs ys false c e h = mutex-waiters n xs ys c e h

-- other pend lists, where empty ones stay empty
objects-pend : (k : Kernel) (pend : List (List ℕ)) → ((o : ℕ) → list_at k.pend o ≡ [] → list_at pend o ≡ []) → SoundObjects k → SoundObjects (record k { pend = pend })
objects-pend k pend h old o = object-waiters k.settings.tasks (list_at k.pend o) (list_at pend o) (object_at k o).deleted (object_at k o).content (h o) (old o)

-- x leaves the lists of these objects
left_empty : (x : ℕ) (os : List ℕ) (lists : List (List ℕ)) (o : ℕ) → list_at lists o ≡ [] → list_at (left_all x os lists) o ≡ []
left_empty x os lists o =
    stays_empty (list_at lists o) (list_at (left_all x os lists) o) λ y none.
    elim (eqb_tells x y) [
      | inl e ↦ subst (λ z. count_of z (list_at (left_all x os lists) o) ≡ 0) e.1 (count-left_all_none x os lists o (subst (λ z. count_of z (list_at lists o) ≡ 0) (sym e.1) none))
      | inr e ↦ count-left_all_other x os lists o y e.1 ∙ none
    ]

-- x stands in the lists of these objects, and those of others are the same
stands_elsewhere : (prio : ℕ → ℕ) (x p : ℕ) (os : List ℕ) (lists : List (List ℕ)) (q : ℕ) → count_of q os ≡ 0 → list_at (stands_in prio x p os lists) q ≡ list_at lists q
stands_elsewhere prio x p [] lists q h = refl
stands_elsewhere prio x p (o ∷ os) lists q h =
    elim (eqb_tells o q) [
      | inl e ↦ absurd (omega (arith, h, ap one_if e.0))
      | inr e ↦ stands_elsewhere prio x p os (joined (wait_place prio p) x o lists) q (omega (arith, h, ap one_if e.0)) ∙ list-other (λ xs. insert xs (wait_place prio p xs) x) lists o q e.1
    ]

-- an object that a task may wait for is sound whoever waits
mutex-waited : (n : ℕ) (w : Waiting) (xs ys : List ℕ) (c : Content) → can_wait w c ≡ true → HoldsMutex n xs c → HoldsMutex n ys c
mutex-waited n w xs ys (Held None m) f h = absurd (true≢false (sym f ∙ free_never w m))
mutex-waited n w xs ys (Held (Some v) m) f h = h
mutex-waited n w xs ys (Count m) f h = tt
mutex-waited n w xs ys (Messages l ms) f h = tt
mutex-waited n w xs ys (Bits b) f h = tt
mutex-waited n w xs ys (Timed t) f h = tt

object-waited : (n : ℕ) (w : Waiting) (xs ys : List ℕ) (d : Bool) (c : Content) → d ≡ false → can_wait w c ≡ true → IsObject n xs d c → IsObject n ys d c
object-waited n w xs ys true c e f h = absurd (true≢false e)
object-waited n w xs ys false c e f h = mutex-waited n w xs ys c f h

objects-stands : (k : Kernel) (x : ℕ) (w : Wait) → Fits k.objects w.waiting w.objects → (o n : ℕ) → count_of o w.objects ≡ n → IsObject k.settings.tasks (list_at k.pend o) (object_at k o).deleted (object_at k o).content
    → IsObject k.settings.tasks (list_at (stands_in (prio_of k) x (prio_of k x) w.objects k.pend) o) (object_at k o).deleted (object_at k o).content
objects-stands k x w f o zero e h = subst (λ xs. IsObject k.settings.tasks xs (object_at k o).deleted (object_at k o).content) (sym (stands_elsewhere (prio_of k) x (prio_of k x) w.objects k.pend o e)) h
objects-stands k x w f o (suc n) e h =
    let fit = f o (omega (arith, e)) in
    object-waited k.settings.tasks w.waiting (list_at k.pend o) (list_at (stands_in (prio_of k) x (prio_of k x) w.objects k.pend) o) (object_at k o).deleted (object_at k o).content fit.0 fit.1 h

-- a move leaves the members of each list
moved_empty : (k : Kernel) → IsLinked k → (x : ℕ) → (x < 60) ⊎ (x ≡ 61) → (task_at k x).alive ≡ true → (place : List ℕ → ℕ) (p : ℕ) → 1 ≤ p → p ≤ 62 → (o : ℕ) → list_at k.pend o ≡ [] → list_at (rewaited (prio_of k) x p (waited_objects (task_at k x)) k.pend) o ≡ []
moved_empty k v x who a place p from to o =
    let t = task_at k x in
    let inside = objects_inside k v x who a place p from to (waits_for_nothing t.waiting) in
    stays_empty (list_at k.pend o) (list_at (rewaited (prio_of k) x p (waited_objects t) k.pend) o) λ y none.
    elim (eqb_tells x y) [
      | inl e ↦ subst (λ z. count_of z (list_at (rewaited (prio_of k) x p (waited_objects t) k.pend) o) ≡ 0) e.1
          (count-rewaited_own (prio_of k) x p (waited_objects t) k.pend o inside (stands_once k v x who a place p from to (waits_for_nothing t.waiting) refl) ∙ subst (λ z. count_of z (list_at k.pend o) ≡ 0) (sym e.1) none)
      | inr e ↦ count-rewaited_other (prio_of k) x p (waited_objects t) k.pend o y e.1 inside ∙ none
    ]

-- a change of one object
objects-object : (k : Kernel) (o : ℕ) (f : Object → Object) → (IsObject k.settings.tasks (list_at k.pend o) (object_at k o).deleted (object_at k o).content → IsObject k.settings.tasks (list_at k.pend o) (f (object_at k o)).deleted (f (object_at k o)).content) → SoundObjects k → SoundObjects (record k { objects = update_object k.objects o f })
objects-object k o f h old = update_object_at (λ i (b : Object). IsObject k.settings.tasks (list_at k.pend i) b.deleted b.content) f k.objects o h old

-- another content of an object that is there
there : (n : ℕ) (xs : List ℕ) (d : Bool) (c : Content) → d ≡ false → HoldsMutex n xs c → IsObject n xs d c
there n xs d c e h = subst (λ b. IsObject n xs b c) (sym e) h

mutex-follows : (n : ℕ) (xs : List ℕ) (old new : Content) → follows old new ≡ true → HoldsMutex n xs new
mutex-follows n xs (Count a) (Count b) e = tt
mutex-follows n xs (Messages l ms) (Messages m ns) e = tt
mutex-follows n xs (Bits a) (Bits b) e = tt
mutex-follows n xs _ _ e = absurd (false≢true e)

timed_sound : (n : ℕ) (xs : List ℕ) (d : Bool) (old new : Timer) → IsObject n xs d (Timed old) → IsObject n xs d (Timed new)
timed_sound n xs true old new h = h
timed_sound n xs false old new h = tt

emptied_sound : (c : Content) → HasNoMessage (emptied c)
emptied_sound (Messages l ms) = refl
emptied_sound (Count n) = tt
emptied_sound (Bits b) = tt
emptied_sound (Held v n) = tt
emptied_sound (Timed t) = tt

-- a timer has no waiter
timer_alone : (k : Kernel) → IsLinked k → WaitsFit k → (o : ℕ) (t : Timer) → (object_at k o).content ≡ Timed t → list_at k.pend o ≡ []
timer_alone k v fits o t e = empty_by_counts (list_at k.pend o) (λ y. v.lists.waiters o y ∙ nobody y (waits_for_nothing (task_at k y).waiting) (count_of o (task_at k y).objects) refl refl)
  where
    nobody : (y : ℕ) (b : Bool) (n : ℕ) → waits_for_nothing (task_at k y).waiting ≡ b → count_of o (task_at k y).objects ≡ n → (if b then 0 else n) ≡ 0
    nobody y true n w c = refl
    nobody y false zero w c = refl
    nobody y false (suc n) w c =
        let fit = fits y w o (omega (arith, c)) in
        absurd (true≢false (sym fit.1 ∙ ap (λ a. can_wait (task_at k y).waiting a) e ∙ timed_never (task_at k y).waiting t))

pub keeps-objects : (s : Settings) → Keeps s SoundObjects
keeps-objects s =
    record {
      wake = λ f h x k w i. objects-pend k (left_all x (task_at k x).objects k.pend) (left_empty x (task_at k x).objects k.pend) i.objects;
      block = λ k x w b i o. objects-stands k x w b.fits o (count_of o w.objects) refl (i.objects o);
      moves = λ place x p k v m a l n i. objects-pend k (rewaited (prio_of k) x p (waited_objects (task_at k x)) k.pend) (moved_empty k v x m a place p l n) i.objects;
      content = λ k o old new h e word i. objects-object k o (λ b. record b { content = new }) (λ _. there k.settings.tasks (list_at k.pend o) (object_at k o).deleted new h.there (mutex-follows k.settings.tasks (list_at k.pend o) old new e)) i.objects;
      taken = λ k o n x h m i. objects-object k o (λ b. record b { content = Held (Some x) 1 })
          (λ _. there k.settings.tasks (list_at k.pend o) (object_at k o).deleted (Held (Some x) 1) h.there (m, omega arith, omega arith)) i.objects;
      owned = λ k o m n v x h a l d i. objects-object k o (λ b. record b { content = Held (Some x) n })
          (λ _. there k.settings.tasks (list_at k.pend o) (object_at k o).deleted (Held (Some x) n) h.there (a, l, d)) i.objects;
      freed = λ k o m v h e i. objects-object k o (λ b. record b { content = Held None 0 }) (λ _. there k.settings.tasks (list_at k.pend o) (object_at k o).deleted (Held None 0) h.there e) i.objects;
      deleted = λ k o c h t e i. objects-object k o (λ b. record { content = emptied b.content; deleted = true }) (λ _. (e, emptied_sound (object_at k o).content)) i.objects;
      timer_runs = λ k o after t h i. objects-object k o (λ b. record b { content = Timed (record t { state = Running }) })
          (λ j. timed_sound k.settings.tasks (list_at k.pend o) (object_at k o).deleted t (record t { state = Running }) (subst (λ c. IsObject k.settings.tasks (list_at k.pend o) (object_at k o).deleted c) h.holds j)) i.objects;
      timer_rests = λ k o t state h d i. objects-object k o (λ b. record b { content = Timed (record t { state = state }) })
          (λ j. timed_sound k.settings.tasks (list_at k.pend o) (object_at k o).deleted t (record t { state = state }) (subst (λ c. IsObject k.settings.tasks (list_at k.pend o) (object_at k o).deleted c) h.holds j)) i.objects;
      timer_deleted = λ k o t v h d i. objects-object k o (λ b. record b { deleted = true })
          (λ _. (timer_alone k v i.fits o t h, subst HasNoMessage (sym h) tt)) i.objects;
      task = λ k x f h i. i.objects;
      based = λ k x p inside l n i. i.objects;
      stores = λ k x ms r words i. i.objects;
      answers = λ k x a p i. i.objects;
      ended = λ k outcome x v l i. objects-pend k (left_all x (waited_objects (task_at k x)) k.pend) (left_empty x (waited_objects (task_at k x)) k.pend) i.objects;
      died = λ k x v l r i. i.objects;
      internal = λ k x w v e d i. i.objects;
      rest = λ k j e i o. subst (λ s. IsObject s.tasks (list_at j.pend o) (object_at j o).deleted (object_at j o).content) (sym e.settings)
          (subst (λ (bs : List Object). IsObject k.settings.tasks (list_at j.pend o) (get_or bs o no_object).deleted (get_or bs o no_object).content) (sym e.objects)
          (subst (λ ls. IsObject k.settings.tasks (list_at ls o) (object_at k o).deleted (object_at k o).content) (sym e.pend) (i.objects o)));
    }
