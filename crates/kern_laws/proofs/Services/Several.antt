-- A call for several objects keeps what each plain change keeps.
use Rattle.kern_model.proofs.Common.{◌≡◌, ℕ, zero, suc, ◌+◌, List, [], ◌∷◌, length, refl, ap, ◌∙◌, subst, Bool, true, false, ◌||◌, not, arith, inl, inr, Option, Some, None, ◌==◌, nat_lt, if◌then◌else◌, slice_get, PendMulti, Sem, Queue, Request, OsErr, Table, ObjectType, Multi, object_error, Kernel, Content, Count, Messages, object_at, with_content, kinds_of, Wait, argument, first_error, IsLinked, MayCall, one_if, Fits, IsTable, can_wait, IsRequest}
use Rattle.std.proofs.lemmas.Bool.Decides.{eqb_tells}
use Rattle.kern_model.specs.Several.{multi_error, multi_checked, multi_takes, table_objects, polls, taken_from, taken_all, taken_count, repeats, is_table_fault, kinds_error, deleted_error}
use Rattle.kern_model.proofs.Basics.Choices.{or_first, not_false, first_passed, second_passed, passed_if}
use Rattle.kern_model.proofs.Linked.Contents.{update_object_same}
use Rattle.kern_model.proofs.Linked.TaskServices.{linked-taken_all}
use Rattle.kern_laws.proofs.Changes.Each.{Preserved}
use Rattle.kern_laws.proofs.Changes.Words.{argument-word, held-words, rest-words}
use Rattle.kern_laws.proofs.Services.Checks.{object_kind, several-kind}
use Rattle.kern_laws.proofs.Services.Wakes.{After, preserved-free, preserved-pends}

-- what the checks of a table tell

-- these objects are there
abbrev AllThere : Kernel → List ℕ → Type 0
AllThere k [] = Unit {0}
AllThere k (o ∷ os) = ((object_at k o).deleted ≡ false) × AllThere k os

all_there : (os : List ℕ) (k : Kernel) → deleted_error os k ≡ None → AllThere k os
all_there [] k h = tt
all_there (o ∷ os) k h =
    let p = passed_if (object_at k o).deleted ObjectType (deleted_error os k) h in
    (p.0, all_there os k p.1)

fits-several : (os : List ℕ) (k : Kernel) → kinds_error os (kinds_of k) ≡ None → deleted_error os k ≡ None → Fits k.objects Multi os
fits-several [] k i d o l = absurd (omega (arith, l))
fits-several (q ∷ os) k i d o l =
    let kind = object_kind (Sem ∷ Queue ∷ []) k.objects q (first_passed (object_error (Sem ∷ Queue ∷ []) (slice_get (kinds_of k).objects q)) (kinds_error os (kinds_of k)) i) in
    elim (eqb_tells q o) [
      | inl e ↦ subst (λ z. ((object_at k z).deleted ≡ false) × (can_wait Multi (object_at k z).content ≡ true)) e.1
          ((passed_if (object_at k q).deleted ObjectType (deleted_error os k) d).0, several-kind (object_at k q).content kind)
      | inr e ↦ fits-several os k (second_passed (object_error (Sem ∷ Queue ∷ []) (slice_get (kinds_of k).objects q)) (kinds_error os (kinds_of k)) i) (passed_if (object_at k q).deleted ObjectType (deleted_error os k) d).1 o (omega (arith, l, ap one_if e.0))
    ]

record SoundTable (r : Request) (k : Kernel) : Type 0 where
  read : r.table ≡ true
  fits : Fits k.objects Multi (table_objects r)
  there : AllThere k (table_objects r)

sound_table : (r : Request) (k : Kernel) → multi_error r k ≡ None → SoundTable r k
sound_table r k h = by_fault (is_table_fault r) refl h
  where
    by_fault : (b : Bool) → is_table_fault r ≡ b → (if b then Some Table else first_error (kinds_error (table_objects r) (kinds_of k)) (deleted_error (table_objects r) k)) ≡ None → SoundTable r k
    by_fault true e h = cc
    by_fault false e h =
        let os = table_objects r in
        let kinds = first_passed (kinds_error os (kinds_of k)) (deleted_error os k) h in
        let there = second_passed (kinds_error os (kinds_of k)) (deleted_error os k) h in
        record { read = not_false r.table (or_first (not r.table) (nat_lt 8 r.n_ids || repeats os) e); fits = fits-several os k kinds there; there = all_there os k there }

-- another content leaves the objects that are there
there-content : (k : Kernel) (q : ℕ) (content : Content) (o : ℕ) → (object_at k o).deleted ≡ false → (object_at (with_content k q content) o).deleted ≡ false
there-content k q content o d = update_object_same (λ b. b.deleted) (λ b. record b { content = content }) k.objects q o refl ∙ d

AllThere-content : (k : Kernel) (q : ℕ) (content : Content) (os : List ℕ) → AllThere k os → AllThere (with_content k q content) os
AllThere-content k q content [] t = tt
AllThere-content k q content (o ∷ os) t = (there-content k q content o t.0, AllThere-content k q content os t.1)

AllThere-free : (k : Kernel) (n : ℕ) (os : List ℕ) → AllThere k os → AllThere (record k { free = n }) os
AllThere-free k n [] t = tt
AllThere-free k n (o ∷ os) t = (t.0, AllThere-free k n os t.1)

AllThere-taken : (q : ℕ) (content : Content) (k : Kernel) (os : List ℕ) → AllThere k os → AllThere (taken_from q content k) os
AllThere-taken q (Count zero) k os t = t
AllThere-taken q (Count (suc n)) k os t = AllThere-content k q (Count n) os t
AllThere-taken q (Messages limit []) k os t = t
AllThere-taken q (Messages limit (m ∷ ms)) k os t = AllThere-free (with_content k q (Messages limit ms)) (k.free + 1) os (AllThere-content k q (Messages limit ms) os t)
AllThere-taken q _ k os t = t

module _ (P Q : Kernel → Type 0) (c : Preserved P Q) where
  preserved-taken_from : (o : ℕ) (content : Content) (k : Kernel) → (object_at k o).content ≡ content → (object_at k o).deleted ≡ false → IsLinked k → P k → P (taken_from o content k)
  preserved-taken_from o (Count zero) k e d v p = p
  preserved-taken_from o (Count (suc n)) k e d v p = c.content k o (Count (suc n)) (Count n) (record { links = v; there = d; holds = e }) refl tt p
  preserved-taken_from o (Messages limit []) k e d v p = p
  preserved-taken_from o (Messages limit (m ∷ ms)) k e d v p =
      preserved-free P Q c (with_content k o (Messages limit ms)) (k.free + 1)
      (c.content k o (Messages limit (m ∷ ms)) (Messages limit ms) (record { links = v; there = d; holds = e }) refl
      (rest-words m ms (held-words k (c.words k p) o (Messages limit (m ∷ ms)) e)) p)
  preserved-taken_from o _ k e d v p = p

  preserved-taken_all : (os : List ℕ) (k : Kernel) → AllThere k os → IsLinked k → P k → P (taken_all os k)
  preserved-taken_all [] k t v p = p
  preserved-taken_all (o ∷ os) k t v p =
      let content = (object_at k o).content in
      preserved-taken_all os (taken_from o content k) (AllThere-taken o content k os t.1) (linked-taken_all (o ∷ []) k v) (preserved-taken_from o content k refl t.0 v p)

  preserved-multi_takes : (n : ℕ) (ps : List (Option (ℕ × ℕ))) (r : Request) (x : ℕ) (k : Kernel) → SoundTable r k → IsTable (argument r 0) (length (table_objects r)) → IsRequest r → IsLinked k → MayCall x k → P k → After P Q c (multi_takes n ps r x k)
  preserved-multi_takes zero ps r x k s t q v m p =
      let w : Wait = record { waiting = Multi; objects = table_objects r; mask = 0; opt = 0; table = argument r 0; timeout = argument r 2 } in
      preserved-pends P Q c k v x m (argument r 3 == 1) w refl s.fits (λ _. t) (omega arith, omega arith, argument-word r q 0) refl p
  preserved-multi_takes (suc n) ps r x k s t q v m p = preserved-taken_all (table_objects r) k s.there v p

  pub preserved-multi_checked : (e : Option OsErr) (r : Request) (x : ℕ) (k : Kernel) → multi_error r k ≡ e → r.service ≡ PendMulti → IsRequest r → IsLinked k → MayCall x k → P k → After P Q c (multi_checked e r x k)
  preserved-multi_checked (Some err) r x k e s t v m p = p
  preserved-multi_checked None r x k e s t v m p =
      let ps = polls (table_objects r) k in
      let sound = sound_table r k e in
      preserved-multi_takes (taken_count ps) ps r x k sound (t.table s sound.read) t v m p
