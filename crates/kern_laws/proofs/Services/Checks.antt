-- What the checks of a call tell of the object that it names: it is there, and of a wanted kind.
use Rattle.kern_model.proofs.Common.{◌≡◌, ℕ, zero, suc, List, [], ◌∷◌, get_or, refl, sym, ap, ◌∙◌, subst, Bool, true, false, ◌&&◌, not, inl, inr, Some, None, ◌==◌, nat_lt, if◌then◌else◌, slice_get, map, Request, Kind, Sem, Queue, OneShot, Periodic, ObjectType, TaskNotExist, OptionInvalid, Multi, static_error, target_error, object_error, names_option, kinds_wanted, names_task, kind_number, is_one_of, Kernel, Object, Content, Count, Messages, Bits, Held, Timed, task_at, object_at, no_object, kind_of, kinds_of, argument, named_task, call_error, existence_error, is_deleted, can_wait}
use Rattle.std.proofs.lemmas.Bool.{false≢true}
use Rattle.kern_model.proofs.Basics.Choices.{equal, or_either, some≢none, first_passed, second_passed, passed_if, passed_then}
use Rattle.kern_laws.proofs.Changes.Each.{is_plain}

-- an object of a wanted kind
pub object_kind : (wanted : List Kind) (bs : List Object) (o : ℕ) → object_error wanted (slice_get (map (λ (b : Object). kind_of b.content) bs) o) ≡ None → is_one_of wanted (kind_of (get_or bs o no_object).content) ≡ true
object_kind wanted [] o h = absurd (some≢none ObjectType h)
object_kind wanted (b ∷ bs) zero h = (passed_then (is_one_of wanted (kind_of b.content)) ObjectType None h).0
object_kind wanted (b ∷ bs) (suc o) h = object_kind wanted bs o h

-- the object that a call names
pub record NamedObject (r : Request) (k : Kernel) (wanted : List Kind) : Type 0 where
  pub there : (object_at k (argument r 0)).deleted ≡ false
  pub kind : is_one_of wanted (kind_of (object_at k (argument r 0)).content) ≡ true

pub named_object : (r : Request) (x : ℕ) (k : Kernel) (w : Kind) (ws : List Kind) → kinds_wanted r.service ≡ w ∷ ws → call_error r x k ≡ None → NamedObject r k (w ∷ ws)
named_object r x k w ws e h =
    let own = nat_lt x 60 in
    let first = first_passed (static_error r.service r.args (kinds_of k) own) (existence_error r x k) h in
    let target = (passed_then (names_option r.service r.args) OptionInvalid (target_error (kinds_wanted r.service) (names_task r.service) r.args (kinds_of k) own) first).1 in
    let named : target_error (w ∷ ws) (names_task r.service) r.args (kinds_of k) own ≡ None = subst (λ ws. target_error ws (names_task r.service) r.args (kinds_of k) own ≡ None) e target in
    let second = second_passed (static_error r.service r.args (kinds_of k) own) (existence_error r x k) h in
    let there = (passed_if (is_deleted (kinds_wanted r.service) (object_at k (argument r 0))) ObjectType (if names_task r.service && not (task_at k (named_task r x)).alive then Some TaskNotExist else None) second).0 in
    record {
      there = subst (λ ws. is_deleted ws (object_at k (argument r 0)) ≡ false) e there;
      kind = object_kind (w ∷ ws) k.objects (argument r 0) named;
    }

-- one wanted kind is the object's
one_kind : (w u : Kind) → is_one_of (w ∷ []) u ≡ true → kind_number w ≡ kind_number u
one_kind w u h =
    elim (or_either (kind_number w == kind_number u) false h) [
      | inl e ↦ equal (kind_number w) (kind_number u) e
      | inr e ↦ absurd (false≢true e)
    ]

timed-kind : (b : Bool) → nat_lt (kind_number (if b then Periodic else OneShot)) 4 ≡ true → false ≡ true
timed-kind true h = h
timed-kind false h = h

plain_by : (content : Content) → nat_lt (kind_number (kind_of content)) 4 ≡ true → is_plain content ≡ true
plain_by (Count n) h = refl
plain_by (Messages limit ms) h = refl
plain_by (Bits bits) h = refl
plain_by (Held owner n) h = h
plain_by (Timed t) h = timed-kind t.periodic h

-- a semaphore, a queue or a group of event flags
pub plain-kind : (w : Kind) (content : Content) → nat_lt (kind_number w) 4 ≡ true → is_one_of (w ∷ []) (kind_of content) ≡ true → is_plain content ≡ true
plain-kind w content p h = plain_by content (ap (λ n. nat_lt n 4) (sym (one_kind w (kind_of content) h)) ∙ p)

several-timed : (b : Bool) → is_one_of (Sem ∷ Queue ∷ []) (if b then Periodic else OneShot) ≡ true → false ≡ true
several-timed true h = h
several-timed false h = h

-- a semaphore or a queue, for which a task may wait among several
pub several-kind : (content : Content) → is_one_of (Sem ∷ Queue ∷ []) (kind_of content) ≡ true → can_wait Multi content ≡ true
several-kind (Count n) h = refl
several-kind (Messages limit ms) h = refl
several-kind (Bits bits) h = h
several-kind (Held owner n) h = h
several-kind (Timed t) h = several-timed t.periodic h
