-- A list stays valid with what an entry without a cause gives.
use Rattle.std.proofs.Common.{◌≡◌, ℕ, ◌-◌, ◌≤◌, ◌<◌, List, [], ◌∷◌, ◌++◌, length, drop, replicate, get_or, Bool, true, false, refl, sym, arith, length-append, subst}
use Rattle.std.specs.Prelude.{Option, Some, None, nat_le, not, is_none, if◌then◌else◌}
use Rattle.std.specs.List.{find, position}
use Rattle.std.specs.Option.{option_map}
use Rattle.std.specs.Str.{bytes_eq}
use Rattle.std.proofs.lemmas.Bool.{and_parts}
use Rattle.std.proofs.lemmas.Bool.Decides.{nat_tests}
use Rattle.std.proofs.lemmas.List.Elements.{All-push}
use Rattle.std.proofs.lemmas.List.Quantifiers.{position-Some}
use Rattle.std.proofs.lemmas.Option.{slice_get-get_or}
use Rattle.kern_base.specs.declared.kinds.Kind.TheVariants.{Sem}
use Rattle.app_image.specs.Image.{ImageRecord}
use Rattle.app_image.specs.declared.records.ObjDef.{ObjDef}
use Rattle.app_image.proofs.Searches.{cond_none}
use Rattle.inject_list.specs.Lists.{ListRecord, IsValidList, IsInjection, IsMoment, IsSeen, IsSeenObject, is_declared, has_waiters, most_entries}
use Rattle.inject_list.specs.Entries.{Entry, Interrupt, Looks, Target, Named, AtPriority}
use Rattle.inject_list.specs.Reading.{cause_of, entries, has, four_words, with_entry, with_line, seen_in, is_seen_as, has_late_moment, has_no_list, has_no_vector, has_too_many_words}
use Rattle.inject_list.specs.declared.causes.InjectCause.TheVariants.{NoVector, TooManyWords, TooMany, NoList, LateMoment}
use Rattle.inject_list.specs.declared.lists.Injection.{Injection}
use Rattle.inject_list.specs.declared.lists.Look.{Look}
use Rattle.inject_list.specs.declared.lists.Moment.{Moment}
use Rattle.inject_list.specs.declared.lists.Moment.TheVariants.{Task, Step}
use Rattle.inject_list.specs.declared.lists.Seen.{Seen}
use Rattle.inject_list.specs.declared.lists.Seen.TheVariants.{Obj, Ready}

-- an entry has none of the causes
record IsFree (image : ImageRecord) (l : ListRecord) (e : Entry) : Type 0 where
  pub vector : has_no_vector image e ≡ false
  pub words : has_too_many_words e ≡ false
  pub room : nat_le most_entries (entries l) ≡ false
  pub list : has_no_list image e ≡ false
  pub moment : has_late_moment e ≡ false

free : (image : ImageRecord) (l : ListRecord) (e : Entry) → cause_of image l (Some e) ≡ None → IsFree image l e
free image l e h =
    let p = has image l e in
    let v = cond_none (p NoVector) NoVector (find p (TooManyWords ∷ TooMany ∷ NoList ∷ LateMoment ∷ [])) h in
    let w = cond_none (p TooManyWords) TooManyWords (find p (TooMany ∷ NoList ∷ LateMoment ∷ [])) v.1 in
    let m = cond_none (p TooMany) TooMany (find p (NoList ∷ LateMoment ∷ [])) w.1 in
    let n = cond_none (p NoList) NoList (find p (LateMoment ∷ [])) m.1 in
    let t = cond_none (p LateMoment) LateMoment None n.1 in
    record { vector = v.0; words = w.0; room = m.0; list = n.0; moment = t.0 }

zeros_behind : (words : List ℕ) → length words ≤ 4 → drop (length words) (four_words words) ≡ replicate (4 - length words) 0
zeros_behind [] h = refl
zeros_behind (a ∷ []) h = refl
zeros_behind (a ∷ b ∷ []) h = refl
zeros_behind (a ∷ b ∷ c ∷ []) h = refl
zeros_behind (a ∷ b ∷ c ∷ d ∷ []) h = refl
zeros_behind (a ∷ b ∷ c ∷ d ∷ e ∷ words) h = absurd (omega (arith, h))

is_moment : (moment : Moment) (vector : ℕ) (words : List ℕ) → has_late_moment (Interrupt moment vector words) ≡ false → IsMoment moment
is_moment (Task t) vector words e = grind (arith, nat_tests)
is_moment (Step s) vector words e = tt

is_true : (b : Bool) → not b ≡ false → b ≡ true
is_true true e = refl
is_true false e = cc

-- The lists that looks name.

abbrev no_object : ObjDef
no_object = record { name = []; kind = Sem; f = []; line = 0 }

priority_seen : (image : ImageRecord) (prio : ℕ) (seen : Seen) (b : Bool) → nat_le prio 63 ≡ b → (if b then Some (Ready (record { 0 = prio })) else None) ≡ Some seen → IsSeen image seen
priority_seen image prio seen true e h =
    let few : prio ≤ 63 = grind (arith, nat_tests) in
    let same : Ready (record { 0 = prio }) ≡ seen = cc in
    subst (IsSeen image) same few
priority_seen image prio seen false e h = absurd cc

object_seen : (image : ImageRecord) (name : List ℕ) (seen : Seen) (o : Option ℕ) → position (is_seen_as name) image.objects ≡ o → option_map (λ (i : ℕ). Obj (record { 0 = i })) o ≡ Some seen → IsSeen image seen
object_seen image name seen None e h = absurd cc
object_seen image name seen (Some i) e h =
    let (within, hit, first) = position-Some (is_seen_as name) image.objects i no_object e in
    let waiters : has_waiters (get_or image.objects i no_object).kind ≡ true = (and_parts (bytes_eq (get_or image.objects i no_object).name name) (has_waiters (get_or image.objects i no_object).kind) hit).1 in
    let same : Obj (record { 0 = i }) ≡ seen = cc in
    subst (IsSeen image) same (subst IsSeenObject (sym (slice_get-get_or image.objects i no_object within)) waiters)

is_seen : (image : ImageRecord) (target : Target) (seen : Seen) → seen_in image target ≡ Some seen → IsSeen image seen
is_seen image (Named name) seen h = object_seen image name seen (position (is_seen_as name) image.objects) refl h
is_seen image (AtPriority prio) seen h = priority_seen image prio seen (nat_le prio 63) refl h

-- Lists with one entry more.

valid_interrupt : (image : ImageRecord) (l : ListRecord) (moment : Moment) (vector : ℕ) (words : List ℕ) → IsValidList image l → IsFree image l (Interrupt moment vector words) → IsValidList image (with_entry image l (Interrupt moment vector words))
valid_interrupt image l moment vector words v f =
    let i : Injection = record { moment = moment; vector = vector; words = four_words words; count = length words } in
    let few : length words ≤ 4 = grind (arith, nat_tests, f.words) in
    let room : entries l < most_entries = grind (arith, nat_tests, f.room) in
    record {
      few = omega (arith, room, length-append l.injections (i ∷ []));
      injections = All-push (IsInjection image) l.injections i v.injections (record { moment = is_moment moment vector words f.moment; vector = is_true (is_declared image.vectors vector) f.vector; count = few; zeros = zeros_behind words few });
      looks = v.looks;
    }

valid_look : (image : ImageRecord) (l : ListRecord) (at : ℕ) (target : Target) (o : Option Seen) → seen_in image target ≡ o → is_none o ≡ false → IsValidList image l → entries l < most_entries → IsValidList image (with_entry image l (Looks at target))
valid_look image l at target None e h v room = absurd cc
valid_look image l at target (Some seen) e h v room =
    let k : Look = record { at = at; what = seen } in
    let longer : with_entry image l (Looks at target) ≡ record l { looks = l.looks ++ k ∷ [] } = rw e refl in
    subst (IsValidList image) (sym longer) (record {
      few = omega (arith, room, length-append l.looks (k ∷ []));
      injections = v.injections;
      looks = All-push (λ (x : Look). IsSeen image x.what) l.looks k v.looks (is_seen image target seen e);
    })

valid_entry : (image : ImageRecord) (l : ListRecord) (e : Entry) → IsValidList image l → IsFree image l e → IsValidList image (with_entry image l e)
valid_entry image l (Interrupt moment vector words) v f = valid_interrupt image l moment vector words v f
valid_entry image l (Looks at target) v f =
    let room : entries l < most_entries = grind (arith, nat_tests, f.room) in
    valid_look image l at target (seen_in image target) refl f.list v room

-- a line without a cause
pub valid_line : (image : ImageRecord) (l : ListRecord) (o : Option Entry) → IsValidList image l → cause_of image l o ≡ None → IsValidList image (with_line image l o)
valid_line image l None v h = absurd cc
valid_line image l (Some e) v h = valid_entry image l e v (free image l e h)
