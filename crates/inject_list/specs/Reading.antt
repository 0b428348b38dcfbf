-- What the lines behind `.inject` are read as for an image: a list of injections and looks, or the first line with a
-- cause of refusal and on it the least cause.
use Rattle.std.specs.Prelude.{◌≡◌, ℕ, ◌+◌, ◌-◌, nat_le, nat_lt, List, [], ◌∷◌, ◌++◌, length, replicate, Bool, false, ◌&&◌, not, Option, Some, None, is_none, if◌then◌else◌}
use Rattle.std.specs.List.{find, position}
use Rattle.std.specs.Option.{option_map, option_to_list}
use Rattle.std.specs.Str.{bytes_eq}
use Rattle.text_lex.specs.declared.Token.{Token}
use Rattle.app_image.specs.Image.{ImageRecord}
use Rattle.app_image.specs.declared.records.ObjDef.{ObjDef}
use Rattle.inject_list.specs.Lists.{ListRecord, no_injections, most_entries, last_moment, is_declared, has_waiters}
use Rattle.inject_list.specs.Pieces.{pieces, lines}
use Rattle.inject_list.specs.Entries.{Entry, Interrupt, Looks, Target, Named, AtPriority, entry_of}
use Rattle.inject_list.specs.declared.causes.InjectCause.{InjectCause}
use Rattle.inject_list.specs.declared.causes.InjectCause.TheVariants.{WrongForm, NoVector, TooManyWords, TooMany, NoList, LateMoment}
use Rattle.inject_list.specs.declared.causes.InjectError.{InjectError}
use Rattle.inject_list.specs.declared.causes.InjectError.TheVariants.{NoMemory, At}
use Rattle.inject_list.specs.declared.lists.Moment.TheVariants.{Task}
use Rattle.inject_list.specs.declared.lists.Seen.{Seen}
use Rattle.inject_list.specs.declared.lists.Seen.TheVariants.{Obj, Ready}

-- What an entry gives.

-- an object of this name for which tasks wait
abbrev pub is_seen_as : List ℕ → ObjDef → Bool
is_seen_as name d = bytes_eq d.name name && has_waiters d.kind

-- the list that a look names, if there is one
abbrev pub seen_in : ImageRecord → Target → Option Seen
seen_in image (Named name) = option_map (λ o. Obj (record { 0 = o })) (position (is_seen_as name) image.objects)
seen_in image (AtPriority prio) = if nat_le prio 63 then Some (Ready (record { 0 = prio })) else None

-- four words: those that are given, and 0 behind them
abbrev pub four_words : List ℕ → List ℕ
four_words words = words ++ replicate (4 - length words) 0

-- the list with what one more entry gives
abbrev pub with_entry : ImageRecord → ListRecord → Entry → ListRecord
with_entry image l (Interrupt moment vector words) = record l { injections = l.injections ++ record { moment = moment; vector = vector; words = four_words words; count = length words } ∷ [] }
with_entry image l (Looks at target) = record l { looks = l.looks ++ option_to_list (option_map (λ seen. record { at = at; what = seen }) (seen_in image target)) }

-- Causes of refusal.

abbrev pub has_no_vector : ImageRecord → Entry → Bool
has_no_vector image (Interrupt moment vector words) = not (is_declared image.vectors vector)
has_no_vector image (Looks at target) = false

abbrev pub has_too_many_words : Entry → Bool
has_too_many_words (Interrupt moment vector words) = nat_lt 4 (length words)
has_too_many_words (Looks at target) = false

abbrev pub has_no_list : ImageRecord → Entry → Bool
has_no_list image (Interrupt moment vector words) = false
has_no_list image (Looks at target) = is_none (seen_in image target)

abbrev pub has_late_moment : Entry → Bool
has_late_moment (Interrupt (Task t) vector words) = nat_lt last_moment t
has_late_moment _ = false

-- the entries of a list
abbrev pub entries : ListRecord → ℕ
entries l = length l.injections + length l.looks

-- whether an entry has a cause behind those of a list
abbrev pub has : ImageRecord → ListRecord → Entry → InjectCause → Bool
has image l e WrongForm = false
has image l e NoVector = has_no_vector image e
has image l e TooManyWords = has_too_many_words e
has image l e TooMany = nat_le most_entries (entries l)
has image l e NoList = has_no_list image e
has image l e LateMoment = has_late_moment e

-- the causes by number, from 1
abbrev pub causes : List InjectCause
causes = WrongForm ∷ NoVector ∷ TooManyWords ∷ TooMany ∷ NoList ∷ LateMoment ∷ []

-- the number of a cause
abbrev pub cause_number : InjectCause → ℕ
cause_number WrongForm = 1
cause_number NoVector = 2
cause_number TooManyWords = 3
cause_number TooMany = 4
cause_number NoList = 5
cause_number LateMoment = 6

-- the cause that a line is refused with, if it has one; a line that says nothing known has no form
abbrev pub cause_of : ImageRecord → ListRecord → Option Entry → Option InjectCause
cause_of image l None = Some WrongForm
cause_of image l (Some e) = find (has image l e) causes

-- The stage.

-- the list of the entries, or the line and the cause of the refusal
pub data Reading : Type 0 where
  Gives : ListRecord → Reading
  Refuses : ℕ → InjectCause → Reading

-- the list with what one more line gives
abbrev pub with_line : ImageRecord → ListRecord → Option Entry → ListRecord
with_line image l None = l
with_line image l (Some e) = with_entry image l e

module _ (text : List ℕ) (image : ImageRecord) where
  -- a list with what the lines give in order, or the first line with a cause; a line without a token gives nothing
  abbrev pub read_from : ListRecord → List (List Token) → Reading
  read_from l [] = Gives l
  read_from l ([] ∷ rest) = read_from l rest
  read_from l ((t ∷ ts) ∷ rest) =
      let e = entry_of (pieces text (t ∷ ts)) in
      elim (cause_of image l e) [
        | Some cause ↦ Refuses t.line cause
        | None ↦ read_from (with_line image l e) rest
      ]

-- what the lines of some tokens of a text are read as
abbrev pub injections_in : List ℕ → List Token → ImageRecord → Reading
injections_in text tokens image = read_from text image no_injections (lines tokens)

-- the error tells the refusal, and want of memory tells nothing of it
abbrev pub IsFault : InjectError → Reading → Type 0
IsFault NoMemory reading = Unit {0}
IsFault (At line cause) reading = reading ≡ Refuses line cause
