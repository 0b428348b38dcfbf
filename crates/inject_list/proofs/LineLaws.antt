-- Lines one after the other, and the tokens of a first line.
use Rattle.std.proofs.Common.{◌≡◌, ℕ, suc, ◌+◌, ◌-◌, ◌<◌, List, [], ◌∷◌, length, take, drop, Bool, true, false, refl, sym, ap, ◌∙◌, arith}
use Rattle.std.specs.Prelude.{Option, Some, None}
use Rattle.std.specs.List.{prefix_len}
use Rattle.std.proofs.lemmas.List.{drop-drop, length-drop}
use Rattle.text_lex.specs.declared.Token.{Token}
use Rattle.app_image.specs.Image.{ImageRecord}
use Rattle.inject_list.specs.Lists.{ListRecord}
use Rattle.inject_list.specs.Pieces.{is_end, extended, lines, pieces}
use Rattle.inject_list.specs.Entries.{Entry, entry_of}
use Rattle.inject_list.specs.Reading.{Gives, Refuses, cause_of, with_line, read_from, IsFault}
use Rattle.inject_list.specs.Parts.{is_before_end}
use Rattle.inject_list.specs.declared.causes.InjectCause.{InjectCause}
use Rattle.inject_list.specs.declared.causes.InjectError.{InjectError}
use Rattle.inject_list.specs.declared.causes.InjectError.TheVariants.{NoMemory, At}

-- The first line of some tokens.

-- how many tokens it has
abbrev pub run : List Token → ℕ
run ts = prefix_len is_before_end ts

-- a first line of n tokens, and the lines behind it
abbrev pub split : ℕ → List Token → List (List Token)
split n ts = take n ts ∷ lines (drop (n + 1) ts)

more : (t : Token) (ts : List Token) (n : ℕ) → extended t (split n ts) ≡ split (1 + n) (t ∷ ts)
more t ts n =
    let a : 1 + n ≡ suc n = omega arith in
    let b : 1 + n + 1 ≡ suc (n + 1) = omega arith in
    let taken : t ∷ take n ts ≡ take (1 + n) (t ∷ ts) = ap (λ (k : ℕ). take k (t ∷ ts)) (sym a) in
    let behind : lines (drop (n + 1) ts) ≡ lines (drop (1 + n + 1) (t ∷ ts)) = ap (λ (k : ℕ). lines (drop k (t ∷ ts))) (sym b) in
    ap (λ (x : List Token). x ∷ lines (drop (n + 1) ts)) taken ∙ ap (λ (y : List (List Token)). take (1 + n) (t ∷ ts) ∷ y) behind

at_end : (t : Token) (ts : List Token) → is_end t.kind ≡ true → lines (t ∷ ts) ≡ split (run (t ∷ ts)) (t ∷ ts)
at_end t ts e = rw e refl

alone : (t : Token) → is_end t.kind ≡ false → lines (t ∷ []) ≡ split (run (t ∷ [])) (t ∷ [])
alone t e = rw e refl

going_on : (t : Token) (ts : List Token) → is_end t.kind ≡ false → lines ts ≡ split (run ts) ts → lines (t ∷ ts) ≡ split (run (t ∷ ts)) (t ∷ ts)
going_on t ts e h =
    let goes : lines (t ∷ ts) ≡ extended t (lines ts) = rw e refl in
    let runs : run (t ∷ ts) ≡ 1 + run ts = rw e refl in
    goes ∙ (ap (extended t) h ∙ (more t ts (run ts) ∙ ap (λ (n : ℕ). split n (t ∷ ts)) (sym runs)))

split_by : (t : Token) (ts : List Token) (b : Bool) → is_end t.kind ≡ b → (0 < length ts → lines ts ≡ split (run ts) ts) → lines (t ∷ ts) ≡ split (run (t ∷ ts)) (t ∷ ts)
split_by t ts true e h = at_end t ts e
split_by t [] false e h = alone t e
split_by t (u ∷ ts) false e h = going_on t (u ∷ ts) e (h (omega arith))

-- the first line goes to the first end
pub lines-split : (ts : List Token) → 0 < length ts → lines ts ≡ split (run ts) ts
lines-split [] h = absurd (omega arith)
lines-split (t ∷ ts) h = split_by t ts (is_end t.kind) refl (λ k. lines-split ts k)

-- the line at a place that ends before another
pub lines-at : (tokens : List Token) (at end : ℕ) → at < length tokens → end ≡ at + run (drop at tokens) → lines (drop at tokens) ≡ take (end - at) (drop at tokens) ∷ lines (drop (end + 1) tokens)
lines-at tokens at end inside ends =
    let n = run (drop at tokens) in
    let some : 0 < length (drop at tokens) = omega (arith, length-drop at tokens) in
    let count : n ≡ end - at = omega (arith, ends) in
    let further : at + (n + 1) ≡ end + 1 = omega (arith, ends) in
    let behind : drop (n + 1) (drop at tokens) ≡ drop (end + 1) tokens = drop-drop (n + 1) at tokens ∙ ap (λ (k : ℕ). drop k tokens) further in
    lines-split (drop at tokens) some
    ∙ (ap (λ (k : ℕ). take k (drop at tokens) ∷ lines (drop (n + 1) (drop at tokens))) count ∙ ap (λ (ts : List Token). take (end - at) (drop at tokens) ∷ lines ts) behind)

-- What lines are read as.

module _ (text : List ℕ) (image : ImageRecord) (l : ListRecord) (t : Token) (ts : List Token) where
  abbrev entry : Option Entry
  entry = entry_of (pieces text (t ∷ ts))

  -- a line without a cause
  line_gives : (rest : List (List Token)) → cause_of image l entry ≡ None → read_from text image l ((t ∷ ts) ∷ rest) ≡ read_from text image (with_line image l entry) rest
  line_gives rest e = rw (e, read_from) refl

  -- a line with a cause
  line_refuses : (rest : List (List Token)) (cause : InjectCause) → cause_of image l entry ≡ Some cause → read_from text image l ((t ∷ ts) ∷ rest) ≡ Refuses t.line cause
  line_refuses rest cause e = rw (e, read_from) refl

  going_by : (m : ListRecord) (rest : List (List Token)) (o : Option InjectCause) → cause_of image l entry ≡ o → read_from text image l ((t ∷ ts) ∷ []) ≡ Gives m → read_from text image l ((t ∷ ts) ∷ rest) ≡ read_from text image m rest
  going_by m rest None e g =
      let alone_gives = line_gives [] e in
      let same : with_line image l entry ≡ m = cc in
      line_gives rest e ∙ ap (λ (k : ListRecord). read_from text image k rest) same
  going_by m rest (Some cause) e g = let refused = line_refuses [] cause e in absurd cc

  stopping_by : (n : ℕ) (cause : InjectCause) (rest : List (List Token)) (o : Option InjectCause) → cause_of image l entry ≡ o → read_from text image l ((t ∷ ts) ∷ []) ≡ Refuses n cause → read_from text image l ((t ∷ ts) ∷ rest) ≡ Refuses n cause
  stopping_by n cause rest None e g = let given = line_gives [] e in absurd cc
  stopping_by n cause rest (Some other) e g = line_refuses rest other e ∙ (sym (line_refuses [] other e) ∙ g)

-- behind a line that gives a list the others go on from it
pub reads_on : (text : List ℕ) (image : ImageRecord) (l m : ListRecord) (line : List Token) (rest : List (List Token)) → read_from text image l (line ∷ []) ≡ Gives m → read_from text image l (line ∷ rest) ≡ read_from text image m rest
reads_on text image l m [] rest g = let same : l ≡ m = cc in ap (λ (k : ListRecord). read_from text image k rest) same
reads_on text image l m (t ∷ ts) rest g = going_by text image l t ts m rest (cause_of image l (entry_of (pieces text (t ∷ ts)))) refl g

-- a line that is refused ends the reading
pub stops : (text : List ℕ) (image : ImageRecord) (l : ListRecord) (n : ℕ) (cause : InjectCause) (line : List Token) (rest : List (List Token)) → read_from text image l (line ∷ []) ≡ Refuses n cause → read_from text image l (line ∷ rest) ≡ Refuses n cause
stops text image l n cause [] rest g = absurd cc
stops text image l n cause (t ∷ ts) rest g = stopping_by text image l t ts n cause rest (cause_of image l (entry_of (pieces text (t ∷ ts)))) refl g

pub fault_stops : (text : List ℕ) (image : ImageRecord) (l : ListRecord) (error : InjectError) (line : List Token) (rest : List (List Token)) → IsFault error (read_from text image l (line ∷ [])) → IsFault error (read_from text image l (line ∷ rest))
fault_stops text image l NoMemory line rest f = f
fault_stops text image l (At n cause) line rest f = stops text image l n cause line rest f
