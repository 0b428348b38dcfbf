-- The first definitions of names.
use Rattle.std.proofs.Common.{◌≡◌, ℕ, ◌+◌, ◌⊎◌, inl, inr, List, [], ◌∷◌, ◌++◌, Bool, true, false, cond, arith, sym, ◌∙◌, ap, refl, subst, ◌≤◌}
use Rattle.std.specs.Prelude.{if◌then◌else◌, Option, Some, None}
use Rattle.std.specs.Option.{option_or}
use Rattle.std.specs.Str.{bytes_eq}
use Rattle.std.proofs.lemmas.Bool.{false_from_ne_true}
use Rattle.std.proofs.lemmas.Slice.Eq.{bytes_eq-Decides}
use Rattle.asm_places.specs.Names.{Defined, Names, first_of, defined_at_start, label_defines, statement_defines}
use Rattle.asm_places.specs.NameSteps.{names_of, all_defined, counted, no_counts}
use Rattle.asm_places.specs.Counts.{Counts}
use Rattle.asm_lines.specs.Language.{Statement, Nothing, Unknown, Malformed, Sections, Inject, Words, Space, Equ, Task, Object, Vector, Setting, Registers, Immediate, Shift, Store, Branch, Upper, Jump, Alone, LoadConstant, LoadValue, CallService, Line}
use Rattle.asm_places.specs.NamesView.{first_or}
use Rattle.asm_places.specs.declared.places.Definition.{Definition}

-- two names are the same, or neither test finds them so
pub SameOrNot : List ℕ → List ℕ → Type 0
SameOrNot a b = ((a ≡ b) × (bytes_eq a b ≡ true) × (bytes_eq b a ≡ true)) ⊎ ((bytes_eq a b ≡ false) × (bytes_eq b a ≡ false))

same_or_not_by : (a b : List ℕ) (r : Bool) → bytes_eq a b ≡ r → SameOrNot a b
unfolding SameOrNot
same_or_not_by a b true e = let same : a ≡ b = (bytes_eq-Decides a b).0 e in inl (same, e, (bytes_eq-Decides b a).1 (sym same))
same_or_not_by a b false e =
    let apart : bytes_eq b a ≡ true → ⊥ = λ t. let back : bytes_eq a b ≡ true = (bytes_eq-Decides a b).1 (sym ((bytes_eq-Decides b a).0 t)) in cc in
    inr (e, false_from_ne_true (bytes_eq b a) apart)

pub same_or_not : (a b : List ℕ) → SameOrNot a b
same_or_not a b = same_or_not_by a b (bytes_eq a b) refl

kept : (o : Option Definition) (name q : List ℕ) (d : Definition) → bytes_eq q name ≡ false → o ≡ first_or o name d q
kept (Some x) name q d e = refl
kept None name q d e = rw e refl

known : (o : Option Definition) (x : Definition) (name q : List ℕ) (d : Definition) → o ≡ Some x → o ≡ first_or o name d q
known (Some y) x name q d e = refl
known None x name q d e = cc

-- a name that was not known gets its definition
pub define_new : (f : Names) (name q : List ℕ) (d : Definition) (r : Option Definition) → f name ≡ None → r ≡ cond (bytes_eq name q) (Some d) (f q) → r ≡ first_or (f q) name d q
unfolding SameOrNot
define_new f name q d r none e = elim (same_or_not name q) [
  | inl w ↦ let unknown : f q ≡ None = ap f (sym w.0) ∙ none in rw (unknown, w.2) (rw w.1 at e)
  | inr w ↦ (rw w.0 at e) ∙ kept (f q) name q d w.1
]

-- a name that was known keeps its definition
pub define_known : (f : Names) (name q : List ℕ) (d x : Definition) → f name ≡ Some x → f q ≡ first_or (f q) name d q
unfolding SameOrNot
define_known f name q d x known_so = elim (same_or_not name q) [
  | inl w ↦ known (f q) x name q d (ap f (sym w.0) ∙ known_so)
  | inr w ↦ kept (f q) name q d w.1
]

or_cond : (b : Bool) (d : Definition) (o : Option Definition) → option_or (if b then Some d else None) o ≡ cond b (Some d) o
or_cond true d o = refl
or_cond false d o = refl

-- what is known, then a definition, then more
pub option_or-first_or : (o : Option Definition) (name q : List ℕ) (d : Definition) (more : Defined) → option_or (first_or o name d q) (first_of more q) ≡ option_or o (first_of ((name, d) ∷ more) q)
option_or-first_or (Some x) name q d more = refl
option_or-first_or None name q d more = or_cond (bytes_eq q name) d (first_of more q)

cond_or : (b : Bool) (d : Definition) (o p : Option Definition) → cond b (Some d) (option_or o p) ≡ option_or (cond b (Some d) o) p
cond_or true d o p = refl
cond_or false d o p = refl

-- the first definition is in the first part, or else in the second
pub first_of-append : (xs ys : Defined) (q : List ℕ) → first_of (xs ++ ys) q ≡ option_or (first_of xs q) (first_of ys q)
first_of-append [] ys q = refl
first_of-append (x ∷ xs) ys q = ap (cond (bytes_eq q x.0) (Some x.1)) (first_of-append xs ys q) ∙ cond_or (bytes_eq q x.0) x.1 (first_of xs q) (first_of ys q)

pub option_or_assoc : (o p q : Option Definition) → option_or (option_or o p) q ≡ option_or o (option_or p q)
option_or_assoc (Some x) p q = refl
option_or_assoc None p q = refl

-- what the lines from one on define comes after what was known before its label and its statement
pub line_defined : (c : Counts) (l : Line) (ls : List Line) (q : List ℕ) (old new newer : Option Definition) → new ≡ option_or old (first_of (label_defines c l.label) q) → newer ≡ option_or new (first_of (statement_defines c l.statement) q) → option_or newer (first_of (all_defined (counted l.statement c) ls) q) ≡ option_or old (first_of (all_defined c (l ∷ ls)) q)
line_defined c l ls q old new newer e f =
    let label = label_defines c l.label in
    let constant = statement_defines c l.statement in
    let rest = all_defined (counted l.statement c) ls in
    let parts : first_of ((label ++ constant) ++ rest) q ≡ option_or (option_or (first_of label q) (first_of constant q)) (first_of rest q) =
    first_of-append (label ++ constant) rest q ∙ ap (λ o. option_or o (first_of rest q)) (first_of-append label constant q) in
    let known_so : newer ≡ option_or old (option_or (first_of label q) (first_of constant q)) =
    f ∙ (ap (λ o. option_or o (first_of constant q)) e ∙ option_or_assoc old (first_of label q) (first_of constant q)) in
    ap (λ o. option_or o (first_of rest q)) known_so ∙ (option_or_assoc old (option_or (first_of label q) (first_of constant q)) (first_of rest q) ∙ ap (option_or old) (sym parts))

-- what is known before the first line
pub start_defined : (lines : List Line) (q : List ℕ) (before after : Option Definition) → before ≡ None → after ≡ option_or before (first_of defined_at_start q) → option_or after (first_of (all_defined no_counts lines) q) ≡ names_of lines q
start_defined lines q before after none e =
    ap (λ o. option_or o (first_of (all_defined no_counts lines) q)) (e ∙ ap (λ o. option_or o (first_of defined_at_start q)) none)
    ∙ sym (first_of-append defined_at_start (all_defined no_counts lines) q)

-- so many lines stand before, and no more of each kind
pub record CountsBelow (i : ℕ) (c : Counts) : Type 0 where
  pub lines : c.lines ≡ i
  pub tasks : c.tasks ≤ i
  pub objects : c.objects ≤ i
  pub vectors : c.vectors ≤ i

below : (s : Statement) (c : Counts) (i : ℕ) → c.lines ≡ i → c.tasks ≤ i → c.objects ≤ i → c.vectors ≤ i → CountsBelow (i + 1) (counted s c)
below Nothing c i l t o v = record { lines = omega arith; tasks = omega arith; objects = omega arith; vectors = omega arith }
below Unknown c i l t o v = record { lines = omega arith; tasks = omega arith; objects = omega arith; vectors = omega arith }
below Malformed c i l t o v = record { lines = omega arith; tasks = omega arith; objects = omega arith; vectors = omega arith }
below (Sections a) c i l t o v = record { lines = omega arith; tasks = omega arith; objects = omega arith; vectors = omega arith }
below Inject c i l t o v = record { lines = omega arith; tasks = omega arith; objects = omega arith; vectors = omega arith }
below (Words a) c i l t o v = record { lines = omega arith; tasks = omega arith; objects = omega arith; vectors = omega arith }
below (Space a) c i l t o v = record { lines = omega arith; tasks = omega arith; objects = omega arith; vectors = omega arith }
below (Equ a b) c i l t o v = record { lines = omega arith; tasks = omega arith; objects = omega arith; vectors = omega arith }
below (Task a b) c i l t o v = record { lines = omega arith; tasks = omega arith; objects = omega arith; vectors = omega arith }
below (Object a b d) c i l t o v = record { lines = omega arith; tasks = omega arith; objects = omega arith; vectors = omega arith }
below (Vector a) c i l t o v = record { lines = omega arith; tasks = omega arith; objects = omega arith; vectors = omega arith }
below (Setting a b) c i l t o v = record { lines = omega arith; tasks = omega arith; objects = omega arith; vectors = omega arith }
below (Registers a b d e) c i l t o v = record { lines = omega arith; tasks = omega arith; objects = omega arith; vectors = omega arith }
below (Immediate a b d e) c i l t o v = record { lines = omega arith; tasks = omega arith; objects = omega arith; vectors = omega arith }
below (Shift a b d e) c i l t o v = record { lines = omega arith; tasks = omega arith; objects = omega arith; vectors = omega arith }
below (Store a b d e) c i l t o v = record { lines = omega arith; tasks = omega arith; objects = omega arith; vectors = omega arith }
below (Branch a b d e) c i l t o v = record { lines = omega arith; tasks = omega arith; objects = omega arith; vectors = omega arith }
below (Upper a b d) c i l t o v = record { lines = omega arith; tasks = omega arith; objects = omega arith; vectors = omega arith }
below (Jump a b) c i l t o v = record { lines = omega arith; tasks = omega arith; objects = omega arith; vectors = omega arith }
below (Alone a) c i l t o v = record { lines = omega arith; tasks = omega arith; objects = omega arith; vectors = omega arith }
below (LoadConstant a b) c i l t o v = record { lines = omega arith; tasks = omega arith; objects = omega arith; vectors = omega arith }
below (LoadValue a b) c i l t o v = record { lines = omega arith; tasks = omega arith; objects = omega arith; vectors = omega arith }
below (CallService a) c i l t o v = record { lines = omega arith; tasks = omega arith; objects = omega arith; vectors = omega arith }

-- a line more
pub counted_below : (s : Statement) (c d : Counts) (i : ℕ) → d ≡ counted s c → c.lines ≡ i → c.tasks ≤ i → c.objects ≤ i → c.vectors ≤ i → CountsBelow (i + 1) d
counted_below s c d i e l t o v = subst (CountsBelow (i + 1)) (sym e) (below s c i l t o v)
