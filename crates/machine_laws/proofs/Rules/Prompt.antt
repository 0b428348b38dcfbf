-- Of the interrupts that are due the one of the highest level enters, and of several such the first.
use Rattle.machine_laws.proofs.Common.{◌≡◌, Bool, ℕ, refl, true, List, [], false, ◌∙◌, ◌∷◌, Some, arith, Option, subst, ◌≤◌, inl, inr, ◌+◌, suc, zero, ◌<◌, ◌⊎◌, if◌then◌else◌, ◌&&◌, nat_lt, All, nat_le, false≢true, All-nil, All-cons, Method, choice, choice_by, due, Place, is_step, FrameRecord, Interrupt, Machine}
use Rattle.std.specs.Prelude.{slice_get}
use Rattle.std.specs.List.{Contains}
use Rattle.std.proofs.lemmas.Bool.{le-leb}
use Rattle.std.proofs.lemmas.List.Elements.{All-contains, Contains-append_right, Contains-get_or}
use Rattle.kern_model.proofs.Lemmas.{less, not_less}
use Rattle.inject_list.specs.declared.lists.Moment.{Moment}
use Rattle.inject_list.specs.declared.lists.Moment.TheVariants.{Step}
use Rattle.machine_model.specs.Frames.{level_of}
use Rattle.machine_model.specs.Due.{due_from, lets_in, highest, highest_from}
use Rattle.machine_model.specs.Rules.{is_masked, is_quiet}
use Rattle.machine_laws.specs.Prompt.{GoesBefore, EntersBefore, IsWanted}

abbrev Before : Place → Place → Type 0
Before p q = GoesBefore p.at p.interrupt.level q.at q.interrupt.level

before-refl : (p : Place) → Before p p
before-refl p = inr (refl, omega arith)

before-trans : (p q r : Place) → Before p q → Before q r → Before p r
before-trans p q r (inl a) (inl b) = inl (omega (arith, a, b))
before-trans p q r (inl a) (inr b) = inl (let e = b.0 in omega (arith, a, e))
before-trans p q r (inr a) (inl b) = inl (let e = a.0 in omega (arith, e, b))
before-trans p q r (inr a) (inr b) = inr (a.0 ∙ b.0, let x = a.1 in let y = b.1 in omega (arith, x, y))

-- the chosen one goes before the best so far, and before each of the rest, which stand later
before-best : (best : Place) (ps : List Place) → Before (highest_from best ps) best
before-best best [] = before-refl best
before-best best (p ∷ ps) =
    let here : Place = if nat_lt best.interrupt.level p.interrupt.level then p else best in
    let now : Before here best = choice_by (λ q. Before q best) (nat_lt best.interrupt.level p.interrupt.level) p best (λ t. inl (less best.interrupt.level p.interrupt.level t)) (λ t. before-refl best) in
    before-trans (highest_from here ps) here best (before-best here ps) now

-- these places rise from a place on
abbrev RiseFrom : ℕ → List Place → Type 0
RiseFrom from [] = Unit {0}
RiseFrom from (p ∷ ps) = (from ≤ p.at) × RiseFrom (p.at + 1) ps

rise-less : (a b : ℕ) (ps : List Place) → a ≤ b → RiseFrom b ps → RiseFrom a ps
rise-less a b [] l h = tt
rise-less a b (p ∷ ps) l h = (let first = h.0 in omega (arith, l, first), h.1)

before-rest : (best : Place) (ps : List Place) → RiseFrom (best.at + 1) ps → All (Before (highest_from best ps)) ps
before-rest best [] h = All-nil (Before best)
before-rest best (p ∷ ps) h =
    let first : best.at + 1 ≤ p.at = h.0 in
    let here : Place = if nat_lt best.interrupt.level p.interrupt.level then p else best in
    let now : Before here p =
    choice_by (λ q. Before q p) (nat_lt best.interrupt.level p.interrupt.level) p best (λ t. before-refl p) (λ t. older (not_less best.interrupt.level p.interrupt.level t) (omega (arith, first)) (order p.interrupt.level best.interrupt.level)) in
    let rises : RiseFrom (here.at + 1) ps = choice_by (λ (q : Place). RiseFrom (q.at + 1) ps) (nat_lt best.interrupt.level p.interrupt.level) p best (λ t. h.1) (λ t. rise-less (best.at + 1) (p.at + 1) ps (omega (arith, first)) h.1) in
    All-cons (Before (highest_from here ps)) p ps (before-trans (highest_from here ps) here p (before-best here ps) now) (before-rest here ps rises)
  where
    order : (a b : ℕ) → (a < b) ⊎ (b ≤ a)
    order a b = grind arith

    older : p.interrupt.level ≤ best.interrupt.level → best.at ≤ p.at → (p.interrupt.level < best.interrupt.level) ⊎ (best.interrupt.level ≤ p.interrupt.level) → Before best p
    older l a (inl lower) = inl lower
    older l a (inr same) = inr (omega (arith, l, same), a)

-- What is due.

module _ (quiet : Bool) (s t : ℕ) (frames : List FrameRecord) where
  rises-due_from : (masked first : Bool) (from : ℕ) (is : List Interrupt) → RiseFrom from (due_from masked quiet s t frames first from is)
  rises-due_from masked first from [] = tt
  rises-due_from masked first from (i ∷ is) =
      let rest = due_from masked quiet s t frames (first && is_step i.moment) (from + 1) is in
      let later = rises-due_from masked (first && is_step i.moment) (from + 1) is in
      choice (RiseFrom from) (lets_in masked quiet s t frames first i.moment i.level) (record { at = from; interrupt = i } ∷ rest) rest (omega arith, later) (rise-less from (from + 1) rest (omega arith) later)

  -- an interrupt whose raw step is there, and whose level is above the top frame's, is let in
  lets-in : (first : Bool) (moment : Moment) (level at : ℕ) → moment ≡ Step at → at ≤ s → level_of frames < level → lets_in false quiet s t frames first moment level ≡ true
  lets-in first moment level at e l a = rw e (both (nat_le at s) (nat_lt (level_of frames) level) (le-leb at s l) (le-leb (suc (level_of frames)) level a))
    where
      both : (b c : Bool) → b ≡ true → c ≡ true → (b && c) ≡ true
      both true c e f = f
      both false c e f = absurd (false≢true e)

  stands-due_from : (first : Bool) (from place : ℕ) (is : List Interrupt) (i : Interrupt) (at : ℕ) → slice_get is place ≡ Some i → i.moment ≡ Step at → at ≤ s → level_of frames < i.level → Contains (due_from false quiet s t frames first from is) (record { at = from + place; interrupt = i })
  stands-due_from first from place [] i at g e l a = cc
  stands-due_from first from zero (j ∷ is) i at g e l a =
      let same : j ≡ i = cc in
      let rest = due_from false quiet s t frames (first && is_step j.moment) (from + 1) is in
      let here : Place = record { at = from; interrupt = j } in
      let goal : Contains (if lets_in false quiet s t frames first j.moment j.level then here ∷ rest else rest) here =
      rw (lets-in first j.moment j.level at (rw same e) l (rw same a)) (Contains-get_or (here ∷ rest) 0 here (omega arith)) in
      let place_is : from ≡ from + 0 = omega arith in
      subst (λ n. Contains (due_from false quiet s t frames first from (j ∷ is)) (record { at = n; interrupt = i })) place_is (subst (λ k. Contains (due_from false quiet s t frames first from (j ∷ is)) (record { at = from; interrupt = k })) same goal)
  stands-due_from first from (suc place) (j ∷ is) i at g e l a =
      let rest = due_from false quiet s t frames (first && is_step j.moment) (from + 1) is in
      let here : Place = record { at = from; interrupt = j } in
      let it : Place = record { at = from + 1 + place; interrupt = i } in
      let later : Contains rest it = stands-due_from (first && is_step j.moment) (from + 1) place is i at g e l a in
      let whole : Contains (due_from false quiet s t frames first from (j ∷ is)) it =
      choice (λ ps. Contains ps it) (lets_in false quiet s t frames first j.moment j.level) (here ∷ rest) rest (Contains-append_right (here ∷ []) rest it later) later in
      let place_is : from + 1 + place ≡ from + suc place = omega arith in
      subst (λ n. Contains (due_from false quiet s t frames first from (j ∷ is)) (record { at = n; interrupt = i })) place_is whole

-- of a list that has an element the highest is there, and goes before it
record Chosen (o : Option Place) (q : Place) : Type 0 where
  place : Place
  is : o ≡ Some place
  first : Before place q

chosen-highest : (ps : List Place) (q : Place) → RiseFrom 0 ps → Contains ps q → Chosen (highest ps) q
chosen-highest [] q h c = absurd (let l = c.1 in omega (arith, l))
chosen-highest (p ∷ ps) q h c =
    let top = highest_from p ps in
    record {
      place = top;
      is = refl;
      first = All-contains (Before top) (p ∷ ps) q (All-cons (Before top) p ps (before-best p ps) (before-rest p ps h.1)) c;
    }

pub prompt-entry : (method : Method) (m : Machine) (at : ℕ) (i : Interrupt) (s : ℕ) → is_masked method m.in_hand ≡ false → IsWanted m at i s → EntersBefore method m at i
prompt-entry method m at i s free w =
    let ps = due_from false (is_quiet m) m.s m.t m.frames true 0 m.interrupts in
    let it : Place = record { at = 0 + at; interrupt = i } in
    let c = chosen-highest ps it (rises-due_from (is_quiet m) m.s m.t m.frames false true 0 m.interrupts) (stands-due_from (is_quiet m) m.s m.t m.frames true 0 at m.interrupts i s w.waits w.moment w.there w.above) in
    let found : due (is_masked method m.in_hand) (is_quiet m) m.s m.t m.frames m.interrupts ≡ Some c.place = rw free c.is in
    let place_is : 0 + at ≡ at = omega arith in
    record { place = c.place; enters = rw (w.begun, w.no_look, found) refl; first = subst (λ n. GoesBefore c.place.at c.place.interrupt.level n i.level) place_is c.first }
