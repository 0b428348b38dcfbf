-- The same interrupt is due in both runs, where none by raw steps is.
use Rattle.machine_laws.proofs.Common.{◌≡◌, Bool, ℕ, refl, true, List, [], false, ◌∙◌, ◌∷◌, None, Some, sym, arith, Option, subst, ap, ◌≤◌, inl, inr, ◌+◌, ◌<◌, if◌then◌else◌, ◌&&◌, nat_lt, false≢true, due, Place, is_step, FrameRecord, Interrupt}
use Rattle.std.proofs.lemmas.Option.{none-some}
use Rattle.std.proofs.lemmas.Bool.{ltb-true, ltb-false, lt-ltb, cases_Bool}
use Rattle.inject_list.specs.declared.lists.Moment.{Moment}
use Rattle.machine_model.specs.Due.{lets_in, due_from, highest_from, highest}

-- whether there is an interrupt whose moment is in raw steps
abbrev steps_in : Option Place → Bool
steps_in None = false
steps_in (Some p) = is_step p.interrupt.moment

-- the second list has all of the first but for some by raw steps
data Sifted : List Place → List Place → Type 0 where
  end : Sifted [] []
  kept : (p : Place) (xs ys : List Place) → Sifted xs ys → Sifted (p ∷ xs) (p ∷ ys)
  left_out : (p : Place) (xs ys : List Place) → is_step p.interrupt.moment ≡ true → Sifted xs ys → Sifted (p ∷ xs) ys

-- the highest so far, and then these
top : Option Place → List Place → Option Place
top None ps = highest ps
top (Some b) ps = Some (highest_from b ps)

-- The highest so far of each list: they are the same, or the first list's is by raw steps and no lower.
data Bests : Option Place → Option Place → Type 0 where
  nothing : Bests None None
  equal : (b : Place) → Bests (Some b) (Some b)
  above_none : (b : Place) → is_step b.interrupt.moment ≡ true → Bests (Some b) None
  above : (b c : Place) → is_step b.interrupt.moment ≡ true → c.interrupt.level ≤ b.interrupt.level → Bests (Some b) (Some c)

-- where the first list's highest is by no raw step, it is the second one's too
top-sifted : (xs ys : List Place) → Sifted xs ys → (a b : Option Place) → Bests a b → (p : Place) → is_step p.interrupt.moment ≡ false → top a xs ≡ Some p → top b ys ≡ Some p
unfolding top
top-sifted xs ys end a b nothing p n e = e
top-sifted xs ys end a b (equal c) p n e = e
top-sifted xs ys end a b (above_none c s) p n e = absurd (false≢true (sym n ∙ sym (ap steps_in e) ∙ s))
top-sifted xs ys end a b (above c d s l) p n e = absurd (false≢true (sym n ∙ sym (ap steps_in e) ∙ s))
top-sifted xs ys (kept x us vs r) a b nothing p n e = top-sifted us vs r (Some x) (Some x) (equal x) p n e
top-sifted xs ys (kept x us vs r) a b (equal c) p n e =
    let d = if nat_lt c.interrupt.level x.interrupt.level then x else c in
    top-sifted us vs r (Some d) (Some d) (equal d) p n e
top-sifted xs ys (kept x us vs r) a b (above_none c s) p n e =
    let by : (t : Bool) → nat_lt c.interrupt.level x.interrupt.level ≡ t → top (Some (if t then x else c)) us ≡ Some p → top (Some x) vs ≡ Some p
    = λ t. elim t as (λ u. nat_lt c.interrupt.level x.interrupt.level ≡ u → top (Some (if u then x else c)) us ≡ Some p → top (Some x) vs ≡ Some p) [
      | true ↦ λ i h. top-sifted us vs r (Some x) (Some x) (equal x) p n h
      | false ↦ λ i h. top-sifted us vs r (Some c) (Some x) (above c x s (ltb-false c.interrupt.level x.interrupt.level i)) p n h
    ] in
    by (nat_lt c.interrupt.level x.interrupt.level) refl e
top-sifted xs ys (kept x us vs r) a b (above c d s l) p n e =
    let lower : (t : Bool) → nat_lt d.interrupt.level x.interrupt.level ≡ t → nat_lt c.interrupt.level x.interrupt.level ≡ false → top (Some c) us ≡ Some p → top (Some (if t then x else d)) vs ≡ Some p
    = λ t. elim t as (λ u. nat_lt d.interrupt.level x.interrupt.level ≡ u → nat_lt c.interrupt.level x.interrupt.level ≡ false → top (Some c) us ≡ Some p → top (Some (if u then x else d)) vs ≡ Some p) [
      | true ↦ λ j i h. top-sifted us vs r (Some c) (Some x) (above c x s (ltb-false c.interrupt.level x.interrupt.level i)) p n h
      | false ↦ λ j i h. top-sifted us vs r (Some c) (Some d) (above c d s l) p n h
    ] in
    let by : (t : Bool) → nat_lt c.interrupt.level x.interrupt.level ≡ t → top (Some (if t then x else c)) us ≡ Some p → top (Some (if nat_lt d.interrupt.level x.interrupt.level then x else d)) vs ≡ Some p
    = λ t. elim t as (λ u. nat_lt c.interrupt.level x.interrupt.level ≡ u → top (Some (if u then x else c)) us ≡ Some p → top (Some (if nat_lt d.interrupt.level x.interrupt.level then x else d)) vs ≡ Some p) [
      | true ↦ λ i h.
          let k : d.interrupt.level < x.interrupt.level = omega (arith, ltb-true c.interrupt.level x.interrupt.level i, l) in
          subst (λ u. top (Some (if u then x else d)) vs ≡ Some p) (sym (lt-ltb d.interrupt.level x.interrupt.level k)) (top-sifted us vs r (Some x) (Some x) (equal x) p n h)
      | false ↦ λ i h. lower (nat_lt d.interrupt.level x.interrupt.level) refl i h
    ] in
    by (nat_lt c.interrupt.level x.interrupt.level) refl e
top-sifted xs ys (left_out x us vs s r) a b nothing p n e = top-sifted us vs r (Some x) None (above_none x s) p n e
top-sifted xs ys (left_out x us vs s r) a b (equal c) p n e =
    let by : (t : Bool) → nat_lt c.interrupt.level x.interrupt.level ≡ t → top (Some (if t then x else c)) us ≡ Some p → top (Some c) vs ≡ Some p
    = λ t. elim t as (λ u. nat_lt c.interrupt.level x.interrupt.level ≡ u → top (Some (if u then x else c)) us ≡ Some p → top (Some c) vs ≡ Some p) [
      | true ↦ λ i h. top-sifted us vs r (Some x) (Some c) (above x c s (omega (arith, ltb-true c.interrupt.level x.interrupt.level i))) p n h
      | false ↦ λ i h. top-sifted us vs r (Some c) (Some c) (equal c) p n h
    ] in
    by (nat_lt c.interrupt.level x.interrupt.level) refl e
top-sifted xs ys (left_out x us vs s r) a b (above_none c q) p n e =
    let by : (t : Bool) → top (Some (if t then x else c)) us ≡ Some p → top None vs ≡ Some p
    = λ t. elim t as (λ u. top (Some (if u then x else c)) us ≡ Some p → top None vs ≡ Some p) [
      | true ↦ λ h. top-sifted us vs r (Some x) None (above_none x s) p n h
      | false ↦ λ h. top-sifted us vs r (Some c) None (above_none c q) p n h
    ] in
    by (nat_lt c.interrupt.level x.interrupt.level) e
top-sifted xs ys (left_out x us vs s r) a b (above c d q l) p n e =
    let by : (t : Bool) → nat_lt c.interrupt.level x.interrupt.level ≡ t → top (Some (if t then x else c)) us ≡ Some p → top (Some d) vs ≡ Some p
    = λ t. elim t as (λ u. nat_lt c.interrupt.level x.interrupt.level ≡ u → top (Some (if u then x else c)) us ≡ Some p → top (Some d) vs ≡ Some p) [
      | true ↦ λ i h. top-sifted us vs r (Some x) (Some d) (above x d s (omega (arith, ltb-true c.interrupt.level x.interrupt.level i, l))) p n h
      | false ↦ λ i h. top-sifted us vs r (Some c) (Some d) (above c d q l) p n h
    ] in
    by (nat_lt c.interrupt.level x.interrupt.level) refl e

-- of no places none are left
none-sifted : (xs ys : List Place) → Sifted xs ys → highest xs ≡ None → highest ys ≡ None
none-sifted xs ys end e = refl
none-sifted xs ys (kept p us vs r) e = absurd (none-some (highest_from p us) (sym e))
none-sifted xs ys (left_out p us vs s r) e = absurd (none-some (highest_from p us) (sym e))

-- so the same one is due, where the first is by no raw step
due-sifted : (xs ys : List Place) → Sifted xs ys → (o : Option Place) → highest xs ≡ o → ((p : Place) → o ≡ Some p → is_step p.interrupt.moment ≡ false) → highest ys ≡ o
unfolding top
due-sifted xs ys r None e h = none-sifted xs ys r e
due-sifted xs ys r (Some p) e h = top-sifted xs ys r None None nothing p (h p refl) e

-- Two runs: what the second lets in the first does too, and those in task steps both let in alike.
module _ (masked quiet : Bool) (s t : ℕ) (frames : List FrameRecord) (masked2 quiet2 : Bool) (s2 t2 : ℕ) (frames2 : List FrameRecord)
    (fewer : (first : Bool) (moment : Moment) (level : ℕ) → lets_in masked2 quiet2 s2 t2 frames2 first moment level ≡ true → lets_in masked quiet s t frames first moment level ≡ true)
    (alike : (first : Bool) (moment : Moment) (level : ℕ) → is_step moment ≡ false → lets_in masked quiet s t frames first moment level ≡ true → lets_in masked2 quiet2 s2 t2 frames2 first moment level ≡ true) where
  sifted-due_from : (first : Bool) (at : ℕ) (is : List Interrupt) → Sifted (due_from masked quiet s t frames first at is) (due_from masked2 quiet2 s2 t2 frames2 first at is)
  sifted-due_from first at [] = end
  sifted-due_from first at (i ∷ is) =
      let p : Place = record { at = at; interrupt = i } in
      let xs = due_from masked quiet s t frames (first && is_step i.moment) (at + 1) is in
      let ys = due_from masked2 quiet2 s2 t2 frames2 (first && is_step i.moment) (at + 1) is in
      let rest : Sifted xs ys = sifted-due_from (first && is_step i.moment) (at + 1) is in
      let one = lets_in masked quiet s t frames first i.moment i.level in
      let two = lets_in masked2 quiet2 s2 t2 frames2 first i.moment i.level in
      let by : (b c : Bool) → one ≡ b → two ≡ c → Sifted (if b then p ∷ xs else xs) (if c then p ∷ ys else ys)
      = λ b c. elim b as (λ u. one ≡ u → two ≡ c → Sifted (if u then p ∷ xs else xs) (if c then p ∷ ys else ys)) [
        | true ↦ elim c as (λ v. one ≡ true → two ≡ v → Sifted (p ∷ xs) (if v then p ∷ ys else ys)) [
          | true ↦ λ e f. kept p xs ys rest
          | false ↦ λ e f. elim (cases_Bool (is_step i.moment)) as (λ _. Sifted (p ∷ xs) ys) [
            | inl y ↦ left_out p xs ys y rest
            | inr y ↦ absurd (false≢true (sym f ∙ alike first i.moment i.level y e))
          ]
        ]
        | false ↦ elim c as (λ v. one ≡ false → two ≡ v → Sifted xs (if v then p ∷ ys else ys)) [
          | true ↦ λ e f. absurd (false≢true (sym e ∙ fewer first i.moment i.level f))
          | false ↦ λ e f. rest
        ]
      ] in
      by one two refl refl

  pub due-alike : (is : List Interrupt) → ((p : Place) → due masked quiet s t frames is ≡ Some p → is_step p.interrupt.moment ≡ false) → due masked2 quiet2 s2 t2 frames2 is ≡ due masked quiet s t frames is
  due-alike is h =
      due-sifted (due_from masked quiet s t frames true 0 is) (due_from masked2 quiet2 s2 t2 frames2 true 0 is) (sifted-due_from true 0 is) (due masked quiet s t frames is) refl h
