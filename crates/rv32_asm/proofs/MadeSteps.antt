-- What each line of a text that is assembled keeps true.
use Rattle.std.proofs.Common.{◌≡◌, ℕ, List, [], ◌∷◌, sym, ◌∙◌, refl, subst}
use Rattle.std.specs.Prelude.{Option, Some, None}
use Rattle.std.specs.List.{AllByRecursion}
use Rattle.app_image.specs.Raw.{RawRecord}
use Rattle.asm_places.specs.Names.{Names}
use Rattle.asm_places.specs.NameSteps.{counted}
use Rattle.asm_causes.specs.PlaceSteps.{place_after}
use Rattle.rv32_asm.specs.Steps.{assembled_from, with_statement}
use Rattle.rv32_asm.specs.Assembly.{Gives}
use Rattle.asm_causes.specs.Refusal.{cause_of}
use Rattle.asm_lines.specs.Language.{Line}
use Rattle.asm_places.specs.Counts.{Counts}
use Rattle.asm_places.specs.Place.{Place}
use Rattle.asm_causes.specs.declared.causes.AsmCause.{AsmCause}
use Rattle.asm_causes.proofs.CauseLaws.{IsFree, is_free}
use Rattle.rv32_asm.proofs.LineByLine.{assembled_from-free, assembled_from-refused}

module _ (names : Names) (places : List Place) (Q : Line → Type 0) (P : Counts → Place → RawRecord → Type 0) where
  -- a line without a cause keeps what holds before it
  abbrev pub Keeps : Type 0
  Keeps = (c : Counts) (p : Place) (raw : RawRecord) (l : Line) → IsFree names places c p l → Q l → P c p raw → P (counted l.statement c) (place_after names c p l) (with_statement names places l.number p l.statement raw)

  -- it holds behind some counts and place
  abbrev pub Ends : RawRecord → Type 0
  Ends raw = (c : Counts) × (p : Place) × P c p raw

  kept_by : Keeps → (c : Counts) (p : Place) (raw : RawRecord) (used : ℕ) (l : Line) (ls : List Line) (given : RawRecord) (behind : ℕ) (o : Option AsmCause) → cause_of names places c p l ≡ o → Q l → P c p raw → (P (counted l.statement c) (place_after names c p l) (with_statement names places l.number p l.statement raw) → assembled_from names places (counted l.statement c) (place_after names c p l) (with_statement names places l.number p l.statement raw) used ls ≡ Gives given behind → Ends given) → assembled_from names places c p raw used (l ∷ ls) ≡ Gives given behind → Ends given
  kept_by keeps c p raw used l ls given behind (Some cause) e q h rest g =
      let refused = assembled_from-refused names places c p raw used l ls cause e in
      absurd (cc (refused, g))
  kept_by keeps c p raw used l ls given behind None e q h rest g =
      rest (keeps c p raw l (is_free names places c p l e) q h) (sym (assembled_from-free names places c p raw used l ls e) ∙ g)

  -- what each line keeps holds of the image in the end
  pub kept : Keeps → (ls : List Line) (c : Counts) (p : Place) (raw : RawRecord) (used : ℕ) (given : RawRecord) (behind : ℕ) → AllByRecursion Q ls → P c p raw → assembled_from names places c p raw used ls ≡ Gives given behind → Ends given
  kept keeps [] c p raw used given behind q h g =
      let same : raw ≡ given = cc in
      (c, p, subst (P c p) same h)
  kept keeps (l ∷ ls) c p raw used given behind q h g =
      kept_by keeps c p raw used l ls given behind (cause_of names places c p l) refl q.0 h
      (kept keeps ls (counted l.statement c) (place_after names c p l) (with_statement names places l.number p l.statement raw) used given behind q.1) g
