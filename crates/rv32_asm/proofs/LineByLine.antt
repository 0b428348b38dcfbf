-- What a line with a cause, or without one, and the lines behind it are assembled to.
use Rattle.std.proofs.Common.{◌≡◌, ℕ, List, ◌∷◌, refl}
use Rattle.std.specs.Prelude.{Some, None}
use Rattle.app_image.specs.Raw.{RawRecord}
use Rattle.asm_lines.specs.Language.{Line}
use Rattle.asm_places.specs.Names.{Names}
use Rattle.asm_places.specs.NameSteps.{counted}
use Rattle.asm_places.specs.Counts.{Counts}
use Rattle.asm_places.specs.Place.{Place}
use Rattle.asm_causes.specs.PlaceSteps.{place_after}
use Rattle.asm_causes.specs.Refusal.{cause_of}
use Rattle.asm_causes.specs.declared.causes.AsmCause.{AsmCause}
use Rattle.rv32_asm.specs.Steps.{assembled_from, with_statement}
use Rattle.rv32_asm.specs.Assembly.{Refuses}

-- what a line without a cause and the lines behind it are assembled to
pub assembled_from-free : (names : Names) (places : List Place) (c : Counts) (p : Place) (raw : RawRecord) (used : ℕ) (l : Line) (ls : List Line) → cause_of names places c p l ≡ None → assembled_from names places c p raw used (l ∷ ls) ≡ assembled_from names places (counted l.statement c) (place_after names c p l) (with_statement names places l.number p l.statement raw) used ls
assembled_from-free names places c p raw used l ls e = rw (e, assembled_from) refl

-- the first line with a cause
pub assembled_from-refused : (names : Names) (places : List Place) (c : Counts) (p : Place) (raw : RawRecord) (used : ℕ) (l : Line) (ls : List Line) (cause : AsmCause) → cause_of names places c p l ≡ Some cause → assembled_from names places c p raw used (l ∷ ls) ≡ Refuses l.number cause
assembled_from-refused names places c p raw used l ls cause e = rw (e, assembled_from) refl
