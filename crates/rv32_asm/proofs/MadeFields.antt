-- The fields of an assembled image are within the limits.
use Rattle.std.proofs.Common.{◌≡◌, ℕ, ◌≤◌, List, length, All, arith, refl}
use Rattle.std.proofs.lemmas.List.Elements.{All-nil}
use Rattle.text_lex.specs.declared.Token.{Token}
use Rattle.app_image.specs.Raw.{RawRecord, HasZerosUnused}
use Rattle.asm_lines.specs.Lines.{read}
use Rattle.asm_places.specs.Names.{Names}
use Rattle.asm_places.specs.NameSteps.{names_of, no_counts}
use Rattle.asm_places.specs.Operands.{no_place}
use Rattle.asm_causes.specs.PlaceSteps.{places_of}
use Rattle.rv32_asm.specs.Steps.{assembled_by_steps, empty_image}
use Rattle.rv32_asm.specs.Assembly.{Gives}
use Rattle.asm_places.specs.Counts.{Counts}
use Rattle.asm_places.specs.Place.{Place}
use Rattle.rv32_asm.proofs.MadeSteps.{Keeps, Ends, kept}
use Rattle.rv32_asm.proofs.MadeCounts.{HasCounts, counts_kept}
use Rattle.rv32_asm.proofs.MadeSections.{Fills, sections_kept}
use Rattle.rv32_asm.proofs.MadeForms.{HasZeros, lines_have_zeros}
use Rattle.rv32_asm.proofs.MadeUnused.{unused_kept}

-- what holds of the image behind each line
pub record SoFar (c : Counts) (p : Place) (raw : RawRecord) : Type 0 where
  pub counts : HasCounts c raw
  pub sections : Fills p raw
  pub unused : All HasZerosUnused raw.objects

-- what an assembled image meets, beside its names
pub record MeetsLimits (raw : RawRecord) : Type 0 where
  pub tasks : length raw.tasks ≤ 60
  pub objects : length raw.objects ≤ 64
  pub vectors : length raw.vectors ≤ 32
  pub code : length raw.code ≤ 16384
  pub ram : length raw.ram ≤ 65536
  pub unused : All HasZerosUnused raw.objects

start : SoFar no_counts no_place empty_image
start = record {
  counts = record { tasks_are = refl; objects_are = refl; vectors_are = refl; few_tasks = omega arith; few_objects = omega arith; few_vectors = omega arith };
  sections = record { code_is = refl; ram_is = refl; code_fits = omega arith; ram_fits = omega arith };
  unused = All-nil HasZerosUnused;
}

-- a line without a cause keeps it
line_keeps : (names : Names) (places : List Place) → Keeps names places (λ l. HasZeros l.statement) SoFar
line_keeps names places c p raw l free zeros h = record {
  counts = counts_kept names places l.statement c p raw l.number free.count h.counts;
  sections = sections_kept names places c p raw l free h.sections;
  unused = unused_kept names places l.statement p raw l.number zeros h.unused;
}

limits : (c : Counts) (p : Place) (raw : RawRecord) → SoFar c p raw → MeetsLimits raw
limits c p raw h = record {
  tasks = omega (arith, h.counts.tasks_are, h.counts.few_tasks);
  objects = omega (arith, h.counts.objects_are, h.counts.few_objects);
  vectors = omega (arith, h.counts.vectors_are, h.counts.few_vectors);
  code = omega (arith, h.sections.code_is, h.sections.code_fits);
  ram = omega (arith, h.sections.ram_is, h.sections.ram_fits);
  unused = h.unused;
}

-- an assembled image is within the limits
pub meets_limits : (text : List ℕ) (tokens : List Token) (raw : RawRecord) (used : ℕ) → assembled_by_steps text tokens ≡ Gives raw used → MeetsLimits raw
meets_limits text tokens raw used given =
    let lines = (read text tokens).lines in
    let names = names_of lines in
    let places = places_of names lines in
    let ends : Ends names places (λ l. HasZeros l.statement) SoFar raw = kept names places (λ l. HasZeros l.statement) SoFar (line_keeps names places) lines no_counts no_place empty_image (read text tokens).used raw used (lines_have_zeros text tokens) start given in
    limits ends.0 ends.1 raw ends.2
