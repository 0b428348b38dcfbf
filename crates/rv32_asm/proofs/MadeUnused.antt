-- The unused fields of the objects of an assembled image are 0.
use Rattle.std.proofs.Common.{◌≡◌, ℕ, zero, suc, ◌-◌, List, ◌∷◌, map, drop, replicate, All, refl, ap, ◌∙◌}
use Rattle.std.specs.Prelude.{Option, Some, None}
use Rattle.std.proofs.lemmas.List.{drop-map}
use Rattle.std.proofs.lemmas.List.Elements.{All-push}
use Rattle.app_image.specs.Raw.{RawRecord, fields_used, HasZerosUnused}
use Rattle.app_image.specs.declared.settings.ConfigKey.{ConfigKey}
use Rattle.asm_lines.specs.Forms.{unused}
use Rattle.asm_places.specs.Names.{Names}
use Rattle.asm_places.specs.Operands.{value_of}
use Rattle.rv32_asm.specs.Instructions.{words}
use Rattle.rv32_asm.specs.Assembled.{word_values}
use Rattle.rv32_asm.specs.Steps.{with_words, with_setting, with_statement}
use Rattle.asm_lines.specs.Language.{Operand, Statement, Task, Object, Vector, Setting}
use Rattle.asm_lines.specs.declared.mnemonics.Section.{Section}
use Rattle.asm_lines.specs.declared.mnemonics.Section.TheVariants.{Nowhere, Code, Ram}
use Rattle.asm_places.specs.Place.{Place}
use Rattle.rv32_asm.proofs.MadeForms.{HasZeros}

map_replicate : {X Y : Type 0} (f : X → Y) (n : ℕ) (x : X) → map f (replicate n x) ≡ replicate n (f x)
map_replicate f zero x = refl
map_replicate f (suc n) x = ap (λ ys. f x ∷ ys) (map_replicate f n x)

zeros_of : (f : Operand → ℕ) (used : ℕ) (values : List Operand) → f unused ≡ 0 → drop used values ≡ replicate (4 - used) unused → drop used (map f values) ≡ replicate (4 - used) 0
zeros_of f used values zero_of h =
    drop-map f used values ∙ (ap (map f) h ∙ (map_replicate f (4 - used) unused ∙ ap (replicate (4 - used)) zero_of))

words_same : (raw : RawRecord) (section : Section) (ws : List ℕ) → All HasZerosUnused raw.objects → All HasZerosUnused (with_words section ws raw).objects
words_same raw Nowhere ws h = h
words_same raw Code ws h = h
words_same raw Ram ws h = h

setting_same : (raw : RawRecord) (line : ℕ) (key : Option ConfigKey) (value : ℕ) → All HasZerosUnused raw.objects → All HasZerosUnused (with_setting line key value raw).objects
setting_same raw line None value h = h
setting_same raw line (Some key) value h = h

module _ (names : Names) (places : List Place) where
  -- a statement more
  pub unused_kept : (s : Statement) (p : Place) (raw : RawRecord) (line : ℕ) → HasZeros s → All HasZerosUnused raw.objects → All HasZerosUnused (with_statement names places line p s raw).objects
  unused_kept (Task n values) p raw line zeros h = h
  unused_kept (Object n kind values) p raw line zeros h =
      All-push HasZerosUnused raw.objects (record { name = n; kind = kind; f = word_values names places values; line = line }) h
      (zeros_of (value_of names places) (fields_used kind) values refl zeros)
  unused_kept (Vector values) p raw line zeros h = h
  unused_kept (Setting key v) p raw line zeros h = setting_same raw line key (value_of names places v) h
  unused_kept s p raw line zeros h = words_same raw p.section (words names places p s) h
