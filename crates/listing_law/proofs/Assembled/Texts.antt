-- A text of items is assembled to what the items give, where their names and places are known.
use Rattle.std.proofs.Common.{◌≡◌, ℕ, ◌+◌, List, [], ◌∷◌, ◌++◌, length, refl, ap, ◌∙◌}
use Rattle.app_image.specs.Raw.{RawRecord}
use Rattle.asm_places.specs.Names.{Names, Defined, defined_at_start, first_of}
use Rattle.asm_places.specs.Operands.{no_place}
use Rattle.rv32_asm.specs.Assembly.{Gives}
use Rattle.rv32_asm.specs.Assembled.{assembled}
use Rattle.asm_places.specs.NameSteps.{no_counts, counted, all_defined, names_of}
use Rattle.asm_causes.specs.PlaceSteps.{place_after, places_from, places_of}
use Rattle.rv32_asm.specs.Steps.{with_statement, assembled_from, assembled_lines, empty_image}
use Rattle.asm_places.specs.Counts.{Counts}
use Rattle.asm_places.specs.Place.{Place}
use Rattle.rv32_asm.proofs.LineByLine.{assembled_from-free}
use Rattle.rv32_asm.proofs.StepLaws.{same_assembled}
use Rattle.listing_law.proofs.Tokens.Parts.{flat}
use Rattle.listing_law.proofs.Lines.Items.{Item, item_line, item_statement}
use Rattle.listing_law.proofs.Lines.Read.{items_parts, items_tokens, AreItems, item_lines, text_read}
use Rattle.listing_law.proofs.Assembled.Early.{IsCalm, item_early}
use Rattle.listing_law.proofs.Assembled.Steps.{item_counted, counted_item, item_placed, placed_item, item_defines, defined_item}
use Rattle.listing_law.proofs.Assembled.Gives.{IsAccepted, item_accepted, item_added, item_gives}

-- what items define, and what stands where they begin
abbrev pub items_defined : Counts → List Item → Defined
items_defined c [] = []
items_defined c (item ∷ items) = item_defines c item ++ items_defined (item_counted item c) items

abbrev pub items_places : Place → List Item → List Place
items_places p [] = []
items_places p (item ∷ items) = p ∷ items_places (item_placed item p) items

abbrev pub items_added : ℕ → List Item → RawRecord → RawRecord
items_added n [] raw = raw
items_added n (item ∷ items) raw = items_added (n + 1) items (item_added n item raw)

abbrev pub AreCalm : Names → Counts → Place → List Item → Type 0
AreCalm names c p [] = Unit {0}
AreCalm names c p (item ∷ items) = IsCalm names c p.section item × AreCalm names (item_counted item c) (item_placed item p) items

abbrev pub AreAccepted : Names → List Place → Place → List Item → Type 0
AreAccepted names places p [] = Unit {0}
AreAccepted names places p (item ∷ items) = IsAccepted names places p item × AreAccepted names places (item_placed item p) items

defined_items : (n : ℕ) (c : Counts) (items : List Item) → all_defined c (item_lines n items) ≡ items_defined c items
defined_items n c [] = refl
defined_items n c (item ∷ items) =
    ap (λ d. d ++ all_defined (counted (item_statement item) c) (item_lines (n + 1) items)) (defined_item c n item)
    ∙ (ap (λ x. item_defines c item ++ all_defined x (item_lines (n + 1) items)) (counted_item item c)
    ∙ ap (λ d. item_defines c item ++ d) (defined_items (n + 1) (item_counted item c) items))

module _ (names : Names) where
  placed_items : (n : ℕ) (c : Counts) (p : Place) (items : List Item) → AreCalm names c p items → places_from names c p (item_lines n items) ≡ items_places p items
  placed_items n c p [] h = refl
  placed_items n c p (item ∷ items) h =
      let l = item_line n item in
      let ls = item_lines (n + 1) items in
      ap (λ x. p ∷ places_from names x (place_after names c p l) ls) (counted_item item c)
      ∙ (ap (λ x. p ∷ places_from names (item_counted item c) x ls) (placed_item names n item c p (item_early names c n p.section item h.0))
      ∙ ap (λ x. p ∷ x) (placed_items (n + 1) (item_counted item c) (item_placed item p) items h.1))

  module _ (places : List Place) (used : ℕ) where
    assembled_items : (n : ℕ) (c : Counts) (p : Place) (raw : RawRecord) (items : List Item) → AreCalm names c p items → AreAccepted names places p items
        → assembled_from names places c p raw used (item_lines n items) ≡ Gives (items_added n items raw) used
    assembled_items n c p raw [] h a = refl
    assembled_items n c p raw (item ∷ items) h a =
        let l = item_line n item in
        let ls = item_lines (n + 1) items in
        let calm = item_early names c n p.section item h.0 in
        assembled_from-free names places c p raw used l ls (item_accepted names places n item c p calm a.0)
        ∙ (ap (λ x. assembled_from names places x (place_after names c p l) (with_statement names places n p (item_statement item) raw) used ls) (counted_item item c)
        ∙ (ap (λ x. assembled_from names places (item_counted item c) x (with_statement names places n p (item_statement item) raw) used ls) (placed_item names n item c p calm)
        ∙ (ap (λ x. assembled_from names places (item_counted item c) (item_placed item p) x used ls) (item_gives names places n item p raw a.0)
        ∙ assembled_items (n + 1) (item_counted item c) (item_placed item p) (item_added n item raw) items h.1 a.1)))

-- the names and places of items
abbrev pub item_names : List Item → Names
item_names items = first_of (defined_at_start ++ items_defined no_counts items)

pub record AreSound (items : List Item) : Type 0 where
  pub fit : AreItems items
  pub calm : AreCalm (item_names items) no_counts no_place items
  pub accepted : AreAccepted (item_names items) (items_places no_place items) no_place items

-- what the text of items is assembled to
pub assembled_text : (items : List Item) → AreSound items
    → assembled (flat (items_parts items)) (items_tokens items) ≡ Gives (items_added 1 items empty_image) (length (items_tokens items))
assembled_text items h =
    let text = flat (items_parts items) in
    let tokens = items_tokens items in
    let lines = item_lines 1 items in
    let used = length tokens in
    let names : names_of lines ≡ item_names items = ap (λ d. first_of (defined_at_start ++ d)) (defined_items 1 no_counts items) in
    let places : places_of (item_names items) lines ≡ items_places no_place items = placed_items (item_names items) 1 no_counts no_place items h.calm in
    same_assembled text tokens
    ∙ (ap assembled_lines (text_read items h.fit)
    ∙ (ap (λ ns. assembled_from ns (places_of ns lines) no_counts no_place empty_image used lines) names
    ∙ (ap (λ ps. assembled_from (item_names items) ps no_counts no_place empty_image used lines) places
    ∙ assembled_items (item_names items) (items_places no_place items) used 1 no_counts no_place empty_image items h.calm h.accepted)))
