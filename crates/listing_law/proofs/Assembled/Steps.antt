-- What the line of an item counts, where the next line begins, what it defines and what it gives.
use Rattle.std.proofs.Common.{◌≡◌, ℕ, ◌+◌, [], ◌∷◌, false, refl, sym, ap, ◌∙◌, pos}
use Rattle.asm_places.specs.Names.{Names, Defined, definition, defines, statement_defines}
use Rattle.asm_causes.specs.Causes.{is_early}
use Rattle.asm_causes.specs.Places.{size_of}
use Rattle.asm_places.specs.NameSteps.{counted}
use Rattle.asm_causes.specs.PlaceSteps.{filled, turned, place_after}
use Rattle.asm_lines.specs.Language.{Statement, Line}
use Rattle.asm_places.specs.Counts.{Counts}
use Rattle.asm_places.specs.Place.{Place}
use Rattle.asm_places.specs.declared.places.Meaning.TheVariants.{Label, Constant}
use Rattle.asm_causes.proofs.CalmLaws.{place_calm}
use Rattle.rv32_listing.specs.Texts.{label}
use Rattle.listing_law.proofs.Statements.Bodies.{Body, OnRegisters, OnImmediate, OnLoad, OnShift, OnStore, OnBranch, OnUpper, OnJump, OnAlone, OnWord, body_statement}
use Rattle.listing_law.proofs.Lines.Items.{Item, Turned, Coded, Stored, Declared, Tasked, Vectored, Set, item_statement, item_line}

-- Counts.

abbrev pub item_counted : Item → Counts → Counts
item_counted (Declared o) c = record c { lines = c.lines + 1; objects = c.objects + 1 }
item_counted (Tasked t) c = record c { lines = c.lines + 1; tasks = c.tasks + 1 }
item_counted (Vectored v) c = record c { lines = c.lines + 1; vectors = c.vectors + 1 }
item_counted _ c = record c { lines = c.lines + 1 }

abbrev one_more : Counts → Counts
one_more c = record c { lines = c.lines + 1 }

body_counted : (body : Body) (c : Counts) → counted (body_statement body) c ≡ one_more c
body_counted (OnRegisters op rd rs1 rs2) c = refl
body_counted (OnImmediate op rd rs1 imm) c = refl
body_counted (OnLoad op rd rs1 imm) c = refl
body_counted (OnShift op rd rs1 imm) c = refl
body_counted (OnStore op rs1 rs2 imm) c = refl
body_counted (OnBranch op rs1 rs2 to) c = refl
body_counted (OnUpper op rd imm) c = refl
body_counted (OnJump rd to) c = refl
body_counted (OnAlone op) c = refl
body_counted (OnWord w) c = refl

pub counted_item : (item : Item) (c : Counts) → counted (item_statement item) c ≡ item_counted item c
counted_item (Turned to) c = refl
counted_item (Coded address body) c = body_counted body c
counted_item (Stored w) c = refl
counted_item (Declared o) c = refl
counted_item (Tasked t) c = refl
counted_item (Vectored v) c = refl
counted_item (Set n key value) c = refl

-- Places.

abbrev pub item_size : Item → ℕ
item_size (Coded address body) = 4
item_size (Stored w) = 4
item_size _ = 0

abbrev pub item_turned : Item → Place → Place
item_turned (Turned to) p = record p { section = to }
item_turned _ p = p

abbrev pub item_placed : Item → Place → Place
item_placed item p = item_turned item (filled p.section (item_size item) p)

module _ (names : Names) where
  body_size : (body : Body) → size_of names (body_statement body) ≡ 4
  body_size (OnRegisters op rd rs1 rs2) = refl
  body_size (OnImmediate op rd rs1 imm) = refl
  body_size (OnLoad op rd rs1 imm) = refl
  body_size (OnShift op rd rs1 imm) = refl
  body_size (OnStore op rs1 rs2 imm) = refl
  body_size (OnBranch op rs1 rs2 to) = refl
  body_size (OnUpper op rd imm) = refl
  body_size (OnJump rd to) = refl
  body_size (OnAlone op) = refl
  body_size (OnWord w) = refl

  pub size_item : (item : Item) → size_of names (item_statement item) ≡ item_size item
  size_item (Turned to) = refl
  size_item (Coded address body) = body_size body
  size_item (Stored w) = refl
  size_item (Declared o) = refl
  size_item (Tasked t) = refl
  size_item (Vectored v) = refl
  size_item (Set n key value) = refl

  body_turned : (body : Body) (p : Place) → turned (body_statement body) p ≡ p
  body_turned (OnRegisters op rd rs1 rs2) p = refl
  body_turned (OnImmediate op rd rs1 imm) p = refl
  body_turned (OnLoad op rd rs1 imm) p = refl
  body_turned (OnShift op rd rs1 imm) p = refl
  body_turned (OnStore op rs1 rs2 imm) p = refl
  body_turned (OnBranch op rs1 rs2 to) p = refl
  body_turned (OnUpper op rd imm) p = refl
  body_turned (OnJump rd to) p = refl
  body_turned (OnAlone op) p = refl
  body_turned (OnWord w) p = refl

  turned_item : (item : Item) (p : Place) → turned (item_statement item) p ≡ item_turned item p
  turned_item (Turned to) p = refl
  turned_item (Coded address body) p = body_turned body p
  turned_item (Stored w) p = refl
  turned_item (Declared o) p = refl
  turned_item (Tasked t) p = refl
  turned_item (Vectored v) p = refl
  turned_item (Set n key value) p = refl

  -- where the line behind an item's begins
  pub placed_item : (n : ℕ) (item : Item) (c : Counts) (p : Place) → is_early names c p.section (item_line n item) ≡ false → place_after names c p (item_line n item) ≡ item_placed item p
  placed_item n item c p e =
      sym (place_calm names c p (item_line n item) e)
      ∙ (ap (λ size. turned (item_statement item) (filled p.section size p)) (size_item item) ∙ turned_item item (filled p.section (item_size item) p))

-- Names.

abbrev pub item_defines : Counts → Item → Defined
item_defines c (Coded address body) = (label address, definition c (Label c.lines)) ∷ []
item_defines c (Declared o) = (o.name, definition c (Constant (pos c.objects))) ∷ []
item_defines c (Tasked t) = (t.name, definition c (Constant (pos c.tasks))) ∷ []
item_defines c _ = []

module _ (c : Counts) where
  no_constant : (body : Body) → statement_defines c (body_statement body) ≡ []
  no_constant (OnRegisters op rd rs1 rs2) = refl
  no_constant (OnImmediate op rd rs1 imm) = refl
  no_constant (OnLoad op rd rs1 imm) = refl
  no_constant (OnShift op rd rs1 imm) = refl
  no_constant (OnStore op rs1 rs2 imm) = refl
  no_constant (OnBranch op rs1 rs2 to) = refl
  no_constant (OnUpper op rd imm) = refl
  no_constant (OnJump rd to) = refl
  no_constant (OnAlone op) = refl
  no_constant (OnWord w) = refl

  pub defined_item : (n : ℕ) (item : Item) → defines c (item_line n item) ≡ item_defines c item
  defined_item n (Turned to) = refl
  defined_item n (Coded address body) = ap (λ d. (label address, definition c (Label c.lines)) ∷ d) (no_constant body)
  defined_item n (Stored w) = refl
  defined_item n (Declared o) = refl
  defined_item n (Tasked t) = refl
  defined_item n (Vectored v) = refl
  defined_item n (Set name key value) = refl
