-- The parts of a listing's lines are read as pieces, and none of them ends its line.
use Rattle.std.proofs.Common.{◌≡◌, ℕ, ◌<◌, ◌^◌, List, [], ◌∷◌, ◌++◌, length, Bool, true, false, arith, refl, pos}
use Rattle.std.specs.Prelude.{◌&&◌, not, ◌==◌, slice_index, codes}
use Rattle.std.proofs.lemmas.Bool.{and_parts, cond_both}
use Rattle.kern_base.specs.declared.kinds.Kind.{Kind}
use Rattle.kern_base.specs.declared.kinds.Kind.TheVariants as k
use Rattle.text_lex.specs.Bytes.{is_name}
use Rattle.text_lex.specs.Division.{Part, Blank, Comment, Lexeme, BeginsNoName}
use Rattle.app_image.specs.Image.{no_callback}
use Rattle.asm_lines.specs.Lines.{is_end}
use Rattle.text_lex.specs.declared.TokenKind.TheVariants as kind
use Rattle.asm_lines.specs.declared.mnemonics.Section.{Section}
use Rattle.asm_lines.specs.declared.mnemonics.Section.TheVariants as section
use Rattle.rv32_listing.specs.Texts.{label}
use Rattle.listing_law.proofs.Tokens.Parts.{flat, IsPiece, ArePieces}
use Rattle.listing_law.proofs.Tokens.Read.{name_read, directive_read, decimal_read}
use Rattle.listing_law.proofs.Tokens.Names.{label_named}
use Rattle.listing_law.proofs.Lines.Rows.{row_tokens, IsOpen, AreOpen}
use Rattle.listing_law.proofs.Statements.Bodies.{Body, OnRegisters, OnImmediate, OnLoad, OnShift, OnStore, OnBranch, OnUpper, OnJump, OnAlone, OnWord, blank, comma, name, number, directive, body_parts}
use Rattle.listing_law.proofs.Statements.Pieces.{body_pieces}
use Rattle.listing_law.proofs.Lines.Items.{Item, Turned, Coded, Stored, Declared, Tasked, Vectored, Set, section_bytes, IsSection, further, callback_part, timer_with, timer_parts, object_parts, item_parts, IsItem}

-- Pieces.

abbrev dot_name : List ℕ → Part
dot_name bytes = directive (46 ∷ bytes)

module _ (rest : List Part) (b : BeginsNoName (flat rest)) (more : ArePieces rest) where
  further_pieces : (n : ℕ) → n < 2 ^ 32 → ArePieces (further n rest)
  further_pieces n lt = (refl, (refl, (decimal_read n (flat rest) lt b, more)))

-- a directive, a blank and a name
module _ (rest : List Part) (b : BeginsNoName (flat rest)) (more : ArePieces rest) where
  named_pieces : (bytes n : List ℕ) → is_name bytes ≡ true → is_name n ≡ true → ArePieces (dot_name bytes ∷ Blank 32 ∷ name n ∷ rest)
  named_pieces bytes n e f = (directive_read bytes (flat (Blank 32 ∷ name n ∷ rest)) e refl, (refl, (name_read n (flat rest) f b, more)))

  call_piece : (address : ℕ) → address < 2 ^ 32 → IsPiece (callback_part address) (flat rest)
  call_piece address lt =
      cond_both (address == no_callback) (name (codes "none")) (number (pos address)) (λ call. IsPiece call (flat rest)) (λ e. name_read (codes "none") (flat rest) refl b) (λ e. decimal_read address (flat rest) lt b)

module _ (rest : List Part) (b : BeginsNoName (flat rest)) (more : ArePieces rest) where
  timer_pieces : (n word f : List ℕ) → is_name n ≡ true → is_name word ≡ true → ((i : ℕ) → slice_index f i < 2 ^ 32) → ArePieces (timer_parts n word f ++ rest)
  timer_pieces n word f e g lt =
      let p3 : List Part = further (slice_index f 3) rest in
      let a3 : ArePieces p3 = further_pieces rest b more (slice_index f 3) (lt 3) in
      let p2 : List Part = comma ∷ blank ∷ callback_part (slice_index f 2) ∷ p3 in
      let a2 : ArePieces p2 = (refl, (refl, (call_piece p3 refl a3 (slice_index f 2) (lt 2), a3))) in
      let p1 : List Part = further (slice_index f 1) p2 in
      let a1 : ArePieces p1 = further_pieces p2 refl a2 (slice_index f 1) (lt 1) in
      let p0 : List Part = further (slice_index f 0) p1 in
      let a0 : ArePieces p0 = further_pieces p1 refl a1 (slice_index f 0) (lt 0) in
      let kind : ArePieces (comma ∷ blank ∷ name word ∷ p0) = (refl, (refl, (name_read word (flat p0) g refl, a0))) in
      named_pieces (comma ∷ blank ∷ name word ∷ p0) refl kind (116 ∷ 105 ∷ 109 ∷ 101 ∷ 114 ∷ []) n refl e

  object_pieces : (n : List ℕ) (kind : Kind) (f : List ℕ) → is_name n ≡ true → ((i : ℕ) → slice_index f i < 2 ^ 32) → ArePieces (object_parts n kind f ++ rest)
  object_pieces n k.Sem f e lt = named_pieces (further (slice_index f 0) rest) refl (further_pieces rest b more (slice_index f 0) (lt 0)) (115 ∷ 101 ∷ 109 ∷ []) n refl e
  object_pieces n k.Queue f e lt = named_pieces (further (slice_index f 0) rest) refl (further_pieces rest b more (slice_index f 0) (lt 0)) (113 ∷ 117 ∷ 101 ∷ 117 ∷ 101 ∷ []) n refl e
  object_pieces n k.Flags f e lt = named_pieces (further (slice_index f 0) rest) refl (further_pieces rest b more (slice_index f 0) (lt 0)) (102 ∷ 108 ∷ 97 ∷ 103 ∷ 115 ∷ []) n refl e
  object_pieces n k.Mutex f e lt = named_pieces rest b more (109 ∷ 117 ∷ 116 ∷ 101 ∷ 120 ∷ []) n refl e
  object_pieces n k.OneShot f e lt = timer_pieces n (codes "oneshot") f e refl lt
  object_pieces n k.Periodic f e lt = timer_pieces n (codes "periodic") f e refl lt

  four_pieces : (p q r s : ℕ) → p < 2 ^ 32 → q < 2 ^ 32 → r < 2 ^ 32 → s < 2 ^ 32 → ArePieces (further p (further q (further r (further s rest))))
  four_pieces p q r s a c d e =
      let p3 : List Part = further s rest in
      let a3 : ArePieces p3 = further_pieces rest b more s e in
      let p2 : List Part = further r p3 in
      let a2 : ArePieces p2 = further_pieces p3 refl a3 r d in
      let p1 : List Part = further q p2 in
      let a1 : ArePieces p1 = further_pieces p2 refl a2 q c in
      further_pieces p1 refl a1 p a

  three_pieces : (q r s : ℕ) → q < 2 ^ 32 → r < 2 ^ 32 → s < 2 ^ 32 → ArePieces (further q (further r (further s rest)))
  three_pieces q r s c d e =
      let p3 : List Part = further s rest in
      let a3 : ArePieces p3 = further_pieces rest b more s e in
      let p2 : List Part = further r p3 in
      let a2 : ArePieces p2 = further_pieces p3 refl a3 r d in
      further_pieces p2 refl a2 q c

  section_pieces : (s : Section) → IsSection s → ArePieces (directive (section_bytes s) ∷ rest)
  section_pieces section.Nowhere ok = absurd ok
  section_pieces section.Code ok = (directive_read (99 ∷ 111 ∷ 100 ∷ 101 ∷ []) (flat rest) refl b, more)
  section_pieces section.Ram ok = (directive_read (114 ∷ 97 ∷ 109 ∷ []) (flat rest) refl b, more)

  pub item_pieces : (item : Item) → IsItem item → ArePieces (item_parts item ++ rest)
  item_pieces (Turned s) ok = section_pieces s ok
  item_pieces (Coded address body) ok =
      let wide : address < 2 ^ 64 = omega (arith, ok.0) in
      (name_read (label address) (flat (Lexeme kind.Colon (58 ∷ []) ∷ Blank 32 ∷ (body_parts body ++ rest))) (label_named address wide) refl, (refl, (refl, body_pieces rest b more body ok.1)))
  item_pieces (Stored w) ok = body_pieces rest b more (OnWord w) ok
  item_pieces (Declared o) ok = object_pieces o.name o.kind o.f ok.0 ok.1
  item_pieces (Tasked t) ok =
      let w = ok.1 in
      let p4 : List Part = further t.sp rest in
      let a4 : ArePieces p4 = further_pieces rest b more t.sp w.sp in
      let p3 : List Part = further t.qsize p4 in
      let a3 : ArePieces p3 = further_pieces p4 refl a4 t.qsize w.qsize in
      let p2 : List Part = further t.quanta p3 in
      let a2 : ArePieces p2 = further_pieces p3 refl a3 t.quanta w.quanta in
      let p1 : List Part = further t.prio p2 in
      let a1 : ArePieces p1 = further_pieces p2 refl a2 t.prio w.prio in
      let p0 : List Part = further t.entry p1 in
      let a0 : ArePieces p0 = further_pieces p1 refl a1 t.entry w.entry in
      named_pieces p0 refl a0 (116 ∷ 97 ∷ 115 ∷ 107 ∷ []) t.name refl ok.0
  item_pieces (Vectored v) ok =
      let p : List Part = further v.level (further v.entry (further v.sp rest)) in
      let a : ArePieces p = three_pieces v.level v.entry v.sp ok.level ok.entry ok.sp in
      (directive_read (118 ∷ 101 ∷ 99 ∷ 116 ∷ 111 ∷ 114 ∷ []) (flat (Blank 32 ∷ number (pos v.number) ∷ p)) refl refl, (refl, (decimal_read v.number (flat p) ok.number refl, a)))
  item_pieces (Set n key value) ok = named_pieces (further value rest) refl (further_pieces rest b more value ok.2) (99 ∷ 111 ∷ 110 ∷ 102 ∷ 105 ∷ 103 ∷ []) n refl ok.0

-- No part ends a line.

abbrev is_open : Part → Bool
is_open (Lexeme kind bytes) = not (is_end kind)
is_open _ = true

abbrev are_open : List Part → Bool
are_open [] = true
are_open (part ∷ parts) = is_open part && are_open parts

open_one : (part : Part) → is_open part ≡ true → IsOpen part
open_one (Lexeme kind bytes) h = opened_by (is_end kind) h
  where
    opened_by : (b : Bool) → not b ≡ true → b ≡ false
    opened_by true e = absurd cc
    opened_by false e = refl
open_one (Blank byte) h = tt
open_one (Comment bytes) h = tt

opened : (parts : List Part) → are_open parts ≡ true → AreOpen parts
opened [] h = tt
opened (part ∷ parts) h = let both = and_parts (is_open part) (are_open parts) h in (open_one part both.0, opened parts both.1)

body_open : (body : Body) → are_open (body_parts body) ≡ true
body_open (OnRegisters op rd rs1 rs2) = refl
body_open (OnImmediate op rd rs1 imm) = refl
body_open (OnLoad op rd rs1 imm) = refl
body_open (OnShift op rd rs1 imm) = refl
body_open (OnStore op rs1 rs2 imm) = refl
body_open (OnBranch op rs1 rs2 to) = refl
body_open (OnUpper op rd imm) = refl
body_open (OnJump rd to) = refl
body_open (OnAlone op) = refl
body_open (OnWord w) = refl

timer_open : (n word f : List ℕ) → are_open (timer_parts n word f) ≡ true
timer_open n word f =
    cond_both (slice_index f 2 == no_callback) (name (codes "none")) (number (pos (slice_index f 2))) (λ call. are_open (timer_with call n word f) ≡ true) (λ e. refl) (λ e. refl)

object_open : (n : List ℕ) (kind : Kind) (f : List ℕ) → are_open (object_parts n kind f) ≡ true
object_open n k.Sem f = refl
object_open n k.Queue f = refl
object_open n k.Flags f = refl
object_open n k.Mutex f = refl
object_open n k.OneShot f = timer_open n (codes "oneshot") f
object_open n k.Periodic f = timer_open n (codes "periodic") f

item_are_open : (item : Item) → are_open (item_parts item) ≡ true
item_are_open (Turned s) = refl
item_are_open (Coded address body) = body_open body
item_are_open (Stored w) = refl
item_are_open (Declared o) = object_open o.name o.kind o.f
item_are_open (Tasked t) = refl
item_are_open (Vectored v) = refl
item_are_open (Set n key value) = refl

pub item_open : (item : Item) → AreOpen (item_parts item)
item_open item = opened (item_parts item) (item_are_open item)

-- A line has a token.

object_some : (n : List ℕ) (kind : Kind) (f : List ℕ) (place line : ℕ) → 0 < length (row_tokens place line (object_parts n kind f))
object_some n k.Sem f place line = omega arith
object_some n k.Queue f place line = omega arith
object_some n k.Flags f place line = omega arith
object_some n k.Mutex f place line = omega arith
object_some n k.OneShot f place line = omega arith
object_some n k.Periodic f place line = omega arith

pub item_some : (item : Item) (place line : ℕ) → 0 < length (row_tokens place line (item_parts item))
item_some (Turned s) place line = omega arith
item_some (Coded address body) place line = omega arith
item_some (Stored w) place line = omega arith
item_some (Declared o) place line = object_some o.name o.kind o.f place line
item_some (Tasked t) place line = omega arith
item_some (Vectored v) place line = omega arith
item_some (Set n key value) place line = omega arith
