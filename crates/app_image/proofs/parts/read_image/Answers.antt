use Rattle.std.proofs.Common.{◌≡◌, ◌∙◌, ℕ, arith, List, Bool, true, false, not, if◌then◌else◌, Result, Ok, Err, sym, refl, inr}
use Rattle.app_image.specs.Held.{Holds}
use Rattle.app_image.specs.Places.{header_of, image_size}
use Rattle.app_image.specs.Raw.{RawRecord}
use Rattle.app_image.specs.Reading.{is_layout, has_fault, raw_at, image_in}
use Rattle.app_image.specs.declared.causes.ImageCause.TheVariants.{BadName, Layout}
use Rattle.app_image.specs.declared.causes.ImageError.{ImageError}
use Rattle.app_image.specs.declared.causes.ImageError.TheVariants.{At}
use Rattle.app_image.proofs.ReadLaws.{names_free, IsMade-raw_at}
use Rattle.app_image.proofs.BackWhole.{read_from}
use Rattle.app_image.proofs.HeldLaws.{read_is_held}
use Rattle.app_image.proofs.StoredLaws.{held_is_read}
use Rattle.app_image.proofs.parts.read_image.Goals as goal

pub read_parts-requires-clause-names : goal.read_parts-requires-clause-names
read_parts-requires-clause-names c =
    names_free c.args.bytes.now c.header_of-h.result (sym c.has_fault.ensures ∙ c.if-has_fault.false)

pub returns-clause-made : goal.returns-clause-made
returns-clause-made c =
    let bytes = c.args.bytes.now in
    let layout : is_layout bytes ≡ true = sym c.is_layout.ensures ∙ c.if-not-is_layout.false in
    let none = rw c.header_of-h.ensures at (sym c.has_fault.ensures ∙ c.if-has_fault.false) in
    rw (c.in_ok-raw.ensures, c.header_of-h.ensures) (IsMade-raw_at bytes layout none)

-- what is laid out is not refused
refused : (bytes : List ℕ) (raw : RawRecord) (size : ℕ) (error : ImageError) → Holds bytes raw size → image_in bytes ≡ Err error → ⊥
refused bytes raw size error h e = let read = held_is_read bytes raw size h in cc

as_layout : (a : Bool) (x y : Result (RawRecord × ℕ) ImageError) → a ≡ false → (if not a then x else y) ≡ x
as_layout a x y e = rw e refl

as_name : (a b : Bool) (x y z : Result (RawRecord × ℕ) ImageError) → a ≡ true → b ≡ true → (if not a then x else (if b then y else z)) ≡ y
as_name a b x y z e f = rw (e, f) refl

pub returns-then-not-is_layout-clause-all : goal.returns-then-not-is_layout-clause-all
returns-then-not-is_layout-clause-all c raw size h =
    let bytes = c.args.bytes.now in
    let hd = header_of bytes in
    let no : is_layout bytes ≡ false = sym c.is_layout.ensures ∙ c.if-not-is_layout.true in
    absurd (refused bytes raw size (At 0 Layout) h (as_layout (is_layout bytes) (Err (At 0 Layout)) (if has_fault bytes hd then Err (At 0 BadName) else Ok (raw_at bytes hd, image_size hd)) no))

pub returns-then-has_fault-clause-all : goal.returns-then-has_fault-clause-all
returns-then-has_fault-clause-all c raw size h =
    let bytes = c.args.bytes.now in
    let hd = header_of bytes in
    let yes : is_layout bytes ≡ true = sym c.is_layout.ensures ∙ c.if-not-is_layout.false in
    let fault = rw c.header_of-h.ensures at (sym c.has_fault.ensures ∙ c.if-has_fault.true) in
    absurd (refused bytes raw size (At 0 BadName) h (as_name (is_layout bytes) (has_fault bytes hd) (Err (At 0 Layout)) (Err (At 0 BadName)) (Ok (raw_at bytes hd, image_size hd)) yes fault))

pub returns-clause-held : goal.returns-clause-held
returns-clause-held c =
    let bytes = c.args.bytes.now in
    let layout : is_layout bytes ≡ true = sym c.is_layout.ensures ∙ c.if-not-is_layout.false in
    let none = rw c.header_of-h.ensures at (sym c.has_fault.ensures ∙ c.if-has_fault.false) in
    rw (c.in_ok-raw.ensures, c.image_size.ensures, c.header_of-h.ensures) (read_is_held bytes (λ k. omega (arith, c.type_inv.bytes k)) c.requires layout none)

pub returns-clause-all : goal.returns-clause-all
returns-clause-all c raw size h =
    let bytes = c.args.bytes.now in
    let layout : is_layout bytes ≡ true = sym c.is_layout.ensures ∙ c.if-not-is_layout.false in
    let none = rw c.header_of-h.ensures at (sym c.has_fault.ensures ∙ c.if-has_fault.false) in
    let read = read_from bytes (header_of bytes) refl layout none in
    inr (rw (c.in_ok-raw.ensures, c.image_size.ensures, c.header_of-h.ensures) (sym read ∙ held_is_read bytes raw size h))
