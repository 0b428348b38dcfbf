-- The bytes of a name, and how it keeps them.
use Rattle.std.specs.Prelude.{ℕ, ◌≡◌, ◌≤◌, ◌-◌, List, length, take, drop, replicate, refl}
use Rattle.std.proofs.Common.{arith}
use Rattle.std.proofs.lemmas.List.{length-take-le, take-append-drop}
use Rattle.app_image.specs.Padding.{name_bytes}
use Rattle.app_image.specs.declared.names.Name.TheInside.{Inside}

-- the name is the first `len` bytes
abbrev pub name_of : Inside → List ℕ
name_of a = take a.len a.bytes

-- a name has 1 to 16 bytes, and zeros behind them
pub record IsPadded (a : Inside) : Type 0 where
  pub some : 1 ≤ a.len
  pub short : a.len ≤ 16
  pub room : length a.bytes ≡ 16
  pub zeros : drop a.len a.bytes ≡ replicate (16 - a.len) 0

-- a name as it is kept
abbrev pub padded : List ℕ → Inside
padded name = record { bytes = name_bytes name; len = length name }

-- what is kept is known from the name
pub padded-name_of : (a : Inside) → IsPadded a → padded (name_of a) ≡ a
padded-name_of a h =
    let e : length (take a.len a.bytes) ≡ a.len = length-take-le a.len a.bytes (omega (arith, h.room, h.short)) in
    rw (e, ← h.zeros, take-append-drop a.len a.bytes) refl
