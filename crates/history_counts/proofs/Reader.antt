-- A reader of a history: it counts the lines whose first word begins with `c`, those whose first word has a `w` behind its first
-- byte, and the other lines.
use Rattle.std.proofs.Common.{◌≡◌, ℕ, ◌+◌, List, [], ◌∷◌, ◌++◌, cond, refl}
use Rattle.std.specs.Prelude.{◌==◌}

-- where in a line: before its first word, at the first or the second byte of that word, or behind them
pub data Place : Type 0 where
  Number : Place
  First : Place
  Second : Place
  Rest : Place

pub record Seen : Type 0 where
  pub place : Place
  pub calls : ℕ
  pub switches : ℕ
  pub own : ℕ

abbrev pub seen : Place → ℕ → ℕ → ℕ → Seen
seen place calls switches own = record { place = place; calls = calls; switches = switches; own = own }

-- a byte that ends no line
abbrev pub within : Place → ℕ → ℕ → ℕ → ℕ → Seen
within Number byte c s o = seen (cond (byte == 32) First Number) c s o
within First byte c s o = seen Second (c + cond (byte == 99) 1 0) s o
within Second byte c s o = seen Rest c (s + cond (byte == 119) 1 0) (o + cond (byte == 119) 0 1)
within Rest byte c s o = seen Rest c s o

abbrev pub step : ℕ → Seen → Seen
step byte t = cond (byte == 10) (seen Number t.calls t.switches t.own) (within t.place byte t.calls t.switches t.own)

abbrev pub read : List ℕ → Seen → Seen
read [] t = t
read (byte ∷ bytes) t = read bytes (step byte t)

pub read-append : (xs ys : List ℕ) (t : Seen) → read (xs ++ ys) t ≡ read ys (read xs t)
read-append [] ys t = refl
read-append (x ∷ xs) ys t = read-append xs ys (step x t)
