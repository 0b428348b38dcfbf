-- Pseudo-random draws: a linear congruential sequence modulo 2^64, of which a draw uses the upper 31 bits.
use Rattle.std.specs.Prelude.{ℕ, ◌+◌, ◌*◌, ◌/◌, ◌%◌, ◌^◌}

-- the number behind a number of the sequence
abbrev pub after : ℕ → ℕ
after x = (x * 6364136223846793005 + 1442695040888963407) % 2 ^ 64

-- what a number of the sequence gives for a draw below a bound
abbrev pub drawn : ℕ → ℕ → ℕ
drawn x bound = x / 2 ^ 33 % bound
