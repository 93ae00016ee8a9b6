-- What clocks show.
use Rattle.std.specs.Prelude.{ℕ, ℤ, pos, ◌+ℤ◌, unsigned_abs}
use Rattle.std.specs.Int.{int_rem_euclid}

-- the second of the day at a second since 1970, where clocks are so many seconds ahead of UTC
abbrev pub clock_ahead : ℤ → ℕ → ℕ
clock_ahead offset second = unsigned_abs (int_rem_euclid (pos second +ℤ offset) (pos 86400))
