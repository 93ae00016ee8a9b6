-- The time of day in a time zone.
use Rattle.std.specs.Prelude.{ℕ, pos}
use Rattle.jiff_core.specs.Timestamp.{nanos_of_seconds}
use Rattle.jiff_tz.specs.Zone.{offset_at}
use Rattle.jiff_tz.specs.declared.timezone.TimeZone.{TimeZone}
use Rattle.ug_cond.specs.Clocks.{clock_ahead}

-- the clock is ahead by the zone's offset at that second since 1970
abbrev pub local_second_at : TimeZone → ℕ → ℕ
local_second_at zone second =
    clock_ahead (offset_at zone (nanos_of_seconds (pos second))) second
