-- The zone of a file.
use Rattle.std.specs.Prelude.{◌≡◌, Option, None, Some}
use Rattle.jiff_tz.specs.declared.tzif.Tzif.{Tzif}
use Rattle.jiff_tz.specs.declared.timezone.TimeZone.{TimeZone}
use Rattle.jiff_tz.specs.declared.timezone.TimeZone.TheVariants as zone

-- the table's zone, and UTC where there is none
abbrev pub IsZoneOf : Option Tzif → TimeZone → Type 0
IsZoneOf None z = z ≡ zone.UTC
IsZoneOf (Some table) (zone.Tzif t) = t.now ≡ table
IsZoneOf (Some table) zone.UTC = ⊥
IsZoneOf (Some table) zone.Unknown = ⊥
IsZoneOf (Some table) (zone.Fixed offset) = ⊥
IsZoneOf (Some table) (zone.Posix rule) = ⊥
