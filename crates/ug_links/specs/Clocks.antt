-- The moments of a clock in memory.
use Rattle.std.specs.Prelude.{◌≡◌, ℕ, ◌-◌, min, List, [], ◌∷◌, length, Option}
use Rattle.std.specs.List.{slice_get}
use Rattle.std.specs.Option.{unwrap_or}
use Rattle.ug_types.specs.Told.{one_more, told_by_count}
use Rattle.ug_types.specs.declared.verdict.Moment.{Moment}
use Rattle.ug_links.specs.declared.list_clock.ListClock.{ListClock}

-- the moment of a call that has so many before it: the next of the list, the last one past its
-- end, and 0 where there is none
abbrev pub moment_at : List Moment → ℕ → Moment
moment_at moments calls =
    unwrap_or (slice_get moments (min (length moments - 1) calls)) (record { 0 = 0 })

abbrev pub moments_told : List Moment → ℕ → Option (List Moment)
moments_told moments calls = told_by_count (λ call. moment_at moments call ∷ []) calls

-- one call more, and its moment
pub record GivesMoment (s : ListClock) (moment : Moment) (t : ListClock) : Type 0 where
  pub answer : moment ≡ moment_at s.moments.items s.calls
  pub moments : t.moments ≡ s.moments
  pub calls : t.calls ≡ one_more s.calls
