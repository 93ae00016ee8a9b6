-- How the runs of a script carry on one another, in the words of rules and orders.
use Rattle.std.specs.Prelude.{◌≡◌, ℕ, List, [], ◌∷◌, flat_map, Some, None}
use Rattle.ug_sysfs.specs.World.{World}
use Rattle.ug_core.specs.Policy.{Judging}
use Rattle.ug_command_io.specs.Fold.{Going, plays}
use Rattle.ug_command_io.specs.Refusals.{HoldsOfEach}
use Rattle.ug_script.specs.Journal.{AreSuccessive, CarriesOn, first_start, runs_in}
use Rattle.ug_script.specs.Journal.{Recorded, RunEnd, RunStart}
use Rattle.ug_script.specs.LinesRead.{LineReads}
use Rattle.ug_script.specs.Replay.{script_step}
use Rattle.ug_script.specs.Script.{Script}
use Rattle.ug_script.specs.Setup.{Beside, setup_rule, steps_of}

-- behind each of these runs the next one begins with rules that carry it on
abbrev pub EachCarriesOn : (beside : Beside) (policy : Judging) (b : RunStart) (runs : List RunEnd)
    (c : RunStart) → AreSuccessive beside policy b runs c → Type 0
EachCarriesOn beside policy b [] c h = Unit {0}
EachCarriesOn beside policy b (run ∷ runs) c h =
    CarriesOn h.0.next.rules run.events h.0.daemon
    × EachCarriesOn beside policy h.0.next runs c h.1

-- The first run of the script began with the rules of the `rule` lines. Each other one begins with
-- the permanent rules that were in force at the end of the run before; or with these after just
-- one order of it, which was in progress when the machine stopped, or whose save failed, and no
-- save was done since.
abbrev pub CarriesThrough : World → List (List ℕ) → Type 0
CarriesThrough first lines =
    (text : List ℕ) (s : Script) (w : World) (r : Recorded first lines text s w)
    → EachCarriesOn r.beside r.policy
    (first_start (flat_map setup_rule (steps_of lines)) first.kernel)
    (runs_in first lines).ended r.runs.start r.runs.ended

-- where the rules can be read again from their texts, at each line
abbrev pub StaysCarried : World → Type 0
StaysCarried first = (lines : List (List ℕ)) (n : ℕ) (text : List ℕ) (s : Script) (w : World)
    → plays script_step (Going 0 [] (None, first)) lines ≡ Going n text (Some s, w)
    → HoldsOfEach script_step LineReads (Going 0 [] (None, first)) lines
    → CarriesThrough first lines
