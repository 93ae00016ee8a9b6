-- Which scripts end with `input too long`.
use Rattle.std.specs.Prelude.{◌≡◌, ◌⊎◌, ℕ, ◌<◌, ◌↔◌, Bool, true, false, List, [], ◌∷◌, ◌++◌, flat_map, length, Option, Some, None}
use Rattle.std.specs.List.{list_any}
use Rattle.ug_types.specs.Limits.{text_limit}
use Rattle.ug_print.specs.RuleTexts.{rules_text_of}
use Rattle.ug_sysfs.specs.World.{World}
use Rattle.ug_command_io.specs.Fold.{Going, input_too_long, is_within, plays}
use Rattle.ug_steps.specs.declared.step.Step.{Step}
use Rattle.ug_script.specs.Against.{starts_daemon}
use Rattle.ug_script.specs.FolderLines.{lines_length}
use Rattle.ug_steps.specs.Grammar.{step_of_line}
use Rattle.ug_script.specs.Replay.{script_step}
use Rattle.ug_script.specs.Script.{Script}
use Rattle.ug_script.specs.Setup.{folder_asked, setup_rule, steps_of}

abbrev pub starts_one : Option Step → Bool
starts_one None = false
starts_one (Some asked) = starts_daemon asked

-- Behind lines that are taken, of which none starts a daemon, there is one that would start it; and
-- the canonical text of the rules of the `rule` lines before it has more than 67,108,864 bytes, or
-- the lines of the folder's files have, with a newline each.
pub record FindsNoRoom (first : World) (lines : List (List ℕ)) : Type 0 where
  pub earlier : List (List ℕ)
  pub line : List ℕ
  pub later : List (List ℕ)
  pub among : lines ≡ earlier ++ line ∷ later
  pub count : ℕ
  pub text : List ℕ
  pub script : Script
  pub world : World
  pub taken : plays script_step (Going 0 [] (None, first)) earlier
      ≡ Going count text (Some script, world)
  pub within : is_within count line ≡ true
  pub unstarted : list_any starts_one (steps_of earlier) ≡ false
  pub starts : starts_one (step_of_line line) ≡ true
  pub long : (text_limit < length (rules_text_of (flat_map setup_rule (steps_of earlier))))
      ⊎ (text_limit < lines_length (flat_map folder_asked (steps_of earlier)))

-- where the status is 2, `input too long` is all that is written exactly where that is so
abbrev pub TellsRoom : World → List (List ℕ) → List ℕ → Option (List ℕ) → ℕ → Type 0
TellsRoom first lines base held status =
    status ≡ 2 → (held ≡ Some (base ++ input_too_long)) ↔ FindsNoRoom first lines
