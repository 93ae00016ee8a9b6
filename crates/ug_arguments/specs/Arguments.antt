-- The words of the commands, and what their arguments are to `clap`.
use Rattle.std.specs.Prelude.{ℕ, Bool, List, [], ◌∷◌, bytes_eq, map}
use Rattle.clap.specs.Simple.{new_shape}
use Rattle.clap.specs.Words.{App, Rule}
use Rattle.ug_arguments.specs.SimpleCommands.{app_of_word, flag, long_flag, long_option, optional_word, required_word, short_option}
use Rattle.ug_types.specs.declared.verdict.Target.TheVariants.{Allow, Block, Reject}
use Rattle.ug_arguments.specs.declared.command_word.CommandWord.{CommandWord}
use Rattle.ug_arguments.specs.declared.command_word.CommandWord.TheVariants as command
use Rattle.ug_arguments.specs.declared.simple.Argument.{Argument}
use Rattle.ug_arguments.specs.declared.simple.Argument.TheVariants.{Flag, LongFlag, LongOption, OptionalWord, ShortOption, Word}

abbrev pub all_words : List CommandWord
all_words =
    command.Replay ∷ command.MakeScript ∷ command.ReadDescriptor ∷ command.CheckRules ∷
    command.LintRules ∷ command.GeneratePolicy ∷ command.AddUser ∷ command.GetParameter ∷
    command.SetParameter ∷ command.ListDevices ∷ command.Device Allow ∷ command.Device Block ∷
    command.Device Reject ∷ command.ListRules ∷ command.AppendRule ∷ command.RemoveRule ∷
    command.Watch ∷ []

abbrev pub spells_command : List ℕ → CommandWord → Bool
spells_command text word = bytes_eq text (app_of_word word).top.name

abbrev pub rule_by : Argument → Rule
rule_by (Word id) = required_word id.now
rule_by (OptionalWord id) = optional_word id.now
rule_by (LongOption id) = long_option id.now
rule_by (ShortOption id letter) = short_option id.now letter
rule_by (LongFlag id) = long_flag id.now
rule_by (Flag id letter) = flag id.now letter

abbrev pub app_by : List ℕ → List Rule → App
app_by name rules = record { top = record (new_shape name) { rules = rules }; subs = [] }

-- the command of that name that takes these arguments
abbrev pub app_taking : List ℕ → List Argument → App
app_taking name arguments = app_by name (map rule_by arguments)
