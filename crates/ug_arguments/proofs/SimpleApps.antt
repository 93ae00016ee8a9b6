-- The simple commands are those of their tables, and simple.
use Rattle.std.proofs.Common.{◌≡◌, ◌∙◌, ◌+◌, ◌<◌, ℕ, List, [], ◌∷◌, ◌++◌, length, take, get_or, true, refl, sym, ap, subst, map}
use Rattle.std.proofs.lemmas.List.{map-append, take_more}
use Rattle.clap.specs.Words.{App, Rule, is_simple_and_free, with_rule}
use Rattle.clap.proofs.OnLiterals.{clap_on_literals}
use Rattle.ug_types.specs.declared.verdict.Target.{Target}
use Rattle.ug_types.specs.declared.verdict.Target.TheVariants.{Allow, Block, Reject}
use Rattle.ug_arguments.specs.Arguments.{app_by, app_taking, rule_by}
use Rattle.ug_arguments.specs.SimpleCommands.{app_of_word, daemon_app, device_app}
use Rattle.ug_arguments.specs.declared.command_word.CommandWord.{CommandWord}
use Rattle.ug_arguments.specs.declared.command_word.CommandWord.TheVariants as command
use Rattle.ug_arguments.specs.declared.simple.Argument.{Argument}

pub simple_and_free : (word : CommandWord) → is_simple_and_free (app_of_word word) ≡ true
unfolding app_of_word clap_on_literals
simple_and_free command.Replay = refl
simple_and_free command.MakeScript = refl
simple_and_free command.ReadDescriptor = refl
simple_and_free command.CheckRules = refl
simple_and_free command.LintRules = refl
simple_and_free command.GeneratePolicy = refl
simple_and_free command.AddUser = refl
simple_and_free command.GetParameter = refl
simple_and_free command.SetParameter = refl
simple_and_free command.ListDevices = refl
simple_and_free (command.Device Allow) = refl
simple_and_free (command.Device Block) = refl
simple_and_free (command.Device Reject) = refl
simple_and_free command.ListRules = refl
simple_and_free command.AppendRule = refl
simple_and_free command.RemoveRule = refl
simple_and_free command.Watch = refl

pub daemon_simple : is_simple_and_free daemon_app ≡ true
unfolding clap_on_literals
daemon_simple = refl

-- a command is its name and its arguments
told_by_both : (word : CommandWord) → app_by (app_of_word word).top.name (app_of_word word).top.rules ≡ app_of_word word
unfolding app_of_word
told_by_both command.Replay = refl
told_by_both command.MakeScript = refl
told_by_both command.ReadDescriptor = refl
told_by_both command.CheckRules = refl
told_by_both command.LintRules = refl
told_by_both command.GeneratePolicy = refl
told_by_both command.AddUser = refl
told_by_both command.GetParameter = refl
told_by_both command.SetParameter = refl
told_by_both command.ListDevices = refl
told_by_both (command.Device Allow) = refl
told_by_both (command.Device Block) = refl
told_by_both (command.Device Reject) = refl
told_by_both command.ListRules = refl
told_by_both command.AppendRule = refl
told_by_both command.RemoveRule = refl
told_by_both command.Watch = refl

pub of_table : (word : CommandWord) (name : List ℕ) (arguments : List Argument) → name ≡ (app_of_word word).top.name
    → map rule_by arguments ≡ (app_of_word word).top.rules → app_taking name arguments ≡ app_of_word word
of_table word name arguments named taken =
    ap (λ (n : List ℕ). app_by n (map rule_by arguments)) named
    ∙ ap (λ (rules : List Rule). app_by (app_of_word word).top.name rules) taken
    ∙ told_by_both word

device_taken : (to : Target) → (device_app []).top.rules ≡ (app_of_word (command.Device to)).top.rules
unfolding app_of_word
device_taken Allow = refl
device_taken Block = refl
device_taken Reject = refl

-- the three commands about a device take the same
pub device_rules : (word : CommandWord) (to : Target) → word ≡ command.Device to → (device_app []).top.rules ≡ (app_of_word word).top.rules
device_rules word to is = subst (λ (w : CommandWord). (device_app []).top.rules ≡ (app_of_word w).top.rules) (sym is) (device_taken to)

-- a command with one argument more
pub one_more : (old new : App) (rule : Rule) (name : List ℕ) (arguments : List Argument) (i : ℕ) (d : Argument) → i < length arguments
    → new ≡ with_rule old rule → old ≡ app_taking name (take i arguments) → rule ≡ rule_by (get_or arguments i d) → new ≡ app_taking name (take (i + 1) arguments)
one_more old new rule name arguments i d lt added before is =
    added
    ∙ ap (λ (app : App). with_rule app rule) before
    ∙ ap (λ (r : Rule). app_by name (map rule_by (take i arguments) ++ r ∷ [])) is
    ∙ ap (app_by name) (sym (ap (map rule_by) (take_more arguments i d lt) ∙ map-append rule_by (take i arguments) (get_or arguments i d ∷ [])))
