-- The words that choose a command.
use Rattle.std.specs.Prelude.{ℕ, List, Option, Some, None, if◌then◌else◌, codes, bytes_eq}
use Rattle.ug_types.specs.declared.verdict.Target.TheVariants.{Allow, Block, Reject}
use Rattle.ug_arguments.specs.declared.command_word.CommandWord.{CommandWord}
use Rattle.ug_arguments.specs.declared.command_word.CommandWord.TheVariants as command

-- the words about rules, and `watch`
unfoldable pub rule_word_in : List ℕ → Option CommandWord
rule_word_in text =
    if bytes_eq text (codes "list-rules") then Some command.ListRules else
    if bytes_eq text (codes "append-rule") then Some command.AppendRule else
    if bytes_eq text (codes "remove-rule") then Some command.RemoveRule else
    if bytes_eq text (codes "watch") then Some command.Watch else None

-- the words that ask the daemon
unfoldable pub asking_word_in : List ℕ → Option CommandWord
asking_word_in text =
    if bytes_eq text (codes "get-parameter") then Some command.GetParameter else
    if bytes_eq text (codes "set-parameter") then Some command.SetParameter else
    if bytes_eq text (codes "list-devices") then Some command.ListDevices else
    if bytes_eq text (codes "allow-device") then Some (command.Device Allow) else
    if bytes_eq text (codes "block-device") then Some (command.Device Block) else
    if bytes_eq text (codes "reject-device") then Some (command.Device Reject) else
    rule_word_in text

-- the command that a word chooses
unfoldable pub word_in : List ℕ → Option CommandWord
word_in text =
    if bytes_eq text (codes "replay") then Some command.Replay else
    if bytes_eq text (codes "make-script") then Some command.MakeScript else
    if bytes_eq text (codes "read-descriptor") then Some command.ReadDescriptor else
    if bytes_eq text (codes "check-rules") then Some command.CheckRules else
    if bytes_eq text (codes "lint-rules") then Some command.LintRules else
    if bytes_eq text (codes "generate-policy") then Some command.GeneratePolicy else
    if bytes_eq text (codes "add-user") then Some command.AddUser else asking_word_in text
