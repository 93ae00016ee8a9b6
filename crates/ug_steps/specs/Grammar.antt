-- What each line of a script asks for.
use Rattle.std.specs.Prelude.{◌≡◌, ℕ, Bool, true, false, ◌&&◌, ◌||◌, nat_eq, nat_le, if◌then◌else◌, List, [], ◌∷◌, ◌++◌, length, Option, Some, None, option_and_then, option_map, Result, Ok, Err, codes}
use Rattle.std.specs.Cmp.Lexicographic.{pointwise}
use Rattle.std.specs.List.{starts_with}
use Rattle.ug_types.specs.Elements.{Has}
use Rattle.ug_types.specs.Principals.{Named, is_name, principal_of, principal_text}
use Rattle.ug_types.specs.declared.access.Section.{Section}
use Rattle.ug_types.specs.declared.rule.Rule as types
use Rattle.ug_types.specs.declared.text_fault.TextFault.{TextFault}
use Rattle.ug_acl.specs.declared.privileges.Privileges.{Privileges}
use Rattle.ug_acl.specs.Grammar.{IsGrant}
use Rattle.ug_acl.specs.Lines.{given_to}
use Rattle.ug_acl.specs.Pairs.{Pair}
use Rattle.ug_acl.specs.Texts.{access_read, pairs_given}
use Rattle.ug_conf.specs.FolderFiles.{IsRuleFileName, is_rule_file_name}
use Rattle.ug_iface.specs.declared.rules.IfaceRule as iface
use Rattle.ug_iface.specs.Rules.{LineFault, iface_rule_read}
use Rattle.ug_rule.specs.declared.fault.Fault.{Fault}
use Rattle.ug_rule.specs.Grammar.{Says, WellFormed}
use Rattle.ug_rule.specs.Rules.{rule_read}
use Rattle.ug_store.specs.declared.mishap.Mishap.{Mishap}
use Rattle.ug_store.specs.declared.mishap.Mishap.TheVariants as mishap
use Rattle.ug_store.specs.declared.mishap.Planned.{Planned}
use Rattle.ug_sysfs.specs.declared.script.Failing.{Failing}
use Rattle.ug_sysfs.specs.declared.script.IfaceMove.TheVariants.{Add, Remove}
use Rattle.ug_sysfs.specs.declared.script.Move.{Move}
use Rattle.ug_sysfs.specs.declared.script.Move.TheVariants as move
use Rattle.ug_sysfs.specs.declared.script.Scheduled.{Scheduled}
use Rattle.ug_types.specs.Events.{FitsEvent, longest_piece}
use Rattle.ug_types.specs.declared.event.Event.{Event}
use Rattle.ug_types.specs.declared.event.Event.TheVariants.{Sweep, Order, Hint}
use Rattle.ug_steps.specs.declared.line_word.LineWord.{LineWord}
use Rattle.ug_steps.specs.declared.line_word.LineWord.TheVariants as word
use Rattle.ug_steps.specs.declared.step.AccessLine.{AccessLine}
use Rattle.ug_steps.specs.declared.step.FolderLine.{FolderLine}
use Rattle.ug_steps.specs.declared.step.Plan.TheVariants as plan
use Rattle.ug_steps.specs.declared.step.SetupLine.{SetupLine}
use Rattle.ug_steps.specs.declared.step.SetupLine.TheVariants.{Rule, Folder, Conf, Access, Seed, Zone, IfaceRule}
use Rattle.ug_steps.specs.declared.step.Step.{Step}
use Rattle.ug_steps.specs.declared.step.Step.TheVariants as step
use Rattle.ug_steps.specs.IfaceLines.{iface_name_of, new_iface_of}
use Rattle.ug_steps.specs.LineWords.{line_word_of}
use Rattle.ug_steps.specs.Plugs.{plugged_device}
use Rattle.ug_steps.specs.Words.{bytes_of, name_of, moment_word, call_of, cut_by_space, seed_of, offset_of, is_entry, is_one_line}

-- one line, which is a rule
pub record HoldsRule (line : List ℕ) : Type 0 where
  pub single : ¬ Has line 10
  pub rule : types.Rule
  pub says : Says line rule

-- ---- lines that stand before all others

abbrev pub in_rule : Result types.Rule Fault → Option SetupLine
in_rule (Ok rule) = Some (Rule rule)
in_rule (Err fault) = None

abbrev pub in_folder : List ℕ → List ℕ → Result types.Rule Fault → Option SetupLine
in_folder name line (Ok rule) = Some (Folder (record { name = name; text = line }))
in_folder name line (Err fault) = None

-- a file that counts, and one line that holds a rule
abbrev pub named_line : List ℕ → List ℕ → Option SetupLine
named_line name line =
    if is_rule_file_name name && is_one_line line then in_folder name line (rule_read line)
    else None

-- `NAME RULE`
abbrev pub folder_line_of : List ℕ → Option SetupLine
folder_line_of text = cut_by_space (λ name line. named_line name line) None text

-- the name of a file that counts, one space, and one line that is a rule
pub record IsFolderText (text : List ℕ) (f : FolderLine) : Type 0 where
  pub is : text ≡ f.name ++ 32 ∷ f.text
  pub named : IsRuleFileName f.name
  pub holds : HoldsRule f.text

abbrev pub in_iface_rule : Result iface.IfaceRule LineFault → Option SetupLine
in_iface_rule (Ok rule) = Some (IfaceRule rule)
in_iface_rule (Err fault) = None

abbrev pub in_access : Named → Result (List Pair) TextFault → Option SetupLine
in_access who (Ok grants) = Some (Access (record { who = who; grants = grants }))
in_access who (Err fault) = None

-- a line of an access file that is neither blank nor a comment
abbrev pub granting : Option Named → List ℕ → Option SetupLine
granting None line = None
granting (Some who) line =
    if is_one_line line && is_entry line then in_access who (access_read line) else None

-- `PRINCIPAL SECTION=LIST`
abbrev pub grant_of : List ℕ → Option SetupLine
grant_of text = cut_by_space (λ who line. granting (principal_of who) line) None text

-- a user, or a group behind `:`, one space, and one line of an access file, which gives privileges
-- of a section
pub record IsAccess (text : List ℕ) (a : AccessLine) : Type 0 where
  pub line : List ℕ
  pub is : text ≡ principal_text a.who ++ 32 ∷ line
  pub named : is_name a.who.name ≡ true
  pub single : ¬ Has line 10
  pub section : Section
  pub privileges : Privileges
  pub grant : IsGrant line section privileges
  pub gives : a.grants ≡ pairs_given (given_to section privileges ∷ [])

-- ---- devices and interfaces that come and go

abbrev pub move_behind : LineWord → List ℕ → Option Move
move_behind word.Plug text = option_map move.Plug (plugged_device text)
move_behind word.Unplug text = option_map move.Unplug (name_of text)
move_behind word.Iface text = option_map (λ new. move.Iface (Add new)) (new_iface_of text)
move_behind word.Uniface text = option_map (λ name. move.Iface (Remove name)) (iface_name_of text)
move_behind other text = None

abbrev pub move_by : Option LineWord → List ℕ → Option Move
move_by None text = None
move_by (Some word) text = move_behind word text

-- a `plug`, `unplug`, `iface` or `uniface` line
abbrev pub move_of : List ℕ → Option Move
move_of line = cut_by_space (λ word text. move_by (line_word_of word) text) None line

-- ---- what is scheduled for a call of the next event

abbrev pub scheduled_at : Bool → ℕ → List ℕ → Option Scheduled
scheduled_at after call text =
    option_map (λ action. record { call = call; after = after; action = action }) (move_of text)

-- `CALL MOVE`, before the effect of that call of the next event or after it
abbrev pub scheduled_of : Bool → List ℕ → Option Scheduled
scheduled_of after text =
    cut_by_space (λ call rest. option_and_then (λ k. scheduled_at after k rest) (call_of call))
    None text

abbrev pub failing_at : Bool → Option ℕ → Option Failing
failing_at effect call = option_map (λ k. record { call = k; effect = effect }) call

unfoldable pub is_effect : List ℕ → Bool
is_effect word = pointwise nat_eq word (codes "effect")

-- `CALL`, or `CALL effect`
abbrev pub failing_of : List ℕ → Option Failing
failing_of text =
    cut_by_space (λ call rest. if is_effect rest then failing_at true (call_of call) else None)
    (failing_at false (call_of text)) text

abbrev pub mishap_of : Bool → Mishap
mishap_of true = mishap.Effect
mishap_of false = mishap.NoEffect

abbrev pub fails_on_disk : Failing → Planned
fails_on_disk failing =
    record { call = failing.call; mishap = mishap_of failing.effect; stops = false }

unfoldable pub is_fail : List ℕ → Bool
is_fail word = pointwise nat_eq word (codes "fail")

-- `fail CALL`, or `fail CALL effect`, of a call of the disk
abbrev pub disk_fail_of : List ℕ → Option Planned
disk_fail_of text =
    cut_by_space
    (λ word rest. if is_fail word then option_map fails_on_disk (failing_of rest) else None)
    None text

-- whether a swap has had its effect
unfoldable pub mishap_word : List ℕ → Option Mishap
mishap_word word =
    if pointwise nat_eq word (codes "old") then Some mishap.NoEffect
    else if pointwise nat_eq word (codes "new") then Some mishap.Effect
    else None

abbrev pub stopping_at : ℕ → Option Mishap → Option Planned
stopping_at call left =
    option_map (λ leaves. record { call = call; mishap = leaves; stops = true }) left

-- `CALL old`, or `CALL new`: the machine stops in that call of the disk
abbrev pub planned_stop : List ℕ → Option Planned
planned_stop text =
    cut_by_space
    (λ call rest. option_and_then (λ k. stopping_at k (mishap_word rest)) (call_of call)) None text

-- ---- events

-- `PRINCIPAL REQUEST`, where the request is any text, and may be empty
abbrev pub order_at : ℕ → List ℕ → Option Event
order_at moment text =
    cut_by_space (λ who request.
    option_map (λ p. Order (record { 0 = moment }) p request) (principal_of who)) None text

-- `MOMENT PRINCIPAL REQUEST`
abbrev pub order_of : List ℕ → Option Event
order_of text =
    cut_by_space (λ moment rest. option_and_then (λ n. order_at n rest) (moment_word moment)) None
    text

-- a piece of recorded uevents that an event can meet
abbrev pub hint_at : ℕ → List ℕ → Option Event
hint_at moment piece =
    if nat_le (length piece) longest_piece then Some (Hint (record { 0 = moment }) piece) else None

-- `MOMENT HEX`
abbrev pub hint_of : List ℕ → Option Event
hint_of text =
    cut_by_space (λ moment digits.
    option_and_then (λ n. option_and_then (λ piece. hint_at n piece) (bytes_of digits))
    (moment_word moment)) None text

-- ---- all lines

-- what the text behind a line's first word asks for
unfoldable pub step_by_word : LineWord → List ℕ → Option Step
step_by_word word.Plug text = option_map (λ d. step.Move (move.Plug d)) (plugged_device text)
step_by_word word.Unplug text = option_map (λ name. step.Move (move.Unplug name)) (name_of text)
step_by_word word.Iface text =
    option_map (λ new. step.Move (move.Iface (Add new))) (new_iface_of text)
step_by_word word.Uniface text =
    option_map (λ name. step.Move (move.Iface (Remove name))) (iface_name_of text)
step_by_word word.Before text =
    option_map (λ m. step.Schedule (plan.Move m)) (scheduled_of false text)
step_by_word word.After text =
    option_map (λ m. step.Schedule (plan.Move m)) (scheduled_of true text)
step_by_word word.Fail text = option_map (λ f. step.Schedule (plan.Fail f)) (failing_of text)
step_by_word word.Disk text = option_map (λ p. step.Schedule (plan.OnDisk p)) (disk_fail_of text)
step_by_word word.Stop text = option_map (λ p. step.Schedule (plan.OnDisk p)) (planned_stop text)
step_by_word word.Sweep text =
    option_map (λ moment. step.Event (Sweep (record { 0 = moment }))) (moment_word text)
step_by_word word.Order text = option_map step.Event (order_of text)
step_by_word word.Hint text = option_map step.Event (hint_of text)
step_by_word word.Rule text = option_map step.Setup (in_rule (rule_read text))
step_by_word word.Folder text = option_map step.Setup (folder_line_of text)
step_by_word word.Conf text = Some (step.Setup (Conf text))
step_by_word word.Access text = option_map step.Setup (grant_of text)
step_by_word word.Seed text = option_map (λ seed. step.Setup (Seed seed)) (seed_of text)
step_by_word word.Zone text = option_map (λ offset. step.Setup (Zone offset)) (offset_of text)
step_by_word word.IfaceRule text = option_map step.Setup (in_iface_rule (iface_rule_read text))

abbrev pub step_by : Option LineWord → List ℕ → Option Step
step_by None text = None
step_by (Some word) text = step_by_word word text

-- what a line asks for, None where it is bad: the first word chooses what stands behind it
unfoldable pub step_of_line : List ℕ → Option Step
step_of_line line =
    if nat_eq (length line) 0 || starts_with nat_eq line (codes "#") then Some step.Skip
    else if pointwise nat_eq line (codes "restart") then Some step.Restart
    else cut_by_space (λ word text. step_by (line_word_of word) text) None line

-- the rule that is asked for, if one is, is the rule of some line
abbrev pub AsksForRule : SetupLine → Type 0
AsksForRule (Rule rule) = WellFormed rule
AsksForRule (Folder line) = HoldsRule line.text
AsksForRule line = Unit {0}

-- and a piece of recorded uevents is one that an event can meet
abbrev pub AsksForRules : Step → Type 0
AsksForRules (step.Setup line) = AsksForRule line
AsksForRules (step.Event event) = FitsEvent event
AsksForRules other = Unit {0}
