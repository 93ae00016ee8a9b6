-- What a script's setup lines give, and the policy that a daemon starts with then.
use Rattle.std.specs.Prelude.{◌≡◌, ℕ, ◌+◌, nat_le, ℤ, pos, neg_ℤ, int_le, replicate, Bool, false, is_none, ◌&&◌, nat_lt, if◌then◌else◌, List, [], ◌∷◌, ◌++◌, length, drop, map, flat_map, Option, Some, None, Result, Ok, Err}
use Rattle.std.specs.List.{filter}
use Rattle.ug_types.specs.Limits.{text_limit}
use Rattle.rand_chacha.specs.ChaCha.{next_word, of_seed}
use Rattle.rand_core.specs.Steps.{stream_of, steps_u32}
use Rattle.rand_core.specs.Stream.{Stream}
use Rattle.ug_types.specs.Principals.{Named}
use Rattle.ug_kernel.specs.declared.control.Write.{Write}
use Rattle.ug_types.specs.declared.rule.Rule as types
use Rattle.ug_acl.specs.Acls.{Addition, addition}
use Rattle.ug_acl.specs.Pairs.{all_pairs}
use Rattle.ug_iface.specs.declared.rules.IfaceRule as iface
use Rattle.ug_cond.specs.Clocks.{clock_ahead}
use Rattle.ug_conf.specs.Faults.{SettingFault}
use Rattle.ug_conf.specs.Settings.{defaults}
use Rattle.ug_conf.specs.Draft.{Draft, draft_of, setting_line_read}
use Rattle.ug_conf.specs.Reader.{Progress, next_number}
use Rattle.ug_conf.specs.Texts.{setting_line}
use Rattle.ug_conf.specs.declared.folder_file.FolderFile.{FolderFile}
use Rattle.ug_policy.specs.Marks.{is_folder}
use Rattle.ug_lines.specs.LineReading.{lines_read}
use Rattle.ug_uevent.specs.Streams.{nothing_begun}
use Rattle.ug_core.specs.Starting.{Marked, entries_from, start_rules}
use Rattle.ug_core.specs.Settings.{classes_of, hub_default}
use Rattle.ug_core.specs.Policy.{Judging}
use Rattle.ug_core.specs.Event.{DaemonState}
use Rattle.ug_print.specs.RuleTexts.{rules_text_of}
use Rattle.ug_rule.specs.Files.{file_read}
use Rattle.ug_types.specs.declared.text_fault.TextFault.{TextFault}
use Rattle.ug_command_io.specs.Fold.{LineRefusal, BadLine, InputTooLong}
use Rattle.ug_store.specs.DiskCalls.{Load}
use Rattle.ug_store.specs.Scripted.{DiskWorld, past_within, world_at_first}
use Rattle.ug_steps.specs.declared.step.SetupLine.{SetupLine}
use Rattle.ug_steps.specs.declared.step.AccessLine.{AccessLine}
use Rattle.ug_steps.specs.declared.step.FolderLine.{FolderLine}
use Rattle.ug_steps.specs.declared.step.SetupLine.TheVariants.{Rule, Folder, Conf, Access, Seed, Zone, IfaceRule}
use Rattle.ug_steps.specs.declared.step.Step.{Step}
use Rattle.ug_steps.specs.declared.step.Step.TheVariants.{Setup}
use Rattle.ug_steps.specs.declared.step.StepFault.{StepFault}
use Rattle.ug_steps.specs.declared.step.StepFault.TheVariants.{Bad, Memory}
use Rattle.ug_script.specs.FolderLines.{AreFilesOf, ScriptFolder, no_folder, rules_in_folder, with_line}
use Rattle.ug_steps.specs.Grammar.{step_of_line}
use Rattle.ug_steps.specs.Words.{is_entry}

-- the files of the folder of rules, the rules in order, the settings so far, what was granted in
-- order, the seed and the zone, where they were given, and the rules of interfaces in order
pub record SetupState : Type 0 where
  pub folder : ScriptFolder
  pub rules : List types.Rule
  pub settings : Progress
  pub access : List AccessLine
  pub seed : Option (List ℕ)
  pub zone : Option ℤ
  pub ifaces : List iface.IfaceRule

abbrev pub no_setup : SetupState
no_setup =
    record {
      folder = no_folder;
      rules = [];
      settings = record { draft = draft_of defaults []; lines = 0 };
      access = [];
      seed =
          None;
      zone = None;
      ifaces = [];
    }

-- less than a day
abbrev pub is_offset : ℤ → Bool
is_offset offset = int_le (neg_ℤ (pos 86399)) offset && int_le offset (pos 86399)

-- ---- one line more, None where it may not stand there

-- there are at most 65,536 rules, in the folder and outside
abbrev pub has_rule_room : SetupState → Bool
has_rule_room s = nat_lt (s.folder.count + length s.rules) 65536

abbrev pub one_rule_more : types.Rule → SetupState → Option SetupState
one_rule_more rule s =
    if has_rule_room s then Some (record s { rules = s.rules ++ rule ∷ [] }) else None

abbrev pub one_folder_line_more : FolderLine → SetupState → Option SetupState
one_folder_line_more line s =
    if has_rule_room s then Some (record s { folder = with_line line s.folder }) else None

abbrev pub with_draft : Result Draft SettingFault → SetupState → Option SetupState
with_draft (Ok draft) s =
    Some (record s { settings = record { draft = draft; lines = next_number s.settings.lines } })
with_draft (Err fault) s = None

abbrev pub one_setting_more : List ℕ → SetupState → Option SetupState
one_setting_more text s =
    if is_entry text
    then with_draft (setting_line_read (next_number s.settings.lines) s.settings.draft text) s else
    None

abbrev pub one_line_more : SetupLine → SetupState → Option SetupState
one_line_more (Rule rule) s = one_rule_more rule s
one_line_more (Folder line) s = one_folder_line_more line s
one_line_more (Conf text) s = one_setting_more text s
one_line_more (Access line) s = Some (record s { access = s.access ++ line ∷ [] })
one_line_more (Seed seed) s = if is_none s.seed then Some (record s { seed = Some seed }) else None
one_line_more (Zone offset) s =
    if is_none s.zone && is_offset offset then Some (record s { zone = Some offset }) else None
one_line_more (IfaceRule rule) s = Some (record s { ifaces = s.ifaces ++ rule ∷ [] })

-- what a line leaves; a line that may not stand there changes nothing
abbrev pub Adds : Option SetupState → Result (Unit {0}) StepFault → SetupState → SetupState → Type 0
Adds wanted (Ok done) before after = wanted ≡ Some after
Adds wanted (Err Bad) before after = (wanted ≡ None) × (after ≡ before)
Adds wanted (Err Memory) before after = Unit {0}

-- ---- the policy

-- the words of ChaCha20 from that seed of 32 bytes
abbrev pub seeded : List ℕ → Stream
seeded seed = stream_of (steps_u32 (next_word 10)) (of_seed seed)

-- without a seed, 32 bytes 0
abbrev pub no_seed : List ℕ
no_seed = replicate 32 0

abbrev pub given_or : {X : Type 0} → X → Option X → X
given_or other None = other
given_or other (Some x) = x

-- the rules of the folder, and behind them those of the rule file
abbrev pub setup_rules : SetupState → List Marked
setup_rules s = start_rules (rules_in_folder s.folder.files) s.rules

-- The rules have ids from 1 and no history, the clock is that of the zone or of UTC, and the words
-- are those of the seed. No moment has come.
abbrev pub policy_of : SetupState → Judging
policy_of s = record {
  classes = classes_of s.settings.draft.settings;
  rules = entries_from 1 (setup_rules s);
  next = length (setup_rules s) + 1;
  clock = clock_ahead (given_or (pos 0) s.zone);
  ctx = record { moment = record { 0 = 0 }; second = 0 };
  stream = seeded (given_or no_seed s.seed);
}

-- the rules of the folder that a policy has
abbrev pub folder_of : Judging → List types.Rule
folder_of p = map (λ e. e.rule) (filter (λ e. is_folder e.mark) p.rules)

-- the same with other rules behind those of the folder
abbrev pub with_rules : List types.Rule → Judging → Judging
with_rules rules p =
    record p {
      rules = entries_from 1 (start_rules (folder_of p) rules);
      next = length (start_rules (folder_of p) rules) + 1;
    }

-- the user or the group may do everything
abbrev pub everything : Named → Addition
everything who = addition who all_pairs

abbrev pub granted : AccessLine → Addition
granted line = addition line.who line.grants

-- The users and the groups of IPCAllowedUsers and IPCAllowedGroups may do everything, and each line
-- of access adds what it grants.
abbrev pub access_of : SetupState → List Addition
access_of s = map everything s.settings.draft.settings.users ++ map granted s.access

-- what a daemon is started with beside its policy: who may do what, and what is written to the
-- default of each root hub
pub record Beside : Type 0 where
  pub access : List Addition
  pub hub : Option Write

abbrev pub beside_of : SetupState → Beside
beside_of s = record { access = access_of s; hub = hub_default s.settings.draft.settings.default }

-- a disk behind a reading of its rule file: the moment within that call is past
abbrev pub after_reading : DiskWorld → DiskWorld
after_reading o = record o { disk = past_within Load o.disk }

-- the disk whose rule file holds the canonical text of the rules, behind the reading of it
abbrev pub rules_disk : SetupState → DiskWorld
rules_disk s = after_reading (world_at_first (rules_text_of s.rules))

-- the daemon that judges by a policy, before its first event, which has that number. Users and
-- groups may do what was added, and no save is pending.
abbrev pub started_at : ℕ → Beside → Judging → DaemonState
started_at number beside policy =
    record {
      sweep = record {
        standings = [];
        next = 1;
        listed = false;
        judge = policy;
        hub = beside.hub;
        entries = [];
      };
      access = beside.access;
      pending = false;
      stream = record { messages = []; begun = nothing_begun };
      due = None;
      event = number;
      reply = None;
      watch = false;
    }

-- the first one of a script, whose events are numbered from 1
abbrev pub first_started : SetupState → DaemonState
first_started s = started_at 1 (beside_of s) (policy_of s)

-- ---- the rules that a daemon starts with

-- no more than 65,536 with so many before them, and a canonical text for which a rule file has room
abbrev pub rules_taken : ℕ → List types.Rule → Result (List types.Rule) LineRefusal
rules_taken before rules =
    if nat_le (before + length rules) 65536 && nat_le (length (rules_text_of rules)) text_limit
    then Ok rules else Err InputTooLong

abbrev pub rules_if_read : ℕ → Result (List types.Rule) TextFault
    → Result (List types.Rule) LineRefusal
rules_if_read before (Ok rules) = rules_taken before rules
rules_if_read before (Err bad) = Err BadLine

-- those of the text of a rule file behind so many of the folder, or why no daemon starts with it
abbrev pub rules_from : ℕ → List ℕ → Result (List types.Rule) LineRefusal
rules_from before text =
    if nat_le (length text) text_limit then rules_if_read before (file_read text)
    else Err InputTooLong

-- a daemon that starts over that disk, whose first event has that number
pub record StartsOn (s : SetupState) (number : ℕ) (o : DiskWorld) (d : DaemonState) : Type 0 where
  pub rules : List types.Rule
  pub loaded : rules_from s.folder.count o.disk.text ≡ Ok rules
  pub is : d ≡ started_at number (beside_of s) (with_rules rules (policy_of s))

-- ---- what lines ask for

-- what each line behind the header asks for
abbrev pub steps_of : List (List ℕ) → List (Option Step)
steps_of lines = map step_of_line (drop 1 lines)

-- the rules, the lines of the folder, of settings and of access, the seeds and the zones among
-- them, in order

abbrev pub setup_rule : Option Step → List types.Rule
setup_rule (Some (Setup (Rule rule))) = rule ∷ []
setup_rule step = []

abbrev pub folder_asked : Option Step → List FolderLine
folder_asked (Some (Setup (Folder line))) = line ∷ []
folder_asked step = []

abbrev pub conf_asked : Option Step → List (List ℕ)
conf_asked (Some (Setup (Conf text))) = text ∷ []
conf_asked step = []

abbrev pub access_asked : Option Step → List AccessLine
access_asked (Some (Setup (Access line))) = line ∷ []
access_asked step = []

abbrev pub seed_asked : Option Step → List (List ℕ)
seed_asked (Some (Setup (Seed seed))) = seed ∷ []
seed_asked step = []

abbrev pub zone_asked : Option Step → List ℤ
zone_asked (Some (Setup (Zone offset))) = offset ∷ []
zone_asked step = []

-- and the rules of interfaces
abbrev pub iface_asked : Option Step → List iface.IfaceRule
iface_asked (Some (Setup (IfaceRule rule))) = rule ∷ []
iface_asked step = []

abbrev pub first_or : {X : Type 0} → X → List X → X
first_or other [] = other
first_or other (x ∷ xs) = x

-- The rules are those of the folder's files and behind them those of the `rule` lines in order,
-- with ids from 1 and no history. The files are in byte order of their names, and each has the
-- `folder` lines of its name, in their order. The settings are those that the lines of the `conf`
-- lines give, read as the lines of one text; the clock is that of the `zone` line, or that of UTC;
-- and the words are those of the `seed` line's seed, or of 32 bytes 0. No moment has come. The
-- users and the groups of the settings may do everything, and each `access` line adds what it
-- grants.
pub record IsSetup (steps : List (Option Step)) (beside : Beside) (policy : Judging) : Type 0 where
  pub draft : Draft
  pub settings : lines_read setting_line 1 (draft_of defaults []) (flat_map conf_asked steps)
      ≡ Ok draft
  pub classes : policy.classes ≡ classes_of draft.settings
  pub files : List FolderFile
  pub folder : AreFilesOf (flat_map folder_asked steps) files
  pub rules : policy.rules
      ≡ entries_from 1 (start_rules (rules_in_folder files) (flat_map setup_rule steps))
  pub next : policy.next
      ≡ length (start_rules (rules_in_folder files) (flat_map setup_rule steps)) + 1
  pub clock : policy.clock ≡ clock_ahead (first_or (pos 0) (flat_map zone_asked steps))
  pub ctx : policy.ctx ≡ record { moment = record { 0 = 0 }; second = 0 }
  pub hub : beside.hub ≡ hub_default draft.settings.default
  pub allowed : beside.access
      ≡ map everything draft.settings.users ++ map granted (flat_map access_asked steps)
  pub words : policy.stream ≡ seeded (first_or no_seed (flat_map seed_asked steps))
