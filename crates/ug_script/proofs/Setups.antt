-- What setup lines give, a line at a time.
use Rattle.std.proofs.Common.{◌≡◌, ℕ, ◌+◌, ◌<◌, ◌≤◌, ℤ, pos, Bool, true, false, is_none, ◌&&◌, if◌then◌else◌, List, [], ◌∷◌, ◌++◌, filter, length, map, flat_map, Option, Some, None, Result, Ok, Err, inl, inr, refl, sym, ◌∙◌, ap, subst, arith, append_assoc, append-nil, length-append}
use Rattle.std.proofs.lemmas.Bool.Decides.{nat_tests}
use Rattle.ug_types.specs.Elements.{Has, AllDistinct}
use Rattle.ug_types.specs.declared.rule.Rule as types
use Rattle.ug_cond.specs.Judgements.{IsHistory}
use Rattle.ug_cond.specs.Words.{behind}
use Rattle.rand_core.specs.Stream.{Stream}
use Rattle.ug_policy.specs.declared.entry.RuleEntry.{RuleEntry}
use Rattle.ug_policy.specs.Edits.{new_entry}
use Rattle.ug_policy.specs.declared.entry.Mark.TheVariants as mark
use Rattle.ug_policy.specs.Marks.{FolderFirst, has_folder, is_folder}
use Rattle.ug_policy.specs.Rules.{ids, marks}
use Rattle.ug_conf.specs.Draft.{Draft, draft_of, setting_line_read}
use Rattle.ug_conf.specs.Faults.{SettingFault, setting_fault_number}
use Rattle.ug_conf.specs.Reader.{next_number}
use Rattle.ug_conf.specs.Settings.{defaults}
use Rattle.ug_conf.specs.Texts.{setting_line}
use Rattle.ug_lines.specs.LineReading.{lines_read, on_line, then_on}
use Rattle.ug_core.specs.Starting.{Marked, entries_from, marked_rules, start_rules}
use Rattle.ug_core.proofs.Numbering.{entries_length, start_length}
use Rattle.ug_core.specs.Policy.{Judging}
use Rattle.ug_ruleset.specs.RuleFile.{as_given}
use Rattle.ug_core.specs.Verdicts.{IsLater}
use Rattle.ug_iface.specs.declared.rules.IfaceRule as iface
use Rattle.ug_steps.specs.declared.step.AccessLine.{AccessLine}
use Rattle.ug_steps.specs.declared.step.FolderLine.{FolderLine}
use Rattle.ug_steps.specs.declared.step.SetupLine.{SetupLine}
use Rattle.ug_steps.specs.declared.step.SetupLine.TheVariants.{Rule, Folder, Conf, Access, Seed, Zone, IfaceRule}
use Rattle.ug_steps.specs.declared.step.Step.{Step}
use Rattle.ug_steps.specs.declared.step.Step.TheVariants.{Setup}
use Rattle.ug_script.specs.FolderLines.{AreFilesOf, HasLines, rules_in_folder, with_line, with_line_in}
use Rattle.ug_steps.specs.Grammar.{AsksForRule, HoldsRule}
use Rattle.ug_cond.specs.Clocks.{clock_ahead}
use Rattle.ug_script.specs.Setup.{SetupState, no_setup, folder_asked, folder_of, has_rule_room, is_offset, with_draft, one_line_more, everything, granted, beside_of, seeded, no_seed, given_or, policy_of, setup_rule, conf_asked, access_asked, seed_asked, zone_asked, iface_asked, first_or, with_rules, IsSetup}
use Rattle.ug_steps.specs.Words.{is_entry}
use Rattle.ug_script.proofs.Folders.{files_more, lines_more, no_files, no_lines}

pub flat_more : {X : Type 0} (f : Option Step → List X) (steps : List (Option Step)) (step : Option Step) → flat_map f (steps ++ step ∷ []) ≡ flat_map f steps ++ f step
flat_more f [] step = append-nil (f step)
flat_more {X} f (x ∷ steps) step = ap (λ (l : List X). f x ++ l) (flat_more f steps step) ∙ sym (append_assoc (f x) (flat_map f steps) (f step))

-- a step that gives none
pub flat_none : {X : Type 0} (f : Option Step → List X) (steps : List (Option Step)) (step : Option Step) → f step ≡ [] → flat_map f (steps ++ step ∷ []) ≡ flat_map f steps
flat_none {X} f steps step none = flat_more f steps step ∙ ap (λ (l : List X). flat_map f steps ++ l) none ∙ append-nil (flat_map f steps)

-- one line of settings more
settings_by : (number : ℕ) (lines : List (List ℕ)) (line : List ℕ) (mid last : Draft) (r : Result Draft SettingFault) → then_on (on_line setting_fault_number number r) (λ (more : Draft). lines_read setting_line (number + 1) more lines) ≡ Ok mid
    → ((more : Draft) → lines_read setting_line (number + 1) more lines ≡ Ok mid → lines_read setting_line (number + 1) more (lines ++ line ∷ []) ≡ Ok last) → then_on (on_line setting_fault_number number r) (λ (more : Draft). lines_read setting_line (number + 1) more (lines ++ line ∷ [])) ≡ Ok last
settings_by number lines line mid last (Ok more) h again = again more h
settings_by number lines line mid last (Err fault) h again = let none : ⊥ = cc in absurd none

settings_more : (number : ℕ) (draft : Draft) (lines : List (List ℕ)) (line : List ℕ) (mid last : Draft) → lines_read setting_line number draft lines ≡ Ok mid → setting_line_read (number + length lines) mid line ≡ Ok last → lines_read setting_line number draft (lines ++ line ∷ []) ≡ Ok last
unfolding lines_read
settings_more number draft [] line mid last h g =
    let same : draft ≡ mid = cc in
    let none : number + 0 ≡ number = omega arith in
    let read : setting_line_read number draft line ≡ Ok last = subst (λ (n : ℕ). setting_line_read n draft line ≡ Ok last) none (subst (λ (d : Draft). setting_line_read (number + 0) d line ≡ Ok last) (sym same) g) in
    ap (λ (r : Result Draft SettingFault). then_on (on_line setting_fault_number number r) (λ (more : Draft). lines_read setting_line (number + 1) more [])) read
settings_more number draft (x ∷ lines) line mid last h g = settings_by number lines line mid last (setting_line_read number draft x) h (λ more k. settings_more (number + 1) more lines line mid last k (let next : number + length (x ∷ lines) ≡ (number + 1) + length lines = omega arith in subst (λ (n : ℕ). setting_line_read n mid line ≡ Ok last) next g))

-- ---- what lines gave is what they ask for

abbrev pub alone : {X : Type 0} → Option X → List X
alone None = []
alone (Some x) = x ∷ []

-- after no more than so many lines
pub record IsGiven (n : ℕ) (done : List (Option Step)) (s : SetupState) : Type 0 where
  pub files : AreFilesOf (flat_map folder_asked done) s.folder.files
  pub held : HasLines s.folder.files s.folder.count
  pub rules : s.rules ≡ flat_map setup_rule done
  pub few_rules : s.folder.count + length s.rules ≤ n
  pub listed : s.folder.count + length s.rules ≤ 65536
  pub read : lines_read setting_line 1 (draft_of defaults []) (flat_map conf_asked done) ≡ Ok s.settings.draft
  pub lines : s.settings.lines ≡ length (flat_map conf_asked done)
  pub few : s.settings.lines ≤ n
  pub granted : s.access ≡ flat_map access_asked done
  pub seeds : flat_map seed_asked done ≡ alone s.seed
  pub zones : flat_map zone_asked done ≡ alone s.zone
  pub ifaces : s.ifaces ≡ flat_map iface_asked done

pub given_first : IsGiven 1 [] no_setup
unfolding lines_read
given_first = record { files = no_files; held = no_lines; rules = refl; few_rules = omega arith; listed = omega arith; read = refl; lines = refl; few = omega arith; granted = refl; seeds = refl; zones = refl; ifaces = refl }

-- a step that isn't of the folder
files_still : (done : List (Option Step)) (step : Option Step) (s : SetupState) → folder_asked step ≡ [] → AreFilesOf (flat_map folder_asked done) s.folder.files → AreFilesOf (flat_map folder_asked (done ++ step ∷ [])) s.folder.files
files_still done step s none h = subst (λ (lines : List FolderLine). AreFilesOf lines s.folder.files) (sym (flat_none folder_asked done step none)) h

-- a step that isn't one of setup
pub given_still : (n : ℕ) (done : List (Option Step)) (step : Option Step) (s : SetupState) → setup_rule step ≡ [] → folder_asked step ≡ [] → conf_asked step ≡ [] → access_asked step ≡ [] → seed_asked step ≡ [] → zone_asked step ≡ [] → iface_asked step ≡ [] → IsGiven n done s → IsGiven (n + 1) (done ++ step ∷ []) s
given_still n done step s rule folder conf access seed zone none h =
    let few_rules : s.folder.count + length s.rules ≤ n = h.few_rules in
    let few : s.settings.lines ≤ n = h.few in
    record {
      files = files_still done step s folder h.files;
      held = h.held;
      rules = h.rules ∙ sym (flat_none setup_rule done step rule);
      few_rules = omega (arith, few_rules);
      listed = h.listed;
      read = ap (λ (l : List (List ℕ)). lines_read setting_line 1 (draft_of defaults []) l) (flat_none conf_asked done step conf) ∙ h.read;
      lines = h.lines ∙ ap (λ (l : List (List ℕ)). length l) (sym (flat_none conf_asked done step conf));
      few = omega (arith, few);
      granted = h.granted ∙ sym (flat_none access_asked done step access);
      seeds = flat_none seed_asked done step seed ∙ h.seeds;
      zones = flat_none zone_asked done step zone ∙ h.zones;
      ifaces = h.ifaces ∙ sym (flat_none iface_asked done step none);
    }

-- of what a line gives, where it may stand there
abbrev pub InSetup : (SetupState → Type 0) → Option SetupState → Type 0
InSetup P None = Unit {0}
InSetup P (Some s) = P s

in_when : (P : SetupState → Type 0) (b : Bool) (o : Option SetupState) → (b ≡ true → InSetup P o) → InSetup P (if b then o else None)
in_when P true o h = h refl
in_when P false o h = tt

none_alone : {X : Type 0} (o : Option X) → is_none o ≡ true → alone o ≡ []
none_alone None e = refl
none_alone (Some x) e = let none : ⊥ = cc in absurd none

both : (a b : Bool) → (a && b) ≡ true → a ≡ true
both true b e = refl
both false b e = let none : ⊥ = cc in absurd none

abbrev AfterLine : ℕ → List (Option Step) → SetupLine → SetupState → Type 0
AfterLine n done line s = IsGiven (n + 1) (done ++ Some (Setup line) ∷ []) s

room_of : (s : SetupState) → has_rule_room s ≡ true → s.folder.count + length s.rules < 65536
room_of s b = grind (arith, nat_tests, b)

given_rule : (n : ℕ) (done : List (Option Step)) (rule : types.Rule) (s : SetupState) → has_rule_room s ≡ true → IsGiven n done s → AfterLine n done (Rule rule) (record s { rules = s.rules ++ rule ∷ [] })
given_rule n done rule s b h =
    let step : Option Step = Some (Setup (Rule rule)) in
    let few_rules : s.folder.count + length s.rules ≤ n = h.few_rules in
    let few : s.settings.lines ≤ n = h.few in
    let room : s.folder.count + length s.rules < 65536 = room_of s b in
    let more : length (s.rules ++ rule ∷ []) ≡ length s.rules + 1 = length-append s.rules (rule ∷ []) in
    record {
      files = files_still done step s refl h.files;
      held = h.held;
      rules = ap (λ (l : List types.Rule). l ++ rule ∷ []) h.rules ∙ sym (flat_more setup_rule done step);
      few_rules = omega (arith, few_rules, more);
      listed = omega (arith, room, more);
      read = ap (λ (l : List (List ℕ)). lines_read setting_line 1 (draft_of defaults []) l) (flat_none conf_asked done step refl) ∙ h.read;
      lines = h.lines ∙ ap (λ (l : List (List ℕ)). length l) (sym (flat_none conf_asked done step refl));
      few = omega (arith, few);
      granted = h.granted ∙ sym (flat_none access_asked done step refl);
      seeds = flat_none seed_asked done step refl ∙ h.seeds;
      zones = flat_none zone_asked done step refl ∙ h.zones;
      ifaces = h.ifaces ∙ sym (flat_none iface_asked done step refl);
    }

given_folder : (n : ℕ) (done : List (Option Step)) (line : FolderLine) (s : SetupState) → HoldsRule line.text → has_rule_room s ≡ true → IsGiven n done s → AfterLine n done (Folder line) (record s { folder = with_line line s.folder })
given_folder n done line s rule b h =
    let step : Option Step = Some (Setup (Folder line)) in
    let few_rules : s.folder.count + length s.rules ≤ n = h.few_rules in
    let few : s.settings.lines ≤ n = h.few in
    let room : s.folder.count + length s.rules < 65536 = room_of s b in
    record {
      files = subst (λ (lines : List FolderLine). AreFilesOf lines (with_line_in line s.folder.files)) (sym (flat_more folder_asked done step)) (files_more line (flat_map folder_asked done) s.folder.files h.files);
      held = lines_more line rule s.folder.files s.folder.count h.held (omega (arith, room));
      rules = h.rules ∙ sym (flat_none setup_rule done step refl);
      few_rules = omega (arith, few_rules);
      listed = omega (arith, room);
      read = ap (λ (l : List (List ℕ)). lines_read setting_line 1 (draft_of defaults []) l) (flat_none conf_asked done step refl) ∙ h.read;
      lines = h.lines ∙ ap (λ (l : List (List ℕ)). length l) (sym (flat_none conf_asked done step refl));
      few = omega (arith, few);
      granted = h.granted ∙ sym (flat_none access_asked done step refl);
      seeds = flat_none seed_asked done step refl ∙ h.seeds;
      zones = flat_none zone_asked done step refl ∙ h.zones;
      ifaces = h.ifaces ∙ sym (flat_none iface_asked done step refl);
    }

-- the line of settings has the number that is next
given_conf : (n : ℕ) (done : List (Option Step)) (text : List ℕ) (s : SetupState) (r : Result Draft SettingFault) → n < 1048576 → setting_line_read (next_number s.settings.lines) s.settings.draft text ≡ r → IsGiven n done s → InSetup (AfterLine n done (Conf text)) (with_draft r s)
given_conf n done text s (Err fault) lt is h = tt
given_conf n done text s (Ok draft) lt is h =
    let step : Option Step = Some (Setup (Conf text)) in
    let asked : List (List ℕ) = flat_map conf_asked done in
    let few_rules : s.folder.count + length s.rules ≤ n = h.few_rules in
    let few : s.settings.lines ≤ n = h.few in
    let lines : s.settings.lines ≡ length asked = h.lines in
    let all : flat_map conf_asked (done ++ step ∷ []) ≡ asked ++ text ∷ [] = flat_more conf_asked done step in
    let number : next_number s.settings.lines ≡ 1 + length asked = omega (arith, few, lt, lines) in
    let longer : length (asked ++ text ∷ []) ≡ length asked + 1 = length-append asked (text ∷ []) in
    let count : next_number s.settings.lines ≡ length (asked ++ text ∷ []) = omega (arith, number, longer) in
    record {
      files = files_still done step s refl h.files;
      held = h.held;
      rules = h.rules ∙ sym (flat_none setup_rule done step refl);
      few_rules = omega (arith, few_rules);
      listed = h.listed;
      read = ap (λ (l : List (List ℕ)). lines_read setting_line 1 (draft_of defaults []) l) all ∙ settings_more 1 (draft_of defaults []) asked text s.settings.draft draft h.read (subst (λ (m : ℕ). setting_line_read m s.settings.draft text ≡ Ok draft) number is);
      lines = count ∙ ap (λ (l : List (List ℕ)). length l) (sym all);
      few = omega (arith, few, lt);
      granted = h.granted ∙ sym (flat_none access_asked done step refl);
      seeds = flat_none seed_asked done step refl ∙ h.seeds;
      zones = flat_none zone_asked done step refl ∙ h.zones;
      ifaces = h.ifaces ∙ sym (flat_none iface_asked done step refl);
    }

given_access : (n : ℕ) (done : List (Option Step)) (line : AccessLine) (s : SetupState) → IsGiven n done s → AfterLine n done (Access line) (record s { access = s.access ++ line ∷ [] })
given_access n done line s h =
    let step : Option Step = Some (Setup (Access line)) in
    let few_rules : s.folder.count + length s.rules ≤ n = h.few_rules in
    let few : s.settings.lines ≤ n = h.few in
    record {
      files = files_still done step s refl h.files;
      held = h.held;
      rules = h.rules ∙ sym (flat_none setup_rule done step refl);
      few_rules = omega (arith, few_rules);
      listed = h.listed;
      read = ap (λ (l : List (List ℕ)). lines_read setting_line 1 (draft_of defaults []) l) (flat_none conf_asked done step refl) ∙ h.read;
      lines = h.lines ∙ ap (λ (l : List (List ℕ)). length l) (sym (flat_none conf_asked done step refl));
      few = omega (arith, few);
      granted = ap (λ (l : List AccessLine). l ++ line ∷ []) h.granted ∙ sym (flat_more access_asked done step);
      seeds = flat_none seed_asked done step refl ∙ h.seeds;
      zones = flat_none zone_asked done step refl ∙ h.zones;
      ifaces = h.ifaces ∙ sym (flat_none iface_asked done step refl);
    }

given_seed : (n : ℕ) (done : List (Option Step)) (seed : List ℕ) (s : SetupState) → is_none s.seed ≡ true → IsGiven n done s → AfterLine n done (Seed seed) (record s { seed = Some seed })
given_seed n done seed s b h =
    let step : Option Step = Some (Setup (Seed seed)) in
    let few_rules : s.folder.count + length s.rules ≤ n = h.few_rules in
    let few : s.settings.lines ≤ n = h.few in
    record {
      files = files_still done step s refl h.files;
      held = h.held;
      rules = h.rules ∙ sym (flat_none setup_rule done step refl);
      few_rules = omega (arith, few_rules);
      listed = h.listed;
      read = ap (λ (l : List (List ℕ)). lines_read setting_line 1 (draft_of defaults []) l) (flat_none conf_asked done step refl) ∙ h.read;
      lines = h.lines ∙ ap (λ (l : List (List ℕ)). length l) (sym (flat_none conf_asked done step refl));
      few = omega (arith, few);
      granted = h.granted ∙ sym (flat_none access_asked done step refl);
      seeds = flat_more seed_asked done step ∙ ap (λ (l : List (List ℕ)). l ++ seed ∷ []) (h.seeds ∙ none_alone s.seed b);
      zones = flat_none zone_asked done step refl ∙ h.zones;
      ifaces = h.ifaces ∙ sym (flat_none iface_asked done step refl);
    }

given_zone : (n : ℕ) (done : List (Option Step)) (offset : ℤ) (s : SetupState) → is_none s.zone ≡ true → IsGiven n done s → AfterLine n done (Zone offset) (record s { zone = Some offset })
given_zone n done offset s b h =
    let step : Option Step = Some (Setup (Zone offset)) in
    let few_rules : s.folder.count + length s.rules ≤ n = h.few_rules in
    let few : s.settings.lines ≤ n = h.few in
    record {
      files = files_still done step s refl h.files;
      held = h.held;
      rules = h.rules ∙ sym (flat_none setup_rule done step refl);
      few_rules = omega (arith, few_rules);
      listed = h.listed;
      read = ap (λ (l : List (List ℕ)). lines_read setting_line 1 (draft_of defaults []) l) (flat_none conf_asked done step refl) ∙ h.read;
      lines = h.lines ∙ ap (λ (l : List (List ℕ)). length l) (sym (flat_none conf_asked done step refl));
      few = omega (arith, few);
      granted = h.granted ∙ sym (flat_none access_asked done step refl);
      seeds = flat_none seed_asked done step refl ∙ h.seeds;
      zones = flat_more zone_asked done step ∙ ap (λ (l : List ℤ). l ++ offset ∷ []) (h.zones ∙ none_alone s.zone b);
      ifaces = h.ifaces ∙ sym (flat_none iface_asked done step refl);
    }

given_iface : (n : ℕ) (done : List (Option Step)) (rule : iface.IfaceRule) (s : SetupState) → IsGiven n done s → AfterLine n done (IfaceRule rule) (record s { ifaces = s.ifaces ++ rule ∷ [] })
given_iface n done rule s h =
    let step : Option Step = Some (Setup (IfaceRule rule)) in
    let few_rules : s.folder.count + length s.rules ≤ n = h.few_rules in
    let few : s.settings.lines ≤ n = h.few in
    record {
      files = files_still done step s refl h.files;
      held = h.held;
      rules = h.rules ∙ sym (flat_none setup_rule done step refl);
      few_rules = omega (arith, few_rules);
      listed = h.listed;
      read = ap (λ (l : List (List ℕ)). lines_read setting_line 1 (draft_of defaults []) l) (flat_none conf_asked done step refl) ∙ h.read;
      lines = h.lines ∙ ap (λ (l : List (List ℕ)). length l) (sym (flat_none conf_asked done step refl));
      few = omega (arith, few);
      granted = h.granted ∙ sym (flat_none access_asked done step refl);
      seeds = flat_none seed_asked done step refl ∙ h.seeds;
      zones = flat_none zone_asked done step refl ∙ h.zones;
      ifaces = ap (λ (l : List iface.IfaceRule). l ++ rule ∷ []) h.ifaces ∙ sym (flat_more iface_asked done step);
    }

-- a line of setup
pub given_added : (n : ℕ) (done : List (Option Step)) (line : SetupLine) (s : SetupState) → n < 1048576 → AsksForRule line → IsGiven n done s → InSetup (AfterLine n done line) (one_line_more line s)
given_added n done (Rule rule) s lt asks h = in_when (AfterLine n done (Rule rule)) (has_rule_room s) (Some (record s { rules = s.rules ++ rule ∷ [] })) (λ b. given_rule n done rule s b h)
given_added n done (Folder line) s lt asks h = in_when (AfterLine n done (Folder line)) (has_rule_room s) (Some (record s { folder = with_line line s.folder })) (λ b. given_folder n done line s asks b h)
given_added n done (Conf text) s lt asks h = in_when (AfterLine n done (Conf text)) (is_entry text) (with_draft (setting_line_read (next_number s.settings.lines) s.settings.draft text) s) (λ b. given_conf n done text s (setting_line_read (next_number s.settings.lines) s.settings.draft text) lt refl h)
given_added n done (Access line) s lt asks h = given_access n done line s h
given_added n done (Seed seed) s lt asks h = in_when (AfterLine n done (Seed seed)) (is_none s.seed) (Some (record s { seed = Some seed })) (λ b. given_seed n done seed s b h)
given_added n done (Zone offset) s lt asks h = in_when (AfterLine n done (Zone offset)) (is_none s.zone && is_offset offset) (Some (record s { zone = Some offset })) (λ b. given_zone n done offset s (both (is_none s.zone) (is_offset offset) b) h)
given_added n done (IfaceRule rule) s lt asks h = given_iface n done rule s h

first_alone : {X : Type 0} (other : X) (o : Option X) → given_or other o ≡ first_or other (alone o)
first_alone other None = refl
first_alone other (Some x) = refl

pub given_setup : (n : ℕ) (done : List (Option Step)) (s : SetupState) → IsGiven n done s → IsSetup done (beside_of s) (policy_of s)
given_setup n done s h = record {
  draft = s.settings.draft;
  settings = h.read;
  classes = refl;
  files = s.folder.files;
  folder = h.files;
  rules = ap (λ (l : List types.Rule). entries_from 1 (start_rules (rules_in_folder s.folder.files) l)) h.rules;
  next = ap (λ (l : List types.Rule). length (start_rules (rules_in_folder s.folder.files) l) + 1) h.rules;
  clock = ap (λ (z : ℤ). clock_ahead z) (first_alone (pos 0) s.zone ∙ ap (λ (l : List ℤ). first_or (pos 0) l) (sym h.zones));
  ctx = refl;
  hub = refl;
  allowed = ap (λ (l : List AccessLine). map everything s.settings.draft.settings.users ++ map granted l) h.granted;
  words = ap (λ (z : List ℕ). seeded z) (first_alone no_seed s.seed ∙ ap (λ (l : List (List ℕ)). first_or no_seed l) (sym h.seeds));
}

-- ---- the policy has given no verdict yet

abbrev pub IsNew : Judging → Type 0
IsNew p = IsLater p 0 [] p

entries_given : (id : ℕ) (rules : List Marked) → as_given (entries_from id rules) ≡ entries_from id rules
entries_given id [] = refl
entries_given id (m ∷ rules) = ap (λ (l : List RuleEntry). new_entry id m.rule m.mark ∷ l) (entries_given (id + 1) rules)

ids_from : (id x : ℕ) (rules : List Marked) → Has (ids (entries_from id rules)) x → (id ≤ x) × (x < id + length rules)
ids_from id x [] h = absurd h
ids_from id x (m ∷ rules) (inl same) = let is : id ≡ x = same in (omega (arith, is), omega (arith, is))
ids_from id x (m ∷ rules) (inr h) =
    let k = ids_from (id + 1) x rules h in
    let low : id + 1 ≤ x = k.0 in
    let high : x < (id + 1) + length rules = k.1 in
    (omega (arith, low), omega (arith, high))

ids_differ : (id : ℕ) (rules : List Marked) → AllDistinct (ids (entries_from id rules))
ids_differ id [] = tt
ids_differ id (m ∷ rules) = (λ h. let low : id + 1 ≤ id = (ids_from (id + 1) id rules h).0 in let none : ⊥ = omega (arith, low) in none, ids_differ (id + 1) rules)

histories_new : (id : ℕ) (rules : List Marked) (e : RuleEntry) → Has (entries_from id rules) e → IsHistory [] e.id e.history
histories_new id [] e h = absurd h
histories_new id (m ∷ rules) e (inl same) = subst (λ (v : RuleEntry). IsHistory [] v.id v.history) same (λ t w. absurd w.1, λ t w. absurd w.1)
histories_new id (m ∷ rules) e (inr h) = histories_new (id + 1) rules e h

-- those of the folder stand before

no_folder_mark : (id : ℕ) (rules : List types.Rule) → has_folder (marks (entries_from id (marked_rules mark.File rules))) ≡ false
no_folder_mark id [] = refl
no_folder_mark id (rule ∷ rules) = no_folder_mark (id + 1) rules

order_behind : (id : ℕ) (rules : List types.Rule) → FolderFirst (marks (entries_from id (marked_rules mark.File rules)))
order_behind id [] = tt
order_behind id (rule ∷ rules) = (λ p. no_folder_mark (id + 1) rules, order_behind (id + 1) rules)

order_from : (id : ℕ) (folder rules : List types.Rule) → FolderFirst (marks (entries_from id (start_rules folder rules)))
order_from id [] rules = order_behind id rules
order_from id (rule ∷ folder) rules = (λ p. let none : ⊥ = cc in absurd none, order_from (id + 1) folder rules)

pub policy_new : (policy : Judging) (rules : List types.Rule) → length (folder_of policy) + length rules ≤ 65536 → IsNew (with_rules rules policy)
policy_new policy rules few =
    let all : List Marked = start_rules (folder_of policy) rules in
    let long : length all ≡ length (folder_of policy) + length rules = start_length (folder_of policy) rules in
    let same : length (entries_from 1 all) ≡ length all = entries_length 1 all in
    record {
      classes = refl;
      rules = entries_given 1 all;
      next = refl;
      clock = refl;
      stream = stream_first policy.stream;
      numbered = record {
        distinct = ids_differ 1 all;
        below = λ id a. let k : id < 1 + length all = (ids_from 1 id all a).1 in omega (arith, k);
        few = omega (arith, same, long, few);
        order = order_from 1 (folder_of policy) rules;
      };
      histories = record {
        evaluated = λ j id a. absurd a;
        applied = λ j id a. absurd a;
        histories = λ e a. histories_new 1 all e a;
      };
    }
  where
    stream_first : (x : Stream) → x ≡ behind 0 x
    stream_first x = refl

-- ---- the folder's rules in the policy of a setup

abbrev pub folder_in : List RuleEntry → List types.Rule
folder_in entries = map (λ e. e.rule) (filter (λ e. is_folder e.mark) entries)

none_in : (id : ℕ) (rules : List types.Rule) → folder_in (entries_from id (marked_rules mark.File rules)) ≡ []
none_in id [] = refl
none_in id (rule ∷ rules) = none_in (id + 1) rules

pub all_in : (id : ℕ) (folder rules : List types.Rule) → folder_in (entries_from id (start_rules folder rules)) ≡ folder
all_in id [] rules = none_in id rules
all_in id (rule ∷ folder) rules = ap (λ (l : List types.Rule). rule ∷ l) (all_in (id + 1) folder rules)

pub setup_folder : (s : SetupState) → folder_of (policy_of s) ≡ rules_in_folder s.folder.files
setup_folder s = all_in 1 (rules_in_folder s.folder.files) s.rules

-- with its own rules it is the same
pub own_rules : (s : SetupState) → with_rules s.rules (policy_of s) ≡ policy_of s
own_rules s = ap (λ (folder : List types.Rule). record (policy_of s) { rules = entries_from 1 (start_rules folder s.rules); next = length (start_rules folder s.rules) + 1 }) (setup_folder s)

pub folder_number : (n : ℕ) (done : List (Option Step)) (s : SetupState) → IsGiven n done s → length (folder_of (policy_of s)) ≡ s.folder.count
folder_number n done s h = ap (λ (l : List types.Rule). length l) (setup_folder s) ∙ h.held.number

pub few_all : (n : ℕ) (done : List (Option Step)) (s : SetupState) (rules : List types.Rule) → IsGiven n done s → s.folder.count + length rules ≤ 65536 → length (folder_of (policy_of s)) + length rules ≤ 65536
few_all n done s rules h few = let same : length (folder_of (policy_of s)) ≡ s.folder.count = folder_number n done s h in omega (arith, same, few)
