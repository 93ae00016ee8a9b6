-- What a stop at any moment of a run leaves of the rule file, and what a start makes of it, in the
-- words of rules.
use Rattle.std.specs.Prelude.{◌≡◌, ℕ, ◌+◌, ◌<◌, Bool, false, List, [], ◌∷◌, ◌++◌, length, Option, Some, Result, Ok, Err, ◌⊎◌}
use Rattle.ug_types.specs.Elements.{Has}
use Rattle.ug_types.specs.declared.rule.Rule.{Rule}
use Rattle.ug_types.specs.declared.refusal.Refusal.TheVariants as refusal
use Rattle.ug_types.specs.declared.saved.Saved.TheVariants as saved
use Rattle.ug_kernel.specs.Kernel.{Kernel}
use Rattle.ug_audit.specs.declared.entry.Entry.TheVariants as entry
use Rattle.ug_policy.specs.Rules.{Rules, most_rules}
use Rattle.ug_policy.specs.declared.entry.RuleEntry.{RuleEntry}
use Rattle.ug_store.specs.Disk.{Disk, Images, IsImage}
use Rattle.ug_store.specs.Store.{HasRecovered}
use Rattle.ug_store.specs.declared.store.RecoverFault.{RecoverFault}
use Rattle.ug_ruleset.specs.RuleFile.{IsRuleFile, IsSaveable, permanent_rules}
use Rattle.ug_core.specs.Chain.{Happened, Chain}
use Rattle.ug_core.specs.Changes.{changed_by}
use Rattle.ug_core.specs.Durable.{IsKept, WritesEvent, change_in, if_written, rules_of, unsure_behind, unsure_with}
use Rattle.ug_core.specs.Event.{DaemonState}
use Rattle.ug_core.specs.Starting.{HoldsJust, StartsAfter, start_rules}
use Rattle.ug_core.specs.declared.changes.Change.{Change}
use Rattle.ug_core.specs.declared.start_fault.StartFault.{StartFault}
use Rattle.ug_core.specs.declared.start_fault.StartFault.TheVariants as fault
use Rattle.ug_core.specs.declared.storing.Stored.TheVariants as stored

-- ---- what a stop leaves

-- it leaves a rule file, which has the permanent rules of that list, or others that aren't sure
pub record StopLeaves (rules : List RuleEntry) (unsure : List (List Rule)) (text : List ℕ) : Type 0
  where
    pub stood : List Rule
    pub file : IsRuleFile stood text
    pub which : (stood ≡ permanent_rules rules) ⊎ Has unsure stood

-- whatever it may leave then
abbrev pub LeavesRules : List RuleEntry → List (List Rule) → Images → Type 0
LeavesRules rules unsure images =
    (text : List ℕ) → IsImage images text → StopLeaves rules unsure text

-- the rules that aren't sure after an event, and after these events

abbrev pub rules_past : List (List Rule) → Happened → List (List Rule)
rules_past unsure h =
    unsure_behind h.became (rules_of h.event h.before) (unsure_with h.tried unsure)

abbrev pub unsure_rules : List (List Rule) → List Happened → List (List Rule)
unsure_rules unsure [] = unsure
unsure_rules unsure (h ∷ hs) = unsure_rules (rules_past unsure h) hs

-- At each moment of an event: before its first call of the disk, within each call of a pending
-- save, within each of its order, and behind the last. Within the order's a stop may also leave the
-- rules after just this order; and within them nothing is left of what wasn't sure, once the
-- pending save was done. The permanent rules in force stay as they were until the save of an order
-- is done; then they are those after just this order, whatever it is answered behind that.
pub record StopsIn (unsure : List (List Rule)) (h : Happened) : Type 0 where
  pub disk : Disk
  pub told : h.disk ≡ Some disk
  pub disk_after : Disk
  pub told_after : h.disk_after ≡ Some disk_after
  pub saving : List Images
  pub ordering : List Images
  pub past : disk_after.past ≡ (disk.past ++ saving) ++ ordering
  pub before : LeavesRules h.before.sweep.judge.rules unsure disk.left
  pub first : (images : Images) → Has saving images
      → LeavesRules h.before.sweep.judge.rules unsure images
  pub second : (images : Images) → Has ordering images
      → LeavesRules h.before.sweep.judge.rules
      (if_written h.became (rules_of h.event h.before) ++ unsure_with h.tried unsure) images
  pub left : LeavesRules h.after.sweep.judge.rules (rules_past unsure h) disk_after.left
  pub same : ((h.became ≡ stored.Done) → ⊥)
      → permanent_rules h.after.sweep.judge.rules ≡ permanent_rules h.before.sweep.judge.rules
  pub done : h.became ≡ stored.Done
      → Has (rules_of h.event h.before) (permanent_rules h.after.sweep.judge.rules)

-- in each event
abbrev pub EachStops : List (List Rule) → List Happened → Type 0
EachStops unsure [] = Unit {0}
EachStops unsure (h ∷ hs) = StopsIn unsure h × EachStops (rules_past unsure h) hs

-- ---- where rules that aren't sure come from

-- no save was done
abbrev pub NoneSaved : List Happened → Type 0
NoneSaved [] = Unit {0}
NoneSaved (h ∷ hs) =
    ((h.tried ≡ Some saved.Done) → ⊥) × ((h.became ≡ stored.Done) → ⊥) × NoneSaved hs

-- They are the permanent rules in force after just one order of these events: one who may asked for
-- that, its save failed, which its reply tells, and no save was done since.
pub record WasUnsaved (hs : List Happened) (now : List RuleEntry) (rules : List Rule) : Type 0 where
  pub earlier : List Happened
  pub event : Happened
  pub later : List Happened
  pub in_run : hs ≡ earlier ++ event ∷ later
  pub change : Change
  pub asks : change_in event.event event.before ≡ Some change
  pub count : ℕ
  pub failed : event.became ≡ stored.Failed count
  pub told : Has event.after.sweep.entries (entry.Reply (Err (refusal.StoreFault count)))
  pub none : NoneSaved later
  pub base : permanent_rules event.before.sweep.judge.rules ≡ permanent_rules now
  pub is : rules ≡ permanent_rules (changed_by change event.before.sweep.judge).rules

-- ---- a run

-- what an event found in force, wrote, and left in force can be read again from its text
pub record IsReadable (h : Happened) : Type 0 where
  pub before : IsSaveable h.before.sweep.judge.rules
  pub written : WritesEvent h.event h.before h.became
  pub after : IsSaveable h.after.sweep.judge.rules

abbrev pub AllReadable : List Happened → Type 0
AllReadable [] = Unit {0}
AllReadable (h ∷ hs) = IsReadable h × AllReadable hs

-- these texts are rule files, each with the rules at its place
abbrev pub AreFiles : List (List Rule) → List (List ℕ) → Type 0
AreFiles [] [] = Unit {0}
AreFiles [] (text ∷ texts) = ⊥
AreFiles (rules ∷ more) [] = ⊥
AreFiles (rules ∷ more) (text ∷ texts) = IsRuleFile rules text × AreFiles more texts

-- At each moment of these events and behind them a stop leaves a rule file. Its rules are the
-- permanent rules in force, or these after exactly one order, which is in progress or whose save
-- failed since the last save that was done; or such as a stop might have left at the start, where
-- no save was done since. The rule file itself is such a one, if it was at the start.
pub record StopsAlong (unsure : List (List Rule)) (m : Disk) (hs : List Happened) (n : Disk)
    (e : DaemonState) : Type 0 where
  pub each : EachStops unsure hs
  pub left : LeavesRules e.sweep.judge.rules (unsure_rules unsure hs) n.left
  pub file : IsImage m.left m.text → StopLeaves e.sweep.judge.rules (unsure_rules unsure hs) n.text
  pub whence : (rules : List Rule) → Has (unsure_rules unsure hs) rules
      → (Has unsure rules × NoneSaved hs) ⊎ WasUnsaved hs e.sweep.judge.rules rules

abbrev pub StopsLeaveRules : Type 0
StopsLeaveRules =
    (k : Kernel) (o : Option Disk) (d : DaemonState) (hs : List Happened) (l : Kernel)
    (p : Option Disk) (e : DaemonState)
    → Chain k o d hs l p e → IsSaveable d.sweep.judge.rules → AllReadable hs → (n : Disk)
    → p ≡ Some n
    → (m : Disk) × (o ≡ Some m)
    × ((unsure : List (List Rule)) (texts : List (List ℕ)) → AreFiles unsure texts
    → IsKept d.sweep.judge.rules texts m.left → StopsAlong unsure m hs n e)

-- ---- a start

-- a start has the folder's rules and then just these, with nothing pending, unless a call of the
-- disk failed, they are more than a list takes, or memory was short
abbrev pub LoadsJust : List Rule → List Rule → Result (Bool × Rules) StartFault → Type 0
LoadsJust folder rules (Ok started) =
    (started.0 ≡ false) × HoldsJust (start_rules folder rules) started.1
LoadsJust folder rules (Err (fault.Disk count)) = Unit {0}
LoadsJust folder rules (Err fault.TooMany) = most_rules < length folder + length rules
LoadsJust folder rules (Err fault.Memory) = Unit {0}
LoadsJust folder rules (Err e) = ⊥

-- What a start has read is such a text: where a stop leaves no other, nothing else is unsure of its
-- rules.
abbrev pub StartsSure : Type 0
StartsSure =
    (m n : Disk) (folder : List Rule) (read : Result (List ℕ) RecoverFault)
    (started : Bool × Rules) → HasRecovered m read n → StartsAfter folder read (Ok started)
    → IsRuleFile (permanent_rules started.1.entries) m.text

-- behind a reading of a rule file that has such a text
abbrev pub StartsJust : Type 0
StartsJust =
    (m n : Disk) (folder : List Rule) (read : Result (List ℕ) RecoverFault)
    (result : Result (Bool × Rules) StartFault) (rules : List Rule)
    → HasRecovered m read n → StartsAfter folder read result → IsRuleFile rules m.text
    → LoadsJust folder rules result
