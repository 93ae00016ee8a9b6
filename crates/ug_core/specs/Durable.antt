-- What a crash may leave of the rule file, at any moment of an event, in the words of rules.
use Rattle.std.specs.Prelude.{◌≡◌, ℕ, cond, List, [], ◌∷◌, ◌++◌, Option, Some, None, Result, Ok, Err, ◌⊎◌}
use Rattle.ug_types.specs.Elements.{Has}
use Rattle.ug_types.specs.Principals.{Named}
use Rattle.ug_types.specs.declared.refusal.Refusal.TheVariants as refusal
use Rattle.ug_types.specs.declared.rule.Rule.{Rule}
use Rattle.ug_types.specs.declared.saved.Saved.{Saved}
use Rattle.ug_types.specs.declared.saved.Saved.TheVariants as saved
use Rattle.ug_audit.specs.declared.entry.Entry.TheVariants as entry
use Rattle.ug_policy.specs.declared.entry.RuleEntry.{RuleEntry}
use Rattle.ug_store.specs.Disk.{Disk, Images, IsImage}
use Rattle.ug_proto.specs.Privileges.{needs}
use Rattle.ug_proto.specs.Requests.{request_read}
use Rattle.ug_proto.specs.declared.request.Request.{Request}
use Rattle.ug_core.specs.Changes.{change_asked, changed_by, is_saved, text_to_save}
use Rattle.ug_core.specs.Event.{DaemonState}
use Rattle.ug_core.specs.Policy.{Judging}
use Rattle.ug_core.specs.Privileges.{is_granted}
use Rattle.ug_core.specs.Storing.{WritesRules}
use Rattle.ug_core.specs.declared.changes.Change.{Change}
use Rattle.ug_core.specs.declared.storing.Stored.{Stored}
use Rattle.ug_core.specs.declared.storing.Stored.TheVariants as stored
use Rattle.ug_types.specs.declared.event.Event.{Event}
use Rattle.ug_types.specs.declared.event.Event.TheVariants.{Sweep, Order, Hint}
use Rattle.ug_ruleset.specs.RuleFile.{permanent_rules, permanent_text}

-- each text that a crash may leave is the text of the permanent rules, or one that isn't sure
abbrev pub IsKept : List RuleEntry → List (List ℕ) → Images → Type 0
IsKept rules unsure images =
    (text : List ℕ) → IsImage images text → (text ≡ permanent_text rules) ⊎ Has unsure text

-- A save that was done leaves nothing else: behind a pending save, and behind an order, which
-- perhaps leaves what it was to save where its save failed. What isn't sure may be told by texts,
-- or by the rules that they have.

abbrev pub unsure_with : {X : Type 0} → Option Saved → List X → List X
unsure_with (Some saved.Done) unsure = []
unsure_with tried unsure = unsure

abbrev pub unsure_behind : {X : Type 0} → Stored → List X → List X → List X
unsure_behind stored.Done asked unsure = []
unsure_behind (stored.Failed count) asked unsure = asked ++ unsure
unsure_behind became asked unsure = unsure

-- what an order was to save, if it wrote it
abbrev pub if_written : {X : Type 0} → Stored → List X → List X
if_written stored.Done asked = asked
if_written (stored.Failed count) asked = asked
if_written became asked = []

-- The change that an order asks for, if one asks who may. Where it concerns permanent rules, what
-- it is to save: their text after just this change, and these rules.

abbrev pub change_ordered : Named → DaemonState → Result Request ℕ → Option Change
change_ordered who d (Ok asked) =
    cond (is_granted d.access who (needs asked))
    (change_asked d.sweep.standings d.sweep.judge (Ok asked)) None
change_ordered who d (Err place) = None

abbrev pub change_in : Event → DaemonState → Option Change
change_in (Sweep moment) d = None
change_in (Hint moment piece) d = None
change_in (Order moment who line) d = change_ordered who d (request_read line)

abbrev pub as_list : Option (List ℕ) → List (List ℕ)
as_list (Some text) = text ∷ []
as_list None = []

abbrev pub text_of_change : Option Change → Judging → List (List ℕ)
text_of_change (Some change) p = as_list (text_to_save change p)
text_of_change None p = []

abbrev pub text_of_request : Named → DaemonState → Result Request ℕ → List (List ℕ)
text_of_request who d read = text_of_change (change_ordered who d read) d.sweep.judge

abbrev pub texts_of : Event → DaemonState → List (List ℕ)
texts_of (Sweep moment) d = []
texts_of (Hint moment piece) d = []
texts_of (Order moment who line) d = text_of_request who d (request_read line)

abbrev pub rules_of_change : Option Change → Judging → List (List Rule)
rules_of_change (Some change) p =
    cond (is_saved change p.rules) (permanent_rules (changed_by change p).rules ∷ []) []
rules_of_change None p = []

abbrev pub rules_of : Event → DaemonState → List (List Rule)
rules_of event d = rules_of_change (change_in event d) d.sweep.judge

-- what an order wrote can be read again
abbrev pub WritesEvent : Event → DaemonState → Stored → Type 0
WritesEvent event d became = WritesRules became (change_in event d) d.sweep.judge

-- At each moment of an event a crash leaves the text of the permanent rules in force, or one that
-- isn't sure: within the calls of a pending save, one that wasn't sure before the event; within
-- those of its order, the one that this writes, or one that still isn't sure; and after it. It may
-- leave the rule file as it is. The permanent rules stay as they were, unless the save of the order
-- was done; and the entries tell what became of that.
pub record KeepsRules (texts : List (List ℕ)) (tried : Option Saved) (became : Stored)
    (d : DaemonState) (unsure : List (List ℕ)) (m : Disk) (e : DaemonState) (n : Disk) : Type 0
  where
    pub saving : List Images
    pub ordering : List Images
    pub past : n.past ≡ (m.past ++ saving) ++ ordering
    pub first : (images : Images) → Has saving images → IsKept d.sweep.judge.rules unsure images
    pub second : (images : Images) → Has ordering images
        → IsKept d.sweep.judge.rules (if_written became texts ++ unsure_with tried unsure) images
    pub left : IsKept e.sweep.judge.rules (unsure_behind became texts (unsure_with tried unsure))
        n.left
    pub possible : IsImage m.left m.text → IsImage n.left n.text
    pub same : ((became ≡ stored.Done) → ⊥)
        → permanent_text e.sweep.judge.rules ≡ permanent_text d.sweep.judge.rules
    pub done : became ≡ stored.Done
        → Has texts (permanent_text e.sweep.judge.rules)
        × Has e.sweep.entries (entry.Save saved.Done)
    pub failed : (count : ℕ) → became ≡ stored.Failed count
        → Has e.sweep.entries (entry.Reply (Err (refusal.StoreFault count)))

-- from a disk of which a crash leaves no other text
abbrev pub FileIsKept : Event → Option Saved → Stored → DaemonState → Disk → DaemonState → Disk
    → Type 0
FileIsKept event tried became d m e n =
    (unsure : List (List ℕ)) → IsKept d.sweep.judge.rules unsure m.left
    → KeepsRules (texts_of event d) tried became d unsure m e n

-- where a disk is told after the event, one was told before it, and this is so
abbrev pub KeepsFile : {S : Type 0} → (S → Option Disk) → Event → Option Saved → Stored → S
    → DaemonState → S → DaemonState → Type 0
KeepsFile told event tried became o d p e =
    (n : Disk) → told p ≡ Some n
    → (m : Disk) × (told o ≡ Some m) × FileIsKept event tried became d m e n
