-- What is printed of an entry is read back from its line.
use Rattle.std.proofs.Common.{◌≡◌, ℕ, Bool, true, false, List, [], ◌∷◌, drop, refl, sym, ap, ◌∙◌}
use Rattle.std.specs.Prelude.{codes, decimal, if◌then◌else◌, Ok, Err}
use Rattle.ug_types.specs.Elements.{Has}
use Rattle.ug_types.specs.NodeNames.{IsNodeName}
use Rattle.ug_types.specs.Parameters.{inserted_word, parameter_name, parameter_set, value_word}
use Rattle.ug_types.specs.Principals.{principal_text}
use Rattle.ug_types.specs.Refusals.{refusal_words}
use Rattle.ug_types.specs.declared.saved.Saved.{Saved}
use Rattle.ug_types.specs.declared.saved.Saved.TheVariants as saved
use Rattle.ug_types.specs.declared.parameter.Inserted.{Inserted}
use Rattle.ug_types.specs.declared.parameter.Inserted.TheVariants as inserted
use Rattle.ug_types.specs.declared.parameter.Parameter.{Parameter}
use Rattle.ug_types.specs.declared.parameter.Parameter.TheVariants as parameter
use Rattle.ug_types.specs.declared.verdict.Target.{Target}
use Rattle.ug_types.specs.declared.verdict.Target.TheVariants as target
use Rattle.ug_types.specs.Targets.{target_word}
use Rattle.ug_types.specs.declared.verdict.Cause.{Cause}
use Rattle.ug_types.specs.declared.verdict.Cause.TheVariants as cause
use Rattle.ug_kernel.specs.declared.control.Write.{Write}
use Rattle.ug_kernel.specs.declared.control.Write.TheVariants as write
use Rattle.ug_types.proofs.NameWords.{node_graphic, node_no_star, principal_graphic, principal_read, principal_back}
use Rattle.ug_types.proofs.RefusalRead.{number_back, refusal_read, refusal_first, refusal_back, refusal_on_line}
use Rattle.ug_types.proofs.SpacedWords.{is_graphic, is_line, split_words, line_no_newline, number_graphic}
use Rattle.ug_kernel.specs.declared.calls.Wrote.{Wrote}
use Rattle.ug_kernel.specs.declared.calls.Wrote.TheVariants as wrote
use Rattle.ug_audit.specs.declared.entry.Fault.{Fault}
use Rattle.ug_audit.specs.declared.entry.Fault.TheVariants as fault
use Rattle.ug_audit.specs.declared.entry.RuleChange.{RuleChange}
use Rattle.ug_audit.specs.declared.entry.RuleChange.TheVariants as change
use Rattle.ug_audit.specs.declared.entry.Entry.{Entry}
use Rattle.ug_audit.specs.declared.entry.Entry.TheVariants as entry
use Rattle.ug_audit.specs.Lines.{and_words, write_word, wrote_word, saved_word, change_word, cause_words, fault_words, entry_line}
use Rattle.ug_audit.proofs.LineWords.{AllGraphic, same_word, nth, nth_number, byte_number, told_of_words, is_one_line}
use Rattle.ug_audit.specs.Printed.{IsCause, IsUnsettling, IsEntry, as_printed}

-- ---- the entry of a line's words

abbrev target_read : List ℕ → Target
target_read word = if same_word word (codes "allow") then target.Allow else if same_word word (codes "block") then target.Block else target.Reject

abbrev write_read : List ℕ → Write
write_read word = if same_word word (codes "on") then write.On else if same_word word (codes "off") then write.Off else if same_word word (codes "remove") then write.Remove else if same_word word (codes "default-off") then write.DefaultOff else write.DefaultOn

abbrev wrote_read : List ℕ → Wrote
wrote_read word = if same_word word (codes "done") then wrote.Done else if same_word word (codes "gone") then wrote.Gone else wrote.Failed

abbrev saved_read : List ℕ → Saved
saved_read word = if same_word word (codes "done") then saved.Done else if same_word word (codes "failed") then saved.Failed 0 else saved.Memory

abbrev change_read : List ℕ → RuleChange
change_read word = if same_word word (codes "added") then change.Added else if same_word word (codes "removed") then change.Removed else change.Changed

abbrev inserted_read : List ℕ → Inserted
inserted_read word = if same_word word (codes "block") then inserted.Block else if same_word word (codes "reject") then inserted.Reject else inserted.Apply

abbrev parameter_read : List ℕ → List ℕ → Parameter
parameter_read name value =
    if same_word name (codes "ImplicitPolicyTarget") then parameter.ImplicitPolicyTarget (target_read value) else
    parameter.InsertedDevicePolicy (inserted_read value)

abbrev cause_read : List (List ℕ) → Cause
cause_read words =
    if same_word (nth words 0) (codes "rule") then cause.Rule (nth_number words 1) else
    if same_word (nth words 0) (codes "implicit") then cause.Implicit else
    if same_word (nth words 0) (codes "present") then cause.Present else
    if same_word (nth words 0) (codes "keep") then cause.Keep else
    if same_word (nth words 0) (codes "inserted") then cause.Inserted else
    if same_word (nth words 0) (codes "malformed") then cause.Malformed (nth_number words 1) (nth_number words 2) else
    cause.Order (principal_read (nth words 1))

abbrev fault_read : List (List ℕ) → Fault
fault_read words = if same_word (nth words 0) (codes "memory") then fault.Memory else fault.Call (record { call = nth_number words 1; count = nth_number words 2 })

abbrev event_read : List (List ℕ) → Entry
event_read words =
    if same_word (nth words 2) (codes "sweep") then entry.Event (nth_number words 1) (record { 0 = nth_number words 3 }) else
    if same_word (nth words 2) (codes "hint") then entry.Hint (nth_number words 1) (record { 0 = nth_number words 3 }) else
    entry.Order (nth_number words 1) (record { 0 = nth_number words 3 }) (principal_read (nth words 4))

abbrev unsettled_read : List (List ℕ) → Entry
unsettled_read words = if same_word (nth words 1) (codes "*") then entry.UnsettledAll (fault_read (drop 2 words)) else entry.Unsettled (nth words 1) (fault_read (drop 2 words))

abbrev reply_read : List (List ℕ) → Entry
reply_read words = if same_word (nth words 1) (codes "ok") then entry.Reply (Ok tt) else entry.Reply (Err (refusal_read (drop 1 words)))

abbrev entry_read : List (List ℕ) → Entry
entry_read words =
    if same_word (nth words 0) (codes "event") then event_read words else
    if same_word (nth words 0) (codes "save") then entry.Save (saved_read (nth words 1)) else
    if same_word (nth words 0) (codes "judged") then entry.Judged (nth_number words 1) (nth words 2) (record { 0 = 0 }) (target_read (nth words 3)) (cause_read (drop 4 words)) else
    if same_word (nth words 0) (codes "intent") then entry.Intent (nth_number words 1) (nth words 2) (write_read (nth words 3)) else
    if same_word (nth words 0) (codes "wrote") then entry.Wrote (nth_number words 1) (nth words 2) (write_read (nth words 3)) (wrote_read (nth words 4)) else
    if same_word (nth words 0) (codes "gone") then entry.Gone (nth_number words 1) (nth words 2) else
    if same_word (nth words 0) (codes "unsettled") then unsettled_read words else
    if same_word (nth words 0) (codes "hint") then entry.HintRefused (nth_number words 2) (nth_number words 3) else
    if same_word (nth words 0) (codes "rules") then entry.Rules (change_read (nth words 1)) (nth_number words 2) else
    if same_word (nth words 0) (codes "parameter") then entry.Parameter (parameter_read (nth words 1) (nth words 2)) else
    if same_word (nth words 0) (codes "reply") then reply_read words else
    if same_word (nth words 0) (codes "dropped") then entry.Dropped (nth_number words 1) else
    entry.End (nth_number words 1)

-- whether the words are those of an entry of the start
abbrev pub tells_start : List (List ℕ) → Bool
tells_start words = if same_word (nth words 0) (codes "note") then true else same_word (nth words 0) (codes "start-refused")

-- ---- each word is read back

target_back : (t : Target) → (is_graphic (target_word t) ≡ true) × (target_read (target_word t) ≡ t)
target_back target.Allow = (refl, refl)
target_back target.Block = (refl, refl)
target_back target.Reject = (refl, refl)

write_back : (w : Write) → (is_graphic (write_word w) ≡ true) × (write_read (write_word w) ≡ w)
unfolding write_word
write_back write.On = (refl, refl)
write_back write.Off = (refl, refl)
write_back write.Remove = (refl, refl)
write_back write.DefaultOff = (refl, refl)
write_back write.DefaultOn = (refl, refl)

wrote_back : (o : Wrote) → (is_graphic (wrote_word o) ≡ true) × (wrote_read (wrote_word o) ≡ o)
unfolding wrote_word
wrote_back wrote.Done = (refl, refl)
wrote_back wrote.Gone = (refl, refl)
wrote_back wrote.Failed = (refl, refl)

change_back : (c : RuleChange) → (is_graphic (change_word c) ≡ true) × (change_read (change_word c) ≡ c)
unfolding change_word
change_back change.Added = (refl, refl)
change_back change.Removed = (refl, refl)
change_back change.Changed = (refl, refl)

inserted_back : (p : Inserted) → (is_graphic (inserted_word p) ≡ true) × (inserted_read (inserted_word p) ≡ p)
inserted_back inserted.Block = (refl, refl)
inserted_back inserted.Reject = (refl, refl)
inserted_back inserted.Apply = (refl, refl)

parameter_back : (p : Parameter) → AllGraphic (parameter_name (parameter_set p) ∷ value_word p ∷ []) × (parameter_read (parameter_name (parameter_set p)) (value_word p) ≡ p)
parameter_back (parameter.ImplicitPolicyTarget to) = ((refl, ((target_back to).0, tt)), ap parameter.ImplicitPolicyTarget (target_back to).1)
parameter_back (parameter.InsertedDevicePolicy to) = ((refl, ((inserted_back to).0, tt)), ap parameter.InsertedDevicePolicy (inserted_back to).1)

cause_back : (c : Cause) → IsCause c → AllGraphic (cause_words c) × (cause_read (cause_words c) ≡ c)
unfolding cause_words
cause_back (cause.Rule id) h = ((refl, (number_graphic id h, tt)), ap cause.Rule (number_back id h))
cause_back cause.Implicit h = ((refl, tt), refl)
cause_back cause.Present h = ((refl, tt), refl)
cause_back cause.Keep h = ((refl, tt), refl)
cause_back cause.Inserted h = ((refl, tt), refl)
cause_back (cause.Malformed kind place) h =
    let k = byte_number kind h.0 in
    ((refl, (number_graphic kind k, (number_graphic place h.1, tt))), λ i. cause.Malformed (number_back kind k i) (number_back place h.1 i))
cause_back (cause.Order who) h = ((refl, (principal_graphic who h, tt)), ap cause.Order (principal_back who h))

fault_back : (f : Fault) → IsUnsettling f → AllGraphic (fault_words f) × (fault_read (fault_words f) ≡ f)
unfolding fault_words
fault_back (fault.Call failed) h = (
  (refl, (number_graphic failed.call h.0, (number_graphic failed.count h.1, tt))),
  λ i. fault.Call (record { call = number_back failed.call h.0 i; count = number_back failed.count h.1 i }),
)
fault_back fault.Memory h = ((refl, tt), refl)

-- ---- each line

abbrev IsReadAs : List ℕ → Entry → Type 0
IsReadAs line e = (entry_read (split_words line) ≡ e) × (is_line line ≡ true) × (tells_start (split_words line) ≡ false)

read_as : (word : List ℕ) (words : List (List ℕ)) (e : Entry) → (is_graphic word ≡ true) × (tells_start (word ∷ words) ≡ false) → AllGraphic words → entry_read (word ∷ words) ≡ e → IsReadAs (and_words word words) e
read_as word words e g h r =
    (told_of_words entry_read word words g.0 h ∙ r, is_one_line word words g.0 h, told_of_words tells_start word words g.0 h ∙ g.1)

abbrev read_saved : Saved → Entry
read_saved became = as_printed (entry.Save became)

save_back : (became : Saved) → IsReadAs (entry_line (entry.Save became)) (read_saved became)
unfolding entry_line saved_word
save_back saved.Done = (refl, refl, refl)
save_back (saved.Failed count) = (refl, refl, refl)
save_back saved.Memory = (refl, refl, refl)

unsettled_back : (name : List ℕ) (why : Fault) → IsNodeName name → IsUnsettling why → entry_read (codes "unsettled" ∷ name ∷ fault_words why) ≡ entry.Unsettled name why
unsettled_back name why n h = rw (node_no_star name n) (ap (entry.Unsettled name) (fault_back why h).1)

entry_back : (e : Entry) → IsEntry e → IsReadAs (entry_line e) (as_printed e)
unfolding entry_line
entry_back (entry.Event number moment) h =
    read_as (codes "event") (decimal number ∷ codes "sweep" ∷ decimal moment.0 ∷ []) (entry.Event number moment) (refl, refl) (number_graphic number h.0, (refl, (number_graphic moment.0 h.1, tt)))
    (λ i. entry.Event (number_back number h.0 i) (record { 0 = number_back moment.0 h.1 i }))
entry_back (entry.Order number moment who) h =
    read_as (codes "event") (decimal number ∷ codes "order" ∷ decimal moment.0 ∷ principal_text who ∷ []) (entry.Order number moment who) (refl, refl) (number_graphic number h.0, (refl, (number_graphic moment.0 h.1, (principal_graphic who h.2, tt))))
    (λ i. entry.Order (number_back number h.0 i) (record { 0 = number_back moment.0 h.1 i }) (principal_back who h.2 i))
entry_back (entry.Hint number moment) h =
    read_as (codes "event") (decimal number ∷ codes "hint" ∷ decimal moment.0 ∷ []) (entry.Hint number moment) (refl, refl) (number_graphic number h.0, (refl, (number_graphic moment.0 h.1, tt)))
    (λ i. entry.Hint (number_back number h.0 i) (record { 0 = number_back moment.0 h.1 i }))
entry_back (entry.Save became) h = save_back became
entry_back (entry.Judged number name held verdict why) h =
    read_as (codes "judged") (decimal number ∷ name ∷ target_word verdict ∷ cause_words why) (entry.Judged number name (record { 0 = 0 }) verdict why) (refl, refl) (number_graphic number h.0, (node_graphic name h.1, ((target_back verdict).0, (cause_back why h.2).0)))
    (λ i. entry.Judged (number_back number h.0 i) name (record { 0 = 0 }) ((target_back verdict).1 i) ((cause_back why h.2).1 i))
entry_back (entry.Intent number name what) h =
    read_as (codes "intent") (decimal number ∷ name ∷ write_word what ∷ []) (entry.Intent number name what) (refl, refl) (number_graphic number h.0, (node_graphic name h.1, ((write_back what).0, tt)))
    (λ i. entry.Intent (number_back number h.0 i) name ((write_back what).1 i))
entry_back (entry.Wrote number name what outcome) h =
    read_as (codes "wrote") (decimal number ∷ name ∷ write_word what ∷ wrote_word outcome ∷ []) (entry.Wrote number name what outcome) (refl, refl) (number_graphic number h.0, (node_graphic name h.1, ((write_back what).0, ((wrote_back outcome).0, tt))))
    (λ i. entry.Wrote (number_back number h.0 i) name ((write_back what).1 i) ((wrote_back outcome).1 i))
entry_back (entry.Gone number name) h =
    read_as (codes "gone") (decimal number ∷ name ∷ []) (entry.Gone number name) (refl, refl) (number_graphic number h.0, (node_graphic name h.1, tt))
    (λ i. entry.Gone (number_back number h.0 i) name)
entry_back (entry.Unsettled name why) h =
    read_as (codes "unsettled") (name ∷ fault_words why) (entry.Unsettled name why) (refl, refl) (node_graphic name h.0, (fault_back why h.1).0) (unsettled_back name why h.0 h.1)
entry_back (entry.UnsettledAll why) h =
    read_as (codes "unsettled") (codes "*" ∷ fault_words why) (entry.UnsettledAll why) (refl, refl) (refl, (fault_back why h).0) (ap entry.UnsettledAll (fault_back why h).1)
entry_back (entry.HintRefused kind place) h =
    let k = byte_number kind h.0 in
    read_as (codes "hint") (codes "refused" ∷ decimal kind ∷ decimal place ∷ []) (entry.HintRefused kind place) (refl, refl) (refl, (number_graphic kind k, (number_graphic place h.1, tt)))
    (λ i. entry.HintRefused (number_back kind k i) (number_back place h.1 i))
entry_back (entry.Rules done id) h =
    read_as (codes "rules") (change_word done ∷ decimal id ∷ []) (entry.Rules done id) (refl, refl) ((change_back done).0, (number_graphic id h, tt))
    (λ i. entry.Rules ((change_back done).1 i) (number_back id h i))
entry_back (entry.Parameter set) h =
    read_as (codes "parameter") (parameter_name (parameter_set set) ∷ value_word set ∷ []) (entry.Parameter set) (refl, refl) (parameter_back set).0 (ap entry.Parameter (parameter_back set).1)
entry_back (entry.Reply (Ok done)) h = (refl, refl, refl)
entry_back (entry.Reply (Err refusal)) h =
    let words = split_words (refusal_words refusal) in (
      ap (λ (w : List ℕ). if same_word w (codes "ok") then entry.Reply (Ok tt) else entry.Reply (Err (refusal_read words))) (refusal_first refusal)
          ∙ ap (λ r. entry.Reply (Err r)) (refusal_back refusal h),
      refusal_on_line refusal h,
      refl,
    )
entry_back (entry.Dropped member) h =
    let k = byte_number member h in
    read_as (codes "dropped") (decimal member ∷ []) (entry.Dropped member) (refl, refl) (number_graphic member k, tt) (ap entry.Dropped (number_back member k))
entry_back (entry.End number) h =
    read_as (codes "end") (decimal number ∷ []) (entry.End number) (refl, refl) (number_graphic number h, tt) (ap entry.End (number_back number h))

pub one_entry : (a b : Entry) → IsEntry a → IsEntry b → entry_line a ≡ entry_line b → as_printed a ≡ as_printed b
one_entry a b h k e = sym (entry_back a h).0 ∙ ap (λ (line : List ℕ). entry_read (split_words line)) e ∙ (entry_back b k).0

pub entry_on_line : (e : Entry) → IsEntry e → ¬ Has (entry_line e) 10
entry_on_line e h = line_no_newline (entry_line e) (entry_back e h).1

pub entry_not_start : (e : Entry) → IsEntry e → tells_start (split_words (entry_line e)) ≡ false
entry_not_start e h = (entry_back e h).2
