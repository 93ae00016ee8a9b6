-- A line is read as a notice's exactly where it is the line of such an entry.
use Rattle.std.proofs.Common.{◌≡◌, ℕ, inl, inr, Bool, true, false, List, [], ◌∷◌, ◌++◌, Option, Some, None, refl, sym, ap, subst, ◌∙◌, append_assoc}
use Rattle.std.specs.Prelude.{codes, decimal, if◌then◌else◌, is_some, IsTrue}
use Rattle.std.proofs.lemmas.Bool.{and_parts, or_cases, or_right}
use Rattle.ug_types.specs.Parameters.{parameter_name, parameter_of, parameter_set, parameter_with, value_word}
use Rattle.ug_types.specs.Principals.{principal_text}
use Rattle.ug_types.specs.Targets.{target_word}
use Rattle.ug_kernel.specs.declared.control.Write.{Write}
use Rattle.ug_types.specs.declared.parameter.Parameter.{Parameter}
use Rattle.ug_types.specs.declared.parameter.Parameter.TheVariants as parameter
use Rattle.ug_types.specs.declared.parameter.ParameterName.{ParameterName}
use Rattle.ug_types.specs.declared.verdict.Cause.{Cause}
use Rattle.ug_types.specs.declared.verdict.Cause.TheVariants as cause
use Rattle.ug_kernel.specs.declared.control.Held.{Held}
use Rattle.ug_types.specs.declared.verdict.Target.{Target}
use Rattle.ug_types.proofs.ParameterWords.{parameter_law, value_law}
use Rattle.ug_types.proofs.NameWords.{node_graphic}
use Rattle.ug_types.proofs.SpacedWords.{number_graphic}
use Rattle.ug_kernel.specs.declared.calls.Wrote.{Wrote}
use Rattle.ug_audit.specs.Lines.{and_words, cause_words, entry_line, fault_words, write_word, wrote_word}
use Rattle.ug_audit.specs.Printed.{IsCause, IsEntry, IsUnsettling}
use Rattle.ug_audit.specs.declared.entry.Entry.{Entry}
use Rattle.ug_audit.specs.declared.entry.Entry.TheVariants as entry
use Rattle.ug_audit.specs.declared.entry.Fault.{Fault}
use Rattle.ug_audit.specs.declared.entry.Fault.TheVariants as fault
use Rattle.ug_client.specs.Answers.{IsNoticed, IsNoticedLine}
use Rattle.ug_client.specs.NoticeLines.{are_numbers, cut_word, has_value, is_byte, is_cause, is_cause_alone, is_cause_of, is_entry_of, is_entry_text, is_fault, is_fault_of, is_gone, is_judged, is_malformed, is_name_or_star, is_name_word, is_named_verdict, is_named_write, is_decimal, is_outcome, is_parameter, is_parameter_of, is_target, is_unsettled, is_user, is_verdict, is_write, is_written, is_wrote}
use Rattle.ug_client.proofs.NoticeWords.{same, cut_whole, both_yes, both_so, name_word_so, so_name_word, number_yes, number_so, byte_number, byte_yes, byte_so, so_principal, user_so, target_so, target_yes, write_yes, is_text, write_so, outcome_yes, outcome_so}

-- ---- causes and faults

abbrev cause_text : Cause → List ℕ
cause_text (cause.Rule id) = codes "rule" ++ 32 ∷ decimal id
cause_text cause.Implicit = codes "implicit"
cause_text cause.Present = codes "present"
cause_text cause.Keep = codes "keep"
cause_text cause.Inserted = codes "inserted"
cause_text (cause.Malformed kind place) = codes "malformed" ++ 32 ∷ (decimal kind ++ 32 ∷ decimal place)
cause_text (cause.Order who) = codes "order" ++ 32 ∷ principal_text who

abbrev fault_text : Fault → List ℕ
fault_text (fault.Call failed) = codes "fault" ++ 32 ∷ (decimal failed.call ++ 32 ∷ decimal failed.count)
fault_text fault.Memory = codes "memory"

cause_yes : (why : Cause) → IsCause why → is_cause (cause_text why) ≡ true
cause_yes (cause.Rule id) h = number_yes id h
cause_yes cause.Implicit h = refl
cause_yes cause.Present h = refl
cause_yes cause.Keep h = refl
cause_yes cause.Inserted h = refl
cause_yes (cause.Malformed kind place) h = both_yes is_byte is_decimal (decimal kind) (decimal place) (number_graphic kind (byte_number kind h.0)) (byte_yes kind h.0) (number_yes place h.1)
cause_yes (cause.Order who) h = ap is_some (so_principal who h)

abbrev CauseRead : List ℕ → Type 0
CauseRead text = (why : Cause) × IsCause why × (text ≡ cause_text why)

alone_so : (text : List ℕ) → is_cause_alone text ≡ true → CauseRead text
alone_so text h = elim (or_cases _ (same text (codes "inserted")) h) as (λ _. CauseRead text) [
  | inr e ↦ (cause.Inserted, tt, is_text text (codes "inserted") e)
  | inl h ↦ elim (or_cases _ (same text (codes "keep")) h) as (λ _. CauseRead text) [
    | inr e ↦ (cause.Keep, tt, is_text text (codes "keep") e)
    | inl h ↦ elim (or_cases (same text (codes "implicit")) (same text (codes "present")) h) as (λ _. CauseRead text) [
      | inr e ↦ (cause.Present, tt, is_text text (codes "present") e)
      | inl e ↦ (cause.Implicit, tt, is_text text (codes "implicit") e)
    ]
  ]
]

-- behind a word that is this one
with_word : (text first rest word : List ℕ) → text ≡ first ++ 32 ∷ rest → same first word ≡ true → text ≡ word ++ 32 ∷ rest
with_word text first rest word w e = w ∙ ap (λ (f : List ℕ). f ++ 32 ∷ rest) (is_text first word e)

malformed_so : (text rest : List ℕ) → text ≡ codes "malformed" ++ 32 ∷ rest → is_malformed rest ≡ true → CauseRead text
malformed_so text rest w h =
    let p = both_so is_byte is_decimal rest h in
    let k = byte_so p.first p.is_first in
    let n = number_so p.rest p.is_rest in
    let whole : rest ≡ decimal k.0 ++ 32 ∷ decimal n.0 = p.whole ∙ (λ i. k.2 i ++ 32 ∷ n.2 i) in
    (cause.Malformed k.0 n.0, (k.1, n.1), w ∙ ap (λ (t : List ℕ). codes "malformed" ++ 32 ∷ t) whole)

cause_so : (text : List ℕ) → is_cause text ≡ true → CauseRead text
cause_so text h = by (cut_word text) refl h
  where
    last : (first rest : List ℕ) → text ≡ first ++ 32 ∷ rest → (v : Bool) → same first (codes "malformed") ≡ v → (if v then is_malformed rest else false) ≡ true → CauseRead text
    last first rest w true e k = malformed_so text rest (with_word text first rest (codes "malformed") w e) k
    last first rest w false e k = let none : ⊥ = cc in absurd none

    next : (first rest : List ℕ) → text ≡ first ++ 32 ∷ rest → (v : Bool) → same first (codes "order") ≡ v → (if v then is_user rest else if same first (codes "malformed") then is_malformed rest else false) ≡ true → CauseRead text
    next first rest w true e k = let u = user_so rest k in (cause.Order u.0, u.1, with_word text first rest (codes "order") w e ∙ ap (λ (t : List ℕ). codes "order" ++ 32 ∷ t) u.2)
    next first rest w false e k = last first rest w (same first (codes "malformed")) refl k

    rule : (first rest : List ℕ) → text ≡ first ++ 32 ∷ rest → (v : Bool) → same first (codes "rule") ≡ v → (if v then is_decimal rest else if same first (codes "order") then is_user rest else if same first (codes "malformed") then is_malformed rest else false) ≡ true → CauseRead text
    rule first rest w true e k = let n = number_so rest k in (cause.Rule n.0, n.1, with_word text first rest (codes "rule") w e ∙ ap (λ (t : List ℕ). codes "rule" ++ 32 ∷ t) n.2)
    rule first rest w false e k = next first rest w (same first (codes "order")) refl k

    by : (cut : Option (List ℕ × List ℕ)) → cut_word text ≡ cut → is_cause_of text cut ≡ true → CauseRead text
    by None e k = alone_so text k
    by (Some cut) e k = rule cut.0 cut.1 (cut_whole text cut e) (same cut.0 (codes "rule")) refl k

fault_yes : (why : Fault) → IsUnsettling why → is_fault (fault_text why) ≡ true
fault_yes (fault.Call failed) h = both_yes is_decimal is_decimal (decimal failed.call) (decimal failed.count) (number_graphic failed.call h.0) (number_yes failed.call h.0) (number_yes failed.count h.1)
fault_yes fault.Memory h = refl

abbrev FaultRead : List ℕ → Type 0
FaultRead text = (why : Fault) × IsUnsettling why × (text ≡ fault_text why)

fault_so : (text : List ℕ) → is_fault text ≡ true → FaultRead text
fault_so text h = by (cut_word text) refl h
  where
    by : (cut : Option (List ℕ × List ℕ)) → cut_word text ≡ cut → is_fault_of text cut ≡ true → FaultRead text
    by None e k = (fault.Memory, tt, is_text text (codes "memory") k)
    by (Some cut) e k =
        let s = and_parts (same cut.0 (codes "fault")) (are_numbers cut.1) k in
        let p = both_so is_decimal is_decimal cut.1 s.1 in
        let n = number_so p.first p.is_first in
        let m = number_so p.rest p.is_rest in
        let whole : cut.1 ≡ decimal n.0 ++ 32 ∷ decimal m.0 = p.whole ∙ (λ i. n.2 i ++ 32 ∷ m.2 i) in
        (fault.Call (record { call = n.0; count = m.0 }), (n.1, m.1), with_word text cut.0 cut.1 (codes "fault") (cut_whole text cut e) s.0 ∙ ap (λ (t : List ℕ). codes "fault" ++ 32 ∷ t) whole)

-- ---- lines

abbrev spaced : List ℕ → List (List ℕ) → List ℕ
spaced word [] = word
spaced word (next ∷ words) = word ++ 32 ∷ spaced next words

spaced_front : (a word : List ℕ) (words : List (List ℕ)) → spaced (a ++ 32 ∷ word) words ≡ a ++ 32 ∷ spaced word words
spaced_front a word [] = refl
spaced_front a word (next ∷ words) = append_assoc a (32 ∷ word) (32 ∷ spaced next words)

and_spaced : (text : List ℕ) (words : List (List ℕ)) → and_words text words ≡ spaced text words
and_spaced text [] = refl
and_spaced text (word ∷ words) = and_spaced (text ++ 32 ∷ word) words ∙ spaced_front text word words

behind_cause : (word : List ℕ) (why : Cause) → spaced word (cause_words why) ≡ word ++ 32 ∷ cause_text why
unfolding cause_words
behind_cause word (cause.Rule id) = refl
behind_cause word cause.Implicit = refl
behind_cause word cause.Present = refl
behind_cause word cause.Keep = refl
behind_cause word cause.Inserted = refl
behind_cause word (cause.Malformed kind place) = refl
behind_cause word (cause.Order who) = refl

behind_fault : (word : List ℕ) (why : Fault) → spaced word (fault_words why) ≡ word ++ 32 ∷ fault_text why
unfolding fault_words
behind_fault word (fault.Call failed) = refl
behind_fault word fault.Memory = refl

abbrev judged_text : ℕ → List ℕ → Target → Cause → List ℕ
judged_text number name verdict why = decimal number ++ 32 ∷ (name ++ 32 ∷ (target_word verdict ++ 32 ∷ cause_text why))

line_judged : (number : ℕ) (name : List ℕ) (held : Held) (verdict : Target) (why : Cause) → entry_line (entry.Judged number name held verdict why) ≡ codes "judged" ++ 32 ∷ judged_text number name verdict why
unfolding entry_line
line_judged number name held verdict why =
    and_spaced (codes "judged") (decimal number ∷ name ∷ target_word verdict ∷ cause_words why)
    ∙ ap (λ (t : List ℕ). codes "judged" ++ 32 ∷ (decimal number ++ 32 ∷ (name ++ 32 ∷ t))) (behind_cause (target_word verdict) why)

line_wrote : (number : ℕ) (name : List ℕ) (what : Write) (outcome : Wrote) → entry_line (entry.Wrote number name what outcome) ≡ codes "wrote" ++ 32 ∷ (decimal number ++ 32 ∷ (name ++ 32 ∷ (write_word what ++ 32 ∷ wrote_word outcome)))
unfolding entry_line
line_wrote number name what outcome = and_spaced (codes "wrote") (decimal number ∷ name ∷ write_word what ∷ wrote_word outcome ∷ [])

line_gone : (number : ℕ) (name : List ℕ) → entry_line (entry.Gone number name) ≡ codes "gone" ++ 32 ∷ (decimal number ++ 32 ∷ name)
unfolding entry_line
line_gone number name = and_spaced (codes "gone") (decimal number ∷ name ∷ [])

line_unsettled : (name : List ℕ) (why : Fault) → entry_line (entry.Unsettled name why) ≡ codes "unsettled" ++ 32 ∷ (name ++ 32 ∷ fault_text why)
unfolding entry_line
line_unsettled name why = and_spaced (codes "unsettled") (name ∷ fault_words why) ∙ ap (λ (t : List ℕ). codes "unsettled" ++ 32 ∷ t) (behind_fault name why)

line_all_unsettled : (why : Fault) → entry_line (entry.UnsettledAll why) ≡ codes "unsettled" ++ 32 ∷ (codes "*" ++ 32 ∷ fault_text why)
unfolding entry_line
line_all_unsettled why = and_spaced (codes "unsettled") (codes "*" ∷ fault_words why) ∙ ap (λ (t : List ℕ). codes "unsettled" ++ 32 ∷ t) (behind_fault (codes "*") why)

line_parameter : (set : Parameter) → entry_line (entry.Parameter set) ≡ codes "parameter" ++ 32 ∷ (parameter_name (parameter_set set) ++ 32 ∷ value_word set)
unfolding entry_line
line_parameter set = and_spaced (codes "parameter") (parameter_name (parameter_set set) ∷ value_word set ∷ [])

-- ---- an entry's line is read

value_yes : (set : Parameter) → has_value (parameter_of (parameter_name (parameter_set set))) (value_word set) ≡ true
value_yes set =
    ap (λ (o : Option ParameterName). has_value o (value_word set)) ((parameter_law (parameter_set set) (parameter_name (parameter_set set))).1 refl)
    ∙ ap is_some ((value_law (parameter_set set) set (value_word set)).1 (refl, refl))

parameter_yes : (set : Parameter) → is_parameter (parameter_name (parameter_set set) ++ 32 ∷ value_word set) ≡ true
parameter_yes (parameter.ImplicitPolicyTarget to) = value_yes (parameter.ImplicitPolicyTarget to)
parameter_yes (parameter.InsertedDevicePolicy to) = value_yes (parameter.InsertedDevicePolicy to)

line_read : (e : Entry) → IsNoticed e → IsEntry e → is_entry_text (entry_line e) ≡ true
unfolding is_entry_text
line_read (entry.Judged number name held verdict why) l h =
    ap (λ (t : List ℕ). is_entry_of (cut_word t)) (line_judged number name held verdict why)
    ∙ both_yes is_decimal is_named_verdict (decimal number) (name ++ 32 ∷ (target_word verdict ++ 32 ∷ cause_text why)) (number_graphic number h.0) (number_yes number h.0)
    (both_yes is_name_word is_verdict name (target_word verdict ++ 32 ∷ cause_text why) (node_graphic name h.1) (so_name_word name h.1 l)
    (both_yes is_target is_cause (target_word verdict) (cause_text why) (target_yes verdict).0 (target_yes verdict).1 (cause_yes why h.2)))
line_read (entry.Wrote number name what outcome) l h =
    ap (λ (t : List ℕ). is_entry_of (cut_word t)) (line_wrote number name what outcome)
    ∙ both_yes is_decimal is_named_write (decimal number) (name ++ 32 ∷ (write_word what ++ 32 ∷ wrote_word outcome)) (number_graphic number h.0) (number_yes number h.0)
    (both_yes is_name_word is_written name (write_word what ++ 32 ∷ wrote_word outcome) (node_graphic name h.1) (so_name_word name h.1 l)
    (both_yes is_write is_outcome (write_word what) (wrote_word outcome) (write_yes what).0 (write_yes what).1 (outcome_yes outcome)))
line_read (entry.Gone number name) l h =
    ap (λ (t : List ℕ). is_entry_of (cut_word t)) (line_gone number name)
    ∙ both_yes is_decimal is_name_word (decimal number) name (number_graphic number h.0) (number_yes number h.0) (so_name_word name h.1 l)
line_read (entry.Unsettled name why) l h =
    ap (λ (t : List ℕ). is_entry_of (cut_word t)) (line_unsettled name why)
    ∙ both_yes is_name_or_star is_fault name (fault_text why) (node_graphic name h.0) (or_right (same name (codes "*")) (is_name_word name) (so_name_word name h.0 l)) (fault_yes why h.1)
line_read (entry.UnsettledAll why) l h =
    ap (λ (t : List ℕ). is_entry_of (cut_word t)) (line_all_unsettled why)
    ∙ both_yes is_name_or_star is_fault (codes "*") (fault_text why) refl refl (fault_yes why h)
line_read (entry.Parameter set) l h = ap (λ (t : List ℕ). is_entry_of (cut_word t)) (line_parameter set) ∙ parameter_yes set
line_read (entry.Event number moment) l h = absurd l
line_read (entry.Order number moment who) l h = absurd l
line_read (entry.Hint number moment) l h = absurd l
line_read (entry.Save became) l h = absurd l
line_read (entry.Intent number name what) l h = absurd l
line_read (entry.HintRefused kind place) l h = absurd l
line_read (entry.Rules done id) l h = absurd l
line_read (entry.Reply answer) l h = absurd l
line_read (entry.Dropped member) l h = absurd l
line_read (entry.End number) l h = absurd l

-- ---- what is read is an entry's line

judged_so : (rest : List ℕ) → is_judged rest ≡ true → IsNoticedLine (codes "judged" ++ 32 ∷ rest)
judged_so rest h =
    let p = both_so is_decimal is_named_verdict rest h in
    let n = number_so p.first p.is_first in
    let q = both_so is_name_word is_verdict p.rest p.is_rest in
    let named = name_word_so q.first q.is_first in
    let r = both_so is_target is_cause q.rest q.is_rest in
    let t = target_so r.first r.is_first in
    let c = cause_so r.rest r.is_rest in
    let inner : q.rest ≡ target_word t.0 ++ 32 ∷ cause_text c.0 = r.whole ∙ (λ i. t.1 i ++ 32 ∷ c.2 i) in
    let middle : p.rest ≡ q.first ++ 32 ∷ (target_word t.0 ++ 32 ∷ cause_text c.0) = q.whole ∙ (λ i. q.first ++ 32 ∷ inner i) in
    let whole : rest ≡ judged_text n.0 q.first t.0 c.0 = p.whole ∙ (λ i. n.2 i ++ 32 ∷ middle i) in
    record {
      it = entry.Judged n.0 q.first (record { 0 = 0 }) t.0 c.0;
      noticed = named.1;
      can = (n.1, named.0, c.1);
      is = ap (λ (b : List ℕ). codes "judged" ++ 32 ∷ b) whole ∙ sym (line_judged n.0 q.first (record { 0 = 0 }) t.0 c.0);
    }

wrote_so : (rest : List ℕ) → is_wrote rest ≡ true → IsNoticedLine (codes "wrote" ++ 32 ∷ rest)
wrote_so rest h =
    let p = both_so is_decimal is_named_write rest h in
    let n = number_so p.first p.is_first in
    let q = both_so is_name_word is_written p.rest p.is_rest in
    let named = name_word_so q.first q.is_first in
    let r = both_so is_write is_outcome q.rest q.is_rest in
    let w = write_so r.first r.is_first in
    let o = outcome_so r.rest r.is_rest in
    let inner : q.rest ≡ write_word w.0 ++ 32 ∷ wrote_word o.0 = r.whole ∙ (λ i. w.1 i ++ 32 ∷ o.1 i) in
    let middle : p.rest ≡ q.first ++ 32 ∷ (write_word w.0 ++ 32 ∷ wrote_word o.0) = q.whole ∙ (λ i. q.first ++ 32 ∷ inner i) in
    let whole : rest ≡ decimal n.0 ++ 32 ∷ (q.first ++ 32 ∷ (write_word w.0 ++ 32 ∷ wrote_word o.0)) = p.whole ∙ (λ i. n.2 i ++ 32 ∷ middle i) in
    record {
      it = entry.Wrote n.0 q.first w.0 o.0;
      noticed = named.1;
      can = (n.1, named.0);
      is = ap (λ (b : List ℕ). codes "wrote" ++ 32 ∷ b) whole ∙ sym (line_wrote n.0 q.first w.0 o.0);
    }

gone_so : (rest : List ℕ) → is_gone rest ≡ true → IsNoticedLine (codes "gone" ++ 32 ∷ rest)
gone_so rest h =
    let p = both_so is_decimal is_name_word rest h in
    let n = number_so p.first p.is_first in
    let named = name_word_so p.rest p.is_rest in
    record {
      it = entry.Gone n.0 p.rest;
      noticed = named.1;
      can = (n.1, named.0);
      is = ap (λ (b : List ℕ). codes "gone" ++ 32 ∷ b) (p.whole ∙ ap (λ (w : List ℕ). w ++ 32 ∷ p.rest) n.2) ∙ sym (line_gone n.0 p.rest);
    }

unsettled_so : (rest : List ℕ) → is_unsettled rest ≡ true → IsNoticedLine (codes "unsettled" ++ 32 ∷ rest)
unsettled_so rest h =
    let p = both_so is_name_or_star is_fault rest h in
    let f = fault_so p.rest p.is_rest in
    let whole : rest ≡ p.first ++ 32 ∷ fault_text f.0 = p.whole ∙ ap (λ (t : List ℕ). p.first ++ 32 ∷ t) f.2 in
    elim (or_cases (same p.first (codes "*")) (is_name_word p.first) p.is_first) as (λ _. IsNoticedLine (codes "unsettled" ++ 32 ∷ rest)) [
      | inl e ↦ record {
        it = entry.UnsettledAll f.0;
        noticed = tt;
        can = f.1;
        is = ap (λ (b : List ℕ). codes "unsettled" ++ 32 ∷ b) (whole ∙ ap (λ (w : List ℕ). w ++ 32 ∷ fault_text f.0) (is_text p.first (codes "*") e)) ∙ sym (line_all_unsettled f.0);
      }
      | inr e ↦ let named = name_word_so p.first e in record {
        it = entry.Unsettled p.first f.0;
        noticed = named.1;
        can = (named.0, f.1);
        is = ap (λ (b : List ℕ). codes "unsettled" ++ 32 ∷ b) whole ∙ sym (line_unsettled p.first f.0);
      }
    ]

parameter_so : (rest : List ℕ) → is_parameter rest ≡ true → IsNoticedLine (codes "parameter" ++ 32 ∷ rest)
parameter_so rest h = by (cut_word rest) refl h
  where
    set_so : (first behind : List ℕ) (it : ParameterName) → rest ≡ first ++ 32 ∷ behind → parameter_of first ≡ Some it → (o : Option Parameter) → parameter_with it behind ≡ o → is_some o ≡ true → IsNoticedLine (codes "parameter" ++ 32 ∷ rest)
    set_so first behind it w e None f k = let none : ⊥ = cc in absurd none
    set_so first behind it w e (Some set) f k =
        let v = (value_law it set behind).0 f in
        let name : first ≡ parameter_name (parameter_set set) = (parameter_law it first).0 e ∙ ap parameter_name (sym v.0) in
        let whole : rest ≡ parameter_name (parameter_set set) ++ 32 ∷ value_word set = w ∙ (λ i. name i ++ 32 ∷ v.1 i) in
        record {
          it = entry.Parameter set;
          noticed = tt;
          can = tt;
          is = ap (λ (b : List ℕ). codes "parameter" ++ 32 ∷ b) whole ∙ sym (line_parameter set);
        }

    named_set : (first behind : List ℕ) → rest ≡ first ++ 32 ∷ behind → (o : Option ParameterName) → parameter_of first ≡ o → has_value o behind ≡ true → IsNoticedLine (codes "parameter" ++ 32 ∷ rest)
    named_set first behind w None e k = let none : ⊥ = cc in absurd none
    named_set first behind w (Some it) e k = set_so first behind it w e (parameter_with it behind) refl k

    by : (cut : Option (List ℕ × List ℕ)) → cut_word rest ≡ cut → is_parameter_of cut ≡ true → IsNoticedLine (codes "parameter" ++ 32 ∷ rest)
    by None e k = let none : ⊥ = cc in absurd none
    by (Some cut) e k = named_set cut.0 cut.1 (cut_whole rest cut e) (parameter_of cut.0) refl k

-- behind a first word that is this one
of_word : (text first rest word : List ℕ) → text ≡ first ++ 32 ∷ rest → same first word ≡ true → IsNoticedLine (word ++ 32 ∷ rest) → IsNoticedLine text
of_word text first rest word w e n = subst IsNoticedLine (sym (with_word text first rest word w e)) n

read_line : (text : List ℕ) → is_entry_text text ≡ true → IsNoticedLine text
unfolding is_entry_text
read_line text h = by (cut_word text) refl h
  where
    fifth : (first rest : List ℕ) → text ≡ first ++ 32 ∷ rest → (v : Bool) → same first (codes "parameter") ≡ v → (if v then is_parameter rest else false) ≡ true → IsNoticedLine text
    fifth first rest w true e k = of_word text first rest (codes "parameter") w e (parameter_so rest k)
    fifth first rest w false e k = let none : ⊥ = cc in absurd none

    fourth : (first rest : List ℕ) → text ≡ first ++ 32 ∷ rest → (v : Bool) → same first (codes "unsettled") ≡ v → (if v then is_unsettled rest else if same first (codes "parameter") then is_parameter rest else false) ≡ true → IsNoticedLine text
    fourth first rest w true e k = of_word text first rest (codes "unsettled") w e (unsettled_so rest k)
    fourth first rest w false e k = fifth first rest w (same first (codes "parameter")) refl k

    third : (first rest : List ℕ) → text ≡ first ++ 32 ∷ rest → (v : Bool) → same first (codes "gone") ≡ v → (if v then is_gone rest else if same first (codes "unsettled") then is_unsettled rest else if same first (codes "parameter") then is_parameter rest else false) ≡ true → IsNoticedLine text
    third first rest w true e k = of_word text first rest (codes "gone") w e (gone_so rest k)
    third first rest w false e k = fourth first rest w (same first (codes "unsettled")) refl k

    second : (first rest : List ℕ) → text ≡ first ++ 32 ∷ rest → (v : Bool) → same first (codes "wrote") ≡ v → (if v then is_wrote rest else if same first (codes "gone") then is_gone rest else if same first (codes "unsettled") then is_unsettled rest else if same first (codes "parameter") then is_parameter rest else false) ≡ true → IsNoticedLine text
    second first rest w true e k = of_word text first rest (codes "wrote") w e (wrote_so rest k)
    second first rest w false e k = third first rest w (same first (codes "gone")) refl k

    one : (first rest : List ℕ) → text ≡ first ++ 32 ∷ rest → (v : Bool) → same first (codes "judged") ≡ v → (if v then is_judged rest else if same first (codes "wrote") then is_wrote rest else if same first (codes "gone") then is_gone rest else if same first (codes "unsettled") then is_unsettled rest else if same first (codes "parameter") then is_parameter rest else false) ≡ true → IsNoticedLine text
    one first rest w true e k = of_word text first rest (codes "judged") w e (judged_so rest k)
    one first rest w false e k = second first rest w (same first (codes "wrote")) refl k

    by : (cut : Option (List ℕ × List ℕ)) → cut_word text ≡ cut → is_entry_of cut ≡ true → IsNoticedLine text
    by None e k = let none : ⊥ = cc in absurd none
    by (Some cut) e k = one cut.0 cut.1 (cut_whole text cut e) (same cut.0 (codes "judged")) refl k

pub noticed_law : (text : List ℕ) (test : Bool) → test ≡ is_entry_text text → (IsTrue test → IsNoticedLine text) × (IsNoticedLine text → IsTrue test)
noticed_law text test e = (λ k. read_line text (sym e ∙ k), λ n. e ∙ (ap is_entry_text n.is ∙ line_read n.it n.noticed n.can))
