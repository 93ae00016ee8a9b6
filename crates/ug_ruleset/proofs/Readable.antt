-- Rules that read again from their canonical texts.
use Rattle.std.proofs.Common.{◌≡◌, ◌<◌, ◌≤◌, ℕ, zero, suc, ◌+◌, length-append, length, arith, Bool, true, false, not, cond, List, [], ◌∷◌, ◌++◌, inl, inr, refl, sym, ap, subst, ◌∙◌}
use Rattle.std.specs.Prelude.{All, IfOk, OnOk, Ok, Err, Result, insert}
use Rattle.std.specs.List.{AllByRecursion, flat_map}
use Rattle.std.proofs.lemmas.Bool.{eqb-true}
use Rattle.std.proofs.lemmas.List.{length-map}
use Rattle.ug_types.specs.Elements.{AllDistinct, Has}
use Rattle.ug_policy.specs.Rules.{ids, marks, rules_in}
use Rattle.std.proofs.lemmas.List.Elements.{All-from_recursion, recursion_from_All}
use Rattle.ug_types.specs.Limits.{text_limit}
use Rattle.ug_types.specs.declared.rule.Rule.{Rule}
use Rattle.ug_types.specs.declared.rule.After.{After}
use Rattle.ug_types.specs.declared.rule.After.TheVariants as after
use Rattle.ug_policy.specs.Edits.{aimed, followed, has_id, inserted, new_entry, removed, retargeted}
use Rattle.ug_policy.specs.Marks.{folder_end, is_permanent}
use Rattle.ug_policy.specs.declared.entry.RuleEntry.{RuleEntry}
use Rattle.ug_rule.specs.Files.{file_read}
use Rattle.ug_rule.specs.Grammar.{WellFormed}
use Rattle.ug_rule.proofs.RuleCuts.{read_well, says_line}
use Rattle.ug_print.specs.Bytes.{CondsOfBytes, QueryOfBytes, RuleOfBytes}
use Rattle.ug_print.specs.RuleTexts.{rules_text_of}
use Rattle.ug_print.specs.Words.{rule_text}
use Rattle.ug_print.proofs.Printed.{printed}
use Rattle.ug_print.proofs.RuleTexts.{text_read}
use Rattle.ug_ruleset.specs.RuleEdits.{CanEdit, EditReads, IsButForTarget, edited_by}
use Rattle.ug_ruleset.specs.RuleFile.{CanSave, FitsFile, IsRuleFile, IsSaveable, ReadsBack, permanent_rules, permanent_text}
use Rattle.ug_ruleset.specs.declared.edit.Edit.{Edit}
use Rattle.ug_ruleset.specs.declared.edit.Edit.TheVariants.{Insert, Remove, Retarget}

-- ---- the text of the permanent ones

well_permanent : (es : List RuleEntry) → AllByRecursion ReadsBack (rules_in es) → AllByRecursion WellFormed (permanent_rules es)
well_permanent [] h = tt
well_permanent (e ∷ es) h = by_flag (is_permanent e.mark) e.rule (permanent_rules es) h.0 (well_permanent es h.1)
  where
    by_flag : (b : Bool) (rule : Rule) (rules : List Rule) → ReadsBack rule → AllByRecursion WellFormed rules → AllByRecursion WellFormed (cond b (rule ∷ []) [] ++ rules)
    by_flag false rule rules r w = w
    by_flag true rule rules r w = (read_well rule (rule_text rule, r), w)

-- each rule is one that some line reads as

well_each : (es : List RuleEntry) → AllByRecursion ReadsBack (rules_in es) → AllByRecursion (λ (e : RuleEntry). WellFormed e.rule) es
well_each [] h = tt
well_each (e ∷ es) h = (read_well e.rule (rule_text e.rule, h.0), well_each es h.1)

pub well_all : (es : List RuleEntry) → All ReadsBack (rules_in es) → All (λ (e : RuleEntry). WellFormed e.rule) es
well_all es h = All-from_recursion (λ (e : RuleEntry). WellFormed e.rule) es (well_each es (recursion_from_All ReadsBack (rules_in es) h))

permanent_reads : (es : List RuleEntry) → All ReadsBack (rules_in es) → All RuleOfBytes (permanent_rules es) → file_read (rules_text_of (permanent_rules es)) ≡ Ok (permanent_rules es)
permanent_reads es h b = text_read (permanent_rules es) (All-from_recursion WellFormed (permanent_rules es) (well_permanent es (recursion_from_All ReadsBack (rules_in es) h))) b

-- a text that was made of them
pub text_reads : {E : Type 0} (es : List RuleEntry) (rules : List Rule) (r : Result (List ℕ) E) → rules ≡ permanent_rules es → All ReadsBack (rules_in es) → IfOk r (λ text. text ≡ rules_text_of rules) → OnOk r (All RuleOfBytes rules) → IfOk r (λ text. file_read text ≡ Ok (permanent_rules es))
text_reads es rules (Ok text) same h e b = ap (λ (t : List ℕ). file_read t) (e ∙ ap (λ (rs : List Rule). rules_text_of rs) same) ∙ permanent_reads es h (subst (All RuleOfBytes) same b)
text_reads es rules (Err fault) same h e b = tt

-- ---- edits keep them

back_append : (es fs : List RuleEntry) → AllByRecursion ReadsBack (rules_in es) → AllByRecursion ReadsBack (rules_in fs) → AllByRecursion ReadsBack (rules_in (es ++ fs))
back_append [] fs a b = b
back_append (e ∷ es) fs a b = (a.0, back_append es fs a.1 b)

back_followed : (id : ℕ) (added : RuleEntry) (es : List RuleEntry) → ReadsBack added.rule → AllByRecursion ReadsBack (rules_in es) → AllByRecursion ReadsBack (rules_in (flat_map (followed id added) es))
back_followed id added [] new a = tt
back_followed id added (e ∷ es) new a = back_append (followed id added e) (flat_map (followed id added) es) (by_id (has_id id e)) (back_followed id added es new a.1)
  where
    by_id : (b : Bool) → AllByRecursion ReadsBack (rules_in (cond b (e ∷ added ∷ []) (e ∷ [])))
    by_id true = (a.0, (new, tt))
    by_id false = (a.0, tt)

back_put : (es : List RuleEntry) (i : ℕ) (added : RuleEntry) → ReadsBack added.rule → AllByRecursion ReadsBack (rules_in es) → AllByRecursion ReadsBack (rules_in (insert es i added))
back_put [] zero added new a = (new, tt)
back_put [] (suc i) added new a = (new, tt)
back_put (e ∷ es) zero added new a = (new, a)
back_put (e ∷ es) (suc i) added new a = (a.0, back_put es i added new a.1)

back_inserted : (place : After) (added : RuleEntry) (es : List RuleEntry) → ReadsBack added.rule → AllByRecursion ReadsBack (rules_in es) → AllByRecursion ReadsBack (rules_in (inserted place added es))
back_inserted after.End added es new a = back_append es (added ∷ []) a (new, tt)
back_inserted after.Front added es new a = by (is_permanent added.mark)
  where
    by : (b : Bool) → AllByRecursion ReadsBack (rules_in (cond b (insert es (folder_end (marks es)) added) (added ∷ es)))
    by true = back_put es (folder_end (marks es)) added new a
    by false = (new, a)
back_inserted (after.Rule id) added es new a = back_followed id added es new a

back_removed : (id : ℕ) (es : List RuleEntry) → AllByRecursion ReadsBack (rules_in es) → AllByRecursion ReadsBack (rules_in (removed id es))
back_removed id [] a = tt
back_removed id (e ∷ es) a = by_id (not (has_id id e)) (back_removed id es a.1)
  where
    by_id : (b : Bool) → AllByRecursion ReadsBack (rules_in (removed id es)) → AllByRecursion ReadsBack (rules_in (cond b (e ∷ removed id es) (removed id es)))
    by_id true rest = (a.0, rest)
    by_id false rest = rest

back_retargeted : (id : ℕ) (rule : Rule) (es : List RuleEntry) → IsButForTarget id rule es → ReadsBack rule → AllByRecursion ReadsBack (rules_in es) → AllByRecursion ReadsBack (rules_in (retargeted id rule.target es))
back_retargeted id rule [] same new a = tt
back_retargeted id rule (e ∷ es) same new a = (by_id (has_id id e) refl, back_retargeted id rule es (λ f has. same f (inr has)) new a.1)
  where
    by_id : (b : Bool) → has_id id e ≡ b → ReadsBack (cond b (aimed rule.target e) e).rule
    by_id true is = subst ReadsBack (sym (same e (inl refl) (eqb-true e.id id is))) new
    by_id false is = a.0

back_edited : (edit : Edit) (next : ℕ) (es : List RuleEntry) → EditReads edit es → AllByRecursion ReadsBack (rules_in es) → AllByRecursion ReadsBack (rules_in (edited_by edit next es))
back_edited (Insert place rule mark) next es new a = back_inserted place (new_entry next rule mark) es new a
back_edited (Remove id) next es new a = back_removed id es a
back_edited (Retarget id rule) next es new a = back_retargeted id rule es new.1 new.0 a

pub edited_reads : (edit : Edit) (next : ℕ) (es : List RuleEntry) → EditReads edit es → All ReadsBack (rules_in es) → All ReadsBack (rules_in (edited_by edit next es))
edited_reads edit next es new a = All-from_recursion ReadsBack (rules_in (edited_by edit next es)) (back_edited edit next es new (recursion_from_All ReadsBack (rules_in es) a))

-- ---- the text of a list that is edited, or not

pub record TextOf {E : Type 0} (too_long : E) (es : List RuleEntry) (r : Result (List ℕ) E) : Type 0 where
  pub text : IfOk r (λ text. text ≡ permanent_text es)
  pub reads : IfOk r (λ text. file_read text ≡ Ok (permanent_rules es))
  pub fits : OnOk r (FitsFile es)
  pub saves : length (permanent_rules es) ≤ 65536 → OnOk r (IsSaveable es)
  pub long : r ≡ Err too_long → FitsFile es → ⊥

pub text_of_list : {E : Type 0} (too_long : E) (es : List RuleEntry) (rules : List Rule) (r : Result (List ℕ) E) → rules ≡ permanent_rules es → All ReadsBack (rules_in es) → IfOk r (λ text. text ≡ rules_text_of rules) → OnOk r (All RuleOfBytes rules) → IfOk r (λ text. length text ≤ text_limit) → (r ≡ Err too_long → text_limit < length (rules_text_of rules)) → TextOf too_long es r
text_of_list {E} too_long es rules r same back is bytes fits long = record {
  text = by_text r is;
  reads = text_reads es rules r same back is bytes;
  fits = by_fits r is fits;
  saves = λ few. by_saves few r is bytes fits;
  long = λ e k. let over = long e in let under : length (rules_text_of rules) ≤ text_limit = subst (λ (rs : List Rule). length (rules_text_of rs) ≤ text_limit) (sym same) k in omega (arith, over, under);
}
  where
    by_text : (r : Result (List ℕ) E) → IfOk r (λ text. text ≡ rules_text_of rules) → IfOk r (λ text. text ≡ permanent_text es)
    by_text (Ok text) is = is ∙ ap (λ (rs : List Rule). rules_text_of rs) same
    by_text (Err e) is = tt

    by_fits : (r : Result (List ℕ) E) → IfOk r (λ text. text ≡ rules_text_of rules) → IfOk r (λ text. length text ≤ text_limit) → OnOk r (FitsFile es)
    by_fits (Ok text) is h = subst (λ (t : List ℕ). length t ≤ text_limit) (is ∙ ap (λ (rs : List Rule). rules_text_of rs) same) h
    by_fits (Err e) is h = tt

    by_saves : length (permanent_rules es) ≤ 65536 → (r : Result (List ℕ) E) → IfOk r (λ text. text ≡ rules_text_of rules) → OnOk r (All RuleOfBytes rules) → IfOk r (λ text. length text ≤ text_limit) → OnOk r (IsSaveable es)
    by_saves few (Ok text) is b h = record {
      reads = permanent_reads es back (subst (All RuleOfBytes) same b);
      fits = by_fits (Ok text) is h;
      few = few;
    }
    by_saves few (Err e) is b h = tt

-- ---- how many permanent rules there are

pub few_saved : (es : List RuleEntry) → length (permanent_rules es) ≤ length es
few_saved [] = omega arith
few_saved (e ∷ es) = by_flag (is_permanent e.mark) (few_saved es)
  where
    by_flag : (b : Bool) → length (permanent_rules es) ≤ length es → length (cond b (e.rule ∷ []) [] ++ permanent_rules es) ≤ suc (length es)
    by_flag true h = omega (arith, h)
    by_flag false h = omega (arith, h)

none_followed : (id : ℕ) (added : RuleEntry) (es : List RuleEntry) → (Has (ids es) id → ⊥) → length (flat_map (followed id added) es) ≤ length es
none_followed id added [] h = omega arith
none_followed id added (e ∷ es) h = by_id (has_id id e) refl (none_followed id added es (λ k. h (inr k)))
  where
    by_id : (b : Bool) → has_id id e ≡ b → length (flat_map (followed id added) es) ≤ length es → length (cond b (e ∷ added ∷ []) (e ∷ []) ++ flat_map (followed id added) es) ≤ suc (length es)
    by_id true is k = absurd (h (inl (eqb-true e.id id is)))
    by_id false is k = omega (arith, k)

one_followed : (id : ℕ) (added : RuleEntry) (es : List RuleEntry) → AllDistinct (ids es) → length (flat_map (followed id added) es) ≤ length es + 1
one_followed id added [] d = omega arith
one_followed id added (e ∷ es) d = by_id (has_id id e) refl (one_followed id added es d.1)
  where
    by_id : (b : Bool) → has_id id e ≡ b → length (flat_map (followed id added) es) ≤ length es + 1 → length (cond b (e ∷ added ∷ []) (e ∷ []) ++ flat_map (followed id added) es) ≤ suc (length es) + 1
    by_id true is k =
        let rest : length (flat_map (followed id added) es) ≤ length es = none_followed id added es (subst (λ (n : ℕ). Has (ids es) n → ⊥) (eqb-true e.id id is) d.0) in
        omega (arith, rest)
    by_id false is k = omega (arith, k)

one_put : (es : List RuleEntry) (i : ℕ) (added : RuleEntry) → length (insert es i added) ≡ length es + 1
one_put [] zero added = refl
one_put [] (suc i) added = refl
one_put (e ∷ es) zero added = omega arith
one_put (e ∷ es) (suc i) added = omega (arith, one_put es i added)

few_inserted : (place : After) (added : RuleEntry) (es : List RuleEntry) → AllDistinct (ids es) → length (inserted place added es) ≤ length es + 1
few_inserted after.End added es d = omega (arith, length-append es (added ∷ []))
few_inserted after.Front added es d = by (is_permanent added.mark)
  where
    by : (b : Bool) → length (cond b (insert es (folder_end (marks es)) added) (added ∷ es)) ≤ length es + 1
    by true = omega (arith, one_put es (folder_end (marks es)) added)
    by false = omega arith
few_inserted (after.Rule id) added es d = one_followed id added es d

few_removed : (id : ℕ) (es : List RuleEntry) → length (removed id es) ≤ length es
few_removed id [] = omega arith
few_removed id (e ∷ es) = by_id (not (has_id id e)) (few_removed id es)
  where
    by_id : (b : Bool) → length (removed id es) ≤ length es → length (cond b (e ∷ removed id es) (removed id es)) ≤ suc (length es)
    by_id true k = omega (arith, k)
    by_id false k = omega (arith, k)

few_by : (edit : Edit) (next : ℕ) (es : List RuleEntry) → CanEdit edit es → AllDistinct (ids es) → length es ≤ 65536 → length (edited_by edit next es) ≤ 65536
few_by (Insert place rule mark) next es can d few =
    let less : length es < 65536 = can.1 in
    let more : length (inserted place (new_entry next rule mark) es) ≤ length es + 1 = few_inserted place (new_entry next rule mark) es d in
    omega (arith, less, more)
few_by (Remove id) next es can d few = let k : length (removed id es) ≤ length es = few_removed id es in omega (arith, k, few)
few_by (Retarget id rule) next es can d few = let k = length-map es (λ (e : RuleEntry). cond (has_id id e) (aimed rule.target e) e) in omega (arith, k, few)

-- so a list has room for those that an edit leaves
pub few_edited : (edit : Edit) (next : ℕ) (es : List RuleEntry) → CanEdit edit es → AllDistinct (ids es) → length es ≤ 65536 → length (permanent_rules (edited_by edit next es)) ≤ 65536
few_edited edit next es can d few =
    let whole = few_by edit next es can d few in
    let part = few_saved (edited_by edit next es) in
    omega (arith, whole, part)

-- what can be saved is a rule file's text
pub saved_file : (rules : List Rule) → CanSave rules → IsRuleFile rules (rules_text_of rules)
saved_file rules h = record { reads = h.reads; within = h.fits; fits = h.fits; few = h.few }

-- a rule in memory, of which each text is bytes
pub reads_back : (rule : Rule) → QueryOfBytes rule.query → CondsOfBytes rule.conds → WellFormed rule → ReadsBack rule
reads_back rule q c well = says_line (rule_text rule) rule (printed rule well (record { query = q; conds = c }))
