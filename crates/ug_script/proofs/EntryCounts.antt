-- Entries have by their kinds the numbers that their lines have.
use Rattle.std.proofs.Common.{◌≡◌, ◌<◌, ◌≤◌, ℕ, ◌+◌, Bool, true, false, cond, nat_eq, List, [], ◌∷◌, ◌++◌, length, suc, drop, drop-cons, get_or, inl, inr, refl, sym, ap, subst, ◌∙◌, append_assoc, append-nil, arith}
use Rattle.std.specs.List.{starts_with}
use Rattle.std.specs.Prelude.{codes, decimal, Ok, Err}
use Rattle.std.proofs.lemmas.List.{drop_all}
use Rattle.ug_types.specs.Elements.{Has}
use Rattle.ug_types.specs.Targets.{target_word}
use Rattle.ug_audit.specs.Lines.{and_words, cause_words, fault_words, entry_line}
use Rattle.ug_audit.specs.Printed.{IsEntry}
use Rattle.ug_audit.specs.declared.entry.Entry.{Entry}
use Rattle.ug_audit.specs.declared.entry.Entry.TheVariants as entry
use Rattle.ug_audit.proofs.EntryRead.{entry_on_line}
use Rattle.ug_lines.specs.Lines.{lines_of}
use Rattle.ug_lines.specs.Splitting.{Closed, IsLine}
use Rattle.ug_lines.proofs.FirstLine.{nothing}
use Rattle.ug_lines.proofs.TextLines.{split_only, text_lines}
use Rattle.ug_proto.specs.declared.reply.Reply.{Reply}
use Rattle.ug_script.specs.Replay.{EventOutcome, lines_text, outcome_text}
use Rattle.ug_script.specs.declared.totals.Totals.{Totals}
use Rattle.ug_script.specs.Summing.{begins_event, count, bounded_count, sets_verdict, tells_unsettled, tells_write, with_lines}
use Rattle.ug_script.proofs.Counted.{four, lines_behind, one_more, with_both}
use Rattle.ug_script.proofs.WholeLines.{outcome_whole}

-- ---- one line

not_in_line : (line : List ℕ) → ¬ Has line 10 → IsLine line
not_in_line [] none = tt
not_in_line (b ∷ line) none = ((λ e. none (inl e)), not_in_line line (λ h. none (inr h)))

-- a line stands before the others
line_before : (line rest : List ℕ) → IsLine line → lines_of ((line ++ 10 ∷ []) ++ rest) ≡ line ∷ lines_of rest
line_before line rest h =
    ap lines_of (append_assoc line (10 ∷ []) rest)
    ∙ split_only (line ++ 10 ∷ rest) (line ∷ lines_of rest) (Closed line rest (lines_of rest) h ((text_lines rest (lines_of rest)).0 refl))

-- ---- how a line begins

abbrev begins : List ℕ → List ℕ → Bool
begins line front = starts_with nat_eq line front

-- what the line begins with tells these kinds
abbrev TellsKinds : List ℕ → Bool → Bool → Bool → Bool → Type 0
TellsKinds line event verdict write unsettled =
    (begins line (codes "event ") ≡ event) × (begins line (codes "judged ") ≡ verdict)
    × (begins line (codes "wrote ") ≡ write) × (begins line (codes "unsettled ") ≡ unsettled)

in_front : (text : List ℕ) (words : List (List ℕ)) → (behind : List ℕ) × (and_words text words ≡ text ++ behind)
in_front text [] = ([], sym (append-nil text))
in_front text (word ∷ words) = let k = in_front (text ++ 32 ∷ word) words in (32 ∷ (word ++ k.0), k.1 ∙ append_assoc text (32 ∷ word) k.0)

by_first : (text word : List ℕ) (words : List (List ℕ)) (a b c d : Bool) → ((rest : List ℕ) → TellsKinds ((text ++ 32 ∷ word) ++ rest) a b c d) → TellsKinds (and_words text (word ∷ words)) a b c d
by_first text word words a b c d h =
    let k = in_front (text ++ 32 ∷ word) words in
    subst (λ (line : List ℕ). TellsKinds line a b c d) (sym k.1) (h k.0)

entry_tells : (e : Entry) → TellsKinds (entry_line e) (begins_event e) (sets_verdict e) (tells_write e) (tells_unsettled e)
unfolding entry_line
entry_tells (entry.Event number moment) = (refl, refl, refl, refl)
entry_tells (entry.Order number moment who) = (refl, refl, refl, refl)
entry_tells (entry.Hint number moment) = (refl, refl, refl, refl)
entry_tells (entry.HintRefused kind place) = (refl, refl, refl, refl)
entry_tells (entry.Save became) = (refl, refl, refl, refl)
entry_tells (entry.Judged number name held verdict why) = by_first (codes "judged") (decimal number) (name ∷ target_word verdict ∷ cause_words why) false true false false (λ rest. (refl, refl, refl, refl))
entry_tells (entry.Intent number name bytes) = (refl, refl, refl, refl)
entry_tells (entry.Wrote number name bytes outcome) = (refl, refl, refl, refl)
entry_tells (entry.Gone number name) = (refl, refl, refl, refl)
entry_tells (entry.Unsettled name why) = by_first (codes "unsettled") name (fault_words why) false false false true (λ rest. (refl, refl, refl, refl))
entry_tells (entry.UnsettledAll why) = by_first (codes "unsettled") (codes "*") (fault_words why) false false false true (λ rest. (refl, refl, refl, refl))
entry_tells (entry.Rules made id) = (refl, refl, refl, refl)
entry_tells (entry.Parameter set) = (refl, refl, refl, refl)
entry_tells (entry.Reply (Ok done)) = (refl, refl, refl, refl)
entry_tells (entry.Reply (Err refusal)) = (refl, refl, refl, refl)
entry_tells (entry.Dropped member) = (refl, refl, refl, refl)
entry_tells (entry.End number) = (refl, refl, refl, refl)

-- ---- numbers

abbrev one_if : Bool → ℕ
one_if b = cond b 1 0

if_kept : {X : Type 0} (x : X) (b : Bool) → length (cond b (x ∷ []) []) ≡ one_if b
if_kept x true = refl
if_kept x false = refl

line_counts : (line front : List ℕ) (b : Bool) → begins line front ≡ b → count front (line ∷ []) ≡ one_if b
line_counts line front b e = ap (λ (c : Bool). length (cond c (line ∷ []) [])) e ∙ if_kept line b

abbrev more : ℕ → Bool → ℕ
more n b = bounded_count (n + one_if b)

-- numbers with those that an entry's kind tells have those of its line
pub kinds_counted : (e : Entry) (t u : Totals) → u.events ≡ more t.events (begins_event e) → u.judged ≡ more t.judged (sets_verdict e) → u.writes ≡ more t.writes (tells_write e) → u.unsettled ≡ more t.unsettled (tells_unsettled e) → u ≡ with_lines (entry_line e ∷ []) t
kinds_counted e t u a b c d =
    let h = entry_tells e in
    four (a ∙ ap (λ (n : ℕ). bounded_count (t.events + n)) (sym (line_counts (entry_line e) (codes "event ") (begins_event e) h.0)))
    (b ∙ ap (λ (n : ℕ). bounded_count (t.judged + n)) (sym (line_counts (entry_line e) (codes "judged ") (sets_verdict e) h.1)))
    (c ∙ ap (λ (n : ℕ). bounded_count (t.writes + n)) (sym (line_counts (entry_line e) (codes "wrote ") (tells_write e) h.2)))
    (d ∙ ap (λ (n : ℕ). bounded_count (t.unsettled + n)) (sym (line_counts (entry_line e) (codes "unsettled ") (tells_unsettled e) h.3)))

-- ---- the lines of entries

abbrev pub of_entries : List Entry → Totals → Totals
of_entries es t = with_lines (lines_of (lines_text es)) t

one_before : (e : Entry) (es : List Entry) (t u : Totals) → IsEntry e → u ≡ with_lines (entry_line e ∷ []) t → of_entries es u ≡ of_entries (e ∷ es) t
one_before e es t u h is =
    ap (of_entries es) is
    ∙ one_more (entry_line e) (lines_of (lines_text es)) t
    ∙ ap (λ (lines : List (List ℕ)). with_lines lines t) (sym (line_before (entry_line e) (lines_text es) (not_in_line (entry_line e) (entry_on_line e h))))

-- one of them more is counted
pub entry_next : (es : List Entry) (i : ℕ) (e : Entry) (t u : Totals) → i < length es → e ≡ get_or es i e → IsEntry e → u ≡ with_lines (entry_line e ∷ []) t → of_entries (drop (i + 1) es) u ≡ of_entries (drop i es) t
entry_next es i e t u lt is h counted =
    let one : suc i ≡ i + 1 = omega arith in
    let next : drop i es ≡ e ∷ drop (i + 1) es = drop-cons es i e lt ∙ ap (λ (x : Entry). x ∷ drop (suc i) es) (sym is) ∙ ap (λ (k : ℕ). e ∷ drop k es) one in
    one_before e (drop (i + 1) es) t u h counted ∙ ap (λ (xs : List Entry). of_entries xs t) (sym next)

pub none_next : (line : List ℕ) (t u : Totals) → u ≡ with_lines (line ∷ []) t → with_lines [] u ≡ u
none_next line t u is = ap (with_lines []) is ∙ with_both (line ∷ []) [] t ∙ sym is

-- all of them are
pub all_counted : (es : List Entry) (i : ℕ) (t u : Totals) → length es ≤ i → with_lines [] t ≡ t → of_entries (drop i es) t ≡ of_entries es u → t ≡ of_entries es u
all_counted es i t u past none whole =
    sym none
    ∙ ap (λ (lines : List (List ℕ)). with_lines lines t) (sym (nothing [] refl))
    ∙ ap (λ (xs : List Entry). of_entries xs t) (sym (drop_all i es past))
    ∙ whole

-- ---- an event

pub text_behind : (outcome : EventOutcome) (passed : List ℕ) (t u : Totals) → u ≡ with_lines (lines_of (outcome_text outcome)) t → with_lines (lines_of passed) u ≡ with_lines (lines_of (outcome_text outcome ++ passed)) t
text_behind outcome passed t u is =
    ap (with_lines (lines_of passed)) is
    ∙ with_both (lines_of (outcome_text outcome)) (lines_of passed) t
    ∙ ap (λ (lines : List (List ℕ)). with_lines lines t) (sym (lines_behind (outcome_text outcome) passed (outcome_whole outcome)))
