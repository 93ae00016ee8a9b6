-- A line of the journal begins as no reply does.
use Rattle.std.proofs.Common.{◌≡◌, ℕ, Bool, true, false, nat_eq, List, [], ◌∷◌, ◌++◌, take, Ok, Err, refl, sym, ap, ◌∙◌, append_assoc}
use Rattle.std.specs.Prelude.{codes, decimal, if◌then◌else◌}
use Rattle.std.specs.Cmp.Lexicographic.{pointwise}
use Rattle.std.proofs.lemmas.Bool.{false≢true}
use Rattle.std.proofs.lemmas.List.{append-nil}
use Rattle.ug_audit.specs.Lines.{and_words, cause_words, fault_words, entry_line}
use Rattle.ug_types.specs.Targets.{target_word}
use Rattle.ug_audit.specs.declared.entry.Entry.{Entry}
use Rattle.ug_audit.specs.declared.entry.Entry.TheVariants as entry
use Rattle.ug_audit.specs.declared.start_entry.StartEntry.{StartEntry}
use Rattle.ug_audit.specs.declared.start_entry.StartEntry.TheVariants as start
use Rattle.ug_audit.specs.StartLines.{start_line}
use Rattle.ug_proto.specs.declared.reply.Reply.{Reply}
use Rattle.ug_proto.specs.declared.reply.Reply.TheVariants.{Lines, Refused}
use Rattle.ug_proto.specs.Replies.{reply_text}
use Rattle.ug_proto.proofs.RefusalNumbers.{line_parts}

-- the first bytes are those of `ok ` or of `refused `
abbrev as_reply : List ℕ → Bool
as_reply text = if pointwise nat_eq (take 3 text) (codes "ok ") then true else pointwise nat_eq (take 3 text) (codes "ref")

reply_so : (reply : Reply) (rest : List ℕ) → as_reply (reply_text reply ++ rest) ≡ true
unfolding reply_text
reply_so (Lines lines) rest = refl
reply_so (Refused refusal) rest = ap (λ (l : List ℕ). as_reply (l ++ rest)) (line_parts refusal)

-- a text stands in front of the words behind it
in_front : (text : List ℕ) (words : List (List ℕ)) → (behind : List ℕ) × (and_words text words ≡ text ++ behind)
in_front text [] = ([], sym (append-nil text))
in_front text (word ∷ words) = let k = in_front (text ++ 32 ∷ word) words in (32 ∷ (word ++ k.0), k.1 ∙ append_assoc text (32 ∷ word) k.0)

by_first : (text : List ℕ) (words : List (List ℕ)) (more : List ℕ) → ((rest : List ℕ) → as_reply (text ++ rest) ≡ false) → as_reply (and_words text words ++ more) ≡ false
by_first text words more h =
    let k = in_front text words in
    ap (λ (l : List ℕ). as_reply (l ++ more)) k.1 ∙ ap as_reply (append_assoc text k.0 more) ∙ h (k.0 ++ more)

entry_not : (e : Entry) (more : List ℕ) → as_reply (entry_line e ++ more) ≡ false
unfolding entry_line
entry_not (entry.Event number moment) more = refl
entry_not (entry.Order number moment who) more = refl
entry_not (entry.Hint number moment) more = refl
entry_not (entry.Save became) more = refl
entry_not (entry.Judged number name held verdict why) more = by_first (codes "judged") (decimal number ∷ name ∷ target_word verdict ∷ cause_words why) more (λ rest. refl)
entry_not (entry.Intent number name bytes) more = refl
entry_not (entry.Wrote number name bytes outcome) more = refl
entry_not (entry.Gone number name) more = refl
entry_not (entry.Unsettled name why) more = by_first (codes "unsettled") (name ∷ fault_words why) more (λ rest. refl)
entry_not (entry.UnsettledAll why) more = by_first (codes "unsettled") (codes "*" ∷ fault_words why) more (λ rest. refl)
entry_not (entry.HintRefused kind place) more = refl
entry_not (entry.Rules made id) more = refl
entry_not (entry.Parameter set) more = refl
entry_not (entry.Reply (Ok done)) more = refl
entry_not (entry.Reply (Err refusal)) more = refl
entry_not (entry.Dropped member) more = refl
entry_not (entry.End number) more = refl

pub entry_or_reply : (e : Entry) (reply : Reply) (more rest : List ℕ) → entry_line e ++ more ≡ reply_text reply ++ rest → ⊥
entry_or_reply e reply more rest h = false≢true (sym (entry_not e more) ∙ ap as_reply h ∙ reply_so reply rest)

start_not : (e : StartEntry) (more : List ℕ) → as_reply (start_line e ++ more) ≡ false
unfolding start_line
start_not (start.UnusedKey line) more = refl
start_not (start.Refused what line kind place) more = refl

pub start_or_reply : (e : StartEntry) (reply : Reply) (more rest : List ℕ) → start_line e ++ more ≡ reply_text reply ++ rest → ⊥
start_or_reply e reply more rest h = false≢true (sym (start_not e more) ∙ ap as_reply h ∙ reply_so reply rest)
