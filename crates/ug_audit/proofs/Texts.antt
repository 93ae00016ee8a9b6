-- What the members took of entries that were noted.
use Rattle.std.proofs.Common.{◌≡◌, ℕ, ◌≤◌, Bool, true, false, List, [], ◌∷◌, ◌++◌, length, refl, sym, ap, ◌∙◌, subst, append_assoc, arith}
use Rattle.std.specs.Prelude.{Option, Some, None, if◌then◌else◌}
use Rattle.std.specs.Io.KnownBytes.{Appends}
use Rattle.std.proofs.lemmas.List.{append-nil}
use Rattle.ug_types.specs.Ends.{Rose}
use Rattle.ug_audit.specs.declared.entry.Entry.{Entry}
use Rattle.ug_audit.specs.Lines.{entry_line}
use Rattle.ug_audit.specs.Noting.{without_drops, due_behind, NotesEach, NotesEntries}
use Rattle.ug_audit.specs.Panels.{Member, TakesAs, NotesAll, live, newly_dropped}
use Rattle.ug_audit.specs.Texts.{entries_text, TookAs, TookAll}
use Rattle.ug_audit.proofs.Noting.{live_falls}

appends_none : (a : Option (List ℕ)) → Appends a a []
appends_none None = tt
appends_none (Some xs) = sym (append-nil xs)

appends_both : (a b c : Option (List ℕ)) (xs ys : List ℕ) → Appends a b xs → Appends b c ys → Appends a c (xs ++ ys)
appends_both None b c xs ys h k = tt
appends_both (Some a) None c xs ys h k = absurd h
appends_both (Some a) (Some b) None xs ys h k = absurd k
appends_both (Some a) (Some b) (Some c) xs ys h k = k ∙ ap (λ (l : List ℕ). l ++ ys) h ∙ append_assoc a xs ys

rose_by : (a b c : ℕ) → a ≤ b → b ≤ c → Rose b c → Rose a c
rose_by a b c le more rose lt = grind (arith, le, more, rose, lt)

took_one_none : (was : Bool) (m : Member) → TookAs was was [] m m
took_one_none true m = refl
took_one_none false m = (appends_none m.text, omega arith)

took_none : (ms : List Member) → TookAll [] ms ms
took_none [] = tt
took_none (m ∷ ms) = (took_one_none m.dropped m, took_none ms)

took_line : (was is : Bool) (line : List ℕ) (m n : Member) → TakesAs was is line m n → TookAs was is (line ++ 10 ∷ []) m n
took_line true true line m n h = h
took_line true false line m n h = absurd h
took_line false false line m n h = (h.0, h.1.0)
took_line false true line m n h = (h.0.0, h.0.1, h.0.2, h.0.3, h.1.0, h.2)

pub took_all_line : (line : List ℕ) (ms ns : List Member) → NotesAll line ms ns → TookAll (line ++ 10 ∷ []) ms ns
took_all_line line [] [] h = tt
took_all_line line [] (n ∷ ns) h = absurd h
took_all_line line (m ∷ ms) [] h = absurd h
took_all_line line (m ∷ ms) (n ∷ ns) h = (took_line m.dropped n.dropped line m n h.0, took_all_line line ms ns h.1)

took_both : (was mid is : Bool) (xs ys : List ℕ) (l m n : Member) → TookAs was mid xs l m → TookAs mid is ys m n → TookAs was is (xs ++ ys) l n
took_both true true true xs ys l m n h k = k ∙ h
took_both true true false xs ys l m n h k = absurd k
took_both true false is xs ys l m n h k = absurd h
took_both false false false xs ys l m n h k = (appends_both l.text m.text n.text xs ys h.0 k.0, omega (arith, h.1, k.1))
took_both false false true xs ys l m n h k = (
  xs ++ k.0,
  k.1,
  ap (λ (t : List ℕ). xs ++ t) k.2 ∙ sym (append_assoc xs k.0 k.1),
  appends_both l.text m.text n.text xs k.0 h.0 k.3,
  omega (arith, h.1, k.4),
  rose_by l.faults m.faults n.faults h.1 k.4 k.5,
)
took_both false true false xs ys l m n h k = absurd k
took_both false true true xs ys l m n h k =
    subst (λ (x : Member). TookAs false true (xs ++ ys) l x) (sym k)
    (h.0, h.1 ++ ys, ap (λ (t : List ℕ). t ++ ys) h.2 ∙ append_assoc h.0 h.1 ys, h.3, h.4, h.5)

pub took_all_both : (xs ys : List ℕ) (ls ms ns : List Member) → TookAll xs ls ms → TookAll ys ms ns → TookAll (xs ++ ys) ls ns
took_all_both xs ys [] [] [] h k = tt
took_all_both xs ys [] [] (n ∷ ns) h k = absurd k
took_all_both xs ys [] (m ∷ ms) ns h k = absurd h
took_all_both xs ys (l ∷ ls) [] ns h k = absurd h
took_all_both xs ys (l ∷ ls) (m ∷ ms) [] h k = absurd k
took_all_both xs ys (l ∷ ls) (m ∷ ms) (n ∷ ns) h k =
    (took_both l.dropped m.dropped n.dropped xs ys l m n h.0 k.0, took_all_both xs ys ls ms ns h.1 k.1)

pub took_each : (due : List ℕ) (es : List Entry) (before : List Member) (later : List ℕ) (after : List Member) → NotesEach due es before later after → TookAll (entries_text es) before after
took_each due [] before later after h = subst (λ (ms : List Member). TookAll [] before ms) (sym h.1) (took_none before)
took_each due (e ∷ es) before later after h =
    took_all_both (entry_line e ++ 10 ∷ []) (entries_text es) before h.0 after (took_all_line (entry_line e) before h.0 h.2) (took_each (due_behind due (newly_dropped 0 before h.0)) es h.0 later after h.3)

pub took_entries : (es : List Entry) (before after : List Member) → NotesEntries es before after → TookAll (entries_text es) before after
took_entries es before after h = took_each [] es before [] after h

-- ---- where no member is left

pub empty : (xs : List ℕ) → length xs ≡ 0 → xs ≡ []
empty [] h = refl
empty (x ∷ xs) h = absurd (omega (arith, h))

pub all_entries : (es : List Entry) (before : List Member) (later : List ℕ) (after : List Member) → live before ≡ 0 → NotesEach [] es before later after → without_drops es ≡ es
all_entries [] before later after none h = refl
all_entries (e ∷ es) before later after none h =
    let falls = live_falls 0 (entry_line e) before h.0 h.2 in
    let left : live h.0 ≡ 0 = omega (arith, falls, none) in
    let newly : newly_dropped 0 before h.0 ≡ [] = empty (newly_dropped 0 before h.0) (omega (arith, falls, none)) in
    let rest = subst (λ (due : List ℕ). NotesEach due es h.0 later after) newly h.3 in
    subst (λ (b : Bool). (if b then without_drops es else e ∷ without_drops es) ≡ e ∷ es) (sym h.1) (ap (λ (l : List Entry). e ∷ l) (all_entries es h.0 later after left rest))
