-- What is said to a session, and what is sent, leaves its lines.
use Rattle.std.proofs.Common.{◌≡◌, ℕ, ◌+◌, Bool, true, false, cond, not, nat_le, List, [], ◌∷◌, ◌++◌, length, refl, sym, ap, ◌∙◌, subst, append_assoc}
use Rattle.ug_sessions.specs.declared.session.Session.{Session}
use Rattle.ug_sessions.specs.declared.session.Why.{Why}
use Rattle.ug_sessions.specs.declared.session.Why.TheVariants as why
use Rattle.ug_sessions.specs.declared.session.Life.{Life}
use Rattle.ug_sessions.specs.declared.session.Life.TheVariants as life
use Rattle.ug_sessions.specs.Sessions.{is_open_life, is_overlong, doomed_for}
use Rattle.ug_sessions.specs.Answering.{PutsBehind, PutsWhere, PutsWithin, put_if, with_text, with_answer, AnswersIf, NoticesIf, RefusesIf, is_due, with_none_left, with_request_lines, refused_text}
use Rattle.ug_sessions.specs.Handed.{AreAllLines, AreFirstLines, AreLinesFor, AreLinesBy, HoldsLines}

-- what came is as it was
abbrev pub SameLines : Session → Session → Type 0
SameLines s t = (t.framer ≡ s.framer) × (t.overlong ≡ s.overlong)

all_same : (handed : List (List ℕ)) (bytes : List ℕ) (s t : Session) → SameLines s t → AreAllLines handed bytes s → AreAllLines handed bytes t
all_same handed bytes s t e h = record {
  lines = ap (λ (f : _). handed ++ f.lines) e.0 ∙ h.lines;
  begun = ap (λ (f : _). f.begun) e.0 ∙ h.begun;
  limit = e.1 ∙ h.limit ∙ ap (λ (f : _). is_overlong f.begun) (sym e.0);
}

first_same : (handed : List (List ℕ)) (bytes : List ℕ) (s t : Session) → SameLines s t → AreFirstLines handed bytes s → AreFirstLines handed bytes t
first_same handed bytes s t e h = record { none = ap (λ (f : _). f.lines) e.0 ∙ h.none; others = h.others; lines = h.lines }

for_same : (w : Why) (handed : List (List ℕ)) (bytes : List ℕ) (s t : Session) → SameLines s t → AreLinesFor w handed bytes s → AreLinesFor w handed bytes t
for_same why.Backlog handed bytes s t e h = first_same handed bytes s t e h
for_same why.Memory handed bytes s t e h = first_same handed bytes s t e h
for_same why.Ended handed bytes s t e h = all_same handed bytes s t e h
for_same why.Failed handed bytes s t e h = all_same handed bytes s t e h
for_same why.TooLong handed bytes s t e h = all_same handed bytes s t e h

pub by_same : (l : Life) (handed : List (List ℕ)) (bytes : List ℕ) (s t : Session) → SameLines s t → AreLinesBy l handed bytes s → AreLinesBy l handed bytes t
by_same life.Open handed bytes s t e h = all_same handed bytes s t e h
by_same (life.Doomed w) handed bytes s t e h = for_same w handed bytes s t e h
by_same (life.Closed w) handed bytes s t e h = for_same w handed bytes s t e h

-- a session whose lines and life are as they were
pub of_same : (handed : List (List ℕ)) (bytes : List ℕ) (s t : Session) → t.life ≡ s.life → SameLines s t → HoldsLines handed bytes s → HoldsLines handed bytes t
of_same handed bytes s t l e h = subst (λ (m : Life). AreLinesBy m handed bytes t) (sym l) (by_same s.life handed bytes s t e h)

-- all lines, of which those that wait are lost
pub all_first : (handed : List (List ℕ)) (bytes : List ℕ) (s t : Session) → t.framer.lines ≡ [] → AreAllLines handed bytes s → AreFirstLines handed bytes t
all_first handed bytes s t e h = record { none = e; others = s.framer.lines; lines = sym h.lines }

-- a session that is open
abbrev Opened : List (List ℕ) → List ℕ → Session → Type 0
Opened handed bytes s = AreAllLines handed bytes s

doomed_memory : (handed : List (List ℕ)) (bytes : List ℕ) (s : Session) → AreAllLines handed bytes s → HoldsLines handed bytes (doomed_for why.Memory s)
doomed_memory handed bytes s h = all_first handed bytes s (doomed_for why.Memory s) refl h

within_lines : (b : Bool) (handed : List (List ℕ)) (bytes text : List ℕ) (s t : Session) → s.life ≡ life.Open → AreAllLines handed bytes s → PutsWithin b s text t → HoldsLines handed bytes t
within_lines true handed bytes text s t e h p =
    let T : Bool → Type 0 = λ m. t ≡ put_if s text m → HoldsLines handed bytes t in
    let f : (m : Bool) → T m = λ m. elim m as T [
      | true ↦ λ q. subst (λ (x : Session). HoldsLines handed bytes x) (sym q) (of_same handed bytes s (with_text s text) refl (refl, refl) (subst (λ (l : Life). AreLinesBy l handed bytes s) (sym e) h))
      | false ↦ λ q. subst (λ (x : Session). HoldsLines handed bytes x) (sym q) (doomed_memory handed bytes s h)
    ] in
    f p.0 p.1
within_lines false handed bytes text s t e h p = subst (λ (x : Session). HoldsLines handed bytes x) (sym p) (all_first handed bytes s (doomed_for why.Backlog s) refl h)

stays_lines : (handed : List (List ℕ)) (bytes : List ℕ) (s t : Session) → t ≡ s → HoldsLines handed bytes s → HoldsLines handed bytes t
stays_lines handed bytes s t e h = subst (λ (x : Session). HoldsLines handed bytes x) (sym e) h

open_lines : (r : Bool) (handed : List (List ℕ)) (bytes text : List ℕ) (s t : Session) → s.life ≡ life.Open → AreAllLines handed bytes s → PutsWhere r s text t → HoldsLines handed bytes t
open_lines true handed bytes text s t e h p = within_lines (nat_le (length s.unsent + length text) 1048576) handed bytes text s t e h p
open_lines false handed bytes text s t e h p = stays_lines handed bytes s t p (subst (λ (l : Life). AreLinesBy l handed bytes s) (sym e) h)

put_lines_by : (l : Life) (handed : List (List ℕ)) (bytes text : List ℕ) (s t : Session) → s.life ≡ l → AreLinesBy l handed bytes s → PutsWhere (cond (is_open_life l) (not s.refused) false) s text t → HoldsLines handed bytes t
put_lines_by life.Open handed bytes text s t e h p = open_lines (not s.refused) handed bytes text s t e h p
put_lines_by (life.Doomed w) handed bytes text s t e h p = stays_lines handed bytes s t p (subst (λ (l : Life). AreLinesBy l handed bytes s) (sym e) h)
put_lines_by (life.Closed w) handed bytes text s t e h p = stays_lines handed bytes s t p (subst (λ (l : Life). AreLinesBy l handed bytes s) (sym e) h)

pub put_lines : (handed : List (List ℕ)) (bytes text : List ℕ) (s t : Session) → PutsBehind s text t → HoldsLines handed bytes s → HoldsLines handed bytes t
put_lines handed bytes text s t p h = put_lines_by s.life handed bytes text s t refl h p

pub answer_lines : (b : Bool) (handed : List (List ℕ)) (bytes text : List ℕ) (s t : Session) → AnswersIf b text s t → HoldsLines handed bytes s → HoldsLines handed bytes t
answer_lines true handed bytes text s t p h = put_lines handed bytes text (with_answer s) t p (of_same handed bytes s (with_answer s) refl (refl, refl) h)
answer_lines false handed bytes text s t p h = stays_lines handed bytes s t p h

pub notice_lines : (b : Bool) (handed : List (List ℕ)) (bytes text : List ℕ) (s t : Session) → NoticesIf b text s t → HoldsLines handed bytes s → HoldsLines handed bytes t
notice_lines true handed bytes text s t p h = put_lines handed bytes text s t p h
notice_lines false handed bytes text s t p h = stays_lines handed bytes s t p h

pub watch_lines : (b : Bool) (handed : List (List ℕ)) (bytes : List ℕ) (s t : Session) → t ≡ cond b (record s { watch = true }) s → HoldsLines handed bytes s → HoldsLines handed bytes t
watch_lines true handed bytes s t p h = stays_lines handed bytes (record s { watch = true }) t p (of_same handed bytes s (record s { watch = true }) refl (refl, refl) h)
watch_lines false handed bytes s t p h = stays_lines handed bytes s t p h

give_lines_by : (l : Life) (handed : List (List ℕ)) (bytes : List ℕ) (s t : Session) → s.life ≡ l → t ≡ cond (is_open_life l) (doomed_for why.Memory s) s → AreLinesBy l handed bytes s → HoldsLines handed bytes t
give_lines_by life.Open handed bytes s t e p h = stays_lines handed bytes (doomed_for why.Memory s) t p (doomed_memory handed bytes s h)
give_lines_by (life.Doomed w) handed bytes s t e p h = stays_lines handed bytes s t p (subst (λ (l : Life). AreLinesBy l handed bytes s) (sym e) h)
give_lines_by (life.Closed w) handed bytes s t e p h = stays_lines handed bytes s t p (subst (λ (l : Life). AreLinesBy l handed bytes s) (sym e) h)

pub give_up_lines : (b : Bool) (handed : List (List ℕ)) (bytes : List ℕ) (s t : Session) → t ≡ cond b (cond (is_open_life s.life) (doomed_for why.Memory s) s) s → HoldsLines handed bytes s → HoldsLines handed bytes t
give_up_lines true handed bytes s t p h = give_lines_by s.life handed bytes s t refl p h
give_up_lines false handed bytes s t p h = stays_lines handed bytes s t p h

refuse_lines : (b : Bool) (handed : List (List ℕ)) (bytes : List ℕ) (s t : Session) → RefusesIf b s t → HoldsLines handed bytes s → HoldsLines handed bytes t
refuse_lines true handed bytes s t p h =
    let put : HoldsLines handed bytes p.0 = put_lines handed bytes refused_text s p.0 p.1 h in
    stays_lines handed bytes (record p.0 { refused = true }) t p.2 (of_same handed bytes p.0 (record p.0 { refused = true }) refl (refl, refl) put)
refuse_lines false handed bytes s t p h = stays_lines handed bytes s t p h

-- a session that has no line hands out none
pub pass_lines : (handed : List (List ℕ)) (bytes : List ℕ) (s t : Session) → RefusesIf (is_due s) (with_none_left s) t → HoldsLines handed bytes s → HoldsLines handed bytes t
pass_lines handed bytes s t p h = refuse_lines (is_due s) handed bytes (with_none_left s) t p (of_same handed bytes s (with_none_left s) refl (refl, refl) h)

hand_all : (handed : List (List ℕ)) (bytes line : List ℕ) (lines : List (List ℕ)) (s : Session) → s.framer.lines ≡ line ∷ lines → AreAllLines handed bytes s → AreAllLines (handed ++ line ∷ []) bytes (with_request_lines lines s)
hand_all handed bytes line lines s e h = record { lines = append_assoc handed (line ∷ []) lines ∙ ap (λ (l : List (List ℕ)). handed ++ l) (sym e) ∙ h.lines; begun = h.begun; limit = h.limit }

hand_first : {A : Type 0} (handed : List (List ℕ)) (bytes line : List ℕ) (lines : List (List ℕ)) (s : Session) → s.framer.lines ≡ line ∷ lines → AreFirstLines handed bytes s → A
hand_first handed bytes line lines s e h = let none : ⊥ = (let f : [] ≡ line ∷ lines = sym h.none ∙ e in cc) in absurd none

hand_for : (w : Why) (handed : List (List ℕ)) (bytes line : List ℕ) (lines : List (List ℕ)) (s : Session) → s.framer.lines ≡ line ∷ lines → AreLinesFor w handed bytes s → AreLinesFor w (handed ++ line ∷ []) bytes (with_request_lines lines s)
hand_for why.Backlog handed bytes line lines s e h = hand_first handed bytes line lines s e h
hand_for why.Memory handed bytes line lines s e h = hand_first handed bytes line lines s e h
hand_for why.Ended handed bytes line lines s e h = hand_all handed bytes line lines s e h
hand_for why.Failed handed bytes line lines s e h = hand_all handed bytes line lines s e h
hand_for why.TooLong handed bytes line lines s e h = hand_all handed bytes line lines s e h

hand_by : (l : Life) (handed : List (List ℕ)) (bytes line : List ℕ) (lines : List (List ℕ)) (s : Session) → s.life ≡ l → s.framer.lines ≡ line ∷ lines → AreLinesBy l handed bytes s → HoldsLines (handed ++ line ∷ []) bytes (with_request_lines lines s)
hand_by life.Open handed bytes line lines s e f h = subst (λ (l : Life). AreLinesBy l (handed ++ line ∷ []) bytes (with_request_lines lines s)) (sym e) (hand_all handed bytes line lines s f h)
hand_by (life.Doomed w) handed bytes line lines s e f h = subst (λ (l : Life). AreLinesBy l (handed ++ line ∷ []) bytes (with_request_lines lines s)) (sym e) (hand_for w handed bytes line lines s f h)
hand_by (life.Closed w) handed bytes line lines s e f h = subst (λ (l : Life). AreLinesBy l (handed ++ line ∷ []) bytes (with_request_lines lines s)) (sym e) (hand_for w handed bytes line lines s f h)

-- the line that is handed out is the next one
pub hand_lines : (handed : List (List ℕ)) (bytes line : List ℕ) (s t : Session) → s.framer.lines ≡ line ∷ t.framer.lines → t ≡ with_request_lines t.framer.lines s → HoldsLines handed bytes s → HoldsLines (handed ++ line ∷ []) bytes t
hand_lines handed bytes line s t e p h = stays_lines (handed ++ line ∷ []) bytes (with_request_lines t.framer.lines s) t p (hand_by s.life handed bytes line t.framer.lines s refl e h)
