-- What is said to sessions, and what is handed out, keeps accounts and lines of all of them.
use Rattle.std.proofs.Common.{◌≡◌, ℕ, ◌<◌, Bool, true, false, cond, nat_eq, List, [], ◌∷◌, ◌++◌, refl, sym, ap, ◌∙◌, subst}
use Rattle.std.proofs.lemmas.List.{append-nil}
use Rattle.ug_types.specs.Principals.{Named}
use Rattle.ug_types.specs.declared.access.Section.{Section}
use Rattle.ug_links.specs.declared.waiter.LinkId.{LinkId}
use Rattle.ug_links.specs.Steps.{ids_end}
use Rattle.ug_links.specs.declared.step.LinkStep.{LinkStep}
use Rattle.ug_sessions.specs.declared.session.Session.{Session}
use Rattle.ug_sessions.specs.Sessions.{is_open_session}
use Rattle.ug_sessions.specs.Answering.{Each, AnswersOne, WatchesOne, GivesUpOne, NoticesOne, is_due, with_none_left, HandsFirst, Passes}
use Rattle.ug_sessions.specs.Due.{AllAccounts, IsNoneOf, HaveOwnIds, Said, Answered, Watched, Noticed, Overlong, overlong_all}
use Rattle.ug_sessions.specs.Handed.{bytes_read, HoldsLines, lines_handed, AllLines}
use Rattle.ug_sessions.specs.Known.{AreKnown, AreSaidBelow, AreHandedBelow, AreLinesTooLong, AreSound}
use Rattle.ug_sessions.proofs.Each.{each_append}
use Rattle.ug_sessions.proofs.Sends.{own}
use Rattle.ug_sessions.proofs.Owning.{Who}
use Rattle.ug_sessions.proofs.Lists.{turned_round}
use Rattle.ug_sessions.proofs.Saying.{untold_if}
use Rattle.ug_sessions.proofs.Everyone.{each_keeps, answers_keep, watches_keep, notices_keep, who_answers, who_watches, who_notices}
use Rattle.ug_sessions.proofs.Handings.{hands_keep, passes_keep, gives_up_keep, who_passes, who_gives, Apart, distinct_split}
use Rattle.ug_sessions.proofs.LinesKept.{answer_lines, watch_lines, notice_lines, give_up_lines, pass_lines, hand_lines}
use Rattle.ug_sessions.proofs.TooLong.{long_append, overlongs_long}
use Rattle.ug_sessions.proofs.Sound.{SameIds, none_same, distinct_same, known_same}

-- a session keeps its id and its lines
abbrev Stands : Session → Session → Type 0
Stands s t = (t.id ≡ s.id) × ((handed : List (List ℕ)) (bytes : List ℕ) → HoldsLines handed bytes s → HoldsLines handed bytes t)

each_ids : (R : Session → Session → Type 0) (h : (s t : Session) → R s t → Stands s t) (ss ts : List Session) → Each R ss ts → SameIds ss ts
each_ids R h [] [] e = tt
each_ids R h [] (t ∷ ts) e = absurd e
each_ids R h (s ∷ ss) [] e = absurd e
each_ids R h (s ∷ ss) (t ∷ ts) e = ((h s t e.0).0, each_ids R h ss ts e.1)

each_lines : (steps : List LinkStep) (handed : List (LinkId × List ℕ)) (R : Session → Session → Type 0) (h : (s t : Session) → R s t → Stands s t) (ss ts : List Session) → Each R ss ts → AllLines steps handed ss → AllLines steps handed ts
each_lines steps handed R h [] [] e a = tt
each_lines steps handed R h [] (t ∷ ts) e a = absurd e
each_lines steps handed R h (s ∷ ss) [] e a = absurd e
each_lines steps handed R h (s ∷ ss) (t ∷ ts) e a =
    let k = h s t e.0 in
    (subst (λ (i : LinkId). HoldsLines (lines_handed i handed) (bytes_read i steps) t) (sym k.0) (k.1 (lines_handed s.id handed) (bytes_read s.id steps) a.0), each_lines steps handed R h ss ts e.1 a.1)

said_append : (n : ℕ) (a b : List Said) → AreSaidBelow n a → AreSaidBelow n b → AreSaidBelow n (a ++ b)
said_append n [] b h k = k
said_append n (x ∷ a) b h k = (h.0, said_append n a b h.1 k)

handed_append : (n : ℕ) (a b : List (LinkId × List ℕ)) → AreHandedBelow n a → AreHandedBelow n b → AreHandedBelow n (a ++ b)
handed_append n [] b h k = k
handed_append n (x ∷ a) b h k = (h.0, handed_append n a b h.1 k)

overlong_known : (n : ℕ) (ss : List Session) → AreKnown n ss → AreSaidBelow n (overlong_all ss)
overlong_known n [] k = tt
overlong_known n (s ∷ ss) k =
    let T : Bool → Type 0 = λ v. AreSaidBelow n (cond v (Overlong s.id ∷ []) [] ++ overlong_all ss) in
    let f : (v : Bool) → T v = λ v. elim v as T [ true ↦ (k.0, overlong_known n ss k.1) | false ↦ overlong_known n ss k.1 ] in
    f (is_due s)

known_split : (n : ℕ) (a b : List Session) → AreKnown n (a ++ b) → AreKnown n a × AreKnown n b
known_split n [] b k = (tt, k)
known_split n (x ∷ a) b k = let h = known_split n a b k.1 in ((k.0, h.0), h.1)

lines_split : (steps : List LinkStep) (handed : List (LinkId × List ℕ)) (a b : List Session) → AllLines steps handed (a ++ b) → AllLines steps handed a × AllLines steps handed b
lines_split steps handed [] b k = (tt, k)
lines_split steps handed (x ∷ a) b k = let h = lines_split steps handed a b k.1 in ((k.0, h.0), h.1)

lines_join : (steps : List LinkStep) (handed : List (LinkId × List ℕ)) (a b : List Session) → AllLines steps handed a → AllLines steps handed b → AllLines steps handed (a ++ b)
lines_join steps handed [] b h k = k
lines_join steps handed (x ∷ a) b h k = (h.0, lines_join steps handed a b h.1 k)

-- a line of another session
handed_other : (handed : List (LinkId × List ℕ)) (id other : LinkId) (line : List ℕ) → nat_eq other.0 id.0 ≡ false → lines_handed id (handed ++ (other, line) ∷ []) ≡ lines_handed id handed
handed_other [] id other line e = ap (λ (v : Bool). cond v (line ∷ []) []) e
handed_other (h ∷ hs) id other line e = ap (λ (l : List (List ℕ)). cond (nat_eq h.0.0 id.0) (h.1 ∷ l) l) (handed_other hs id other line e)

handed_own : (handed : List (LinkId × List ℕ)) (id : LinkId) (line : List ℕ) → lines_handed id (handed ++ (id, line) ∷ []) ≡ lines_handed id handed ++ line ∷ []
handed_own [] id line = ap (λ (v : Bool). cond v (line ∷ []) []) (own id)
handed_own (h ∷ hs) id line =
    let T : Bool → Type 0 = λ v. cond v (h.1 ∷ lines_handed id (hs ++ (id, line) ∷ [])) (lines_handed id (hs ++ (id, line) ∷ [])) ≡ cond v (h.1 ∷ lines_handed id hs) (lines_handed id hs) ++ line ∷ [] in
    let f : (v : Bool) → T v = λ v. elim v as T [ true ↦ ap (λ (l : List (List ℕ)). h.1 ∷ l) (handed_own hs id line) | false ↦ handed_own hs id line ] in
    f (nat_eq h.0.0 id.0)

others_handed : (steps : List LinkStep) (handed : List (LinkId × List ℕ)) (id : LinkId) (line : List ℕ) (ss : List Session) → IsNoneOf id ss → AllLines steps handed ss → AllLines steps (handed ++ (id, line) ∷ []) ss
others_handed steps handed id line [] n a = tt
others_handed steps handed id line (s ∷ ss) n a =
    (subst (λ (l : List (List ℕ)). HoldsLines l (bytes_read s.id steps) s) (sym (handed_other handed s.id id line (turned_round s.id.0 id.0 n.0))) a.0, others_handed steps handed id line ss n.1 a.1)

pass_stands : (holds : Section → Named → Bool) (steps : List LinkStep) (s t : Session) → Passes s t → Stands s t
pass_stands holds steps s t p = (ap (λ (w : Who). w.id) (who_passes holds steps (is_due s) (with_none_left s) t p.1), λ handed bytes h. pass_lines handed bytes s t p.1 h)

same_all : (ss : List Session) → SameIds ss ss
same_all [] = tt
same_all (s ∷ ss) = (refl, same_all ss)

module _ (holds : Section → Named → Bool) (steps : List LinkStep) (said : List Said) (handed : List (LinkId × List ℕ)) where
  abbrev n : ℕ
  n = ids_end steps

  each_sound : (R : Session → Session → Type 0) (more : List Said) (h : (s t : Session) → R s t → Stands s t) (ss ts : List Session) → Each R ss ts → AreSaidBelow n more → AreLinesTooLong steps more → AllAccounts holds steps (said ++ more) ts → AreSound holds steps said handed ss → AreSound holds steps (said ++ more) handed ts
  each_sound R more h ss ts e m l a k = record {
    accounts = a;
    lines = each_lines steps handed R h ss ts e k.lines;
    distinct = distinct_same ss ts (each_ids R h ss ts e) k.distinct;
    known = known_same n ss ts (each_ids R h ss ts e) k.known;
    said_known = said_append n said more k.said_known m;
    handed_known = k.handed_known;
    calls_known = k.calls_known;
    too_long = long_append steps said more k.too_long l;
  }

  pub answers_sound : (id : LinkId) (text : List ℕ) (ss ts : List Session) → id.0 < ids_end steps → Each (AnswersOne id text) ss ts → AreSound holds steps said handed ss → AreSound holds steps (said ++ Answered id text ∷ []) handed ts
  answers_sound id text ss ts lt e k =
      each_sound (AnswersOne id text) (Answered id text ∷ []) (λ s t p. (ap (λ (w : Who). w.id) (who_answers (nat_eq s.id.0 id.0) s text t p), λ hs bytes h. answer_lines (nat_eq s.id.0 id.0) hs bytes text s t p h)) ss ts e (lt, tt) tt (answers_keep holds steps said id text ss ts e k.accounts) k

  pub watches_sound : (id : LinkId) (ss ts : List Session) → id.0 < ids_end steps → Each (WatchesOne id) ss ts → AreSound holds steps said handed ss → AreSound holds steps (said ++ Watched id ∷ []) handed ts
  watches_sound id ss ts lt e k =
      each_sound (WatchesOne id) (Watched id ∷ []) (λ s t p. (ap (λ (w : Who). w.id) (who_watches (nat_eq s.id.0 id.0) s t p), λ hs bytes h. watch_lines (nat_eq s.id.0 id.0) hs bytes s t p h)) ss ts e (lt, tt) tt (watches_keep holds steps said id ss ts e k.accounts) k

  pub notices_sound : (section : Section) (text : List ℕ) (ss ts : List Session) → Each (NoticesOne (holds section) text) ss ts → AreSound holds steps said handed ss → AreSound holds steps (said ++ Noticed section text ∷ []) handed ts
  notices_sound section text ss ts e k =
      each_sound (NoticesOne (holds section) text) (Noticed section text ∷ []) (λ s t p. (ap (λ (w : Who). w.id) (who_notices (cond s.watch (holds section s.principal) false) s text t p), λ hs bytes h. notice_lines (cond s.watch (holds section s.principal) false) hs bytes text s t p h)) ss ts e (tt, tt) tt (notices_keep holds steps said section text ss ts e k.accounts) k

  pub gives_up_sound : (id : LinkId) (ss ts : List Session) → Each (GivesUpOne id) ss ts → AreSound holds steps said handed ss → AreSound holds steps said handed ts
  gives_up_sound id ss ts e k =
      subst (λ (l : List Said). AreSound holds steps l handed ts) (append-nil said)
      (each_sound (GivesUpOne id) [] (λ s t p. (ap (λ (w : Who). w.id) (who_gives holds steps (nat_eq s.id.0 id.0) (is_open_session s) s t p), λ hs bytes h. give_up_lines (nat_eq s.id.0 id.0) hs bytes s t p h)) ss ts e tt tt (subst (λ (l : List Said). AllAccounts holds steps l ts) (sym (append-nil said)) (gives_up_keep holds steps said id ss ts e k.accounts)) k)

  -- a session that is given up for its reply
  pub untold_sound : (id : LinkId) (text : List ℕ) (ss ts : List Session) → id.0 < ids_end steps → Each (GivesUpOne id) ss ts → AreSound holds steps said handed ss → AreSound holds steps (said ++ Answered id text ∷ []) handed ts
  untold_sound id text ss ts lt e k =
      each_sound (GivesUpOne id) (Answered id text ∷ []) (λ s t p. (ap (λ (w : Who). w.id) (who_gives holds steps (nat_eq s.id.0 id.0) (is_open_session s) s t p), λ hs bytes h. give_up_lines (nat_eq s.id.0 id.0) hs bytes s t p h)) ss ts e (lt, tt) tt
      (each_keeps holds steps said (Answered id text) (GivesUpOne id) (λ s t p. (who_gives holds steps (nat_eq s.id.0 id.0) (is_open_session s) s t p, λ a sent h. untold_if (nat_eq s.id.0 id.0) a text sent s t p h)) ss ts e k.accounts) k

  pub passes_sound : (ss ts : List Session) → Each Passes ss ts → AreSound holds steps said handed ss → AreSound holds steps (said ++ overlong_all ss) handed ts
  passes_sound ss ts e k = each_sound Passes (overlong_all ss) (pass_stands holds steps) ss ts e (overlong_known n ss k.known) (overlongs_long steps handed ss k.lines) (passes_keep holds steps said ss ts k.distinct e k.accounts) k

  apart_none : (a : List Session) (s : Session) (b : List Session) → Apart holds steps a (s ∷ b) → IsNoneOf s.id a
  apart_none [] s b p = tt
  apart_none (x ∷ a) s b p = (turned_round s.id.0 x.id.0 p.0.0, apart_none a s b p.1)

  pub hands_sound : (ss ts : List Session) (id : LinkId) (principal : Named) (line : List ℕ) (h : HandsFirst ss id principal line ts) → AreSound holds steps said handed ss → AreSound holds steps (said ++ overlong_all h.front) (handed ++ (id, line) ∷ []) ts
  hands_sound ss ts id principal line h k =
      let s = h.session in
      let t = h.after in
      let now = handed ++ (id, line) ∷ [] in
      let apart = distinct_split holds steps h.front (s ∷ h.behind) (subst HaveOwnIds h.was k.distinct) in
      let known = known_split n h.front (s ∷ h.behind) (subst (AreKnown n) h.was k.known) in
      let lines = lines_split steps handed h.front (s ∷ h.behind) (subst (AllLines steps handed) h.was k.lines) in
      let front_ids : SameIds h.front h.passed = each_ids Passes (pass_stands holds steps) h.front h.passed h.none in
      let none : IsNoneOf id h.passed = none_same id h.front h.passed front_ids (subst (λ (i : LinkId). IsNoneOf i h.front) (sym h.its_id) (apart_none h.front s h.behind apart.1)) in
      let front : AllLines steps now h.passed = others_handed steps handed id line h.passed none (each_lines steps handed Passes (pass_stands holds steps) h.front h.passed h.none lines.0) in
      let none_behind : IsNoneOf id h.behind = subst (λ (i : LinkId). IsNoneOf i h.behind) (sym h.its_id) apart.2.0 in
      let behind : AllLines steps now h.behind = others_handed steps handed id line h.behind none_behind lines.1.1 in
      let same : t.id ≡ s.id = ap (λ (x : Session). x.id) h.hands.1 in
      let mine : HoldsLines (lines_handed s.id handed ++ line ∷ []) (bytes_read s.id steps) t = hand_lines (lines_handed s.id handed) (bytes_read s.id steps) line s t h.hands.0 h.hands.1 lines.1.0 in
      let whole : lines_handed s.id now ≡ lines_handed s.id handed ++ line ∷ [] = ap (λ (i : LinkId). lines_handed s.id (handed ++ (i, line) ∷ [])) h.its_id ∙ handed_own handed s.id line in
      let one : HoldsLines (lines_handed t.id now) (bytes_read t.id steps) t = subst (λ (i : LinkId). HoldsLines (lines_handed i now) (bytes_read i steps) t) (sym same) (subst (λ (l : List (List ℕ)). HoldsLines l (bytes_read s.id steps) t) (sym whole) mine) in
      let alike : SameIds h.behind h.behind = same_all h.behind in
      let ids_at : SameIds (h.front ++ s ∷ h.behind) (h.passed ++ t ∷ h.behind) = each_append (λ (x y : Session). y.id ≡ x.id) h.front h.passed (s ∷ h.behind) (t ∷ h.behind) front_ids (same, alike) in
      let ids : SameIds ss ts = subst (λ (l : List Session). SameIds l ts) (sym h.was) (subst (λ (l : List Session). SameIds (h.front ++ s ∷ h.behind) l) (sym h.is) ids_at) in
      record {
        accounts = hands_keep holds steps said ss ts id principal line k.distinct h k.accounts;
        lines = subst (λ (l : List Session). AllLines steps now l) (sym h.is) (lines_join steps now h.passed (t ∷ h.behind) front (one, behind));
        distinct = distinct_same ss ts ids k.distinct;
        known = known_same n ss ts ids k.known;
        said_known = said_append n said (overlong_all h.front) k.said_known (overlong_known n h.front known.0);
        handed_known = handed_append n handed ((id, line) ∷ []) k.handed_known (subst (λ (i : LinkId). i.0 < n) (sym h.its_id) known.1.0, tt);
        calls_known = k.calls_known;
        too_long = long_append steps said (overlong_all h.front) k.too_long (overlongs_long steps handed h.front lines.0);
      }
