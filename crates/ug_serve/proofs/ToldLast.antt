-- A session is told that its line is too long behind all that it asked, and behind all replies.
use Rattle.std.proofs.Common.{◌≡◌, ℕ, Bool, true, false, cond, nat_eq, List, [], ◌∷◌, ◌++◌, length, refl, sym, ◌∙◌, ap, subst, append-nil, length-append, arith}
use Rattle.std.specs.Prelude.{not}
use Rattle.std.proofs.lemmas.Bool.{false≢true}
use Rattle.std.proofs.lemmas.Bool.Decides.{nat_tests}
use Rattle.ug_links.specs.declared.waiter.LinkId.{LinkId}
use Rattle.ug_links.specs.declared.step.LinkStep.{LinkStep}
use Rattle.ug_proto.specs.Lines.{Begun, Partial, begun_after, lines_ended_in, stream_lines}
use Rattle.ug_proto.specs.Lines as proto
use Rattle.ug_proto.proofs.Pieces.{lines_more, no_lines}
use Rattle.ug_sessions.specs.declared.session.Session.{Session}
use Rattle.ug_sessions.specs.declared.session.Life.{Life}
use Rattle.ug_sessions.specs.declared.session.Life.TheVariants as life
use Rattle.ug_sessions.specs.declared.session.Why.{Why}
use Rattle.ug_sessions.specs.declared.session.Why.TheVariants as why
use Rattle.ug_sessions.specs.Answering.{Each, Passes, is_due}
use Rattle.ug_sessions.specs.Due.{Said, Answered, Watched, Noticed, Overlong, IsNoneOf, overlong_all}
use Rattle.ug_sessions.specs.Handed.{AllLines, AreLinesBy, AreLinesFor, HoldsLines, IsLineTooLong, bytes_read, lines_handed}
use Rattle.ug_sessions.specs.Known.{AreLinesTooLong}
use Rattle.ug_sessions.specs.Sessions.{is_open_life, is_overlong}
use Rattle.ug_sessions.proofs.LinesRead.{read-append}
use Rattle.ug_sessions.proofs.Lists.{turned_round}
use Rattle.ug_serve.specs.Saying.{AnswersNone, RefusesBehindAll, RefusesLast}

-- it wasn't told
abbrev pub IsUntold : LinkId → List Said → Type 0
IsUntold id [] = Unit {0}
IsUntold id (Answered other text ∷ said) = IsUntold id said
IsUntold id (Watched other ∷ said) = IsUntold id said
IsUntold id (Noticed section text ∷ said) = IsUntold id said
IsUntold id (Overlong other ∷ said) = (nat_eq other.0 id.0 ≡ false) × IsUntold id said

-- no reply is among it
abbrev pub HasNoReply : List Said → Type 0
HasNoReply [] = Unit {0}
HasNoReply (Answered other text ∷ said) = ⊥
HasNoReply (Watched other ∷ said) = HasNoReply said
HasNoReply (Noticed section text ∷ said) = HasNoReply said
HasNoReply (Overlong other ∷ said) = HasNoReply said

same_number : (n m : ℕ) → nat_eq n m ≡ true → n ≡ m
same_number n m e = grind (arith, nat_tests)

pub same_id : (a b : LinkId) → nat_eq a.0 b.0 ≡ true → a ≡ b
same_id a b e = let n : a.0 ≡ b.0 = same_number a.0 b.0 e in λ i. record { 0 = n i }

-- ---- the order

none_answered : (other id : LinkId) (text : List ℕ) (said : List Said) → nat_eq id.0 other.0 ≡ false → AnswersNone other said → AnswersNone other (said ++ Answered id text ∷ [])
none_answered other id text [] e h = (e, tt)
none_answered other id text (Answered x t ∷ said) e h = (h.0, none_answered other id text said e h.1)
none_answered other id text (Watched x ∷ said) e h = none_answered other id text said e h
none_answered other id text (Noticed section t ∷ said) e h = none_answered other id text said e h
none_answered other id text (Overlong x ∷ said) e h = none_answered other id text said e h

pub last_answered : (id : LinkId) (text : List ℕ) (said : List Said) → IsUntold id said → RefusesLast said → RefusesLast (said ++ Answered id text ∷ [])
last_answered id text [] u h = tt
last_answered id text (Answered x t ∷ said) u h = last_answered id text said u h
last_answered id text (Watched x ∷ said) u h = last_answered id text said u h
last_answered id text (Noticed section t ∷ said) u h = last_answered id text said u h
last_answered id text (Overlong x ∷ said) u h = (none_answered x id text said (turned_round x.0 id.0 u.0) h.0, last_answered id text said u.1 h.1)

none_silent : (id : LinkId) (said more : List Said) → HasNoReply more → AnswersNone id said → AnswersNone id (said ++ more)
none_silent id [] [] n h = tt
none_silent id [] (Answered x t ∷ more) n h = absurd n
none_silent id [] (Watched x ∷ more) n h = none_silent id [] more n h
none_silent id [] (Noticed section t ∷ more) n h = none_silent id [] more n h
none_silent id [] (Overlong x ∷ more) n h = none_silent id [] more n h
none_silent id (Answered x t ∷ said) more n h = (h.0, none_silent id said more n h.1)
none_silent id (Watched x ∷ said) more n h = none_silent id said more n h
none_silent id (Noticed section t ∷ said) more n h = none_silent id said more n h
none_silent id (Overlong x ∷ said) more n h = none_silent id said more n h

pub last_silent : (said more : List Said) → HasNoReply more → RefusesLast more → RefusesLast said → RefusesLast (said ++ more)
last_silent [] more n k h = k
last_silent (Answered x t ∷ said) more n k h = last_silent said more n k h
last_silent (Watched x ∷ said) more n k h = last_silent said more n k h
last_silent (Noticed section t ∷ said) more n k h = last_silent said more n k h
last_silent (Overlong x ∷ said) more n k h = (none_silent x said more n h.0, last_silent said more n k h.1)

pub overlongs_silent : (ss : List Session) → HasNoReply (overlong_all ss)
overlongs_silent [] = tt
overlongs_silent (s ∷ ss) =
    let T : Bool → Type 0 = λ v. HasNoReply (cond v (Overlong s.id ∷ []) [] ++ overlong_all ss) in
    let f : (v : Bool) → T v = λ v. elim v as T [ true ↦ overlongs_silent ss | false ↦ overlongs_silent ss ] in
    f (is_due s)

pub overlongs_last : (ss : List Session) → RefusesLast (overlong_all ss)
overlongs_last [] = tt
overlongs_last (s ∷ ss) =
    let T : Bool → Type 0 = λ v. RefusesLast (cond v (Overlong s.id ∷ []) [] ++ overlong_all ss) in
    let f : (v : Bool) → T v = λ v. elim v as T [ true ↦ (none_silent s.id [] (overlong_all ss) (overlongs_silent ss) tt, overlongs_last ss) | false ↦ overlongs_last ss ] in
    f (is_due s)

-- ---- who was told

untold_both : (id : LinkId) (said more : List Said) → IsUntold id said → IsUntold id more → IsUntold id (said ++ more)
untold_both id [] more h k = k
untold_both id (Answered x t ∷ said) more h k = untold_both id said more h k
untold_both id (Watched x ∷ said) more h k = untold_both id said more h k
untold_both id (Noticed section t ∷ said) more h k = untold_both id said more h k
untold_both id (Overlong x ∷ said) more h k = (h.0, untold_both id said more h.1 k)

untold_overlongs : (id : LinkId) (ss : List Session) → IsNoneOf id ss → IsUntold id (overlong_all ss)
untold_overlongs id [] n = tt
untold_overlongs id (s ∷ ss) n =
    let T : Bool → Type 0 = λ v. IsUntold id (cond v (Overlong s.id ∷ []) [] ++ overlong_all ss) in
    let f : (v : Bool) → T v = λ v. elim v as T [ true ↦ (n.0, untold_overlongs id ss n.1) | false ↦ untold_overlongs id ss n.1 ] in
    f (is_due s)

-- where not all its lines were handed out, it wasn't told
untold_by : (calls : List LinkStep) (handed : List (LinkId × List ℕ)) (id : LinkId) (said : List Said) → (lines_handed id handed ≡ stream_lines (bytes_read id calls) → ⊥) → RefusesBehindAll calls handed said → IsUntold id said
untold_by calls handed id [] some h = tt
untold_by calls handed id (Answered x t ∷ said) some h = untold_by calls handed id said some h
untold_by calls handed id (Watched x ∷ said) some h = untold_by calls handed id said some h
untold_by calls handed id (Noticed section t ∷ said) some h = untold_by calls handed id said some h
untold_by calls handed id (Overlong x ∷ said) some h =
    let T : Bool → Type 0 = λ v. nat_eq x.0 id.0 ≡ v → nat_eq x.0 id.0 ≡ false in
    let f : (v : Bool) → T v = λ v. elim v as T [
      | true ↦ λ e. absurd (some (subst (λ (i : LinkId). lines_handed i handed ≡ stream_lines (bytes_read i calls)) (same_id x id e) h.0))
      | false ↦ λ e. e
    ] in
    (f (nat_eq x.0 id.0) refl, untold_by calls handed id said some h.1)

one_waits : (handed rest all : List (List ℕ)) (line : List ℕ) → handed ++ (line ∷ rest) ≡ all → handed ≡ all → ⊥
one_waits handed rest all line e f =
    let n : length (handed ++ (line ∷ rest)) ≡ length handed = ap (λ (l : List (List ℕ)). length l) (e ∙ sym f) in
    omega (arith, n, length-append handed (line ∷ rest))

none_waits : (lines rest : List (List ℕ)) (line : List ℕ) → lines ≡ line ∷ rest → lines ≡ [] → ⊥
none_waits lines rest line e f =
    let n : length (line ∷ rest) ≡ 0 = ap (λ (l : List (List ℕ)). length l) (sym e ∙ f) in
    omega (arith, n)

waits_for : (w : Why) (handed : List (List ℕ)) (bytes : List ℕ) (s : Session) (line : List ℕ) (rest : List (List ℕ)) → s.framer.lines ≡ line ∷ rest → AreLinesFor w handed bytes s → handed ≡ stream_lines bytes → ⊥
waits_for why.Backlog handed bytes s line rest e h f = none_waits s.framer.lines rest line e h.none
waits_for why.Memory handed bytes s line rest e h f = none_waits s.framer.lines rest line e h.none
waits_for why.Ended handed bytes s line rest e h f = one_waits handed rest (stream_lines bytes) line (ap (λ (l : List (List ℕ)). handed ++ l) (sym e) ∙ h.lines) f
waits_for why.Failed handed bytes s line rest e h f = one_waits handed rest (stream_lines bytes) line (ap (λ (l : List (List ℕ)). handed ++ l) (sym e) ∙ h.lines) f
waits_for why.TooLong handed bytes s line rest e h f = one_waits handed rest (stream_lines bytes) line (ap (λ (l : List (List ℕ)). handed ++ l) (sym e) ∙ h.lines) f

waits_by : (l : Life) (handed : List (List ℕ)) (bytes : List ℕ) (s : Session) (line : List ℕ) (rest : List (List ℕ)) → s.framer.lines ≡ line ∷ rest → AreLinesBy l handed bytes s → handed ≡ stream_lines bytes → ⊥
waits_by life.Open handed bytes s line rest e h f = one_waits handed rest (stream_lines bytes) line (ap (λ (l : List (List ℕ)). handed ++ l) (sym e) ∙ h.lines) f
waits_by (life.Doomed w) handed bytes s line rest e h f = waits_for w handed bytes s line rest e h f
waits_by (life.Closed w) handed bytes s line rest e h f = waits_for w handed bytes s line rest e h f

-- a session that has a line wasn't told
pub waiting_untold : (calls : List LinkStep) (handed : List (LinkId × List ℕ)) (s : Session) (line : List ℕ) (rest : List (List ℕ)) (front : List Session) (said : List Said) → s.framer.lines ≡ line ∷ rest → HoldsLines (lines_handed s.id handed) (bytes_read s.id calls) s → IsNoneOf s.id front → RefusesBehindAll calls handed said → IsUntold s.id said × IsUntold s.id (said ++ overlong_all front)
waiting_untold calls handed s line rest front said e lines n h =
    let was = untold_by calls handed s.id said (waits_by s.life (lines_handed s.id handed) (bytes_read s.id calls) s line rest e lines) h in
    (was, untold_both s.id said (overlong_all front) was (untold_overlongs s.id front n))

-- ---- all lines were handed out

pub behind_both : (calls : List LinkStep) (handed : List (LinkId × List ℕ)) (said more : List Said) → RefusesBehindAll calls handed said → RefusesBehindAll calls handed more → RefusesBehindAll calls handed (said ++ more)
behind_both calls handed [] more h k = k
behind_both calls handed (Answered x t ∷ said) more h k = behind_both calls handed said more h k
behind_both calls handed (Watched x ∷ said) more h k = behind_both calls handed said more h k
behind_both calls handed (Noticed section t ∷ said) more h k = behind_both calls handed said more h k
behind_both calls handed (Overlong x ∷ said) more h k = (h.0, behind_both calls handed said more h.1 k)

-- a line of another session
pub behind_handed : (calls : List LinkStep) (handed now : List (LinkId × List ℕ)) (id : LinkId) (said : List Said) → ((other : LinkId) → nat_eq id.0 other.0 ≡ false → lines_handed other now ≡ lines_handed other handed) → IsUntold id said → RefusesBehindAll calls handed said → RefusesBehindAll calls now said
behind_handed calls handed now id [] f u h = tt
behind_handed calls handed now id (Answered x t ∷ said) f u h = behind_handed calls handed now id said f u h
behind_handed calls handed now id (Watched x ∷ said) f u h = behind_handed calls handed now id said f u h
behind_handed calls handed now id (Noticed section t ∷ said) f u h = behind_handed calls handed now id said f u h
behind_handed calls handed now id (Overlong x ∷ said) f u h = (f x (turned_round x.0 id.0 u.0) ∙ h.0, behind_handed calls handed now id said f u.1 h.1)

over_is : (b : Begun) → is_overlong b ≡ true → b ≡ proto.Overlong
over_is (proto.Partial bytes) e = absurd (false≢true e)
over_is proto.Overlong e = refl
over_is proto.Out_of_memory e = absurd (false≢true e)

-- behind a line that is too long there is none
no_more_lines : (id : LinkId) (a b : List LinkStep) → IsLineTooLong id a → stream_lines (bytes_read id a) ≡ stream_lines (bytes_read id (a ++ b))
no_more_lines id a b h =
    let start : Begun = Partial [] in
    let before : List ℕ = bytes_read id a in
    let more : List ℕ = bytes_read id b in
    let at : begun_after start before ≡ proto.Overlong = over_is (begun_after start before) h in
    let whole : stream_lines (bytes_read id (a ++ b)) ≡ stream_lines before ++ [] =
    ap stream_lines (read-append id a b) ∙ (lines_more start before more ∙ ap (λ (l : List (List ℕ)). lines_ended_in start before ++ l) (ap (λ (m : Begun). lines_ended_in m more) at ∙ no_lines more)) in
    sym (whole ∙ append-nil (stream_lines before))

pub behind_calls : (handed : List (LinkId × List ℕ)) (a b : List LinkStep) (said : List Said) → AreLinesTooLong a said → RefusesBehindAll a handed said → RefusesBehindAll (a ++ b) handed said
behind_calls handed a b [] l h = tt
behind_calls handed a b (Answered x t ∷ said) l h = behind_calls handed a b said l h
behind_calls handed a b (Watched x ∷ said) l h = behind_calls handed a b said l h
behind_calls handed a b (Noticed section t ∷ said) l h = behind_calls handed a b said l h
behind_calls handed a b (Overlong x ∷ said) l h = (h.0 ∙ no_more_lines x a b l.0, behind_calls handed a b said l.1 h.1)

due_by : (l : Life) (handed : List (List ℕ)) (bytes : List ℕ) (s : Session) → AreLinesBy l handed bytes s → s.framer.lines ≡ [] → cond (cond (is_open_life l) (not s.refused) false) s.overlong false ≡ true → handed ≡ stream_lines bytes
due_by life.Open handed bytes s h none e = sym (append-nil handed) ∙ (ap (λ (l : List (List ℕ)). handed ++ l) (sym none) ∙ h.lines)
due_by (life.Doomed w) handed bytes s h none e = absurd (false≢true e)
due_by (life.Closed w) handed bytes s h none e = absurd (false≢true e)

-- those that are passed have no line left
pub behind_overlongs : (calls : List LinkStep) (handed : List (LinkId × List ℕ)) (ss ts : List Session) → Each Passes ss ts → AllLines calls handed ss → RefusesBehindAll calls handed (overlong_all ss)
behind_overlongs calls handed [] [] e h = tt
behind_overlongs calls handed [] (t ∷ ts) e h = absurd e
behind_overlongs calls handed (s ∷ ss) [] e h = absurd e
behind_overlongs calls handed (s ∷ ss) (t ∷ ts) e h =
    let T : Bool → Type 0 = λ v. is_due s ≡ v → RefusesBehindAll calls handed (cond v (Overlong s.id ∷ []) [] ++ overlong_all ss) in
    let f : (v : Bool) → T v = λ v. elim v as T [
      | true ↦ λ k. (due_by s.life (lines_handed s.id handed) (bytes_read s.id calls) s h.0 e.0.0 k, behind_overlongs calls handed ss ts e.1 h.1)
      | false ↦ λ k. behind_overlongs calls handed ss ts e.1 h.1
    ] in
    f (is_due s) refl
