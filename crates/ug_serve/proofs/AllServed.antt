-- What is said, handed out, read and written keeps all that holds of the sessions, whether they are kept or forgotten.
use Rattle.std.proofs.Common.{◌≡◌, ℕ, ◌<◌, Bool, true, false, cond, nat_eq, filter, flat_map, List, [], ◌∷◌, ◌++◌, inl, inr, refl, sym, ◌∙◌, ap, subst}
use Rattle.ug_types.specs.Elements.{Has}
use Rattle.ug_types.specs.Principals.{Named}
use Rattle.ug_types.specs.declared.access.Section.{Section}
use Rattle.ug_links.specs.declared.waiter.LinkId.{LinkId}
use Rattle.ug_links.specs.declared.waiter.Ready.{Ready}
use Rattle.ug_acl.specs.Acls.{Addition}
use Rattle.ug_links.specs.declared.links.Accepted.TheVariants as accepted
use Rattle.ug_links.specs.declared.step.LinkStep.{LinkStep}
use Rattle.ug_links.specs.declared.step.LinkStep.TheVariants.{AcceptedAt}
use Rattle.ug_links.specs.Steps.{ids_end}
use Rattle.ug_links.specs.Talk.{AreSteps, Path}
use Rattle.ug_sessions.specs.declared.session.Session.{Session}
use Rattle.ug_sessions.specs.declared.session.Turn.{Turn}
use Rattle.ug_sessions.specs.Answering.{AnswersOne, Each, GivesUpOne, HandsFirst, NoticesOne, Passes, WatchesOne, is_due, may_listen, with_none_left}
use Rattle.ug_sessions.specs.Arriving.{calls_in, sessions_in}
use Rattle.ug_sessions.specs.Due.{AllAccounts, Answered, HaveOwnIds, IsNoneOf, Noticed, Said, Watched, overlong_all}
use Rattle.ug_sessions.specs.Handed.{AllLines, HoldsLines, bytes_read, lines_handed}
use Rattle.ug_sessions.specs.Known.{AreSound}
use Rattle.ug_sessions.specs.Rounds.{WritesSessions}
use Rattle.ug_sessions.specs.Sending.{stays}
use Rattle.ug_sessions.specs.Serving.{flushing, turning}
use Rattle.ug_sessions.specs.Sessions.{is_open_session}
use Rattle.ug_sessions.specs.States.{ServerState}
use Rattle.ug_sessions.specs.Tied.{AreTied, AreWhose, Flushes, IsTied, IsWhose, TriesDue}
use Rattle.ug_sessions.proofs.AllKept.{answers_sound, hands_sound, notices_sound, passes_sound, untold_sound, watches_sound}
use Rattle.ug_sessions.proofs.Each.{each_append}
use Rattle.ug_sessions.proofs.Everyone.{who_answers, who_notices, who_watches}
use Rattle.ug_sessions.proofs.Handings.{who_gives, who_passes}
use Rattle.ug_sessions.proofs.Lists.{turned_round}
use Rattle.ug_sessions.proofs.Owning.{Who}
use Rattle.ug_sessions.proofs.Sound.{SameIds}
use Rattle.ug_sessions.proofs.TiedAll.{flush_tied, turn_tied}
use Rattle.ug_sessions.proofs.TiedSaid.{answers_tied, gives_up_tied, hands_tied, notices_tied, passes_tied, watches_tied}
use Rattle.ug_sessions.proofs.WholeTurn.{flush_keeps, turn_keeps}
use Rattle.ug_serve.specs.Saying.{GetsItsDue, RefusesBehindAll, RefusesLast}
use Rattle.ug_serve.proofs.Dues.{got_handed, got_others, got_said, kept_got}
use Rattle.ug_serve.proofs.ToldLast.{IsUntold, behind_both, behind_calls, behind_handed, behind_overlongs, last_answered, last_silent, overlongs_last, overlongs_silent, same_id, waiting_untold}
use Rattle.ug_serve.proofs.Others.{IsLeftAlone, alone_both, alone_none, arrivals_alone, none_front, reads_alone, reads_none, writes_alone, writes_none}

-- ---- sessions that stay who they are

none_back : (id : LinkId) (ss ts : List Session) → SameIds ss ts → IsNoneOf id ts → IsNoneOf id ss
none_back id [] [] e n = tt
none_back id [] (t ∷ ts) e n = absurd e
none_back id (s ∷ ss) [] e n = absurd e
none_back id (s ∷ ss) (t ∷ ts) e n = (ap (λ (i : LinkId). nat_eq i.0 id.0) (sym e.0) ∙ n.0, none_back id ss ts e.1 n.1)

each_ids : (R : Session → Session → Type 0) (f : (s t : Session) → R s t → t.id ≡ s.id) (ss ts : List Session) → Each R ss ts → SameIds ss ts
each_ids R f [] [] e = tt
each_ids R f [] (t ∷ ts) e = absurd e
each_ids R f (s ∷ ss) [] e = absurd e
each_ids R f (s ∷ ss) (t ∷ ts) e = (f s t e.0, each_ids R f ss ts e.1)

all_same : (ss : List Session) → SameIds ss ss
all_same [] = tt
all_same (s ∷ ss) = (refl, all_same ss)

none_at : (id : LinkId) (a : List Session) (s : Session) (b : List Session) → IsNoneOf id (a ++ s ∷ b) → nat_eq s.id.0 id.0 ≡ false
none_at id [] s b n = n.0
none_at id (x ∷ a) s b n = none_at id a s b n.1

handed_other : (handed : List (LinkId × List ℕ)) (id other : LinkId) (line : List ℕ) → nat_eq other.0 id.0 ≡ false → lines_handed id (handed ++ (other, line) ∷ []) ≡ lines_handed id handed
handed_other [] id other line e = ap (λ (v : Bool). cond v (line ∷ []) []) e
handed_other (h ∷ hs) id other line e = ap (λ (l : List (List ℕ)). cond (nat_eq h.0.0 id.0) (h.1 ∷ l) l) (handed_other hs id other line e)

none_before : (a : List Session) (s : Session) (b : List Session) → HaveOwnIds (a ++ s ∷ b) → IsNoneOf s.id a
none_before [] s b d = tt
none_before (x ∷ a) s b d = (turned_round s.id.0 x.id.0 (none_at x.id a s b d.0), none_before a s b d.1)

lines_at : (calls : List LinkStep) (handed : List (LinkId × List ℕ)) (a : List Session) (s : Session) (b : List Session) → AllLines calls handed (a ++ s ∷ b) → AllLines calls handed a × HoldsLines (lines_handed s.id handed) (bytes_read s.id calls) s
lines_at calls handed [] s b h = (tt, h.0)
lines_at calls handed (x ∷ a) s b h = let k = lines_at calls handed a s b h.1 in ((h.0, k.0), k.1)

writes_whose : (principals : List Named) (all calls : List LinkStep) (ss : List Session) (steps : List LinkStep) (ts : List Session) → WritesSessions calls ss steps ts → AreWhose principals all ss → AreWhose principals all ts
writes_whose principals all calls [] steps [] h k = tt
writes_whose principals all calls [] steps (t ∷ ts) h k = absurd h
writes_whose principals all calls (s ∷ ss) steps [] h k = absurd h
writes_whose principals all calls (s ∷ ss) steps (t ∷ ts) h k =
    (subst (λ (i : LinkId). IsWhose principals all i t.principal) (sym h.4) (subst (λ (w : Named). IsWhose principals all s.id w) (sym h.5) k.0), writes_whose principals all calls ss h.1 ts h.6 k.1)

whose_in : (principals : List Named) (calls all : List LinkStep) → ((step : LinkStep) → Has calls step → Has all step) → (ss : List Session) → AreWhose principals calls ss → AreWhose principals all ss
whose_in principals calls all f [] h = tt
whose_in principals calls all f (s ∷ ss) h = ((h.0.0, f (AcceptedAt h.0.0 (accepted.Session s.id)) h.0.1, h.0.2), whose_in principals calls all f ss h.1)

-- all: the calls of the links in the end, by which a session is of one user or group
module _ (acl : List Addition) (principals : List Named) (all : List LinkStep)
    (one : (id : LinkId) (p who : Named) → IsWhose principals all id p → IsWhose principals all id who → p ≡ who) where
  abbrev pub IsOf : LinkId → Named → Type 0
  IsOf id who = IsWhose principals all id who

  abbrev Got : List LinkStep → List Said → List (LinkId × List ℕ) → LinkId → Named → Type 0
  Got calls said handed id who = GetsItsDue acl calls said handed id who

  -- sessions that are none of these
  abbrev Gone : List LinkStep → List Said → List (LinkId × List ℕ) → List Session → Type 0
  Gone calls said handed ss = (id : LinkId) (who : Named) → IsNoneOf id ss → IsOf id who → Got calls said handed id who

  -- what holds of the sessions that are kept, and of all others
  pub record KeepsAll (calls : List LinkStep) (said : List Said) (handed : List (LinkId × List ℕ)) (ss : List Session) : Type 0 where
    pub sound : AreSound (may_listen acl) calls said handed ss
    pub tied : AreTied principals calls ss
    pub gone : Gone calls said handed ss
    pub last : RefusesLast said
    pub behind_all : RefusesBehindAll calls handed said

  -- a session is among those that are kept, or it isn't
  by_session : (calls : List LinkStep) (said : List Said) (handed : List (LinkId × List ℕ)) (keep : Session → Bool) (ss : List Session)
      → AllAccounts (may_listen acl) calls said ss → AllLines calls handed ss → AreWhose principals all ss
      → (id : LinkId) (who : Named) → IsOf id who → IsNoneOf id (filter keep ss) → (IsNoneOf id ss → Got calls said handed id who) → Got calls said handed id who
  by_session calls said handed keep [] a l w id who o n f = f tt
  by_session calls said handed keep (s ∷ ss) a l w id who o n f =
      let its : Got calls said handed s.id s.principal = kept_got acl calls said handed s a.0 l.0 in
      let T : Bool → Type 0 = λ b. nat_eq s.id.0 id.0 ≡ b → Got calls said handed id who in
      let K : Bool → Type 0 = λ b. IsNoneOf id (cond b (s ∷ filter keep ss) (filter keep ss)) → IsNoneOf id (filter keep ss) in
      let behind : (b : Bool) → K b = λ b. elim b as K [ true ↦ λ k. k.1 | false ↦ λ k. k ] in
      let pick : (b : Bool) → T b = λ b. elim b as T [
        | true ↦ λ e.
            let i : s.id ≡ id = same_id s.id id e in
            let p : s.principal ≡ who = one id s.principal who (subst (λ (j : LinkId). IsOf j s.principal) i w.0) o in
            subst (λ (q : Named). Got calls said handed id q) p (subst (λ (j : LinkId). Got calls said handed j s.principal) i its)
        | false ↦ λ e. by_session calls said handed keep ss a.1 l.1 w.1 id who o (behind (keep s) n) (λ k. f (e, k))
      ] in
      pick (nat_eq s.id.0 id.0) refl

  none_kept : (id : LinkId) (ss : List Session) → IsNoneOf id (filter (λ s. false) ss)
  none_kept id [] = tt
  none_kept id (s ∷ ss) = none_kept id ss

  -- whoever came got its due
  pub all_got : (said : List Said) (handed : List (LinkId × List ℕ)) (ss : List Session) → KeepsAll all said handed ss → (id : LinkId) (who : Named) → IsOf id who → Got all said handed id who
  all_got said handed ss k id who o = by_session all said handed (λ s. false) ss k.sound.accounts k.sound.lines k.tied.0 id who o (none_kept id ss) (λ n. k.gone id who n o)

  module _ (calls : List LinkStep) (said : List Said) (handed : List (LinkId × List ℕ)) where
    -- more is said
    said_keeps : (more : List Said) (ss ts : List Session) → SameIds ss ts → AreSound (may_listen acl) calls (said ++ more) handed ts → AreTied principals calls ts → RefusesLast (said ++ more) → RefusesBehindAll calls handed more → KeepsAll calls said handed ss → KeepsAll calls (said ++ more) handed ts
    said_keeps more ss ts e sound tied last behind k = record {
      sound = sound;
      tied = tied;
      last = last;
      behind_all = behind_both calls handed said more k.behind_all behind;
      gone = λ id who n o. got_said acl calls said handed id who more (k.gone id who (none_back id ss ts e n) o);
    }

    pub answers_all : (id : LinkId) (text : List ℕ) (ss ts : List Session) → id.0 < ids_end calls → IsUntold id said → Each (AnswersOne id text) ss ts → KeepsAll calls said handed ss → KeepsAll calls (said ++ Answered id text ∷ []) handed ts
    answers_all id text ss ts lt u e k =
        said_keeps (Answered id text ∷ []) ss ts (each_ids (AnswersOne id text) (λ s t p. ap (λ (w : Who). w.id) (who_answers (nat_eq s.id.0 id.0) s text t p)) ss ts e)
        (answers_sound (may_listen acl) calls said handed id text ss ts lt e k.sound) (answers_tied principals calls id text ss ts e k.tied) (last_answered id text said u k.last) tt k

    pub watches_all : (id : LinkId) (ss ts : List Session) → id.0 < ids_end calls → Each (WatchesOne id) ss ts → KeepsAll calls said handed ss → KeepsAll calls (said ++ Watched id ∷ []) handed ts
    watches_all id ss ts lt e k =
        said_keeps (Watched id ∷ []) ss ts (each_ids (WatchesOne id) (λ s t p. ap (λ (w : Who). w.id) (who_watches (nat_eq s.id.0 id.0) s t p)) ss ts e)
        (watches_sound (may_listen acl) calls said handed id ss ts lt e k.sound) (watches_tied principals calls id ss ts e k.tied) (last_silent said (Watched id ∷ []) tt tt k.last) tt k

    pub notices_all : (section : Section) (text : List ℕ) (ss ts : List Session) → Each (NoticesOne (may_listen acl section) text) ss ts → KeepsAll calls said handed ss → KeepsAll calls (said ++ Noticed section text ∷ []) handed ts
    notices_all section text ss ts e k =
        said_keeps (Noticed section text ∷ []) ss ts (each_ids (NoticesOne (may_listen acl section) text) (λ s t p. ap (λ (w : Who). w.id) (who_notices (cond s.watch (may_listen acl section s.principal) false) s text t p)) ss ts e)
        (notices_sound (may_listen acl) calls said handed section text ss ts e k.sound) (notices_tied principals calls (may_listen acl section) text ss ts e k.tied) (last_silent said (Noticed section text ∷ []) tt tt k.last) tt k

    -- a session that is given up for its reply
    pub untold_all : (id : LinkId) (text : List ℕ) (ss ts : List Session) → id.0 < ids_end calls → IsUntold id said → Each (GivesUpOne id) ss ts → KeepsAll calls said handed ss → KeepsAll calls (said ++ Answered id text ∷ []) handed ts
    untold_all id text ss ts lt u e k =
        said_keeps (Answered id text ∷ []) ss ts (each_ids (GivesUpOne id) (λ s t p. ap (λ (w : Who). w.id) (who_gives (may_listen acl) calls (nat_eq s.id.0 id.0) (is_open_session s) s t p)) ss ts e)
        (untold_sound (may_listen acl) calls said handed id text ss ts lt e k.sound) (gives_up_tied principals calls id ss ts e k.tied) (last_answered id text said u k.last) tt k

    pass_id : (s t : Session) → Passes s t → t.id ≡ s.id
    pass_id s t p = ap (λ (w : Who). w.id) (who_passes (may_listen acl) calls (is_due s) (with_none_left s) t p.1)

    pub passes_all : (ss ts : List Session) → Each Passes ss ts → KeepsAll calls said handed ss → KeepsAll calls (said ++ overlong_all ss) handed ts
    passes_all ss ts e k =
        said_keeps (overlong_all ss) ss ts (each_ids Passes pass_id ss ts e)
        (passes_sound (may_listen acl) calls said handed ss ts e k.sound) (passes_tied principals calls ss ts e k.tied) (last_silent said (overlong_all ss) (overlongs_silent ss) (overlongs_last ss) k.last) (behind_overlongs calls handed ss ts e k.sound.lines) k

    -- a session of which a line is handed out wasn't told that its line is too long
    pub hands_untold : (ss ts : List Session) (id : LinkId) (principal : Named) (line : List ℕ) (h : HandsFirst ss id principal line ts) → KeepsAll calls said handed ss → IsUntold id (said ++ overlong_all h.front)
    hands_untold ss ts id principal line h k =
        let s = h.session in
        let lines = lines_at calls handed h.front s h.behind (subst (AllLines calls handed) h.was k.sound.lines) in
        let untold = waiting_untold calls handed s line h.after.framer.lines h.front said h.hands.0 lines.1 (none_before h.front s h.behind (subst HaveOwnIds h.was k.sound.distinct)) k.behind_all in
        subst (λ (i : LinkId). IsUntold i (said ++ overlong_all h.front)) (sym h.its_id) untold.1

    pub hands_all : (ss ts : List Session) (id : LinkId) (principal : Named) (line : List ℕ) (h : HandsFirst ss id principal line ts) → KeepsAll calls said handed ss → KeepsAll calls (said ++ overlong_all h.front) (handed ++ (id, line) ∷ []) ts
    hands_all ss ts id principal line h k =
        let s = h.session in
        let t = h.after in
        let untold = hands_untold ss ts id principal line h k in
        let same : t.id ≡ s.id = ap (λ (x : Session). x.id) h.hands.1 in
        let ids_at : SameIds (h.front ++ s ∷ h.behind) (h.passed ++ t ∷ h.behind) = each_append (λ (x y : Session). y.id ≡ x.id) h.front h.passed (s ∷ h.behind) (t ∷ h.behind) (each_ids Passes pass_id h.front h.passed h.none) (same, all_same h.behind) in
        let ids : SameIds ss ts = subst (λ (l : List Session). SameIds l ts) (sym h.was) (subst (λ (l : List Session). SameIds (h.front ++ s ∷ h.behind) l) (sym h.is) ids_at) in
        record {
          sound = hands_sound (may_listen acl) calls said handed ss ts id principal line h k.sound;
          tied = (hands_tied principals calls ss ts id principal line h k.tied).1;
          last = last_silent said (overlong_all h.front) (overlongs_silent h.front) (overlongs_last h.front) k.last;
          behind_all = behind_handed calls handed (handed ++ (id, line) ∷ []) id (said ++ overlong_all h.front) (λ other apart. handed_other handed other id line apart) untold
              (behind_both calls handed said (overlong_all h.front) k.behind_all (behind_overlongs calls handed h.front h.passed h.none (lines_at calls handed h.front s h.behind (subst (AllLines calls handed) h.was k.sound.lines)).0));
          gone = λ other who n o.
              let was : IsNoneOf other ss = none_back other ss ts ids n in
              let apart : nat_eq id.0 other.0 ≡ false = ap (λ (i : LinkId). nat_eq i.0 other.0) h.its_id ∙ none_at other h.front s h.behind (subst (λ (l : List Session). IsNoneOf other l) h.was was) in
              got_said acl calls said (handed ++ (id, line) ∷ []) other who (overlong_all h.front) (got_handed acl calls said handed other who (handed ++ (id, line) ∷ []) (handed_other handed other id line apart) (k.gone other who was o));
        }

    -- ---- the calls of the links

    -- calls by which these sessions became those
    gone_others : (steps : List LinkStep) (ss ts : List Session) → ((id : LinkId) → IsNoneOf id ts → IsNoneOf id ss × IsLeftAlone id steps) → Gone calls said handed ss → Gone (calls ++ steps) said handed ts
    gone_others steps ss ts f g id who n o =
        let k = f id n in
        got_others acl calls said handed id who steps k.1.unsent k.1.unread (g id who k.0 o)

    turn_gone : (ready : List Ready) (v : ServerState) (steps : List LinkStep) (u : ServerState) → TriesDue ready calls v steps u → Gone calls said handed v.sessions → Gone (calls ++ steps) said handed u.sessions
    turn_gone ready v steps u (inl h) g =
        let accepts : List LinkStep = flat_map calls_in h.arrivals in
        let more : List Session = flat_map sessions_in h.arrivals in
        gone_others steps v.sessions u.sessions
        (λ id n.
        let was : IsNoneOf id (v.sessions ++ more) = reads_none id ready (calls ++ accepts) (v.sessions ++ more) h.reads u.sessions h.sessions n in
        (none_front id v.sessions more was, alone_both id steps accepts h.reads h.made (arrivals_alone id h.arrivals) (reads_alone id ready (calls ++ accepts) (v.sessions ++ more) h.reads u.sessions was h.sessions)))
        g
    turn_gone ready v steps u (inr h) g =
        gone_others steps v.sessions u.sessions (λ id n. (subst (λ (x : ServerState). IsNoneOf id x.sessions) h.same n, alone_none id steps h.made)) g

    pub turn_all : (ready : List Ready) (v : ServerState) (steps : List LinkStep) (r : ServerState × Turn) → v.principals ≡ principals → AreSteps calls steps → IsTied calls v → Path (turning ready v) steps r → KeepsAll calls said handed v.sessions → KeepsAll (calls ++ steps) said handed r.0.sessions × IsTied (calls ++ steps) r.0 × (r.0.principals ≡ principals)
    turn_all ready v steps r is a tied h k =
        let both = turn_tied (may_listen acl) said handed ready calls v steps r a k.sound tied h in
        let its : r.0.principals ≡ principals = principals_of (both.0) ∙ is in (
          record {
            sound = turn_keeps (may_listen acl) said handed ready calls v steps r a h k.sound;
            tied = subst (λ (l : List Named). AreTied l (calls ++ steps) r.0.sessions) its (both.1.whose, both.1.marked);
            gone = turn_gone ready v steps r.0 both.0 k.gone;
            last = k.last;
            behind_all = behind_calls handed calls steps said k.sound.too_long k.behind_all;
          },
          both.1,
          its,
        )
      where
        principals_of : TriesDue ready calls v steps r.0 → r.0.principals ≡ v.principals
        principals_of (inl x) = x.principals
        principals_of (inr x) = ap (λ (u : ServerState). u.principals) x.same

    flush_gone : (v : ServerState) (steps : List LinkStep) (u : ServerState) (counts : Turn) → v.principals ≡ principals → ((step : LinkStep) → Has calls step → Has all step) → AreWhose v.principals calls v.sessions → Flushes calls v steps u counts → KeepsAll calls said handed v.sessions → Gone (calls ++ steps) said handed u.sessions
    flush_gone v steps u counts is reach whose h k id who n o =
        let sound = h.sound (may_listen acl) said handed k.sound in
        let owners : AreWhose principals all h.after = writes_whose principals all calls v.sessions steps h.after h.sessions (subst (λ (l : List Named). AreWhose l all v.sessions) is (whose_in v.principals calls all reach v.sessions whose)) in
        by_session (calls ++ steps) said handed stays h.after sound.accounts sound.lines owners id who o (subst (λ (l : List Session). IsNoneOf id l) h.kept n)
        (λ none.
        let was : IsNoneOf id v.sessions = writes_none id calls v.sessions steps h.after h.sessions none in
        let alone = writes_alone id calls v.sessions steps h.after was h.sessions in
        got_others acl calls said handed id who steps alone.unsent alone.unread (k.gone id who was o))

    pub flush_all : (v : ServerState) (steps : List LinkStep) (r : ServerState × Turn) → v.principals ≡ principals → ((step : LinkStep) → Has calls step → Has all step) → AreSteps calls steps → IsTied calls v → Path (flushing v) steps r → KeepsAll calls said handed v.sessions → KeepsAll (calls ++ steps) said handed r.0.sessions × IsTied (calls ++ steps) r.0 × (r.0.principals ≡ principals)
    flush_all v steps r is reach a tied h k =
        let both = flush_tied calls v steps r a tied h in
        let its : r.0.principals ≡ principals = both.0.principals ∙ is in (
          record {
            sound = flush_keeps (may_listen acl) said handed calls v steps r h k.sound;
            tied = subst (λ (l : List Named). AreTied l (calls ++ steps) r.0.sessions) its (both.1.whose, both.1.marked);
            gone = flush_gone v steps r.0 r.1 is reach tied.whose both.0 k;
            last = k.last;
            behind_all = behind_calls handed calls steps said k.sound.too_long k.behind_all;
          },
          both.1,
          its,
        )
