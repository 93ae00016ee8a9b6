-- What a session got begins what is due to it, and more that is said is due behind that.
use Rattle.std.proofs.Common.{◌≡◌, Bool, true, false, cond, nat_eq, List, [], ◌∷◌, ◌++◌, ℕ, refl, sym, ◌∙◌, ap, subst, append_assoc, append-nil}
use Rattle.ug_types.specs.Principals.{Named}
use Rattle.ug_types.specs.declared.access.Section.{Section}
use Rattle.ug_links.specs.declared.waiter.LinkId.{LinkId}
use Rattle.ug_acl.specs.Acls.{Addition}
use Rattle.ug_links.specs.declared.step.LinkStep.{LinkStep}
use Rattle.ug_proto.specs.Lines.{stream_lines}
use Rattle.ug_sessions.specs.declared.session.Session.{Session}
use Rattle.ug_sessions.specs.declared.session.Life.{Life}
use Rattle.ug_sessions.specs.declared.session.Life.TheVariants as life
use Rattle.ug_sessions.specs.declared.session.Why.{Why}
use Rattle.ug_sessions.specs.declared.session.Why.TheVariants as why
use Rattle.ug_sessions.specs.Answering.{may_listen, refused_text}
use Rattle.ug_sessions.specs.Due.{Dues, Said, Answered, Watched, Noticed, Overlong, Accounts, IsFront, more_due, over_due, nothing_due, said_all, said_one, sent_to}
use Rattle.ug_sessions.specs.Handed.{AreLinesBy, AreLinesFor, HoldsLines, bytes_read, lines_handed}
use Rattle.ug_sessions.proofs.Sends.{any_front, sent-append}
use Rattle.ug_sessions.proofs.LinesRead.{read-append}
use Rattle.ug_serve.specs.Saying.{AreFirstOf, GetsItsDue, due_text}

front_on : (a b c : List ℕ) → IsFront a b → IsFront b c → IsFront a c
front_on a b c h k = (h.0 ++ k.0, k.1 ∙ (ap (λ (l : List ℕ). l ++ k.0) h.1 ∙ append_assoc a h.0 k.0))

whole_front : (a : List ℕ) → IsFront a a
whole_front a = ([], sym (append-nil a))

if_front : (b : Bool) (a x : Dues) → IsFront a.text x.text → IsFront a.text (cond b x a).text
if_front true a x h = h
if_front false a x h = whole_front a.text

unless_front : (b : Bool) (a x : Dues) → IsFront a.text x.text → IsFront a.text (cond b a x).text
unless_front true a x h = whole_front a.text
unless_front false a x h = h

more_front : (a : Dues) (text : List ℕ) → IsFront a.text (more_due a text).text
more_front a text = unless_front a.over a (record a { text = a.text ++ text }) (text, refl)

over_front : (a : Dues) → IsFront a.text (over_due a).text
over_front a = unless_front a.over a (record a { text = a.text ++ refused_text; over = true }) (refused_text, refl)

module _ (holds : Section → Named → Bool) (id : LinkId) (who : Named) where
  one_front : (a : Dues) (x : Said) → IsFront a.text (said_one holds id who a x).text
  one_front a (Answered other text) = if_front (nat_eq id.0 other.0) a (more_due a text) (more_front a text)
  one_front a (Watched other) = if_front (nat_eq id.0 other.0) a (record a { watches = true }) (whole_front a.text)
  one_front a (Noticed section text) = if_front (cond a.watches (holds section who) false) a (more_due a text) (more_front a text)
  one_front a (Overlong other) = if_front (nat_eq id.0 other.0) a (over_due a) (over_front a)

  all_front : (a : Dues) (said : List Said) → IsFront a.text (said_all holds id who a said).text
  all_front a [] = whole_front a.text
  all_front a (x ∷ said) =
      let now : Dues = said_one holds id who a x in
      front_on a.text now.text (said_all holds id who now said).text (one_front a x) (all_front now said)

  said-append : (a : Dues) (said more : List Said) → said_all holds id who a (said ++ more) ≡ said_all holds id who (said_all holds id who a said) more
  said-append a [] more = refl
  said-append a (x ∷ said) more = said-append (said_one holds id who a x) said more

lines_for : (w : Why) (handed : List (List ℕ)) (bytes : List ℕ) (s : Session) → AreLinesFor w handed bytes s → AreFirstOf handed (stream_lines bytes)
lines_for why.Backlog handed bytes s h = (h.others, h.lines)
lines_for why.Memory handed bytes s h = (h.others, h.lines)
lines_for why.Ended handed bytes s h = (s.framer.lines, sym h.lines)
lines_for why.Failed handed bytes s h = (s.framer.lines, sym h.lines)
lines_for why.TooLong handed bytes s h = (s.framer.lines, sym h.lines)

lines_by : (l : Life) (handed : List (List ℕ)) (bytes : List ℕ) (s : Session) → AreLinesBy l handed bytes s → AreFirstOf handed (stream_lines bytes)
lines_by life.Open handed bytes s h = (s.framer.lines, sym h.lines)
lines_by (life.Doomed w) handed bytes s h = lines_for w handed bytes s h
lines_by (life.Closed w) handed bytes s h = lines_for w handed bytes s h

module _ (acl : List Addition) (calls : List LinkStep) (said : List Said) (handed : List (LinkId × List ℕ)) where
  -- a session that is kept
  pub kept_got : (s : Session) → Accounts (said_all (may_listen acl) s.id s.principal nothing_due said) (sent_to s.id calls) s → HoldsLines (lines_handed s.id handed) (bytes_read s.id calls) s → GetsItsDue acl calls said handed s.id s.principal
  kept_got s a l = record {
    sent = any_front s.life (said_all (may_listen acl) s.id s.principal nothing_due said) (sent_to s.id calls) s a;
    lines = lines_by s.life (lines_handed s.id handed) (bytes_read s.id calls) s l;
  }

  module _ (id : LinkId) (who : Named) where
    -- more is said
    pub got_said : (more : List Said) → GetsItsDue acl calls said handed id who → GetsItsDue acl calls (said ++ more) handed id who
    got_said more h =
        let now : Dues = said_all (may_listen acl) id who nothing_due said in
        let due : IsFront now.text (due_text acl (said ++ more) id who) = subst (λ (a : Dues). IsFront now.text a.text) (sym (said-append (may_listen acl) id who nothing_due said more)) (all_front (may_listen acl) id who now more) in
        record { sent = front_on (sent_to id calls) now.text (due_text acl (said ++ more) id who) h.sent due; lines = h.lines }

    -- calls for others
    pub got_others : (steps : List LinkStep) → sent_to id steps ≡ [] → bytes_read id steps ≡ [] → GetsItsDue acl calls said handed id who → GetsItsDue acl (calls ++ steps) said handed id who
    got_others steps unsent unread h =
        let sends : sent_to id calls ≡ sent_to id (calls ++ steps) = sym (sent-append id calls steps ∙ (ap (λ (l : List ℕ). sent_to id calls ++ l) unsent ∙ append-nil (sent_to id calls))) in
        let reads : bytes_read id calls ≡ bytes_read id (calls ++ steps) = sym (read-append id calls steps ∙ (ap (λ (l : List ℕ). bytes_read id calls ++ l) unread ∙ append-nil (bytes_read id calls))) in
        record {
          sent = subst (λ (l : List ℕ). IsFront l (due_text acl said id who)) sends h.sent;
          lines = subst (λ (l : List ℕ). AreFirstOf (lines_handed id handed) (stream_lines l)) reads h.lines;
        }

    -- a line of another
    pub got_handed : (more : List (LinkId × List ℕ)) → lines_handed id more ≡ lines_handed id handed → GetsItsDue acl calls said handed id who → GetsItsDue acl calls said more id who
    got_handed more same h = record { sent = h.sent; lines = subst (λ (l : List (List ℕ)). AreFirstOf l (stream_lines (bytes_read id calls))) (sym same) h.lines }
