-- The calls of a turn and of a flush are of its sessions, and of no other.
use Rattle.std.proofs.Common.{◌≡◌, ℕ, Bool, true, false, cond, nat_eq, flat_map, List, [], ◌∷◌, ◌++◌, take, Option, refl, sym, ◌∙◌, ap}
use Rattle.ug_links.specs.declared.waiter.LinkId.{LinkId}
use Rattle.ug_links.specs.declared.waiter.Ready.{Ready}
use Rattle.ug_links.specs.declared.step.LinkStep.{LinkStep}
use Rattle.ug_links.specs.declared.step.LinkStep.TheVariants.{Closed}
use Rattle.ug_sessions.specs.declared.session.Session.{Session}
use Rattle.ug_sessions.specs.declared.session.Life.{Life}
use Rattle.ug_sessions.specs.declared.session.Life.TheVariants as life
use Rattle.ug_sessions.specs.declared.session.Why.{Why}
use Rattle.ug_sessions.specs.Arriving.{Arrival, Joins, Finds_full, Finds_no_room, Nobody, Fails, Lacks_memory, calls_in}
use Rattle.ug_sessions.specs.Due.{IsNoneOf, sent_to}
use Rattle.ug_sessions.specs.Handed.{bytes_read}
use Rattle.ug_sessions.specs.LastAnswers.{has_ended, last_read, wants_read}
use Rattle.ug_sessions.specs.Rounds.{ReadsOf, Enough, Bytes_come, Nothing_ready, Link_ends, Link_fails, No_room, ReadsIf, ReadsBy, ReadsSessions, WritesTo, All_sent, Done, Some_sent, Not_ready, Breaks, WritesBy, WritesSessions, closed_once_sent}
use Rattle.ug_sessions.proofs.Sends.{sent-append}
use Rattle.ug_sessions.proofs.LinesRead.{read-append}

-- nothing is sent to the session, and nothing is read of it
pub record IsLeftAlone (id : LinkId) (steps : List LinkStep) : Type 0 where
  pub unsent : sent_to id steps ≡ []
  pub unread : bytes_read id steps ≡ []

pub alone_none : (id : LinkId) (steps : List LinkStep) → steps ≡ [] → IsLeftAlone id steps
alone_none id steps e = record { unsent = ap (λ (l : List LinkStep). sent_to id l) e; unread = ap (λ (l : List LinkStep). bytes_read id l) e }

pub alone_both : (id : LinkId) (steps a b : List LinkStep) → steps ≡ a ++ b → IsLeftAlone id a → IsLeftAlone id b → IsLeftAlone id steps
alone_both id steps a b e h k = record {
  unsent = ap (λ (l : List LinkStep). sent_to id l) e ∙ (sent-append id a b ∙ (ap (λ (l : List ℕ). l ++ sent_to id b) h.unsent ∙ k.unsent));
  unread = ap (λ (l : List LinkStep). bytes_read id l) e ∙ (read-append id a b ∙ (ap (λ (l : List ℕ). l ++ bytes_read id b) h.unread ∙ k.unread));
}

alone_closed : (id other : LinkId) (steps : List LinkStep) → steps ≡ Closed other ∷ [] → IsLeftAlone id steps
alone_closed id other steps e = record { unsent = ap (λ (l : List LinkStep). sent_to id l) e; unread = ap (λ (l : List LinkStep). bytes_read id l) e }

pub arrivals_alone : (id : LinkId) (arrivals : List Arrival) → IsLeftAlone id (flat_map calls_in arrivals)
arrivals_alone id [] = record { unsent = refl; unread = refl }
arrivals_alone id (Joins n other who ∷ more) = let h = arrivals_alone id more in record { unsent = h.unsent; unread = h.unread }
arrivals_alone id (Finds_full n other ∷ more) = let h = arrivals_alone id more in record { unsent = h.unsent; unread = h.unread }
arrivals_alone id (Finds_no_room n other ∷ more) = let h = arrivals_alone id more in record { unsent = h.unsent; unread = h.unread }
arrivals_alone id (Nobody n ∷ more) = let h = arrivals_alone id more in record { unsent = h.unsent; unread = h.unread }
arrivals_alone id (Fails n ∷ more) = let h = arrivals_alone id more in record { unsent = h.unsent; unread = h.unread }
arrivals_alone id (Lacks_memory n ∷ more) = let h = arrivals_alone id more in record { unsent = h.unsent; unread = h.unread }

-- a read of another session gave these bytes
given_others : (b : Bool) (bytes rest : List ℕ) → b ≡ false → rest ≡ [] → cond b (bytes ++ rest) rest ≡ []
given_others true bytes rest e h = let no : ⊥ = cc in absurd no
given_others false bytes rest e h = h

reads_of_alone : (id other : LinkId) → nat_eq other.0 id.0 ≡ false → (left : ℕ) (steps : List LinkStep) (l : Life) → ReadsOf other left steps l → IsLeftAlone id steps
reads_of_alone id other e _ _ _ Enough = record { unsent = refl; unread = refl }
reads_of_alone id other e _ _ _ (Bytes_come left bytes more l h) =
    let k = reads_of_alone id other e left more l h in
    record { unsent = k.unsent; unread = given_others (nat_eq other.0 id.0) bytes (bytes_read id more) e k.unread }
reads_of_alone id other e _ _ _ (Nothing_ready left) = record { unsent = refl; unread = refl }
reads_of_alone id other e _ _ _ (Link_ends left) = record { unsent = refl; unread = refl }
reads_of_alone id other e _ _ _ (Link_fails left) = record { unsent = refl; unread = refl }
reads_of_alone id other e _ _ _ (No_room left bytes) = record { unsent = refl; unread = given_others (nat_eq other.0 id.0) bytes [] e refl }

reads_if_alone : (b : Bool) (id other : LinkId) (steps : List LinkStep) (l : Life) → nat_eq other.0 id.0 ≡ false → ReadsIf b other steps l → IsLeftAlone id steps
reads_if_alone true id other steps l e h = reads_of_alone id other e 16 steps l h
reads_if_alone false id other steps l e h = alone_none id steps h.0

reads_by_alone : (was : Life) (b : Bool) (id other : LinkId) (steps : List LinkStep) (l : Life) → nat_eq other.0 id.0 ≡ false → ReadsBy was b other steps l → IsLeftAlone id steps
reads_by_alone life.Open b id other steps l e h = reads_if_alone b id other steps l e h
reads_by_alone (life.Doomed w) b id other steps l e h = alone_closed id other steps h.0
reads_by_alone (life.Closed w) b id other steps l e h = alone_none id steps h.0

pub reads_alone : (id : LinkId) (ready : List Ready) (calls : List LinkStep) (ss : List Session) (steps : List LinkStep) (ts : List Session) → IsNoneOf id ss → ReadsSessions ready calls ss steps ts → IsLeftAlone id steps
reads_alone id ready calls [] steps [] n h = alone_none id steps h
reads_alone id ready calls [] steps (t ∷ ts) n h = absurd h
reads_alone id ready calls (s ∷ ss) steps [] n h = absurd h
reads_alone id ready calls (s ∷ ss) steps (t ∷ ts) n h =
    alone_both id steps h.0 h.1 h.2 (reads_by_alone s.life (wants_read ready calls s.id) id s.id h.0 t.life n.0 h.3) (reads_alone id ready (calls ++ h.0) ss h.1 ts n.1 h.6)

-- the sessions that are read stay who they are
pub reads_none : (id : LinkId) (ready : List Ready) (calls : List LinkStep) (ss : List Session) (steps : List LinkStep) (ts : List Session) → ReadsSessions ready calls ss steps ts → IsNoneOf id ts → IsNoneOf id ss
reads_none id ready calls [] steps [] h n = tt
reads_none id ready calls [] steps (t ∷ ts) h n = absurd h
reads_none id ready calls (s ∷ ss) steps [] h n = absurd h
reads_none id ready calls (s ∷ ss) steps (t ∷ ts) h n = (ap (λ (i : LinkId). nat_eq i.0 id.0) (sym h.4) ∙ n.0, reads_none id ready (calls ++ h.0) ss h.1 ts h.6 n.1)

pub none_front : (id : LinkId) (a b : List Session) → IsNoneOf id (a ++ b) → IsNoneOf id a
none_front id [] b n = tt
none_front id (s ∷ a) b n = (n.0, none_front id a b n.1)

writes_to_alone : (id other : LinkId) (once_sent : Option Why) → nat_eq other.0 id.0 ≡ false → (bytes : List ℕ) (steps : List LinkStep) (left : List ℕ) (l : Life) → WritesTo other once_sent bytes steps left l → IsLeftAlone id steps
writes_to_alone id other once_sent e _ _ _ _ (All_sent none) = record { unsent = refl; unread = refl }
writes_to_alone id other once_sent e _ _ _ _ (Done w is) = record { unsent = refl; unread = refl }
writes_to_alone id other once_sent e _ _ _ _ (Some_sent n bytes more left l some few h) =
    let k = writes_to_alone id other once_sent e _ more left l h in
    record { unsent = given_others (nat_eq other.0 id.0) (take n bytes) (sent_to id more) e k.unsent; unread = k.unread }
writes_to_alone id other once_sent e _ _ _ _ (Not_ready bytes some) = record { unsent = refl; unread = refl }
writes_to_alone id other once_sent e _ _ _ _ (Breaks bytes some) = record { unsent = refl; unread = refl }

writes_by_alone : (was : Life) (id : LinkId) (s : Session) (ended : Bool) (steps : List LinkStep) (t : Session) → nat_eq s.id.0 id.0 ≡ false → WritesBy was s ended steps t → IsLeftAlone id steps
writes_by_alone life.Open id s ended steps t e h = writes_to_alone id s.id (closed_once_sent ended s) e s.unsent steps t.unsent t.life h
writes_by_alone (life.Doomed w) id s ended steps t e h = alone_closed id s.id steps h.0
writes_by_alone (life.Closed w) id s ended steps t e h = alone_none id steps h.0

pub writes_alone : (id : LinkId) (calls : List LinkStep) (ss : List Session) (steps : List LinkStep) (ts : List Session) → IsNoneOf id ss → WritesSessions calls ss steps ts → IsLeftAlone id steps
writes_alone id calls [] steps [] n h = alone_none id steps h
writes_alone id calls [] steps (t ∷ ts) n h = absurd h
writes_alone id calls (s ∷ ss) steps [] n h = absurd h
writes_alone id calls (s ∷ ss) steps (t ∷ ts) n h =
    alone_both id steps h.0 h.1 h.2 (writes_by_alone s.life id s (has_ended (last_read s.id calls)) h.0 t n.0 h.3) (writes_alone id calls ss h.1 ts n.1 h.6)

-- the sessions that are written to stay who they are
pub writes_none : (id : LinkId) (calls : List LinkStep) (ss : List Session) (steps : List LinkStep) (ts : List Session) → WritesSessions calls ss steps ts → IsNoneOf id ts → IsNoneOf id ss
writes_none id calls [] steps [] h n = tt
writes_none id calls [] steps (t ∷ ts) h n = absurd h
writes_none id calls (s ∷ ss) steps [] h n = absurd h
writes_none id calls (s ∷ ss) steps (t ∷ ts) h n = (ap (λ (i : LinkId). nat_eq i.0 id.0) (sym h.4) ∙ n.0, writes_none id calls ss h.1 ts h.6 n.1)
