-- What a script fixes of calls and their answers.
use Rattle.std.specs.Prelude.{ℕ, zero, suc, ◌+◌, ◌-◌, ◌^◌, nat_lt, List, [], ◌∷◌, ◌++◌, cond, length, Option, Some, None}
use Rattle.ug_links.specs.declared.links.Listening.{Listening}
use Rattle.ug_links.specs.declared.links.Listening.TheVariants as listening
use Rattle.ug_links.specs.declared.links.Accepted.{Accepted}
use Rattle.ug_links.specs.declared.links.Accepted.TheVariants as accepted
use Rattle.ug_links.specs.declared.links.LinkWrote.{LinkWrote}
use Rattle.ug_links.specs.declared.links.LinkWrote.TheVariants as wrote
use Rattle.ug_links.specs.declared.step.Reading.{Reading}
use Rattle.ug_links.specs.declared.step.Reading.TheVariants as given
use Rattle.ug_links.specs.declared.peer.Peer.{Peer}
use Rattle.ug_links.specs.declared.scripts.Arrival.{Arrival}
use Rattle.ug_links.specs.declared.scripts.Arrival.TheVariants as arrival
use Rattle.ug_links.specs.declared.scripts.ListenItem.{ListenItem}
use Rattle.ug_links.specs.declared.scripts.ListenItem.TheVariants as listen
use Rattle.ug_links.specs.Planned.{Planned}
use Rattle.ug_links.specs.Peers.{first_item, other_items, read_answer, read_after, write_answer, write_after}

-- the list with the element at that place changed, where there is one
abbrev pub changed_at : {A : Type 0} → (A → A) → ℕ → List A → List A
changed_at f n [] = []
changed_at f zero (a ∷ rest) = f a ∷ rest
changed_at f (suc n) (a ∷ rest) = a ∷ changed_at f n rest

-- the next number, or a failure where all numbers are given
abbrev pub number_given : ℕ → Listening
number_given n = cond (nat_lt n (2 ^ 32 - 1)) (listening.Ready n) listening.Failed

abbrev pub item_listened : ℕ → Option ListenItem → Listening
item_listened n None = number_given n
item_listened n (Some listen.Opens) = number_given n
item_listened n (Some listen.Fails) = listening.Failed

abbrev pub listen_answer : Planned → Listening
listen_answer p = item_listened p.listening (first_item p.listens)

abbrev pub more_listening : ℕ → Listening → ℕ
more_listening n (listening.Ready number) = n + 1
more_listening n listening.Failed = n
more_listening n listening.Memory = n

abbrev pub scripts_after_listen : Planned → Planned
scripts_after_listen p =
    record p {
      listens = other_items p.listens;
      listening = more_listening p.listening (listen_answer p);
    }

-- the next arrival at a listener
abbrev pub arrival_at : List (List Arrival) → ℕ → Option Arrival
arrival_at [] n = None
arrival_at (script ∷ scripts) zero = first_item script
arrival_at (script ∷ scripts) (suc n) = arrival_at scripts n

abbrev pub arrival_answer : ℕ → Option Arrival → Accepted
arrival_answer n None = accepted.NotYet
arrival_answer n (Some (arrival.Comes peer)) = accepted.Session (record { 0 = n })
arrival_answer n (Some arrival.Wait) = accepted.NotYet
arrival_answer n (Some arrival.Fail) = accepted.Failed

-- a session's id is the number of those that came before it
abbrev pub accept_answer : Planned → ℕ → Accepted
accept_answer p listener = arrival_answer (length p.peers) (arrival_at p.arrivals listener)

abbrev pub peer_come : Option Arrival → List Peer
peer_come None = []
peer_come (Some (arrival.Comes peer)) = peer ∷ []
peer_come (Some arrival.Wait) = []
peer_come (Some arrival.Fail) = []

abbrev pub scripts_after_accept : Planned → ℕ → Planned
scripts_after_accept p listener =
    record p {
      arrivals = changed_at other_items listener p.arrivals;
      peers = p.peers ++ peer_come (arrival_at p.arrivals listener);
    }

-- where no session has the number, nothing more comes
abbrev pub read_from_peer : ℕ → ℕ → List Peer → Reading
read_from_peer room n [] = given.End
read_from_peer room zero (peer ∷ peers) = read_answer room peer
read_from_peer room (suc n) (peer ∷ peers) = read_from_peer room n peers

abbrev pub scripts_after_read : ℕ → ℕ → Planned → Planned
scripts_after_read room n p = record p { peers = changed_at (read_after room) n p.peers }

-- where no session has the number, all is sent
abbrev pub written_to_peer : ℕ → ℕ → List Peer → LinkWrote
written_to_peer size n [] = wrote.Sent size
written_to_peer size zero (peer ∷ peers) = write_answer size peer
written_to_peer size (suc n) (peer ∷ peers) = written_to_peer size n peers

abbrev pub scripts_after_write : ℕ → Planned → Planned
scripts_after_write n p = record p { peers = changed_at write_after n p.peers }
