-- What a wait named, and which sessions are read.
use Rattle.std.specs.Prelude.{ℕ, List, [], ◌∷◌, Bool, true, false, nat_eq, cond}
use Rattle.ug_links.specs.declared.waiter.LinkId.{LinkId}
use Rattle.ug_links.specs.declared.waiter.Ready.{Ready}
use Rattle.ug_links.specs.declared.waiter.Ready.TheVariants as ready
use Rattle.ug_sessions.specs.declared.session.Session.{Session}
use Rattle.ug_sessions.specs.Sessions.{is_open_life}

abbrev pub names_session : List Ready → LinkId → Bool
names_session [] id = false
names_session (ready.Session other ∷ tokens) id =
    cond (nat_eq other.0 id.0) true (names_session tokens id)
names_session (ready.Listener n ∷ tokens) id = names_session tokens id

abbrev pub names_listener : List Ready → ℕ → Bool
names_listener [] n = false
names_listener (ready.Session other ∷ tokens) n = names_listener tokens n
names_listener (ready.Listener m ∷ tokens) n = cond (nat_eq m n) true (names_listener tokens n)

-- open, its link hasn't said End, and named or owed a try
abbrev pub is_read : List Ready → Session → Bool
is_read tokens s =
    cond (is_open_life s.life)
    (cond s.ended false (cond s.owed true (names_session tokens s.id))) false
