-- What is asked of the listeners.
use Rattle.std.specs.Prelude.{List, [], ◌∷◌, ◌++◌, Bool, true, false, cond, nat_lt, count_by}
use Rattle.ug_links.specs.declared.waiter.LinkId.{LinkId}
use Rattle.ug_links.specs.declared.waiter.Ready.{Ready}
use Rattle.ug_links.specs.declared.links.Accepted.{Accepted}
use Rattle.ug_links.specs.declared.links.Accepted.TheVariants as accepted
use Rattle.ug_links.specs.Talk.{Talk, Return, Accept, Close, Room, walk, upto}
use Rattle.ug_sessions.specs.declared.session.Session.{Session}
use Rattle.ug_sessions.specs.declared.session.Listener.{Listener}
use Rattle.ug_sessions.specs.declared.session.Turn.{Turn}
use Rattle.ug_sessions.specs.declared.session.Why.TheVariants as why
use Rattle.ug_sessions.specs.Sessions.{counted_up, counted_as, new_session, is_open_session}
use Rattle.ug_sessions.specs.Tokens.{names_listener}

-- a listener, the sessions and what was counted
abbrev pub AtListener : Type 0
AtListener = Listener × (List Session × Turn)

abbrev pub tried : Listener → Bool → Listener
tried l owed = record l { owed = owed }

abbrev pub after_room : AtListener → LinkId → Bool → Talk (Bool × AtListener)
after_room x id true =
    Return (
      true,
      (
        tried x.0 true,
        (
          x.1.0 ++ new_session id x.0.principal
              ∷ [],
          record x.1.1 { accepted = counted_up x.1.1.accepted },
        ),
      ),
    )
after_room x id false =
    Close id (Return (true, (tried x.0 true, (x.1.0, counted_as why.Memory x.1.1))))

-- the 65th session is closed
abbrev pub after_count : AtListener → LinkId → Bool → Talk (Bool × AtListener)
after_count x id true = Room (after_room x id)
after_count x id false =
    Close id
    (Return (true, (tried x.0 true, (x.1.0, record x.1.1 { busy = counted_up x.1.1.busy }))))

abbrev pub after_accepting : AtListener → Accepted → Talk (Bool × AtListener)
after_accepting x (accepted.Session id) =
    after_count x id (nat_lt (count_by is_open_session x.1.0) 64)
after_accepting x accepted.NotYet = Return (false, (tried x.0 false, x.1))
after_accepting x accepted.Failed =
    Return (false, (tried x.0 true, (x.1.0, counted_as why.Failed x.1.1)))
after_accepting x accepted.Memory =
    Return (false, (tried x.0 true, (x.1.0, counted_as why.Memory x.1.1)))

-- one session, and whether there may be another
unfoldable pub accepting_once : AtListener → Talk (Bool × AtListener)
accepting_once x = Accept x.0.number (after_accepting x)

abbrev pub accepting_if : Bool → AtListener → Talk AtListener
accepting_if true x = upto accepting_once 64 x
accepting_if false x = Return x

-- a listener that is named or owed a try
unfoldable pub accepting_one : List Ready → Listener → List Session × Turn → Talk AtListener
accepting_one ready l x = accepting_if (cond l.owed true (names_listener ready l.number)) (l, x)

unfoldable pub accepting_all : List Ready → List Listener → List Session × Turn
    → Talk (List Listener × (List Session × Turn))
accepting_all ready listeners x = walk (accepting_one ready) [] listeners x
