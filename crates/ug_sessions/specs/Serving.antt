-- What a server does with its links.
use Rattle.std.specs.Prelude.{List, filter, Bool, true, false, nat_lt, length}
use Rattle.ug_links.specs.declared.waiter.Ready.{Ready}
use Rattle.ug_links.specs.Talk.{Talk, Return, Room, and_then}
use Rattle.ug_sessions.specs.declared.session.Turn.{Turn}
use Rattle.ug_sessions.specs.declared.session.Why.TheVariants as why
use Rattle.ug_sessions.specs.States.{ServerState, listeners_from}
use Rattle.ug_sessions.specs.Sessions.{none_counted, counted_as}
use Rattle.ug_sessions.specs.Accepting.{accepting_all}
use Rattle.ug_sessions.specs.Reading.{reading_all}
use Rattle.ug_sessions.specs.Sending.{flushing_all, stays}

-- the listeners that are named or owed a try, and then the sessions that are
unfoldable pub turning_listeners : List Ready → ServerState → Talk (ServerState × Turn)
turning_listeners ready v =
    and_then (accepting_all ready v.listeners (v.sessions, none_counted))
    (λ r. and_then (reading_all ready r.1.0 r.1.1) (λ q. Return (
      record {
        principals = v.principals;
        listeners = r.0;
        sessions = q.0;
      },
      q.1,
    )))

abbrev pub turning_room : List Ready → ServerState → Bool → Talk (ServerState × Turn)
turning_room ready v true =
    turning_listeners ready (record v { listeners = listeners_from 0 v.principals })
turning_room ready v false = Return (v, counted_as why.Memory none_counted)

abbrev pub turning_by : Bool → List Ready → ServerState → Talk (ServerState × Turn)
turning_by true ready v = Room (turning_room ready v)
turning_by false ready v = turning_listeners ready v

-- room for the listeners is made first; where there is none, nothing is tried
unfoldable pub turning : List Ready → ServerState → Talk (ServerState × Turn)
turning ready v = turning_by (nat_lt (length v.listeners) (length v.principals)) ready v

-- each open session that has unsent text
unfoldable pub flushing : ServerState → Talk (ServerState × Turn)
flushing v =
    and_then (flushing_all v.sessions none_counted)
    (λ r. Return (
      record {
        principals = v.principals;
        listeners = v.listeners;
        sessions = filter stays r.0;
      },
      r.1,
    ))
