-- What becomes of one session.
use Rattle.std.specs.Prelude.{ℕ, ◌+◌, ◌-◌, ◌^◌, min, List, [], true, false, Bool}
use Rattle.ug_types.specs.Principals.{Named}
use Rattle.ug_links.specs.declared.waiter.LinkId.{LinkId}
use Rattle.ug_proto.specs.Frames.{with_piece}
use Rattle.ug_proto.specs.Lines.{Begun, Frames, Partial, Overlong, Out_of_memory, begun_after}
use Rattle.ug_sessions.specs.declared.session.Session.{Session}
use Rattle.ug_sessions.specs.declared.session.Turn.{Turn}
use Rattle.ug_sessions.specs.declared.session.Life.{Life}
use Rattle.ug_sessions.specs.declared.session.Life.TheVariants as life
use Rattle.ug_sessions.specs.declared.session.Why.{Why}
use Rattle.ug_sessions.specs.declared.session.Why.TheVariants as why

-- one more, up to the greatest number of 32 bits
abbrev pub counted_up : ℕ → ℕ
counted_up n = min (n + 1) (2 ^ 32 - 1)

abbrev pub none_counted : Turn
none_counted =
    record { accepted = 0; busy = 0; ended = 0; failed = 0; backlog = 0; too_long = 0; memory = 0 }

-- a session was closed for this
abbrev pub counted_as : Why → Turn → Turn
counted_as why.Ended t = record t { ended = counted_up t.ended }
counted_as why.Failed t = record t { failed = counted_up t.failed }
counted_as why.Backlog t = record t { backlog = counted_up t.backlog }
counted_as why.TooLong t = record t { too_long = counted_up t.too_long }
counted_as why.Memory t = record t { memory = counted_up t.memory }

abbrev pub is_open_life : Life → Bool
is_open_life life.Open = true
is_open_life (life.Doomed w) = false
is_open_life (life.Closed w) = false

abbrev pub is_open_session : Session → Bool
is_open_session s = is_open_life s.life

abbrev pub no_frames : Frames
no_frames = record { lines = []; begun = Partial [] }

-- a session that was accepted just now
abbrev pub new_session : LinkId → Named → Session
new_session id principal =
    record {
      id = id;
      principal = principal;
      framer = no_frames;
      overlong = false;
      drained = true;
      unanswered = 0;
      unsent = [];
      watch = false;
      ended = false;
      refused = false;
      owed = true;
      life = life.Open;
    }

abbrev pub is_overlong : Begun → Bool
is_overlong (Partial bytes) = false
is_overlong Overlong = true
is_overlong Out_of_memory = false

-- bytes came
abbrev pub fed : Session → List ℕ → Session
fed s bytes =
    record s {
      framer = with_piece s.framer bytes;
      overlong = is_overlong (begun_after s.framer.begun bytes);
      drained = false;
      owed = true;
    }

-- nothing was ready
abbrev pub not_owed : Session → Session
not_owed s = record s { owed = false }

-- nothing more comes
abbrev pub behind_its_end : Session → Session
behind_its_end s = record s { ended = true }

abbrev pub closed_for : Why → Session → Session
closed_for w s = record s { life = life.Closed w }

-- nothing more is sent; the lines that came before are handed out all the same
abbrev pub unsending : Session → Session
unsending s = record s { unsent = [] }

-- nothing more is sent, and no line is handed out
abbrev pub emptied : Session → Session
emptied s = record s { framer = no_frames; overlong = false; drained = true; unsent = [] }

-- closed; its link is closed and it is counted in the next turn or flush
abbrev pub doomed_for : Why → Session → Session
doomed_for w s = record (emptied s) { life = life.Doomed w }
