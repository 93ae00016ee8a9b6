-- What is printed behind the reply to a request for notices.
use Rattle.std.specs.Prelude.{◌≡◌, ℕ, ◌<◌, ◌≤◌, ◌+◌, ◌⊎◌, List, ◌∷◌, ◌++◌, [], length, drop, Option, Some, None}
use Rattle.std.specs.Io.KnownBytes.{Appends, Consumes, IsAtEnd}
use Rattle.ug_types.specs.Elements.{Has}
use Rattle.ug_proto.specs.declared.reply.Reply.{Reply}
use Rattle.ug_proto.specs.Lines.{IsBeginning}
use Rattle.ug_proto.specs.Replies.{ended_lines}
use Rattle.ug_client.specs.Answers.{IsAwaiting, IsNotice, Replied, printed}
use Rattle.ug_client.specs.Awaiting.{TakesNoMore}
use Rattle.ug_client.specs.Asking.{AppendsPart, SentBy, ToldBy, end_by_reply}
use Rattle.ug_links.specs.declared.link_call.LinkCall.{LinkCall}
use Rattle.ug_links.specs.declared.link_call.Receipt.{Receipt}
use Rattle.ug_client.specs.Calls.{AreWanted, CallsToAsk, GoesOnReceiving, Receives, TellsCalls, bytes_in, calls_to_ask}
use Rattle.ug_client.specs.declared.asked.Asked.{Asked}
use Rattle.ug_client.specs.declared.asked.Asked.TheVariants as asked
use Rattle.ug_client.specs.declared.lines.Next.{Next}
use Rattle.ug_client.specs.declared.lines.Next.TheVariants as next

-- a notice within the limit of a line
pub record IsShort (line : List ℕ) : Type 0 where
  pub notice : IsNotice line
  pub short : length line < 65536

abbrev pub AreShort : List (List ℕ) → Type 0
AreShort [] = Unit {0}
AreShort (line ∷ lines) = IsShort line × AreShort lines

-- a whole line that is no notice stands in front, or 65,536 bytes without a newline
pub data IsNoNotice (bytes : List ℕ) : Type 0 where
  Other : (line behind : List ℕ) → bytes ≡ line ++ 10 ∷ behind → ¬ Has line 10 → ¬ IsNotice line
      → IsNoNotice bytes
  Overlong : (front behind : List ℕ) → bytes ≡ front ++ behind → ¬ Has front 10
      → length front ≡ 65536 → IsNoNotice bytes

-- a notice of so many bytes with its newline stands in front
pub record IsShortThen (bytes rest : List ℕ) : Type 0 where
  pub line : List ℕ
  pub is : IsShort line
  pub whole : bytes ≡ line ++ 10 ∷ rest

abbrev pub IsNextNotice : List ℕ → Next → Type 0
IsNextNotice bytes (next.Notice n) = (n ≤ length bytes) × IsShortThen bytes (drop n bytes)
IsNextNotice bytes next.Begun = IsBeginning bytes
IsNextNotice bytes next.Other = IsNoNotice bytes

-- the first lines of the bytes are notices and were written, in place of which so much room is left
pub record ShowsNotices (bytes0 : List ℕ) (room0 : ℕ) (held0 : Option (List ℕ)) (bytes : List ℕ)
    (room : ℕ)
    (held : Option (List ℕ)) : Type 0 where
  pub shown : List (List ℕ)
  pub each : AreShort shown
  pub split : bytes0 ≡ ended_lines shown ++ bytes
  pub count : room0 ≡ length shown + room
  pub written : Appends held0 held (ended_lines shown)

-- they are notices, and a part of them was written
pub record ShowsPart (bytes0 : List ℕ) (room0 : ℕ) (held0 held : Option (List ℕ)) : Type 0 where
  pub shown : List (List ℕ)
  pub each : AreShort shown
  pub behind : List ℕ
  pub split : bytes0 ≡ ended_lines shown ++ behind
  pub few : length shown ≤ room0
  pub part : AppendsPart held0 held (ended_lines shown)

-- what was printed of the bytes, and whether more are wanted
abbrev pub ShowsBy : List ℕ → ℕ → Option (List ℕ) → List ℕ → ℕ → Option (List ℕ) → Option Asked
    → Type 0
ShowsBy bytes0 room0 held0 bytes room held None =
    ShowsNotices bytes0 room0 held0 bytes room held × IsBeginning bytes × (0 < room)
ShowsBy bytes0 room0 held0 bytes room held (Some asked.Done) =
    ShowsNotices bytes0 room0 held0 bytes room held × (room ≡ 0)
ShowsBy bytes0 room0 held0 bytes room held (Some asked.NoReply) =
    ShowsNotices bytes0 room0 held0 bytes room held × IsNoNotice bytes × (0 < room)
ShowsBy bytes0 room0 held0 bytes room held (Some asked.WriteFault) =
    ShowsPart bytes0 room0 held0 held
ShowsBy bytes0 room0 held0 bytes room held (Some asked.Memory) =
    ShowsNotices bytes0 room0 held0 bytes room held
ShowsBy bytes0 room0 held0 bytes room held (Some asked.Refused) = ⊥
ShowsBy bytes0 room0 held0 bytes room held (Some asked.LinkFailed) = ⊥

-- the printing ended so
pub record EndsShowing (bytes0 : List ℕ) (room0 : ℕ) (held0 held : Option (List ℕ))
    (ended : Asked) : Type 0 where
  pub rest : List ℕ
  pub room : ℕ
  pub told : ShowsBy bytes0 room0 held0 rest room held (Some ended)

-- what is left of the bytes is kept, unless the printing ended
abbrev pub KeepsShown : List ℕ → ℕ → Option (List ℕ) → List ℕ → ℕ → Option (List ℕ) → Option Asked
    → Type 0
KeepsShown bytes0 room0 held0 bytes room held None =
    ShowsNotices bytes0 room0 held0 bytes room held × IsBeginning bytes × (0 < room)
KeepsShown bytes0 room0 held0 bytes room held (Some ended) =
    EndsShowing bytes0 room0 held0 held ended

-- the first lines of the stream are notices and were written
pub record ShowsSome (stream : List ℕ) (most : ℕ) (held0 held : Option (List ℕ)) : Type 0 where
  pub rest : List ℕ
  pub room : ℕ
  pub shows : ShowsNotices stream most held0 rest room held

-- the most that may be were written, or the link ended and what stands behind them is the beginning
-- of a line
pub record ShowsAll (stream : List ℕ) (left : Option (List ℕ)) (most : ℕ)
    (held0 held : Option (List ℕ)) : Type 0 where
  pub rest : List ℕ
  pub room : ℕ
  pub shows : ShowsNotices stream most held0 rest room held
  pub why : (room ≡ 0) ⊎ (IsAtEnd left × IsBeginning rest)

-- fewer were written, and behind them stands no notice
pub record ShowsUpTo (stream : List ℕ) (most : ℕ) (held0 held : Option (List ℕ)) : Type 0 where
  pub rest : List ℕ
  pub room : ℕ
  pub shows : ShowsNotices stream most held0 rest room held
  pub more : 0 < room
  pub other : IsNoNotice rest

-- what was printed of the bytes behind the reply, by how the call ended
abbrev pub WatchEnds : List ℕ → Option (List ℕ) → ℕ → Option (List ℕ) → Option (List ℕ) → Asked
    → Type 0
WatchEnds stream left most held0 held asked.Done = ShowsAll stream left most held0 held
WatchEnds stream left most held0 held asked.Refused = ⊥
WatchEnds stream left most held0 held asked.NoReply = ShowsUpTo stream most held0 held
WatchEnds stream left most held0 held asked.LinkFailed = ShowsSome stream most held0 held
WatchEnds stream left most held0 held asked.WriteFault = ShowsPart stream most held0 held
WatchEnds stream left most held0 held asked.Memory = ShowsSome stream most held0 held

-- fewer notices than may be printed stand whole in the stream, and behind them the beginning of a
-- line
pub record WantsNotices (most : ℕ) (stream : List ℕ) : Type 0 where
  pub shown : List (List ℕ)
  pub each : AreShort shown
  pub rest : List ℕ
  pub split : stream ≡ ended_lines shown ++ rest
  pub begun : IsBeginning rest
  pub few : length shown < most

-- the same where these bytes stood there and more were taken
pub record WatchesOn (start : List ℕ) (calls0 calls : Option (List LinkCall))
    (left0 left : Option (List ℕ)) (most : ℕ) (held0 held : Option (List ℕ)) (result : Asked) : Type
    0 where
  pub taken : List ℕ
  pub receives : Receives (WantsNotices most) 4096 start calls0 calls taken
  pub source : Consumes left0 left taken
  pub told : WatchEnds (start ++ taken) left most held0 held result

-- so far
pub record IsWatching (start : List ℕ) (calls0 calls : Option (List LinkCall))
    (left0 left : Option (List ℕ)) (most : ℕ) (held0 : Option (List ℕ)) (bytes : List ℕ) (room : ℕ)
    (held : Option (List ℕ)) : Type 0 where
  pub taken : List ℕ
  pub receives : GoesOnReceiving (WantsNotices most) 4096 start calls0 calls taken
  pub source : Consumes left0 left taken
  pub shows : ShowsNotices (start ++ taken) most held0 bytes room held

-- the calls up to the reply, and then receives only while notices are to be printed
pub record CallsToWatch (path line : List ℕ) (calls0 calls : Option (List LinkCall)) (most : ℕ)
    (front behind further : List ℕ) : Type 0 where
  pub receipts : List Receipt
  pub gave : front ≡ bytes_in receipts
  pub wanted : AreWanted IsAwaiting 65536 [] receipts
  pub more : List Receipt
  pub gave_more : further ≡ bytes_in more
  pub wanted_more : AreWanted (WantsNotices most) 4096 behind more
  pub tells : TellsCalls calls0 (calls_to_ask path line (receipts ++ more)) calls

-- the call ended as a request ends that isn't done
pub record EndsBefore (path line : List ℕ) (calls0 calls : Option (List LinkCall)) (taken : List ℕ)
    (left held0 held : Option (List ℕ)) (result : Asked) : Type 0 where
  pub made : CallsToAsk path line calls0 calls taken result
  pub undone : ¬ (result ≡ asked.Done)
  pub enough : TakesNoMore taken
  pub told : ToldBy taken left held0 held result

-- an Ok reply stands in front, and its lines were written; then it ended
pub record EndsBehind (path line : List ℕ) (calls0 calls : Option (List LinkCall)) (taken : List ℕ)
    (left : Option (List ℕ)) (most : ℕ) (held0 held : Option (List ℕ)) (result : Asked) : Type 0
  where
    pub front : List ℕ
    pub further : List ℕ
    pub whole : taken ≡ front ++ further
    pub enough : TakesNoMore front
    pub reply : Reply
    pub ok : end_by_reply reply ≡ asked.Done
    pub behind : List ℕ
    pub replied : Replied front reply behind
    pub made : CallsToWatch path line calls0 calls most front behind further
    pub held1 : Option (List ℕ)
    pub written : Appends held0 held1 (printed reply)
    pub told : WatchEnds (behind ++ further) left most held1 held result

-- the whole call, of the request's line at the socket of that path
pub record Watches (path line : List ℕ) (most : ℕ) (calls0 calls : Option (List LinkCall))
    (sent0 sent left0 left held0 held : Option (List ℕ)) (result : Asked) : Type 0 where
  pub taken : List ℕ
  pub source : Consumes left0 left taken
  pub requested : SentBy sent0 sent line result
  pub told : EndsBefore path line calls0 calls taken left held0 held result
      ⊎ EndsBehind path line calls0 calls taken left most held0 held result
