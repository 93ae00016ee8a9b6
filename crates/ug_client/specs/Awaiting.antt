-- What was taken from a link whose reply is awaited.
use Rattle.std.specs.Prelude.{◌≡◌, ℕ, ◌≤◌, List, [], ◌++◌, length, drop, Option}
use Rattle.std.specs.Io.KnownBytes.{Consumes, IsAtEnd}
use Rattle.ug_types.specs.Limits.{text_limit}
use Rattle.ug_client.specs.Answers.{Replied, IsUnanswered, IsAwaiting, IsNoAnswer}
use Rattle.ug_links.specs.declared.link_call.LinkCall.{LinkCall}
use Rattle.ug_client.specs.Calls.{Receives}
use Rattle.ug_client.specs.declared.receive.Awaited.{Awaited}
use Rattle.ug_client.specs.declared.receive.Awaited.TheVariants as awaited

-- no more than the limit was taken, and at most one piece behind bytes to which a reply was to come
pub record TakesNoMore (taken : List ℕ) : Type 0 where
  pub short : length taken ≤ text_limit
  pub earlier : List ℕ
  pub last : List ℕ
  pub whole : taken ≡ earlier ++ last
  pub piece : length last ≤ 65536
  pub awaiting : IsAwaiting earlier

-- why these bytes of a link are no whole reply
pub data GivesNoReply (taken : List ℕ) (left : Option (List ℕ)) : Type 0 where
  Ended : IsAtEnd left → IsUnanswered taken → GivesNoReply taken left
  Full : length taken ≡ text_limit → IsUnanswered taken → GivesNoReply taken left
  Never : IsNoAnswer taken → GivesNoReply taken left

-- what the bytes that were taken came to; they are kept where they hold a reply
abbrev pub CameTo : List ℕ → Option (List ℕ) → List ℕ → Awaited → Type 0
CameTo taken left kept (awaited.Replied reply place) =
    (kept ≡ taken) × (place ≤ length taken) × Replied taken reply (drop place taken)
CameTo taken left kept awaited.NoReply = GivesNoReply taken left
CameTo taken left kept awaited.LinkFailed = Unit {0}
CameTo taken left kept awaited.Memory = Unit {0}

pub record Awaits (calls0 calls : Option (List LinkCall)) (left0 left : Option (List ℕ))
    (kept : List ℕ) (result : Awaited) : Type 0 where
  pub taken : List ℕ
  pub receives : Receives IsAwaiting 65536 [] calls0 calls taken
  pub source : Consumes left0 left taken
  pub enough : TakesNoMore taken
  pub told : CameTo taken left kept result
