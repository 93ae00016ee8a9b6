-- What stands in front of the bytes of a link.
use Rattle.std.specs.Prelude.{◌≡◌, ℕ, ◌≤◌, List, ◌∷◌, ◌++◌, length, drop}
use Rattle.ug_client.specs.Answers.{AreNotices, IsNotice, IsNoticeBegun}
use Rattle.ug_proto.specs.Replies.{ended_lines}
use Rattle.ug_client.specs.declared.notice.Front.{Front}
use Rattle.ug_client.specs.declared.notice.Front.TheVariants as front

-- a notice stands in front of that rest
pub record IsNoticeThen (bytes rest : List ℕ) : Type 0 where
  pub line : List ℕ
  pub notice : IsNotice line
  pub whole : bytes ≡ line ++ 10 ∷ rest

-- however the bytes go on, no notice stands in front
abbrev pub BeginsOtherwise : List ℕ → Type 0
BeginsOtherwise bytes =
    (line more rest : List ℕ) → IsNotice line → ¬ (bytes ++ more ≡ line ++ 10 ∷ rest)

-- notices stand in front of that rest
pub record IsBehindNotices (bytes rest : List ℕ) : Type 0 where
  pub notices : List (List ℕ)
  pub each : AreNotices notices
  pub whole : bytes ≡ ended_lines notices ++ rest

-- which of these it is
abbrev pub IsInFront : List ℕ → Front → Type 0
IsInFront bytes (front.Notice n) = (n ≤ length bytes) × IsNoticeThen bytes (drop n bytes)
IsInFront bytes front.Begun = IsNoticeBegun bytes
IsInFront bytes front.Other = BeginsOtherwise bytes
