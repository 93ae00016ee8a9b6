-- What all bytes of a link come to, however they are cut: the first 67,108,864 alone decide.
use Rattle.std.specs.Prelude.{ℕ, List, take}
use Rattle.ug_types.specs.Limits.{text_limit}
use Rattle.ug_proto.specs.declared.reply.Reply.{Reply}
use Rattle.ug_client.specs.Answers.{Replied, IsUnanswered}

-- the first bytes hold that reply, with something behind it
pub record HoldsReply (all : List ℕ) (reply : Reply) : Type 0 where
  pub behind : List ℕ
  pub replied : Replied (take text_limit all) reply behind

-- they hold none
abbrev pub GivesNone : List ℕ → Type 0
GivesNone all = IsUnanswered (take text_limit all)
