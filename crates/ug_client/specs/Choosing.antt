-- What is printed of a list of which some rows are wanted.
use Rattle.std.specs.Prelude.{ℕ, List}
use Rattle.ug_proto.specs.Replies.{ended_lines}
use Rattle.ug_proto.specs.declared.reply.Reply.{Reply}
use Rattle.ug_proto.specs.declared.reply.Reply.TheVariants.{Lines, Refused}
use Rattle.ug_rows.specs.Rows.{chosen_rows}
use Rattle.ug_rows.specs.declared.choice.Choice.{Choice}
use Rattle.ug_client.specs.Answers.{printed}

-- the rows that are chosen, or the refusal
abbrev pub chosen_text : Choice → Reply → List ℕ
chosen_text choice (Lines rows) = ended_lines (chosen_rows choice rows)
chosen_text choice (Refused refusal) = printed (Refused refusal)
