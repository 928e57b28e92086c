-- A reply as a plain value. If the program's reply has a pointer, this has what it points to.
use Rattle.std.specs.Prelude.{ℕ, List}
use Rattle.std.specs.Arc.{arc_value}
use Rattle.tfs_state.specs.Document.{Document}
use Rattle.tfs_calls.specs.Refusal.{RefusalValue, refusal_value}
use Rattle.tfs_calls.specs.declared.reply.Reply.{Reply}
use Rattle.tfs_calls.specs.declared.reply.Reply.TheVariants.{Done, State, Impact, Refused}

-- The reply to a call: the position after an accepted change; the requested state; the instances of
-- a document that a query chooses, with the position of the journal; or a refusal.
pub data ReplyValue : Type 0 where
  done : ℕ → ReplyValue
  state : Document → ReplyValue
  impact : Document → List ℕ → ℕ → ReplyValue
  refused : RefusalValue → ReplyValue

-- The program's reply as a plain value.
abbrev pub reply_value : Reply → ReplyValue
reply_value (Done position) = done position
reply_value (State d) = state (arc_value d)
reply_value (Impact answer) = impact (arc_value answer.version) answer.chosen answer.position
reply_value (Refused refusal) = refused (refusal_value refusal)
