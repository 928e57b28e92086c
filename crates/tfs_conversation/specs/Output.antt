-- The output of bytes, if memory suffices and the sink doesn't fail.
use Rattle.std.specs.Prelude.{◌≢◌, ℕ, List}
use Rattle.std.specs.List.{AllByRecursion}
use Rattle.tfs_calls.specs.Refusal.{out_of_memory, journal_fault}
use Rattle.tfs_calls.specs.Reply.{refused}
use Rattle.tfs_table.specs.Table.{TableValue}
use Rattle.tfs_conversation.specs.declared.ended.Ended.{Ended}
use Rattle.tfs_conversation.specs.Desk.{AnswersCall}
use Rattle.tfs_conversation.specs.Conversation.{replied, Exchange, Converses}

-- The reply reports neither lack of memory nor a sink error.
abbrev pub IsUndisturbed : Exchange → Type 0
IsUndisturbed x = (x.reply ≢ replied (refused out_of_memory)) × (x.reply ≢ replied (refused journal_fault))

-- The output of bytes over a table, the table after it, and how the conversation ends.
pub record HasOutput (old new : TableValue) (bytes text : List ℕ) (ended : Ended) : Type 0 where
  pub converses : Converses AnswersCall old new bytes text ended
  pub undisturbed : AllByRecursion IsUndisturbed converses.course.exchanges
