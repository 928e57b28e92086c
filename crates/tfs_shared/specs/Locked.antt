-- The answers of locked calls.
use Rattle.std.specs.Prelude.{◌≡◌, ◌≢◌, ◌⊎◌, ℕ, ◌<◌, List, None, false}
use Rattle.tfs_rules.specs.Act.{ActValue}
use Rattle.tfs_rules.specs.History.{state_of}
use Rattle.tfs_records.specs.Journal.{Journal, position_of, acts_of}
use Rattle.tfs_calls.specs.Refusal.{no_copy, out_of_memory}
use Rattle.tfs_calls.specs.Reply.{ReplyValue, refused}
use Rattle.tfs_calls.specs.Transition.{TableModel, AnswersAct, answer_of, open_model}
use Rattle.tfs_calls.specs.declared.call.Call.TheVariants.{Read}
use Rattle.tfs_table.specs.Lawful.{IsLawful}
use Rattle.tfs_published.specs.Beginning.{BeginsWith}
use Rattle.tfs_shared.specs.View.{SessionView}

-- The session has seen more than a lawful journal that begins with the opening one.
pub record IsAhead (opening : Journal) (session : SessionView) : Type 0 where
  pub journal : Journal
  pub lawful : IsLawful journal
  pub begins : BeginsWith journal opening
  pub lower : position_of journal < position_of session.journal

-- The refusal `NoCopy`: the session is ahead of a journal that the table may have, and nothing
-- changes.
pub record HasNoCopy (opening : Journal) (old new : SessionView) (reply : ReplyValue) : Type 0 where
  pub answer : reply ≡ refused no_copy
  pub ahead : IsAhead opening old
  pub same : new ≡ old

-- The reply to a change: the transition of a table whose lawful journal begins with all that the
-- session had seen. The session then has seen the journal after the transition. `OutOfMemory` is
-- the reply only if the table isn't stopped.
pub record AnswersChange (name : List ℕ) (act : ActValue) (old new : SessionView) (reply : ReplyValue) : Type 0 where
  pub before : TableModel
  pub after : TableModel
  pub lawful : IsLawful before.journal
  pub fresh : BeginsWith before.journal old.journal
  pub answer : AnswersAct before name act reply after
  pub running : reply ≡ refused out_of_memory → before.stopped ≡ false
  pub seen : new.journal ≡ after.journal

-- The reply to a read: the model's answer over a lawful journal that begins with all that the
-- session had seen, and that the session then has seen; or, if the name has a state, `OutOfMemory`.
pub record AnswersRead (name : List ℕ) (old new : SessionView) (reply : ReplyValue) : Type 0 where
  pub journal : Journal
  pub lawful : IsLawful journal
  pub fresh : BeginsWith journal old.journal
  pub answer : (reply ≡ answer_of (open_model journal) (Read name))
      ⊎ ((reply ≡ refused out_of_memory) × (state_of (acts_of name journal) ≢ None))
  pub seen : new.journal ≡ journal
