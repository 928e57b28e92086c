-- The outcome of a run in short: all replies follow one journal.
use Rattle.std.specs.Prelude.{◌≡◌, ◌⊎◌, ◌+◌, All, Bool, List}
use Rattle.tfs_records.specs.Journal.{Journal}
use Rattle.tfs_calls.specs.Refusal.{no_copy}
use Rattle.tfs_calls.specs.Reply.{refused}
use Rattle.tfs_calls.specs.Transition.{TableModel, Answers}
use Rattle.tfs_table.specs.Lawful.{IsLawful}
use Rattle.tfs_published.specs.Beginning.{BeginsWith}
use Rattle.tfs_shared.specs.Stops.{as_number}
use Rattle.tfs_serve.specs.Serving.{StopsLast, faults_in}
use Rattle.tfs_serve.specs.Standing.{AcceptedStand}
use Rattle.tfs_serve.specs.Told.{positions_told, AreToldOnce}
use Rattle.tfs_serve.specs.Working.{Answer}

-- The reply is the model's answer over a lawful prefix of the last journal.
pub record FollowsJournal (last : Journal) (a : Answer) : Type 0 where
  pub before : TableModel
  pub after : TableModel
  pub lawful : IsLawful before.journal
  pub begins : BeginsWith last before.journal
  pub answer : Answers before a.call a.reply after

-- The last journal is lawful, and begins with the opening one. Each reply, except `NoCopy`, follows
-- it. Each accepted change is in it at the reported position, and each position beyond the opening
-- one is reported by exactly one reply. The table is stopped at the end (`is`) if and only if it
-- was stopped before (`was`) or exactly one reply reports a fault of the sink; if it was stopped
-- before, no reply does. If any reply reports that the table is stopped, it is stopped at the end.
pub record FollowOneJournal (opening last : Journal) (was is : Bool) (answers : List Answer) : Type 0 where
  pub lawful : IsLawful last
  pub begins : BeginsWith last opening
  pub follow : All (λ (a : Answer). (a.reply ≡ refused no_copy) ⊎ FollowsJournal last a) answers
  pub stand : AcceptedStand last answers
  pub once : AreToldOnce opening last (positions_told answers)
  pub faulted : as_number is ≡ as_number was + faults_in answers
  pub stopped : StopsLast is answers
