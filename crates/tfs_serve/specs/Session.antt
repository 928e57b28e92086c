-- The step of a desk over a session.
use Rattle.std.specs.Prelude.{◌≡◌, ◌≤◌, ◌<◌, ◌+◌, ◌⊎◌, ℕ, [], true}
use Rattle.tfs_records.specs.Journal.{Journal, position_of}
use Rattle.tfs_calls.specs.declared.call.Call.{Call}
use Rattle.tfs_calls.specs.declared.call.Call.TheVariants.{Read, Change, Impact}
use Rattle.tfs_calls.specs.Refusal.{no_copy, out_of_memory}
use Rattle.tfs_calls.specs.Reply.{ReplyValue, done, state, impact, refused}
use Rattle.tfs_calls.specs.Transition.{TableModel, Answers}
use Rattle.tfs_conversation.specs.Desk.{CallMayLackMemory}
use Rattle.tfs_conversation.specs.Conversation.{Said, replied, withheld, is_open}
use Rattle.tfs_table.specs.Lawful.{IsLawful}
use Rattle.tfs_published.specs.Beginning.{BeginsWith}
use Rattle.tfs_shared.specs.Locked.{HasNoCopy}
use Rattle.tfs_shared.specs.Signed.{IsSigned, makers_told}
use Rattle.tfs_serve.specs.Hold.{IsDurable}
use Rattle.tfs_shared.specs.View.{SessionView, CountsNothing, CountsStop, missed}

-- The number of changes that a reply reports as accepted: 1 or 0.
abbrev pub accepted_by : ReplyValue → ℕ
accepted_by (done position) = 1
accepted_by (state d) = 0
accepted_by (impact d chosen position) = 0
accepted_by (refused refusal) = 0

-- The reply is the transition of a table whose lawful journal begins with all that the session had
-- seen. The session then has seen the journal after the transition. `OutOfMemory` is the reply only
-- if the call may allocate over that table.
pub record AnswersOver (old : SessionView) (call : Call) (reply : ReplyValue) (new : SessionView) : Type 0 where
  pub before : TableModel
  pub after : TableModel
  pub lawful : IsLawful before.journal
  pub fresh : BeginsWith before.journal old.journal
  pub answer : Answers before call reply after
  pub memory : reply ≡ refused out_of_memory → CallMayLackMemory before call
  pub seen : new.journal ≡ after.journal
  pub accepted : new.accepted ≡ old.accepted + accepted_by reply

-- The refusal `NoCopy`. For a change or a read, the session is ahead of a journal that the table
-- may have, and nothing changes. For an impact query, the session alone counts the refusal, and
-- nothing else changes.
abbrev pub LacksCopy : Journal → SessionView → Call → ReplyValue → SessionView → Type 0
LacksCopy opening old (Read name) reply new = HasNoCopy opening old new reply
LacksCopy opening old (Change name raw) reply new = HasNoCopy opening old new reply
LacksCopy opening old (Impact name query) reply new = (reply ≡ refused no_copy) × (new ≡ missed old)

-- A step keeps count: each change beyond the opening journal that the session then has seen has a
-- maker, and the last one is its own if one was accepted. The reported position is the position of
-- the journal that the session then has seen, beyond all that it had seen. The session has counted
-- what the reply reports of a stopped table.
pub record KeepsCount (opening : Journal) (old : SessionView) (reply : ReplyValue) (new : SessionView) : Type 0 where
  pub signed : IsSigned opening old new (makers_told old.number reply)
  pub numbered : (position : ℕ) → reply ≡ done position → (position ≡ position_of new.journal) × (position_of old.journal < position)
  pub stops : CountsStop old new reply

-- One step of a desk over a session of a table that was shared with an opening journal: an answer
-- over a journal with all that the session had seen, or `NoCopy`.
abbrev pub SessionStep : Journal → SessionView → Call → ReplyValue → SessionView → Type 0
SessionStep opening old call reply new = KeepsCount opening old reply new × (LacksCopy opening old call reply new ⊎ AnswersOver old call reply new)

-- A session catches up with a journal that others' replies have reported: it has seen more, and
-- nothing else changes.
pub record CatchesUp (opening : Journal) (old new : SessionView) : Type 0 where
  pub seen : BeginsWith new.journal old.journal
  pub signed : IsSigned opening old new []
  pub counted : CountsNothing old new

-- A session may catch up first, and then makes a step.
abbrev pub CaughtUpStep : Journal → SessionView → Call → ReplyValue → SessionView → Type 0
CaughtUpStep opening old call reply new = (caught : SessionView) × CatchesUp opening old caught × SessionStep opening caught call reply new

-- The reply that is said, whether it may be written or not.
abbrev pub reply_said : Said → ReplyValue
reply_said (replied reply) = reply
reply_said (withheld reply) = reply

-- One step of a desk that holds its replies back: the session answers, and if the reply may be
-- written, the journal that the session has seen then is durable.
pub record HeldStep (durable : ℕ → Type 0) (opening : Journal) (old : SessionView) (call : Call) (said : Said) (new : SessionView) : Type 0 where
  pub step : CaughtUpStep opening old call (reply_said said) new
  pub held : is_open said ≡ true → IsDurable durable new.journal

-- A session has advanced: it has seen all that it had seen before, and maybe more.
pub record IsLater (old new : SessionView) : Type 0 where
  pub seen : BeginsWith new.journal old.journal
  pub accepted : old.accepted ≤ new.accepted
