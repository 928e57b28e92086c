-- What callers see of a table, and its invariant.
use Rattle.std.specs.Prelude.{◌≡◌, ℕ, List, ◌++◌, All, Bool, true, false, Option, Some, None, Result, Ok, Err, ◌+◌}
use Rattle.std.specs.Arc.{arc_value}
use Rattle.std.specs.Io.KnownBytes.{Appends}
use Rattle.tfs_records.specs.Journal.{Journal, EntryValue, IsEntry, IsBase, position_of, with_entry}
use Rattle.tfs_records.specs.Format.{journal_text, record_text}
use Rattle.tfs_records.specs.Sink.{AppendsPart}
use Rattle.tfs_table.specs.Lawful.{IsLawful}
use Rattle.tfs_calls.specs.Refusal.{refusal_value}
use Rattle.tfs_calls.specs.Reply.{ReplyValue, done, impact, refused}
use Rattle.tfs_calls.specs.Transition.{TableModel}
use Rattle.tfs_calls.specs.declared.impact.Impact.{Impact}
use Rattle.tfs_calls.specs.declared.refusal.Refusal.{Refusal}

-- The journal, whether the table is stopped, whether the sink's bytes were known at first, the
-- sink's known bytes, the number of faults that the sink has counted, and how many changes can be
-- finished without allocating.
pub record TableValue : Type 0 where
  pub journal : Journal
  pub stopped : Bool
  pub tells : Bool
  pub told : Option (List ℕ)
  pub faults : ℕ
  pub spare : ℕ

-- The part of a table that the model has.
abbrev pub model_of : TableValue → TableModel
model_of t = record { journal = t.journal; stopped = t.stopped }

-- The bytes are the text of the journal followed by a prefix of one more record, which may be empty
-- or complete.
pub record TellsPart (j : Journal) (bytes : List ℕ) : Type 0 where
  pub entry : EntryValue
  pub read : IsEntry entry
  pub front : List ℕ
  pub rest : List ℕ
  pub parts : record_text entry ≡ front ++ rest
  pub told : bytes ≡ journal_text j ++ front

-- The bytes that the sink of a table has taken: the journal's text, and after it, if the table is
-- stopped, a prefix of one more record.
abbrev pub Tells : Bool → Journal → List ℕ → Type 0
Tells false j bytes = bytes ≡ journal_text j
Tells true j bytes = TellsPart j bytes

-- The sink's bytes are known, and are the bytes of this journal.
abbrev pub IsTold : Bool → Journal → Option (List ℕ) → Type 0
IsTold stopped j None = ⊥
IsTold stopped j (Some bytes) = Tells stopped j bytes

-- The invariant of each table.
pub record IsTable (t : TableValue) : Type 0 where
  pub based : IsBase t.journal.base
  pub read : All IsEntry t.journal.entries
  pub lawful : IsLawful t.journal
  pub sound : t.stopped ≡ false → t.faults ≡ 0
  pub told : t.tells ≡ true → IsTold t.stopped t.journal t.told

-- Only the reserved capacity may have changed.
pub record IsSameTable (old new : TableValue) : Type 0 where
  pub journal : new.journal ≡ old.journal
  pub stopped : new.stopped ≡ old.stopped
  pub tells : new.tells ≡ old.tells
  pub told : new.told ≡ old.told
  pub faults : new.faults ≡ old.faults

-- The sink has failed at an accepted change: the journal is unchanged, the table is stopped, and
-- the sink has counted a fault.
pub record IsFault (old new : TableValue) : Type 0 where
  pub running : old.stopped ≡ false
  pub journal : new.journal ≡ old.journal
  pub stopped : new.stopped ≡ true
  pub tells : new.tells ≡ old.tells
  pub faults : new.faults ≡ old.faults + 1

-- A change was finished: the journal has its entry, `position` is the journal's position after it,
-- the table isn't stopped, and the sink has taken the entry's record.
pub record IsFinished (old new : TableValue) (e : EntryValue) (position : ℕ) : Type 0 where
  pub position_is : position ≡ position_of old.journal + 1
  pub entered : new.journal ≡ with_entry old.journal e
  pub running : new.stopped ≡ false
  pub tells : new.tells ≡ old.tells
  pub told : Appends old.told new.told (record_text e)

-- The sink has failed at the record of an entry, and has taken a prefix of it.
pub record IsFaultAt (old new : TableValue) (e : EntryValue) : Type 0 where
  pub fault : IsFault old new
  pub part : AppendsPart old.told new.told (record_text e)

-- The reply to a change.
abbrev pub change_reply : Result ℕ Refusal → ReplyValue
change_reply (Ok position) = done position
change_reply (Err refusal) = refused (refusal_value refusal)

-- The reply to a query.
abbrev pub impact_reply : Result Impact Refusal → ReplyValue
impact_reply (Ok answer) = impact (arc_value answer.version) answer.chosen answer.position
impact_reply (Err refusal) = refused (refusal_value refusal)
