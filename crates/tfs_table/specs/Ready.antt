-- Changes that a table hasn't made yet: prepared ones, which it hasn't judged, and ready ones,
-- which it has accepted.
use Rattle.std.specs.Prelude.{◌≡◌, ◌≤◌, ℕ, List, length, slice_get, Option, Some, None}
use Rattle.tfs_state.specs.Document.{Document}
use Rattle.tfs_rules.specs.Act.{ActValue}
use Rattle.tfs_rules.specs.History.{state_of}
use Rattle.tfs_records.specs.Journal.{Journal, EntryValue, IsEntry, acts_of, names_of, with_entry}
use Rattle.tfs_records.specs.Format.{record_text}
use Rattle.tfs_calls.specs.Pushed.{pushed_by}
use Rattle.tfs_calls.specs.Transition.{act_refusal, open_model}

-- The invariant of a change that no table has judged yet: its name, act and record are the entry's,
-- and its version is of the document that it pushes.
pub record IsPrepared (e : EntryValue) (own_name : List ℕ) (own_act : ActValue) (own_version : Option Document) (bytes : List ℕ) : Type 0
  where
    pub name : own_name ≡ e.name
    pub act : own_act ≡ e.act
    pub read : IsEntry e
    pub pushed : own_version ≡ pushed_by e.act
    pub text : bytes ≡ record_text e

-- What callers see of the parts of a change that may be large: its encoded record, and the document
-- that it pushes.
pub record DeferredDropValue : Type 0 where
  pub text : List ℕ
  pub pushed : Option Document

-- What callers see of a ready change: the journal that the table had, and the entry to be added.
pub record ReadyValue : Type 0 where
  pub journal : Journal
  pub entry : EntryValue

-- The invariant of a ready change: its journal accepts it, its number is the name's, and its
-- version is of the state that the name has afterwards.
pub record IsReady (r : ReadyValue) (own_name : List ℕ) (own_number : ℕ) (own_act : ActValue) (own_version : Option Document) (bytes :
    List ℕ) : Type 0 where
  pub name : own_name ≡ r.entry.name
  pub act : own_act ≡ r.entry.act
  pub read : IsEntry r.entry
  pub text : bytes ≡ record_text r.entry
  pub number : slice_get (names_of (with_entry r.journal r.entry)) own_number ≡ Some r.entry.name
  pub few : length (names_of (with_entry r.journal r.entry)) ≤ 1024
  pub version : own_version ≡ state_of (acts_of r.entry.name (with_entry r.journal r.entry))
  pub accepted : act_refusal (open_model r.journal) r.entry.name r.entry.act ≡ None
