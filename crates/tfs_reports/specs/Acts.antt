-- The filter of `history`, and the locks under which acts were made.
use Rattle.std.specs.Prelude.{Result, Ok, Err, ℕ, ℤ, List, codes, Bool, true, false, ◌&&◌, int_le, Option, Some, None, is_none, option_and_then, option_map}
use Rattle.std.specs.Str.{bytes_eq}
use Rattle.std.specs.Option.{option_map_or}
use Rattle.tfs_lock.specs.LockInfo.{LockInformation}
use Rattle.tfs_versions.specs.Events.{DeedValue, told_lock, told_unlock, told_push, told_delete}
use Rattle.tfs_versions.specs.Holding.{created_at, word_at}
use Rattle.tfs_reports.specs.declared.fault.ReportFault.{ReportFault}
use Rattle.tfs_reports.specs.declared.fault.ReportFault.TheVariants.{NoName, NoTime}
use Rattle.tfs_reports.specs.declared.filter.ActKind.{ActKind}
use Rattle.tfs_reports.specs.declared.filter.ActKind.TheVariants.{Lock, Unlock, ForceUnlock, Push, Delete}
use Rattle.tfs_reports.specs.declared.filter.Filter.{Filter}

-- The lock under which an act was made, if it is known: its own, or the lock held before it. None
-- for a forced unlock, because another user may have made it.
abbrev pub lock_at : Option LockInformation → DeedValue → Option LockInformation
lock_at held (told_lock info) = Some info
lock_at held (told_unlock None) = None
lock_at held (told_unlock (Some id)) = held
lock_at held (told_push id outline) = held
lock_at held (told_delete id) = held

-- The lock held after an act, if it is known.
abbrev pub lock_after : Option LockInformation → DeedValue → Option LockInformation
lock_after held (told_lock info) = Some info
lock_after held (told_unlock id) = None
lock_after held (told_push id outline) = held
lock_after held (told_delete id) = held

-- The kind of an act. An unlock without a lock's ID is forced.
abbrev pub kind_of : DeedValue → ActKind
kind_of (told_lock info) = Lock
kind_of (told_unlock None) = ForceUnlock
kind_of (told_unlock (Some id)) = Unlock
kind_of (told_push id outline) = Push
kind_of (told_delete id) = Delete

-- Two kinds are equal.
abbrev pub same_kind : ActKind → ActKind → Bool
same_kind Lock Lock = true
same_kind Unlock Unlock = true
same_kind ForceUnlock ForceUnlock = true
same_kind Push Push = true
same_kind Delete Delete = true
same_kind one other = false

-- No kind is requested, or this one.
abbrev pub is_kind : Option ActKind → ActKind → Bool
is_kind None kind = true
is_kind (Some asked) kind = same_kind asked kind

-- A time is within the limits that are given. An unknown time is within no limit.
abbrev pub is_between : Option ℤ → Option ℤ → Option ℤ → Bool
is_between since until None = is_none since && is_none until
is_between since until (Some time) = option_map_or (λ s. int_le s time) since true && option_map_or (int_le time) until true

-- Nobody is requested, or a lock is known and its `Who` is the requested one.
abbrev pub is_by : Option (List ℕ) → Option LockInformation → Bool
is_by None lock = true
is_by (Some who) lock = option_map_or (bytes_eq who) (option_and_then (word_at (codes "Who")) lock) false

-- An act matches a filter, given the lock under which it was made, if that is known.
abbrev pub is_listed : Filter → DeedValue → Option LockInformation → Bool
is_listed f deed lock = is_kind f.kind (kind_of deed)
    && is_between f.since f.until (option_and_then created_at lock)
    && is_by (option_map (λ text. text.now) f.who) lock

-- The position of the last listed act. Without one, the fault depends on whether a journal has a
-- workspace of this name.
abbrev pub last_position : Bool → Option ℕ → Result ℕ ReportFault
last_position named (Some position) = Ok position
last_position true None = Err NoTime
last_position false None = Err NoName
