-- The content of lock information, and the times at which locks were taken.
use Rattle.std.specs.Prelude.{◌≡◌, ℕ, ℤ, pos, int_div, ◌≤ℤ◌, List, [], codes, Option, Some, None, option_and_then, option_map}
use Rattle.std.specs.Int.{int_min}
use Rattle.std.specs.List.{All, Contains, filter_map}
use Rattle.std.specs.Result.{result_ok}
use Rattle.jiff.specs.Words.{parse_timestamp}
use Rattle.tfs_json.specs.Json.{json_value, text_at}
use Rattle.tfs_lock.specs.LockInfo.{LockInformation}
use Rattle.tfs_rules.specs.History.{holder_of}
use Rattle.tfs_records.specs.Journal.{Journal, acts_of, names_of}

-- The text of a member of lock information.
abbrev pub word_at : List ℕ → LockInformation → Option (List ℕ)
word_at name info = option_and_then (text_at name) (json_value info.bytes)

-- The whole seconds since 1970 of a time (RFC 3339).
abbrev pub seconds_of : List ℕ → Option ℤ
seconds_of text = option_map (λ nanoseconds. int_div nanoseconds (pos 1000000000)) (result_ok (parse_timestamp text))

-- The time at which a lock was taken, by the member `Created` of its information.
abbrev pub created_at : LockInformation → Option ℤ
created_at info = option_and_then seconds_of (word_at (codes "Created") info)

-- The time at which the lock of a name was taken, if it is held and its information states a valid
-- time.
abbrev pub taken_at : Journal → List ℕ → Option ℤ
taken_at j name = option_and_then created_at (holder_of (acts_of name j))

-- The times at which the held locks were taken, for all whose information states a valid time.
abbrev pub lock_times : Journal → List ℤ
lock_times j = filter_map (taken_at j) (names_of j)

-- The earliest of some times, or none if there are no times.
abbrev pub IsEarliest : List ℤ → Option ℤ → Type 0
IsEarliest times None = times ≡ []
IsEarliest times (Some time) = Contains times time × All (λ other. time ≤ℤ other) times

-- The earlier of two times, or the known one if only one is known.
abbrev pub earlier : Option ℤ → Option ℤ → Option ℤ
earlier (Some first) (Some second) = Some (int_min first second)
earlier (Some first) None = Some first
earlier None other = other
