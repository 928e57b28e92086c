-- The retention of files in `old/`.
use Rattle.std.specs.Prelude.{ℕ, ◌-◌, Bool, true, false, ◌||◌, ◌&&◌, List, [], ◌∷◌, Option, Some, None, nat_lt, nat_le}
use Rattle.tfs_files.specs.declared.retention.Retention.{Retention}
use Rattle.tfs_files.specs.declared.retention.Limits.{Limits}
use Rattle.tfs_files.specs.declared.retention.OldFile.{OldFile}

-- The number is at most `most`, or unknown.
abbrev pub is_at_most : ℕ → Option ℕ → Bool
is_at_most most None = true
is_at_most most (Some number) = nat_le number most

-- The number, or 0 if it is unknown.
abbrev pub known : Option ℕ → ℕ
known None = 0
known (Some number) = number

-- The file is neither older than the limit nor larger than what the newer files leave.
abbrev pub is_within : Option Limits → OldFile → Bool
is_within None file = false
is_within (Some limits) file = is_at_most limits.seconds file.age && is_at_most limits.bytes file.bytes

-- The newest of the listed files stays.
abbrev pub stays : Retention → OldFile → Bool
stays retention file = nat_lt 0 retention.newest || is_within retention.limits file

-- The limits for the files older than this one.
abbrev pub limits_after : OldFile → Option Limits → Option Limits
limits_after file None = None
limits_after file (Some limits) = Some (record { seconds = limits.seconds; bytes = limits.bytes - known file.bytes })

-- The retention of the files older than this one.
abbrev pub after : OldFile → Retention → Retention
after file retention = record { newest = retention.newest - 1; limits = limits_after file retention.limits }

-- The numbers with one more in front, unless its file stays.
abbrev pub unless : Bool → ℕ → List ℕ → List ℕ
unless true number numbers = numbers
unless false number numbers = number ∷ numbers

-- The numbers of the files to remove. The files are listed newest first.
unfoldable pub expired : Retention → List OldFile → List ℕ
expired retention [] = []
expired retention (file ∷ older) = unless (stays retention file) file.number (expired (after file retention) older)
