-- The age of a time.
use Rattle.std.specs.Prelude.{ℕ, ℤ, ◌-ℤ◌, int_lt, unsigned_abs, Option, Some, None, if◌then◌else◌}

-- How many seconds ago a time was, if both times are known; 0 for a time in the future.
abbrev pub age_of : Option ℤ → Option ℤ → Option ℕ
age_of None time = None
age_of (Some now) None = None
age_of (Some now) (Some time) = Some (if int_lt now time then 0 else unsigned_abs (now -ℤ time))
