-- Durations in readable units.
use Rattle.std.specs.Prelude.{ℕ, ◌/◌, ◌%◌, List, ◌++◌, codes, decimal, nat_lt, if◌then◌else◌}

-- Two numbers, each with its unit.
abbrev pub pair_text : ℕ → List ℕ → ℕ → List ℕ → List ℕ
pair_text n unit rest smaller = decimal n ++ (unit ++ (codes " " ++ (decimal rest ++ smaller)))

-- A number of seconds in days and hours, hours and minutes, or minutes and seconds, rounded down.
abbrev pub duration_text : ℕ → List ℕ
duration_text s = if nat_lt 0 (s / 86400) then pair_text (s / 86400) (codes "d") (s / 3600 % 24) (codes "h")
    else (if nat_lt 0 (s / 3600) then pair_text (s / 3600) (codes "h") (s / 60 % 60) (codes "m")
    else pair_text (s / 60) (codes "m") (s % 60) (codes "s"))
