-- The text has the bytes appended for the characters so far.
use Rattle.std.proofs.Common.{◌≡◌, ◌++◌, flat_map}
use Rattle.std.specs.Prelude.{string_bytes}
use Rattle.tfs_printed.specs.Printed.{printed}
use Rattle.tfs_printed.proofs.printed.push_printed.Given as goal

abbrev pub invariant-loop-c : goal.invariant-loop-c
invariant-loop-c l = string_bytes l.out ≡ string_bytes l.initial.out ++ flat_map printed l.yielded
