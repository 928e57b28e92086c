-- The bytes before the index are digits.
use Rattle.std.proofs.Common.{◌≡◌, ◌+◌, drop}
use Rattle.std.specs.List.{prefix_len}
use Rattle.std.specs.Char.{is_ascii_digit}
use Rattle.tfs_addr.proofs.stripping.after_digits.Given as goal

abbrev pub invariant-loop-index : goal.invariant-loop-index
invariant-loop-index l = prefix_len is_ascii_digit l.bytes ≡ l.index + prefix_len is_ascii_digit (drop l.index l.bytes)
