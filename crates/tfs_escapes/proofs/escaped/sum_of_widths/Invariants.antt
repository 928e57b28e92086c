-- The sum is the length of the escaped form of the bytes so far, at most 6 for each byte.
use Rattle.std.proofs.Common.{◌≡◌, ◌≤◌, ◌*◌, length, take}
use Rattle.json.specs.Print.{escape}
use Rattle.tfs_escapes.proofs.escaped.sum_of_widths.Given as goal

abbrev pub invariant-loop-byte : goal.invariant-loop-byte
invariant-loop-byte l = (l.len ≡ length (escape (take l.byte-index l.text))) × (l.len ≤ 6 * l.byte-index)
