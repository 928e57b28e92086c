-- The bytes so far need no escape.
use Rattle.std.proofs.Common.{◌≡◌, ◌≤◌, ◌-◌, length, take}
use Rattle.json.specs.Print.{escape}
use Rattle.tfs_escapes.proofs.escaped.plain_len.Given as goal

abbrev pub invariant-bytes : goal.invariant-bytes
invariant-bytes l = (l.count ≤ length l.text) × (escape (take l.count l.text) ≡ take l.count l.text)

abbrev pub decreases-bytes : goal.decreases-bytes
decreases-bytes l = length l.text - l.count
