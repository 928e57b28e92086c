-- The appended text and the escaped form of the rest are the whole escaped text.
use Rattle.std.proofs.Common.{◌≡◌, ◌++◌, length}
use Rattle.json.specs.Print.{escape}
use Rattle.tfs_escapes.proofs.escaped.push_escaped.Given as goal

abbrev pub invariant-runs : goal.invariant-runs
invariant-runs l = l.out.items ++ escape l.rest ≡ l.initial.out.items ++ escape l.text

abbrev pub decreases-runs : goal.decreases-runs
decreases-runs l = length l.rest
