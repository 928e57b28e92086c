-- The bytes skipped so far are empty lines.
use Rattle.std.proofs.Common.{◌≡◌, List, ◌++◌, length}
use Rattle.httparse.specs.Grammar.{LineEnd, print_blank}
use Rattle.tfs_framing.proofs.head.skip_empty_lines.Given as goal

abbrev pub invariant-loop-after : goal.invariant-loop-after
invariant-loop-after l = (skipped : List LineEnd) × (l.bytes ≡ print_blank skipped ++ l.rest)

abbrev pub decreases-loop-after : goal.decreases-loop-after
decreases-loop-after l = length l.rest
