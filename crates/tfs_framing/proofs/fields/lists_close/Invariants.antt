-- No part so far is `close`.
use Rattle.std.proofs.Common.{◌≡◌, length}
use Rattle.tfs_framing.specs.Connection.{lists_close}
use Rattle.tfs_framing.proofs.fields.lists_close.Given as goal

abbrev pub invariant-loop-part : goal.invariant-loop-part
invariant-loop-part l = lists_close l.value ≡ lists_close l.rest

abbrev pub decreases-loop-part : goal.decreases-loop-part
decreases-loop-part l = length l.rest
