-- The texts of the counted instances are together at most as long as the document.
use Rattle.std.proofs.Common.{◌≤◌, ◌-◌, length}
use Rattle.tfs_index.proofs.listing.room_for.Given as goal

abbrev pub invariant-instances : goal.invariant-instances
invariant-instances l = (l.count ≤ length l.doc.instances) × (l.bytes ≤ l.most)

abbrev pub decreases-instances : goal.decreases-instances
decreases-instances l = length l.doc.instances - l.count
