-- The listing has the texts of the instances before the current one.
use Rattle.std.proofs.Common.{◌≤◌, ◌-◌, length}
use Rattle.tfs_index.specs.Listing.{IsListing}
use Rattle.tfs_index.proofs.listing.Listing.new.Given as goal

abbrev pub invariant-instances : goal.invariant-instances
invariant-instances l = IsListing l.doc l.listing × (length l.listing.ends.items ≤ l.count)

abbrev pub decreases-instances : goal.decreases-instances
decreases-instances l = l.count - length l.listing.ends.items
