-- A copy of a table has the table's places.
use Rattle.tfs_published.proofs.Places.{same_copy}
use Rattle.tfs_published.proofs.published.Published.of.Goals as goal

pub returns : goal.returns
returns g c = record { value = same_copy _ _ _ _ _ _ c.in_ok-places_of.ensures.value c.in_ok-no_since.ensures.value c.again.ensures.value }
