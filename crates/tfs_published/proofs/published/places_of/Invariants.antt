-- The places so far are those of the first numbers.
use Rattle.std.proofs.Common.{◌≡◌, map, take}
use Rattle.std.specs.List.{range_with_len}
use Rattle.tfs_published.specs.Place.{place_view}
use Rattle.tfs_published.specs.Published.{place_given}
use Rattle.tfs_published.proofs.published.places_of.Given as goal

abbrev pub invariant-loop-number : goal.invariant-loop-number
invariant-loop-number g l = map place_view l.places.items ≡ take l.number (map (place_given l.table.journal) (range_with_len 0 1024))
