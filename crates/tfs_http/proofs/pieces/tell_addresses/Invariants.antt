-- The text produced so far and what is left are the whole text.
use Rattle.std.proofs.Common.{◌≡◌, ◌++◌}
use Rattle.tfs_escapes.specs.Room.{HasRoom}
use Rattle.tfs_http.specs.Pieces.{place_text, steps_left}
use Rattle.tfs_http.proofs.pieces.tell_addresses.Given as goal

abbrev pub invariant-places : goal.invariant-places
invariant-places l = HasRoom l.out l.limit × (l.out.items ++ place_text l.version l.left ≡ l.initial.out.items ++ place_text l.version l.place)

abbrev pub decreases-places : goal.decreases-places
decreases-places l = steps_left l.left.later l.left.numbers.now
