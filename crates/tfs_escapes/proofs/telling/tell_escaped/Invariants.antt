-- The appended text and what is left of the escaped text are the whole escaped text.
use Rattle.std.proofs.Common.{◌≡◌, ◌≢◌, [], ◌++◌, length}
use Rattle.std.specs.Prelude.{vec_len}
use Rattle.json.specs.Print.{escape}
use Rattle.tfs_escapes.specs.Room.{HasRoom}
use Rattle.tfs_escapes.proofs.telling.tell_escaped.Given as goal

abbrev pub invariant-runs : goal.invariant-runs
invariant-runs l = HasRoom l.out l.limit × (l.out.items ++ (l.left ++ escape l.rest) ≡ l.initial.out.items ++ escape l.text)
    × (l.left ≢ [] → vec_len l.out ≡ l.limit)

abbrev pub decreases-runs : goal.decreases-runs
decreases-runs l = length l.rest
