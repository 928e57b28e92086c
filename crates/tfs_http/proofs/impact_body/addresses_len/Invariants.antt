-- The total and the length of the addresses left are the length of all addresses.
use Rattle.std.proofs.Common.{◌≡◌, ◌≤◌, ◌+◌, ◌*◌, ◌^◌, length, drop}
use Rattle.tfs_http.specs.Pieces.{addresses_left}
use Rattle.tfs_http.proofs.impact_body.addresses_len.Given as goal

abbrev pub invariant-loop-number : goal.invariant-loop-number
invariant-loop-number l =
    (length (addresses_left l.doc l.later l.numbers) ≡ l.total + length (addresses_left l.doc l.begun (drop l.number-index l.numbers)))
    × (l.total ≤ 2 ^ 67 * l.number-index)
