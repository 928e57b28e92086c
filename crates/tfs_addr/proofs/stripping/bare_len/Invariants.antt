-- The part before the rest has been read as pieces, and `len` is its length without keys.
use Rattle.std.proofs.Common.{◌≡◌, ℕ, List, length}
use Rattle.std.specs.Prelude.{chars}
use denote.Text.{Utf8}
use denote.Shadow.{shadow}
use Rattle.tfs_addr.proofs.PieceLemmas.{HasRead}
use Rattle.tfs_addr.proofs.stripping.bare_len.Given as goal

abbrev pub invariant-loop-key : goal.invariant-loop-key
invariant-loop-key l =
    shadow (Utf8 l.rest) × ((bare : List ℕ) × HasRead (chars l.text) (chars l.rest) bare × (l.len ≡ length bare))

abbrev pub decreases-loop-key : goal.decreases-loop-key
decreases-loop-key l = length (chars l.rest)
