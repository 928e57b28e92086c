-- The part before the rest has been read as pieces, and kept without its keys.
use Rattle.std.proofs.Common.{◌≡◌, [], length}
use Rattle.std.specs.Prelude.{chars, string_bytes, string_len}
use denote.Text.{Utf8}
use denote.Shadow.{shadow}
use Rattle.tfs_addr.proofs.PieceLemmas.{HasRead}
use Rattle.tfs_addr.proofs.stripping.bare_text.Given as goal

abbrev pub invariant-loop-bare : goal.invariant-loop-bare
invariant-loop-bare l =
    shadow (Utf8 l.rest) × HasRead (chars l.text) (chars l.rest) (string_bytes l.bare)
    × (l.text ≡ [] → string_len l.bare ≡ 0)

abbrev pub decreases-loop-bare : goal.decreases-loop-bare
decreases-loop-bare l = length (chars l.rest)
