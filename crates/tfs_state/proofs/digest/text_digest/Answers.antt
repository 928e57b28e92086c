-- The digest of a text continues from the digest of no bytes.
use Rattle.std.proofs.Common.{◌∙◌, ap}
use Rattle.std.specs.List.{fold}
use Rattle.tfs_state.specs.Digest.{digest_of, digest_with}
use Rattle.tfs_state.proofs.digest.text_digest.Goals as goal

pub returns : goal.returns
unfolding digest_of
returns c = record { value = c.digest_on.ensures ∙ ap (fold digest_with 14695981039346656037) c.as_bytes.ensures.value }
