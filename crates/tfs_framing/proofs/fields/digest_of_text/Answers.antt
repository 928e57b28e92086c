-- A text of another length isn't the text of a digest.
use Rattle.tfs_framing.proofs.DigestLemmas.{no_digest}
use Rattle.tfs_framing.proofs.fields.digest_of_text.Goals as goal

pub returns-then-value-ne-DIGEST_TEXT_BYTES : goal.returns-then-value-ne-DIGEST_TEXT_BYTES
returns-then-value-ne-DIGEST_TEXT_BYTES c = λ body. no_digest _ body c.if-value-ne-DIGEST_TEXT_BYTES.true
