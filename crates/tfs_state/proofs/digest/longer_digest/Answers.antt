-- The digest of a longer text continues from the digest of its prefix.
use Rattle.std.proofs.Common.{◌∙◌, ap, sym, ℕ}
use Rattle.std.specs.List.{fold}
use Rattle.std.proofs.lemmas.Grind.{fold-append}
use Rattle.tfs_state.specs.Digest.{digest_of, digest_with}
use Rattle.tfs_state.proofs.digest.longer_digest.Goals as goal

pub returns : goal.returns
unfolding digest_of
returns c = c.digest_on.ensures ∙ ap (fold digest_with c.args.digest) c.as_bytes.ensures.value
    ∙ ap (λ (n : ℕ). fold digest_with n c.args.rest.now) c.requires
    ∙ sym (fold-append digest_with 14695981039346656037 c.args.text.now c.args.rest.now)
