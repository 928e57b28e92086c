-- The text is trimmed at the front, then at the back.
use Rattle.std.proofs.Common.{◌∙◌, ap, reverse}
use Rattle.httparse.specs.Grammar.{trim_ows, skip_ows}
use Rattle.tfs_framing.proofs.fields.trim_ows.Goals as goal

pub returns : goal.returns
unfolding trim_ows
returns c = c.skip_last_ows.ensures ∙ ap (λ t. reverse (skip_ows (reverse t))) c.skip_ows.ensures
