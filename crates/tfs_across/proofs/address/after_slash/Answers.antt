-- The text after a slash that it begins with.
use Rattle.std.proofs.Common.{arith}
use Rattle.std.proofs.lemmas.Str.Pattern.{strip_prefix_char}
use Rattle.tfs_across.proofs.AddressLemmas.{stripped}
use Rattle.tfs_across.proofs.address.after_slash.Goals as goal

pub returns : goal.returns
returns c = stripped c.args.text.now _ (strip_prefix_char 47 c.args.text.now _ c.strip_prefix.ensures.cases (omega arith))
