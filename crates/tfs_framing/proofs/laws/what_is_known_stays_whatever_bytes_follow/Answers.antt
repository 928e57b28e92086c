-- Each part of what is known remains when more bytes follow.
use Rattle.tfs_framing.proofs.DecodedLemmas.{decoded_more}
use Rattle.tfs_framing.proofs.KnownLemmas.{sought_more}
use Rattle.tfs_framing.proofs.OpensLemmas.{opens_more}
use Rattle.tfs_framing.proofs.laws.what_is_known_stays_whatever_bytes_follow.Goals as goal

pub returns : goal.returns
returns c = record { sought = sought_more; opens = opens_more; decoded = decoded_more }
