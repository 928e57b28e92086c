-- This holds of each reply.
use Rattle.tfs_http.proofs.ReplyLemmas.{reply_has_phrase}
use Rattle.tfs_http.proofs.laws.each_status_has_its_phrase.Goals as goal

pub returns : goal.returns
returns c = record { phrase = reply_has_phrase }
