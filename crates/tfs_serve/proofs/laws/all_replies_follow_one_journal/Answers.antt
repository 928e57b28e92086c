-- All replies of a run follow one journal.
use Rattle.tfs_serve.proofs.Following.{run_follows}
use Rattle.tfs_serve.proofs.laws.all_replies_follow_one_journal.Goals as goal

pub returns : goal.returns
returns g c = record { follow = run_follows g.H.Hold.durable }
