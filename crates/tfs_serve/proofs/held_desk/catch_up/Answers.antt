-- A session that doesn't hear of anything has caught up.
use Rattle.tfs_serve.proofs.Later.{caught_up}
use Rattle.tfs_serve.proofs.held_desk.catch_up.Goals as goal

pub returns-then-not-has_to_hear : goal.returns-then-not-has_to_hear
returns-then-not-has_to_hear g c = caught_up g.J.Naming.opening c.args.session.now c.is_kept.ensures.begins c.is_kept.ensures.counted
