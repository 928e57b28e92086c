-- The session catches up, and makes a step.
use Rattle.tfs_serve.proofs.held_desk.caught_up_reply.Goals as goal

pub returns : goal.returns
returns g c = (c.catch_up.new.session, c.catch_up.ensures, c.reply_to.ensures)
