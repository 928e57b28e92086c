-- An empty router has the three routes after they are inserted.
use Rattle.matchit.proofs.OnLiterals.{matchit_on_literals}
use Rattle.tfs_http.proofs.routes.insert_routes.Goals as goal

pub returns : goal.returns
unfolding matchit_on_literals
returns c = (rw ((rw ((rw c.requires at c.in_ok-insert.ensures).1) at c.in_ok-insert-2.ensures).1) at c.in_ok-insert-3.ensures).1
