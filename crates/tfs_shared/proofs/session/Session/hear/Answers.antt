-- A session that hears of nothing new has advanced.
use Rattle.std.proofs.Common.{refl}
use Rattle.tfs_shared.proofs.Signing.{signs_nothing}
use Rattle.tfs_shared.proofs.session.Session.hear.Goals as goal

pub returns-in-None-clause-signed : goal.returns-in-None-clause-signed
returns-in-None-clause-signed g c =
    signs_nothing g.J.Naming.opening c.args.self.now c.args.self.now refl c.is_kept.ensures.begins c.is_kept.ensures.counted
