-- Lemmas: what may move to other threads.
use denote.RattleType.{RattleType}
use denote.Param.Send.{IsSend, IsSync, sendable}
use Rattle.std.proofs.Crossing.{crosses}
use Rattle.std.specs.declared.sync.ledger.Ledger as ledger
use Rattle.tfs_published.specs.declared.naming.Naming as naming
use Rattle.tfs_connections.proofs.accepting.AcceptFault.TheSendSync as fault
use Rattle.tfs_shared.proofs.session.Session.TheSendSync as session
use Rattle.tfs_serve.specs.contracts.member.Member as Member

-- A member may move to another thread if its session and its gate may.
pub member_send : (J G : RattleType) (n : naming.Ghosts J.Denot) (l : ledger.Ghosts J.Denot) → IsSend J → IsSync J → IsSend G
    → IsSend (Member.the_row J G n l)
member_send J G n l s y t = search (sendable, crosses, session.the_send, fault.the_send) depth 20
